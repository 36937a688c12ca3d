use Rattle.std.proofs.Common.{◌≡◌, ◌∷◌, [], ◌∙◌, ap, List, append_assoc, length, of_z, to_z, w64, subst, sym, arith}
use Rattle.std.specs.Prelude.{ℤ, pos, negsuc, neg_ℤ, ◌-ℤ◌}
use Rattle.std.proofs.lemmas.Int.{fits_signed_from_abs, ints}
use Rattle.std.proofs.lemmas.List.{length_push}
use Rattle.std.proofs.lemmas.Result.{on_ok_weaker}
use Rattle.cgm_atom.specs.declared.constraints.Row.{Row}
use Rattle.cgm_atom.specs.declared.constraints.Var.{Var}
use Rattle.cgm_atom.specs.Building.{IsRowSize, with_row}
use Rattle.cgm_atom.specs.Instance.{Instance, var_count}
use Rattle.cgm_atom.specs.Limits.{AreTermsOf}
use Rattle.cgm_enc_formula.specs.Definitions.{negative}
use Rattle.cgm_enc_formula.proofs.TermMeasures.{opposite_size}
use Rattle.cgm_encode.specs.Building.{with_rows}
use Rattle.cgm_encode.specs.Totals.{row_of}
use Rattle.cgm_encode.proofs.DefiningSizes.{first_row_size, passed, passed_opposite, second_row_size}
use Rattle.cgm_encode.proofs.DefiningTerms.{first_terms, minus_one_nonzero, negative_terms, one_nonzero}
use Rattle.cgm_encode.proofs.rows.add_two_rows.Goals as goal

pub add_row-requires-clause-terms : goal.add_row-requires-clause-terms
add_row-requires-clause-terms c =
    let v = c.args.v in
    let own = c.args.expression.now.terms in
    let others = c.as_slice-2.ensures.value ∙ c.in_ok-negative_terms.ensures ∙ ap negative c.as_slice.ensures in
    let is : c.in_ok-terms.terms.items ≡ (pos 1, record { 0 = v }) ∷ negative own =
    c.in_ok-terms.ensures ∙ ap (λ (ts : List (ℤ × Var)). (pos 1, record { 0 = v }) ∷ ts) others in
    subst (λ (ts : List (ℤ × Var)). AreTermsOf (var_count c.args.builder.now) ts) (sym is)
    (first_terms (var_count c.args.builder.now) v (pos 1) (negative own) c.requires.known one_nonzero (negative_terms v own c.requires.expression.terms))

pub add_row-requires-2-clause-terms : goal.add_row-requires-2-clause-terms
add_row-requires-2-clause-terms c =
    let v = c.args.v in
    let own = c.args.expression.now.terms in
    let is : c.in_ok-terms-2.terms.items ≡ (negsuc 0, record { 0 = v }) ∷ own =
    c.in_ok-terms-2.ensures ∙ ap (λ (ts : List (ℤ × Var)). (negsuc 0, record { 0 = v }) ∷ ts) c.as_slice-3.ensures in
    subst (λ (p : Instance). AreTermsOf (var_count p) c.in_ok-terms-2.terms.items) (sym c.in_ok-add_row.ensures)
    (subst (λ (ts : List (ℤ × Var)). AreTermsOf (var_count c.args.builder.now) ts) (sym is)
    (first_terms (var_count c.args.builder.now) v (negsuc 0) own c.requires.known minus_one_nonzero c.requires.expression.terms))

pub add_row-requires-clause-size : goal.add_row-requires-clause-size
add_row-requires-clause-size c =
    let v = c.args.v in
    let e = c.args.expression.now in
    let b = c.args.builder.now in
    let others = c.as_slice-2.ensures.value ∙ c.in_ok-negative_terms.ensures ∙ ap negative c.as_slice.ensures in
    let is : c.in_ok-terms.terms.items ≡ (pos 1, record { 0 = v }) ∷ negative e.terms =
    c.in_ok-terms.ensures ∙ ap (λ (ts : List (ℤ × Var)). (pos 1, record { 0 = v }) ∷ ts) others in
    subst (λ (k : ℤ). IsRowSize b.bounds (row_of c.in_ok-terms.terms.items k)) (sym (passed e.constant c.requires.expression.constant))
    (subst (λ (ts : List (ℤ × Var)). IsRowSize b.bounds (row_of ts e.constant)) (sym is)
    (first_row_size b.bounds v e (c.recall_well_formed.ensures.sizes v) c.requires.size))

pub add_row-requires-2-clause-size : goal.add_row-requires-2-clause-size
add_row-requires-2-clause-size c =
    let v = c.args.v in
    let e = c.args.expression.now in
    let b = c.args.builder.now in
    let is : c.in_ok-terms-2.terms.items ≡ (negsuc 0, record { 0 = v }) ∷ e.terms =
    c.in_ok-terms-2.ensures ∙ ap (λ (ts : List (ℤ × Var)). (negsuc 0, record { 0 = v }) ∷ ts) c.as_slice-3.ensures in
    subst (λ (k : ℤ). IsRowSize c.add_row.new.builder.bounds (row_of c.in_ok-terms-2.terms.items k)) (sym (passed_opposite e.constant c.requires.expression.constant))
    (subst (λ (p : Instance). IsRowSize p.bounds (row_of c.in_ok-terms-2.terms.items (neg_ℤ e.constant))) (sym c.in_ok-add_row.ensures)
    (subst (λ (ts : List (ℤ × Var)). IsRowSize b.bounds (row_of ts (neg_ℤ e.constant))) (sym is)
    (second_row_size b.bounds v e (c.recall_well_formed.ensures.sizes v) c.requires.size)))

row_is : (one other : List (ℤ × Var)) (j k : ℤ) → one ≡ other → j ≡ k → row_of one j ≡ row_of other k
row_is one other j k terms least = ap (λ (ts : List (ℤ × Var)). row_of ts j) terms ∙ ap (λ (z : ℤ). row_of other z) least

two_rows : (p q r : Instance) (one other first second : Row) → q ≡ with_row p one → r ≡ with_row q other → one ≡ first → other ≡ second → r ≡ with_rows p (first ∷ second ∷ [])
two_rows p q r one other first second e f same_one same_other =
    f ∙ ap (λ (x : Instance). with_row x other) e
    ∙ ap (λ (x : Row). with_row (with_row p x) other) same_one
    ∙ ap (λ (x : Row). with_row (with_row p first) x) same_other
    ∙ ap (λ (rows : List Row). record p { rows = rows }) (append_assoc p.rows (first ∷ []) (second ∷ []))

pub add_row-requires-clause-room : goal.add_row-requires-clause-room
add_row-requires-clause-room c =
    let room = c.requires.room in
    omega arith

pub add_row-requires-2-clause-room : goal.add_row-requires-2-clause-room
add_row-requires-2-clause-room c =
    let room = c.requires.room in
    let more = ap (λ (x : Instance). length x.rows) c.in_ok-add_row.ensures ∙ length_push c.args.builder.now.rows _ in
    omega arith

pub overflow_sub-expression : goal.overflow_sub-expression
overflow_sub-expression c =
    let k = c.args.expression.now.constant in
    let small = c.requires.expression.constant in
    let inner : pos 0 -ℤ to_z w64 (of_z w64 k) ≡ neg_ℤ k = rw (passed k small) (omega (arith, ints)) in
    let same = opposite_size k in
    rw inner (fits_signed_from_abs w64 (neg_ℤ k) (omega arith))

pub returns : goal.returns
returns c =
    let v = c.args.v in
    let e = c.args.expression.now in
    let b = c.args.builder.now in
    let others = c.as_slice-2.ensures.value ∙ c.in_ok-negative_terms.ensures ∙ ap negative c.as_slice.ensures in
    let one : c.in_ok-terms.terms.items ≡ (pos 1, record { 0 = v }) ∷ negative e.terms =
    c.in_ok-terms.ensures ∙ ap (λ (ts : List (ℤ × Var)). (pos 1, record { 0 = v }) ∷ ts) others in
    let other : c.in_ok-terms-2.terms.items ≡ (negsuc 0, record { 0 = v }) ∷ e.terms =
    c.in_ok-terms-2.ensures ∙ ap (λ (ts : List (ℤ × Var)). (negsuc 0, record { 0 = v }) ∷ ts) c.as_slice-3.ensures in
    on_ok_weaker c.add_row-2.result
    (λ last. two_rows b c.add_row.new.builder c.add_row-2.new.builder _ _
    (row_of ((pos 1, record { 0 = v }) ∷ negative e.terms) e.constant) (row_of ((negsuc 0, record { 0 = v }) ∷ e.terms) (neg_ℤ e.constant))
    c.in_ok-add_row.ensures last
    (row_is c.in_ok-terms.terms.items ((pos 1, record { 0 = v }) ∷ negative e.terms) _ e.constant one (passed e.constant c.requires.expression.constant))
    (row_is c.in_ok-terms-2.terms.items ((negsuc 0, record { 0 = v }) ∷ e.terms) _ (neg_ℤ e.constant) other (passed_opposite e.constant c.requires.expression.constant)))
    c.add_row-2.ensures
