use Rattle.std.proofs.Common.{◌≡◌, ◌+◌, ◌-◌, ◌^◌, ◌≤◌, length, of_z, to_z, w64, ap, ◌∙◌, arith, rules}
use Rattle.std.specs.Prelude.{ℤ, pos, ◌-ℤ◌}
use Rattle.std.proofs.lemmas.Int.{to_z-of_z}
use Rattle.cgm_atom.specs.declared.constraints.Atom.{Atom}
use Rattle.cgm_atom.specs.Instance.{Instance, var_count}
use Rattle.cgm_atom.specs.Literals.{literal, negated}
use Rattle.cgm_enc_formula.specs.Definitions.{negative, row_where}
use Rattle.cgm_enc_formula.proofs.Defining.{guard_known, named-count, negative_known, row_is, rows_added, rows_after, terms_after}
use Rattle.cgm_enc_formula.proofs.TermMeasures.{denied_within, negative_within, number_within, row_size, terms_within}
use Rattle.cgm_enc_formula.proofs.definitions.define_at_least.Goals as goal

pub add_row-requires-clause-guard : goal.add_row-requires-clause-guard
add_row-requires-clause-guard c =
    let b = c.args.builder.now in
    let count = ap (λ (x : Instance). var_count x) c.in_ok-p.ensures.added ∙ named-count b in
    guard_known b c.new_name.new.builder c.literal.result.var.0 c.in_ok-p.p (ap (λ (a : Atom). a.var.0) c.literal.ensures) c.in_ok-p.ensures.number count

pub add_row-requires-clause-terms : goal.add_row-requires-clause-terms
add_row-requires-clause-terms c =
    let b = c.args.builder.now in
    let count = ap (λ (x : Instance). var_count x) c.in_ok-p.ensures.added ∙ named-count b in
    terms_after b c.new_name.new.builder c.args.terms.now c.in_ok-same_terms.same_terms.items count c.in_ok-same_terms.ensures.items c.requires.known

pub add_row-requires-clause-room : goal.add_row-requires-clause-room
add_row-requires-clause-room c =
    let room : length c.args.builder.now.rows + 2 ≤ 2 ^ 32 - 1 = c.requires.room.rows in
    let same = ap (λ (x : Instance). length x.rows) c.in_ok-p.ensures.added in
    omega arith

pub add_row-requires-2-clause-guard : goal.add_row-requires-2-clause-guard
add_row-requires-2-clause-guard c =
    let b = c.args.builder.now in
    let count = ap (λ (x : Instance). var_count x) c.in_ok-add_row.ensures ∙ ap (λ (x : Instance). var_count x) c.in_ok-p.ensures.added ∙ named-count b in
    guard_known b c.add_row.new.builder c.negated.result.var.0 c.in_ok-p.p (ap (λ (a : Atom). a.var.0) c.negated.ensures) c.in_ok-p.ensures.number count

pub add_row-requires-2-clause-terms : goal.add_row-requires-2-clause-terms
add_row-requires-2-clause-terms c =
    let b = c.args.builder.now in
    let terms = c.args.terms.now in
    let count = ap (λ (x : Instance). var_count x) c.in_ok-add_row.ensures ∙ ap (λ (x : Instance). var_count x) c.in_ok-p.ensures.added ∙ named-count b in
    terms_after b c.add_row.new.builder (negative terms) c.in_ok-negative_terms.negative_terms.items count c.in_ok-negative_terms.ensures (negative_known (var_count b) terms c.requires.known)

pub add_row-requires-2-clause-room : goal.add_row-requires-2-clause-room
add_row-requires-2-clause-room c =
    let room : length c.args.builder.now.rows + 2 ≤ 2 ^ 32 - 1 = c.requires.room.rows in
    let same = ap (λ (x : Instance). length x.rows) c.in_ok-p.ensures.added in
    let more = rows_after c.new_name.new.builder c.add_row.new.builder _ c.in_ok-add_row.ensures in
    omega arith

pub returns-clause-added : goal.returns-clause-added
returns-clause-added c =
    let b = c.args.builder.now in
    let n = var_count b in
    let terms = c.args.terms.now in
    let k = c.args.k in
    let p = c.in_ok-p.ensures.number in
    let same : to_z w64 (of_z w64 k) ≡ k = search rules in
    let second = to_z-of_z w64 c.denied_number.result (search rules) ∙ c.denied_number.ensures ∙ ap (λ (z : ℤ). pos 1 -ℤ z) same in
    rows_added b c.new_name.new.builder c.add_row.new.builder c.add_row-2.new.builder _ _
    (row_where (literal n) terms k) (row_where (negated n) (negative terms) (pos 1 -ℤ k))
    c.in_ok-p.ensures.added c.in_ok-add_row.ensures c.in_ok-add_row-2.ensures
    (row_is c.literal.result (literal n) c.in_ok-same_terms.same_terms.items terms _ k (c.literal.ensures ∙ ap literal p) c.in_ok-same_terms.ensures.items (search rules))
    (row_is c.negated.result (negated n) c.in_ok-negative_terms.negative_terms.items (negative terms) _ (pos 1 -ℤ k) (c.negated.ensures ∙ ap negated p) c.in_ok-negative_terms.ensures second)

pub add_row-requires-clause-size : goal.add_row-requires-clause-size
add_row-requires-clause-size c =
    let b = c.args.builder.now in
    let terms = c.args.terms.now in
    let k = c.args.k in
    let bounds = ap (λ (x : Instance). x.bounds) c.in_ok-p.ensures.added in
    let same : to_z w64 (of_z w64 k) ≡ k = search rules in
    row_size b c.new_name.new.builder terms c.in_ok-same_terms.same_terms.items (to_z w64 (of_z w64 k)) k
    bounds c.in_ok-same_terms.ensures.items same c.recall_well_formed.ensures.proper.same_count
    c.requires.known (terms_within b.bounds terms k c.requires.size) (number_within b.bounds terms k c.requires.size)

pub add_row-requires-2-clause-size : goal.add_row-requires-2-clause-size
add_row-requires-2-clause-size c =
    let b = c.args.builder.now in
    let terms = c.args.terms.now in
    let k = c.args.k in
    let bounds = ap (λ (x : Instance). x.bounds) c.in_ok-add_row.ensures ∙ ap (λ (x : Instance). x.bounds) c.in_ok-p.ensures.added in
    let same : to_z w64 (of_z w64 k) ≡ k = search rules in
    let least = to_z-of_z w64 c.denied_number.result (search rules) ∙ c.denied_number.ensures ∙ ap (λ (z : ℤ). pos 1 -ℤ z) same in
    row_size b c.add_row.new.builder (negative terms) c.in_ok-negative_terms.negative_terms.items (to_z w64 (of_z w64 c.denied_number.result)) (pos 1 -ℤ k)
    bounds c.in_ok-negative_terms.ensures least c.recall_well_formed.ensures.proper.same_count
    (negative_known (var_count b) terms c.requires.known) (negative_within b.bounds terms k c.requires.size) (denied_within b.bounds terms k c.requires.size)
