-- A naming variable with its clauses or its rows: there is room for them, they have known variables, and together they are the part of the definition.
use Rattle.std.proofs.Common.{◌≡◌, ◌≢◌, ℕ, ◌+◌, ◌<◌, Bool, true, false, cond, List, [], ◌∷◌, ◌++◌, get_or, length, map, refl, sym, ap, ◌∙◌, subst, arith}
use Rattle.std.specs.Prelude.{ℤ, pos, neg_ℤ}
use Rattle.std.specs.List.{All}
use Rattle.std.proofs.lemmas.Int.{ints}
use Rattle.std.proofs.lemmas.List.{append-nil, append_assoc, length_push}
use Rattle.std.proofs.lemmas.List.Elements.{All-append, All-cons, All-map, All-nil, All-weaker}
use Rattle.cgm_atom.specs.declared.constraints.Atom.{Atom}
use Rattle.cgm_atom.specs.declared.constraints.Clause.{Clause}
use Rattle.cgm_atom.specs.declared.constraints.Row.{Row}
use Rattle.cgm_atom.specs.declared.constraints.Var.{Var}
use Rattle.cgm_atom.specs.Adding.{CanTake, with_written}
use Rattle.cgm_atom.specs.Building.{with_row, with_var, without_repeats}
use Rattle.cgm_atom.specs.Instance.{Instance, var_count}
use Rattle.cgm_atom.specs.Limits.{AreTermsOf, IsAbsent, IsAtomOf, IsClauseOf}
use Rattle.cgm_atom.specs.Literals.{clause, literal, negated}
use Rattle.cgm_atom.proofs.Additions.{AreLeft, first_left, left_all, left_last, left_more}
use Rattle.cgm_enc_formula.specs.declared.literals.Literal.{Literal}
use Rattle.cgm_enc_formula.specs.Building.{HasRoomFor, definition_part, with_part}
use Rattle.cgm_enc_formula.specs.Definitions.{Definition, IsDefinitionOf, all_of, any_of, at_least, at_most, definition_clauses, negative, one_of, pairs, row_where, same_as}
use Rattle.cgm_enc_formula.specs.Literals.{atom_of, opposite}
use Rattle.cgm_enc_formula.proofs.Steps.{record_part, same_made}
use Rattle.cgm_enc_formula.proofs.TermOrders.{terms_wider}

abbrev pub named : Instance → Instance
named p = with_var p (pos 0) (pos 1)

pub named-count : (p : Instance) → var_count (named p) ≡ var_count p + 1
named-count p = length_push p.bounds.lower (pos 0)

-- ---- clauses and rows as parts

pub written_part : (p : Instance) (clauses : List Clause) → with_written p clauses ≡ with_part p (record_part 0 clauses [])
written_part p clauses =
    let all = p.clauses ++ map without_repeats clauses in
    same_made p p.bounds.lower (p.bounds.lower ++ []) p.bounds.upper (p.bounds.upper ++ []) all all p.rows (p.rows ++ [])
    (sym (append-nil p.bounds.lower)) (sym (append-nil p.bounds.upper)) refl (sym (append-nil p.rows))

pub defined_by_clauses : (p : Instance) (clauses : List Clause) → with_written (named p) clauses ≡ with_part p (record_part 1 clauses [])
defined_by_clauses p clauses =
    let lower = p.bounds.lower ++ pos 0 ∷ [] in
    let upper = p.bounds.upper ++ pos 1 ∷ [] in
    let all = p.clauses ++ map without_repeats clauses in
    same_made p lower lower upper upper all all p.rows (p.rows ++ []) refl refl refl (sym (append-nil p.rows))

-- ---- known variables

module _ (count : ℕ) where
  pub literal_known : (x : ℕ) → x < count → IsAtomOf count (literal x)
  literal_known x h = (h, omega arith)

  pub negated_known : (x : ℕ) → x < count → IsAtomOf count (negated x)
  negated_known x h = (h, omega arith)

  atom_by : (t : Bool) (x : ℕ) → x < count → IsAtomOf count (cond t (literal x) (negated x))
  atom_by true x h = literal_known x h
  atom_by false x h = negated_known x h

  pub atom_known : (l : Literal) → l.variable < count → IsAtomOf count (atom_of l)
  atom_known l h = atom_by l.is_positive l.variable h

  pub of_one : (a : Atom) → IsAtomOf count a → IsClauseOf count (clause (a ∷ []))
  of_one a h = All-cons (IsAtomOf count) a [] h (All-nil (IsAtomOf count))

  pub of_two : (a b : Atom) → IsAtomOf count a → IsAtomOf count b → IsClauseOf count (clause (a ∷ b ∷ []))
  of_two a b h k = All-cons (IsAtomOf count) a (b ∷ []) h (of_one b k)

  of_three : (a b c : Atom) → IsAtomOf count a → IsAtomOf count b → IsAtomOf count c → IsClauseOf count (clause (a ∷ b ∷ c ∷ []))
  of_three a b c h k l = All-cons (IsAtomOf count) a (b ∷ c ∷ []) h (of_two b c k l)

  pub one_clause : (c : Clause) → IsClauseOf count c → All (IsClauseOf count) (c ∷ [])
  one_clause c h = All-cons (IsClauseOf count) c [] h (All-nil (IsClauseOf count))

  pairs_known : (a : Atom) (ls : List Literal) → IsAtomOf count a → All (λ l. l.variable < count) ls → All (IsClauseOf count) (pairs a ls)
  pairs_known a ls h known =
      All-map (IsClauseOf count) (λ l. clause (a ∷ atom_of l ∷ [])) ls (λ k d l. of_two a (atom_of (get_or ls k d)) h (atom_known (get_or ls k d) (known k d l)))

  one_of_known : (a : Atom) (ls : List Literal) → IsAtomOf count a → All (λ l. l.variable < count) ls → IsClauseOf count (one_of a ls)
  one_of_known a ls h known =
      All-cons (IsAtomOf count) a (map atom_of ls) h
      (All-map (IsAtomOf count) atom_of ls (λ k d l. atom_known (get_or ls k d) (known k d l)))

  opposites_known : (ls : List Literal) → All (λ l. l.variable < count) ls → All (λ l. l.variable < count) (map opposite ls)
  opposites_known ls known = All-map (λ l. l.variable < count) opposite ls known

more_known : (n : ℕ) (ls : List Literal) → All (λ l. l.variable < n) ls → All (λ l. l.variable < n + 1) ls
more_known n ls known = All-weaker (λ (l : Literal). l.variable < n) (λ l. l.variable < n + 1) (λ l h. omega arith) ls known

pub clauses_known : (n : ℕ) (d : Definition) → IsDefinitionOf n d → All (IsClauseOf (n + 1)) (definition_clauses n d)
clauses_known n (all_of ls) known =
    let more = more_known n ls known in
    All-append (IsClauseOf (n + 1)) (pairs (negated n) ls) (one_of (literal n) (map opposite ls) ∷ [])
    (pairs_known (n + 1) (negated n) ls (negated_known (n + 1) n (omega arith)) more)
    (one_clause (n + 1) (one_of (literal n) (map opposite ls))
    (one_of_known (n + 1) (literal n) (map opposite ls) (literal_known (n + 1) n (omega arith)) (opposites_known (n + 1) ls more)))
clauses_known n (any_of ls) known =
    let more = more_known n ls known in
    All-append (IsClauseOf (n + 1)) (pairs (literal n) (map opposite ls)) (one_of (negated n) ls ∷ [])
    (pairs_known (n + 1) (literal n) (map opposite ls) (literal_known (n + 1) n (omega arith)) (opposites_known (n + 1) ls more))
    (one_clause (n + 1) (one_of (negated n) ls) (one_of_known (n + 1) (negated n) ls (negated_known (n + 1) n (omega arith)) more))
clauses_known n (same_as f g) known =
    let known_f = known.0 in
    let known_g = known.1 in
    let count = n + 1 in
    let p = literal_known count n (omega arith) in
    let not_p = negated_known count n (omega arith) in
    let one = atom_known count f (omega arith) in
    let other = atom_known count g (omega arith) in
    let not_one = atom_known count (opposite f) (omega arith) in
    let not_other = atom_known count (opposite g) (omega arith) in
    let first = clause (negated n ∷ atom_of (opposite f) ∷ atom_of g ∷ []) in
    let second = clause (negated n ∷ atom_of f ∷ atom_of (opposite g) ∷ []) in
    let third = clause (literal n ∷ atom_of f ∷ atom_of g ∷ []) in
    let fourth = clause (literal n ∷ atom_of (opposite f) ∷ atom_of (opposite g) ∷ []) in
    All-cons (IsClauseOf count) first (second ∷ third ∷ fourth ∷ []) (of_three count (negated n) (atom_of (opposite f)) (atom_of g) not_p not_one other)
    (All-cons (IsClauseOf count) second (third ∷ fourth ∷ []) (of_three count (negated n) (atom_of f) (atom_of (opposite g)) not_p one not_other)
    (All-cons (IsClauseOf count) third (fourth ∷ []) (of_three count (literal n) (atom_of f) (atom_of g) p one other)
    (one_clause count fourth (of_three count (literal n) (atom_of (opposite f)) (atom_of (opposite g)) p not_one not_other))))
clauses_known n (at_most terms k) known = All-nil (IsClauseOf (n + 1))
clauses_known n (at_least terms k) known = All-nil (IsClauseOf (n + 1))

pub clauses_fit : (p : Instance) (d : Definition) → IsDefinitionOf (var_count p) d → HasRoomFor p (definition_part (var_count p) d) → CanTake (named p) (definition_clauses (var_count p) d)
clauses_fit p d known h =
    let room = h.clauses in
    record {
      known = subst (λ (k : ℕ). All (IsClauseOf k) (definition_clauses (var_count p) d)) (sym (named-count p)) (clauses_known (var_count p) d known);
      room = omega arith;
    }

-- ---- terms with their signs changed

not_zero : (c : ℤ) → c ≢ pos 0 → neg_ℤ c ≢ pos 0
not_zero c h e = h (omega (arith, ints))

absent_negative : (x : ℕ) (terms : List (ℤ × Var)) → IsAbsent x terms → IsAbsent x (negative terms)
absent_negative x [] h = tt
absent_negative x (t ∷ terms) h = (h.0, absent_negative x terms h.1)

pub negative_known : (count : ℕ) (terms : List (ℤ × Var)) → AreTermsOf count terms → AreTermsOf count (negative terms)
negative_known count [] h = tt
negative_known count (t ∷ terms) h = (h.0, not_zero t.0 h.1, absent_negative t.1.0 terms h.2, negative_known count terms h.3)

-- the terms are known behind the variable too
pub terms_after : (old new : Instance) (terms same : List (ℤ × Var)) → var_count new ≡ var_count old + 1 → same ≡ terms → AreTermsOf (var_count old) terms → AreTermsOf (var_count new) same
terms_after old new terms same count e h =
    subst (λ (ts : List (ℤ × Var)). AreTermsOf (var_count new) ts) (sym e) (terms_wider (var_count old) (var_count new) (omega arith) terms h)

-- ---- the clauses of a definition, one after another

pub three_is : (a b c x y z : Atom) → a ≡ x → b ≡ y → c ≡ z → clause (a ∷ b ∷ c ∷ []) ≡ clause (x ∷ y ∷ z ∷ [])
three_is a b c x y z first second third =
    ap (λ (w : Atom). clause (w ∷ b ∷ c ∷ [])) first ∙ ap (λ (w : Atom). clause (x ∷ w ∷ c ∷ [])) second ∙ ap (λ (w : Atom). clause (x ∷ y ∷ w ∷ [])) third

-- all of them are left where the variable alone was added
pub all_left : (old p : Instance) (d : Definition) → p ≡ named old → IsDefinitionOf (var_count old) d → HasRoomFor old (definition_part (var_count old) d) → AreLeft p (definition_clauses (var_count old) d) p (definition_clauses (var_count old) d)
all_left old p d e known h =
    left_all p (definition_clauses (var_count old) d) (subst (λ (q : Instance). CanTake q (definition_clauses (var_count old) d)) (sym e) (clauses_fit old d known h))

pub clauses_added : (old p q : Instance) (clauses : List Clause) → p ≡ named old → q ≡ with_written p clauses → q ≡ with_part old (record_part 1 clauses [])
clauses_added old p q clauses e is = is ∙ ap (λ (x : Instance). with_written x clauses) e ∙ defined_by_clauses old clauses

-- of two literals
module _ (old p : Instance) (f g : Literal) (e : p ≡ named old) (known_f : f.variable < var_count old) (known_g : g.variable < var_count old) (room : HasRoomFor old (definition_part (var_count old) (same_as f g))) where
  abbrev pub first : Clause
  first = clause (negated (var_count old) ∷ atom_of (opposite f) ∷ atom_of g ∷ [])

  abbrev pub second : Clause
  second = clause (negated (var_count old) ∷ atom_of f ∷ atom_of (opposite g) ∷ [])

  abbrev pub third : Clause
  third = clause (literal (var_count old) ∷ atom_of f ∷ atom_of g ∷ [])

  abbrev pub fourth : Clause
  fourth = clause (literal (var_count old) ∷ atom_of (opposite f) ∷ atom_of (opposite g) ∷ [])

  abbrev all : List Clause
  all = first ∷ second ∷ third ∷ fourth ∷ []

  at_first : AreLeft p all p all
  at_first = all_left old p (same_as f g) e (known_f, known_g) room

  pub first_fits : CanTake p (first ∷ [])
  first_fits = first_left p p all (first ∷ []) (second ∷ third ∷ fourth ∷ []) at_first

  after_first : (q : Instance) → q ≡ with_written p (first ∷ []) → AreLeft p all q (second ∷ third ∷ fourth ∷ [])
  after_first q is = left_more p p q all (first ∷ []) (second ∷ third ∷ fourth ∷ []) at_first is

  pub second_fits : (q : Instance) → q ≡ with_written p (first ∷ []) → CanTake q (second ∷ [])
  second_fits q is = first_left p q all (second ∷ []) (third ∷ fourth ∷ []) (after_first q is)

  after_second : (q r : Instance) → q ≡ with_written p (first ∷ []) → r ≡ with_written q (second ∷ []) → AreLeft p all r (third ∷ fourth ∷ [])
  after_second q r is next = left_more p q r all (second ∷ []) (third ∷ fourth ∷ []) (after_first q is) next

  pub third_fits : (q r : Instance) → q ≡ with_written p (first ∷ []) → r ≡ with_written q (second ∷ []) → CanTake r (third ∷ [])
  third_fits q r is next = first_left p r all (third ∷ []) (fourth ∷ []) (after_second q r is next)

  after_third : (q r s : Instance) → q ≡ with_written p (first ∷ []) → r ≡ with_written q (second ∷ []) → s ≡ with_written r (third ∷ []) → AreLeft p all s (fourth ∷ [])
  after_third q r s is next more = left_more p r s all (third ∷ []) (fourth ∷ []) (after_second q r is next) more

  pub fourth_fits : (q r s : Instance) → q ≡ with_written p (first ∷ []) → r ≡ with_written q (second ∷ []) → s ≡ with_written r (third ∷ []) → CanTake s (fourth ∷ [])
  fourth_fits q r s is next more = (after_third q r s is next more).room

  pub same_added : (q r s t : Instance) → q ≡ with_written p (first ∷ []) → r ≡ with_written q (second ∷ []) → s ≡ with_written r (third ∷ []) → t ≡ with_written s (fourth ∷ []) → t ≡ with_part old (definition_part (var_count old) (same_as f g))
  same_added q r s t is next more last =
      clauses_added old p t all e (left_last p s t all (fourth ∷ []) (after_third q r s is next more) last)

-- ---- the rows of a comparison, one after another

-- the variable of an atom is known where the new one is
pub guard_known : (old new : Instance) (x n : ℕ) → x ≡ n → n ≡ var_count old → var_count new ≡ var_count old + 1 → x < var_count new
guard_known old new x n is number count = omega arith

pub row_is : (a b : Atom) (s t : List (ℤ × Var)) (x y : ℤ) → a ≡ b → s ≡ t → x ≡ y → row_where a s x ≡ row_where b t y
row_is a b s t x y guard terms least =
    ap (λ (z : Atom). row_where z s x) guard ∙ ap (λ (z : List (ℤ × Var)). row_where b z x) terms ∙ ap (λ (z : ℤ). row_where b t z) least

pub rows_added : (old p q r : Instance) (one other first second : Row) → p ≡ named old → q ≡ with_row p one → r ≡ with_row q other → one ≡ first → other ≡ second → r ≡ with_part old (record_part 1 [] (first ∷ second ∷ []))
rows_added old p q r one other first second e is next same_one same_other =
    let lower = old.bounds.lower ++ pos 0 ∷ [] in
    let upper = old.bounds.upper ++ pos 1 ∷ [] in
    next
    ∙ ap (λ (x : Instance). with_row x other) (is ∙ ap (λ (x : Instance). with_row x one) e)
    ∙ ap (λ (x : Row). with_row (with_row (named old) x) other) same_one
    ∙ ap (λ (x : Row). with_row (with_row (named old) first) x) same_other
    ∙ same_made old lower lower upper upper old.clauses (old.clauses ++ []) ((old.rows ++ first ∷ []) ++ second ∷ []) (old.rows ++ first ∷ second ∷ [])
    refl refl (sym (append-nil old.clauses)) (append_assoc old.rows (first ∷ []) (second ∷ []))

pub rows_after : (p q : Instance) (r : Row) → q ≡ with_row p r → length q.rows ≡ length p.rows + 1
rows_after p q r e = ap (λ (x : Instance). length x.rows) e ∙ length_push p.rows r
