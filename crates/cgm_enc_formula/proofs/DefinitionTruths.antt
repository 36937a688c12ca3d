-- The clauses and rows of a definition are met exactly where its variable has the truth of the definition.
use Rattle.std.proofs.Common.{◌≡◌, ℕ, ◌+◌, Bool, true, false, not, ◌||◌, ◌&&◌, List, [], ◌∷◌, ◌++◌, map, refl, ap, ◌∙◌, Decides, arith}
use Rattle.std.specs.Prelude.{ℤ, pos, ◌+ℤ◌, ◌-ℤ◌, ◌*ℤ◌, neg_ℤ, int_le}
use Rattle.std.specs.List.{list_all, list_any}
use Rattle.std.proofs.lemmas.Bool.{false≢true, true≢false}
use Rattle.std.proofs.lemmas.Bool.Decides.{Decides-and, Decides-at}
use Rattle.std.proofs.lemmas.Int.{ints}
use Rattle.std.proofs.lemmas.List.Folds.{list_all-append}
use Rattle.cgm_atom.specs.declared.constraints.Clause.{Clause}
use Rattle.cgm_atom.specs.declared.constraints.Row.{Row}
use Rattle.cgm_atom.specs.declared.constraints.Var.{Var}
use Rattle.cgm_atom.specs.Atoms.{activity, clause_true, row_true}
use Rattle.cgm_atom.specs.Bounds.{value_of}
use Rattle.cgm_atom.specs.Literals.{literal, negated, truth_at}
use Rattle.cgm_atom.proofs.ClauseTruths.{negated-true}
use Rattle.cgm_enc_formula.specs.declared.literals.Literal.{Literal}
use Rattle.cgm_enc_formula.specs.Definitions.{AreDefined, Definition, all_of, any_of, at_least, at_most, definition_clauses, definition_rows, definition_true, negative, one_of, pairs, row_where, same_as}
use Rattle.cgm_enc_formula.specs.Literals.{literal_true, opposite}
use Rattle.cgm_enc_formula.specs.Rules.{clauses_from, rows_from}
use Rattle.cgm_enc_formula.proofs.LiteralTruths.{and_true, one_of-true, opposite-true, opposites-all, opposites-any, pairs-true}
use Rattle.cgm_formula.specs.Truth.{same_truth}

-- the clauses and rows are all met
abbrev pub met : List ℤ → List Clause → List Row → Bool
met values clauses rows = list_all (clause_true values) clauses && list_all (row_true values) rows

-- ---- two truths that are the same

same_both : (t s : Bool) → Decides ((not t || s) && (t || not s)) (t ≡ s)
same_both true true = (λ _. refl, λ _. refl)
same_both true false = (λ h. absurd (false≢true h), λ h. absurd (true≢false h))
same_both false true = (λ h. absurd (false≢true h), λ h. absurd (false≢true h))
same_both false false = (λ _. refl, λ _. refl)

turned : (t s : Bool) → (t && s) ≡ (s && t)
turned true true = refl
turned true false = refl
turned false true = refl
turned false false = refl

-- ---- rows

activity-negative : (values : List ℤ) (terms : List (ℤ × Var)) → activity values (negative terms) ≡ neg_ℤ (activity values terms)
activity-negative values [] = refl
activity-negative values (t ∷ terms) =
    let rest = activity-negative values terms in
    let here = negated_product t.0 (value_of values t.1.0) in
    omega (arith, ints)
  where
    negated_product : (c v : ℤ) → neg_ℤ c *ℤ v ≡ neg_ℤ (c *ℤ v)
    negated_product c v = grind (arith, ints)

below : (k a : ℤ) → int_le (neg_ℤ k) (neg_ℤ a) ≡ int_le a k
below k a = grind (arith, ints)

above : (k a : ℤ) → int_le (k +ℤ pos 1) a ≡ not (int_le a k)
above k a = grind (arith, ints)

beneath : (k a : ℤ) → int_le (pos 1 -ℤ k) (neg_ℤ a) ≡ not (int_le k a)
beneath k a = grind (arith, ints)

not_not : (t : Bool) → not (not t) ≡ t
not_not true = refl
not_not false = refl

guarded : (values : List ℤ) (p : ℕ) (terms : List (ℤ × Var)) (least : ℤ) → row_true values (row_where (negated p) terms least) ≡ (truth_at values p || int_le least (activity values terms))
guarded values p terms least =
    ap (λ (t : Bool). not t || int_le least (activity values terms)) (negated-true values p)
    ∙ ap (λ (t : Bool). t || int_le least (activity values terms)) (not_not (truth_at values p))

-- ---- one definition

module _ (values : List ℤ) (p : ℕ) where
  -- one group that says `not p or s`, one that says `p or not s`
  two_ways : (s one other : Bool) → one ≡ (not (truth_at values p) || s) → other ≡ (truth_at values p || not s) → Decides (one && other) (truth_at values p ≡ s)
  two_ways s one other h k =
      Decides-at (one && other) ((not (truth_at values p) || s) && (truth_at values p || not s))
      (ap (λ (t : Bool). t && other) h ∙ ap (λ (t : Bool). (not (truth_at values p) || s) && t) k)
      (same_both (truth_at values p) s)

  all_means : (ls : List Literal) → Decides (list_all (clause_true values) (definition_clauses p (all_of ls))) (truth_at values p ≡ list_all (literal_true values) ls)
  all_means ls =
      let s = list_all (literal_true values) ls in
      let one = list_all (clause_true values) (pairs (negated p) ls) in
      let last = one_of (literal p) (map opposite ls) in
      let other = clause_true values last && true in
      Decides-at (list_all (clause_true values) (definition_clauses p (all_of ls))) (one && other)
      (list_all-append (clause_true values) (pairs (negated p) ls) (last ∷ []))
      (two_ways s one other
      (pairs-true values (negated p) ls ∙ ap (λ (t : Bool). t || s) (negated-true values p))
      (and_true (clause_true values last) ∙ one_of-true values (literal p) (map opposite ls) ∙ ap (λ (t : Bool). truth_at values p || t) (opposites-any values ls)))

  any_means : (ls : List Literal) → Decides (list_all (clause_true values) (definition_clauses p (any_of ls))) (truth_at values p ≡ list_any (literal_true values) ls)
  any_means ls =
      let s = list_any (literal_true values) ls in
      let other = list_all (clause_true values) (pairs (literal p) (map opposite ls)) in
      let last = one_of (negated p) ls in
      let one = clause_true values last && true in
      Decides-at (list_all (clause_true values) (definition_clauses p (any_of ls))) (one && other)
      (list_all-append (clause_true values) (pairs (literal p) (map opposite ls)) (last ∷ []) ∙ turned other one)
      (two_ways s one other
      (and_true (clause_true values last) ∙ one_of-true values (negated p) ls ∙ ap (λ (t : Bool). t || s) (negated-true values p))
      (pairs-true values (literal p) (map opposite ls) ∙ ap (λ (t : Bool). truth_at values p || t) (opposites-all values ls)))

  four : (t f g : Bool) → ((not t || (not f || (g || false))) && ((not t || (f || (not g || false))) && ((t || (f || (g || false))) && ((t || (not f || (not g || false))) && true)))) ≡ ((not t || same_truth f g) && (t || not (same_truth f g)))
  four true true true = refl
  four true true false = refl
  four true false true = refl
  four true false false = refl
  four false true true = refl
  four false true false = refl
  four false false true = refl
  four false false false = refl

  same_means : (f g : Literal) → Decides (list_all (clause_true values) (definition_clauses p (same_as f g))) (truth_at values p ≡ same_truth (literal_true values f) (literal_true values g))
  same_means f g =
      let t = truth_at values p in
      let x = literal_true values f in
      let y = literal_true values g in
      let form : Bool → Bool → Bool → Bool = λ np nx ny. (np || (nx || (y || false))) && ((np || (x || (ny || false))) && ((t || (x || (y || false))) && ((t || (nx || (ny || false))) && true))) in
      let is : list_all (clause_true values) (definition_clauses p (same_as f g)) ≡ form (not t) (not x) (not y) =
      ap (λ (b : Bool). form b (literal_true values (opposite f)) (literal_true values (opposite g))) (negated-true values p)
      ∙ ap (λ (b : Bool). form (not t) b (literal_true values (opposite g))) (opposite-true values f)
      ∙ ap (λ (b : Bool). form (not t) (not x) b) (opposite-true values g) in
      Decides-at (list_all (clause_true values) (definition_clauses p (same_as f g))) ((not t || same_truth x y) && (t || not (same_truth x y)))
      (is ∙ four t x y) (same_both t (same_truth x y))

  at_most_means : (terms : List (ℤ × Var)) (k : ℤ) → Decides (list_all (row_true values) (definition_rows p (at_most terms k))) (truth_at values p ≡ int_le (activity values terms) k)
  at_most_means terms k =
      let s = int_le (activity values terms) k in
      let first = row_where (literal p) (negative terms) (neg_ℤ k) in
      let second = row_where (negated p) terms (k +ℤ pos 1) in
      two_ways s (row_true values first) (row_true values second && true)
      (ap (λ (a : ℤ). not (truth_at values p) || int_le (neg_ℤ k) a) (activity-negative values terms)
      ∙ ap (λ (t : Bool). not (truth_at values p) || t) (below k (activity values terms)))
      (and_true (row_true values second) ∙ guarded values p terms (k +ℤ pos 1) ∙ ap (λ (t : Bool). truth_at values p || t) (above k (activity values terms)))

  at_least_means : (terms : List (ℤ × Var)) (k : ℤ) → Decides (list_all (row_true values) (definition_rows p (at_least terms k))) (truth_at values p ≡ int_le k (activity values terms))
  at_least_means terms k =
      let s = int_le k (activity values terms) in
      let first = row_where (literal p) terms k in
      let second = row_where (negated p) (negative terms) (pos 1 -ℤ k) in
      two_ways s (row_true values first) (row_true values second && true)
      refl
      (and_true (row_true values second) ∙ guarded values p (negative terms) (pos 1 -ℤ k)
      ∙ ap (λ (a : ℤ). truth_at values p || int_le (pos 1 -ℤ k) a) (activity-negative values terms)
      ∙ ap (λ (t : Bool). truth_at values p || t) (beneath k (activity values terms)))

  pub definition_means : (d : Definition) → Decides (met values (definition_clauses p d) (definition_rows p d)) (truth_at values p ≡ definition_true values d)
  definition_means (all_of ls) = Decides-at (met values (definition_clauses p (all_of ls)) []) (list_all (clause_true values) (definition_clauses p (all_of ls))) (and_true (list_all (clause_true values) (definition_clauses p (all_of ls)))) (all_means ls)
  definition_means (any_of ls) = Decides-at (met values (definition_clauses p (any_of ls)) []) (list_all (clause_true values) (definition_clauses p (any_of ls))) (and_true (list_all (clause_true values) (definition_clauses p (any_of ls)))) (any_means ls)
  definition_means (same_as f g) = Decides-at (met values (definition_clauses p (same_as f g)) []) (list_all (clause_true values) (definition_clauses p (same_as f g))) (and_true (list_all (clause_true values) (definition_clauses p (same_as f g)))) (same_means f g)
  definition_means (at_most terms k) = at_most_means terms k
  definition_means (at_least terms k) = at_least_means terms k

-- ---- definitions one after another

exchanged : (a b c d : Bool) → ((a && b) && (c && d)) ≡ ((a && c) && (b && d))
exchanged true true c d = refl
exchanged true false true d = refl
exchanged true false false d = refl
exchanged false b c d = refl

-- parts that stand apart are met apart
pub met-append : (values : List ℤ) (xs ys : List Clause) (rs ss : List Row) → met values (xs ++ ys) (rs ++ ss) ≡ (met values xs rs && met values ys ss)
met-append values xs ys rs ss =
    let all = list_all (clause_true values) in
    let each = list_all (row_true values) in
    ap (λ (t : Bool). t && each (rs ++ ss)) (list_all-append (clause_true values) xs ys)
    ∙ ap (λ (t : Bool). (all xs && all ys) && t) (list_all-append (row_true values) rs ss)
    ∙ exchanged (all xs) (all ys) (each rs) (each ss)

pub definitions_mean : (values : List ℤ) (n : ℕ) (ds : List Definition) → Decides (met values (clauses_from n ds) (rows_from n ds)) (AreDefined values n ds)
definitions_mean values n [] = (λ _. tt, λ _. refl)
definitions_mean values n (d ∷ ds) =
    Decides-at (met values (clauses_from n (d ∷ ds)) (rows_from n (d ∷ ds)))
    (met values (definition_clauses n d) (definition_rows n d) && met values (clauses_from (n + 1) ds) (rows_from (n + 1) ds))
    (met-append values (definition_clauses n d) (clauses_from (n + 1) ds) (definition_rows n d) (rows_from (n + 1) ds))
    (Decides-and (met values (definition_clauses n d) (definition_rows n d)) (met values (clauses_from (n + 1) ds) (rows_from (n + 1) ds))
    (definition_means values n d) (definitions_mean values (n + 1) ds))
