-- The rules of a well-formed model: a rule's truth doesn't depend on its place, and the sums of its terms are small.
use Rattle.std.proofs.Common.{◌≡◌, ℕ, zero, suc, ◌+◌, ◌*◌, ◌<◌, ◌≤◌, true, List, [], ◌∷◌, ◌++◌, ℤ, pos, ◌≤ℤ◌, length, map, get_or, sum, sym, ◌∙◌, ap, subst, All, arith}
use Rattle.std.specs.Prelude.{unsigned_abs, nat_le}
use Rattle.std.specs.List.{list_all, AllByRecursion}
use Rattle.std.proofs.lemmas.Bool.{and_parts, leb-true}
use Rattle.std.proofs.lemmas.Int.{ints}
use Rattle.std.proofs.Math.Nat.{mul-le-mul}
use Rattle.std.proofs.lemmas.List.Sums.{sum_by-cons, get_or-le-sum_by}
use Rattle.std.proofs.lemmas.List.Elements.{All-from_recursion}
use Rattle.cgm_base.specs.declared.limit.Which.TheVariants as limits
use Rattle.cgm_base.specs.Words.{limit_number}
use Rattle.cgm_formula.specs.declared.assignment.Assignment.{Assignment}
use Rattle.cgm_formula.specs.declared.formula.Formula.{Formula}
use Rattle.cgm_formula.specs.declared.formula.Formula.TheVariants.{Name, Not, And, Or, Implies, Iff, AtMost, AtLeast, Equal}
use Rattle.cgm_formula.specs.declared.formula.Linear.{Linear}
use Rattle.cgm_formula.specs.declared.formula.Number.{Number}
use Rattle.cgm_formula.specs.declared.formula.Number.TheVariants as number
use Rattle.cgm_formula.specs.Nodes.{comparisons, comparisons_step, node_count, node_step, lists_joined}
use Rattle.cgm_formula.specs.Reading.{number_in}
use Rattle.cgm_formula.specs.Sizes.{size, IsSmall, AreSmallIn}
use Rattle.cgm_formula.proofs.Folds.{fold-Name, fold-Not, fold-And, fold-Or, fold-Implies, fold-Iff, fold-AtMost, fold-AtLeast, fold-Equal}
use Rattle.cgm_formula.proofs.Induction.{by_cases}
use Rattle.cgm_model.specs.declared.lists.Lists.{Lists}
use Rattle.cgm_model.specs.declared.lists.Rule.{Rule}
use Rattle.cgm_model.specs.declared.lists.Rule.TheVariants as rules
use Rattle.cgm_model.specs.declared.lists.Variable.{Variable}
use Rattle.cgm_model.specs.Assignment.{Fits, IsWithinBounds}
use Rattle.cgm_model.specs.Formulas.{formula_of, every_linear, has_small_terms, node_total}
use Rattle.cgm_base.specs.Place.{EachFrom}
use Rattle.cgm_model.specs.Realization.{KeepsRule}
use Rattle.cgm_model.specs.Sums.{sums_of}
use Rattle.cgm_model.specs.WellFormed.{IsVariable, IsWellFormedModel}
use Rattle.cgm_model.proofs.Sizes.{sums_size}

pub keeps_anywhere : (a : Assignment) (sums : List ℤ) (i j : ℕ) (r : Rule) → KeepsRule a sums i r → KeepsRule a sums j r
keeps_anywhere a sums i j (rules.Positive name f) h = h
keeps_anywhere a sums i j (rules.Negative name f) h = h
keeps_anywhere a sums i j (rules.Require f) h = h

-- ---- the value of a variable or sum

-- the greatest size of a sum; a variable's is less
abbrev most_number : ℕ
most_number = 1000000000000

between : (lo hi z : ℤ) → unsigned_abs lo ≤ limit_number limits.VariableBound → unsigned_abs hi ≤ limit_number limits.VariableBound → lo ≤ℤ z → z ≤ℤ hi → unsigned_abs z ≤ limit_number limits.VariableBound
between lo hi z a b low high = grind (arith, ints)

within_from : (vars : List Variable) (values all : List ℤ) (place k : ℕ) → ((j : ℕ) → get_or all (place + j) (pos 0) ≡ get_or values j (pos 0)) → length values ≡ length vars → All IsVariable vars → EachFrom place (IsWithinBounds all) vars → unsigned_abs (get_or values k (pos 0)) ≤ limit_number limits.VariableBound
within_from vars [] all place k same long good each = omega arith
within_from [] (z ∷ values) all place k same long good each = absurd (omega arith)
within_from (v ∷ vars) (z ∷ values) all place zero same long good each =
    let is : get_or all (place + 0) (pos 0) ≡ z = same 0 in
    let here = good 0 v (omega arith) in
    let at : get_or all place (pos 0) ≡ z = ap (λ i. get_or all i (pos 0)) (let e : place ≡ place + 0 = omega arith in e) ∙ is in
    let low : v.lo ≤ℤ z = subst (λ x. v.lo ≤ℤ x) at each.0.low in
    let high : z ≤ℤ v.hi = subst (λ x. x ≤ℤ v.hi) at each.0.high in
    between v.lo v.hi z here.low here.high low high
within_from (v ∷ vars) (z ∷ values) all place (suc k) same long good each =
    within_from vars values all (place + 1) k (λ j. ap (λ i. get_or all i (pos 0)) (let e : place + 1 + j ≡ place + suc j = omega arith in e) ∙ same (suc j)) (omega arith) (λ i d l. good (suc i) d (omega arith)) each.1

number_small : (m : Lists) (a : Assignment) (sums : List ℤ) → IsWellFormedModel m → Fits m a → sums ≡ sums_of m a → (x : Number) → unsigned_abs (number_in a sums x) ≤ most_number
number_small m a sums w fits is (number.Var k) =
    let small = within_from m.vars a.vars a.vars 0 k (λ j. ap (λ i. get_or a.vars i (pos 0)) (let e : 0 + j ≡ j = omega arith in e)) fits.vars w.vars fits.bounds in
    omega (arith, small)
number_small m a sums w fits is (number.Sum k) =
    subst (λ (zs : List ℤ). unsigned_abs (get_or zs k (pos 0)) ≤ most_number) (sym is) (sums_size m w a k)

-- ---- the size of a linear expression

abbrev most : ℕ
most = 1000000 * 1000000000000

size_small : (numbers : Number → ℤ) (terms : List (ℤ × Number)) → ((x : Number) → unsigned_abs (numbers x) ≤ most_number) → list_all (λ t. nat_le (unsigned_abs t.0) 1000000) terms ≡ true → size numbers terms ≤ length terms * most
size_small numbers [] small e = omega arith
size_small numbers (t ∷ terms) small e =
    let parts = and_parts (nat_le (unsigned_abs t.0) 1000000) (list_all (λ u. nat_le (unsigned_abs u.0) 1000000) terms) e in
    let here : unsigned_abs t.0 * unsigned_abs (numbers t.1) ≤ most = mul-le-mul (leb-true (unsigned_abs t.0) 1000000 parts.0) (small t.1) in
    let later = size_small numbers terms small parts.1 in
    omega (arith, here, later)

-- ---- a comparison has no more terms than the formula has nodes

abbrev IsCounted : ℕ → Linear × ℤ → Type 0
IsCounted count c = length c.0.terms ≤ count

abbrev AreCounted : Formula → Type 0
AreCounted f = AllByRecursion (IsCounted (node_count f)) (comparisons f)

each_counted : (count more : ℕ) → count ≤ more → (cs : List (Linear × ℤ)) → AllByRecursion (IsCounted count) cs → AllByRecursion (IsCounted more) cs
each_counted count more l [] h = tt
each_counted count more l (c ∷ cs) h = (let here = h.0 in omega arith, each_counted count more l cs h.1)

join : (count : ℕ) (cs ds : List (Linear × ℤ)) → AllByRecursion (IsCounted count) cs → AllByRecursion (IsCounted count) ds → AllByRecursion (IsCounted count) (cs ++ ds)
join count [] ds h k = k
join count (c ∷ cs) ds h k = (h.0, join count cs ds h.1 k)

sum_first : (n : ℕ) (ns : List ℕ) → sum (n ∷ ns) ≡ n + sum ns
sum_first n ns = sum_by-cons (λ x. x) n ns

joined_counted : (count : ℕ) (fs : List Formula) → sum (map node_count fs) ≤ count → AllByRecursion AreCounted fs → AllByRecursion (IsCounted count) (lists_joined (map comparisons fs))
joined_counted count [] l h = tt
joined_counted count (f ∷ fs) l h =
    let total : sum (map node_count (f ∷ fs)) ≡ node_count f + sum (map node_count fs) = sum_first (node_count f) (map node_count fs) in
    join count (comparisons f) (lists_joined (map comparisons fs))
    (each_counted (node_count f) count (omega (arith, total)) (comparisons f) h.0)
    (joined_counted count fs (omega (arith, total)) h.1)

parts_counted : (f : Formula) (fs : List Formula) → comparisons f ≡ lists_joined (map comparisons fs) → node_count f ≡ 1 + sum (map node_count fs) → AllByRecursion AreCounted fs → AreCounted f
parts_counted f fs cs ns h =
    subst (AllByRecursion (IsCounted (node_count f))) (sym cs) (joined_counted (node_count f) fs (omega (arith, ns)) h)

both_counted : (h f g : Formula) → comparisons h ≡ comparisons f ++ comparisons g → node_count h ≡ 1 + node_count f + node_count g → AreCounted f → AreCounted g → AreCounted h
both_counted h f g cs ns a b =
    subst (AllByRecursion (IsCounted (node_count h))) (sym cs)
    (join (node_count h) (comparisons f) (comparisons g)
    (each_counted (node_count f) (node_count h) (omega (arith, ns)) (comparisons f) a)
    (each_counted (node_count g) (node_count h) (omega (arith, ns)) (comparisons g) b))

one_counted : (h : Formula) (l : Linear) (k : ℤ) → comparisons h ≡ (l, k) ∷ [] → node_count h ≡ 1 + length l.terms → AreCounted h
one_counted h l k cs ns =
    subst (AllByRecursion (IsCounted (node_count h))) (sym cs) (omega (arith, ns), tt)

counted : (f : Formula) → AreCounted f
counted = by_cases AreCounted (record {
  name = λ name. subst (AllByRecursion (IsCounted (node_count (Name name)))) (sym (fold-Name comparisons_step name)) tt;
  negation = λ part h.
      let ns = fold-Not node_step part in
      subst (AllByRecursion (IsCounted (node_count (Not part)))) (sym (fold-Not comparisons_step part))
      (each_counted (node_count part) (node_count (Not part)) (omega (arith, ns)) (comparisons part) h);
  conjunction = λ parts h. parts_counted (And parts) parts (fold-And comparisons_step parts) (fold-And node_step parts) h;
  disjunction = λ parts h. parts_counted (Or parts) parts (fold-Or comparisons_step parts) (fold-Or node_step parts) h;
  implication = λ f g a b. both_counted (Implies f g) f g (fold-Implies comparisons_step f g) (fold-Implies node_step f g) a b;
  equivalence = λ f g a b. both_counted (Iff f g) f g (fold-Iff comparisons_step f g) (fold-Iff node_step f g) a b;
  at_most = λ l k. one_counted (AtMost l k) l k (fold-AtMost comparisons_step l k) (fold-AtMost node_step l k);
  at_least = λ l k. one_counted (AtLeast l k) l k (fold-AtLeast comparisons_step l k) (fold-AtLeast node_step l k);
  equality = λ l k. one_counted (Equal l k) l k (fold-Equal comparisons_step l k) (fold-Equal node_step l k);
})

-- ---- the rules of a model

each_small : (numbers : Number → ℤ) (count : ℕ) (cs : List (Linear × ℤ)) → ((x : Number) → unsigned_abs (numbers x) ≤ most_number) → count ≤ 200000 → AllByRecursion (IsCounted count) cs → list_all (λ c. has_small_terms c.0) cs ≡ true → AllByRecursion (λ c. IsSmall numbers c.0) cs
each_small numbers count [] small l h e = tt
each_small numbers count (c ∷ cs) small l h e =
    let parts = and_parts (has_small_terms c.0) (list_all (λ d. has_small_terms d.0) cs) e in
    let size_is = size_small numbers c.0.terms small parts.0 in
    let scaled : length c.0.terms * most ≤ 200000 * most = mul-le-mul (let here = h.0 in let x : length c.0.terms ≤ 200000 = omega arith in x) (let y : most ≤ most = omega arith in y) in
    (omega (arith, size_is, scaled), each_small numbers count cs small l h.1 parts.1)

formula_small : (numbers : Number → ℤ) (f : Formula) → ((x : Number) → unsigned_abs (numbers x) ≤ most_number) → node_count f ≤ 200000 → every_linear has_small_terms f ≡ true → AreSmallIn numbers f
formula_small numbers f small l e =
    All-from_recursion (λ c. IsSmall numbers c.0) (comparisons f) (each_small numbers (node_count f) (comparisons f) small l (counted f) e)

nodes_of_one : (rs : List Rule) (k : ℕ) (d : Rule) → k < length rs → node_count (formula_of (get_or rs k d)) ≤ node_total rs
nodes_of_one rs k d l = get_or-le-sum_by (λ r. node_count (formula_of r)) rs k d l

pub rules_small : (m : Lists) → IsWellFormedModel m → (a : Assignment) (sums : List ℤ) → Fits m a → sums ≡ sums_of m a → All (λ r. AreSmallIn (number_in a sums) (formula_of r)) m.rules
rules_small m w a sums fits is k d l =
    formula_small (number_in a sums) (formula_of (get_or m.rules k d)) (number_small m a sums w fits is)
    (omega (arith, nodes_of_one m.rules k d l, w.limits.formula_nodes)) (w.rules k d l).small
