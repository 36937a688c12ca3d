-- How large the quantities of a model can be.
use Rattle.std.proofs.Common.{◌≡◌, ℕ, zero, suc, ◌+◌, ◌<◌, ◌≤◌, Bool, true, false, cond, not, List, [], ◌∷◌, ℤ, pos, neg_ℤ, ◌≤ℤ◌, length, get_or, All, ap, arith, subst, ⊎_elim}
use Rattle.std.specs.Prelude.{unsigned_abs}
use Rattle.std.proofs.lemmas.Bool.{cases_lt}
use Rattle.std.proofs.lemmas.Int.{ints}
use Rattle.std.proofs.lemmas.List.{get_or_past, length-map}
use Rattle.std.proofs.lemmas.List.Elements.{All-map}
use Rattle.std.proofs.lemmas.List.Sums.{count_by-le-length}
use Rattle.cgm_formula.specs.declared.assignment.Assignment.{Assignment}
use Rattle.cgm_model.specs.declared.lists.Lists.{Lists}
use Rattle.cgm_model.specs.declared.lists.Preference.{Preference}
use Rattle.cgm_model.specs.declared.lists.Quantity.{Quantity}
use Rattle.cgm_model.specs.declared.lists.Quantity.TheVariants as quantities
use Rattle.cgm_model.specs.Assignment.{Fits, IsWithinBounds}
use Rattle.cgm_base.specs.Place.{EachFrom}
use Rattle.cgm_model.specs.WellFormed.{IsVariable, IsWellFormedModel}
use Rattle.cgm_model.proofs.Sizes.{sums_size, weight_size}
use Rattle.cgm_evolve.specs.Costs.{is_changed, is_new_work, is_true}
use Rattle.cgm_evolve.specs.Pairs.{Pair}
use Rattle.cgm_evolve.proofs.Counts.{elements_few, leaf_tasks_few, of_interest_few}
use Rattle.cgm_obj.specs.Counts.{is_met, unsat_prefs, unsat_reqs, sat_tasks}
use Rattle.cgm_obj.specs.Vector.{objective_number, quantity, vector_of}

-- ---- variables

within_size : (lo hi x : ℤ) (most : ℕ) → unsigned_abs lo ≤ most → unsigned_abs hi ≤ most → lo ≤ℤ x → x ≤ℤ hi → unsigned_abs x ≤ most
within_size lo hi x most low high above below = omega (arith, ints)

each_at : {X : Type 0} (place : ℕ) (P : ℕ → X → Type 0) (xs : List X) (k : ℕ) (d : X) → EachFrom place P xs → k < length xs → P (place + k) (get_or xs k d)
each_at place P [] k d each l = absurd (omega arith)
each_at place P (x ∷ xs) zero d each l = let same : place ≡ place + 0 = omega arith in subst (λ n. P n x) same each.0
each_at place P (x ∷ xs) (suc k) d each l =
    let same : place + 1 + k ≡ place + suc k = omega arith in
    subst (λ n. P n (get_or xs k d)) same (each_at (place + 1) P xs k d each.1 (omega arith))

var_there : (m : Lists) (a : Assignment) (k : ℕ) → IsWellFormedModel m → Fits m a → k < length m.vars → unsigned_abs (get_or a.vars k (pos 0)) ≤ 1000000000
var_there m a k w fits l =
    let v = get_or m.vars k (record { name = []; lo = pos 0; hi = pos 0 }) in
    let is : IsVariable v = w.vars k (record { name = []; lo = pos 0; hi = pos 0 }) l in
    let same : 0 + k ≡ k = omega arith in
    let within : IsWithinBounds a.vars k v = subst (λ n. IsWithinBounds a.vars n v) same (each_at 0 (IsWithinBounds a.vars) m.vars k (record { name = []; lo = pos 0; hi = pos 0 }) fits.bounds l) in
    within_size v.lo v.hi (get_or a.vars k (pos 0)) 1000000000 is.low is.high within.low within.high

var_size : (m : Lists) (a : Assignment) (k : ℕ) → IsWellFormedModel m → Fits m a → unsigned_abs (get_or a.vars k (pos 0)) ≤ 1000000000000
var_size m a k w fits =
    ⊎_elim
    (λ there. let small = var_there m a k w fits there in omega (arith, small))
    (λ past.
    let long = fits.vars in
    let none = ap unsigned_abs (get_or_past a.vars k (pos 0) (omega (arith, long))) in
    omega (arith, none))
    (cases_lt k (length m.vars))

-- ---- counts

prefers_few : (m : Lists) → IsWellFormedModel m → (a : Assignment) → unsat_prefs m a ≤ 1000000
prefers_few m w a =
    let few = w.limits.statements in
    let most = count_by-le-length (λ (p : Preference). not (is_met a p)) m.prefers in
    omega (arith, few, most)

count_size : (n : ℕ) → n ≤ 1000000 → unsigned_abs (pos n) ≤ 1000000000000
count_size n few = omega arith

pub quantity_size : (m : Lists) → IsWellFormedModel m → (pairs : List Pair) (a : Assignment) → Fits m a → (q : Quantity) → unsigned_abs (quantity m pairs a q) ≤ 1000000000000
quantity_size m w pairs a fits (quantities.Var k) = var_size m a k w fits
quantity_size m w pairs a fits (quantities.Sum k) = sums_size m w a k
quantity_size m w pairs a fits quantities.Weight = weight_size m w a
quantity_size m w pairs a fits quantities.UnsatPrefs = count_size (unsat_prefs m a) (prefers_few m w a)
quantity_size m w pairs a fits quantities.UnsatReqs = count_size (unsat_reqs m a) (elements_few m _ w)
quantity_size m w pairs a fits quantities.SatTasks = count_size (sat_tasks m a) (leaf_tasks_few m (is_true a) w)
quantity_size m w pairs a fits quantities.Familiarity = count_size _ (of_interest_few m (is_changed m pairs a) w)
quantity_size m w pairs a fits quantities.Effort = count_size _ (of_interest_few m (is_new_work m pairs a) w)

-- ---- vectors

signed_size : (max : Bool) (x : ℤ) → unsigned_abs x ≤ 1000000000000 → unsigned_abs (cond max (neg_ℤ x) x) ≤ 1000000000000
signed_size true x small = omega (arith, ints)
signed_size false x small = small

pub vector_small : (m : Lists) (pairs : List Pair) (a : Assignment) → IsWellFormedModel m → Fits m a → All (λ number. unsigned_abs number ≤ 1000000000000) (vector_of m pairs a)
unfolding vector_of
vector_small m pairs a w fits =
    All-map (λ number. unsigned_abs number ≤ 1000000000000) (objective_number m pairs a) m.objectives
    (λ k d l. let o = get_or m.objectives k d in signed_size o.max (quantity m pairs a o.of) (quantity_size m w pairs a fits o.of))

pub vector_long : (m : Lists) (pairs : List Pair) (a : Assignment) → length (vector_of m pairs a) ≡ length m.objectives
unfolding vector_of
vector_long m pairs a = length-map m.objectives (objective_number m pairs a)
