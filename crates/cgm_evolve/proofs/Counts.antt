-- Counts over the elements of a model are small.
use Rattle.std.proofs.Common.{ℕ, ◌≤◌, Bool, List, [], ◌∷◌, length, count_by, arith}
use Rattle.std.proofs.lemmas.List.Sums.{count_by-le-length, length-filter}
use Rattle.std.proofs.lemmas.List.FromFn.{length-range_with_len}
use Rattle.cgm_base.specs.declared.limit.Which.TheVariants as limits
use Rattle.cgm_base.specs.Words.{limit_number}
use Rattle.cgm_model.specs.declared.lists.Lists.{Lists}
use Rattle.cgm_model.specs.WellFormed.{IsWellFormedModel}
use Rattle.cgm_evolve.specs.Costs.{elements_of_interest, interests_or}
use Rattle.cgm_model.specs.Leaves.{element_numbers, is_leaf_task, leaf_tasks}

pub elements_few : (m : Lists) (p : ℕ → Bool) → IsWellFormedModel m → count_by p (element_numbers m) ≤ limit_number limits.Statements
elements_few m p w =
    let few = w.limits.elements in
    let most = count_by-le-length p (element_numbers m) in
    let long = length-range_with_len 0 (length m.elements) in
    omega (arith, few, most, long)

leaves_few : (m : Lists) → IsWellFormedModel m → length (leaf_tasks m) ≤ limit_number limits.Statements
leaves_few m w = omega (arith, elements_few m (is_leaf_task m) w, length-filter (is_leaf_task m) (element_numbers m))

pub leaf_tasks_few : (m : Lists) (p : ℕ → Bool) → IsWellFormedModel m → count_by p (leaf_tasks m) ≤ limit_number limits.Statements
leaf_tasks_few m p w = omega (arith, leaves_few m w, count_by-le-length p (leaf_tasks m))

either_few : (ks others : List ℕ) (most : ℕ) → length ks ≤ most → length others ≤ most → length (interests_or ks others) ≤ most
either_few [] others most h g = g
either_few (k ∷ ks) others most h g = h

interests_few : (m : Lists) → IsWellFormedModel m → length m.interests ≤ limit_number limits.Statements
interests_few m w = let few = w.limits.statements in omega arith

pub of_interest_few : (m : Lists) (p : ℕ → Bool) → IsWellFormedModel m → count_by p (elements_of_interest m) ≤ limit_number limits.Statements
of_interest_few m p w =
    let all = either_few m.interests (leaf_tasks m) (limit_number limits.Statements) (interests_few m w) (leaves_few m w) in
    omega (arith, count_by-le-length p (elements_of_interest m), all)
