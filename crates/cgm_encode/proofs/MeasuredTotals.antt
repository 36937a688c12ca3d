-- The totals of sums and objectives are small: their terms, their numbers, their measures and their constants.
use Rattle.std.proofs.Common.{◌≡◌, ℕ, ◌+◌, ◌*◌, ◌<◌, ◌≤◌, List, [], ◌∷◌, length, get_or, arith}
use Rattle.std.proofs.Math.Nat.{mul-le-mul_left}
use Rattle.std.specs.Prelude.{ℤ, pos, sum_by, unsigned_abs}
use Rattle.std.specs.List.{All}
use Rattle.std.proofs.lemmas.List.{get_or-replicate}
use Rattle.std.proofs.lemmas.List.Elements.{All-cons, All-head, All-nil, All-replicate, All-tail}
use Rattle.std.proofs.lemmas.List.Sums.{sum_by-cons}
use Rattle.cgm_atom.specs.declared.constraints.Var.{Var}
use Rattle.cgm_atom.specs.Bounds.{Bounds}
use Rattle.cgm_atom.specs.Limits.{AreTermsOf, greatest_size, measure}
use Rattle.cgm_model.specs.declared.lists.Lists.{Lists}
use Rattle.cgm_model.specs.declared.lists.Objective.{Objective}
use Rattle.cgm_model.specs.TruthVariables.{truth_variables}
use Rattle.cgm_model.specs.WellFormed.{IsWellFormedModel}
use Rattle.cgm_evolve.specs.Pairs.{Pair}
use Rattle.cgm_encode.specs.Problem.{bits, box_of_problem, choice_ranges, own_ranges}
use Rattle.cgm_encode.specs.Quantities.{objective_total, sum_total}
use Rattle.cgm_encode.specs.Totals.{Share, Total, combined_terms}
use Rattle.cgm_encode.specs.Variables.{first_objective, first_preference}
use Rattle.cgm_encode.proofs.Activities.{combined_are_terms}
use Rattle.cgm_encode.proofs.CombinedSizes.{IsModest, share_size, terms-measure}
use Rattle.cgm_encode.proofs.KnownParts.{known_parts}
use Rattle.cgm_encode.proofs.KnownSizes.{known_sizes}
use Rattle.cgm_encode.proofs.ProblemSizes.{HasSizes, IsSmallRange, choice_sizes, objective_modest, own_truths, size_at, size_within, sum_modest}
use Rattle.cgm_encode.proofs.RangeCounts.{bits_long}
use Rattle.cgm_encode.proofs.Shares.{objective_shares, sum_shares}

-- the sizes of the numbers of all shares, added up
abbrev pub number_sizes : List Share → ℕ
number_sizes shares = sum_by (λ s. unsigned_abs s.0) shares

-- a total of the first n variables of the box is small
pub record IsSmallTotal (b : Bounds) (n : ℕ) (t : Total) : Type 0 where
  pub terms : AreTermsOf n (combined_terms n t.shares)
  pub numbers : number_sizes t.shares ≤ 1000000000000
  pub coefficients : All (λ u. unsigned_abs u.0 ≤ 1000000000000) (combined_terms n t.shares)
  pub measured : measure b (combined_terms n t.shares) ≤ 1000000000000
  pub constant : unsigned_abs t.constant ≤ 1000000

-- ---- variables of size 1

at_least_once : (c s : ℕ) → 1 ≤ s → c ≤ c * s
at_least_once c s h =
    let scaled : c * 1 ≤ c * s = mul-le-mul_left c h in
    omega arith

module _ (b : Bounds) (n : ℕ) (sized : (x : ℕ) → x < n → 1 ≤ greatest_size b x) where
  coefficients_within : (most : ℕ) (terms : List (ℤ × Var)) → AreTermsOf n terms → measure b terms ≤ most → All (λ t. unsigned_abs t.0 ≤ most) terms
  coefficients_within most [] known few = All-nil (λ (t : ℤ × Var). unsigned_abs t.0 ≤ most)
  coefficients_within most (t ∷ terms) known few =
      let here = at_least_once (unsigned_abs t.0) (greatest_size b t.1.0) (sized t.1.0 known.0) in
      All-cons (λ (u : ℤ × Var). unsigned_abs u.0 ≤ most) t terms (omega arith) (coefficients_within most terms known.3 (omega arith))

  numbers_within : (shares : List Share) → All (λ s. s.1 < n) shares → number_sizes shares ≤ sum_by (share_size b) shares
  numbers_within [] known = omega arith
  numbers_within (s ∷ shares) known =
      let here = at_least_once (unsigned_abs s.0) (greatest_size b s.1) (sized s.1 (All-head (λ (u : Share). u.1 < n) s shares known)) in
      let rest = numbers_within shares (All-tail (λ (u : Share). u.1 < n) s shares known) in
      let numbers = sum_by-cons (λ (u : Share). unsigned_abs u.0) s shares in
      let sizes = sum_by-cons (share_size b) s shares in
      omega arith

-- a box of 0 to 1 for each of the first n variables
bit_size : (n x : ℕ) → x < n → greatest_size (box_of_problem (bits n)) x ≡ 1
bit_size n x l =
    let long = bits_long n in
    size_at (bits n) x (pos 0, pos 1) (omega arith) (get_or-replicate n x (pos 0, pos 1) (pos 0, pos 0) l)

bits_within : (n x : ℕ) → greatest_size (box_of_problem (bits n)) x ≤ 1
bits_within n x = size_within 1 (bits n) (All-replicate (IsSmallRange 1) n (pos 0, pos 1) (omega arith, omega arith)) x

small_total : (b : Bounds) (n : ℕ) (t : Total) → All (λ s. s.1 < n) t.shares → IsModest b 1000000000000 1000000 t → IsModest (box_of_problem (bits n)) 1000000000000 1000000 t → IsSmallTotal b n t
small_total b n t known modest counted =
    let of_bits = box_of_problem (bits n) in
    let terms = combined_terms n t.shares in
    let are = combined_are_terms n n t.shares (omega arith) in
    let sized : (x : ℕ) → x < n → 1 ≤ greatest_size of_bits x = λ x l. let one = bit_size n x l in omega arith in
    let few = counted.shares in
    let numbers = numbers_within of_bits n sized t.shares known in
    let bit_measure = terms-measure of_bits n t.shares in
    let shares = modest.shares in
    let measured = terms-measure b n t.shares in
    record {
      terms = are;
      numbers = omega arith;
      coefficients = coefficients_within of_bits n sized 1000000000000 terms are (omega arith);
      measured = omega arith;
      constant = modest.constant;
    }

looser : (b : Bounds) (t : Total) → IsModest b 1000000000000 0 t → IsModest b 1000000000000 1000000 t
looser b t h = let constant = h.constant in record { shares = h.shares; constant = omega arith }

-- a sum in the box of elements, refinements and variables
pub sum_small : (m : Lists) → ∥ IsWellFormedModel m ∥₁ → (sum : ℕ) → IsSmallTotal (box_of_problem (own_ranges m)) (truth_variables m) (sum_total m sum)
sum_small m well sum =
    let parts = known_parts m well in
    let sizes = known_sizes m well in
    let n = truth_variables m in
    let t = sum_total m sum in
    small_total (box_of_problem (own_ranges m)) n t (sum_shares m parts sum)
    (looser (box_of_problem (own_ranges m)) t (sum_modest m parts sizes (box_of_problem (own_ranges m)) (own_truths m parts sizes) sum))
    (looser (box_of_problem (bits n)) t (sum_modest m parts sizes (box_of_problem (bits n)) (λ x _. bits_within n x) sum))

-- an objective in the box of all variables before the objectives
pub objective_small : (m : Lists) (pairs : List Pair) → ∥ IsWellFormedModel m ∥₁ → (k : ℕ) (d : Objective) → k < length m.objectives → IsSmallTotal (box_of_problem (choice_ranges m)) (first_objective m) (objective_total m pairs (get_or m.objectives k d))
objective_small m pairs well k d l =
    let parts = known_parts m well in
    let sizes = known_sizes m well in
    let n = first_objective m in
    let o = get_or m.objectives k d in
    let known = parts.objectives k d l in
    let of_bits : HasSizes m 1000000000000 (box_of_problem (bits n)) = record {
      truths = λ x _. bits_within n x;
      prefers = λ j _. bits_within n (first_preference m + j);
      all = λ x. let one = bits_within n x in omega arith;
    } in
    small_total (box_of_problem (choice_ranges m)) n (objective_total m pairs o) (objective_shares m parts pairs o known)
    (objective_modest m pairs parts sizes 1000000000000 (omega arith) (box_of_problem (choice_ranges m)) (choice_sizes m parts sizes) o known)
    (objective_modest m pairs parts sizes 1000000000000 (omega arith) (box_of_problem (bits n)) of_bits o known)
