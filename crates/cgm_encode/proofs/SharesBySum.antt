-- The shares of each sum, as far as a loop over the value lines has come.
use Rattle.std.proofs.Common.{◌≡◌, ◌≢◌, ℕ, ◌==◌, ◌<◌, Bool, true, false, cond, List, [], ◌∷◌, ◌++◌, length, get_or, set, map, refl, sym, ap, ◌∙◌, arith, ⊎_elim}
use Rattle.std.specs.Prelude.{filter}
use Rattle.std.specs.List.{range_with_len}
use Rattle.std.proofs.lemmas.Bool.{cases_eq, eq-eqb, ne_eqb}
use Rattle.std.proofs.lemmas.List.{append-nil, append_assoc, get_or-set_other, get_or-set_same, length-set}
use Rattle.std.proofs.lemmas.List.FromFn.{fill_by_all}
use Rattle.cgm_model.specs.declared.lists.Lists.{Lists}
use Rattle.cgm_model.specs.declared.lists.SumValue.{SumValue}
use Rattle.cgm_model.specs.TruthVariables.{variable_of}
use Rattle.cgm_encode.specs.Quantities.{sum_total}
use Rattle.cgm_encode.specs.Totals.{Share}

-- the shares of a sum in these value lines
abbrev pub shares_in : Lists → ℕ → List SumValue → List Share
shares_in m sum values = map (λ v. (v.k, variable_of m v.of)) (filter (λ v. v.sum == sum) values)

-- for each sum what it has, with what the rest gives it, is all
pub record AreSoFar (m : Lists) (lists : List (List Share)) (rest : List SumValue) : Type 0 where
  pub count : length lists ≡ length m.sums
  pub left : (sum : ℕ) → sum < length m.sums → get_or lists sum [] ++ shares_in m sum rest ≡ shares_in m sum m.values

pub none_so_far : (m : Lists) (lists : List (List Share)) → length lists ≡ length m.sums → ((sum : ℕ) → get_or lists sum [] ≡ []) → AreSoFar m lists m.values
none_so_far m lists count empty = record {
  count = count;
  left = λ sum within. ap (λ (own : List Share). own ++ shares_in m sum m.values) (empty sum);
}

-- the share of one value line, for its sum alone
abbrev own_share : Lists → ℕ → SumValue → List Share
own_share m sum v = cond (v.sum == sum) ((v.k, variable_of m v.of) ∷ []) []

by_test : (m : Lists) (sum : ℕ) (v : SumValue) (rest : List SumValue) (t : Bool) → map (λ (w : SumValue). (w.k, variable_of m w.of)) (cond t (v ∷ filter (λ w. w.sum == sum) rest) (filter (λ w. w.sum == sum) rest)) ≡ cond t ((v.k, variable_of m v.of) ∷ []) [] ++ shares_in m sum rest
by_test m sum v rest true = refl
by_test m sum v rest false = refl

split_first : (m : Lists) (sum : ℕ) (v : SumValue) (rest : List SumValue) → shares_in m sum (v ∷ rest) ≡ own_share m sum v ++ shares_in m sum rest
split_first m sum v rest = by_test m sum v rest (v.sum == sum)

grown : (m : Lists) (lists : List (List Share)) (v : SumValue) (sum : ℕ) → v.sum < length lists → get_or (set lists v.sum (get_or lists v.sum [] ++ (v.k, variable_of m v.of) ∷ [])) sum [] ≡ get_or lists sum [] ++ own_share m sum v
grown m lists v sum within =
    let share : Share = (v.k, variable_of m v.of) in
    let new = get_or lists v.sum [] ++ share ∷ [] in
    ⊎_elim
    (λ (same : sum ≡ v.sum).
    ap (λ (k : ℕ). get_or (set lists v.sum new) k []) same
    ∙ get_or-set_same lists v.sum new [] within
    ∙ ap (λ (k : ℕ). get_or lists k [] ++ share ∷ []) (sym same)
    ∙ ap (λ (t : Bool). get_or lists sum [] ++ cond t (share ∷ []) []) (sym (eq-eqb v.sum sum (sym same))))
    (λ (other : sum ≢ v.sum).
    get_or-set_other lists v.sum sum new [] other
    ∙ sym (append-nil (get_or lists sum []))
    ∙ ap (λ (t : Bool). get_or lists sum [] ++ cond t (share ∷ []) []) (sym (ne_eqb v.sum sum (λ same. other (sym same)))))
    (cases_eq sum v.sum)

pub one_more : (m : Lists) (old new : List (List Share)) (v : SumValue) (rest : List SumValue) (x : ℕ) → v.sum < length m.sums → x ≡ variable_of m v.of → new ≡ set old v.sum (get_or old v.sum [] ++ (v.k, x) ∷ []) → AreSoFar m old (v ∷ rest) → AreSoFar m new rest
one_more m old new v rest x known at change far =
    let count = far.count in
    let there : v.sum < length old = omega arith in
    let is : new ≡ set old v.sum (get_or old v.sum [] ++ (v.k, variable_of m v.of) ∷ []) =
    change ∙ ap (λ (k : ℕ). set old v.sum (get_or old v.sum [] ++ (v.k, k) ∷ [])) at in
    record {
      count = ap (λ (xs : List (List Share)). length xs) is ∙ length-set old v.sum (get_or old v.sum [] ++ (v.k, variable_of m v.of) ∷ []) ∙ count;
      left = λ sum within.
          ap (λ (xs : List (List Share)). get_or xs sum [] ++ shares_in m sum rest) is
          ∙ ap (λ (own : List Share). own ++ shares_in m sum rest) (grown m old v sum there)
          ∙ append_assoc (get_or old sum []) (own_share m sum v) (shares_in m sum rest)
          ∙ ap (λ (ys : List Share). get_or old sum [] ++ ys) (sym (split_first m sum v rest))
          ∙ far.left sum within;
    }

pub all_so_far : (m : Lists) (lists : List (List Share)) → AreSoFar m lists [] → lists ≡ map (λ sum. (sum_total m sum).shares) (range_with_len 0 (length m.sums))
all_so_far m lists far =
    fill_by_all (λ sum. (sum_total m sum).shares) lists (length m.sums) [] far.count
    (λ sum within. sym (append-nil (get_or lists sum [])) ∙ far.left sum within)
