-- One line more in the total of rewards or penalties.
use Rattle.std.proofs.Common.{◌≡◌, ℕ, ◌+◌, ◌<◌, ◌≤◌, List, ℤ, pos, ◌+ℤ◌, length, get_or, drop, ap, sym, ◌∙◌, arith}
use Rattle.std.proofs.lemmas.Int.{ints}
use Rattle.std.proofs.lemmas.List.{at_drop_all, at_drop_more}
use Rattle.cgm_formula.specs.declared.assignment.Assignment.{Assignment}
use Rattle.cgm_model.specs.declared.lists.Weighing.{Weighing}
use Rattle.cgm_model.specs.Sums.{total_by, weight_for}

regrouped : (old n rest whole new : ℤ) → old +ℤ (n +ℤ rest) ≡ whole → new ≡ old +ℤ n → new +ℤ rest ≡ whole
regrouped old n rest whole new e f = omega (arith, ints)

pub total_goes_on : (a : Assignment) (lines : List Weighing) (i : ℕ) (d : Weighing) (old new number whole : ℤ) → i < length lines → old +ℤ total_by (weight_for a) (drop i lines) ≡ whole → number ≡ weight_for a (get_or lines i d) → new ≡ old +ℤ number → new +ℤ total_by (weight_for a) (drop (i + 1) lines) ≡ whole
total_goes_on a lines i d old new number whole l e n f =
    let split = at_drop_more (total_by (weight_for a)) lines i d l in
    let here : old +ℤ (number +ℤ total_by (weight_for a) (drop (i + 1) lines)) ≡ whole = ap (λ (x : ℤ). old +ℤ (x +ℤ total_by (weight_for a) (drop (i + 1) lines))) n ∙ (ap (λ (x : ℤ). old +ℤ x) (sym split) ∙ e) in
    regrouped old number (total_by (weight_for a) (drop (i + 1) lines)) whole new here f

nothing_more : (x rest whole : ℤ) → rest ≡ pos 0 → x +ℤ rest ≡ whole → x ≡ whole
nothing_more x rest whole none e = omega (arith, ints)

pub total_ends : (a : Assignment) (lines : List Weighing) (i : ℕ) (total whole : ℤ) → length lines ≤ i → total +ℤ total_by (weight_for a) (drop i lines) ≡ whole → total ≡ whole
total_ends a lines i total whole l e = nothing_more total (total_by (weight_for a) (drop i lines)) whole (at_drop_all (total_by (weight_for a)) lines i l) e
