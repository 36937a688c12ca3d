-- The list of levels: joined it is the changes, and a cut keeps its first part.
use Rattle.std.proofs.Common.{◌≡◌, ℕ, zero, suc, ◌+◌, Bool, true, false, cond, List, [], ◌∷◌, length, take, refl, sym, ap, ◌∙◌, arith}
use Rattle.cgm_trail.specs.declared.changes.Change.{Change}
use Rattle.cgm_trail.specs.Laws.{levels_joined}
use Rattle.cgm_trail.specs.TrailState.{cut_to, is_decision, level_of, levels_of, with_first}

joined_first : (c : Change) (levels : List (List Change)) → levels_joined (with_first c levels) ≡ c ∷ levels_joined levels
joined_first c [] = refl
joined_first c (l ∷ levels) = refl

joined_step : (t : Bool) (levels : List (List Change)) → levels_joined (cond t ([] ∷ levels) levels) ≡ levels_joined levels
joined_step true levels = refl
joined_step false levels = refl

pub levels_are_changes : (changes : List Change) → levels_joined (levels_of changes) ≡ changes
levels_are_changes [] = refl
levels_are_changes (c ∷ changes) =
    joined_step (is_decision c) (with_first c (levels_of changes)) ∙ joined_first c (levels_of changes) ∙ ap (λ cs. c ∷ cs) (levels_are_changes changes)

length_first : (c : Change) (levels : List (List Change)) (n : ℕ) → length levels ≡ n + 1 → length (with_first c levels) ≡ n + 1
length_first c [] n h = absurd (omega arith)
length_first c (l ∷ levels) n h = h

length_step : (t : Bool) (n : ℕ) (levels : List (List Change)) → length levels ≡ n + 1 → length (cond t ([] ∷ levels) levels) ≡ cond t (n + 1) n + 1
length_step true n levels h = omega arith
length_step false n levels h = h

pub levels_are_counted : (changes : List Change) → length (levels_of changes) ≡ level_of changes + 1
levels_are_counted [] = omega arith
levels_are_counted (c ∷ changes) =
    length_step (is_decision c) (level_of changes) (with_first c (levels_of changes)) (length_first c (levels_of changes) (level_of changes) (levels_are_counted changes))

first_kept : (n : ℕ) (c : Change) (levels : List (List Change)) → levels_joined (take (suc n) (with_first c levels)) ≡ c ∷ levels_joined (take (suc n) levels)
first_kept zero c [] = refl
first_kept (suc n) c [] = refl
first_kept n c (l ∷ levels) = refl

kept_zero : (t : Bool) (c : Change) (cut : List Change) (levels : List (List Change)) → cut ≡ levels_joined (take 1 levels) → cond t [] (c ∷ cut) ≡ levels_joined (take 1 (cond t ([] ∷ with_first c levels) (with_first c levels)))
kept_zero true c cut levels h = refl
kept_zero false c cut levels h = ap (λ cs. c ∷ cs) h ∙ sym (first_kept 0 c levels)

kept_suc : (t : Bool) (level : ℕ) (c : Change) (cut : ℕ → List Change) (levels : List (List Change)) → ((l : ℕ) → cut l ≡ levels_joined (take (suc l) levels)) → c ∷ cut (cond t level (suc level)) ≡ levels_joined (take (suc (suc level)) (cond t ([] ∷ with_first c levels) (with_first c levels)))
kept_suc true level c cut levels h = ap (λ cs. c ∷ cs) (h level) ∙ sym (first_kept level c levels)
kept_suc false level c cut levels h = ap (λ cs. c ∷ cs) (h (suc level)) ∙ sym (first_kept (suc level) c levels)

pub cuts_keep_levels : (level : ℕ) (changes : List Change) → cut_to level changes ≡ levels_joined (take (suc level) (levels_of changes))
cuts_keep_levels zero [] = refl
cuts_keep_levels (suc level) [] = refl
cuts_keep_levels zero (c ∷ changes) = kept_zero (is_decision c) c (cut_to zero changes) (levels_of changes) (cuts_keep_levels zero changes)
cuts_keep_levels (suc level) (c ∷ changes) =
    kept_suc (is_decision c) level c (λ l. cut_to l changes) (levels_of changes) (λ l. cuts_keep_levels l changes)
