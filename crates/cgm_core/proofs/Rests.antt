-- Whether the rest of a list is accepted.
use Rattle.std.proofs.Common.{◌≡◌, ℕ, ◌+◌, ◌≤◌, ◌<◌, ◌↔◌, List, [], ◌∷◌, ◌++◌, drop, length, get_or, sym, ap, subst, ◌∙◌}
use Rattle.std.specs.declared.option.Option.TheVariants.{Some, None}
use Rattle.std.proofs.lemmas.List.{drop_more, drop_all, length-map}
use Rattle.cgm_atom.specs.declared.entries.BadStep.{BadStep}
use Rattle.cgm_atom.specs.declared.entries.Entry.{Entry}
use Rattle.cgm_atom.specs.Acceptance.{IsAcceptedAfter, first_fault}
use Rattle.cgm_atom.specs.Instance.{Instance}
use Rattle.cgm_atom.specs.LogState.{LogState, state_of}
use Rattle.cgm_atom.proofs.StateLemmas.{state_of-entries, state_of-push}
use Rattle.cgm_step.specs.Indexing.{Index, IsLogIndexOf}

next : (p : Instance) (s : LogState) (more : List Entry) (i : ℕ) (e : Entry) → i < length more → e ≡ get_or more i e → drop i more ≡ e ∷ drop (i + 1) more
next p s more i e within at = drop_more more i e within ∙ ap (λ (x : Entry). x ∷ drop (i + 1) more) (sym at)

pub rest_step : (X : Type 0) (p : Instance) (all more : List Entry) (i : ℕ) (e : Entry) → i < length more → e ≡ get_or more i e → first_fault p (state_of all) e ≡ None → X ↔ IsAcceptedAfter p (state_of all) (drop i more) → X ↔ IsAcceptedAfter p (state_of (all ++ e ∷ [])) (drop (i + 1) more)
rest_step X p all more i e within at passes both =
    let here = next p (state_of all) more i e within at in
    let push = state_of-push all e in (
      λ x. subst (λ (s : LogState). IsAcceptedAfter p s (drop (i + 1) more)) (sym push) (subst (λ (xs : List Entry). IsAcceptedAfter p (state_of all) xs) here (both.0 x)).1,
      λ rest. both.1 (subst (λ (xs : List Entry). IsAcceptedAfter p (state_of all) xs) (sym here) (passes, subst (λ (s : LogState). IsAcceptedAfter p s (drop (i + 1) more)) push rest)),
    )

pub rest_fails : (X : Type 0) (p : Instance) (s : LogState) (more : List Entry) (i : ℕ) (e : Entry) (why : BadStep) → i < length more → e ≡ get_or more i e → first_fault p s e ≡ Some why → X ↔ IsAcceptedAfter p s (drop i more) → ¬ X
rest_fails X p s more i e why within at fault both = λ x.
    let passes : first_fault p s e ≡ None = (subst (λ (xs : List Entry). IsAcceptedAfter p s xs) (next p s more i e within at) (both.0 x)).0 in
    absurd (cc)

pub rest_done : (X : Type 0) (p : Instance) (s : LogState) (more : List Entry) (i : ℕ) → length more ≤ i → X ↔ IsAcceptedAfter p s (drop i more) → X
rest_done X p s more i all both = both.1 (subst (λ (xs : List Entry). IsAcceptedAfter p s xs) (sym (drop_all i more all)) tt)

pub counted_index : (index : Index) (log : List Entry) → IsLogIndexOf index log → index.entries ≡ length log
counted_index index log own = ap (λ (i : Index). i.entries) own ∙ ap length (state_of-entries log) ∙ length-map log Some
