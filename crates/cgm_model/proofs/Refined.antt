-- The refinements of an element: it has one exactly where it is no leaf, and each stands in the list of its target.
use Rattle.std.proofs.Common.{◌≡◌, ◌↔◌, IsTrue, ◌==◌, ℕ, ◌<◌, not, Bool, true, false, List, [], length, get_or, refl, sym, ◌∙◌, ap, subst, Contains}
use Rattle.std.specs.List.{list_any}
use Rattle.std.proofs.lemmas.Bool.{false≢true, eqb-true, eq-eqb}
use Rattle.std.proofs.lemmas.List.Folds.{list_any_at, Any-from_list_any}
use Rattle.std.proofs.lemmas.Option.{slice_get_within, get_or_from_slice_get, slice_get_read}
use Rattle.cgm_formula.specs.declared.assignment.Assignment.{Assignment}
use Rattle.cgm_model.specs.declared.lists.Lists.{Lists}
use Rattle.cgm_model.specs.declared.lists.Refinement.{Refinement}
use Rattle.cgm_model.specs.Assignment.{RefinementIsTrue}
use Rattle.cgm_model.specs.Leaves.{is_leaf}
use Rattle.cgm_model.specs.Realization.{Refines}
use Rattle.cgm_model.specs.Search.{IsCovered}

refined_from_any : (m : Lists) (element : ℕ) → list_any (λ (r : Refinement). r.target == element) m.refinements ≡ true → (k : ℕ) × Refines m k element
refined_from_any m element e =
    let w = Any-from_list_any (λ (r : Refinement). r.target == element) m.refinements e in
    (w.0, (w.1, slice_get_read m.refinements (length m.refinements) w.0 w.1 refl w.2 (sym w.3), eqb-true w.1.target element w.4))

any_from_refined : (m : Lists) (element k : ℕ) → Refines m k element → list_any (λ (r : Refinement). r.target == element) m.refinements ≡ true
any_from_refined m element k w =
    let at = get_or_from_slice_get m.refinements k w.0 w.0 w.1 in
    list_any_at (λ (r : Refinement). r.target == element) m.refinements k w.0 (slice_get_within m.refinements k w.0 w.1)
    (ap (λ (r : Refinement). r.target == element) at ∙ eq-eqb w.0.target element w.2)

not_twice : (b : Bool) → not (not b) ≡ true → b ≡ true
not_twice true e = refl
not_twice false e = absurd (false≢true e)

-- an element that is no leaf is refined
pub refined_unless_leaf : (m : Lists) (element : ℕ) (leaf : Bool) → leaf ≡ is_leaf m element → IsTrue (not leaf) ↔ ((k : ℕ) × Refines m k element)
refined_unless_leaf m element leaf is =
    let refined = list_any (λ (r : Refinement). r.target == element) m.refinements in
    let same : not leaf ≡ not (not refined) = ap not is in (
      λ e. refined_from_any m element (not_twice refined (sym same ∙ e)),
      λ w. same ∙ ap (λ b. not (not b)) (any_from_refined m element w.0 w.1),
    )

-- where none in the list of the element is a true refinement of it, it has none
pub none_is_true : (m : Lists) (a : Assignment) (element : ℕ) (by_target : List (List ℕ)) (numbers : List ℕ) → IsCovered by_target m.refinements → numbers ≡ get_or by_target element [] → ((k : ℕ) → k < length numbers → (d : ℕ) → ¬ (Refines m (get_or numbers k d) element × RefinementIsTrue a (get_or numbers k d))) → ¬ ((k : ℕ) × (Refines m k element × RefinementIsTrue a k))
none_is_true m a element by_target numbers covered are none w =
    let number = w.0 in
    let own : Contains (get_or by_target element []) number = subst (λ x. Contains (get_or by_target x []) number) w.1.0.2 (covered number w.1.0.0 w.1.0.1) in
    let stands : Contains numbers number = subst (λ xs. Contains xs number) (sym are) own in
    none stands.0 stands.1 number (subst (λ j. Refines m j element × RefinementIsTrue a j) (sym stands.2) w.1)
