-- Marks that were spread from the sources of a refinement tell whether the graph has a cycle with it.
use Rattle.std.proofs.Common.{◌≡◌, ℕ, ◌+◌, ◌<◌, ◌++◌, ◌==◌, Bool, true, false, cond, List, [], ◌∷◌, Some, length, get_or, refl, sym, ◌∙◌, ap, All, sum_by, arith}
use Rattle.std.specs.List.{list_any}
use Rattle.std.proofs.lemmas.Bool.{false≢true, eq-eqb, ne_eqb}
use Rattle.std.proofs.lemmas.List.Folds.{list_any_at}
use Rattle.std.proofs.lemmas.List.Elements.{All-pop, All-push}
use Rattle.std.proofs.lemmas.List.Sums.{get_or-le-sum_by}
use Rattle.cgm_model.specs.declared.lists.Refinement.{Refinement}
use Rattle.cgm_model.specs.Graph.{IsNumbering, IsAcyclic}
use Rattle.cgm_model.specs.Search.{IsMarked, AreBelow, IsClosedUnderSources}

-- a numbering that lifts what is not marked above this many numbers
abbrev lifted : (ℕ → ℕ) → List Bool → ℕ → ℕ → ℕ
lifted f marks above element = cond (get_or marks element false) (f element) (f element + above)

lifted-at : (f : ℕ → ℕ) (above source target : ℕ) (s t : Bool) → (t ≡ true → s ≡ true) → f source < f target → cond s (f source) (f source + above) < cond t (f target) (f target + above)
lifted-at f above source target true true closed l = l
lifted-at f above source target true false closed l = omega arith
lifted-at f above source target false true closed l = absurd (false≢true (closed refl))
lifted-at f above source target false false closed l = omega arith

lifted-new : (f : ℕ → ℕ) (above source target : ℕ) (s t : Bool) → s ≡ true → (t ≡ true → ⊥) → f source < above → cond s (f source) (f source + above) < cond t (f target) (f target + above)
lifted-new f above source target s true e n l = absurd (n refl)
lifted-new f above source target true false e n l = omega arith
lifted-new f above source target false false e n l = absurd (false≢true e)

-- the target isn't reached from the sources: the numbering goes on
pub IsAcyclic-from_closed : (refinements : List Refinement) (r : Refinement) (marks : List Bool) → IsAcyclic refinements → All (IsClosedUnderSources marks) refinements → All (IsMarked marks) r.sources → ¬ IsMarked marks r.target → IsAcyclic (refinements ++ r ∷ [])
IsAcyclic-from_closed refinements r marks acyclic closed marked unreached =
    let f = acyclic.0 in
    let above : ℕ = sum_by f r.sources + 1 in
    let g : ℕ → ℕ = lifted f marks above in
    let keeps : Refinement → Type 0 = λ q. All (λ source. g source < g q.target) q.sources in
    let old : All keeps refinements = λ k d l j e m.
    let q = get_or refinements k d in
    lifted-at f above (get_or q.sources j e) q.target (get_or marks (get_or q.sources j e) false) (get_or marks q.target false) (λ t. closed k d l t j e m) (acyclic.1 k d l j e m) in
    let new : keeps r = λ j e m.
    let bound = get_or-le-sum_by f r.sources j e m in
    lifted-new f above (get_or r.sources j e) r.target (get_or marks (get_or r.sources j e) false) (get_or marks r.target false) (marked j e m) unreached (omega arith) in
    (g, All-push keeps refinements r old new)

-- the target is reached from the sources: no numbering is left
pub cyclic_from_marked : (refinements : List Refinement) (r : Refinement) (marks : List Bool) → ((f : ℕ → ℕ) (bound : ℕ) → IsNumbering f refinements → All (λ source. f source < bound) r.sources → AreBelow f bound marks) → IsMarked marks r.target → ¬ IsAcyclic (refinements ++ r ∷ [])
cyclic_from_marked refinements r marks below marked acyclic =
    let f = acyclic.0 in
    let keeps : Refinement → Type 0 = λ q. All (λ source. f source < f q.target) q.sources in
    let parts = All-pop keeps (refinements ++ r ∷ []) refinements (Some r) refl acyclic.1 in
    let less : f r.target < f r.target = below f (f r.target) parts.0 parts.1 r.target marked in
    omega arith

-- a numbering that lifts the target alone
abbrev raised : (ℕ → ℕ) → ℕ → ℕ → ℕ → ℕ
raised f target above element = cond (element == target) (f element + above) (f element)

raised-other : (f : ℕ → ℕ) (target above element : ℕ) → (element == target) ≡ false → raised f target above element ≡ f element
raised-other f target above element e = ap (λ b. cond b (f element + above) (f element)) e

raised-target : (f : ℕ → ℕ) (target above : ℕ) → raised f target above target ≡ f target + above
raised-target f target above = ap (λ b. cond b (f target + above) (f target)) (eq-eqb target target refl)

raised-least : (f : ℕ → ℕ) (target above element : ℕ) (b : Bool) → f element < cond b (f element + above) (f element) + 1
raised-least f target above element true = omega arith
raised-least f target above element false = omega arith

false_of : (b : Bool) → (b ≡ true → ⊥) → b ≡ false
false_of false h = refl
false_of true h = absurd (h refl)

not_any_at : (xs : List ℕ) (y k d : ℕ) → list_any (λ x. x == y) xs ≡ false → k < length xs → (get_or xs k d == y) ≡ false
not_any_at xs y k d e l =
    false_of (get_or xs k d == y) (λ t. false≢true (sym e ∙ list_any_at (λ x. x == y) xs k d l t))

-- the target is no source: it can be lifted above its sources
pub IsAcyclic-on_top : (refinements : List Refinement) (r : Refinement) (flags : List Bool) → IsAcyclic refinements → All (λ (q : Refinement). All (IsMarked flags) q.sources) refinements → get_or flags r.target false ≡ false → list_any (λ y. y == r.target) r.sources ≡ false → IsAcyclic (refinements ++ r ∷ [])
IsAcyclic-on_top refinements r flags acyclic flagged unflagged absent =
    let f = acyclic.0 in
    let above : ℕ = sum_by f r.sources + 1 in
    let g : ℕ → ℕ = raised f r.target above in
    let keeps : Refinement → Type 0 = λ q. All (λ source. g source < g q.target) q.sources in
    let old : All keeps refinements = λ k d l j e m.
    let q = get_or refinements k d in
    let s = get_or q.sources j e in
    let apart : (s == r.target) ≡ false = ne_eqb s r.target (λ same. false≢true (sym unflagged ∙ (ap (λ x. get_or flags x false) (sym same) ∙ flagged k d l j e m))) in
    let low = raised-other f r.target above s apart in
    let less = acyclic.1 k d l j e m in
    let high = raised-least f r.target above q.target (q.target == r.target) in
    omega (arith, low, less, high) in
    let new : keeps r = λ j e m.
    let s = get_or r.sources j e in
    let low = raised-other f r.target above s (not_any_at r.sources r.target j e absent m) in
    let bound = get_or-le-sum_by f r.sources j e m in
    let high = raised-target f r.target above in
    omega (arith, low, bound, high) in
    (g, All-push keeps refinements r old new)
