-- The index of refinements by target: one element more, and one refinement more.
use Rattle.std.proofs.Common.{◌≡◌, ℕ, zero, suc, ◌+◌, ◌<◌, ◌≤◌, ◌++◌, ◌⊎◌, inl, inr, Bool, List, [], ◌∷◌, Some, length, get_or, set, slice_get, refl, sym, ◌∙◌, ap, subst, All, Contains, arith, ⊎_elim}
use Rattle.std.proofs.lemmas.Bool.{false≢true, cases_eq}
use Rattle.std.proofs.lemmas.List.{length-append, length_push, get_or-set_same, get_or-set_other, get_or_append_left, get_or-append-add}
use Rattle.std.proofs.lemmas.List.Elements.{All-push}
use Rattle.std.proofs.lemmas.Option.{none-some, same_Some}
use Rattle.cgm_model.specs.declared.lists.Refinement.{Refinement}
use Rattle.cgm_model.specs.declared.graph.Graph.{Graph}
use Rattle.cgm_model.specs.Search.{IsMarked}
use Rattle.cgm_model.specs.TargetIndex.{IsTargetIndexOf}

Contains-front : (xs ys : List ℕ) (n : ℕ) → Contains xs n → Contains (xs ++ ys) n
Contains-front xs ys n h = (h.0, omega (arith, h.1, length-append xs ys), get_or_append_left xs ys n h.0 h.1 ∙ h.2)

Contains-last : (xs : List ℕ) (n : ℕ) → Contains (xs ++ n ∷ []) n
Contains-last xs n = (length xs + 0, omega (arith, length_push xs n), get_or-append-add xs (n ∷ []) 0 n)

-- each place has what it had, and maybe one more
pub record Grows (old new : List (List ℕ)) : Type 0 where
  pub kept : (j n : ℕ) → Contains (get_or old j []) n → Contains (get_or new j []) n

pub Grows-set : (xs : List (List ℕ)) (t n : ℕ) → t < length xs → Grows xs (set xs t (get_or xs t [] ++ n ∷ []))
Grows-set xs t n l = record {
  kept = λ j k h.
      ⊎_elim
      (λ same.
      let there : Contains (get_or xs t [] ++ n ∷ []) k = Contains-front (get_or xs t []) (n ∷ []) k (subst (λ i. Contains (get_or xs i []) k) same h) in
      let at : get_or (set xs t (get_or xs t [] ++ n ∷ [])) j [] ≡ get_or xs t [] ++ n ∷ [] = ap (λ i. get_or (set xs t (get_or xs t [] ++ n ∷ [])) i []) same ∙ get_or-set_same xs t (get_or xs t [] ++ n ∷ []) [] l in
      subst (λ ys. Contains ys k) (sym at) there)
      (λ ne. subst (λ ys. Contains ys k) (sym (get_or-set_other xs t j (get_or xs t [] ++ n ∷ []) [] ne)) h)
      (cases_eq j t);
}

pub has_new : (xs : List (List ℕ)) (t n : ℕ) → t < length xs → Contains (get_or (set xs t (get_or xs t [] ++ n ∷ [])) t []) n
has_new xs t n l = subst (λ ys. Contains ys n) (sym (get_or-set_same xs t (get_or xs t [] ++ n ∷ []) [] l)) (Contains-last (get_or xs t []) n)

pushed : (xs : List (List ℕ)) (j n : ℕ) → Contains (get_or xs j []) n → Contains (get_or (xs ++ [] ∷ []) j []) n
pushed [] j n h = absurd (omega (arith, h.1))
pushed (x ∷ xs) zero n h = h
pushed (x ∷ xs) (suc j) n h = pushed xs j n h

pub Grows-push : (xs : List (List ℕ)) → Grows xs (xs ++ [] ∷ [])
Grows-push xs = record { kept = λ j n h. pushed xs j n h }

-- what stands in a list with one more at its end
push_cases : (xs : List Refinement) (x : Refinement) (k : ℕ) (y : Refinement) → slice_get (xs ++ x ∷ []) k ≡ Some y → (slice_get xs k ≡ Some y) ⊎ ((k ≡ length xs) × (x ≡ y))
push_cases [] x zero y e = inr (refl, same_Some x y e)
push_cases [] x (suc k) y e = absurd (none-some y e)
push_cases (z ∷ xs) x zero y e = inl e
push_cases (z ∷ xs) x (suc k) y e =
    ⊎_elim (λ h. inl h) (λ h. inr (let same = h.0 in omega arith, h.1)) (push_cases xs x k y e)

pub marked_front : (xs ys : List Bool) (element : ℕ) → IsMarked xs element → IsMarked (xs ++ ys) element
marked_front [] ys element m = absurd (false≢true m)
marked_front (x ∷ xs) ys zero m = m
marked_front (x ∷ xs) ys (suc k) m = marked_front xs ys k m

-- the index after a change that loses nothing
pub IsIndexOf-kept : (rs : List Refinement) (old new : Graph) → Grows old.by_target.items new.by_target.items → ((element : ℕ) → IsMarked old.is_source.items element → IsMarked new.is_source.items element) → length new.marks.items ≤ length new.by_target.items → length new.marks.items ≤ length new.is_source.items → length new.marks.items ≤ length new.queue.items → IsTargetIndexOf rs old → IsTargetIndexOf rs new
IsIndexOf-kept rs old new grows flags targets sources queue h = record {
  covered = λ k r at. grows.kept r.target k (h.covered k r at);
  flagged = λ k d l j e m. flags (get_or (get_or rs k d).sources j e) (h.flagged k d l j e m);
  targets = targets;
  flags = sources;
  queue = queue;
}

pub IsIndexOf-linked : (rs : List Refinement) (r : Refinement) (number : ℕ) (new : Graph) → number ≡ length rs → Contains (get_or new.by_target.items r.target []) number → All (IsMarked new.is_source.items) r.sources → IsTargetIndexOf rs new → IsTargetIndexOf (rs ++ r ∷ []) new
IsIndexOf-linked rs r number new is stands flagged h = record {
  covered = λ k q at.
      ⊎_elim
      (λ before. h.covered k q before)
      (λ last.
      let here = subst (λ n. Contains (get_or new.by_target.items r.target []) n) (is ∙ sym last.0) stands in
      subst (λ (x : Refinement). Contains (get_or new.by_target.items x.target []) k) last.1 here)
      (push_cases rs r k q at);
  flagged = All-push (λ (q : Refinement). All (IsMarked new.is_source.items) q.sources) rs r h.flagged flagged;
  targets = h.targets;
  flags = h.flags;
  queue = h.queue;
}
