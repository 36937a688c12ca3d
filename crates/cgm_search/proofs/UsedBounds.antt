-- In an accepted log no hint that names something carries more than the ordinal of the last best.
use Rattle.std.proofs.Common.{◌≡◌, ℕ, zero, suc, ◌≤◌, List, [], ◌∷◌, length, refl, subst, arith}
use Rattle.std.specs.Prelude.{ℤ, slice_get}
use Rattle.std.specs.declared.option.Option.{Option}
use Rattle.std.specs.declared.option.Option.TheVariants.{Some, None}
use Rattle.std.specs.List.{All}
use Rattle.std.specs.Option.{option_and_then, option_map, option_map_or}
use Rattle.std.proofs.lemmas.List.Elements.{All-head, All-tail, All-weaker}
use Rattle.cgm_atom.specs.declared.entries.Entry.{Entry}
use Rattle.cgm_atom.specs.declared.entries.Entry.TheVariants.{Best, Lemma}
use Rattle.cgm_atom.specs.declared.entries.Hint.{Hint}
use Rattle.cgm_atom.specs.declared.entries.Hint.TheVariants as hint
use Rattle.cgm_atom.specs.Acceptance.{IsAccepted}
use Rattle.cgm_atom.specs.Constraints.{Constraint, of_clause}
use Rattle.cgm_atom.specs.Cut.{cut}
use Rattle.cgm_atom.specs.Entailment.{best_values}
use Rattle.cgm_atom.specs.Instance.{Instance, vector}
use Rattle.cgm_atom.specs.Laws.{IsEntailed}
use Rattle.cgm_atom.specs.LogState.{LogState, carried, item_at, lemma_bound, live_at, named, state_of, values_at_place}
use Rattle.cgm_atom.proofs.Entailing.{lemmas_follow}
use Rattle.cgm_atom.proofs.StateLemmas.{count_of_bests, live_is_of_log}
use Rattle.cgm_clauses.specs.declared.named.Named.{Named}
use Rattle.cgm_search.specs.Storing.{IsSeenName}

holds_at : {X : Type 0} (P : X → Type 0) (xs : List X) (place : ℕ) (x : X) → All P xs → item_at xs place ≡ Some x → P x
holds_at P xs zero x h e = absurd (cc)
holds_at P [] (suc i) x h e = absurd (cc)
holds_at P (y ∷ xs) (suc zero) x h e = subst P (let same : y ≡ x = cc in same) (All-head P y xs h)
holds_at P (y ∷ xs) (suc (suc i)) x h e = holds_at P xs (suc i) x (All-tail P y xs h) e

within : {X : Type 0} (xs : List X) (place : ℕ) (x : X) → item_at xs place ≡ Some x → place ≤ length xs
within xs zero x e = omega arith
within [] (suc i) x e = absurd (cc)
within (y ∷ xs) (suc zero) x e = omega arith
within (y ∷ xs) (suc (suc i)) x e = let rest = within xs (suc i) x e in omega arith

entry_bound : (p : Instance) (log : List Entry) (place : ℕ) (o : Option Entry) → IsAccepted p log → live_at (state_of log) place ≡ o → option_map_or lemma_bound o 0 ≤ length (state_of log).bests
entry_bound p log place None accepted e = omega arith
entry_bound p log place (Some (Best by values)) accepted e = omega arith
entry_bound p log place (Some (Lemma by clause hints bound)) accepted e =
    let there = live_is_of_log log place (Lemma by clause hints bound) e in
    let follows = holds_at (IsEntailed p log) log place (Lemma by clause hints bound) (lemmas_follow p log accepted) there in
    let few : bound ≤ length (best_values log) = follows.1 in
    let count = count_of_bests log in
    omega arith

cut_bound : (p : Instance) (s : LogState) (ordinal part : ℕ) (k : Constraint) (o : Option ℕ) → item_at s.bests ordinal ≡ o → option_map of_clause (option_and_then (λ (values : List ℤ). slice_get (cut p.objectives (vector p values)) part) (option_and_then (values_at_place s) o)) ≡ Some k → ordinal ≤ length s.bests
cut_bound p s ordinal part k None e h = absurd (cc)
cut_bound p s ordinal part k (Some place) e h = within s.bests ordinal place e

pub carried_low : (p : Instance) (log : List Entry) (h : Hint) (k : Constraint) → IsAccepted p log → IsSeenName p (state_of log) h k → carried (state_of log) h ≤ length (state_of log).bests
unfolding carried named
carried_low p log (hint.Clause n) k accepted name = omega arith
carried_low p log (hint.Row n) k accepted name = omega arith
carried_low p log (hint.Entry place) k accepted name = entry_bound p log place (live_at (state_of log) place) accepted refl
carried_low p log (hint.Own i) k accepted name = omega arith
carried_low p log (hint.Cut ordinal part) k accepted name = cut_bound p (state_of log) ordinal part k (item_at (state_of log).bests ordinal) refl name.1

pub all_low : (p : Instance) (log : List Entry) (added : List Named) → IsAccepted p log → All (λ n. IsSeenName p (state_of log) n.name (of_clause n.clause)) added → All (λ n. carried (state_of log) n.name ≤ length (state_of log).bests) added
all_low p log added accepted h =
    All-weaker (λ n. IsSeenName p (state_of log) n.name (of_clause n.clause)) (λ n. carried (state_of log) n.name ≤ length (state_of log).bests)
    (λ (n : Named) (name : IsSeenName p (state_of log) n.name (of_clause n.clause)). carried_low p log n.name (of_clause n.clause) accepted name)
    added h
