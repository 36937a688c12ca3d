-- What a hint names and carries stays in a longer log.
use Rattle.std.proofs.Common.{◌≡◌, ℕ, zero, suc, List, [], ◌∷◌, ◌++◌, refl, ap, sym, ◌∙◌}
use Rattle.std.specs.Prelude.{ℤ, slice_get}
use Rattle.std.specs.declared.option.Option.{Option}
use Rattle.std.specs.declared.option.Option.TheVariants.{Some, None}
use Rattle.std.specs.Option.{option_and_then, option_map, option_map_or}
use Rattle.cgm_atom.specs.declared.entries.Entry.{Entry}
use Rattle.cgm_atom.specs.declared.entries.Hint.{Hint}
use Rattle.cgm_atom.specs.declared.entries.Hint.TheVariants as hint
use Rattle.cgm_atom.specs.Constraints.{Constraint, of_clause}
use Rattle.cgm_atom.specs.Cut.{cut}
use Rattle.cgm_atom.specs.Entailment.{best_values}
use Rattle.cgm_atom.specs.Instance.{Instance, vector}
use Rattle.cgm_atom.specs.LogState.{best_at, carried, item_at, lemma_bound, lemma_clause, live_at, named, state_of}
use Rattle.cgm_atom.proofs.StateLemmas.{best_at-log, best_values-append, live_at-log}

item_stays : {X : Type 0} (xs more : List X) (place : ℕ) (x : X) → item_at xs place ≡ Some x → item_at (xs ++ more) place ≡ Some x
item_stays xs more zero x h = absurd (cc)
item_stays [] more (suc i) x h = absurd (cc)
item_stays (y ∷ xs) more (suc zero) x h = h
item_stays (y ∷ xs) more (suc (suc i)) x h = item_stays xs more (suc i) x h

entry_stays : (log more : List Entry) (place : ℕ) (e : Entry) → live_at (state_of log) place ≡ Some e → live_at (state_of (log ++ more)) place ≡ Some e
entry_stays log more place e h =
    live_at-log (log ++ more) place ∙ item_stays log more place e (sym (live_at-log log place) ∙ h)

best_stays : (log more : List Entry) (ordinal : ℕ) (values : List ℤ) → best_at (state_of log) ordinal ≡ Some values → best_at (state_of (log ++ more)) ordinal ≡ Some values
best_stays log more ordinal values h =
    best_at-log (log ++ more) ordinal
    ∙ ap (λ (bests : List (List ℤ)). item_at bests ordinal) (best_values-append log more)
    ∙ item_stays (best_values log) (best_values more) ordinal values (sym (best_at-log log ordinal) ∙ h)

-- what is read from an item that stays
read_stays : {X Y : Type 0} (read : Option X → Option Y) (o o' : Option X) (y : Y) → read None ≡ None → ((x : X) → o ≡ Some x → o' ≡ Some x) → read o ≡ Some y → read o' ≡ Some y
read_stays read None o' y none stays h = let missing = sym none ∙ h in absurd (cc)
read_stays read (Some x) o' y none stays h = ap read (stays x refl) ∙ h

pub named_stays : (p : Instance) (log more : List Entry) (h : Hint) (c : Constraint) → named p (state_of log) h ≡ Some c → named p (state_of (log ++ more)) h ≡ Some c
unfolding named
named_stays p log more (hint.Clause n) c e = e
named_stays p log more (hint.Row n) c e = e
named_stays p log more (hint.Entry place) c e =
    read_stays (λ (o : Option Entry). option_map of_clause (option_and_then lemma_clause o)) (live_at (state_of log) place) (live_at (state_of (log ++ more)) place) c
    refl (entry_stays log more place) e
named_stays p log more (hint.Own i) c e = absurd (cc)
named_stays p log more (hint.Cut ordinal part) c e =
    read_stays (λ (o : Option (List ℤ)). option_map of_clause (option_and_then (λ values. slice_get (cut p.objectives (vector p values)) part) o)) (best_at (state_of log) ordinal) (best_at (state_of (log ++ more)) ordinal) c
    refl (best_stays log more ordinal) e

bound_stays : (o o' : Option Entry) (c : Constraint) → ((e : Entry) → o ≡ Some e → o' ≡ Some e) → option_map of_clause (option_and_then lemma_clause o) ≡ Some c → option_map_or lemma_bound o' 0 ≡ option_map_or lemma_bound o 0
bound_stays None o' c stays h = absurd (cc)
bound_stays (Some e) o' c stays h = ap (λ (o : Option Entry). option_map_or lemma_bound o 0) (stays e refl)

pub carried_stays : (p : Instance) (log more : List Entry) (h : Hint) (c : Constraint) → named p (state_of log) h ≡ Some c → carried (state_of (log ++ more)) h ≡ carried (state_of log) h
unfolding named carried
carried_stays p log more (hint.Clause n) c e = refl
carried_stays p log more (hint.Row n) c e = refl
carried_stays p log more (hint.Entry place) c e =
    bound_stays (live_at (state_of log) place) (live_at (state_of (log ++ more)) place) c (entry_stays log more place) e
carried_stays p log more (hint.Own i) c e = refl
carried_stays p log more (hint.Cut ordinal part) c e = refl
