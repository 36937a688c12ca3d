-- What lands has places and numbers in range, so that a certificate can write it.
use Rattle.std.proofs.Common.{ℕ, ◌<◌, ◌≤◌, ◌^◌, List, [], ◌∷◌, ◌++◌, length, get_or, arith}
use Rattle.std.specs.Prelude.{ℤ, IfSome}
use Rattle.std.specs.declared.option.Option.{Option}
use Rattle.std.specs.declared.option.Option.TheVariants.{Some, None}
use Rattle.std.specs.List.{All}
use Rattle.std.proofs.lemmas.List.Elements.{All-append, All-cons, All-map, All-nil, All-weaker}
use Rattle.cgm_atom.specs.declared.entries.Entry.{Entry}
use Rattle.cgm_atom.specs.declared.entries.Entry.TheVariants.{Best, Lemma}
use Rattle.cgm_atom.specs.declared.entries.Hint.{Hint}
use Rattle.cgm_atom.specs.declared.entries.Hint.TheVariants as hint
use Rattle.cgm_atom.specs.Entailment.{best_values}
use Rattle.cgm_atom.specs.Instance.{Instance, IsSolution}
use Rattle.cgm_atom.specs.Limits.{IsWellFormedProblem, max_workers}
use Rattle.cgm_atom.specs.LogState.{LogState, last_best, state_of}
use Rattle.cgm_atom.specs.Placing.{all_placed, placed, placed_entry}
use Rattle.cgm_atom.specs.Ranges.{IsHintInRange, IsPlaced, IsPrintable}
use Rattle.cgm_atom.proofs.PlacedHints.{placed_are_placed}
use Rattle.cgm_atom.proofs.Solutions.{none-solution}
use Rattle.cgm_atom.proofs.StateLemmas.{count_of_bests}
use Rattle.cgm_step.proofs.Accepted.{AreValuesOf-from_none}
use Rattle.cgm_log.specs.declared.batches.Batch.{Batch}
use Rattle.cgm_log.specs.declared.batches.Fate.{Fate}
use Rattle.cgm_log.specs.declared.batches.Fate.TheVariants.{Behind, Kept}
use Rattle.cgm_log.specs.Landing.{IsLemmaOf, IsProperBatch, fate_after, kept_candidate, kept_entry}

-- ---- hints

placed_in_range : (n : ℕ) (h : Hint) → n < 2 ^ 63 → IsHintInRange h → IsHintInRange (placed n h)
placed_in_range n (hint.Clause number) small range = range
placed_in_range n (hint.Row number) small range = range
placed_in_range n (hint.Entry place) small range = range
placed_in_range n (hint.Own i) small range = omega (arith, small, range)
placed_in_range n (hint.Cut ordinal part) small range = range

-- ---- lemmas

placed_printable : (by n : ℕ) (e : Entry) → n < 2 ^ 63 → IsLemmaOf by n e → IsPrintable (placed_entry n e)
placed_printable by n (Best maker values) small h = absurd h
placed_printable by n (Lemma maker clause hints bound) small h = (
  (
    h.1.0,
    h.1.1,
    All-map IsHintInRange (placed n) hints (λ i d within. placed_in_range n (get_or hints i d) small (h.1.2 i d within)),
    h.1.3,
  ),
  All-map IsPlaced (placed n) hints (λ i d within. placed_are_placed n (get_or hints i d)),
)

-- ---- the candidate

best_printable : (p : Instance) (by : ℕ) (values : List ℤ) → IsWellFormedProblem p → by < max_workers → IsSolution p values → IsPrintable (Best by values)
best_printable p by values valid worker solves = ((worker, (AreValuesOf-from_none p values valid (none-solution p values solves)).sizes), tt)

kept_printable : (by : ℕ) (values : List ℤ) (fate : Fate) → IsPrintable (Best by values) → All IsPrintable (kept_entry by values fate)
kept_printable by values (Kept ordinal) h = All-cons IsPrintable (Best by values) [] h (All-nil IsPrintable)
kept_printable by values (Behind ordinal best) h = All-nil IsPrintable

candidate_printable : (p : Instance) (s : LogState) (by : ℕ) (candidate : Option (List ℤ)) → IsWellFormedProblem p → by < max_workers → IfSome candidate (IsSolution p) → All IsPrintable (kept_candidate p s by candidate)
candidate_printable p s by None valid worker solves = All-nil IsPrintable
candidate_printable p s by (Some values) valid worker solves =
    kept_printable by values (fate_after p (length s.bests) (last_best s) values) (best_printable p by values valid worker solves)

-- ---- the batch

pub landing_printable : (p : Instance) (log : List Entry) (s : LogState) (b : Batch) → IsWellFormedProblem p → length log < 2 ^ 63 → IsProperBatch p log b → All IsPrintable (all_placed (length log) b.lemmas ++ kept_candidate p s b.by b.candidate)
landing_printable p log s b valid small proper =
    let n = length log in
    All-append IsPrintable (all_placed n b.lemmas) (kept_candidate p s b.by b.candidate)
    (All-map IsPrintable (placed_entry n) b.lemmas (All-weaker (IsLemmaOf b.by n) (λ e. IsPrintable (placed_entry n e)) (λ e k. placed_printable b.by n e small k) b.lemmas proper.lemmas))
    (candidate_printable p s b.by b.candidate valid proper.worker proper.candidate)

-- ---- fewer bests than entries

few_bests : (log : List Entry) → length (best_values log) ≤ length log
few_bests [] = omega arith
few_bests (Best by values ∷ log) = omega (arith, few_bests log)
few_bests (Lemma by clause hints bound ∷ log) = omega (arith, few_bests log)

pub bests_fit : (log : List Entry) → length log < 2 ^ 63 → length (state_of log).bests < 2 ^ 63
bests_fit log small = omega (arith, count_of_bests log, few_bests log, small)
