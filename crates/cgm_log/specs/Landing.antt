-- Landing: what a worker's batch must be after the entries that the worker has seen, and what it adds to a log that begins with them.
use Rattle.std.specs.Prelude.{◌≡◌, ℕ, ◌+◌, ◌<◌, ◌≤◌, ℤ, List, [], ◌∷◌, ◌++◌, length, if◌then◌else◌, IsTrue, IfSome, Option, Some, None}
use Rattle.std.specs.List.{All}
use Rattle.std.specs.Option.{option_map}
use Rattle.cgm_atom.specs.declared.entries.Entry.{Entry}
use Rattle.cgm_atom.specs.declared.entries.Entry.TheVariants.{Best, Lemma}
use Rattle.cgm_atom.specs.Acceptance.{IsAcceptedAfter}
use Rattle.cgm_atom.specs.Instance.{Instance, IsSolution, vector}
use Rattle.cgm_atom.specs.Limits.{max_batch_lemmas, max_workers}
use Rattle.cgm_atom.specs.LogState.{LogState, is_closing, last_best, state_of}
use Rattle.cgm_atom.specs.Order.{is_less}
use Rattle.cgm_atom.specs.Placing.{IsBefore, all_placed}
use Rattle.cgm_atom.specs.Ranges.{IsInRange}
use Rattle.cgm_log.specs.declared.batches.Batch.{Batch}
use Rattle.cgm_log.specs.declared.batches.Fate.{Fate}
use Rattle.cgm_log.specs.declared.batches.Fate.TheVariants.{Behind, Kept}

-- ---- a proper batch

-- a lemma of this worker, with numbers in range; of entries its hints name one of the first n
abbrev pub IsLemmaOf : ℕ → ℕ → Entry → Type 0
IsLemmaOf worker n (Best by values) = ⊥
IsLemmaOf worker n (Lemma by clause hints bound) =
    (by ≡ worker) × IsInRange (Lemma by clause hints bound) × All (IsBefore n) hints

-- a lemma without atoms comes last, and without a candidate
abbrev pub ClosesLast : List Entry → Option (List ℤ) → Type 0
ClosesLast [] candidate = Unit {0}
ClosesLast (e ∷ lemmas) candidate =
    (IsTrue (is_closing e) → (lemmas ≡ []) × (candidate ≡ None)) × ClosesLast lemmas candidate

-- the batch is proper after the entries that were seen
pub record IsProperBatch (p : Instance) (seen : List Entry) (b : Batch) : Type 0 where
  pub worker : b.by < max_workers
  pub count : length b.lemmas ≤ max_batch_lemmas
  pub lemmas : All (IsLemmaOf b.by (length seen)) b.lemmas
  pub accepted : IsAcceptedAfter p (state_of seen) (all_placed (length seen) b.lemmas)
  pub closing : ClosesLast b.lemmas b.candidate
  pub candidate : IfSome b.candidate (IsSolution p)

-- ---- landing

-- what becomes of a candidate where so many bests stand and this is the last of them
abbrev pub fate_after : Instance → ℕ → Option (List ℤ) → List ℤ → Fate
fate_after p bests None values = Kept (bests + 1)
fate_after p bests (Some best) values =
    if is_less (vector p values) (vector p best) then Kept (bests + 1) else Behind bests best

-- the fate of a batch's candidate, if it has one
abbrev pub fate_of : Instance → LogState → Option (List ℤ) → Option Fate
fate_of p s candidate = option_map (fate_after p (length s.bests) (last_best s)) candidate

-- the entry that the worker's candidate becomes, where it is kept
abbrev pub kept_entry : ℕ → List ℤ → Fate → List Entry
kept_entry by values (Kept ordinal) = Best by values ∷ []
kept_entry by values (Behind ordinal best) = []

abbrev pub kept_candidate : Instance → LogState → ℕ → Option (List ℤ) → List Entry
kept_candidate p s by None = []
kept_candidate p s by (Some values) = kept_entry by values (fate_after p (length s.bests) (last_best s) values)

-- what the batch adds to the log: nothing where it is closed, else the lemmas, each placed, and then the candidate, where it is kept
abbrev pub landed : Instance → List Entry → Batch → List Entry
landed p log b =
    if (state_of log).closed then [] else all_placed (length log) b.lemmas ++ kept_candidate p (state_of log) b.by b.candidate

-- the log after the batch
abbrev pub with_landed : Instance → List Entry → Batch → List Entry
with_landed p log b = log ++ landed p log b
