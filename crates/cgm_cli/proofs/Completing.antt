-- Which statuses come where the files have a model with its problem and nothing fails.
use Rattle.std.proofs.Common.{◌≡◌, ◌≢◌, ℕ, ◌+◌, ◌*◌, ◌^◌, ◌<◌, ◌≤◌, length, ◌⊎◌, List, [], ◌∷◌, IsSome, IsSomeAnd, Option, Some, None, refl, sym, ◌∙◌, subst, inl, inr, ⊎_elim, arith, lt_irrefl, lt_of_lt_of_le}
use Rattle.std.proofs.lemmas.Bool.{false≢true}
use Rattle.std.proofs.lemmas.List.Elements.{All-head}
use Rattle.std.specs.List.{All}
use Rattle.cgm_base.specs.declared.status.Status.{Status}
use Rattle.cgm_base.specs.declared.status.Status.TheVariants as statuses
use Rattle.cgm_shelf.specs.Faults.{Rose}
use Rattle.cgm_shelf.specs.Shelf.{Files, ShelfState}
use Rattle.cgm_shelf.specs.Sink.{SinkState}
use Rattle.cgm_model.specs.declared.lists.Lists.{Lists}
use Rattle.cgm_print.specs.Canonical.{canonical_text}
use Rattle.cgm_evolve.specs.Pairs.{Pair}
use Rattle.cgm_atom.specs.declared.entries.Entry.{Entry}
use Rattle.cgm_encode.specs.Problem.{problem_of}
use Rattle.cgm_gen.specs.Draws.{most_goals}
use Rattle.cgm_encode.specs.ProblemText.{problem_text}
use Rattle.cgm_atom.specs.Instance.{Instance}
use Rattle.cgm_search.specs.declared.plans.Plan.{Plan}
use Rattle.cgm_search.specs.Spending.{IsSpentTrail}
use Rattle.cgm_trail.specs.Rank.{slack}
use Rattle.cgm_trail.specs.TrailState.{TrailState}
use Rattle.cgm_cli.specs.Answers.{entries_of}
use Rattle.cgm_cli.specs.CheckOutcome.{HasCertificateOutcome, HasCheckOutcome, HasEntriesOutcome, HasNoEntries}
use Rattle.cgm_cli.specs.Effects.{Outside, World, outside_of}
use Rattle.cgm_cli.specs.Inputs.{HasNoContent}
use Rattle.cgm_cli.specs.Laws.{CheckCompletes, EncodeCompletes, IsEnough, IsOneOf, NothingFails, ShowCompletes, SolveCompletes, TrialCompletes}
use Rattle.cgm_cli.specs.Outcome.{HasEncodeOutcome, HasShowOutcome, HasTextOutcome}
use Rattle.cgm_cli.specs.SolveOutcome.{HasSolveOutcome, IsCertificateCut, IsLost, Wanted, wanted}
use Rattle.cgm_cli.specs.TrialOutcome.{HasTrialOutcome}
use Rattle.cgm_cli.proofs.GoodInputs.{Lacks, of_input, of_model, read_failed}

-- where no read fails, only memory is wanted
only_memory : (old new : ShelfState) (status : Status) → ¬ Rose old.read_faults new.read_faults → Lacks old new status → status ≡ statuses.Memory
only_memory old new status reads (inl failed) = absurd (reads failed.1)
only_memory old new status reads (inr memory) = memory

memory_among : (status : Status) (expected : List Status) → IsOneOf statuses.Memory expected → status ≡ statuses.Memory → IsOneOf status expected
memory_among status expected among memory = subst (λ s. IsOneOf s expected) (sym memory) among

-- ---- `encode` and `show`

abbrev of_text : List Status
of_text = statuses.Done ∷ statuses.Memory ∷ []

text_ends : (text : List ℕ) (old new : SinkState) (status : Status) → ¬ Rose old.faults new.faults → HasTextOutcome text old new status → IsOneOf status of_text
text_ends text old new statuses.Done prints outcome = (0, omega arith, refl)
text_ends text old new statuses.Memory prints outcome = (1, omega arith, refl)
text_ends text old new statuses.Write prints outcome = absurd (prints outcome.failed)
text_ends text old new status prints outcome = absurd outcome

text_completes : (text : List ℕ) (found left : World) (status : Status) → NothingFails found left → Lacks found.shelf left.shelf status ⊎ HasTextOutcome text found.sink left.sink status → IsOneOf status of_text
text_completes text found left status nothing (inl lacks) =
    memory_among status of_text (1, omega arith, refl) (only_memory found.shelf left.shelf status nothing.reads lacks)
text_completes text found left status nothing (inr outcome) =
    text_ends text found.sink left.sink status nothing.prints outcome

pub encode_completes : EncodeCompletes
encode_completes name file found left status m earlier good nothing outcome =
    text_completes (problem_text (problem_of m earlier)) found left status nothing
    (of_input (HasEncodeOutcome found.sink left.sink) (outside_of found) (outside_of left) name file m earlier status good outcome)

pub show_completes : ShowCompletes
show_completes name told found left status m tells has nothing outcome =
    text_completes (canonical_text m) found left status nothing
    (of_model (HasShowOutcome found.sink left.sink) (outside_of found) (outside_of left) told name m status tells has outcome)

-- ---- `check`

some_there : (o : Option (List ℕ)) → IsSome o → IsSomeAnd o (λ bytes. Unit {0})
some_there None there = absurd (false≢true there)
some_there (Some bytes) there = tt

-- the bytes of a certificate that is there are had, unless a read fails or memory is wanted
pub no_bytes : (cert : List ℕ) (found left : Outside) (files : Files) (status : Status) → found.shelf.files ≡ Some files → IsSome (files cert) → HasNoContent cert None found left status → Lacks found.shelf left.shelf status
no_bytes cert found left files statuses.Read told there gone =
    inl (refl, read_failed found.shelf left.shelf files cert (λ bytes. Unit {0}) told (some_there (files cert) there) gone.0)
no_bytes cert found left files statuses.Memory told there gone = inr refl
no_bytes cert found left files statuses.Limit told there gone = absurd gone.0
no_bytes cert found left files status told there gone = absurd gone

abbrev of_check : List Status
of_check = statuses.Done ∷ statuses.Unrealizable ∷ statuses.Certificate ∷ statuses.Open ∷ statuses.Memory ∷ []

no_entries_end : (text : List ℕ) (old new : SinkState) (status : Status) → HasNoEntries text old new status → IsOneOf status of_check
no_entries_end text old new statuses.Certificate outcome = (2, omega arith, refl)
no_entries_end text old new statuses.Memory outcome = (4, omega arith, refl)
no_entries_end text old new status outcome = absurd outcome

entries_end : (m : Lists) (earlier : List Pair) (entries : List Entry) (old new : SinkState) (status : Status) → ¬ Rose old.faults new.faults → HasEntriesOutcome m earlier entries old new status → IsOneOf status of_check
entries_end m earlier entries old new statuses.Done prints outcome = (0, omega arith, refl)
entries_end m earlier entries old new statuses.Unrealizable prints outcome = (1, omega arith, refl)
entries_end m earlier entries old new statuses.Certificate prints outcome = (2, omega arith, refl)
entries_end m earlier entries old new statuses.Open prints outcome = (3, omega arith, refl)
entries_end m earlier entries old new statuses.Memory prints outcome = (4, omega arith, refl)
entries_end m earlier entries old new statuses.Write prints outcome = absurd (prints outcome.cut.failed)
entries_end m earlier entries old new status prints outcome = absurd outcome

certificate_ends : (m : Lists) (earlier : List Pair) (text : List ℕ) (old new : SinkState) (status : Status) → ¬ Rose old.faults new.faults → HasCertificateOutcome m earlier text old new status → IsOneOf status of_check
certificate_ends m earlier text old new status prints (inl none) = no_entries_end text old new status none
certificate_ends m earlier text old new status prints (inr some) =
    entries_end m earlier some.entries old new status prints some.outcome

check_ends : (m : Lists) (earlier : List Pair) (cert : List ℕ) (found left : Outside) (files : Files) (status : Status) → found.shelf.files ≡ Some files → IsSome (files cert) → ¬ Rose found.sink.faults left.sink.faults → HasCheckOutcome cert found left m earlier status → Lacks found.shelf left.shelf status ⊎ IsOneOf status of_check
check_ends m earlier cert found left files status told there prints (inl gone) =
    inl (no_bytes cert found left files status told there gone)
check_ends m earlier cert found left files status told there prints (inr bytes) =
    inr (certificate_ends m earlier bytes.0 found.sink left.sink status prints bytes.1.1)

-- it lacks something before its own work, or in it, or comes to an end
check_completed : (m : Lists) (earlier : List Pair) (cert : List ℕ) (found left : Outside) (files : Files) (status : Status) → found.shelf.files ≡ Some files → IsSome (files cert) → ¬ Rose found.sink.faults left.sink.faults → Lacks found.shelf left.shelf status ⊎ HasCheckOutcome cert found left m earlier status → Lacks found.shelf left.shelf status ⊎ IsOneOf status of_check
check_completed m earlier cert found left files status told there prints (inl lacks) = inl lacks
check_completed m earlier cert found left files status told there prints (inr outcome) =
    check_ends m earlier cert found left files status told there prints outcome

memory_or_end : (old new : ShelfState) (status : Status) → ¬ Rose old.read_faults new.read_faults → Lacks old new status ⊎ IsOneOf status of_check → IsOneOf status of_check
memory_or_end old new status reads (inl lacks) =
    memory_among status of_check (4, omega arith, refl) (only_memory old new status reads lacks)
memory_or_end old new status reads (inr among) = among

pub check_completes : CheckCompletes
check_completes name cert file found left status m earlier good there nothing outcome =
    memory_or_end found.shelf left.shelf status nothing.reads
    (check_completed m earlier cert (outside_of found) (outside_of left) good.files status good.told there nothing.prints
    (of_input (HasCheckOutcome cert (outside_of found) (outside_of left)) (outside_of found) (outside_of left) name file m earlier status good outcome))

-- ---- `solve`

abbrev of_solve : List Status
of_solve = statuses.Done ∷ statuses.Unrealizable ∷ statuses.Open ∷ statuses.Memory ∷ []

cut_rose : (cert : Option (List ℕ)) (entries : List Entry) (old new : ShelfState) → IsCertificateCut cert entries old new → Rose old.write_faults new.write_faults
cut_rose None entries old new cut = absurd cut
cut_rose (Some name) entries old new cut = cut.1.2

not_lost : (want : Wanted) (found left : World) (m : Lists) (earlier : List Pair) → NothingFails found left → IsLost want found left m earlier → ⊥
not_lost want found left m earlier nothing outcome =
    ⊎_elim
    (λ cut. nothing.writes (cut_rose want.cert (entries_of outcome.answer) found.shelf left.shelf cut.0))
    (λ cut. nothing.prints cut.1.failed)
    outcome.lost

solve_ends : (want : Wanted) (found left : World) (m : Lists) (earlier : List Pair) (status : Status) → NothingFails found left → HasSolveOutcome want found left m earlier status → IsOneOf status of_solve
solve_ends want found left m earlier statuses.Done nothing outcome = (0, omega arith, refl)
solve_ends want found left m earlier statuses.Unrealizable nothing outcome = (1, omega arith, refl)
solve_ends want found left m earlier statuses.Open nothing outcome = (2, omega arith, refl)
solve_ends want found left m earlier statuses.Memory nothing outcome = (3, omega arith, refl)
solve_ends want found left m earlier statuses.Write nothing outcome =
    absurd (not_lost want found left m earlier nothing outcome)
solve_ends want found left m earlier status nothing outcome = absurd outcome

-- where some worker spent its budget, it can be spent
spent_few : (p : Instance) (plan : Plan) (entries : List Entry) (trails : List TrailState) (workers : ℕ) → 1 ≤ workers → length trails ≡ workers → All (IsSpentTrail p plan entries) trails → plan.budget < (plan.restarts + 1) * 2 ^ (slack p.bounds + 1)
spent_few p plan entries [] workers some count spent = absurd (omega (arith, some, count))
spent_few p plan entries (t ∷ trails) workers some count spent =
    (All-head (IsSpentTrail p plan entries) t trails spent).few

-- a spent budget is too small to be enough
not_spent : (want : Wanted) (found left : World) (m : Lists) (earlier : List Pair) (status : Status) → HasSolveOutcome want found left m earlier status → IsEnough want.plan m earlier → status ≢ statuses.Open
not_spent want found left m earlier status outcome enough is =
    let exhausted : HasSolveOutcome want found left m earlier statuses.Open = subst (λ s. HasSolveOutcome want found left m earlier s) is outcome in
    let work = exhausted.solved.2 in
    lt_irrefl want.plan.budget (lt_of_lt_of_le (spent_few (problem_of m earlier) want.plan exhausted.entries work.trails want.workers work.some work.count work.are_spent) enough)

memory_not_open : (status : Status) → status ≡ statuses.Memory → status ≢ statuses.Open
memory_not_open status memory is = let same : statuses.Memory ≡ statuses.Open = sym memory ∙ is in absurd (cc)

solved : (want : Wanted) (found left : World) (m : Lists) (earlier : List Pair) (status : Status) → NothingFails found left → Lacks found.shelf left.shelf status ⊎ HasSolveOutcome want found left m earlier status → IsOneOf status of_solve × (IsEnough want.plan m earlier → status ≢ statuses.Open)
solved want found left m earlier status nothing (inl lacks) =
    let memory = only_memory found.shelf left.shelf status nothing.reads lacks in
    (memory_among status of_solve (3, omega arith, refl) memory, λ enough. memory_not_open status memory)
solved want found left m earlier status nothing (inr outcome) = (
  solve_ends want found left m earlier status nothing outcome,
  not_spent want found left m earlier status outcome,
)

pub solve_completes : SolveCompletes
solve_completes name file cert workers plan found left status m earlier good nothing outcome =
    solved (wanted workers plan cert) found left m earlier status nothing
    (of_input (HasSolveOutcome (wanted workers plan cert) found left) (outside_of found) (outside_of left) name file m earlier status good outcome)

-- ---- `trial`

abbrev of_trial : List Status
of_trial = statuses.Done ∷ statuses.Open ∷ statuses.Memory ∷ []

abbrev of_limit : List Status
of_limit = statuses.Limit ∷ statuses.Memory ∷ []

trial_within : (goals workers : ℕ) (plan : Plan) (found left : World) (status : Status) → goals ≤ most_goals → NothingFails found left → HasTrialOutcome goals workers plan found left status → IsOneOf status of_trial
trial_within goals workers plan found left statuses.Done within nothing outcome = (0, omega arith, refl)
trial_within goals workers plan found left statuses.Open within nothing outcome = (1, omega arith, refl)
trial_within goals workers plan found left statuses.Memory within nothing outcome = (2, omega arith, refl)
trial_within goals workers plan found left statuses.Write within nothing outcome = absurd (nothing.prints outcome.1.lost.failed)
trial_within goals workers plan found left statuses.Limit within nothing outcome = absurd (lt_irrefl most_goals (lt_of_lt_of_le outcome.0 within))
trial_within goals workers plan found left status within nothing outcome = absurd outcome

trial_past : (goals workers : ℕ) (plan : Plan) (found left : World) (status : Status) → most_goals < goals → NothingFails found left → HasTrialOutcome goals workers plan found left status → IsOneOf status of_limit
trial_past goals workers plan found left statuses.Limit past nothing outcome = (0, omega arith, refl)
trial_past goals workers plan found left statuses.Memory past nothing outcome = (1, omega arith, refl)
trial_past goals workers plan found left statuses.Done past nothing outcome = absurd (lt_irrefl most_goals (lt_of_lt_of_le past outcome.0))
trial_past goals workers plan found left statuses.Open past nothing outcome = absurd (lt_irrefl most_goals (lt_of_lt_of_le past outcome.0))
trial_past goals workers plan found left statuses.Write past nothing outcome = absurd (lt_irrefl most_goals (lt_of_lt_of_le past outcome.0))
trial_past goals workers plan found left status past nothing outcome = absurd outcome

pub trial_completes : TrialCompletes
trial_completes goals workers plan found left status nothing outcome = (
  λ within. trial_within goals workers plan found left status within nothing outcome,
  λ past. trial_past goals workers plan found left status past nothing outcome,
)
