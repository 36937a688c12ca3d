-- What comes of a generated model: it is read, has an encoding and a realization, and its checked entries show the stated cost.
use Rattle.std.proofs.Common.{◌≡◌, ℕ, ◌<◌, ◌≤◌, ◌↔◌, Bool, IsTrue, List, [], ◌∷◌, ◌++◌, codes, append_assoc, ℤ, pos, ◌≤ℤ◌, IsSomeAnd, Option, None, refl, sym, ap, ◌∙◌, subst, inl, inr, arith}
use Rattle.std.specs.Fmt.{decimal}
use Rattle.std.proofs.lemmas.Bool.{false≢true}
use Rattle.std.proofs.lemmas.Int.{by_lt_z, ints}
use Rattle.cgm_base.specs.declared.status.Status.{Status}
use Rattle.cgm_base.specs.declared.status.Status.TheVariants as statuses
use Rattle.cgm_base.specs.Order.{IsLess}
use Rattle.cgm_base.specs.Place.{FirstFails}
use Rattle.cgm_base.specs.Printed.{line}
use Rattle.cgm_model.specs.declared.lists.Lists.{Lists}
use Rattle.cgm_model.specs.declared.model.Model.{Model}
use Rattle.cgm_model.specs.Model.{lists_of}
use Rattle.cgm_text.specs.Text.{IsReading, IsTextOf}
use Rattle.cgm_text.proofs.Outcomes.{one_model}
use Rattle.cgm_evolve.specs.Pairs.{Pair}
use Rattle.cgm_obj.specs.Vector.{vector_of}
use Rattle.cgm_atom.specs.declared.entries.Entry.{Entry}
use Rattle.cgm_atom.specs.LogState.{last_best, state_of}
use Rattle.cgm_shelf.specs.Shelf.{ShelfState}
use Rattle.cgm_shelf.specs.Sink.{SinkState}
use Rattle.cgm_trail.specs.TrailState.{TrailState}
use Rattle.cgm_search.specs.declared.plans.Plan.{Plan}
use Rattle.cgm_encode.specs.declared.answer.Answer.{Answer}
use Rattle.cgm_encode.specs.declared.answer.Answer.TheVariants.{Exhausted, Open, Realized, Unrealizable}
use Rattle.cgm_encode.specs.declared.answer.Found.{Found}
use Rattle.cgm_encode.specs.Encoding.{IsEncodable, number_box}
use Rattle.cgm_encode.specs.Problem.{problem_of}
use Rattle.cgm_enc_formula.specs.Measures.{IsWithinMeasure}
use Rattle.cgm_solve.specs.declared.verifying.Verified.{Verified}
use Rattle.cgm_solve.specs.declared.verifying.Verified.TheVariants.{Refused, Shown}
use Rattle.cgm_solve.specs.Answers.{HasNoRealization, IsSolved, IsVerified, ShowsRealized}
use Rattle.cgm_gen.specs.Draws.{least_cost, most_goals}
use Rattle.cgm_gen.specs.GeneratedModel.{generated_model}
use Rattle.cgm_gen.specs.GeneratedText.{generated_text}
use Rattle.cgm_gen.specs.Laws.{GeneratedHasLeast, GeneratedIsRead, GeneratedIsRealized}
use Rattle.cgm_gen.specs.Realized.{cost_in, generated_realization}
use Rattle.cgm_cli.specs.Answers.{answer_status}
use Rattle.cgm_cli.specs.Effects.{IsPrinted, PrintsReportOrLacksMemory, TellsOrLacksMemory, World, world}
use Rattle.cgm_cli.specs.FaultLines.{limit_fault}
use Rattle.cgm_cli.specs.Outcome.{IsWorkOfSearch}
use Rattle.cgm_cli.specs.TrialOutcome.{HasNothingGenerated, HasTrialOutcome, IsTrialAnswer, cost_vector, is_least_verdict, summary_of, trial_limit, trial_report}
use Rattle.cgm_cli.proofs.Accepting.{not_refused}
use Rattle.cgm_cli.proofs.Encodable.{generated_is_encodable}
use Rattle.cgm_cli.proofs.GoodInputs.{holds_each}
use Rattle.cgm_cli.proofs.Solving.{extended, reportable, unchanged, vector_is, work_of_answer}

-- ---- what a search answers of a generated model

pub concluded : (goals workers : ℕ) (plan : Plan) (old new : List TrailState) (answer : Answer) → IsSolved (generated_model goals) [] workers plan old new answer → IsTrialAnswer goals answer
concluded goals workers plan old new (Realized found entries) solved = solved.0
concluded goals workers plan old new (Unrealizable entries) solved = solved.0.none
concluded goals workers plan old new (Exhausted best spent entries) solved =
    reportable (generated_model goals) [] workers plan old new (Exhausted best spent entries) solved
concluded goals workers plan old new (Open best) solved = solved

-- a generated model has a realization, so no search answers that there is none
pub realizable : GeneratedIsRealized → (goals : ℕ) → goals ≤ most_goals → ¬ HasNoRealization (generated_model goals)
realizable realized goals within none = none (generated_realization goals) (realized goals within).0

module _ (goals workers : ℕ) (plan : Plan) (shelf : ShelfState) (sink said : SinkState) (work done : List TrailState) (within : goals ≤ most_goals) where
  abbrev found : World
  found = world shelf sink work

  abbrev left : World
  left = world shelf said done

  whole : (answer : Answer) → ¬ HasNoRealization (generated_model goals) → IsSolved (generated_model goals) [] workers plan work done answer → IsPrinted (trial_report goals answer) sink said → HasTrialOutcome goals workers plan found left (answer_status answer)
  whole (Realized best entries) some solved bytes =
      (within, record { found = best; entries = entries; shown = solved.0; printed = bytes })
  whole (Unrealizable entries) some solved bytes = absurd (some solved.0.none)
  whole (Exhausted best spent entries) some solved bytes = (
    within,
    record {
      best = best;
      spent = spent;
      entries = entries;
      solved = solved;
      certified = record { same = refl; counted = refl };
      printed = bytes;
    },
  )
  whole (Open best) some solved bytes = absurd solved

  -- the answer was printed, or the sink failed over it, or memory was wanted
  pub answered : (answer : Answer) (status : Status) → ¬ HasNoRealization (generated_model goals) → IsSolved (generated_model goals) [] workers plan work done answer → PrintsReportOrLacksMemory (trial_report goals answer) (answer_status answer) sink said status → HasTrialOutcome goals workers plan found left status
  answered answer status some solved (inl (inl printed)) =
      subst (λ s. HasTrialOutcome goals workers plan found left s) (sym printed.0) (whole answer some solved printed.1)
  answered answer status some solved (inl (inr cut)) =
      subst (λ s. HasTrialOutcome goals workers plan found left s) (sym cut.0)
      (within, record { answer = answer; solved = solved; lost = cut.1 })
  answered answer status some solved (inr memory) =
      subst (λ s. HasTrialOutcome goals workers plan found left s) (sym memory.0) memory.1

  -- what is left of the trails
  pub work_answered : (answer : Answer) (status : Status) → IsSolved (generated_model goals) [] workers plan work done answer → PrintsReportOrLacksMemory (trial_report goals answer) (answer_status answer) sink said status → IsWorkOfSearch work done status
  work_answered answer status solved (inl (inl printed)) =
      subst (λ s. IsWorkOfSearch work done s) (sym printed.0) (work_of_answer (generated_model goals) [] workers plan work done answer solved)
  work_answered answer status solved (inl (inr cut)) =
      subst (λ s. IsWorkOfSearch work done s) (sym cut.0) (extended (generated_model goals) [] workers plan work done answer solved)
  work_answered answer status solved (inr memory) =
      subst (λ s. IsWorkOfSearch work done s) (sym memory.0) (extended (generated_model goals) [] workers plan work done answer solved)

-- ---- what checked entries show

no_best : (best : Option (List ℤ)) (P : List ℤ → Type 0) → best ≡ None → IsSomeAnd best P → ⊥
no_best best P none some = subst (λ o. IsSomeAnd o P) none some

least_verdict : (m : Lists) (entries : List Entry) (verified : Verified) → IsVerified m [] entries verified → IsTrue (is_least_verdict verified) ↔ ((found : Found) × ShowsRealized m [] entries found)
least_verdict m entries (Shown (Realized found own)) is = (λ yes. (found, is.1), λ shown. refl)
least_verdict m entries (Shown (Unrealizable own)) is =
    (λ yes. absurd (false≢true yes), λ shown. absurd (no_best (last_best (state_of entries)) _ is.1.no_best shown.1.best))
least_verdict m entries (Shown (Exhausted best spent own)) is = absurd is
least_verdict m entries (Shown (Open best)) is =
    (λ yes. absurd (false≢true yes), λ shown. absurd (is.not_closed shown.1.closed))
least_verdict m entries (Refused step why) is =
    (λ yes. absurd (false≢true yes), λ shown. absurd (not_refused (problem_of m []) entries step why shown.1.accepted is))

-- ---- the cost of what is found

-- of two vectors of one number, neither is less where the first is at most the second and not less
same_number : (least cost : ℤ) → least ≤ℤ cost → ¬ IsLess (least ∷ []) (cost ∷ []) → cost ≡ least
same_number least cost most not_less =
    by_lt_z least cost (λ under. absurd (not_less (inl under))) (λ over. omega (arith, ints, most, over))

pub cost_is : GeneratedIsRealized → GeneratedHasLeast → (goals : ℕ) → goals ≤ most_goals → (entries : List Entry) (found : Found) → ShowsRealized (generated_model goals) [] entries found → found.vector ≡ cost_vector goals
cost_is realized has_least goals within entries found shown =
    let m = generated_model goals in
    let own = realized goals within in
    let of_found = has_least goals within [] found.assignment shown.least.realizes in
    let of_own = has_least goals within [] (generated_realization goals) own.0 in
    let own_vector : vector_of m [] (generated_realization goals) ≡ pos (least_cost goals) ∷ [] = of_own.1 ∙ ap (λ cost. cost ∷ []) own.1 in
    let not_less : ¬ IsLess (pos (least_cost goals) ∷ []) (cost_in m found.assignment ∷ []) =
    subst (λ v. ¬ IsLess v (cost_in m found.assignment ∷ [])) own_vector
    (subst (λ v. ¬ IsLess (vector_of m [] (generated_realization goals)) v) of_found.1 (shown.least.least (generated_realization goals) own.0)) in
    vector_is m [] (last_best (state_of entries)) found shown.best
    ∙ of_found.1
    ∙ ap (λ cost. cost ∷ []) (same_number (pos (least_cost goals)) (cost_in m found.assignment) of_found.0 not_less)

-- ---- steps of `trial`

too_many : (goals workers : ℕ) (plan : Plan) (shelf : ShelfState) (sink said : SinkState) (work : List TrailState) (status : Status) → most_goals < goals → TellsOrLacksMemory (limit_fault trial_limit) statuses.Limit sink said status → HasTrialOutcome goals workers plan (world shelf sink work) (world shelf said work) status
too_many goals workers plan shelf sink said work status past (inl told) =
    subst (λ s. HasTrialOutcome goals workers plan (world shelf sink work) (world shelf said work) s) (sym told.0) (past, told.1)
too_many goals workers plan shelf sink said work status past (inr memory) =
    subst (λ s. HasTrialOutcome goals workers plan (world shelf sink work) (world shelf said work) s) (sym memory.0) memory.1

-- no model was generated, so nothing was solved
pub nothing_generated : (goals workers : ℕ) (plan : Plan) (shelf : ShelfState) (sink said : SinkState) (work : List TrailState) (status : Status) → HasNothingGenerated goals sink said status → HasTrialOutcome goals workers plan (world shelf sink work) (world shelf said work) status
nothing_generated goals workers plan shelf sink said work status (inl past) =
    too_many goals workers plan shelf sink said work status past.0 past.1
nothing_generated goals workers plan shelf sink said work status (inr memory) =
    subst (λ s. HasTrialOutcome goals workers plan (world shelf sink work) (world shelf said work) s) (sym memory.0) memory.1

pub unchanged_memory : (work : List TrailState) (status : Status) → IsWorkOfSearch work work status
unchanged_memory work status = unchanged work work status refl

-- what is read of a generated text is its model
pub reading_of_generated : GeneratedIsRead → (goals : ℕ) (text : List ℕ) (m : Lists) (lines : List ℕ) → goals ≤ most_goals → text ≡ generated_text goals → IsReading text m lines → m ≡ generated_model goals
reading_of_generated read goals text m lines within is reading =
    one_model text m (generated_model goals) (reading.said, (reading.has, reading.model_is))
    (subst (λ bytes. IsTextOf bytes (generated_model goals)) (sym is) (read goals within))

-- what is solved is the generated model, with nothing known of an earlier realization, by the workers that are asked for
pub solved_generated : (model : Model) (goals : ℕ) (pairs : List Pair) (workers_for : ℕ → ℕ) (asked workers : ℕ) (given plan : Plan) (old new : List TrailState) (answer : Answer) → lists_of model ≡ generated_model goals → pairs ≡ [] → asked ≡ workers → given ≡ plan → IsSolved (lists_of model) pairs (workers_for asked) given old new answer → IsSolved (generated_model goals) [] (workers_for workers) plan old new answer
solved_generated model goals pairs workers_for asked workers given plan old new answer is none many same solved =
    subst (λ m. IsSolved m [] (workers_for workers) plan old new answer) is
    (subst (λ ps. IsSolved (lists_of model) ps (workers_for workers) plan old new answer) none
    (subst (λ k. IsSolved (lists_of model) pairs (workers_for k) plan old new answer) many
    (subst (λ p. IsSolved (lists_of model) pairs (workers_for asked) p old new answer) same solved)))

pub least_shown : (m : Lists) (pairs : List Pair) (entries : List Entry) (verified : Verified) (least : Bool) → pairs ≡ [] → least ≡ is_least_verdict verified → IsVerified m pairs entries verified → IsTrue least ↔ ((found : Found) × ShowsRealized m [] entries found)
least_shown m pairs entries verified least none is shown =
    subst (λ b. IsTrue b ↔ ((found : Found) × ShowsRealized m [] entries found)) (sym is)
    (least_verdict m entries verified (subst (λ ps. IsVerified m ps entries verified) none shown))

-- a model with an encoding passes no row limit
pub never_past : (m : Lists) (rule : ℕ) → IsEncodable m → FirstFails (IsWithinMeasure m (number_box m)) m.rules rule → ⊥
never_past m rule encodable first = holds_each 0 (IsWithinMeasure m (number_box m)) m.rules rule encodable first

pub never_past_generated : (model : Model) (goals rule : ℕ) → goals ≤ most_goals → lists_of model ≡ generated_model goals → FirstFails (IsWithinMeasure (lists_of model) (number_box (lists_of model))) (lists_of model).rules rule → ⊥
never_past_generated model goals rule within is first =
    never_past (lists_of model) rule (subst IsEncodable (sym is) (generated_is_encodable goals within)) first

-- a shelf that tells nothing
pub no_shelf : ShelfState
no_shelf = record { files = None; read_faults = 0; write_faults = 0 }

-- ---- what is printed

-- the three lines, around the bytes of the two numbers
summary_around : (goals cost : List ℕ) → codes "trial " ++ (goals ++ (10 ∷ (codes "objective min cost " ++ (cost ++ (10 ∷ line (codes "verdict least")))))) ≡ line (codes "trial " ++ goals) ++ (line (codes "objective min cost " ++ cost) ++ line (codes "verdict least"))
summary_around goals cost =
    let last : List ℕ = line (codes "verdict least") in
    let inner : cost ++ (10 ∷ last) ≡ (cost ++ 10 ∷ []) ++ last = sym (append_assoc cost (10 ∷ []) last) in
    let rest : List ℕ = line (codes "objective min cost " ++ cost) ++ last in
    let outer : goals ++ (10 ∷ rest) ≡ (goals ++ 10 ∷ []) ++ rest = sym (append_assoc goals (10 ∷ []) rest) in
    ap (λ (tail : List ℕ). codes "trial " ++ (goals ++ (10 ∷ (codes "objective min cost " ++ tail)))) inner
    ∙ ap (λ (tail : List ℕ). codes "trial " ++ tail) outer

pub summary_lines : (goals cost : ℕ) → codes "trial " ++ (decimal goals ++ (10 ∷ (codes "objective min cost " ++ (decimal cost ++ (10 ∷ line (codes "verdict least")))))) ≡ summary_of goals cost
summary_lines goals cost = summary_around (decimal goals) (decimal cost)
