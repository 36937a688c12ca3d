-- What is told of an ended run solves the model, whatever model the problem is the encoding of.
use Rattle.std.proofs.Common.{◌≡◌, ℕ, suc, List, [], ◌∷◌, length, refl, sym, ap, subst, ◌∙◌}
use Rattle.std.specs.Prelude.{Result, Ok, Err}
use Rattle.std.specs.List.{All}
use Rattle.std.proofs.lemmas.List.Elements.{All-cons, All-head, All-nil, All-tail}
use Rattle.cgm_model.specs.declared.lists.Lists.{Lists}
use Rattle.cgm_evolve.specs.Pairs.{Pair}
use Rattle.cgm_atom.specs.declared.entries.Entry.{Entry}
use Rattle.cgm_atom.specs.Acceptance.{IsAccepted, IsClosed}
use Rattle.cgm_atom.specs.Bounds.{AreProperBounds}
use Rattle.cgm_atom.specs.Instance.{Instance}
use Rattle.cgm_atom.specs.Ranges.{IsPrintable}
use Rattle.cgm_crew.specs.Crews.{AreEndsOver, IsEndOver}
use Rattle.cgm_crew.specs.declared.crews.CrewEnd.{CrewEnd}
use Rattle.cgm_encode.specs.declared.answer.Answer.{Answer}
use Rattle.cgm_encode.specs.declared.answer.Answer.TheVariants.{Exhausted, Open, Realized, Unrealizable}
use Rattle.cgm_encode.specs.declared.answer.Encoded.{Encoded}
use Rattle.cgm_encode.specs.Decoding.{ForEncoded}
use Rattle.cgm_encode.specs.Problem.{problem_of}
use Rattle.cgm_log.specs.LogBook.{IsLog, LogBook}
use Rattle.cgm_search.specs.declared.plans.Plan.{Plan}
use Rattle.cgm_search.specs.declared.plans.Stopped.{Stopped}
use Rattle.cgm_search.specs.declared.plans.Stopped.TheVariants as stopped
use Rattle.cgm_search.specs.Spending.{IsSpentTrail}
use Rattle.cgm_trail.specs.TrailState.{TrailState}
use Rattle.cgm_solve.specs.Answers.{IsSolved, LeavesOpen}
use Rattle.cgm_solve.specs.Runs.{IsEnded, IsAnswerTold, IsToldOf}
use Rattle.cgm_solve.specs.Searches.{IsSearchAnswer}
use Rattle.cgm_solve.proofs.Showing.{shows_realized, shows_unrealizable}

-- the log of an ended run, of the problem of a model
record IsModelLog (m : Lists) (pairs : List Pair) (entries : List Entry) : Type 0 where
  proper : AreProperBounds (problem_of m pairs).bounds
  accepted : IsAccepted (problem_of m pairs) entries
  printable : All IsPrintable entries

model_log : (m : Lists) (pairs : List Pair) (book : LogBook) (entries : List Entry) → book.problem ≡ problem_of m pairs → entries ≡ book.entries → IsLog book → IsModelLog m pairs entries
model_log m pairs book entries problem same log = record {
  proper = subst (λ (p : Instance). AreProperBounds p.bounds) problem log.problem.proper;
  accepted = subst (λ (es : List Entry). IsAccepted (problem_of m pairs) es) (sym same) (subst (λ (p : Instance). IsAccepted p book.entries) problem log.accepted);
  printable = subst (λ (es : List Entry). All IsPrintable es) (sym same) log.printable;
}

-- ---- ended workers

abbrev IsSpentEnd : Stopped → Type 0
IsSpentEnd s = s ≡ stopped.Spent

same_count : (p : Instance) (plan : Plan) (log : List Entry) (ss : List Stopped) (ts : List TrailState) → AreEndsOver p plan log ss ts → length ss ≡ length ts
same_count p plan log [] [] h = refl
same_count p plan log [] (t ∷ ts) h = absurd h
same_count p plan log (s ∷ ss) [] h = absurd h
same_count p plan log (s ∷ ss) (t ∷ ts) h = ap (λ (n : ℕ). suc n) (same_count p plan log ss ts h.1)

-- where each worker spent its budget, each trail shows it
all_spent : (p : Instance) (plan : Plan) (log : List Entry) (ss : List Stopped) (ts : List TrailState) → All IsSpentEnd ss → AreEndsOver p plan log ss ts → All (IsSpentTrail p plan log) ts
all_spent p plan log [] [] spent h = All-nil (IsSpentTrail p plan log)
all_spent p plan log [] (t ∷ ts) spent h = absurd h
all_spent p plan log (s ∷ ss) [] spent h = absurd h
all_spent p plan log (s ∷ ss) (t ∷ ts) spent h =
    All-cons (IsSpentTrail p plan log) t ts
    (subst (λ (how : Stopped). IsEndOver p plan log how t) (All-head IsSpentEnd s ss spent) h.0)
    (all_spent p plan log ss ts (All-tail IsSpentEnd s ss spent) h.1)

told_of : (encoded : Encoded) (workers : ℕ) (plan : Plan) (e : CrewEnd) (before after : List TrailState) (answer : Answer) → IsEnded encoded.problem workers plan e → IsToldOf encoded e before after answer → ForEncoded encoded (λ m pairs. IsSolved m pairs workers plan before after answer)
told_of encoded workers plan e before after (Realized found entries) ended told = λ m pairs well_formed encoding.
    let log = model_log m pairs e.log entries (ended.problem ∙ encoding.problem) told.0 ended.log in
    (shows_realized m pairs entries found well_formed log.proper log.accepted told.1 (told.2 m pairs well_formed encoding), log.printable, told.3)
told_of encoded workers plan e before after (Unrealizable entries) ended told = λ m pairs well_formed encoding.
    let log = model_log m pairs e.log entries (ended.problem ∙ encoding.problem) told.0 ended.log in
    (shows_unrealizable m pairs entries well_formed log.proper log.accepted told.1 (told.2 m pairs well_formed encoding), log.printable, told.3)
told_of encoded workers plan e before after (Exhausted best spent entries) ended told = λ m pairs well_formed encoding.
    let log = model_log m pairs e.log entries (ended.problem ∙ encoding.problem) told.0 ended.log in
    let left : LeavesOpen m pairs entries best = record {
      accepted = log.accepted;
      not_closed = subst (λ (es : List Entry). ¬ IsClosed es) (sym told.0) told.1;
      best_is = told.3 m pairs well_formed encoding;
    } in
    let all : All (IsSpentTrail encoded.problem plan e.log.entries) e.trails.items =
    all_spent encoded.problem plan e.log.entries e.stopped.items e.trails.items told.2 ended.ends in (
      left,
      log.printable,
      record {
        trails = e.trails.items;
        some = ended.some;
        count = sym (same_count encoded.problem plan e.log.entries e.stopped.items e.trails.items ended.ends) ∙ sym e.stopped.ok.0 ∙ ended.count;
        are_spent = subst (λ (es : List Entry). All (IsSpentTrail (problem_of m pairs) plan es) e.trails.items) (sym told.0)
            (subst (λ (p : Instance). All (IsSpentTrail p plan e.log.entries) e.trails.items) encoding.problem all);
        added = told.5;
        moves = told.4;
      },
    )
told_of encoded workers plan e before after (Open best) ended told = absurd told

pub told_solves : {E : Type 0} (encoded : Encoded) (workers : ℕ) (plan : Plan) (e : CrewEnd) (before after : List TrailState) (result : Result Answer E) → IsEnded encoded.problem workers plan e → IsAnswerTold encoded e before after result → ForEncoded encoded (λ m pairs. IsSearchAnswer m pairs workers plan before after result)
told_solves encoded workers plan e before after (Ok answer) ended told = told_of encoded workers plan e before after answer ended told
told_solves encoded workers plan e before after (Err error) ended told = λ m pairs well_formed encoding. told
