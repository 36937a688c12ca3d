-- The status and the entries of each answer.
use Rattle.std.specs.Prelude.{List, []}
use Rattle.cgm_base.specs.declared.status.Status.{Status}
use Rattle.cgm_base.specs.declared.status.Status.TheVariants as statuses
use Rattle.cgm_atom.specs.declared.entries.Entry.{Entry}
use Rattle.cgm_encode.specs.declared.answer.Answer.{Answer}
use Rattle.cgm_encode.specs.declared.answer.Answer.TheVariants as answers

abbrev pub answer_status : Answer → Status
answer_status (answers.Realized found entries) = statuses.Done
answer_status (answers.Unrealizable entries) = statuses.Unrealizable
answer_status (answers.Exhausted best spent entries) = statuses.Open
answer_status (answers.Open best) = statuses.Open

-- an answer that leaves open which realization is least has none of its own
abbrev pub entries_of : Answer → List Entry
entries_of (answers.Realized found entries) = entries
entries_of (answers.Unrealizable entries) = entries
entries_of (answers.Exhausted best spent entries) = entries
entries_of (answers.Open best) = []
