use Rattle.std.proofs.Common.{ℕ, ◌<◌, List, length, IsSomeAnd, Option, Err, ap, subst, sym, inl, inr}
use Rattle.cgm_base.specs.declared.status.Status.{Status}
use Rattle.cgm_base.specs.declared.status.Status.TheVariants as statuses
use Rattle.cgm_shelf.specs.Shelf.{ShelfState, WhereTold}
use Rattle.cgm_shelf.specs.Sink.{SinkState}
use Rattle.cgm_cli.specs.Effects.{TellsOrLacksMemory, outside}
use Rattle.cgm_cli.specs.FaultLines.{limit_fault}
use Rattle.cgm_cli.specs.Inputs.{HasNoContent, text_limit}
use Rattle.cgm_cli.proofs.file.read_file.Goals as goal

-- the limit that the file passes was told, or memory is wanted for its line
past_limit : (name : List ℕ) (limit : Option ℕ) (old new : ShelfState) (sink said : SinkState) (status : Status) → IsSomeAnd limit (λ most. WhereTold old.files name (λ file. most < length file)) → TellsOrLacksMemory (limit_fault text_limit) statuses.Limit sink said status → HasNoContent name limit (outside old sink) (outside new said) status
past_limit name limit old new sink said status past (inl told) =
    subst (λ s. HasNoContent name limit (outside old sink) (outside new said) s) (sym told.0) (past, told.1)
past_limit name limit old new sink said status past (inr memory) =
    subst (λ s. HasNoContent name limit (outside old sink) (outside new said) s) (sym memory.0) memory.1

pub returns-in-Err-TooLong-clause-outcome : goal.returns-in-Err-TooLong-clause-outcome
returns-in-Err-TooLong-clause-outcome g c =
    let old = g.F.Shelf.state c.args.shelf.now in
    let new = g.F.Shelf.state c.read_whole.new.shelf in
    let sink = g.O.Sink.state c.args.out.now in
    let said = g.O.Sink.state c.tell_fault.new.out in
    past_limit c.args.name.now c.args.limit old new sink said c.tell_fault.result
    (c.in-Err-TooLong.ensures.too_long (ap Err c.in-Err-TooLong.field-0-is))
    (subst (λ limit. TellsOrLacksMemory (limit_fault limit) statuses.Limit sink said c.tell_fault.result) c.too_long.ensures c.tell_fault.ensures)
