use Rattle.std.proofs.Common.{◌<◌, length, get_or, subst, sym}
use Rattle.cgm_base.specs.declared.status.Status.TheVariants as statuses
use Rattle.cgm_model.specs.Model.{lists_of}
use Rattle.cgm_cli.specs.FaultLines.{limit_fault}
use Rattle.cgm_cli.specs.Effects.{TellsOrLacksMemory}
use Rattle.cgm_cli.specs.Inputs.{row_limit}
use Rattle.cgm_cli.proofs.RuleLines.{has_line, no_problem}
use Rattle.cgm_cli.proofs.encoding.tell_row_limit.Goals as goal

pub bounds-rule_lines-rule : goal.bounds-rule_lines-rule
bounds-rule_lines-rule g c =
    let read = c.args.input.now.reading in
    subst (λ xs. c.args.rule < length xs) (sym c.as_slice-rule_lines.ensures.value)
    (has_line (lists_of read.model) read.rule_lines.items c.args.rule c.requires.lines c.requires.first)

pub returns : goal.returns
returns g c =
    let read = c.args.input.now.reading in
    let old = g.O.Sink.state c.args.out.now in
    let new = g.O.Sink.state c.tell_fault.new.out in
    no_problem (lists_of read.model) read.rule_lines.items c.args.rule old new c.tell_fault.result c.requires.lines c.requires.first
    (subst (λ xs. TellsOrLacksMemory (limit_fault (row_limit (get_or xs c.args.rule 0))) statuses.Limit old new c.tell_fault.result) c.as_slice-rule_lines.ensures.value c.tell_fault.ensures)
