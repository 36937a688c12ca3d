use Rattle.cgm_model.specs.Model.{lists_of}
use Rattle.cgm_cli.proofs.RuleLines.{line_for_each_rule}
use Rattle.cgm_cli.proofs.file.reading_of_text.Goals as goal

pub returns-in-Ok-clause-lines : goal.returns-in-Ok-clause-lines
returns-in-Ok-clause-lines g c =
    line_for_each_rule c.args.text.now (lists_of c.in-Ok.reading.model) c.in-Ok.reading.rule_lines.items c.in-Ok.ensures.read
