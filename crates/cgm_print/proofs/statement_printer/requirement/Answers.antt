use Rattle.std.proofs.Common.{◌∙◌, []}
use Rattle.cgm_model.specs.Model.{lists_of}
use Rattle.cgm_print.specs.Canonical.{written_formula}
use Rattle.cgm_print.specs.Written.{spelled}
use Rattle.cgm_print.proofs.statement_printer.requirement.Goals as goal

pub returns : goal.returns
returns c =
    c.in_ok-formula.ensures [] ∙ c.in_ok-begin_statement.ensures (spelled (written_formula (lists_of c.args.model.now) c.args.tree.now) [])
