use Rattle.std.proofs.Common.{◌∙◌, sym}
use Rattle.cgm_lex.proofs.Numbering.{number_is}
use Rattle.cgm_lex.proofs.number.number_of.Goals as goal

pub returns : goal.returns
returns c = c.ok.ensures.value ∙ sym (number_is c.parse_i64.result c.args.run.now c.requires c.parse_i64.ensures)
