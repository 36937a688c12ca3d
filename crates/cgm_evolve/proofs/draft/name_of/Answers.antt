use Rattle.std.proofs.Common.{◌∙◌}
use Rattle.cgm_lex.proofs.Spelled.{spelled_utf8}
use Rattle.cgm_evolve.proofs.draft.name_of.Goals as goal

pub returns : goal.returns
returns c =
    c.of.ensures ∙ c.in_ok-from_utf8_lossy.ensures.ok (spelled_utf8 c.args.bytes.now c.requires)
