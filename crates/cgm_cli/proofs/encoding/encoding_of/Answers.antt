use Rattle.std.proofs.Common.{Err, subst}
use Rattle.cgm_encode.specs.Encoding.{IsEncodeAnswer}
use Rattle.cgm_model.specs.Model.{lists_of}
use Rattle.cgm_cli.proofs.encoding.encoding_of.Goals as goal

pub tell_row_limit-requires-clause-first : goal.tell_row_limit-requires-clause-first
tell_row_limit-requires-clause-first g c =
    subst (λ stop. IsEncodeAnswer (lists_of c.args.input.now.reading.model) c.args.input.now.earlier.pairs (Err stop)) c.in-Err-Row.field-0-is c.in-Err-Row.ensures
