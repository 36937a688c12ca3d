use Rattle.std.proofs.Common.{◌∙◌}
use Rattle.cgm_encode.proofs.CombinedTerms.{table_terms}
use Rattle.cgm_encode.proofs.expressions.combined_terms.Goals as goal

pub returns : goal.returns
returns c =
    λ n known.
    c.in_ok-terms.ensures.terms
    ∙ table_terms n c.args.shares.now c.in_ok-numbers.numbers c.in_ok-terms.ensures.ordered c.in_ok-numbers.ensures known
