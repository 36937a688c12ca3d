use Rattle.std.proofs.Common.{◌≡◌, ◌∙◌, of_z, to_z, w64, rules}
use Rattle.cgm_model.specs.Model.{lists_of}
use Rattle.cgm_enc_formula.proofs.NamingSteps.{row_terms_fit, row_terms_small, row_within}
use Rattle.cgm_enc_formula.proofs.names.name_at_most.Goals as goal

pub define_at_most-requires-clause-known : goal.define_at_most-requires-clause-known
define_at_most-requires-clause-known c =
    row_terms_fit (lists_of c.args.model.now) c.args.builder.now c.args.linear.now c.args.k c.as_slice.result.now (c.as_slice.ensures.value ∙ c.in_ok-terms.ensures) c.requires.variables c.requires.comparison

pub define_at_most-requires-clause-coefficients : goal.define_at_most-requires-clause-coefficients
define_at_most-requires-clause-coefficients c =
    row_terms_small (lists_of c.args.model.now) c.args.builder.now.bounds c.args.linear.now c.args.k c.as_slice.result.now (c.as_slice.ensures.value ∙ c.in_ok-terms.ensures) c.requires.comparison

pub define_at_most-requires-clause-size : goal.define_at_most-requires-clause-size
define_at_most-requires-clause-size c =
    let k : to_z w64 (of_z w64 c.args.k) ≡ c.args.k = search rules in
    row_within (lists_of c.args.model.now) c.args.builder.now c.args.linear.now c.args.k (to_z w64 (of_z w64 c.args.k)) c.as_slice.result.now k (c.as_slice.ensures.value ∙ c.in_ok-terms.ensures) c.requires.comparison
