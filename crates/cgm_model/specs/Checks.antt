-- The two tests of linear expressions.
use Rattle.std.specs.Prelude.{Bool}
use Rattle.cgm_formula.specs.declared.formula.Linear.{Linear}
use Rattle.cgm_model.specs.declared.formulas.LinearTest.{LinearTest}
use Rattle.cgm_model.specs.declared.formulas.LinearTest.TheVariants as checks
use Rattle.cgm_model.specs.Formulas.{has_small_terms, has_distinct_terms}

abbrev pub passes : LinearTest → Linear → Bool
passes checks.Small l = has_small_terms l
passes checks.Distinct l = has_distinct_terms l
