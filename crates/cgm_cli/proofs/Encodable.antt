-- A generated model has an encoding: its one comparison is far within the row limit.
use Rattle.std.proofs.Common.{ℕ, ◌+◌, ◌*◌, ◌≤◌, List, pos, ◌∙◌, arith}
use Rattle.std.proofs.lemmas.Bool.{le-leb}
use Rattle.cgm_atom.specs.Limits.{greatest_size, max_measure}
use Rattle.cgm_formula.specs.declared.formula.Number.TheVariants as numbers
use Rattle.cgm_model.specs.declared.lists.Lists.{Lists}
use Rattle.cgm_model.specs.WellFormed.{IsWellFormedModel}
use Rattle.cgm_enc_formula.specs.Measures.{comparison_measure}
use Rattle.cgm_enc_formula.specs.Terms.{number_variable}
use Rattle.cgm_enc_formula.proofs.MeasureTests.{small-AtMost}
use Rattle.cgm_encode.specs.Encoding.{IsEncodable, number_box}
use Rattle.cgm_encode.specs.Problem.{number_ranges}
use Rattle.cgm_encode.proofs.KnownParts.{known_parts}
use Rattle.cgm_encode.proofs.KnownSizes.{known_sizes}
use Rattle.cgm_encode.proofs.ProblemSizes.{numbers_small, size_within}
use Rattle.cgm_gen.specs.declared.costs.Costs.{Costs}
use Rattle.cgm_gen.specs.Draws.{costs_of, most_goals}
use Rattle.cgm_gen.specs.GeneratedModel.{cost_term, generated_model, model_of_costs}
use Rattle.cgm_gen.proofs.InOrder.{generated_is_well_formed}

-- the bounds of each variable and of each sum of a well-formed model are modest
size_few : (m : Lists) → IsWellFormedModel m → (x : ℕ) → greatest_size (number_box m) x ≤ 1000000000000
size_few m well x =
    size_within 1000000000000 (number_ranges m) (numbers_small m (known_parts m ∣ well ∣₁) (known_sizes m ∣ well ∣₁)) x

weighed : (size : ℕ) → size ≤ 1000000000000 → 800 + (1 * size + 0) ≤ 4000000000000000000
weighed size few = omega (arith, few)

cost_measured : (m : Lists) → IsWellFormedModel m → comparison_measure m (number_box m) (cost_term, pos 800) ≤ 4000000000000000000
cost_measured m well =
    let sum : ℕ = number_variable m (numbers.Sum 0) in
    weighed (greatest_size (number_box m) sum) (size_few m well sum)

encodable : (costs : List Costs) → IsWellFormedModel (model_of_costs costs) → IsEncodable (model_of_costs costs)
encodable costs well =
    let m : Lists = model_of_costs costs in (
      small-AtMost m (number_box m) cost_term (pos 800)
          ∙ le-leb (comparison_measure m (number_box m) (cost_term, pos 800)) max_measure (cost_measured m well),
      tt,
    )

pub generated_is_encodable : (goals : ℕ) → goals ≤ most_goals → IsEncodable (generated_model goals)
unfolding generated_model
generated_is_encodable goals within = encodable (costs_of goals) (generated_is_well_formed goals within)
