-- The quantities of a model under an assignment, and its vector: one number for each objective, in order.
use Rattle.std.specs.Prelude.{ℤ, pos, neg_ℤ, List, map, slice_index_or, if◌then◌else◌}
use Rattle.cgm_formula.specs.declared.assignment.Assignment.{Assignment}
use Rattle.cgm_model.specs.declared.lists.Lists.{Lists}
use Rattle.cgm_model.specs.declared.lists.Objective.{Objective}
use Rattle.cgm_model.specs.declared.lists.Quantity.{Quantity}
use Rattle.cgm_model.specs.declared.lists.Quantity.TheVariants as quantities
use Rattle.cgm_model.specs.Sums.{sums_of, weight}
use Rattle.cgm_evolve.specs.Costs.{effort, familiarity}
use Rattle.cgm_evolve.specs.Pairs.{Pair}
use Rattle.cgm_obj.specs.Counts.{sat_tasks, unsat_prefs, unsat_reqs}

abbrev pub quantity : Lists → List Pair → Assignment → Quantity → ℤ
quantity m pairs a (quantities.Var k) = slice_index_or a.vars k (pos 0)
quantity m pairs a (quantities.Sum k) = slice_index_or (sums_of m a) k (pos 0)
quantity m pairs a quantities.Weight = weight m a
quantity m pairs a quantities.UnsatPrefs = pos (unsat_prefs m a)
quantity m pairs a quantities.UnsatReqs = pos (unsat_reqs m a)
quantity m pairs a quantities.SatTasks = pos (sat_tasks m a)
quantity m pairs a quantities.Familiarity = pos (familiarity m pairs a)
quantity m pairs a quantities.Effort = pos (effort m pairs a)

-- the quantity for `min`, and with its sign changed for `max`
abbrev pub objective_number : Lists → List Pair → Assignment → Objective → ℤ
objective_number m pairs a o = if o.max then neg_ℤ (quantity m pairs a o.of) else quantity m pairs a o.of

unfoldable pub vector_of : Lists → List Pair → Assignment → List ℤ
vector_of m pairs a = map (objective_number m pairs a) m.objectives
