-- The words of the built-in quantities; a variable and a sum have names and no word.
use Rattle.std.specs.Prelude.{ℕ, List, [], codes}
use Rattle.cgm_model.specs.declared.lists.Quantity.{Quantity}
use Rattle.cgm_model.specs.declared.lists.Quantity.TheVariants as quantities

abbrev pub quantity_word : Quantity → List ℕ
quantity_word (quantities.Var k) = []
quantity_word (quantities.Sum k) = []
quantity_word quantities.Weight = codes "weight"
quantity_word quantities.UnsatPrefs = codes "unsat_prefs"
quantity_word quantities.UnsatReqs = codes "unsat_reqs"
quantity_word quantities.SatTasks = codes "sat_tasks"
quantity_word quantities.Familiarity = codes "familiarity"
quantity_word quantities.Effort = codes "effort"
