-- The problem and the box that the fields of a `Problem` and a `BoxState` keep.
use Rattle.cgm_atom.specs.declared.boxes.BoxState.TheInside as box_state
use Rattle.cgm_atom.specs.declared.problems.Problem.TheInside.{Inside}
use Rattle.cgm_atom.specs.Bounds.{Bounds}
use Rattle.cgm_atom.specs.Instance.{Instance}

abbrev pub instance : Inside → Instance
instance p = record {
  bounds = record { lower = p.lower.items; upper = p.upper.items };
  clauses = p.clauses.items;
  rows = p.rows.items;
  objectives = p.objectives.items;
}

abbrev pub box_bounds : box_state.Inside → Bounds
box_bounds b = record { lower = b.lower.items; upper = b.upper.items }
