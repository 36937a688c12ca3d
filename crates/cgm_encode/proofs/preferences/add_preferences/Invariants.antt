use Rattle.std.specs.Prelude.{flat_map}
use Rattle.std.specs.List.{zip}
use Rattle.cgm_atom.proofs.Additions.{AreLeft}
use Rattle.cgm_model.specs.Model.{lists_of}
use Rattle.cgm_encode.specs.Problem.{preference_clauses}
use Rattle.cgm_encode.proofs.PairedPlaces.{clauses_behind}
use Rattle.cgm_encode.proofs.preferences.add_preferences.Given as goal

abbrev pub invariant-loop-place : goal.invariant-loop-place
invariant-loop-place l =
    AreLeft l.fn.builder (flat_map (preference_clauses (lists_of l.model)) (zip l.variables l.prefers)) l.builder
    (clauses_behind (preference_clauses (lists_of l.model)) l.place l.variables l.prefers)
