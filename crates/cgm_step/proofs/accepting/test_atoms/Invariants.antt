use Rattle.std.proofs.Common.{◌≡◌, drop}
use Rattle.std.specs.List.{position_from}
use Rattle.cgm_atom.specs.Instance.{var_count}
use Rattle.cgm_step.proofs.Testing.{is_unknown}
use Rattle.cgm_step.proofs.accepting.test_atoms.Given as goal

abbrev pub invariant-loop-i : goal.invariant-loop-i
invariant-loop-i l =
    position_from (is_unknown (var_count l.problem)) l.i (drop l.i l.atoms) ≡ position_from (is_unknown (var_count l.problem)) 0 l.atoms
