use Rattle.std.proofs.Common.{◌≡◌, drop, max}
use Rattle.std.specs.List.{position_from}
use Rattle.cgm_atom.specs.LogState.{greatest_carried}
use Rattle.cgm_step.proofs.Testing.{is_missing}
use Rattle.cgm_step.proofs.accepting.test_hints.Given as goal

-- the first hint that names nothing isn't among those so far, of which this is the greatest that they carry
abbrev pub invariant-loop-i : goal.invariant-loop-i
invariant-loop-i l =
    (position_from (is_missing l.problem l.log) l.i (drop l.i l.hints) ≡ position_from (is_missing l.problem l.log) 0 l.hints)
    × (max l.greatest (greatest_carried l.log (drop l.i l.hints)) ≡ greatest_carried l.log l.hints)
