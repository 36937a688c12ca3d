use Rattle.std.proofs.Common.{◌≡◌, ◌++◌, drop, map, not}
use Rattle.cgm_atom.specs.Literals.{bit}
use Rattle.cgm_obj.specs.Counts.{is_met}
use Rattle.cgm_encode.proofs.values.push_preferences.Given as goal

abbrev pub invariant-loop-p : goal.invariant-loop-p
invariant-loop-p l =
    l.out.items ++ map (λ p. bit (not (is_met l.assignment p))) (drop l.p-index l.prefers)
    ≡ l.initial.out.items ++ map (λ p. bit (not (is_met l.assignment p))) l.prefers
