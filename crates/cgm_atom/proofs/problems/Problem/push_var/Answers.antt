use Rattle.std.proofs.Common.{◌≡◌, ◌++◌, [], ◌∷◌, rules}
use Rattle.cgm_atom.specs.Fields.{instance}
use Rattle.cgm_atom.proofs.Growing.{IsWellFormed-with_var}
use Rattle.cgm_atom.proofs.problems.Problem.push_var.Goals as goal

pub invariant_of-self-in_default : goal.invariant_of-self-in_default
invariant_of-self-in_default c =
    let r = c.requires in
    let low : c.push.new.self.items ≡ c.self.inside.lower.items ++ c.args.lo ∷ [] = search rules in
    let high : c.push-2.new.self.items ≡ c.self.inside.upper.items ++ c.args.hi ∷ [] = search rules in
    rw (low, high)
    (IsWellFormed-with_var (instance c.self.inside) c.args.lo c.args.hi c.self.invariant r.ordered r.low r.high (rw (← c.self.view_is) at r.room))
