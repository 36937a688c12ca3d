use Rattle.std.proofs.Common.{◌≡◌, List, ℤ, pos, get_or, unsigned_abs, to_z, of_z, w64, ap, ◌∙◌, rules}
use Rattle.cgm_gen.specs.Draws.{least_cost}
use Rattle.cgm_cli.proofs.trial.cost_found.Goals as goal

pub returns : goal.returns
returns c =
    let found = get_or c.args.vector.now 0 (pos 0) in
    let read : to_z w64 (of_z w64 found) ≡ found = search rules in
    let is : found ≡ pos (least_cost c.args.goals) = ap (λ (zs : List ℤ). get_or zs 0 (pos 0)) c.requires in
    c.unsigned_abs.ensures.value ∙ ap unsigned_abs (read ∙ is)
