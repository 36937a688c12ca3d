use Rattle.std.proofs.Common.{◌≡◌, ℕ, List, IfOk, subst, sym}
use Rattle.std.specs.String.{string_bytes}
use Rattle.cgm_gen.proofs.Writing.{goal_flat}
use Rattle.cgm_gen.proofs.lines.goal_lines.Goals as goal

pub returns : goal.returns
returns c =
    subst (λ (bs : List ℕ). IfOk c.format.result (λ text. string_bytes text ≡ bs)) (sym (goal_flat c.args.place)) c.format.ensures.ok
