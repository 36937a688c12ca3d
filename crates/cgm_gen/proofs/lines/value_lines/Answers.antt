use Rattle.std.proofs.Common.{◌≡◌, ℕ, List, IfOk, subst, sym}
use Rattle.std.specs.String.{string_bytes}
use Rattle.cgm_gen.proofs.Writing.{value_flat}
use Rattle.cgm_gen.proofs.lines.value_lines.Goals as goal

pub returns : goal.returns
returns c =
    subst (λ (bs : List ℕ). IfOk c.format.result (λ text. string_bytes text ≡ bs)) (sym (value_flat c.args.place c.args.costs)) c.format.ensures.ok
