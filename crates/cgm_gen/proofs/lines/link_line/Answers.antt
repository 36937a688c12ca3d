use Rattle.std.proofs.Common.{◌≡◌, ℕ, List, IfOk, subst, sym}
use Rattle.std.specs.String.{string_bytes}
use Rattle.cgm_gen.proofs.Writing.{link_flat}
use Rattle.cgm_gen.proofs.lines.link_line.Goals as goal

pub returns : goal.returns
returns c =
    subst (λ (bs : List ℕ). IfOk c.format.result (λ text. string_bytes text ≡ bs)) (sym (link_flat c.args.place)) c.format.ensures.ok
