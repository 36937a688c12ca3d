-- For crates above: a refused statement isn't allowed, and it has one cause.
use Rattle.std.proofs.Common.{◌≡◌, Bool, true, Some, sym, ◌∙◌, ap, subst}
use Rattle.std.proofs.lemmas.Bool.Decides.{same_from_decides}
use Rattle.std.proofs.lemmas.Option.{none-some, same_Some}
use Rattle.cgm_model.specs.declared.lists.Lists.{Lists}
use Rattle.cgm_model.specs.declared.lists.Statement.{Statement}
use Rattle.cgm_model.specs.declared.stop.AddStop.{AddStop}
use Rattle.cgm_model.specs.Statement.{IsAllowed, IsRefused, refusal}

pub refused_not_allowed : (m : Lists) (s : Statement) (stop : AddStop) → IsRefused m s stop → ¬ IsAllowed m s
refused_not_allowed m s stop refused allowed =
    let P : Bool → Type 0 = λ b. refusal m s b ≡ Some stop in
    let fails : refusal m s true ≡ Some stop = subst P (refused.decides.1 allowed.acyclic) refused.fails in
    none-some stop (sym allowed.passes ∙ fails)

pub refused_once : (m : Lists) (s : Statement) (one other : AddStop) → IsRefused m s one → IsRefused m s other → one ≡ other
refused_once m s one other a b =
    let same = same_from_decides a.is_acyclic b.is_acyclic a.decides b.decides in
    same_Some one other (sym a.fails ∙ (ap (λ acyclic. refusal m s acyclic) same ∙ b.fails))
