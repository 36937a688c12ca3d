use Rattle.std.proofs.Common.{ℕ, List, Vec, Global, cond, Some, refl, ap, ◌∙◌}
use Rattle.std.specs.Map.{lookup}
use Rattle.std.specs.Str.{bytes_eq}
use Rattle.cgm_model.specs.declared.lists.Thing.{Thing}
use Rattle.cgm_model.specs.NameTable.{thing_found}
use Rattle.cgm_model.proofs.Entries.{lookup-insert}
use Rattle.cgm_model.proofs.names.NameTable.set.Goals as goal

pub returns-clause-set : goal.returns-clause-set
returns-clause-set c = λ q.
    let test = λ (k : Vec ℕ Global). bytes_eq q k.items in
    ap (λ (es : List (Vec ℕ Global × Thing)). lookup test es) c.in_ok-insert.ensures.entries
    ∙ (lookup-insert (λ (x : Vec ℕ Global) (y : Vec ℕ Global). bytes_eq x.items y.items) (λ (k : Vec ℕ Global). k.items) (λ a b. refl) c.args.self.now.entries.entries c.in_ok-key.key c.args.thing q
    ∙ ap (λ (n : List ℕ). cond (bytes_eq q n) (Some c.args.thing) (thing_found c.args.self.now q)) c.in_ok-key.ensures.items)
