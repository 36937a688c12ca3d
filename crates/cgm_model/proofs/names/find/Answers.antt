use Rattle.std.proofs.Common.{◌≡◌, sym, ◌∙◌, subst}
use Rattle.std.proofs.lemmas.Bool.{iff_false}
use Rattle.std.proofs.lemmas.Option.{none-some, same_Some}
use Rattle.cgm_model.specs.Named.{IsNamedThing}
use Rattle.cgm_model.proofs.Lookups.{thing_named-from_named, thing_named-none}
use Rattle.cgm_model.proofs.names.find.Goals as goal

pub returns-in-None : goal.returns-in-None
returns-in-None c =
    let m = c.args.lists.now in
    let name = c.args.name.now in
    sym (thing_named-none m name (λ t h. none-some t (c.in-None.ensures ∙ c.requires.aids.names name t h)))

pub returns-then-is_named : goal.returns-then-is_named
returns-then-is_named c =
    sym (thing_named-from_named c.args.lists.now c.requires.well_formed c.args.name.now c.in-Some.thing (c.is_named.ensures.0 c.if-is_named.true))

pub returns-else-is_named : goal.returns-else-is_named
returns-else-is_named c =
    let m = c.args.lists.now in
    let name = c.args.name.now in
    sym (thing_named-none m name (λ t h.
    let same : c.in-Some.thing ≡ t = same_Some c.in-Some.thing t (c.in-Some.ensures ∙ c.requires.aids.names name t h) in
    iff_false c.is_named.ensures c.if-is_named.false (subst (IsNamedThing m name) (sym same) h)))
