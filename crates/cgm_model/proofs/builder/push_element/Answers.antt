use Rattle.std.proofs.Common.{◌≡◌, ℕ, List, Some, cond, is_ok, length, subst}
use Rattle.std.specs.Str.{bytes_eq}
use Rattle.cgm_model.specs.declared.aids.Aids.{Aids}
use Rattle.cgm_model.specs.declared.lists.Element.{Element}
use Rattle.cgm_model.specs.declared.lists.Thing.TheVariants as things
use Rattle.cgm_model.specs.Keeping.{AreFor}
use Rattle.cgm_model.specs.NameTable.{thing_found}
use Rattle.cgm_model.proofs.Aiding.{AreFor-names, AreFor-declared, AreFor-element, after_push}
use Rattle.cgm_model.proofs.Fresh.{fresh_element}
use Rattle.cgm_model.proofs.builder.push_element.Goals as goal

pub returns-in_err-make_room-clause-aids : goal.returns-in_err-make_room-clause-aids
returns-in_err-make_room-clause-aids c = c.make_room.ensures.kept c.args.lists.now c.requires.aids

pub returns-in_err-declare-clause-aids : goal.returns-in_err-declare-clause-aids
returns-in_err-declare-clause-aids c =
    AreFor-names c.args.lists.now c.make_room.new.aids c.declare.new.names c.in_err-declare.ensures.others (c.make_room.ensures.kept c.args.lists.now c.requires.aids)

pub returns-clause-aids : goal.returns-clause-aids
returns-clause-aids c =
    let m = c.args.lists.now in
    let e = c.args.element in
    let old : Aids = c.make_room.new.aids in
    let new : Aids = record old { names = c.declare.new.names } in
    let h : AreFor m old = c.make_room.ensures.kept m c.requires.aids in
    let S : List ℕ → ℕ → Type 0 = λ n k. (q : List ℕ) → thing_found c.declare.new.names q ≡ cond (bytes_eq q n) (Some (things.Element k)) (thing_found old.names q) in
    let set : S e.name (length m.elements) = subst (λ n. S n (length m.elements)) c.as_slice-2.ensures (subst (λ (xs : List Element). S c.as_slice-2.result.now (length xs)) c.as_slice.ensures c.in_ok-declare.ensures.set) in
    let fresh = fresh_element m e c.requires.allowed in
    let more = c.in_ok-make_room.ensures.more m c.requires.aids in
    let before = AreFor-declared m e.name (things.Element (length m.elements)) old c.declare.new.names set fresh h in
    let after = AreFor-element m e old c.declare.new.names set fresh more h in
    after_push (λ (xs : List Element). AreFor (record m { elements = xs }) new) (is_ok c.push.result) m.elements e c.push.new.self c.push.ensures.items before after
