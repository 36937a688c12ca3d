use Rattle.std.proofs.Common.{Bool, ◌++◌, ap, map, not}
use Rattle.cgm_atom.specs.Literals.{bit}
use Rattle.cgm_formula.specs.declared.formula.Truth.TheVariants.{Element}
use Rattle.cgm_model.specs.declared.lists.Preference.{Preference}
use Rattle.cgm_obj.specs.Counts.{is_met}
use Rattle.cgm_enc_formula.proofs.Mapped.{rest_by, rest_all}
use Rattle.cgm_encode.proofs.values.push_preferences.Goals as goal

pub loop-p-preserved : goal.loop-p-preserved
loop-p-preserved c =
    let f : Preference → _ = λ p. bit (not (is_met c.args.assignment.now p)) in
    let d : Preference = record { better = Element 0; worse = Element 0 } in
    rest_by f c.args.prefers.now c.loop-p.p-index d _ c.loop-p.out.items c.push_bit.new.out.items (c.args.out.now.items ++ map f c.args.prefers.now)
    c.loop-p-test.true c.loop-p.invariant (ap (λ (t : Bool). bit (not t)) c.is_met.ensures) c.in_ok-push_bit.ensures.added

pub returns : goal.returns
returns c =
    let f : Preference → _ = λ p. bit (not (is_met c.args.assignment.now p)) in
    rest_all f c.args.prefers.now c.loop-p.p-index c.loop-p.out.items (c.args.out.now.items ++ map f c.args.prefers.now) c.loop-p-test.false c.loop-p.invariant
