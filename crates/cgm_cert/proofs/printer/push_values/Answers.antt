use Rattle.std.proofs.Common.{◌++◌, get_or, pos, ap, ◌∙◌, w64, FitsSigned, rules}
use Rattle.std.specs.Fmt.{signed_decimal}
use Rattle.std.proofs.lemmas.Int.{to_z-of_z}
use Rattle.cgm_cert.proofs.Steps.{word_added}
use Rattle.cgm_cert.proofs.printer.push_values.Goals as goal

pub loop-value-preserved : goal.loop-value-preserved
loop-value-preserved c =
    let value = get_or c.args.values.now c.loop-value.value-index (pos 0) in
    let fits : FitsSigned w64 value = search rules in
    word_added signed_decimal c.args.values.now c.loop-value.value-index (pos 0) c.args.out.now.items c.loop-value.out.items c.push.new.self.items c.push_value.new.out.items
    c.loop-value-test.true c.loop-value.invariant c.in_ok-push.ensures.items
    (c.in_ok-push_value.ensures ∙ ap (λ z. c.push.new.self.items ++ signed_decimal z) (to_z-of_z w64 value fits))
