use Rattle.cgm_text.specs.Trees.{seen_all}
use Rattle.cgm_text.proofs.Judging.{form_stop}
use Rattle.cgm_text.proofs.judge.form_of_sort.Goals as goal

pub returns-in-Err-Form-clause-stop : goal.returns-in-Err-Form-clause-stop
returns-in-Err-Form-clause-stop c = λ m.
    let none = rw c.in-Err-Form.field-0-is at c.in-Err-Form.ensures.form in
    rw c.bad.ensures (form_stop m (seen_all c.args.line.now c.args.tokens.now) c.args.sort none)
