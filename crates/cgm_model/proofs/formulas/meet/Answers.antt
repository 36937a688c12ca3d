use Rattle.std.proofs.Common.{Option, Bool, IfSome, sym, subst}
use Rattle.cgm_formula.specs.declared.formula.Number.{Number}
use Rattle.cgm_formula.specs.declared.formula.Number.TheVariants as number
use Rattle.cgm_model.specs.declared.formulas.Met.{Met}
use Rattle.cgm_model.specs.Met.{Meets}
use Rattle.cgm_model.proofs.Meeting.{var_met, sum_met}
use Rattle.cgm_model.proofs.formulas.meet.Goals as goal

pub returns-in-Var : goal.returns-in-Var
returns-in-Var c =
    let old : Met = c.args.met.now in
    let new : Met = record old { vars = c.insert.new.self } in
    let met = var_met c.insert.result old c.insert.new.self c.in-Var.k c.insert.ensures.added c.insert.ensures.updates in
    subst (λ (n : Number). IfSome c.ok.result (Meets old new n)) (sym c.in-Var.is)
    (subst (λ (o : Option Bool). IfSome o (Meets old new (number.Var c.in-Var.k))) (sym c.ok.ensures.value) met)

pub returns-in-Sum : goal.returns-in-Sum
returns-in-Sum c =
    let old : Met = c.args.met.now in
    let new : Met = record old { sums = c.insert-in-Sum.new.self } in
    let met = sum_met c.insert-in-Sum.result old c.insert-in-Sum.new.self c.in-Sum.k c.insert-in-Sum.ensures.added c.insert-in-Sum.ensures.updates in
    subst (λ (n : Number). IfSome c.ok-in-Sum.result (Meets old new n)) (sym c.in-Sum.is)
    (subst (λ (o : Option Bool). IfSome o (Meets old new (number.Sum c.in-Sum.k))) (sym c.ok-in-Sum.ensures.value) met)
