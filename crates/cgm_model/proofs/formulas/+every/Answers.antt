use Rattle.std.proofs.Common.{sym, ap, ◌∙◌}
use Rattle.std.specs.List.{list_all}
use Rattle.cgm_model.specs.Checks.{passes}
use Rattle.cgm_model.specs.Formulas.{every_linear}
use Rattle.cgm_model.proofs.Linears.{every-And, every-Or, implies_second, implies_first, iff_second, iff_first}
use Rattle.cgm_model.proofs.formulas.+every.Goals as goal

pub every_linear-returns-in-And : goal.every_linear-returns-in-And
every_linear-returns-in-And t c =
    let test = passes c.args.test in
    c.every_linear_each.ensures ∙ (ap (list_all (every_linear test)) c.as_slice.ensures
    ∙ (sym (every-And test c.in-And.parts) ∙ ap (every_linear test) (sym c.in-And.is)))

pub every_linear-returns-in-Or : goal.every_linear-returns-in-Or
every_linear-returns-in-Or t c =
    let test = passes c.args.test in
    c.every_linear_each-in-Or.ensures ∙ (ap (list_all (every_linear test)) c.as_slice-in-Or.ensures
    ∙ (sym (every-Or test c.in-Or.parts) ∙ ap (every_linear test) (sym c.in-Or.is)))

pub every_linear-returns-then-every_linear : goal.every_linear-returns-then-every_linear
every_linear-returns-then-every_linear t c =
    let test = passes c.args.test in
    let first = sym (c.every_linear-in-Implies.ensures ∙ ap (every_linear test) c.get-in-Implies.ensures) ∙ c.if-every_linear.true in
    c.every_linear-then-every_linear.ensures ∙ (ap (every_linear test) c.get-then-every_linear.ensures
    ∙ implies_second test c.args.formula.now c.in-Implies.premise c.in-Implies.conclusion c.in-Implies.is first)

pub every_linear-returns-else-every_linear : goal.every_linear-returns-else-every_linear
every_linear-returns-else-every_linear t c =
    let test = passes c.args.test in
    let is = c.every_linear-in-Implies.ensures ∙ ap (every_linear test) c.get-in-Implies.ensures in
    is ∙ implies_first test c.args.formula.now c.in-Implies.premise c.in-Implies.conclusion c.in-Implies.is (sym is ∙ c.if-every_linear.false)

pub every_linear-returns-then-every_linear-2 : goal.every_linear-returns-then-every_linear-2
every_linear-returns-then-every_linear-2 t c =
    let test = passes c.args.test in
    let first = sym (c.every_linear-in-Iff.ensures ∙ ap (every_linear test) c.get-in-Iff.ensures) ∙ c.if-every_linear-2.true in
    c.every_linear-then-every_linear-2.ensures ∙ (ap (every_linear test) c.get-then-every_linear-2.ensures
    ∙ iff_second test c.args.formula.now c.in-Iff.one c.in-Iff.other c.in-Iff.is first)

pub every_linear-returns-else-every_linear-2 : goal.every_linear-returns-else-every_linear-2
every_linear-returns-else-every_linear-2 t c =
    let test = passes c.args.test in
    let is = c.every_linear-in-Iff.ensures ∙ ap (every_linear test) c.get-in-Iff.ensures in
    is ∙ iff_first test c.args.formula.now c.in-Iff.one c.in-Iff.other c.in-Iff.is (sym is ∙ c.if-every_linear-2.false)
