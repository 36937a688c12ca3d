use Rattle.std.proofs.Common.{ℕ, ◌+◌, List, drop, get_or, subst, sym}
use Rattle.std.specs.Prelude.{ℤ, pos}
use Rattle.std.proofs.lemmas.List.{drop_more}
use Rattle.cgm_formula.specs.declared.formula.Number.{Number}
use Rattle.cgm_formula.specs.declared.formula.Number.TheVariants as number
use Rattle.cgm_model.specs.Model.{lists_of}
use Rattle.cgm_enc_formula.proofs.TermTables.{IsTableAt, next_apart, next_known, table_at_first, table_more}
use Rattle.cgm_enc_formula.proofs.terms.by_variable.Goals as goal

pub loop-term-init : goal.loop-term-init
loop-term-init c =
    let m = lists_of c.args.model.now in
    let all = c.args.terms.now in
    subst (λ (es : List (ℕ × ℤ)). IsTableAt m all es all) (sym c.new-coefficients.ensures.empty) (table_at_first m all c.requires)

pub insert_term-requires-clause-known : goal.insert_term-requires-clause-known
insert_term-requires-clause-known c =
    let m = lists_of c.args.model.now in
    let all = c.args.terms.now in
    let i = c.loop-term.term-index in
    let d : ℤ × Number = (pos 0, number.Var 0) in
    let es = c.loop-term.coefficients.entries in
    next_known m all (drop (i + 1) all) es (get_or all i d)
    (subst (λ (rest : List (ℤ × Number)). IsTableAt m all es rest) (drop_more all i d c.loop-term-test.true) c.loop-term.invariant)

pub insert_term-requires-clause-new : goal.insert_term-requires-clause-new
insert_term-requires-clause-new c =
    let m = lists_of c.args.model.now in
    let all = c.args.terms.now in
    let i = c.loop-term.term-index in
    let d : ℤ × Number = (pos 0, number.Var 0) in
    let es = c.loop-term.coefficients.entries in
    next_apart m all (drop (i + 1) all) es (get_or all i d)
    (subst (λ (rest : List (ℤ × Number)). IsTableAt m all es rest) (drop_more all i d c.loop-term-test.true) c.loop-term.invariant)

pub loop-term-preserved : goal.loop-term-preserved
loop-term-preserved c =
    let m = lists_of c.args.model.now in
    let all = c.args.terms.now in
    let i = c.loop-term.term-index in
    let d : ℤ × Number = (pos 0, number.Var 0) in
    let es = c.loop-term.coefficients.entries in
    table_more m all (drop (i + 1) all) es c.insert_term.new.coefficients.entries (get_or all i d)
    (subst (λ (rest : List (ℤ × Number)). IsTableAt m all es rest) (drop_more all i d c.loop-term-test.true) c.loop-term.invariant)
    c.in_ok-insert_term.ensures
