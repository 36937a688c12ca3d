use Rattle.std.proofs.Common.{◌≡◌, true, false, ℤ, pos, get_or, take, sym, ◌∙◌}
use Rattle.std.specs.List.{list_any}
use Rattle.cgm_formula.specs.declared.formula.Number.{Number}
use Rattle.cgm_formula.specs.declared.formula.Number.TheVariants as number
use Rattle.cgm_model.specs.Formulas.{is_same_number}
use Rattle.cgm_model.proofs.Distinct.{distinct_more, distinct_fails}
use Rattle.cgm_model.proofs.Swaps.{term_swap}
use Rattle.cgm_model.proofs.formulas.are_distinct_by_pairs.Goals as goal

abbrev none : ℤ × Number
none = (pos 0, number.Var 0)

pub returns-then-stands_among : goal.returns-then-stands_among
returns-then-stands_among c =
    let xs = c.args.terms.now in
    let i = c.loop-place.place in
    let met : list_any (λ u. is_same_number u.1 (get_or xs i none).1) (take i xs) ≡ true = sym c.stands_among.ensures ∙ c.if-stands_among.true in
    sym (distinct_fails (λ u t. is_same_number u.1 t.1) term_swap xs i none c.loop-place-test.true met)

pub loop-place-preserved : goal.loop-place-preserved
loop-place-preserved c =
    let xs = c.args.terms.now in
    let i = c.loop-place.place in
    let unmet : list_any (λ u. is_same_number u.1 (get_or xs i none).1) (take i xs) ≡ false = sym c.stands_among.ensures ∙ c.if-stands_among.false in
    distinct_more (λ u t. is_same_number u.1 t.1) term_swap xs i none c.loop-place-test.true c.loop-place.invariant unmet
