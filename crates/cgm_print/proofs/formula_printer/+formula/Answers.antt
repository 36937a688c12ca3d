use Rattle.std.proofs.Common.{◌≡◌, ◌∙◌, ◌∷◌, map, ap, subst, List, ℕ, ℤ, arith, to_z, of_z, w64}
use Rattle.std.proofs.lemmas.Int.{ints}
use Rattle.cgm_lex.specs.Lexemes.{opening, closing, word}
use Rattle.cgm_model.specs.Model.{lists_of}
use Rattle.cgm_print.specs.declared.words.Comparison.TheVariants as comparisons
use Rattle.cgm_print.specs.declared.words.Joint.TheVariants as joints
use Rattle.cgm_print.specs.declared.words.Pairing.TheVariants as pairings
use Rattle.cgm_print.specs.Canonical.{joined_with, written_formula, written_linear}
use Rattle.cgm_print.specs.Printing.{Writes}
use Rattle.cgm_print.specs.Written.{compared, joint_word, spelled, spelled_each, formulas_of}
use Rattle.cgm_print.proofs.Printed.{and_is, at_least_is, at_most_is, each_done, each_more, equal_is, finish, iff_is, implies_is, or_is, pair_printed, same_written, some_parts, then_}
use Rattle.cgm_print.proofs.formula_printer.+formula.Goals as goal

pub each-loop-part-preserved : goal.each-loop-part-preserved
each-loop-part-preserved t c =
    each_more (lists_of c.args.model.now) c.args.parts.now c.loop-part.part-index c.part-item.result c.args.printer.now c.loop-part.printer c.formula.new.printer
    c.loop-part-test.true c.part-item.is c.loop-part.invariant c.in_ok-formula.ensures

pub each-returns : goal.each-returns
each-returns t c =
    each_done (lists_of c.args.model.now) c.args.parts.now c.loop-part.part-index c.args.printer.now c.loop-part.printer c.loop-part-test.false c.loop-part.invariant

pub formula-returns-in-And : goal.formula-returns-in-And
formula-returns-in-And t c =
    let m = lists_of c.args.model.now in
    same_written c.joined.result c.args.printer.now c.joined.new.printer (joined_with joints.And (map (written_formula m) c.as_slice.result.now)) (written_formula m c.args.tree.now)
    (and_is m c.args.tree.now c.in-And.parts c.as_slice.result.now c.in-And.is c.as_slice.ensures) c.joined.ensures

pub formula-returns-in-Or : goal.formula-returns-in-Or
formula-returns-in-Or t c =
    let m = lists_of c.args.model.now in
    same_written c.joined-in-Or.result c.args.printer.now c.joined-in-Or.new.printer (joined_with joints.Or (map (written_formula m) c.as_slice-in-Or.result.now)) (written_formula m c.args.tree.now)
    (or_is m c.args.tree.now c.in-Or.parts c.as_slice-in-Or.result.now c.in-Or.is c.as_slice-in-Or.ensures) c.joined-in-Or.ensures

pub formula-returns-in_ok-formula-in-Implies-2 : goal.formula-returns-in_ok-formula-in-Implies-2
formula-returns-in_ok-formula-in-Implies-2 t c =
    let m = lists_of c.args.model.now in
    let f = c.args.tree.now in
    let one = c.in-Implies.one in
    let other = c.in-Implies.other in
    pair_printed c.close-in-Implies.result m pairings.Implies f one other c.get-in-Implies.result.now c.get-in-Implies-2.result.now
    c.args.printer.now c.open_with-in-Implies.new.self c.formula-in-Implies.new.printer c.formula-in-Implies-2.new.printer c.close-in-Implies.new.self
    (implies_is m f one other c.in-Implies.is) c.get-in-Implies.ensures c.get-in-Implies-2.ensures
    c.in_ok-open_with-in-Implies.ensures c.in_ok-formula-in-Implies.ensures c.in_ok-formula-in-Implies-2.ensures c.close-in-Implies.ensures

pub formula-returns-in_ok-formula-in-Iff-2 : goal.formula-returns-in_ok-formula-in-Iff-2
formula-returns-in_ok-formula-in-Iff-2 t c =
    let m = lists_of c.args.model.now in
    let f = c.args.tree.now in
    let one = c.in-Iff.one in
    let other = c.in-Iff.other in
    pair_printed c.close-in-Iff.result m pairings.Iff f one other c.get-in-Iff.result.now c.get-in-Iff-2.result.now
    c.args.printer.now c.open_with-in-Iff.new.self c.formula-in-Iff.new.printer c.formula-in-Iff-2.new.printer c.close-in-Iff.new.self
    (iff_is m f one other c.in-Iff.is) c.get-in-Iff.ensures c.get-in-Iff-2.ensures
    c.in_ok-open_with-in-Iff.ensures c.in_ok-formula-in-Iff.ensures c.in_ok-formula-in-Iff-2.ensures c.close-in-Iff.ensures

pub formula-returns-in-AtMost : goal.formula-returns-in-AtMost
formula-returns-in-AtMost t c =
    let m = lists_of c.args.model.now in
    let same : to_z w64 (of_z w64 c.in-AtMost.k) ≡ c.in-AtMost.k = omega (arith, ints) in
    same_written c.comparison.result c.args.printer.now c.comparison.new.printer (compared comparisons.AtMost (written_linear m c.in-AtMost.total.terms) (to_z w64 (of_z w64 c.in-AtMost.k))) (written_formula m c.args.tree.now)
    (ap (λ (z : ℤ). compared comparisons.AtMost (written_linear m c.in-AtMost.total.terms) z) same ∙ at_most_is m c.args.tree.now c.in-AtMost.total c.in-AtMost.k c.in-AtMost.is) c.comparison.ensures

pub formula-returns-in-AtLeast : goal.formula-returns-in-AtLeast
formula-returns-in-AtLeast t c =
    let m = lists_of c.args.model.now in
    let same : to_z w64 (of_z w64 c.in-AtLeast.k) ≡ c.in-AtLeast.k = omega (arith, ints) in
    same_written c.comparison-in-AtLeast.result c.args.printer.now c.comparison-in-AtLeast.new.printer (compared comparisons.AtLeast (written_linear m c.in-AtLeast.total.terms) (to_z w64 (of_z w64 c.in-AtLeast.k))) (written_formula m c.args.tree.now)
    (ap (λ (z : ℤ). compared comparisons.AtLeast (written_linear m c.in-AtLeast.total.terms) z) same ∙ at_least_is m c.args.tree.now c.in-AtLeast.total c.in-AtLeast.k c.in-AtLeast.is) c.comparison-in-AtLeast.ensures

pub formula-returns-in-Equal : goal.formula-returns-in-Equal
formula-returns-in-Equal t c =
    let m = lists_of c.args.model.now in
    let same : to_z w64 (of_z w64 c.in-Equal.k) ≡ c.in-Equal.k = omega (arith, ints) in
    same_written c.comparison-in-Equal.result c.args.printer.now c.comparison-in-Equal.new.printer (compared comparisons.Equal (written_linear m c.in-Equal.total.terms) (to_z w64 (of_z w64 c.in-Equal.k))) (written_formula m c.args.tree.now)
    (ap (λ (z : ℤ). compared comparisons.Equal (written_linear m c.in-Equal.total.terms) z) same ∙ equal_is m c.args.tree.now c.in-Equal.total c.in-Equal.k c.in-Equal.is) c.comparison-in-Equal.ensures

pub joined-returns-in_ok-each-in-len1-up : goal.joined-returns-in_ok-each-in-len1-up
joined-returns-in_ok-each-in-len1-up t c =
    let m = lists_of c.args.model.now in
    let parts = c.args.parts.now in
    let how = joint_word c.args.joint in
    let each = formulas_of (map (written_formula m) parts) in
    let a = c.args.printer.now in
    let b = c.open_with.new.self in
    let d = c.each.new.printer in
    let opened : Writes a b (λ after. opening ∷ word how ∷ after) =
    subst (λ (x : List ℕ). Writes a b (λ after. opening ∷ word x ∷ after)) c.word-first.ensures c.in_ok-open_with-in-len1-up.ensures in
    let first = then_ a b d (λ after. opening ∷ word how ∷ after) (spelled_each each) opened c.in_ok-each-in-len1-up.ensures in
    finish c.close.result a d c.close.new.self (λ after. opening ∷ word how ∷ spelled_each each after) (λ after. closing ∷ after) (spelled (joined_with c.args.joint (map (written_formula m) parts)))
    (λ after. some_parts m c.args.joint parts after c.in-len1-up.len_at_least) first c.close.ensures
