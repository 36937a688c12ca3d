-- What holds of the whole formula's comparisons holds of the parts', and the equations of the truth of lists of parts.
use Rattle.std.proofs.Common.{rules, List, ℤ, subst, sym, ap, ◌∙◌}
use Rattle.std.specs.List.{All, list_all, list_any}
use Rattle.cgm_formula.specs.declared.assignment.Assignment.{Assignment}
use Rattle.cgm_formula.specs.declared.formula.Linear.{Linear}
use Rattle.cgm_formula.specs.declared.formula.Formula.{Formula}
use Rattle.cgm_formula.specs.declared.formula.Formula.TheViews.{the_lemmas}
use Rattle.cgm_formula.specs.Reading.{name_in, number_in}
use Rattle.cgm_formula.specs.Sizes.{IsSmall, AreSmallIn}
use Rattle.cgm_formula.specs.Truth.{truth}
use Rattle.cgm_formula.proofs.Comparisons.{of_negation, of_conjunction, of_disjunction, of_implication, of_equivalence, of_at_most, of_at_least, of_equality}
use Rattle.cgm_formula.proofs.Truths.{truth-And, truth-Or}
use Rattle.cgm_formula.proofs.meaning.+holds.Goals as goal

abbrev Small : Assignment → List ℤ → Linear × ℤ → Type 0
Small a sums c = IsSmall (number_in a sums) c.0

abbrev AreSmall : Assignment → List ℤ → Formula → Type 0
AreSmall a sums = AreSmallIn (number_in a sums)

pub holds-holds-requires : goal.holds-holds-requires
holds-holds-requires t c =
    let a = c.args.assignment.now in
    let sums = c.args.sums.now in (
      search (rules, the_lemmas),
      subst (AreSmall a sums) (sym c.get.ensures)
          (of_negation (Small a sums) c.in-Not.part (subst (AreSmall a sums) c.in-Not.is c.requires)),
    )

pub holds-all_hold-requires : goal.holds-all_hold-requires
holds-all_hold-requires t c =
    let a = c.args.assignment.now in
    let sums = c.args.sums.now in (
      search (rules, the_lemmas),
      subst (All (AreSmall a sums)) (sym c.as_slice.ensures)
          (of_conjunction (Small a sums) c.in-And.parts (subst (AreSmall a sums) c.in-And.is c.requires)),
    )

pub holds-some_holds-requires : goal.holds-some_holds-requires
holds-some_holds-requires t c =
    let a = c.args.assignment.now in
    let sums = c.args.sums.now in (
      search (rules, the_lemmas),
      subst (All (AreSmall a sums)) (sym c.as_slice-in-Or.ensures)
          (of_disjunction (Small a sums) c.in-Or.parts (subst (AreSmall a sums) c.in-Or.is c.requires)),
    )

pub holds-holds-premise-requires : goal.holds-holds-premise-requires
holds-holds-premise-requires t c =
    let a = c.args.assignment.now in
    let sums = c.args.sums.now in (
      search (rules, the_lemmas),
      subst (AreSmall a sums) (sym c.get-in-Implies.ensures)
          ((of_implication (Small a sums) c.in-Implies.premise c.in-Implies.conclusion (subst (AreSmall a sums) c.in-Implies.is c.requires))).0,
    )

pub holds-holds-conclusion-requires : goal.holds-holds-conclusion-requires
holds-holds-conclusion-requires t c =
    let a = c.args.assignment.now in
    let sums = c.args.sums.now in (
      search (rules, the_lemmas),
      subst (AreSmall a sums) (sym c.get-in-Implies-2.ensures)
          ((of_implication (Small a sums) c.in-Implies.premise c.in-Implies.conclusion (subst (AreSmall a sums) c.in-Implies.is c.requires))).1,
    )

pub holds-holds-one-requires : goal.holds-holds-one-requires
holds-holds-one-requires t c =
    let a = c.args.assignment.now in
    let sums = c.args.sums.now in (
      search (rules, the_lemmas),
      subst (AreSmall a sums) (sym c.get-in-Iff.ensures)
          ((of_equivalence (Small a sums) c.in-Iff.one c.in-Iff.other (subst (AreSmall a sums) c.in-Iff.is c.requires))).0,
    )

pub holds-holds-other-requires : goal.holds-holds-other-requires
holds-holds-other-requires t c =
    let a = c.args.assignment.now in
    let sums = c.args.sums.now in (
      search (rules, the_lemmas),
      subst (AreSmall a sums) (sym c.get-in-Iff-2.ensures)
          ((of_equivalence (Small a sums) c.in-Iff.one c.in-Iff.other (subst (AreSmall a sums) c.in-Iff.is c.requires))).1,
    )

pub holds-value-requires : goal.holds-value-requires
holds-value-requires t c =
    let a = c.args.assignment.now in
    let sums = c.args.sums.now in
    of_at_most (Small a sums) c.in-AtMost.linear c.in-AtMost.k (subst (AreSmall a sums) c.in-AtMost.is c.requires)

pub holds-value-requires-in-AtLeast : goal.holds-value-requires-in-AtLeast
holds-value-requires-in-AtLeast t c =
    let a = c.args.assignment.now in
    let sums = c.args.sums.now in
    of_at_least (Small a sums) c.in-AtLeast.linear c.in-AtLeast.k (subst (AreSmall a sums) c.in-AtLeast.is c.requires)

pub holds-value-requires-in-Equal : goal.holds-value-requires-in-Equal
holds-value-requires-in-Equal t c =
    let a = c.args.assignment.now in
    let sums = c.args.sums.now in
    of_equality (Small a sums) c.in-Equal.linear c.in-Equal.k (subst (AreSmall a sums) c.in-Equal.is c.requires)

pub holds-returns-in-And : goal.holds-returns-in-And
holds-returns-in-And t c =
    let names = name_in c.args.assignment.now in
    let numbers = number_in c.args.assignment.now c.args.sums.now in
    c.all_hold.ensures ∙ ap (list_all (truth names numbers)) c.as_slice.ensures
    ∙ sym (truth-And names numbers c.in-And.parts) ∙ ap (truth names numbers) (sym c.in-And.is)

pub holds-returns-in-Or : goal.holds-returns-in-Or
holds-returns-in-Or t c =
    let names = name_in c.args.assignment.now in
    let numbers = number_in c.args.assignment.now c.args.sums.now in
    c.some_holds.ensures ∙ ap (list_any (truth names numbers)) c.as_slice-in-Or.ensures
    ∙ sym (truth-Or names numbers c.in-Or.parts) ∙ ap (truth names numbers) (sym c.in-Or.is)
