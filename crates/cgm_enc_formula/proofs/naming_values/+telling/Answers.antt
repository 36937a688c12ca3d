-- What holds of the whole formula's comparisons holds of the parts', and what each node adds.
use Rattle.std.proofs.Common.{rules, ◌≡◌, Bool, List, ℤ, ◌++◌, map, refl, of_z, to_z, w64, ap, ◌∙◌, subst, sym}
use Rattle.std.specs.Prelude.{int_le}
use Rattle.std.specs.List.{All}
use Rattle.cgm_atom.specs.Literals.{bit}
use Rattle.cgm_formula.specs.declared.assignment.Assignment.{Assignment}
use Rattle.cgm_formula.specs.declared.formula.Linear.{Linear}
use Rattle.cgm_formula.specs.declared.formula.Formula.{Formula}
use Rattle.cgm_formula.specs.declared.formula.Formula.TheViews.{the_lemmas}
use Rattle.cgm_formula.specs.Reading.{name_in, number_in}
use Rattle.cgm_formula.specs.Sizes.{IsSmall, AreSmallIn}
use Rattle.cgm_formula.specs.Truth.{linear_value}
use Rattle.cgm_formula.proofs.Comparisons.{of_negation, of_conjunction, of_disjunction, of_implication, of_equivalence, of_at_most, of_at_least, of_equality}
use Rattle.cgm_enc_formula.specs.NamingValues.{all_truths, told}
use Rattle.cgm_enc_formula.proofs.Mapped.{all_done}
use Rattle.cgm_enc_formula.proofs.ToldSteps.{all_say, all_told, any_says, any_told, at_least_says, at_least_told, at_most_says, at_most_told, equality_says, equality_told, equivalence_says, equivalence_told, if_ok, implication_says, implication_told, name_says, name_told, negation_says, negation_told, on_ok, part_said, part_told}
use Rattle.cgm_enc_formula.proofs.naming_values.+telling.Goals as goal

abbrev Small : Assignment → List ℤ → Linear × ℤ → Type 0
Small a sums c = IsSmall (number_in a sums) c.0

abbrev AreSmall : Assignment → List ℤ → Formula → Type 0
AreSmall a sums = AreSmallIn (number_in a sums)

pub push_each-push_formula-requires : goal.push_each-push_formula-requires
push_each-push_formula-requires t c = (
  search (rules, the_lemmas),
  subst (AreSmall c.args.assignment.now c.args.sums.now) (sym c.part-item.is) (c.requires c.loop-part.part-index c.part-item.result c.loop-part-test.true),
)

pub push_each-returns-clause-says : goal.push_each-returns-clause-says
push_each-returns-clause-says t c =
    let say : List Formula → List Bool = λ parts. map (λ part. part.says) (map (told (name_in c.args.assignment.now) (number_in c.args.assignment.now c.args.sums.now)) parts) in
    all_done say c.args.parts.now c.loop-part.part-index c.loop-part.truths.items (say c.args.parts.now) refl c.loop-part-test.false c.loop-part.invariant.0

pub push_each-returns-clause-added : goal.push_each-returns-clause-added
push_each-returns-clause-added t c =
    let add : List Formula → List ℤ = λ parts. map bit (all_truths (map (told (name_in c.args.assignment.now) (number_in c.args.assignment.now c.args.sums.now)) parts)) in
    all_done add c.args.parts.now c.loop-part.part-index c.loop-part.out.items (c.args.out.now.items ++ add c.args.parts.now) refl c.loop-part-test.false c.loop-part.invariant.1

pub push_each-loop-part-preserved : goal.push_each-loop-part-preserved
push_each-loop-part-preserved t c =
    let names = name_in c.args.assignment.now in
    let numbers = number_in c.args.assignment.now c.args.sums.now in
    let parts = c.args.parts.now in (
      part_said names numbers parts c.loop-part.part-index c.part-item.result c.loop-part.truths.items c.push.new.self.items c.in_ok-holds.holds
          c.loop-part-test.true c.part-item.is c.loop-part.invariant.0 c.in_ok-push.ensures.items c.in_ok-holds.ensures.says,
      part_told names numbers parts c.loop-part.part-index c.part-item.result c.loop-part.out.items c.push_formula.new.out.items
          (c.args.out.now.items ++ map bit (all_truths (map (told names numbers) parts)))
          c.loop-part-test.true c.part-item.is c.loop-part.invariant.1 c.in_ok-holds.ensures.added,
    )

pub push_formula-push_formula-requires : goal.push_formula-push_formula-requires
push_formula-push_formula-requires t c =
    let a = c.args.assignment.now in
    let sums = c.args.sums.now in (
      search (rules, the_lemmas),
      subst (AreSmall a sums) (sym c.get.ensures)
          (of_negation (Small a sums) c.in-Not.part (subst (AreSmall a sums) c.in-Not.is c.requires)),
    )

pub push_formula-push_each-requires : goal.push_formula-push_each-requires
push_formula-push_each-requires t c =
    let a = c.args.assignment.now in
    let sums = c.args.sums.now in (
      search (rules, the_lemmas),
      subst (All (AreSmall a sums)) (sym c.as_slice.ensures)
          (of_conjunction (Small a sums) c.in-And.parts (subst (AreSmall a sums) c.in-And.is c.requires)),
    )

pub push_formula-push_each-requires-in-Or : goal.push_formula-push_each-requires-in-Or
push_formula-push_each-requires-in-Or t c =
    let a = c.args.assignment.now in
    let sums = c.args.sums.now in (
      search (rules, the_lemmas),
      subst (All (AreSmall a sums)) (sym c.as_slice-in-Or.ensures)
          (of_disjunction (Small a sums) c.in-Or.parts (subst (AreSmall a sums) c.in-Or.is c.requires)),
    )

pub push_formula-push_formula-requires-in-Implies : goal.push_formula-push_formula-requires-in-Implies
push_formula-push_formula-requires-in-Implies t c =
    let a = c.args.assignment.now in
    let sums = c.args.sums.now in (
      search (rules, the_lemmas),
      subst (AreSmall a sums) (sym c.get-in-Implies.ensures)
          ((of_implication (Small a sums) c.in-Implies.premise c.in-Implies.conclusion (subst (AreSmall a sums) c.in-Implies.is c.requires))).0,
    )

pub push_formula-push_formula-requires-in-Implies-2 : goal.push_formula-push_formula-requires-in-Implies-2
push_formula-push_formula-requires-in-Implies-2 t c =
    let a = c.args.assignment.now in
    let sums = c.args.sums.now in (
      search (rules, the_lemmas),
      subst (AreSmall a sums) (sym c.get-in-Implies-2.ensures)
          ((of_implication (Small a sums) c.in-Implies.premise c.in-Implies.conclusion (subst (AreSmall a sums) c.in-Implies.is c.requires))).1,
    )

pub push_formula-push_formula-requires-in-Iff : goal.push_formula-push_formula-requires-in-Iff
push_formula-push_formula-requires-in-Iff t c =
    let a = c.args.assignment.now in
    let sums = c.args.sums.now in (
      search (rules, the_lemmas),
      subst (AreSmall a sums) (sym c.get-in-Iff.ensures)
          ((of_equivalence (Small a sums) c.in-Iff.one c.in-Iff.other (subst (AreSmall a sums) c.in-Iff.is c.requires))).0,
    )

pub push_formula-push_formula-requires-in-Iff-2 : goal.push_formula-push_formula-requires-in-Iff-2
push_formula-push_formula-requires-in-Iff-2 t c =
    let a = c.args.assignment.now in
    let sums = c.args.sums.now in (
      search (rules, the_lemmas),
      subst (AreSmall a sums) (sym c.get-in-Iff-2.ensures)
          ((of_equivalence (Small a sums) c.in-Iff.one c.in-Iff.other (subst (AreSmall a sums) c.in-Iff.is c.requires))).1,
    )

pub push_formula-is_at_most-requires : goal.push_formula-is_at_most-requires
push_formula-is_at_most-requires t c =
    let a = c.args.assignment.now in
    let sums = c.args.sums.now in
    of_at_most (Small a sums) c.in-AtMost.linear c.in-AtMost.k (subst (AreSmall a sums) c.in-AtMost.is c.requires)

pub push_formula-is_at_least-requires : goal.push_formula-is_at_least-requires
push_formula-is_at_least-requires t c =
    let a = c.args.assignment.now in
    let sums = c.args.sums.now in
    of_at_least (Small a sums) c.in-AtLeast.linear c.in-AtLeast.k (subst (AreSmall a sums) c.in-AtLeast.is c.requires)

pub push_formula-is_at_most-requires-in-Equal : goal.push_formula-is_at_most-requires-in-Equal
push_formula-is_at_most-requires-in-Equal t c =
    let a = c.args.assignment.now in
    let sums = c.args.sums.now in
    of_equality (Small a sums) c.in-Equal.linear c.in-Equal.k (subst (AreSmall a sums) c.in-Equal.is c.requires)

pub push_formula-is_at_least-requires-in-Equal : goal.push_formula-is_at_least-requires-in-Equal
push_formula-is_at_least-requires-in-Equal t c =
    let a = c.args.assignment.now in
    let sums = c.args.sums.now in
    of_equality (Small a sums) c.in-Equal.linear c.in-Equal.k (subst (AreSmall a sums) c.in-Equal.is c.requires)

pub push_formula-returns-in_ok-truths-in-And-clause-says : goal.push_formula-returns-in_ok-truths-in-And-clause-says
push_formula-returns-in_ok-truths-in-And-clause-says t c =
    let names = name_in c.args.assignment.now in
    let numbers = number_in c.args.assignment.now c.args.sums.now in
    let f = c.args.formula.now in
    if_ok c.push_all.result _ (told names numbers f).says
    (all_say names numbers f c.in-And.parts c.as_slice.result.now c.in_ok-truths-in-And.truths.items c.in-And.is c.as_slice.ensures c.in_ok-truths-in-And.ensures.says)
    c.push_all.ensures.says

pub push_formula-returns-in_ok-truths-in-And-clause-added : goal.push_formula-returns-in_ok-truths-in-And-clause-added
push_formula-returns-in_ok-truths-in-And-clause-added t c =
    let names = name_in c.args.assignment.now in
    let numbers = number_in c.args.assignment.now c.args.sums.now in
    let f = c.args.formula.now in
    on_ok c.push_all.result
    (λ last.
    all_told names numbers f c.in-And.parts c.as_slice.result.now c.in_ok-truths-in-And.truths.items c.args.out.now.items c.push_each.new.out.items c.push_all.new.out.items
    c.in-And.is c.as_slice.ensures c.in_ok-truths-in-And.ensures.says c.in_ok-truths-in-And.ensures.added last)
    c.push_all.ensures.added

pub push_formula-returns-in_ok-truths-in-Or-clause-says : goal.push_formula-returns-in_ok-truths-in-Or-clause-says
push_formula-returns-in_ok-truths-in-Or-clause-says t c =
    let names = name_in c.args.assignment.now in
    let numbers = number_in c.args.assignment.now c.args.sums.now in
    let f = c.args.formula.now in
    if_ok c.push_any.result _ (told names numbers f).says
    (any_says names numbers f c.in-Or.parts c.as_slice-in-Or.result.now c.in_ok-truths-in-Or.truths.items c.in-Or.is c.as_slice-in-Or.ensures c.in_ok-truths-in-Or.ensures.says)
    c.push_any.ensures.says

pub push_formula-returns-in_ok-truths-in-Or-clause-added : goal.push_formula-returns-in_ok-truths-in-Or-clause-added
push_formula-returns-in_ok-truths-in-Or-clause-added t c =
    let names = name_in c.args.assignment.now in
    let numbers = number_in c.args.assignment.now c.args.sums.now in
    let f = c.args.formula.now in
    on_ok c.push_any.result
    (λ last.
    any_told names numbers f c.in-Or.parts c.as_slice-in-Or.result.now c.in_ok-truths-in-Or.truths.items c.args.out.now.items c.push_each-in-Or.new.out.items c.push_any.new.out.items
    c.in-Or.is c.as_slice-in-Or.ensures c.in_ok-truths-in-Or.ensures.says c.in_ok-truths-in-Or.ensures.added last)
    c.push_any.ensures.added

pub push_formula-returns-in_ok-second-in-Implies-clause-says : goal.push_formula-returns-in_ok-second-in-Implies-clause-says
push_formula-returns-in_ok-second-in-Implies-clause-says t c =
    let names = name_in c.args.assignment.now in
    let numbers = number_in c.args.assignment.now c.args.sums.now in
    let f = c.args.formula.now in
    if_ok c.push_implication.result _ (told names numbers f).says
    (implication_says names numbers f c.in-Implies.premise c.in-Implies.conclusion c.get-in-Implies.result.now c.get-in-Implies-2.result.now c.in_ok-first-in-Implies.first c.in_ok-second-in-Implies.second
    c.in-Implies.is c.get-in-Implies.ensures c.get-in-Implies-2.ensures c.in_ok-first-in-Implies.ensures.says c.in_ok-second-in-Implies.ensures.says)
    c.push_implication.ensures.says

pub push_formula-returns-in_ok-second-in-Implies-clause-added : goal.push_formula-returns-in_ok-second-in-Implies-clause-added
push_formula-returns-in_ok-second-in-Implies-clause-added t c =
    let names = name_in c.args.assignment.now in
    let numbers = number_in c.args.assignment.now c.args.sums.now in
    let f = c.args.formula.now in
    on_ok c.push_implication.result
    (λ last.
    implication_told names numbers f c.in-Implies.premise c.in-Implies.conclusion c.get-in-Implies.result.now c.get-in-Implies-2.result.now c.in_ok-first-in-Implies.first c.in_ok-second-in-Implies.second
    c.args.out.now.items c.push_formula-in-Implies.new.out.items c.push_formula-in-Implies-2.new.out.items c.push_implication.new.out.items
    c.in-Implies.is c.get-in-Implies.ensures c.get-in-Implies-2.ensures c.in_ok-first-in-Implies.ensures.says c.in_ok-second-in-Implies.ensures.says c.in_ok-first-in-Implies.ensures.added c.in_ok-second-in-Implies.ensures.added last)
    c.push_implication.ensures.added

pub push_formula-returns-in_ok-second-in-Iff-clause-says : goal.push_formula-returns-in_ok-second-in-Iff-clause-says
push_formula-returns-in_ok-second-in-Iff-clause-says t c =
    let names = name_in c.args.assignment.now in
    let numbers = number_in c.args.assignment.now c.args.sums.now in
    let f = c.args.formula.now in
    if_ok c.push_equivalence.result _ (told names numbers f).says
    (equivalence_says names numbers f c.in-Iff.one c.in-Iff.other c.get-in-Iff.result.now c.get-in-Iff-2.result.now c.in_ok-first-in-Iff.first c.in_ok-second-in-Iff.second
    c.in-Iff.is c.get-in-Iff.ensures c.get-in-Iff-2.ensures c.in_ok-first-in-Iff.ensures.says c.in_ok-second-in-Iff.ensures.says)
    c.push_equivalence.ensures.says

pub push_formula-returns-in_ok-second-in-Iff-clause-added : goal.push_formula-returns-in_ok-second-in-Iff-clause-added
push_formula-returns-in_ok-second-in-Iff-clause-added t c =
    let names = name_in c.args.assignment.now in
    let numbers = number_in c.args.assignment.now c.args.sums.now in
    let f = c.args.formula.now in
    on_ok c.push_equivalence.result
    (λ last.
    equivalence_told names numbers f c.in-Iff.one c.in-Iff.other c.get-in-Iff.result.now c.get-in-Iff-2.result.now c.in_ok-first-in-Iff.first c.in_ok-second-in-Iff.second
    c.args.out.now.items c.push_formula-in-Iff.new.out.items c.push_formula-in-Iff-2.new.out.items c.push_equivalence.new.out.items
    c.in-Iff.is c.get-in-Iff.ensures c.get-in-Iff-2.ensures c.in_ok-first-in-Iff.ensures.says c.in_ok-second-in-Iff.ensures.says c.in_ok-first-in-Iff.ensures.added c.in_ok-second-in-Iff.ensures.added last)
    c.push_equivalence.ensures.added

pub push_formula-returns-in-Name-clause-says : goal.push_formula-returns-in-Name-clause-says
push_formula-returns-in-Name-clause-says t c =
    let names = name_in c.args.assignment.now in
    let numbers = number_in c.args.assignment.now c.args.sums.now in
    let f = c.args.formula.now in
    name_says names numbers f c.in-Name.name c.is_true.result c.in-Name.is c.is_true.ensures

pub push_formula-returns-in-Name-clause-added : goal.push_formula-returns-in-Name-clause-added
push_formula-returns-in-Name-clause-added t c =
    let names = name_in c.args.assignment.now in
    let numbers = number_in c.args.assignment.now c.args.sums.now in
    let f = c.args.formula.now in
    name_told names numbers f c.in-Name.name c.args.out.now.items c.in-Name.is

pub push_formula-returns-in_ok-holds-in-Not-clause-says : goal.push_formula-returns-in_ok-holds-in-Not-clause-says
push_formula-returns-in_ok-holds-in-Not-clause-says t c =
    let names = name_in c.args.assignment.now in
    let numbers = number_in c.args.assignment.now c.args.sums.now in
    let f = c.args.formula.now in
    negation_says names numbers f c.in-Not.part c.get.result.now c.in_ok-holds-in-Not.holds c.in-Not.is c.get.ensures c.in_ok-holds-in-Not.ensures.says

pub push_formula-returns-in_ok-holds-in-Not-clause-added : goal.push_formula-returns-in_ok-holds-in-Not-clause-added
push_formula-returns-in_ok-holds-in-Not-clause-added t c =
    let names = name_in c.args.assignment.now in
    let numbers = number_in c.args.assignment.now c.args.sums.now in
    let f = c.args.formula.now in
    negation_told names numbers f c.in-Not.part c.get.result.now c.args.out.now.items c.push_formula.new.out.items c.in-Not.is c.get.ensures c.in_ok-holds-in-Not.ensures.added

pub push_formula-returns-in-AtMost-clause-says : goal.push_formula-returns-in-AtMost-clause-says
push_formula-returns-in-AtMost-clause-says t c =
    let names = name_in c.args.assignment.now in
    let numbers = number_in c.args.assignment.now c.args.sums.now in
    let f = c.args.formula.now in
    let l = c.in-AtMost.linear in
    let k : to_z w64 (of_z w64 c.in-AtMost.k) ≡ c.in-AtMost.k = search rules in
    let is = c.is_at_most.ensures ∙ ap (λ (z : ℤ). int_le (linear_value numbers l) z) k in
    if_ok c.push_bit.result _ (told names numbers f).says (at_most_says names numbers f l c.in-AtMost.k c.is_at_most.result c.in-AtMost.is is) c.push_bit.ensures.says

pub push_formula-returns-in-AtMost-clause-added : goal.push_formula-returns-in-AtMost-clause-added
push_formula-returns-in-AtMost-clause-added t c =
    let names = name_in c.args.assignment.now in
    let numbers = number_in c.args.assignment.now c.args.sums.now in
    let f = c.args.formula.now in
    let l = c.in-AtMost.linear in
    let k : to_z w64 (of_z w64 c.in-AtMost.k) ≡ c.in-AtMost.k = search rules in
    let is = c.is_at_most.ensures ∙ ap (λ (z : ℤ). int_le (linear_value numbers l) z) k in
    on_ok c.push_bit.result
    (λ last. at_most_told names numbers f l c.in-AtMost.k c.is_at_most.result c.args.out.now.items c.push_bit.new.out.items c.in-AtMost.is is last)
    c.push_bit.ensures.added

pub push_formula-returns-in-AtLeast-clause-says : goal.push_formula-returns-in-AtLeast-clause-says
push_formula-returns-in-AtLeast-clause-says t c =
    let names = name_in c.args.assignment.now in
    let numbers = number_in c.args.assignment.now c.args.sums.now in
    let f = c.args.formula.now in
    let l = c.in-AtLeast.linear in
    let k : to_z w64 (of_z w64 c.in-AtLeast.k) ≡ c.in-AtLeast.k = search rules in
    let is = c.is_at_least.ensures ∙ ap (λ (z : ℤ). int_le z (linear_value numbers l)) k in
    if_ok c.push_bit-in-AtLeast.result _ (told names numbers f).says (at_least_says names numbers f l c.in-AtLeast.k c.is_at_least.result c.in-AtLeast.is is) c.push_bit-in-AtLeast.ensures.says

pub push_formula-returns-in-AtLeast-clause-added : goal.push_formula-returns-in-AtLeast-clause-added
push_formula-returns-in-AtLeast-clause-added t c =
    let names = name_in c.args.assignment.now in
    let numbers = number_in c.args.assignment.now c.args.sums.now in
    let f = c.args.formula.now in
    let l = c.in-AtLeast.linear in
    let k : to_z w64 (of_z w64 c.in-AtLeast.k) ≡ c.in-AtLeast.k = search rules in
    let is = c.is_at_least.ensures ∙ ap (λ (z : ℤ). int_le z (linear_value numbers l)) k in
    on_ok c.push_bit-in-AtLeast.result
    (λ last. at_least_told names numbers f l c.in-AtLeast.k c.is_at_least.result c.args.out.now.items c.push_bit-in-AtLeast.new.out.items c.in-AtLeast.is is last)
    c.push_bit-in-AtLeast.ensures.added

pub push_formula-returns-in-Equal-clause-says : goal.push_formula-returns-in-Equal-clause-says
push_formula-returns-in-Equal-clause-says t c =
    let names = name_in c.args.assignment.now in
    let numbers = number_in c.args.assignment.now c.args.sums.now in
    let f = c.args.formula.now in
    let l = c.in-Equal.linear in
    let k : to_z w64 (of_z w64 c.in-Equal.k) ≡ c.in-Equal.k = search rules in
    let most = c.is_at_most-in-Equal.ensures ∙ ap (λ (z : ℤ). int_le (linear_value numbers l) z) k in
    let least = c.is_at_least-in-Equal.ensures ∙ ap (λ (z : ℤ). int_le z (linear_value numbers l)) k in
    if_ok c.push_equality.result _ (told names numbers f).says
    (equality_says names numbers f l c.in-Equal.k c.is_at_most-in-Equal.result c.is_at_least-in-Equal.result c.in-Equal.is most least)
    c.push_equality.ensures.says

pub push_formula-returns-in-Equal-clause-added : goal.push_formula-returns-in-Equal-clause-added
push_formula-returns-in-Equal-clause-added t c =
    let names = name_in c.args.assignment.now in
    let numbers = number_in c.args.assignment.now c.args.sums.now in
    let f = c.args.formula.now in
    let l = c.in-Equal.linear in
    let k : to_z w64 (of_z w64 c.in-Equal.k) ≡ c.in-Equal.k = search rules in
    let most = c.is_at_most-in-Equal.ensures ∙ ap (λ (z : ℤ). int_le (linear_value numbers l) z) k in
    let least = c.is_at_least-in-Equal.ensures ∙ ap (λ (z : ℤ). int_le z (linear_value numbers l)) k in
    on_ok c.push_equality.result
    (λ last.
    equality_told names numbers f l c.in-Equal.k c.is_at_most-in-Equal.result c.is_at_least-in-Equal.result c.args.out.now.items c.push_equality.new.out.items
    c.in-Equal.is most least last)
    c.push_equality.ensures.added
