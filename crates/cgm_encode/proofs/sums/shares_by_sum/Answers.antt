use Rattle.std.proofs.Common.{◌≡◌, ℕ, ◌+◌, ◌<◌, ◌≤◌, List, [], ◌∷◌, ◌++◌, ap, arith, drop, get_or, length, of_z, set, subst, sym, to_z, w64, ◌∙◌, rules}
use Rattle.std.specs.Prelude.{ℤ, pos}
use Rattle.std.specs.List.{All}
use Rattle.std.proofs.lemmas.List.{drop_all, drop_more, get_or_default}
use Rattle.cgm_formula.specs.declared.formula.Truth.TheVariants.{Element}
use Rattle.cgm_model.specs.declared.lists.Lists.{Lists}
use Rattle.cgm_model.specs.declared.lists.SumValue.{SumValue}
use Rattle.cgm_model.specs.Formulas.{IsKnownTruth}
use Rattle.cgm_model.specs.Model.{lists_of}
use Rattle.cgm_encode.specs.Totals.{Share}
use Rattle.cgm_encode.proofs.KnownParts.{known_parts, known_sums}
use Rattle.cgm_encode.proofs.SharesBySum.{AreSoFar, all_so_far, one_more}
use Rattle.cgm_encode.proofs.sums.shares_by_sum.Goals as goal

-- the next value line is the first of the rest
opened : (m : Lists) (lists : List (List Share)) (items : List SumValue) (i : ℕ) (none : SumValue) → items ≡ m.values → i < length items → AreSoFar m lists (drop i m.values) → AreSoFar m lists (get_or items i none ∷ drop (i + 1) m.values)
opened m lists items i none same h far =
    subst (λ (rest : List SumValue). AreSoFar m lists rest)
    (ap (λ (vs : List SumValue). drop i vs) (sym same) ∙ drop_more items i none h ∙ ap (λ (vs : List SumValue). get_or items i none ∷ drop (i + 1) vs) same) far

pub truth_variable-requires : goal.truth_variable-requires
truth_variable-requires c =
    let m = lists_of c.args.model.now in
    let parts = known_parts m c.args.model.now.well_formed in
    let none : SumValue = record { sum = 0; of = Element 0; k = pos 0 } in
    subst (λ (vs : List SumValue). All (λ v. IsKnownTruth m v.of) vs) (sym c.as_slice-v-items.ensures) parts.values c.loop-v.v-index none c.loop-v-test.true

pub loop-v-preserved : goal.loop-v-preserved
loop-v-preserved c =
    let m = lists_of c.args.model.now in
    let none : SumValue = record { sum = 0; of = Element 0; k = pos 0 } in
    let items = c.as_slice-v-items.result.now in
    let i = c.loop-v.v-index in
    let lists = c.loop-v.lists.items in
    let v = get_or items i none in
    let known = subst (λ (vs : List SumValue). All (λ w. w.sum < length m.sums) vs) (sym c.as_slice-v-items.ensures) (known_sums m c.args.model.now.well_formed) i none c.loop-v-test.true in
    let count = c.loop-v.invariant.count in
    let there : v.sum < length lists = omega (arith, known, count) in
    let x = c.truth_variable.result in
    let number : to_z w64 (of_z w64 v.k) ≡ v.k = search rules in
    let before : List Share = c.index_mut.result.now in
    let own : c.push.new.self ≡ get_or lists v.sum [] ++ (v.k, x) ∷ [] =
    c.in_ok-push.ensures.items ∙ ap (λ (k : ℤ). before ++ (k, x) ∷ []) number ∙ ap (λ (shares : List Share). shares ++ (v.k, x) ∷ []) (c.index_mut.ensures.value ∙ get_or_default lists v.sum before [] there) in
    one_more m lists (set lists v.sum c.push.new.self) v (drop (i + 1) m.values) x known c.truth_variable.ensures.variable
    (ap (λ (shares : List Share). set lists v.sum shares) own)
    (opened m lists items i none c.as_slice-v-items.ensures c.loop-v-test.true c.loop-v.invariant)

pub returns : goal.returns
returns c =
    let m = lists_of c.args.model.now in
    let i = c.loop-v.v-index in
    let lists = c.loop-v.lists.items in
    let long = ap (λ (vs : List SumValue). length vs) c.as_slice-v-items.ensures in
    let past : length m.values ≤ i = omega (arith, long, c.loop-v-test.false) in
    all_so_far m lists (subst (λ (rest : List SumValue). AreSoFar m lists rest) (drop_all i m.values past) c.loop-v.invariant)
