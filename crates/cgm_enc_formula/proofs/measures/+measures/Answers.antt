-- What is known of the whole formula's numbers is known of the parts', and the test of the parts is that of the whole.
use Rattle.std.proofs.Common.{rules, ◌≡◌, ◌+◌, ◌&&◌, Bool, ℤ, List, drop, refl, of_z, to_z, w64, subst, sym, ap, ◌∙◌}
use Rattle.std.specs.Prelude.{nat_le}
use Rattle.std.specs.List.{All, list_all}
use Rattle.std.proofs.lemmas.List.{drop_all}
use Rattle.cgm_atom.specs.Limits.{max_measure}
use Rattle.cgm_formula.specs.declared.formula.Formula.{Formula}
use Rattle.cgm_formula.specs.declared.formula.Formula.TheViews.{the_lemmas}
use Rattle.cgm_formula.specs.declared.formula.Linear.{Linear}
use Rattle.cgm_formula.proofs.Comparisons.{of_at_least, of_at_most, of_conjunction, of_disjunction, of_equality, of_equivalence, of_implication, of_negation}
use Rattle.cgm_model.specs.declared.lists.Lists.{Lists}
use Rattle.cgm_model.specs.Formulas.{IsKnownNumber}
use Rattle.cgm_model.specs.Model.{lists_of}
use Rattle.cgm_model.proofs.Places.{drop-read}
use Rattle.cgm_enc_formula.specs.Measures.{HasKnownNumbers, comparison_measure, has_small_measures}
use Rattle.cgm_enc_formula.proofs.MeasureTests.{small-And, small-AtLeast, small-AtMost, small-Equal, small-Iff, small-Implies, small-Name, small-Not, small-Or}
use Rattle.cgm_enc_formula.proofs.measures.+measures.Goals as goal

abbrev Known : Lists → Linear × ℤ → Type 0
Known m c = All (λ t. IsKnownNumber m t.1) c.0.terms

pub has_small_measures-has_small_measures-requires : goal.has_small_measures-has_small_measures-requires
has_small_measures-has_small_measures-requires t c =
    let m = lists_of c.args.model.now in (
      search (rules, the_lemmas),
      (c.requires.variables, subst (HasKnownNumbers m) (sym c.get.ensures) (of_negation (Known m) c.in-Not.part (subst (HasKnownNumbers m) c.in-Not.is c.requires.known))),
    )

pub has_small_measures-have_small_measures-requires : goal.has_small_measures-have_small_measures-requires
has_small_measures-have_small_measures-requires t c =
    let m = lists_of c.args.model.now in (
      search (rules, the_lemmas),
      (c.requires.variables, subst (All (HasKnownNumbers m)) (sym c.as_slice.ensures) (of_conjunction (Known m) c.in-And.parts (subst (HasKnownNumbers m) c.in-And.is c.requires.known))),
    )

pub has_small_measures-have_small_measures-requires-in-Or : goal.has_small_measures-have_small_measures-requires-in-Or
has_small_measures-have_small_measures-requires-in-Or t c =
    let m = lists_of c.args.model.now in (
      search (rules, the_lemmas),
      (c.requires.variables, subst (All (HasKnownNumbers m)) (sym c.as_slice-in-Or.ensures) (of_disjunction (Known m) c.in-Or.parts (subst (HasKnownNumbers m) c.in-Or.is c.requires.known))),
    )

pub has_small_measures-has_small_measures-premise-requires : goal.has_small_measures-has_small_measures-premise-requires
has_small_measures-has_small_measures-premise-requires t c =
    let m = lists_of c.args.model.now in (
      search (rules, the_lemmas),
      (c.requires.variables, subst (HasKnownNumbers m) (sym c.get-in-Implies.ensures) (of_implication (Known m) c.in-Implies.premise c.in-Implies.conclusion (subst (HasKnownNumbers m) c.in-Implies.is c.requires.known)).0),
    )

pub has_small_measures-has_small_measures-conclusion-requires : goal.has_small_measures-has_small_measures-conclusion-requires
has_small_measures-has_small_measures-conclusion-requires t c =
    let m = lists_of c.args.model.now in (
      search (rules, the_lemmas),
      (c.requires.variables, subst (HasKnownNumbers m) (sym c.get-in-Implies-2.ensures) (of_implication (Known m) c.in-Implies.premise c.in-Implies.conclusion (subst (HasKnownNumbers m) c.in-Implies.is c.requires.known)).1),
    )

pub has_small_measures-has_small_measures-one-requires : goal.has_small_measures-has_small_measures-one-requires
has_small_measures-has_small_measures-one-requires t c =
    let m = lists_of c.args.model.now in (
      search (rules, the_lemmas),
      (c.requires.variables, subst (HasKnownNumbers m) (sym c.get-in-Iff.ensures) (of_equivalence (Known m) c.in-Iff.one c.in-Iff.other (subst (HasKnownNumbers m) c.in-Iff.is c.requires.known)).0),
    )

pub has_small_measures-has_small_measures-other-requires : goal.has_small_measures-has_small_measures-other-requires
has_small_measures-has_small_measures-other-requires t c =
    let m = lists_of c.args.model.now in (
      search (rules, the_lemmas),
      (c.requires.variables, subst (HasKnownNumbers m) (sym c.get-in-Iff-2.ensures) (of_equivalence (Known m) c.in-Iff.one c.in-Iff.other (subst (HasKnownNumbers m) c.in-Iff.is c.requires.known)).1),
    )

pub has_small_measures-is_small-requires-clause-known :
    goal.has_small_measures-is_small-requires-clause-known
has_small_measures-is_small-requires-clause-known t c =
    let m = lists_of c.args.model.now in
    of_at_most (Known m) c.in-AtMost.linear c.in-AtMost.k (subst (HasKnownNumbers m) c.in-AtMost.is c.requires.known)

pub has_small_measures-is_small-requires-in-AtLeast-clause-known :
    goal.has_small_measures-is_small-requires-in-AtLeast-clause-known
has_small_measures-is_small-requires-in-AtLeast-clause-known t c =
    let m = lists_of c.args.model.now in
    of_at_least (Known m) c.in-AtLeast.linear c.in-AtLeast.k (subst (HasKnownNumbers m) c.in-AtLeast.is c.requires.known)

pub has_small_measures-is_small-requires-in-Equal-clause-known :
    goal.has_small_measures-is_small-requires-in-Equal-clause-known
has_small_measures-is_small-requires-in-Equal-clause-known t c =
    let m = lists_of c.args.model.now in
    of_equality (Known m) c.in-Equal.linear c.in-Equal.k (subst (HasKnownNumbers m) c.in-Equal.is c.requires.known)

pub has_small_measures-returns-in-And : goal.has_small_measures-returns-in-And
has_small_measures-returns-in-And t c =
    let small = has_small_measures (lists_of c.args.model.now) c.args.builder.now.bounds in
    c.have_small_measures.ensures ∙ ap (list_all small) c.as_slice.ensures
    ∙ sym (small-And (lists_of c.args.model.now) c.args.builder.now.bounds c.in-And.parts) ∙ ap small (sym c.in-And.is)

pub has_small_measures-returns-in-Or : goal.has_small_measures-returns-in-Or
has_small_measures-returns-in-Or t c =
    let small = has_small_measures (lists_of c.args.model.now) c.args.builder.now.bounds in
    c.have_small_measures-in-Or.ensures ∙ ap (list_all small) c.as_slice-in-Or.ensures
    ∙ sym (small-Or (lists_of c.args.model.now) c.args.builder.now.bounds c.in-Or.parts) ∙ ap small (sym c.in-Or.is)

pub has_small_measures-returns-in-Name : goal.has_small_measures-returns-in-Name
has_small_measures-returns-in-Name t c =
    let m = lists_of c.args.model.now in
    let b = c.args.builder.now.bounds in
    sym (small-Name m b c.in-Name.field-0) ∙ ap (λ (f : Formula). has_small_measures m b f) (sym c.in-Name.is)

pub has_small_measures-returns-in-Not : goal.has_small_measures-returns-in-Not
has_small_measures-returns-in-Not t c =
    let m = lists_of c.args.model.now in
    let b = c.args.builder.now.bounds in
    let small : Formula → Bool = λ f. has_small_measures m b f in
    c.has_small_measures.ensures ∙ ap small c.get.ensures ∙ sym (small-Not m b c.in-Not.part) ∙ ap small (sym c.in-Not.is)

pub has_small_measures-returns-in-Implies : goal.has_small_measures-returns-in-Implies
has_small_measures-returns-in-Implies t c =
    let m = lists_of c.args.model.now in
    let b = c.args.builder.now.bounds in
    let small : Formula → Bool = λ f. has_small_measures m b f in
    c.both.ensures
    ∙ ap (λ (s : Bool). s && c.has_small_measures-conclusion.result) (c.has_small_measures-premise.ensures ∙ ap small c.get-in-Implies.ensures)
    ∙ ap (λ (s : Bool). small c.in-Implies.premise && s) (c.has_small_measures-conclusion.ensures ∙ ap small c.get-in-Implies-2.ensures)
    ∙ sym (small-Implies m b c.in-Implies.premise c.in-Implies.conclusion) ∙ ap small (sym c.in-Implies.is)

pub has_small_measures-returns-in-Iff : goal.has_small_measures-returns-in-Iff
has_small_measures-returns-in-Iff t c =
    let m = lists_of c.args.model.now in
    let b = c.args.builder.now.bounds in
    let small : Formula → Bool = λ f. has_small_measures m b f in
    c.both-in-Iff.ensures
    ∙ ap (λ (s : Bool). s && c.has_small_measures-other.result) (c.has_small_measures-one.ensures ∙ ap small c.get-in-Iff.ensures)
    ∙ ap (λ (s : Bool). small c.in-Iff.one && s) (c.has_small_measures-other.ensures ∙ ap small c.get-in-Iff-2.ensures)
    ∙ sym (small-Iff m b c.in-Iff.one c.in-Iff.other) ∙ ap small (sym c.in-Iff.is)

pub has_small_measures-returns-in-AtMost : goal.has_small_measures-returns-in-AtMost
has_small_measures-returns-in-AtMost t c =
    let m = lists_of c.args.model.now in
    let b = c.args.builder.now.bounds in
    let k : to_z w64 (of_z w64 c.in-AtMost.k) ≡ c.in-AtMost.k = search rules in
    c.is_small.ensures
    ∙ ap (λ (z : ℤ). nat_le (comparison_measure m b (c.in-AtMost.linear, z)) max_measure) k
    ∙ sym (small-AtMost m b c.in-AtMost.linear c.in-AtMost.k) ∙ ap (λ (f : Formula). has_small_measures m b f) (sym c.in-AtMost.is)

pub has_small_measures-returns-in-AtLeast : goal.has_small_measures-returns-in-AtLeast
has_small_measures-returns-in-AtLeast t c =
    let m = lists_of c.args.model.now in
    let b = c.args.builder.now.bounds in
    let k : to_z w64 (of_z w64 c.in-AtLeast.k) ≡ c.in-AtLeast.k = search rules in
    c.is_small-in-AtLeast.ensures
    ∙ ap (λ (z : ℤ). nat_le (comparison_measure m b (c.in-AtLeast.linear, z)) max_measure) k
    ∙ sym (small-AtLeast m b c.in-AtLeast.linear c.in-AtLeast.k) ∙ ap (λ (f : Formula). has_small_measures m b f) (sym c.in-AtLeast.is)

pub has_small_measures-returns-in-Equal : goal.has_small_measures-returns-in-Equal
has_small_measures-returns-in-Equal t c =
    let m = lists_of c.args.model.now in
    let b = c.args.builder.now.bounds in
    let k : to_z w64 (of_z w64 c.in-Equal.k) ≡ c.in-Equal.k = search rules in
    c.is_small-in-Equal.ensures
    ∙ ap (λ (z : ℤ). nat_le (comparison_measure m b (c.in-Equal.linear, z)) max_measure) k
    ∙ sym (small-Equal m b c.in-Equal.linear c.in-Equal.k) ∙ ap (λ (f : Formula). has_small_measures m b f) (sym c.in-Equal.is)

pub have_small_measures-has_small_measures-requires : goal.have_small_measures-has_small_measures-requires
have_small_measures-has_small_measures-requires t c =
    let m = lists_of c.args.model.now in (
      search (rules, the_lemmas),
      (c.requires.variables, subst (HasKnownNumbers m) (sym c.part-item.is) (c.requires.known c.loop-part.part-index c.part-item.result c.loop-part-test.true)),
    )

pub have_small_measures-returns-then-not-has_small_measures : goal.have_small_measures-returns-then-not-has_small_measures
have_small_measures-returns-then-not-has_small_measures t c =
    let small : Formula → Bool = λ f. has_small_measures (lists_of c.args.model.now) c.args.builder.now.bounds f in
    let parts = c.args.parts.now in
    let rest = drop (c.loop-part.part-index + 1) parts in
    let here = drop-read parts parts c.loop-part.part-index c.part-item.result refl c.loop-part-test.true c.part-item.is in
    ap (λ (s : Bool). s && list_all small rest) c.if-not-has_small_measures.ensures ∙ ap (λ (fs : List Formula). list_all small fs) (sym here) ∙ c.loop-part.invariant

pub have_small_measures-loop-part-preserved : goal.have_small_measures-loop-part-preserved
have_small_measures-loop-part-preserved t c =
    let small : Formula → Bool = λ f. has_small_measures (lists_of c.args.model.now) c.args.builder.now.bounds f in
    let parts = c.args.parts.now in
    let rest = drop (c.loop-part.part-index + 1) parts in
    let here = drop-read parts parts c.loop-part.part-index c.part-item.result refl c.loop-part-test.true c.part-item.is in
    ap (λ (s : Bool). s && list_all small rest) c.if-not-has_small_measures.ensures ∙ ap (λ (fs : List Formula). list_all small fs) (sym here) ∙ c.loop-part.invariant

pub have_small_measures-returns : goal.have_small_measures-returns
have_small_measures-returns t c =
    let small : Formula → Bool = λ f. has_small_measures (lists_of c.args.model.now) c.args.builder.now.bounds f in
    ap (λ (fs : List Formula). list_all small fs) (sym (drop_all c.loop-part.part-index c.args.parts.now c.loop-part-test.false)) ∙ c.loop-part.invariant
