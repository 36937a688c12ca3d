-- What is known of the whole formula is known of its parts, and the parts with the whole behind them come to the formula's naming.
use Rattle.std.proofs.Common.{rules, ◌≡◌, ℕ, ◌+◌, ◌<◌, ◌≤◌, ◌∷◌, [], List, ℤ, to_z, of_z, w64, drop, refl, subst, sym, ap, ◌∙◌, arith}
use Rattle.std.specs.List.{All}
use Rattle.std.proofs.lemmas.List.Elements.{All-cons, All-nil}
use Rattle.std.proofs.lemmas.Result.{IfOk-weaker, on_ok_weaker}
use Rattle.cgm_atom.specs.Instance.{var_count}
use Rattle.cgm_formula.specs.declared.formula.Formula.{Formula}
use Rattle.cgm_formula.specs.declared.formula.Formula.TheViews.{the_lemmas}
use Rattle.cgm_formula.proofs.Comparisons.{of_at_least, of_at_most, of_equality}
use Rattle.cgm_model.specs.Model.{lists_of}
use Rattle.cgm_model.proofs.Places.{drop-read}
use Rattle.cgm_enc_formula.specs.declared.literals.Literal.{Literal}
use Rattle.cgm_enc_formula.specs.Building.{HasRoomFor, Part, definition_part, definitions_part, with_part}
use Rattle.cgm_enc_formula.specs.Definitions.{Definition, all_of, any_of, at_least, at_most, same_as}
use Rattle.cgm_enc_formula.specs.Literals.{opposite, positive}
use Rattle.cgm_enc_formula.specs.Naming.{Named, equal_definitions, naming}
use Rattle.cgm_enc_formula.specs.Terms.{AreRowTerms, IsEncodableFormula, model_variables, row_terms}
use Rattle.cgm_enc_formula.proofs.NamingSteps.{Adds, AreNamed, Fits, count_after, encodable_after, encodable_conjunction, encodable_disjunction, encodable_equivalence, encodable_implication, encodable_name, encodable_negation, first_of_two, front_fits, iff_definition, implies_definition, literal_within, literals_within, naming-And, naming-AtLeast, naming-AtMost, naming-Equal, naming-Iff, naming-Implies, naming-Name, naming-Not, naming-Or, named_more, next_fits, next_known, parts_at, second_at, second_naming, second_of_two, two_added, two_definitions, whole_added, whole_fits}
use Rattle.cgm_enc_formula.proofs.Steps.{one_definition, with_none}
use Rattle.cgm_enc_formula.proofs.names.+naming.Goals as goal

pub name_formula-truth_variable-requires :
    goal.name_formula-truth_variable-requires
name_formula-truth_variable-requires t c =
    let m = lists_of c.args.model.now in
    let b = c.args.builder.now in
    let n = var_count b in
    let f = c.args.formula.now in
    encodable_name m b.bounds c.in-Name.name (subst (IsEncodableFormula m b.bounds) c.in-Name.is c.requires.formula)

pub name_formula-name_formula-requires :
    goal.name_formula-name_formula-requires
name_formula-name_formula-requires t c =
    let m = lists_of c.args.model.now in
    let b = c.args.builder.now in
    let n = var_count b in
    let f = c.args.formula.now in
    let room = subst (λ (x : Named). Fits b x.definitions) (naming-Not m f c.in-Not.part n c.in-Not.is) c.requires.room in (
      search (rules, the_lemmas),
      (
        subst (IsEncodableFormula m b.bounds) (sym c.get.ensures) (encodable_negation m b.bounds c.in-Not.part (subst (IsEncodableFormula m b.bounds) c.in-Not.is c.requires.formula)),
        (
          c.requires.variables,
          subst (λ (x : Formula). Fits b (naming m x n).definitions) (sym c.get.ensures) room,
        ),
      ),
    )

pub name_formula-name_each-requires :
    goal.name_formula-name_each-requires
name_formula-name_each-requires t c =
    let m = lists_of c.args.model.now in
    let b = c.args.builder.now in
    let n = var_count b in
    let f = c.args.formula.now in
    let parts = c.in-And.parts in
    let room = subst (λ (x : Named). Fits b x.definitions) (naming-And m f parts n c.in-And.is) c.requires.room in (
      search (rules, the_lemmas),
      (
        subst (All (IsEncodableFormula m b.bounds)) (sym c.as_slice.ensures) (encodable_conjunction m b.bounds parts (subst (IsEncodableFormula m b.bounds) c.in-And.is c.requires.formula)),
        (
          c.requires.variables,
          subst (λ (xs : List Formula). Fits b (parts_at m xs n).definitions) (sym c.as_slice.ensures)
              (front_fits b (parts_at m parts n).definitions (all_of (parts_at m parts n).literals ∷ []) room),
        ),
      ),
    )

pub name_formula-name_each-requires-in-Or :
    goal.name_formula-name_each-requires-in-Or
name_formula-name_each-requires-in-Or t c =
    let m = lists_of c.args.model.now in
    let b = c.args.builder.now in
    let n = var_count b in
    let f = c.args.formula.now in
    let parts = c.in-Or.parts in
    let room = subst (λ (x : Named). Fits b x.definitions) (naming-Or m f parts n c.in-Or.is) c.requires.room in (
      search (rules, the_lemmas),
      (
        subst (All (IsEncodableFormula m b.bounds)) (sym c.as_slice-in-Or.ensures) (encodable_disjunction m b.bounds parts (subst (IsEncodableFormula m b.bounds) c.in-Or.is c.requires.formula)),
        (
          c.requires.variables,
          subst (λ (xs : List Formula). Fits b (parts_at m xs n).definitions) (sym c.as_slice-in-Or.ensures)
              (front_fits b (parts_at m parts n).definitions (any_of (parts_at m parts n).literals ∷ []) room),
        ),
      ),
    )

pub name_formula-name_formula-requires-in-Implies :
    goal.name_formula-name_formula-requires-in-Implies
name_formula-name_formula-requires-in-Implies t c =
    let m = lists_of c.args.model.now in
    let b = c.args.builder.now in
    let n = var_count b in
    let f = c.args.formula.now in
    let first = c.in-Implies.premise in
    let second = c.in-Implies.conclusion in
    let room = subst (λ (x : Named). Fits b x.definitions) (naming-Implies m f first second n c.in-Implies.is) c.requires.room in (
      search (rules, the_lemmas),
      (
        subst (IsEncodableFormula m b.bounds) (sym c.get-in-Implies.ensures) (encodable_implication m b.bounds first second (subst (IsEncodableFormula m b.bounds) c.in-Implies.is c.requires.formula)).0,
        (
          c.requires.variables,
          subst (λ (x : Formula). Fits b (naming m x n).definitions) (sym c.get-in-Implies.ensures) (first_of_two m first second (implies_definition m first second n) b room),
        ),
      ),
    )

pub name_formula-name_formula-requires-in-Iff :
    goal.name_formula-name_formula-requires-in-Iff
name_formula-name_formula-requires-in-Iff t c =
    let m = lists_of c.args.model.now in
    let b = c.args.builder.now in
    let n = var_count b in
    let f = c.args.formula.now in
    let first = c.in-Iff.one in
    let second = c.in-Iff.other in
    let room = subst (λ (x : Named). Fits b x.definitions) (naming-Iff m f first second n c.in-Iff.is) c.requires.room in (
      search (rules, the_lemmas),
      (
        subst (IsEncodableFormula m b.bounds) (sym c.get-in-Iff.ensures) (encodable_equivalence m b.bounds first second (subst (IsEncodableFormula m b.bounds) c.in-Iff.is c.requires.formula)).0,
        (
          c.requires.variables,
          subst (λ (x : Formula). Fits b (naming m x n).definitions) (sym c.get-in-Iff.ensures) (first_of_two m first second (iff_definition m first second n) b room),
        ),
      ),
    )

pub name_formula-name_at_most-requires-clause-comparison :
    goal.name_formula-name_at_most-requires-clause-comparison
name_formula-name_at_most-requires-clause-comparison t c =
    let m = lists_of c.args.model.now in
    let b = c.args.builder.now in
    let n = var_count b in
    let f = c.args.formula.now in
    let k : to_z w64 (of_z w64 c.in-AtMost.k) ≡ c.in-AtMost.k = search rules in
    subst (λ (z : ℤ). AreRowTerms m b.bounds (c.in-AtMost.linear, z)) (sym k)
    (of_at_most (AreRowTerms m b.bounds) c.in-AtMost.linear c.in-AtMost.k (subst (IsEncodableFormula m b.bounds) c.in-AtMost.is c.requires.formula).comparisons)

pub name_formula-name_at_least-requires-clause-comparison :
    goal.name_formula-name_at_least-requires-clause-comparison
name_formula-name_at_least-requires-clause-comparison t c =
    let m = lists_of c.args.model.now in
    let b = c.args.builder.now in
    let n = var_count b in
    let f = c.args.formula.now in
    let k : to_z w64 (of_z w64 c.in-AtLeast.k) ≡ c.in-AtLeast.k = search rules in
    subst (λ (z : ℤ). AreRowTerms m b.bounds (c.in-AtLeast.linear, z)) (sym k)
    (of_at_least (AreRowTerms m b.bounds) c.in-AtLeast.linear c.in-AtLeast.k (subst (IsEncodableFormula m b.bounds) c.in-AtLeast.is c.requires.formula).comparisons)

pub name_formula-name_equal-requires-clause-comparison :
    goal.name_formula-name_equal-requires-clause-comparison
name_formula-name_equal-requires-clause-comparison t c =
    let m = lists_of c.args.model.now in
    let b = c.args.builder.now in
    let n = var_count b in
    let f = c.args.formula.now in
    let k : to_z w64 (of_z w64 c.in-Equal.k) ≡ c.in-Equal.k = search rules in
    subst (λ (z : ℤ). AreRowTerms m b.bounds (c.in-Equal.linear, z)) (sym k)
    (of_equality (AreRowTerms m b.bounds) c.in-Equal.linear c.in-Equal.k (subst (IsEncodableFormula m b.bounds) c.in-Equal.is c.requires.formula).comparisons)

pub name_formula-define_all-requires-clause-known :
    goal.name_formula-define_all-requires-clause-known
name_formula-define_all-requires-clause-known t c =
    let m = lists_of c.args.model.now in
    let b = c.args.builder.now in
    let n = var_count b in
    let f = c.args.formula.now in
    let parts = c.in-And.parts in
    let p = c.name_each.new.builder in
    let ds = (parts_at m parts n).definitions in
    let ls = (parts_at m parts n).literals in
    let added : Adds b ds p = subst (λ (xs : List Formula). Adds b (parts_at m xs n).definitions p) c.as_slice.ensures c.in_ok-literals-in-And.ensures.added in
    let same : c.as_slice-in-And.result.now ≡ ls = c.as_slice-in-And.ensures.value ∙ c.in_ok-literals-in-And.ensures.literals ∙ ap (λ (xs : List Formula). (parts_at m xs n).literals) c.as_slice.ensures in
    subst (λ (xs : List Literal). All (λ l. l.variable < var_count p) xs) (sym same)
    (literals_within m parts b p (encodable_conjunction m b.bounds parts (subst (IsEncodableFormula m b.bounds) c.in-And.is c.requires.formula)) c.requires.variables added)

pub name_formula-define_all-requires-clause-room :
    goal.name_formula-define_all-requires-clause-room
name_formula-define_all-requires-clause-room t c =
    let m = lists_of c.args.model.now in
    let b = c.args.builder.now in
    let n = var_count b in
    let f = c.args.formula.now in
    let parts = c.in-And.parts in
    let p = c.name_each.new.builder in
    let ds = (parts_at m parts n).definitions in
    let ls = (parts_at m parts n).literals in
    let added : Adds b ds p = subst (λ (xs : List Formula). Adds b (parts_at m xs n).definitions p) c.as_slice.ensures c.in_ok-literals-in-And.ensures.added in
    let same : c.as_slice-in-And.result.now ≡ ls = c.as_slice-in-And.ensures.value ∙ c.in_ok-literals-in-And.ensures.literals ∙ ap (λ (xs : List Formula). (parts_at m xs n).literals) c.as_slice.ensures in
    let room = subst (λ (x : Named). Fits b x.definitions) (naming-And m f parts n c.in-And.is) c.requires.room in
    subst (λ (xs : List Literal). HasRoomFor p (definition_part (var_count p) (all_of xs))) (sym same) (whole_fits b p ds (all_of ls) added room)

pub name_formula-returns-in_ok-literals-in-And-clause-literal :
    goal.name_formula-returns-in_ok-literals-in-And-clause-literal
name_formula-returns-in_ok-literals-in-And-clause-literal t c =
    let m = lists_of c.args.model.now in
    let b = c.args.builder.now in
    let n = var_count b in
    let f = c.args.formula.now in
    let parts = c.in-And.parts in
    let p = c.name_each.new.builder in
    let ds = (parts_at m parts n).definitions in
    let ls = (parts_at m parts n).literals in
    let added : Adds b ds p = subst (λ (xs : List Formula). Adds b (parts_at m xs n).definitions p) c.as_slice.ensures c.in_ok-literals-in-And.ensures.added in
    let same : c.as_slice-in-And.result.now ≡ ls = c.as_slice-in-And.ensures.value ∙ c.in_ok-literals-in-And.ensures.literals ∙ ap (λ (xs : List Formula). (parts_at m xs n).literals) c.as_slice.ensures in
    IfOk-weaker c.define_all.result (λ l. l ≡ positive (var_count p)) (λ l. l ≡ (naming m f n).literal)
    (λ l h. h ∙ ap (λ (k : ℕ). positive k) (count_after b p ds added) ∙ ap (λ (x : Named). x.literal) (sym (naming-And m f parts n c.in-And.is)))
    c.define_all.ensures.literal

pub name_formula-returns-in_ok-literals-in-And-clause-added :
    goal.name_formula-returns-in_ok-literals-in-And-clause-added
name_formula-returns-in_ok-literals-in-And-clause-added t c =
    let m = lists_of c.args.model.now in
    let b = c.args.builder.now in
    let n = var_count b in
    let f = c.args.formula.now in
    let parts = c.in-And.parts in
    let p = c.name_each.new.builder in
    let ds = (parts_at m parts n).definitions in
    let ls = (parts_at m parts n).literals in
    let added : Adds b ds p = subst (λ (xs : List Formula). Adds b (parts_at m xs n).definitions p) c.as_slice.ensures c.in_ok-literals-in-And.ensures.added in
    let same : c.as_slice-in-And.result.now ≡ ls = c.as_slice-in-And.ensures.value ∙ c.in_ok-literals-in-And.ensures.literals ∙ ap (λ (xs : List Formula). (parts_at m xs n).literals) c.as_slice.ensures in
    let last = c.define_all.new.builder in
    on_ok_weaker c.define_all.result
    (λ h. subst (λ (x : Named). Adds b x.definitions last) (sym (naming-And m f parts n c.in-And.is))
    (whole_added b p last ds (all_of ls) added (h ∙ ap (λ (xs : List Literal). with_part p (definition_part (var_count p) (all_of xs))) same)))
    c.define_all.ensures.added

pub name_formula-define_any-requires-clause-known :
    goal.name_formula-define_any-requires-clause-known
name_formula-define_any-requires-clause-known t c =
    let m = lists_of c.args.model.now in
    let b = c.args.builder.now in
    let n = var_count b in
    let f = c.args.formula.now in
    let parts = c.in-Or.parts in
    let p = c.name_each-in-Or.new.builder in
    let ds = (parts_at m parts n).definitions in
    let ls = (parts_at m parts n).literals in
    let added : Adds b ds p = subst (λ (xs : List Formula). Adds b (parts_at m xs n).definitions p) c.as_slice-in-Or.ensures c.in_ok-literals-in-Or.ensures.added in
    let same : c.as_slice-in-Or-2.result.now ≡ ls = c.as_slice-in-Or-2.ensures.value ∙ c.in_ok-literals-in-Or.ensures.literals ∙ ap (λ (xs : List Formula). (parts_at m xs n).literals) c.as_slice-in-Or.ensures in
    subst (λ (xs : List Literal). All (λ l. l.variable < var_count p) xs) (sym same)
    (literals_within m parts b p (encodable_disjunction m b.bounds parts (subst (IsEncodableFormula m b.bounds) c.in-Or.is c.requires.formula)) c.requires.variables added)

pub name_formula-define_any-requires-clause-room :
    goal.name_formula-define_any-requires-clause-room
name_formula-define_any-requires-clause-room t c =
    let m = lists_of c.args.model.now in
    let b = c.args.builder.now in
    let n = var_count b in
    let f = c.args.formula.now in
    let parts = c.in-Or.parts in
    let p = c.name_each-in-Or.new.builder in
    let ds = (parts_at m parts n).definitions in
    let ls = (parts_at m parts n).literals in
    let added : Adds b ds p = subst (λ (xs : List Formula). Adds b (parts_at m xs n).definitions p) c.as_slice-in-Or.ensures c.in_ok-literals-in-Or.ensures.added in
    let same : c.as_slice-in-Or-2.result.now ≡ ls = c.as_slice-in-Or-2.ensures.value ∙ c.in_ok-literals-in-Or.ensures.literals ∙ ap (λ (xs : List Formula). (parts_at m xs n).literals) c.as_slice-in-Or.ensures in
    let room = subst (λ (x : Named). Fits b x.definitions) (naming-Or m f parts n c.in-Or.is) c.requires.room in
    subst (λ (xs : List Literal). HasRoomFor p (definition_part (var_count p) (any_of xs))) (sym same) (whole_fits b p ds (any_of ls) added room)

pub name_formula-returns-in_ok-literals-in-Or-clause-literal :
    goal.name_formula-returns-in_ok-literals-in-Or-clause-literal
name_formula-returns-in_ok-literals-in-Or-clause-literal t c =
    let m = lists_of c.args.model.now in
    let b = c.args.builder.now in
    let n = var_count b in
    let f = c.args.formula.now in
    let parts = c.in-Or.parts in
    let p = c.name_each-in-Or.new.builder in
    let ds = (parts_at m parts n).definitions in
    let ls = (parts_at m parts n).literals in
    let added : Adds b ds p = subst (λ (xs : List Formula). Adds b (parts_at m xs n).definitions p) c.as_slice-in-Or.ensures c.in_ok-literals-in-Or.ensures.added in
    let same : c.as_slice-in-Or-2.result.now ≡ ls = c.as_slice-in-Or-2.ensures.value ∙ c.in_ok-literals-in-Or.ensures.literals ∙ ap (λ (xs : List Formula). (parts_at m xs n).literals) c.as_slice-in-Or.ensures in
    IfOk-weaker c.define_any.result (λ l. l ≡ positive (var_count p)) (λ l. l ≡ (naming m f n).literal)
    (λ l h. h ∙ ap (λ (k : ℕ). positive k) (count_after b p ds added) ∙ ap (λ (x : Named). x.literal) (sym (naming-Or m f parts n c.in-Or.is)))
    c.define_any.ensures.literal

pub name_formula-returns-in_ok-literals-in-Or-clause-added :
    goal.name_formula-returns-in_ok-literals-in-Or-clause-added
name_formula-returns-in_ok-literals-in-Or-clause-added t c =
    let m = lists_of c.args.model.now in
    let b = c.args.builder.now in
    let n = var_count b in
    let f = c.args.formula.now in
    let parts = c.in-Or.parts in
    let p = c.name_each-in-Or.new.builder in
    let ds = (parts_at m parts n).definitions in
    let ls = (parts_at m parts n).literals in
    let added : Adds b ds p = subst (λ (xs : List Formula). Adds b (parts_at m xs n).definitions p) c.as_slice-in-Or.ensures c.in_ok-literals-in-Or.ensures.added in
    let same : c.as_slice-in-Or-2.result.now ≡ ls = c.as_slice-in-Or-2.ensures.value ∙ c.in_ok-literals-in-Or.ensures.literals ∙ ap (λ (xs : List Formula). (parts_at m xs n).literals) c.as_slice-in-Or.ensures in
    let last = c.define_any.new.builder in
    on_ok_weaker c.define_any.result
    (λ h. subst (λ (x : Named). Adds b x.definitions last) (sym (naming-Or m f parts n c.in-Or.is))
    (whole_added b p last ds (any_of ls) added (h ∙ ap (λ (xs : List Literal). with_part p (definition_part (var_count p) (any_of xs))) same)))
    c.define_any.ensures.added

pub name_formula-name_formula-requires-in-Implies-2 :
    goal.name_formula-name_formula-requires-in-Implies-2
name_formula-name_formula-requires-in-Implies-2 t c =
    let m = lists_of c.args.model.now in
    let b = c.args.builder.now in
    let n = var_count b in
    let f = c.args.formula.now in
    let one = c.in-Implies.premise in
    let other = c.in-Implies.conclusion in
    let p = c.name_formula-in-Implies.new.builder in
    let d = implies_definition m one other n in
    let room = subst (λ (x : Named). Fits b x.definitions) (naming-Implies m f one other n c.in-Implies.is) c.requires.room in
    let known = encodable_implication m b.bounds one other (subst (IsEncodableFormula m b.bounds) c.in-Implies.is c.requires.formula) in
    let added : Adds b (naming m one n).definitions p = subst (λ (x : Formula). Adds b (naming m x n).definitions p) c.get-in-Implies.ensures c.in_ok-premise-in-Implies.ensures.added in
    let count = count_after b p (naming m one n).definitions added in
    let few = c.requires.variables in
    let more : model_variables m ≤ var_count p = omega arith in (
      search (rules, the_lemmas),
      (
        subst (IsEncodableFormula m p.bounds) (sym c.get-in-Implies-2.ensures) (encodable_after m other b p (definitions_part n (naming m one n).definitions) added c.recall_well_formed.ensures.proper.same_count few known.1),
        (more, subst (λ (x : Formula). Fits p (naming m x (var_count p)).definitions) (sym c.get-in-Implies-2.ensures) (second_of_two m one other d b p added room)),
      ),
    )

pub name_formula-define_any-requires-in-Implies-clause-known :
    goal.name_formula-define_any-requires-in-Implies-clause-known
name_formula-define_any-requires-in-Implies-clause-known t c =
    let m = lists_of c.args.model.now in
    let b = c.args.builder.now in
    let n = var_count b in
    let f = c.args.formula.now in
    let one = c.in-Implies.premise in
    let other = c.in-Implies.conclusion in
    let p = c.name_formula-in-Implies.new.builder in
    let d = implies_definition m one other n in
    let room = subst (λ (x : Named). Fits b x.definitions) (naming-Implies m f one other n c.in-Implies.is) c.requires.room in
    let known = encodable_implication m b.bounds one other (subst (IsEncodableFormula m b.bounds) c.in-Implies.is c.requires.formula) in
    let added : Adds b (naming m one n).definitions p = subst (λ (x : Formula). Adds b (naming m x n).definitions p) c.get-in-Implies.ensures c.in_ok-premise-in-Implies.ensures.added in
    let count = count_after b p (naming m one n).definitions added in
    let few = c.requires.variables in
    let more : model_variables m ≤ var_count p = omega arith in
    let q = c.name_formula-in-Implies-2.new.builder in
    let next : Adds p (naming m other (var_count p)).definitions q = subst (λ (x : Formula). Adds p (naming m x (var_count p)).definitions q) c.get-in-Implies-2.ensures c.in_ok-conclusion-in-Implies.ensures.added in
    let all = two_added m one other b p q added next in
    let last_count = count_after p q (naming m other (var_count p)).definitions next in
    let first_literal : c.in_ok-premise-in-Implies.premise ≡ (naming m one n).literal = c.in_ok-premise-in-Implies.ensures.literal ∙ ap (λ (x : Formula). (naming m x n).literal) c.get-in-Implies.ensures in
    let own_literal : c.in_ok-conclusion-in-Implies.conclusion ≡ (naming m other (var_count p)).literal = c.in_ok-conclusion-in-Implies.ensures.literal ∙ ap (λ (x : Formula). (naming m x (var_count p)).literal) c.get-in-Implies-2.ensures in
    let second_literal : c.in_ok-conclusion-in-Implies.conclusion ≡ (second_naming m one other n).literal = own_literal ∙ ap (λ (x : Named). x.literal) (sym (second_at m one other b p added)) in
    let first_within = literal_within m one b p known.0 few added in
    let second_within = literal_within m other p q known.1 more next in
    let first_variable = ap (λ (l : Literal). l.variable) first_literal in
    let second_variable = ap (λ (l : Literal). l.variable) own_literal in
    let denied : c.opposite-in-Implies.result ≡ opposite (naming m one n).literal = c.opposite-in-Implies.ensures ∙ ap opposite first_literal in
    let denied_variable = ap (λ (l : Literal). l.variable) denied in
    let same : (c.opposite-in-Implies.result ∷ c.in_ok-conclusion-in-Implies.conclusion ∷ []) ≡ (opposite (naming m one n).literal ∷ (second_naming m one other n).literal ∷ []) = ap (λ (l : Literal). l ∷ c.in_ok-conclusion-in-Implies.conclusion ∷ []) denied ∙ ap (λ (l : Literal). opposite (naming m one n).literal ∷ l ∷ []) second_literal in
    All-cons (λ l. l.variable < var_count q) c.opposite-in-Implies.result (c.in_ok-conclusion-in-Implies.conclusion ∷ []) (omega arith)
    (All-cons (λ l. l.variable < var_count q) c.in_ok-conclusion-in-Implies.conclusion [] (omega arith) (All-nil (λ l. l.variable < var_count q)))

pub name_formula-define_any-requires-in-Implies-clause-room :
    goal.name_formula-define_any-requires-in-Implies-clause-room
name_formula-define_any-requires-in-Implies-clause-room t c =
    let m = lists_of c.args.model.now in
    let b = c.args.builder.now in
    let n = var_count b in
    let f = c.args.formula.now in
    let one = c.in-Implies.premise in
    let other = c.in-Implies.conclusion in
    let p = c.name_formula-in-Implies.new.builder in
    let d = implies_definition m one other n in
    let room = subst (λ (x : Named). Fits b x.definitions) (naming-Implies m f one other n c.in-Implies.is) c.requires.room in
    let known = encodable_implication m b.bounds one other (subst (IsEncodableFormula m b.bounds) c.in-Implies.is c.requires.formula) in
    let added : Adds b (naming m one n).definitions p = subst (λ (x : Formula). Adds b (naming m x n).definitions p) c.get-in-Implies.ensures c.in_ok-premise-in-Implies.ensures.added in
    let count = count_after b p (naming m one n).definitions added in
    let few = c.requires.variables in
    let more : model_variables m ≤ var_count p = omega arith in
    let q = c.name_formula-in-Implies-2.new.builder in
    let next : Adds p (naming m other (var_count p)).definitions q = subst (λ (x : Formula). Adds p (naming m x (var_count p)).definitions q) c.get-in-Implies-2.ensures c.in_ok-conclusion-in-Implies.ensures.added in
    let all = two_added m one other b p q added next in
    let last_count = count_after p q (naming m other (var_count p)).definitions next in
    let first_literal : c.in_ok-premise-in-Implies.premise ≡ (naming m one n).literal = c.in_ok-premise-in-Implies.ensures.literal ∙ ap (λ (x : Formula). (naming m x n).literal) c.get-in-Implies.ensures in
    let own_literal : c.in_ok-conclusion-in-Implies.conclusion ≡ (naming m other (var_count p)).literal = c.in_ok-conclusion-in-Implies.ensures.literal ∙ ap (λ (x : Formula). (naming m x (var_count p)).literal) c.get-in-Implies-2.ensures in
    let second_literal : c.in_ok-conclusion-in-Implies.conclusion ≡ (second_naming m one other n).literal = own_literal ∙ ap (λ (x : Named). x.literal) (sym (second_at m one other b p added)) in
    let first_within = literal_within m one b p known.0 few added in
    let second_within = literal_within m other p q known.1 more next in
    let first_variable = ap (λ (l : Literal). l.variable) first_literal in
    let second_variable = ap (λ (l : Literal). l.variable) own_literal in
    let denied : c.opposite-in-Implies.result ≡ opposite (naming m one n).literal = c.opposite-in-Implies.ensures ∙ ap opposite first_literal in
    let denied_variable = ap (λ (l : Literal). l.variable) denied in
    let same : (c.opposite-in-Implies.result ∷ c.in_ok-conclusion-in-Implies.conclusion ∷ []) ≡ (opposite (naming m one n).literal ∷ (second_naming m one other n).literal ∷ []) = ap (λ (l : Literal). l ∷ c.in_ok-conclusion-in-Implies.conclusion ∷ []) denied ∙ ap (λ (l : Literal). opposite (naming m one n).literal ∷ l ∷ []) second_literal in
    subst (λ (xs : List Literal). HasRoomFor q (definition_part (var_count q) (any_of xs))) (sym same) (whole_fits b q (two_definitions m one other n) d all room)

pub name_formula-returns-in_ok-conclusion-in-Implies-clause-literal :
    goal.name_formula-returns-in_ok-conclusion-in-Implies-clause-literal
name_formula-returns-in_ok-conclusion-in-Implies-clause-literal t c =
    let m = lists_of c.args.model.now in
    let b = c.args.builder.now in
    let n = var_count b in
    let f = c.args.formula.now in
    let one = c.in-Implies.premise in
    let other = c.in-Implies.conclusion in
    let p = c.name_formula-in-Implies.new.builder in
    let d = implies_definition m one other n in
    let room = subst (λ (x : Named). Fits b x.definitions) (naming-Implies m f one other n c.in-Implies.is) c.requires.room in
    let known = encodable_implication m b.bounds one other (subst (IsEncodableFormula m b.bounds) c.in-Implies.is c.requires.formula) in
    let added : Adds b (naming m one n).definitions p = subst (λ (x : Formula). Adds b (naming m x n).definitions p) c.get-in-Implies.ensures c.in_ok-premise-in-Implies.ensures.added in
    let count = count_after b p (naming m one n).definitions added in
    let few = c.requires.variables in
    let more : model_variables m ≤ var_count p = omega arith in
    let q = c.name_formula-in-Implies-2.new.builder in
    let next : Adds p (naming m other (var_count p)).definitions q = subst (λ (x : Formula). Adds p (naming m x (var_count p)).definitions q) c.get-in-Implies-2.ensures c.in_ok-conclusion-in-Implies.ensures.added in
    let all = two_added m one other b p q added next in
    let last_count = count_after p q (naming m other (var_count p)).definitions next in
    let first_literal : c.in_ok-premise-in-Implies.premise ≡ (naming m one n).literal = c.in_ok-premise-in-Implies.ensures.literal ∙ ap (λ (x : Formula). (naming m x n).literal) c.get-in-Implies.ensures in
    let own_literal : c.in_ok-conclusion-in-Implies.conclusion ≡ (naming m other (var_count p)).literal = c.in_ok-conclusion-in-Implies.ensures.literal ∙ ap (λ (x : Formula). (naming m x (var_count p)).literal) c.get-in-Implies-2.ensures in
    let second_literal : c.in_ok-conclusion-in-Implies.conclusion ≡ (second_naming m one other n).literal = own_literal ∙ ap (λ (x : Named). x.literal) (sym (second_at m one other b p added)) in
    let first_within = literal_within m one b p known.0 few added in
    let second_within = literal_within m other p q known.1 more next in
    let first_variable = ap (λ (l : Literal). l.variable) first_literal in
    let second_variable = ap (λ (l : Literal). l.variable) own_literal in
    IfOk-weaker c.define_any-in-Implies.result (λ l. l ≡ positive (var_count q)) (λ l. l ≡ (naming m f n).literal)
    (λ l h. h ∙ ap (λ (k : ℕ). positive k) (count_after b q (two_definitions m one other n) all) ∙ ap (λ (x : Named). x.literal) (sym (naming-Implies m f one other n c.in-Implies.is)))
    c.define_any-in-Implies.ensures.literal

pub name_formula-returns-in_ok-conclusion-in-Implies-clause-added :
    goal.name_formula-returns-in_ok-conclusion-in-Implies-clause-added
name_formula-returns-in_ok-conclusion-in-Implies-clause-added t c =
    let m = lists_of c.args.model.now in
    let b = c.args.builder.now in
    let n = var_count b in
    let f = c.args.formula.now in
    let one = c.in-Implies.premise in
    let other = c.in-Implies.conclusion in
    let p = c.name_formula-in-Implies.new.builder in
    let d = implies_definition m one other n in
    let room = subst (λ (x : Named). Fits b x.definitions) (naming-Implies m f one other n c.in-Implies.is) c.requires.room in
    let known = encodable_implication m b.bounds one other (subst (IsEncodableFormula m b.bounds) c.in-Implies.is c.requires.formula) in
    let added : Adds b (naming m one n).definitions p = subst (λ (x : Formula). Adds b (naming m x n).definitions p) c.get-in-Implies.ensures c.in_ok-premise-in-Implies.ensures.added in
    let count = count_after b p (naming m one n).definitions added in
    let few = c.requires.variables in
    let more : model_variables m ≤ var_count p = omega arith in
    let q = c.name_formula-in-Implies-2.new.builder in
    let next : Adds p (naming m other (var_count p)).definitions q = subst (λ (x : Formula). Adds p (naming m x (var_count p)).definitions q) c.get-in-Implies-2.ensures c.in_ok-conclusion-in-Implies.ensures.added in
    let all = two_added m one other b p q added next in
    let last_count = count_after p q (naming m other (var_count p)).definitions next in
    let first_literal : c.in_ok-premise-in-Implies.premise ≡ (naming m one n).literal = c.in_ok-premise-in-Implies.ensures.literal ∙ ap (λ (x : Formula). (naming m x n).literal) c.get-in-Implies.ensures in
    let own_literal : c.in_ok-conclusion-in-Implies.conclusion ≡ (naming m other (var_count p)).literal = c.in_ok-conclusion-in-Implies.ensures.literal ∙ ap (λ (x : Formula). (naming m x (var_count p)).literal) c.get-in-Implies-2.ensures in
    let second_literal : c.in_ok-conclusion-in-Implies.conclusion ≡ (second_naming m one other n).literal = own_literal ∙ ap (λ (x : Named). x.literal) (sym (second_at m one other b p added)) in
    let first_within = literal_within m one b p known.0 few added in
    let second_within = literal_within m other p q known.1 more next in
    let first_variable = ap (λ (l : Literal). l.variable) first_literal in
    let second_variable = ap (λ (l : Literal). l.variable) own_literal in
    let denied : c.opposite-in-Implies.result ≡ opposite (naming m one n).literal = c.opposite-in-Implies.ensures ∙ ap opposite first_literal in
    let denied_variable = ap (λ (l : Literal). l.variable) denied in
    let same : (c.opposite-in-Implies.result ∷ c.in_ok-conclusion-in-Implies.conclusion ∷ []) ≡ (opposite (naming m one n).literal ∷ (second_naming m one other n).literal ∷ []) = ap (λ (l : Literal). l ∷ c.in_ok-conclusion-in-Implies.conclusion ∷ []) denied ∙ ap (λ (l : Literal). opposite (naming m one n).literal ∷ l ∷ []) second_literal in
    let last = c.define_any-in-Implies.new.builder in
    on_ok_weaker c.define_any-in-Implies.result
    (λ h. subst (λ (x : Named). Adds b x.definitions last) (sym (naming-Implies m f one other n c.in-Implies.is))
    (whole_added b q last (two_definitions m one other n) d all (h ∙ ap (λ (xs : List Literal). with_part q (definition_part (var_count q) (any_of xs))) same)))
    c.define_any-in-Implies.ensures.added

pub name_formula-name_formula-requires-in-Iff-2 :
    goal.name_formula-name_formula-requires-in-Iff-2
name_formula-name_formula-requires-in-Iff-2 t c =
    let m = lists_of c.args.model.now in
    let b = c.args.builder.now in
    let n = var_count b in
    let f = c.args.formula.now in
    let one = c.in-Iff.one in
    let other = c.in-Iff.other in
    let p = c.name_formula-in-Iff.new.builder in
    let d = iff_definition m one other n in
    let room = subst (λ (x : Named). Fits b x.definitions) (naming-Iff m f one other n c.in-Iff.is) c.requires.room in
    let known = encodable_equivalence m b.bounds one other (subst (IsEncodableFormula m b.bounds) c.in-Iff.is c.requires.formula) in
    let added : Adds b (naming m one n).definitions p = subst (λ (x : Formula). Adds b (naming m x n).definitions p) c.get-in-Iff.ensures c.in_ok-one-in-Iff.ensures.added in
    let count = count_after b p (naming m one n).definitions added in
    let few = c.requires.variables in
    let more : model_variables m ≤ var_count p = omega arith in (
      search (rules, the_lemmas),
      (
        subst (IsEncodableFormula m p.bounds) (sym c.get-in-Iff-2.ensures) (encodable_after m other b p (definitions_part n (naming m one n).definitions) added c.recall_well_formed.ensures.proper.same_count few known.1),
        (more, subst (λ (x : Formula). Fits p (naming m x (var_count p)).definitions) (sym c.get-in-Iff-2.ensures) (second_of_two m one other d b p added room)),
      ),
    )

pub name_formula-define_same-requires-clause-one :
    goal.name_formula-define_same-requires-clause-one
name_formula-define_same-requires-clause-one t c =
    let m = lists_of c.args.model.now in
    let b = c.args.builder.now in
    let n = var_count b in
    let f = c.args.formula.now in
    let one = c.in-Iff.one in
    let other = c.in-Iff.other in
    let p = c.name_formula-in-Iff.new.builder in
    let d = iff_definition m one other n in
    let room = subst (λ (x : Named). Fits b x.definitions) (naming-Iff m f one other n c.in-Iff.is) c.requires.room in
    let known = encodable_equivalence m b.bounds one other (subst (IsEncodableFormula m b.bounds) c.in-Iff.is c.requires.formula) in
    let added : Adds b (naming m one n).definitions p = subst (λ (x : Formula). Adds b (naming m x n).definitions p) c.get-in-Iff.ensures c.in_ok-one-in-Iff.ensures.added in
    let count = count_after b p (naming m one n).definitions added in
    let few = c.requires.variables in
    let more : model_variables m ≤ var_count p = omega arith in
    let q = c.name_formula-in-Iff-2.new.builder in
    let next : Adds p (naming m other (var_count p)).definitions q = subst (λ (x : Formula). Adds p (naming m x (var_count p)).definitions q) c.get-in-Iff-2.ensures c.in_ok-other-in-Iff.ensures.added in
    let all = two_added m one other b p q added next in
    let last_count = count_after p q (naming m other (var_count p)).definitions next in
    let first_literal : c.in_ok-one-in-Iff.one ≡ (naming m one n).literal = c.in_ok-one-in-Iff.ensures.literal ∙ ap (λ (x : Formula). (naming m x n).literal) c.get-in-Iff.ensures in
    let own_literal : c.in_ok-other-in-Iff.other ≡ (naming m other (var_count p)).literal = c.in_ok-other-in-Iff.ensures.literal ∙ ap (λ (x : Formula). (naming m x (var_count p)).literal) c.get-in-Iff-2.ensures in
    let second_literal : c.in_ok-other-in-Iff.other ≡ (second_naming m one other n).literal = own_literal ∙ ap (λ (x : Named). x.literal) (sym (second_at m one other b p added)) in
    let first_within = literal_within m one b p known.0 few added in
    let second_within = literal_within m other p q known.1 more next in
    let first_variable = ap (λ (l : Literal). l.variable) first_literal in
    let second_variable = ap (λ (l : Literal). l.variable) own_literal in
    omega arith

pub name_formula-define_same-requires-clause-other :
    goal.name_formula-define_same-requires-clause-other
name_formula-define_same-requires-clause-other t c =
    let m = lists_of c.args.model.now in
    let b = c.args.builder.now in
    let n = var_count b in
    let f = c.args.formula.now in
    let one = c.in-Iff.one in
    let other = c.in-Iff.other in
    let p = c.name_formula-in-Iff.new.builder in
    let d = iff_definition m one other n in
    let room = subst (λ (x : Named). Fits b x.definitions) (naming-Iff m f one other n c.in-Iff.is) c.requires.room in
    let known = encodable_equivalence m b.bounds one other (subst (IsEncodableFormula m b.bounds) c.in-Iff.is c.requires.formula) in
    let added : Adds b (naming m one n).definitions p = subst (λ (x : Formula). Adds b (naming m x n).definitions p) c.get-in-Iff.ensures c.in_ok-one-in-Iff.ensures.added in
    let count = count_after b p (naming m one n).definitions added in
    let few = c.requires.variables in
    let more : model_variables m ≤ var_count p = omega arith in
    let q = c.name_formula-in-Iff-2.new.builder in
    let next : Adds p (naming m other (var_count p)).definitions q = subst (λ (x : Formula). Adds p (naming m x (var_count p)).definitions q) c.get-in-Iff-2.ensures c.in_ok-other-in-Iff.ensures.added in
    let all = two_added m one other b p q added next in
    let last_count = count_after p q (naming m other (var_count p)).definitions next in
    let first_literal : c.in_ok-one-in-Iff.one ≡ (naming m one n).literal = c.in_ok-one-in-Iff.ensures.literal ∙ ap (λ (x : Formula). (naming m x n).literal) c.get-in-Iff.ensures in
    let own_literal : c.in_ok-other-in-Iff.other ≡ (naming m other (var_count p)).literal = c.in_ok-other-in-Iff.ensures.literal ∙ ap (λ (x : Formula). (naming m x (var_count p)).literal) c.get-in-Iff-2.ensures in
    let second_literal : c.in_ok-other-in-Iff.other ≡ (second_naming m one other n).literal = own_literal ∙ ap (λ (x : Named). x.literal) (sym (second_at m one other b p added)) in
    let first_within = literal_within m one b p known.0 few added in
    let second_within = literal_within m other p q known.1 more next in
    let first_variable = ap (λ (l : Literal). l.variable) first_literal in
    let second_variable = ap (λ (l : Literal). l.variable) own_literal in
    omega arith

pub name_formula-define_same-requires-clause-room :
    goal.name_formula-define_same-requires-clause-room
name_formula-define_same-requires-clause-room t c =
    let m = lists_of c.args.model.now in
    let b = c.args.builder.now in
    let n = var_count b in
    let f = c.args.formula.now in
    let one = c.in-Iff.one in
    let other = c.in-Iff.other in
    let p = c.name_formula-in-Iff.new.builder in
    let d = iff_definition m one other n in
    let room = subst (λ (x : Named). Fits b x.definitions) (naming-Iff m f one other n c.in-Iff.is) c.requires.room in
    let known = encodable_equivalence m b.bounds one other (subst (IsEncodableFormula m b.bounds) c.in-Iff.is c.requires.formula) in
    let added : Adds b (naming m one n).definitions p = subst (λ (x : Formula). Adds b (naming m x n).definitions p) c.get-in-Iff.ensures c.in_ok-one-in-Iff.ensures.added in
    let count = count_after b p (naming m one n).definitions added in
    let few = c.requires.variables in
    let more : model_variables m ≤ var_count p = omega arith in
    let q = c.name_formula-in-Iff-2.new.builder in
    let next : Adds p (naming m other (var_count p)).definitions q = subst (λ (x : Formula). Adds p (naming m x (var_count p)).definitions q) c.get-in-Iff-2.ensures c.in_ok-other-in-Iff.ensures.added in
    let all = two_added m one other b p q added next in
    let last_count = count_after p q (naming m other (var_count p)).definitions next in
    let first_literal : c.in_ok-one-in-Iff.one ≡ (naming m one n).literal = c.in_ok-one-in-Iff.ensures.literal ∙ ap (λ (x : Formula). (naming m x n).literal) c.get-in-Iff.ensures in
    let own_literal : c.in_ok-other-in-Iff.other ≡ (naming m other (var_count p)).literal = c.in_ok-other-in-Iff.ensures.literal ∙ ap (λ (x : Formula). (naming m x (var_count p)).literal) c.get-in-Iff-2.ensures in
    let second_literal : c.in_ok-other-in-Iff.other ≡ (second_naming m one other n).literal = own_literal ∙ ap (λ (x : Named). x.literal) (sym (second_at m one other b p added)) in
    let first_within = literal_within m one b p known.0 few added in
    let second_within = literal_within m other p q known.1 more next in
    let first_variable = ap (λ (l : Literal). l.variable) first_literal in
    let second_variable = ap (λ (l : Literal). l.variable) own_literal in
    let same : same_as c.in_ok-one-in-Iff.one c.in_ok-other-in-Iff.other ≡ d = ap (λ (l : Literal). same_as l c.in_ok-other-in-Iff.other) first_literal ∙ ap (λ (l : Literal). same_as (naming m one n).literal l) second_literal in
    subst (λ (x : Definition). HasRoomFor q (definition_part (var_count q) x)) (sym same) (whole_fits b q (two_definitions m one other n) d all room)

pub name_formula-returns-in_ok-other-in-Iff-clause-literal :
    goal.name_formula-returns-in_ok-other-in-Iff-clause-literal
name_formula-returns-in_ok-other-in-Iff-clause-literal t c =
    let m = lists_of c.args.model.now in
    let b = c.args.builder.now in
    let n = var_count b in
    let f = c.args.formula.now in
    let one = c.in-Iff.one in
    let other = c.in-Iff.other in
    let p = c.name_formula-in-Iff.new.builder in
    let d = iff_definition m one other n in
    let room = subst (λ (x : Named). Fits b x.definitions) (naming-Iff m f one other n c.in-Iff.is) c.requires.room in
    let known = encodable_equivalence m b.bounds one other (subst (IsEncodableFormula m b.bounds) c.in-Iff.is c.requires.formula) in
    let added : Adds b (naming m one n).definitions p = subst (λ (x : Formula). Adds b (naming m x n).definitions p) c.get-in-Iff.ensures c.in_ok-one-in-Iff.ensures.added in
    let count = count_after b p (naming m one n).definitions added in
    let few = c.requires.variables in
    let more : model_variables m ≤ var_count p = omega arith in
    let q = c.name_formula-in-Iff-2.new.builder in
    let next : Adds p (naming m other (var_count p)).definitions q = subst (λ (x : Formula). Adds p (naming m x (var_count p)).definitions q) c.get-in-Iff-2.ensures c.in_ok-other-in-Iff.ensures.added in
    let all = two_added m one other b p q added next in
    let last_count = count_after p q (naming m other (var_count p)).definitions next in
    let first_literal : c.in_ok-one-in-Iff.one ≡ (naming m one n).literal = c.in_ok-one-in-Iff.ensures.literal ∙ ap (λ (x : Formula). (naming m x n).literal) c.get-in-Iff.ensures in
    let own_literal : c.in_ok-other-in-Iff.other ≡ (naming m other (var_count p)).literal = c.in_ok-other-in-Iff.ensures.literal ∙ ap (λ (x : Formula). (naming m x (var_count p)).literal) c.get-in-Iff-2.ensures in
    let second_literal : c.in_ok-other-in-Iff.other ≡ (second_naming m one other n).literal = own_literal ∙ ap (λ (x : Named). x.literal) (sym (second_at m one other b p added)) in
    let first_within = literal_within m one b p known.0 few added in
    let second_within = literal_within m other p q known.1 more next in
    let first_variable = ap (λ (l : Literal). l.variable) first_literal in
    let second_variable = ap (λ (l : Literal). l.variable) own_literal in
    IfOk-weaker c.define_same.result (λ l. l ≡ positive (var_count q)) (λ l. l ≡ (naming m f n).literal)
    (λ l h. h ∙ ap (λ (k : ℕ). positive k) (count_after b q (two_definitions m one other n) all) ∙ ap (λ (x : Named). x.literal) (sym (naming-Iff m f one other n c.in-Iff.is)))
    c.define_same.ensures.literal

pub name_formula-returns-in_ok-other-in-Iff-clause-added :
    goal.name_formula-returns-in_ok-other-in-Iff-clause-added
name_formula-returns-in_ok-other-in-Iff-clause-added t c =
    let m = lists_of c.args.model.now in
    let b = c.args.builder.now in
    let n = var_count b in
    let f = c.args.formula.now in
    let one = c.in-Iff.one in
    let other = c.in-Iff.other in
    let p = c.name_formula-in-Iff.new.builder in
    let d = iff_definition m one other n in
    let room = subst (λ (x : Named). Fits b x.definitions) (naming-Iff m f one other n c.in-Iff.is) c.requires.room in
    let known = encodable_equivalence m b.bounds one other (subst (IsEncodableFormula m b.bounds) c.in-Iff.is c.requires.formula) in
    let added : Adds b (naming m one n).definitions p = subst (λ (x : Formula). Adds b (naming m x n).definitions p) c.get-in-Iff.ensures c.in_ok-one-in-Iff.ensures.added in
    let count = count_after b p (naming m one n).definitions added in
    let few = c.requires.variables in
    let more : model_variables m ≤ var_count p = omega arith in
    let q = c.name_formula-in-Iff-2.new.builder in
    let next : Adds p (naming m other (var_count p)).definitions q = subst (λ (x : Formula). Adds p (naming m x (var_count p)).definitions q) c.get-in-Iff-2.ensures c.in_ok-other-in-Iff.ensures.added in
    let all = two_added m one other b p q added next in
    let last_count = count_after p q (naming m other (var_count p)).definitions next in
    let first_literal : c.in_ok-one-in-Iff.one ≡ (naming m one n).literal = c.in_ok-one-in-Iff.ensures.literal ∙ ap (λ (x : Formula). (naming m x n).literal) c.get-in-Iff.ensures in
    let own_literal : c.in_ok-other-in-Iff.other ≡ (naming m other (var_count p)).literal = c.in_ok-other-in-Iff.ensures.literal ∙ ap (λ (x : Formula). (naming m x (var_count p)).literal) c.get-in-Iff-2.ensures in
    let second_literal : c.in_ok-other-in-Iff.other ≡ (second_naming m one other n).literal = own_literal ∙ ap (λ (x : Named). x.literal) (sym (second_at m one other b p added)) in
    let first_within = literal_within m one b p known.0 few added in
    let second_within = literal_within m other p q known.1 more next in
    let first_variable = ap (λ (l : Literal). l.variable) first_literal in
    let second_variable = ap (λ (l : Literal). l.variable) own_literal in
    let same : same_as c.in_ok-one-in-Iff.one c.in_ok-other-in-Iff.other ≡ d = ap (λ (l : Literal). same_as l c.in_ok-other-in-Iff.other) first_literal ∙ ap (λ (l : Literal). same_as (naming m one n).literal l) second_literal in
    let last = c.define_same.new.builder in
    on_ok_weaker c.define_same.result
    (λ h. subst (λ (x : Named). Adds b x.definitions last) (sym (naming-Iff m f one other n c.in-Iff.is))
    (whole_added b q last (two_definitions m one other n) d all (h ∙ ap (λ (x : Definition). with_part q (definition_part (var_count q) x)) same)))
    c.define_same.ensures.added

pub name_each-name_formula-requires : goal.name_each-name_formula-requires
name_each-name_formula-requires t c =
    let m = lists_of c.args.model.now in
    let parts = c.args.parts.now in
    let i = c.loop-part.part-index in
    let part = c.part-item.result in
    let ls = c.loop-part.literals.items in
    let here = drop-read parts parts i part refl c.loop-part-test.true c.part-item.is in
    let far = subst (λ (rest : List Formula). AreNamed m c.args.builder.now parts c.loop-part.builder ls rest) here c.loop-part.invariant in (
      search (rules, the_lemmas),
      (
        next_known m c.args.builder.now c.loop-part.builder parts ls part (drop (i + 1) parts) far,
        (c.loop-part.invariant.variables, next_fits m c.args.builder.now c.loop-part.builder parts ls part (drop (i + 1) parts) far),
      ),
    )

pub name_each-loop-part-preserved : goal.name_each-loop-part-preserved
name_each-loop-part-preserved t c =
    let m = lists_of c.args.model.now in
    let b = c.args.builder.now in
    let parts = c.args.parts.now in
    let i = c.loop-part.part-index in
    let part = c.part-item.result in
    let ls = c.loop-part.literals.items in
    let rest = drop (i + 1) parts in
    let p = c.loop-part.builder in
    let q = c.name_formula.new.builder in
    let l = c.in_ok-name_formula.field-0 in
    let here = drop-read parts parts i part refl c.loop-part-test.true c.part-item.is in
    let far = subst (λ (others : List Formula). AreNamed m b parts p ls others) here c.loop-part.invariant in
    subst (λ (items : List Literal). AreNamed m b parts q items rest) (sym {A = List Literal} c.in_ok-push.ensures.items)
    (named_more m b p q parts ls l part rest far c.recall_well_formed.ensures.proper.same_count c.in_ok-name_formula.ensures.added c.in_ok-name_formula.ensures.literal)

pub name_formula-returns-in-Name-clause-literal : goal.name_formula-returns-in-Name-clause-literal
name_formula-returns-in-Name-clause-literal t c =
    let m = lists_of c.args.model.now in
    let b = c.args.builder.now in
    let n = var_count b in
    let f = c.args.formula.now in
    c.positive.ensures ∙ ap (λ (k : ℕ). positive k) c.truth_variable.ensures ∙ ap (λ (x : Named). x.literal) (sym (naming-Name m f c.in-Name.name n c.in-Name.is))

pub name_formula-returns-in-Name-clause-added : goal.name_formula-returns-in-Name-clause-added
name_formula-returns-in-Name-clause-added t c =
    let m = lists_of c.args.model.now in
    let b = c.args.builder.now in
    let n = var_count b in
    let f = c.args.formula.now in
    sym (with_none b) ∙ ap (λ (x : Named). with_part b (definitions_part n x.definitions)) (sym (naming-Name m f c.in-Name.name n c.in-Name.is))

pub name_formula-returns-in_ok-l-in-Not-clause-literal : goal.name_formula-returns-in_ok-l-in-Not-clause-literal
name_formula-returns-in_ok-l-in-Not-clause-literal t c =
    let m = lists_of c.args.model.now in
    let b = c.args.builder.now in
    let n = var_count b in
    let f = c.args.formula.now in
    c.opposite.ensures
    ∙ ap (λ (l : Literal). opposite l) (c.in_ok-l-in-Not.ensures.literal ∙ ap (λ (g : Formula). (naming m g n).literal) c.get.ensures)
    ∙ ap (λ (x : Named). x.literal) (sym (naming-Not m f c.in-Not.part n c.in-Not.is))

pub name_formula-returns-in_ok-l-in-Not-clause-added : goal.name_formula-returns-in_ok-l-in-Not-clause-added
name_formula-returns-in_ok-l-in-Not-clause-added t c =
    let m = lists_of c.args.model.now in
    let b = c.args.builder.now in
    let n = var_count b in
    let f = c.args.formula.now in
    c.in_ok-l-in-Not.ensures.added
    ∙ ap (λ (g : Formula). with_part b (definitions_part n (naming m g n).definitions)) c.get.ensures
    ∙ ap (λ (x : Named). with_part b (definitions_part n x.definitions)) (sym (naming-Not m f c.in-Not.part n c.in-Not.is))

pub name_formula-name_at_most-requires-clause-room : goal.name_formula-name_at_most-requires-clause-room
name_formula-name_at_most-requires-clause-room t c =
    let m = lists_of c.args.model.now in
    let b = c.args.builder.now in
    let n = var_count b in
    let f = c.args.formula.now in
    let l = c.in-AtMost.linear in
    let k : to_z w64 (of_z w64 c.in-AtMost.k) ≡ c.in-AtMost.k = search rules in
    let room = subst (λ (x : Named). Fits b x.definitions) (naming-AtMost m f l c.in-AtMost.k n c.in-AtMost.is) c.requires.room in
    subst (λ (z : ℤ). HasRoomFor b (definition_part n (at_most (row_terms m l) z))) (sym k)
    (subst (λ (x : Part). HasRoomFor b x) (one_definition n (at_most (row_terms m l) c.in-AtMost.k)) room)

pub name_formula-returns-in-AtMost-clause-literal : goal.name_formula-returns-in-AtMost-clause-literal
name_formula-returns-in-AtMost-clause-literal t c =
    let m = lists_of c.args.model.now in
    let b = c.args.builder.now in
    let n = var_count b in
    let f = c.args.formula.now in
    let last : n ≡ n + 0 = omega arith in
    IfOk-weaker c.name_at_most.result (λ l. l ≡ positive n) (λ l. l ≡ (naming m f n).literal)
    (λ l h. h ∙ ap (λ (j : ℕ). positive j) last ∙ ap (λ (x : Named). x.literal) (sym (naming-AtMost m f c.in-AtMost.linear c.in-AtMost.k n c.in-AtMost.is)))
    c.name_at_most.ensures.literal

pub name_formula-returns-in-AtMost-clause-added : goal.name_formula-returns-in-AtMost-clause-added
name_formula-returns-in-AtMost-clause-added t c =
    let m = lists_of c.args.model.now in
    let b = c.args.builder.now in
    let n = var_count b in
    let f = c.args.formula.now in
    let l = c.in-AtMost.linear in
    let k : to_z w64 (of_z w64 c.in-AtMost.k) ≡ c.in-AtMost.k = search rules in
    on_ok_weaker c.name_at_most.result
    (λ h.
    h
    ∙ ap (λ (z : ℤ). with_part b (definition_part n (at_most (row_terms m l) z))) k
    ∙ ap (λ (x : Part). with_part b x) (sym (one_definition n (at_most (row_terms m l) c.in-AtMost.k)))
    ∙ ap (λ (x : Named). with_part b (definitions_part n x.definitions)) (sym (naming-AtMost m f l c.in-AtMost.k n c.in-AtMost.is)))
    c.name_at_most.ensures.added

pub name_formula-name_at_least-requires-clause-room : goal.name_formula-name_at_least-requires-clause-room
name_formula-name_at_least-requires-clause-room t c =
    let m = lists_of c.args.model.now in
    let b = c.args.builder.now in
    let n = var_count b in
    let f = c.args.formula.now in
    let l = c.in-AtLeast.linear in
    let k : to_z w64 (of_z w64 c.in-AtLeast.k) ≡ c.in-AtLeast.k = search rules in
    let room = subst (λ (x : Named). Fits b x.definitions) (naming-AtLeast m f l c.in-AtLeast.k n c.in-AtLeast.is) c.requires.room in
    subst (λ (z : ℤ). HasRoomFor b (definition_part n (at_least (row_terms m l) z))) (sym k)
    (subst (λ (x : Part). HasRoomFor b x) (one_definition n (at_least (row_terms m l) c.in-AtLeast.k)) room)

pub name_formula-returns-in-AtLeast-clause-literal : goal.name_formula-returns-in-AtLeast-clause-literal
name_formula-returns-in-AtLeast-clause-literal t c =
    let m = lists_of c.args.model.now in
    let b = c.args.builder.now in
    let n = var_count b in
    let f = c.args.formula.now in
    let last : n ≡ n + 0 = omega arith in
    IfOk-weaker c.name_at_least.result (λ l. l ≡ positive n) (λ l. l ≡ (naming m f n).literal)
    (λ l h. h ∙ ap (λ (j : ℕ). positive j) last ∙ ap (λ (x : Named). x.literal) (sym (naming-AtLeast m f c.in-AtLeast.linear c.in-AtLeast.k n c.in-AtLeast.is)))
    c.name_at_least.ensures.literal

pub name_formula-returns-in-AtLeast-clause-added : goal.name_formula-returns-in-AtLeast-clause-added
name_formula-returns-in-AtLeast-clause-added t c =
    let m = lists_of c.args.model.now in
    let b = c.args.builder.now in
    let n = var_count b in
    let f = c.args.formula.now in
    let l = c.in-AtLeast.linear in
    let k : to_z w64 (of_z w64 c.in-AtLeast.k) ≡ c.in-AtLeast.k = search rules in
    on_ok_weaker c.name_at_least.result
    (λ h.
    h
    ∙ ap (λ (z : ℤ). with_part b (definition_part n (at_least (row_terms m l) z))) k
    ∙ ap (λ (x : Part). with_part b x) (sym (one_definition n (at_least (row_terms m l) c.in-AtLeast.k)))
    ∙ ap (λ (x : Named). with_part b (definitions_part n x.definitions)) (sym (naming-AtLeast m f l c.in-AtLeast.k n c.in-AtLeast.is)))
    c.name_at_least.ensures.added

pub name_formula-name_equal-requires-clause-room : goal.name_formula-name_equal-requires-clause-room
name_formula-name_equal-requires-clause-room t c =
    let m = lists_of c.args.model.now in
    let b = c.args.builder.now in
    let n = var_count b in
    let f = c.args.formula.now in
    let l = c.in-Equal.linear in
    let k : to_z w64 (of_z w64 c.in-Equal.k) ≡ c.in-Equal.k = search rules in
    subst (λ (z : ℤ). HasRoomFor b (definitions_part n (equal_definitions m l z n))) (sym k)
    (subst (λ (x : Named). Fits b x.definitions) (naming-Equal m f l c.in-Equal.k n c.in-Equal.is) c.requires.room)

pub name_formula-returns-in-Equal-clause-literal : goal.name_formula-returns-in-Equal-clause-literal
name_formula-returns-in-Equal-clause-literal t c =
    let m = lists_of c.args.model.now in
    let b = c.args.builder.now in
    let n = var_count b in
    let f = c.args.formula.now in
    IfOk-weaker c.name_equal.result (λ l. l ≡ positive (n + 2)) (λ l. l ≡ (naming m f n).literal)
    (λ l h. h ∙ ap (λ (x : Named). x.literal) (sym (naming-Equal m f c.in-Equal.linear c.in-Equal.k n c.in-Equal.is)))
    c.name_equal.ensures.literal

pub name_formula-returns-in-Equal-clause-added : goal.name_formula-returns-in-Equal-clause-added
name_formula-returns-in-Equal-clause-added t c =
    let m = lists_of c.args.model.now in
    let b = c.args.builder.now in
    let n = var_count b in
    let f = c.args.formula.now in
    let l = c.in-Equal.linear in
    let k : to_z w64 (of_z w64 c.in-Equal.k) ≡ c.in-Equal.k = search rules in
    on_ok_weaker c.name_equal.result
    (λ h.
    h
    ∙ ap (λ (z : ℤ). with_part b (definitions_part n (equal_definitions m l z n))) k
    ∙ ap (λ (x : Named). with_part b (definitions_part n x.definitions)) (sym (naming-Equal m f l c.in-Equal.k n c.in-Equal.is)))
    c.name_equal.ensures.added
