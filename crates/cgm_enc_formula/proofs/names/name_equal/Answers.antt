-- The three definitions follow one another.
use Rattle.std.proofs.Common.{◌≡◌, ℕ, ◌+◌, ◌<◌, ◌∷◌, [], List, of_z, to_z, w64, subst, sym, ap, ◌∙◌, arith, rules}
use Rattle.std.specs.Prelude.{ℤ}
use Rattle.std.proofs.lemmas.List.Elements.{All-cons, All-nil}
use Rattle.std.proofs.lemmas.Result.{on_ok_weaker}
use Rattle.cgm_atom.specs.Instance.{Instance, var_count}
use Rattle.cgm_formula.specs.declared.formula.Linear.{Linear}
use Rattle.cgm_model.specs.declared.lists.Lists.{Lists}
use Rattle.cgm_model.specs.Model.{lists_of}
use Rattle.cgm_enc_formula.specs.declared.literals.Literal.{Literal}
use Rattle.cgm_enc_formula.specs.Building.{HasRoomFor, Part, definition_part, definitions_part, with_part}
use Rattle.cgm_enc_formula.specs.Definitions.{Definition, all_of, at_least, at_most}
use Rattle.cgm_enc_formula.specs.Literals.{positive}
use Rattle.cgm_enc_formula.specs.Naming.{equal_definitions}
use Rattle.cgm_enc_formula.specs.Terms.{AreRowTerms, row_terms}
use Rattle.cgm_enc_formula.proofs.NamingSteps.{Adds, Fits, back_fits, comparison_after, count_after, front_fits, whole_added, whole_fits}
use Rattle.cgm_enc_formula.proofs.Steps.{one_definition}
use Rattle.cgm_enc_formula.proofs.names.name_equal.Goals as goal

alone : (old new : Instance) (d : Definition) → new ≡ with_part old (definition_part (var_count old) d) → Adds old (d ∷ []) new
alone old new d e = e ∙ ap (λ (x : Part). with_part old x) (sym (one_definition (var_count old) d))

alone_fits : (p : Instance) (d : Definition) (ds : List Definition) → Fits p (d ∷ ds) → HasRoomFor p (definition_part (var_count p) d)
alone_fits p d ds h = subst (λ (x : Part). HasRoomFor p x) (one_definition (var_count p) d) (front_fits p (d ∷ []) ds h)

both_named : (most least : Literal) (n k : ℕ) → most ≡ positive n → least ≡ positive k → k ≡ n + 1 → all_of (most ∷ least ∷ []) ≡ all_of (positive n ∷ positive (n + 1) ∷ [])
both_named most least n k first second next =
    ap (λ (x : Literal). all_of (x ∷ least ∷ [])) first ∙ ap (λ (x : Literal). all_of (positive n ∷ x ∷ [])) (second ∙ ap (λ (j : ℕ). positive j) next)

-- room for the definitions of the number as it is passed
passed_room : (m : Lists) (l : Linear) (b : Instance) (k passed : ℤ) → passed ≡ k → Fits b (equal_definitions m l k (var_count b)) → Fits b (equal_definitions m l passed (var_count b))
passed_room m l b k passed same h = subst (λ (z : ℤ). Fits b (equal_definitions m l z (var_count b))) (sym same) h

pub name_at_most-requires-clause-room : goal.name_at_most-requires-clause-room
name_at_most-requires-clause-room c =
    let terms = row_terms (lists_of c.args.model.now) c.args.linear.now in
    let k = to_z w64 (of_z w64 c.args.k) in
    let b = c.args.builder.now in
    let n = var_count b in
    alone_fits b (at_most terms k) (at_least terms k ∷ all_of (positive n ∷ positive (n + 1) ∷ []) ∷ []) (passed_room (lists_of c.args.model.now) c.args.linear.now b c.args.k k (search rules) c.requires.room)

pub name_at_least-requires-clause-variables : goal.name_at_least-requires-clause-variables
name_at_least-requires-clause-variables c =
    let terms = row_terms (lists_of c.args.model.now) c.args.linear.now in
    let k = to_z w64 (of_z w64 c.args.k) in
    let b = c.args.builder.now in
    let p = c.name_at_most.new.builder in
    let d = at_most terms k in
    let count = count_after b p (d ∷ []) (alone b p d c.in_ok-most.ensures.added) in
    let few = c.requires.variables in
    omega arith

pub name_at_least-requires-clause-comparison : goal.name_at_least-requires-clause-comparison
name_at_least-requires-clause-comparison c =
    let m = lists_of c.args.model.now in
    let l = c.args.linear.now in
    let b = c.args.builder.now in
    let p = c.name_at_most.new.builder in
    let is : to_z w64 (of_z w64 c.args.k) ≡ c.args.k = search rules in
    subst (λ (z : ℤ). AreRowTerms m p.bounds (l, z)) (sym is)
    (comparison_after m b p (definition_part (var_count b) (at_most (row_terms m l) (to_z w64 (of_z w64 c.args.k)))) (l, c.args.k) c.in_ok-most.ensures.added c.recall_well_formed.ensures.proper.same_count c.requires.variables c.requires.comparison)

pub name_at_least-requires-clause-room : goal.name_at_least-requires-clause-room
name_at_least-requires-clause-room c =
    let terms = row_terms (lists_of c.args.model.now) c.args.linear.now in
    let k = to_z w64 (of_z w64 c.args.k) in
    let b = c.args.builder.now in
    let n = var_count b in
    let p = c.name_at_most.new.builder in
    let first = at_most terms k in
    let second = at_least terms k in
    let last = all_of (positive n ∷ positive (n + 1) ∷ []) in
    alone_fits p second (last ∷ []) (back_fits b p (first ∷ []) (second ∷ last ∷ []) (alone b p first c.in_ok-most.ensures.added) (passed_room (lists_of c.args.model.now) c.args.linear.now b c.args.k k (search rules) c.requires.room))

pub define_all-requires-clause-known : goal.define_all-requires-clause-known
define_all-requires-clause-known c =
    let terms = row_terms (lists_of c.args.model.now) c.args.linear.now in
    let k = to_z w64 (of_z w64 c.args.k) in
    let b = c.args.builder.now in
    let p = c.name_at_most.new.builder in
    let q = c.name_at_least.new.builder in
    let first = at_most terms k in
    let second = at_least terms k in
    let before = count_after b p (first ∷ []) (alone b p first c.in_ok-most.ensures.added) in
    let after = count_after p q (second ∷ []) (alone p q second c.in_ok-least.ensures.added) in
    let most = ap (λ (l : Literal). l.variable) c.in_ok-most.ensures.literal in
    let least = ap (λ (l : Literal). l.variable) c.in_ok-least.ensures.literal in
    All-cons (λ l. l.variable < var_count q) c.in_ok-most.most (c.in_ok-least.least ∷ []) (omega arith)
    (All-cons (λ l. l.variable < var_count q) c.in_ok-least.least [] (omega arith) (All-nil (λ l. l.variable < var_count q)))

pub define_all-requires-clause-room : goal.define_all-requires-clause-room
define_all-requires-clause-room c =
    let terms = row_terms (lists_of c.args.model.now) c.args.linear.now in
    let k = to_z w64 (of_z w64 c.args.k) in
    let b = c.args.builder.now in
    let n = var_count b in
    let p = c.name_at_most.new.builder in
    let q = c.name_at_least.new.builder in
    let first = at_most terms k in
    let second = at_least terms k in
    let last = all_of (positive n ∷ positive (n + 1) ∷ []) in
    let one = alone b p first c.in_ok-most.ensures.added in
    let two = whole_added b p q (first ∷ []) second one c.in_ok-least.ensures.added in
    let same = both_named c.in_ok-most.most c.in_ok-least.least n (var_count p) c.in_ok-most.ensures.literal c.in_ok-least.ensures.literal (count_after b p (first ∷ []) one) in
    subst (λ (d : Definition). HasRoomFor q (definition_part (var_count q) d)) (sym same) (whole_fits b q (first ∷ second ∷ []) last two (passed_room (lists_of c.args.model.now) c.args.linear.now b c.args.k k (search rules) c.requires.room))

pub returns-clause-added : goal.returns-clause-added
returns-clause-added c =
    let is : to_z w64 (of_z w64 c.args.k) ≡ c.args.k = search rules in
    let terms = row_terms (lists_of c.args.model.now) c.args.linear.now in
    let k = to_z w64 (of_z w64 c.args.k) in
    let b = c.args.builder.now in
    let n = var_count b in
    let p = c.name_at_most.new.builder in
    let q = c.name_at_least.new.builder in
    let first = at_most terms k in
    let second = at_least terms k in
    let last = all_of (positive n ∷ positive (n + 1) ∷ []) in
    let one = alone b p first c.in_ok-most.ensures.added in
    let two = whole_added b p q (first ∷ []) second one c.in_ok-least.ensures.added in
    let same = both_named c.in_ok-most.most c.in_ok-least.least n (var_count p) c.in_ok-most.ensures.literal c.in_ok-least.ensures.literal (count_after b p (first ∷ []) one) in
    on_ok_weaker c.define_all.result
    (λ added.
    whole_added b q c.define_all.new.builder (first ∷ second ∷ []) last two (added ∙ ap (λ (d : Definition). with_part q (definition_part (var_count q) d)) same)
    ∙ ap (λ (z : ℤ). with_part b (definitions_part n (equal_definitions (lists_of c.args.model.now) c.args.linear.now z n))) is)
    c.define_all.ensures.added
