use Rattle.std.proofs.Common.{◌∷◌, ◌∙◌, [], ap, subst, sym}
use Rattle.cgm_atom.specs.declared.constraints.Clause.{Clause}
use Rattle.cgm_atom.specs.Adding.{CanTake, with_written}
use Rattle.cgm_atom.specs.Instance.{var_count}
use Rattle.cgm_atom.specs.Literals.{literal, negated}
use Rattle.cgm_enc_formula.specs.Literals.{atom_of, opposite}
use Rattle.cgm_enc_formula.proofs.Defining.{first_fits, fourth_fits, same_added, second_fits, third_fits, three_is}
use Rattle.cgm_enc_formula.proofs.definitions.define_same.Goals as goal

pub add_clause-requires : goal.add_clause-requires
add_clause-requires c =
    let b = c.args.builder.now in
    let n = var_count b in
    let f = c.args.one in
    let g = c.args.other in
    let p = c.in_ok-p.ensures.number in
    let not_f = ap atom_of c.opposite-not_one.ensures in
    let one = three_is c.negated.result c.atom.result c.atom-2.result (negated n) (atom_of (opposite f)) (atom_of g) (c.negated.ensures ∙ ap negated p) (c.atom.ensures ∙ not_f) c.atom-2.ensures in
    subst (λ (x : Clause). CanTake c.new_name.new.builder (x ∷ [])) (sym one) (first_fits b c.new_name.new.builder f g c.in_ok-p.ensures.added c.requires.one c.requires.other c.requires.room)

pub add_clause-requires-2 : goal.add_clause-requires-2
add_clause-requires-2 c =
    let b = c.args.builder.now in
    let n = var_count b in
    let f = c.args.one in
    let g = c.args.other in
    let p = c.in_ok-p.ensures.number in
    let not_f = ap atom_of c.opposite-not_one.ensures in
    let not_g = ap atom_of c.opposite-not_other.ensures in
    let one = three_is c.negated.result c.atom.result c.atom-2.result (negated n) (atom_of (opposite f)) (atom_of g) (c.negated.ensures ∙ ap negated p) (c.atom.ensures ∙ not_f) c.atom-2.ensures in
    let two = three_is c.negated-2.result c.atom-3.result c.atom-4.result (negated n) (atom_of f) (atom_of (opposite g)) (c.negated-2.ensures ∙ ap negated p) c.atom-3.ensures (c.atom-4.ensures ∙ not_g) in
    subst (λ (x : Clause). CanTake c.add_clause.new.builder (x ∷ [])) (sym two)
    (second_fits b c.new_name.new.builder f g c.in_ok-p.ensures.added c.requires.one c.requires.other c.requires.room c.add_clause.new.builder
    (c.in_ok-add_clause.ensures ∙ ap (λ (x : Clause). with_written c.new_name.new.builder (x ∷ [])) one))

pub add_clause-requires-3 : goal.add_clause-requires-3
add_clause-requires-3 c =
    let b = c.args.builder.now in
    let n = var_count b in
    let f = c.args.one in
    let g = c.args.other in
    let p = c.in_ok-p.ensures.number in
    let not_f = ap atom_of c.opposite-not_one.ensures in
    let not_g = ap atom_of c.opposite-not_other.ensures in
    let one = three_is c.negated.result c.atom.result c.atom-2.result (negated n) (atom_of (opposite f)) (atom_of g) (c.negated.ensures ∙ ap negated p) (c.atom.ensures ∙ not_f) c.atom-2.ensures in
    let two = three_is c.negated-2.result c.atom-3.result c.atom-4.result (negated n) (atom_of f) (atom_of (opposite g)) (c.negated-2.ensures ∙ ap negated p) c.atom-3.ensures (c.atom-4.ensures ∙ not_g) in
    let three = three_is c.literal.result c.atom-5.result c.atom-6.result (literal n) (atom_of f) (atom_of g) (c.literal.ensures ∙ ap literal p) c.atom-5.ensures c.atom-6.ensures in
    subst (λ (x : Clause). CanTake c.add_clause-2.new.builder (x ∷ [])) (sym three)
    (third_fits b c.new_name.new.builder f g c.in_ok-p.ensures.added c.requires.one c.requires.other c.requires.room c.add_clause.new.builder c.add_clause-2.new.builder
    (c.in_ok-add_clause.ensures ∙ ap (λ (x : Clause). with_written c.new_name.new.builder (x ∷ [])) one)
    (c.in_ok-add_clause-2.ensures ∙ ap (λ (x : Clause). with_written c.add_clause.new.builder (x ∷ [])) two))

pub add_clause-requires-4 : goal.add_clause-requires-4
add_clause-requires-4 c =
    let b = c.args.builder.now in
    let n = var_count b in
    let f = c.args.one in
    let g = c.args.other in
    let p = c.in_ok-p.ensures.number in
    let not_f = ap atom_of c.opposite-not_one.ensures in
    let not_g = ap atom_of c.opposite-not_other.ensures in
    let one = three_is c.negated.result c.atom.result c.atom-2.result (negated n) (atom_of (opposite f)) (atom_of g) (c.negated.ensures ∙ ap negated p) (c.atom.ensures ∙ not_f) c.atom-2.ensures in
    let two = three_is c.negated-2.result c.atom-3.result c.atom-4.result (negated n) (atom_of f) (atom_of (opposite g)) (c.negated-2.ensures ∙ ap negated p) c.atom-3.ensures (c.atom-4.ensures ∙ not_g) in
    let three = three_is c.literal.result c.atom-5.result c.atom-6.result (literal n) (atom_of f) (atom_of g) (c.literal.ensures ∙ ap literal p) c.atom-5.ensures c.atom-6.ensures in
    let four = three_is c.literal-2.result c.atom-7.result c.atom-8.result (literal n) (atom_of (opposite f)) (atom_of (opposite g)) (c.literal-2.ensures ∙ ap literal p) (c.atom-7.ensures ∙ not_f) (c.atom-8.ensures ∙ not_g) in
    subst (λ (x : Clause). CanTake c.add_clause-3.new.builder (x ∷ [])) (sym four)
    (fourth_fits b c.new_name.new.builder f g c.in_ok-p.ensures.added c.requires.one c.requires.other c.requires.room c.add_clause.new.builder c.add_clause-2.new.builder c.add_clause-3.new.builder
    (c.in_ok-add_clause.ensures ∙ ap (λ (x : Clause). with_written c.new_name.new.builder (x ∷ [])) one)
    (c.in_ok-add_clause-2.ensures ∙ ap (λ (x : Clause). with_written c.add_clause.new.builder (x ∷ [])) two)
    (c.in_ok-add_clause-3.ensures ∙ ap (λ (x : Clause). with_written c.add_clause-2.new.builder (x ∷ [])) three))

pub returns-clause-added : goal.returns-clause-added
returns-clause-added c =
    let b = c.args.builder.now in
    let n = var_count b in
    let f = c.args.one in
    let g = c.args.other in
    let p = c.in_ok-p.ensures.number in
    let not_f = ap atom_of c.opposite-not_one.ensures in
    let not_g = ap atom_of c.opposite-not_other.ensures in
    let one = three_is c.negated.result c.atom.result c.atom-2.result (negated n) (atom_of (opposite f)) (atom_of g) (c.negated.ensures ∙ ap negated p) (c.atom.ensures ∙ not_f) c.atom-2.ensures in
    let two = three_is c.negated-2.result c.atom-3.result c.atom-4.result (negated n) (atom_of f) (atom_of (opposite g)) (c.negated-2.ensures ∙ ap negated p) c.atom-3.ensures (c.atom-4.ensures ∙ not_g) in
    let three = three_is c.literal.result c.atom-5.result c.atom-6.result (literal n) (atom_of f) (atom_of g) (c.literal.ensures ∙ ap literal p) c.atom-5.ensures c.atom-6.ensures in
    let four = three_is c.literal-2.result c.atom-7.result c.atom-8.result (literal n) (atom_of (opposite f)) (atom_of (opposite g)) (c.literal-2.ensures ∙ ap literal p) (c.atom-7.ensures ∙ not_f) (c.atom-8.ensures ∙ not_g) in
    same_added b c.new_name.new.builder f g c.in_ok-p.ensures.added c.requires.one c.requires.other c.requires.room c.add_clause.new.builder c.add_clause-2.new.builder c.add_clause-3.new.builder c.add_clause-4.new.builder
    (c.in_ok-add_clause.ensures ∙ ap (λ (x : Clause). with_written c.new_name.new.builder (x ∷ [])) one)
    (c.in_ok-add_clause-2.ensures ∙ ap (λ (x : Clause). with_written c.add_clause.new.builder (x ∷ [])) two)
    (c.in_ok-add_clause-3.ensures ∙ ap (λ (x : Clause). with_written c.add_clause-2.new.builder (x ∷ [])) three)
    (c.in_ok-add_clause-4.ensures ∙ ap (λ (x : Clause). with_written c.add_clause-3.new.builder (x ∷ [])) four)
