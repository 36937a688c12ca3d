use Rattle.std.proofs.Common.{◌≡◌, ◌∷◌, ◌∙◌, [], List, ap, map, subst, sym}
use Rattle.cgm_atom.specs.declared.constraints.Atom.{Atom}
use Rattle.cgm_atom.specs.Adding.{CanTake, with_written}
use Rattle.cgm_atom.specs.Instance.{var_count}
use Rattle.cgm_atom.specs.Literals.{literal, negated}
use Rattle.cgm_atom.proofs.Additions.{first_left, left_more}
use Rattle.cgm_enc_formula.specs.declared.literals.Literal.{Literal}
use Rattle.cgm_enc_formula.specs.Definitions.{all_of, definition_clauses, one_of, pairs}
use Rattle.cgm_enc_formula.specs.Literals.{opposite}
use Rattle.cgm_enc_formula.proofs.Defining.{all_left}
use Rattle.cgm_enc_formula.proofs.definitions.define_all.Goals as goal

pub add_pairs-requires : goal.add_pairs-requires
add_pairs-requires c =
    let b = c.args.builder.now in
    let p = c.new_name.new.builder in
    let n = var_count b in
    let ls = c.args.literals.now in
    let all = definition_clauses n (all_of ls) in
    let a : c.negated.result ≡ negated n = c.negated.ensures ∙ ap negated c.in_ok-p.ensures.number in
    subst (λ (x : Atom). CanTake p (pairs x ls)) (sym a)
    (first_left p p all (pairs (negated n) ls) (one_of (literal n) (map opposite ls) ∷ []) (all_left b p (all_of ls) c.in_ok-p.ensures.added c.requires.known c.requires.room))

pub add_one_of-requires : goal.add_one_of-requires
add_one_of-requires c =
    let b = c.args.builder.now in
    let p = c.new_name.new.builder in
    let q = c.add_pairs.new.builder in
    let n = var_count b in
    let ls = c.args.literals.now in
    let all = definition_clauses n (all_of ls) in
    let a : c.negated.result ≡ negated n = c.negated.ensures ∙ ap negated c.in_ok-p.ensures.number in
    let a-last : c.literal.result ≡ literal n = c.literal.ensures ∙ ap literal c.in_ok-p.ensures.number in
    let others : c.as_slice.result.now ≡ map opposite ls = c.as_slice.ensures.value ∙ c.in_ok-opposites.ensures in
    let added = c.in_ok-add_pairs.ensures ∙ ap (λ (x : Atom). with_written p (pairs x ls)) a in
    let far = left_more p p q all (pairs (negated n) ls) (one_of (literal n) (map opposite ls) ∷ []) (all_left b p (all_of ls) c.in_ok-p.ensures.added c.requires.known c.requires.room) added in
    subst (λ (x : Atom). CanTake q (one_of x c.as_slice.result.now ∷ [])) (sym a-last)
    (subst (λ (xs : List Literal). CanTake q (one_of (literal n) xs ∷ [])) (sym others) far.room)
