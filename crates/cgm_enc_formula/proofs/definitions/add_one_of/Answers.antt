use Rattle.std.proofs.Common.{◌∷◌, [], ◌∙◌, List, false, map, ap, subst, sym}
use Rattle.std.proofs.lemmas.List.{take_all}
use Rattle.std.proofs.lemmas.Result.{on_ok_weaker}
use Rattle.cgm_atom.specs.declared.constraints.Atom.{Atom}
use Rattle.cgm_atom.specs.Adding.{CanTake, with_written}
use Rattle.cgm_atom.specs.Literals.{clause}
use Rattle.cgm_enc_formula.specs.declared.literals.Literal.{Literal}
use Rattle.cgm_enc_formula.specs.Literals.{atom_of}
use Rattle.cgm_enc_formula.proofs.Mapped.{appended_by}
use Rattle.cgm_enc_formula.proofs.definitions.add_one_of.Goals as goal

pub loop-l-preserved : goal.loop-l-preserved
loop-l-preserved c =
    let d : Literal = record { variable = 0; is_positive = false } in
    appended_by atom_of c.args.literals.now c.loop-l.l-index d c.atom.result c.loop-l.atoms.items c.push-in-loop-l.new.self.items (c.args.first ∷ [])
    c.loop-l-test.true c.loop-l.invariant c.atom.ensures c.in_ok-push-2.ensures.items

pub add_clause-requires : goal.add_clause-requires
add_clause-requires c =
    let ls = c.args.literals.now in
    let all = c.as_slice.ensures.value ∙ c.loop-l.invariant ∙ ap (λ (xs : List Literal). c.args.first ∷ map atom_of xs) (take_all c.loop-l.l-index ls c.loop-l-test.false) in
    subst (λ (atoms : List Atom). CanTake c.args.builder.now (clause atoms ∷ [])) (sym all) c.requires

pub returns : goal.returns
returns c =
    let ls = c.args.literals.now in
    let all = c.as_slice.ensures.value ∙ c.loop-l.invariant ∙ ap (λ (xs : List Literal). c.args.first ∷ map atom_of xs) (take_all c.loop-l.l-index ls c.loop-l-test.false) in
    on_ok_weaker c.add_clause.result
    (λ added. added ∙ ap (λ (atoms : List Atom). with_written c.args.builder.now (clause atoms ∷ [])) all)
    c.add_clause.ensures
