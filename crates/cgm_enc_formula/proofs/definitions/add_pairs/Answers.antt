use Rattle.std.proofs.Common.{◌∷◌, [], ◌∙◌, ap, get_or, subst, sym, false}
use Rattle.std.proofs.lemmas.List.{get_or_default}
use Rattle.cgm_atom.specs.declared.constraints.Atom.{Atom}
use Rattle.cgm_atom.specs.declared.constraints.Clause.{Clause}
use Rattle.cgm_atom.specs.Adding.{CanTake, with_written}
use Rattle.cgm_atom.specs.Literals.{clause}
use Rattle.cgm_atom.proofs.Additions.{loop_first, loop_more, mapped, mapped-steps, one_of}
use Rattle.cgm_enc_formula.specs.declared.literals.Literal.{Literal}
use Rattle.cgm_enc_formula.specs.Definitions.{pairs}
use Rattle.cgm_enc_formula.specs.Literals.{atom_of}
use Rattle.cgm_enc_formula.proofs.definitions.add_pairs.Goals as goal

abbrev pair : Atom → Literal → Clause
pair a l = clause (a ∷ atom_of l ∷ [])

pub add_clause-requires : goal.add_clause-requires
add_clause-requires c =
    let a = c.args.first in
    let f = pair a in
    let xs = c.args.literals.now in
    let i = c.loop-l.l-index in
    let d : Literal = record { variable = 0; is_positive = false } in
    let x : Literal = get_or xs i d in
    subst (λ (b : Atom). CanTake c.loop-l.builder (clause (a ∷ b ∷ []) ∷ [])) (sym c.atom.ensures)
    (loop_first (mapped f) (one_of f) c.args.builder.now c.loop-l.builder (pairs a xs) xs i x (mapped-steps f)
    c.loop-l-test.true (get_or_default xs i d x c.loop-l-test.true) c.loop-l.invariant)

pub loop-l-preserved : goal.loop-l-preserved
loop-l-preserved c =
    let a = c.args.first in
    let f = pair a in
    let xs = c.args.literals.now in
    let i = c.loop-l.l-index in
    let d : Literal = record { variable = 0; is_positive = false } in
    let x : Literal = get_or xs i d in
    let added = c.in_ok-add_clause.ensures ∙ ap (λ (b : Atom). with_written c.loop-l.builder (clause (a ∷ b ∷ []) ∷ [])) c.atom.ensures in
    loop_more (mapped f) (one_of f) c.args.builder.now c.loop-l.builder c.add_clause.new.builder (pairs a xs) xs i x (mapped-steps f)
    c.loop-l-test.true (get_or_default xs i d x c.loop-l-test.true) c.loop-l.invariant added
