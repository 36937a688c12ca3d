use Rattle.std.proofs.Common.{◌++◌, false, map, ℕ, List, refl}
use Rattle.std.specs.Prelude.{pos}
use Rattle.cgm_atom.specs.declared.constraints.Atom.{Atom}
use Rattle.cgm_atom.specs.AtomWords.{atom_word, spaced}
use Rattle.cgm_enc_formula.proofs.Mapped.{all_done}
use Rattle.cgm_encode.proofs.Lines.{spaced_more}
use Rattle.cgm_encode.proofs.printer.push_atoms.Goals as goal

pub loop-a-preserved : goal.loop-a-preserved
loop-a-preserved c =
    let d : Atom = record { var = record { 0 = 0 }; at_least = false; k = pos 0 } in
    spaced_more atom_word c.args.atoms.now c.loop-a.a-index d c.loop-a.out.items c.push_atom.new.out.items (c.args.out.now.items ++ spaced (map atom_word c.args.atoms.now))
    c.loop-a-test.true c.loop-a.invariant c.in_ok-push_atom.ensures

pub returns : goal.returns
returns c =
    let text : List Atom → List ℕ = λ xs. spaced (map atom_word xs) in
    all_done text c.args.atoms.now c.loop-a.a-index c.loop-a.out.items (c.args.out.now.items ++ text c.args.atoms.now) refl c.loop-a-test.false c.loop-a.invariant
