use Rattle.cgm_atom.specs.AtomWords.{atom_word}
use Rattle.cgm_cert.proofs.Steps.{word_added}
use Rattle.cgm_cert.proofs.printer.push_atoms.Goals as goal

pub loop-atom-preserved : goal.loop-atom-preserved
loop-atom-preserved c =
    word_added atom_word c.args.atoms.now c.loop-atom.atom-index _ c.args.out.now.items c.loop-atom.out.items c.push.new.self.items c.push_atom.new.out.items
    c.loop-atom-test.true c.loop-atom.invariant c.in_ok-push.ensures.items c.in_ok-push_atom.ensures
