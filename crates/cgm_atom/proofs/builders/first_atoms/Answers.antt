use Rattle.std.proofs.Common.{◌≡◌, false, get_or, pos, true}
use Rattle.std.specs.BTreeSet.{contains}
use Rattle.cgm_atom.specs.declared.constraints.Atom.{Atom}
use Rattle.cgm_atom.specs.Building.{atom_order}
use Rattle.cgm_atom.proofs.Fresh.{found_old_at, was_seen}
use Rattle.cgm_atom.proofs.builders.first_atoms.Goals as goal

pub loop-atom-preserved-then-not-branch : goal.loop-atom-preserved-then-not-branch
loop-atom-preserved-then-not-branch c =
    let atoms = c.args.atoms.now in
    let i = c.loop-atom.atom-index in
    let d : Atom = record { var = record { 0 = 0 }; at_least = false; k = pos 0 } in
    let old : contains atom_order c.loop-atom.seen (get_or atoms i d) ≡ true = was_seen c.in_ok-insert_new.field-0 _ c.in_ok-insert_new.ensures.is_new c.if-not-branch.true in
    found_old_at atoms c.loop-atom.kept.items i d c.loop-atom.seen c.insert_new.new.seen c.loop-atom-test.true c.loop-atom.invariant old c.in_ok-insert_new.ensures.seen
