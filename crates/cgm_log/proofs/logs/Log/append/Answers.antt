use Rattle.std.proofs.Common.{◌++◌, length, arith}
use Rattle.cgm_atom.specs.Placing.{all_placed}
use Rattle.cgm_log.proofs.Adding.{log_after}
use Rattle.cgm_log.proofs.logs.Log.append.Goals as goal

pub invariant_of-self : goal.invariant_of-self
invariant_of-self c =
    let old = c.self.inside.entries.items in
    let new = c.append_placed.new.entries in
    record {
      valid = log_after c.append_placed.result c.self.inside.problem old new.items (all_placed (length old) c.args.lemmas.items ++ c.args.kept.items)
          c.self.invariant.valid c.append_placed.ensures.ok c.append_placed.ensures.err
          (rw (← c.self.view_is) at c.requires.accepted) (rw (← c.self.view_is) at c.requires.printable) (omega (arith, new.small, new.ok.0, new.ok.1));
      own = c.append_placed.ensures.own;
    }
