use Rattle.std.proofs.Common.{List, subst, sym}
use Rattle.cgm_atom.specs.declared.entries.Entry.{Entry}
use Rattle.cgm_step.specs.Indexing.{IsLogIndexOf}
use Rattle.cgm_log.proofs.Adding.{empty_log}
use Rattle.cgm_log.proofs.logs.Log.new.Goals as goal

pub invariant_of-result : goal.invariant_of-result
invariant_of-result c = record {
  valid = empty_log c.args.problem c.new.result.items c.new.ensures.items c.recall_well_formed.ensures;
  own = subst (λ (xs : List Entry). IsLogIndexOf c.new-2.result xs) (sym c.new.ensures.items) c.new-2.ensures.own;
}
