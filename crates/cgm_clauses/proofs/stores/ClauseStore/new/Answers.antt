use Rattle.std.proofs.lemmas.List.Elements.{All-nil}
use Rattle.cgm_clauses.specs.StoreState.{HasKnownVariables}
use Rattle.cgm_clauses.proofs.Naming.{numbered_known}
use Rattle.cgm_clauses.proofs.stores.ClauseStore.new.Goals as goal

pub invariant_of-result : goal.invariant_of-result
invariant_of-result c =
    rw (c.vars.ensures.count, c.in_ok-clauses.ensures, c.new.ensures.items)
    (record {
      clauses = numbered_known _ 0 c.args.problem.now.clauses c.recall_well_formed.ensures.clauses;
      added = All-nil (HasKnownVariables _);
    })
