use Rattle.cgm_search.proofs.Absorbing.{names_before, next_atoms_known, next_values_fit}
use Rattle.cgm_search.proofs.knowledge.keep.Goals as goal

pub renew_cut-requires-clause-values : goal.renew_cut-requires-clause-values
renew_cut-requires-clause-values c =
    rw c.as_slice.ensures
    (next_values_fit c.args.problem.now c.args.log.now c.in-Best.by c.in-Best.values c.recall_well_formed.ensures (rw c.in-Best.is at c.requires.next))

pub renew_cut-requires-clause-before : goal.renew_cut-requires-clause-before
renew_cut-requires-clause-before c =
    names_before c.args.problem.now c.args.log.now c.args.store.now.added c.bests.result c.requires.accepted c.bests.ensures c.requires.cut

pub add-requires : goal.add-requires
add-requires c = record {
  known =
      rw (c.in_ok-copy-in-Lemma.ensures, c.requires.of_problem.vars)
      (next_atoms_known c.args.problem.now c.args.log.now c.in-Lemma.by c.in-Lemma.bound c.in-Lemma.clause c.in-Lemma.hints (rw c.in-Lemma.is at c.requires.next));
}
