use Rattle.std.proofs.Common.{◌≡◌, ◌++◌, drop}
use Rattle.cgm_atom.specs.Cut.{cut}
use Rattle.cgm_atom.specs.Instance.{vector}
use Rattle.cgm_search.specs.Storing.{cut_named}
use Rattle.cgm_search.proofs.cuts.add_cut.Given as goal

abbrev pub invariant-loop-part : goal.invariant-loop-part
invariant-loop-part l = record {
  added :
      l.store.added ++ cut_named l.ordinal l.part (drop l.part (cut l.problem.objectives (vector l.problem l.values)))
      ≡ l.fn.store.added ++ cut_named l.ordinal 0 (cut l.problem.objectives (vector l.problem l.values));
  vars : l.store.vars ≡ l.fn.store.vars;
  clauses : l.store.clauses ≡ l.fn.store.clauses;
}
