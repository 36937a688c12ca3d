use Rattle.std.proofs.Common.{◌≡◌, ◌-◌}
use Rattle.cgm_search.specs.Cutting.{cut_names}
use Rattle.cgm_search.specs.Storing.{without_cut}
use Rattle.cgm_search.proofs.CutNames.{names_of_cut}
use Rattle.cgm_search.proofs.cuts.drop_cut.Given as goal

abbrev pub invariant-loop-part : goal.invariant-loop-part
invariant-loop-part l = record {
  names : names_of_cut l.store.added ≡ cut_names l.ordinal l.part (l.parts - l.part);
  others : without_cut l.store.added ≡ without_cut l.fn.store.added;
  vars : l.store.vars ≡ l.fn.store.vars;
  clauses : l.store.clauses ≡ l.fn.store.clauses;
}
