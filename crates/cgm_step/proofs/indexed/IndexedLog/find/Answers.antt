-- The answer for each kind of hint.
use Rattle.std.proofs.Common.{ap, sym, ◌∙◌}
use Rattle.cgm_atom.specs.LogState.{carried, named}
use Rattle.cgm_step.proofs.Accepted.{best_values_fit}
use Rattle.cgm_step.proofs.Names.{found_as, found_with, named-Cut, named-Cut_gone}
use Rattle.cgm_step.proofs.indexed.IndexedLog.find.Goals as goal

pub find_part-requires : goal.find_part-requires
find_part-requires c =
    best_values_fit c.args.problem.now c.args.self.now c.in-Cut.best c.in-Some.values.now c.recall_well_formed.ensures c.requires (sym c.in-Some.ensures)

pub returns-in-Clause : goal.returns-in-Clause
unfolding named carried
returns-in-Clause c =
    found_with c.args.problem.now c.args.self.now c.args.hint.now _ 0 c.find_clause.result c.with_carried.result
    (ap (named c.args.problem.now c.args.self.now) c.in-Clause.is) (ap (carried c.args.self.now) c.in-Clause.is) c.find_clause.ensures c.with_carried.ensures

pub returns-in-Row : goal.returns-in-Row
unfolding named carried
returns-in-Row c =
    found_with c.args.problem.now c.args.self.now c.args.hint.now _ 0 c.find_row.result c.with_carried-in-Row.result
    (ap (named c.args.problem.now c.args.self.now) c.in-Row.is) (ap (carried c.args.self.now) c.in-Row.is) c.find_row.ensures c.with_carried-in-Row.ensures

pub returns-in-Own : goal.returns-in-Own
unfolding named
returns-in-Own c = ap (named c.args.problem.now c.args.self.now) c.in-Own.is

pub returns-in-Entry : goal.returns-in-Entry
returns-in-Entry c =
    found_as c.args.problem.now c.args.self.now c.args.hint.now _ c.find_lemma.result c.in-Entry.is c.find_lemma.ensures

pub returns-in-Some : goal.returns-in-Some
unfolding carried
returns-in-Some c =
    found_with c.args.problem.now c.args.self.now c.args.hint.now _ c.in-Cut.best c.find_part.result c.with_carried-in-Some.result
    (ap (named c.args.problem.now c.args.self.now) c.in-Cut.is ∙ named-Cut c.args.problem.now c.args.self.now c.in-Cut.best c.in-Cut.part c.in-Some.values.now c.in-Some.ensures)
    (ap (carried c.args.self.now) c.in-Cut.is) c.find_part.ensures c.with_carried-in-Some.ensures

pub returns-in-None : goal.returns-in-None
returns-in-None c =
    ap (named c.args.problem.now c.args.self.now) c.in-Cut.is ∙ named-Cut_gone c.args.problem.now c.args.self.now c.in-Cut.best c.in-Cut.part c.in-None.ensures
