-- The answer, and the box that is taken back.
use Rattle.std.proofs.Common.{◌≡◌, List, ◌++◌, [], ℕ, ap, subst, sym, ◌∙◌, append-nil}
use Rattle.cgm_atom.specs.Bounds.{Bounds}
use Rattle.cgm_step.specs.Touching.{ChangesOnly, hints_before, vars_of_atoms, vars_of_hints}
use Rattle.cgm_step.proofs.Testing.{refuted_at_once, refuted_by_hints}
use Rattle.cgm_step.proofs.Touching.{all_taken_back, box_of_problem, changes_then, nothing_changed}
use Rattle.cgm_step.proofs.refuting.refutes.Goals as goal

pub restore_atoms-requires-clause-in_box : goal.restore_atoms-requires-clause-in_box
restore_atoms-requires-clause-in_box c =
    c.assume_negations.ensures.within c.args.problem.now.bounds
    (box_of_problem c.args.problem.now.bounds c.args.work.now c.requires.own_box c.recall_well_formed.ensures.proper)

pub returns-then-not-assume_negations-clause-exact : goal.returns-then-not-assume_negations-clause-exact
returns-then-not-assume_negations-clause-exact c =
    refuted_at_once c.args.problem.now c.args.log.now (record { atoms = c.args.atoms.now }) c.args.hints.now c.args.work.now c.requires.own_box c.if-not-assume_negations.ensures.exact

pub returns-then-not-assume_negations-clause-own_box : goal.returns-then-not-assume_negations-clause-own_box
returns-then-not-assume_negations-clause-own_box c =
    all_taken_back (vars_of_atoms c.args.atoms.now) c.args.problem.now.bounds c.args.work.now c.assume_negations.new.bounds c.restore_atoms.new.bounds
    c.recall_well_formed.ensures.proper.same_count c.requires.own_box c.assume_negations.ensures.touched c.restore_atoms.ensures.after c.restore_atoms.ensures.within

pub conflict_at-conflict-requires-clause-in_box : goal.conflict_at-conflict-requires-clause-in_box
conflict_at-conflict-requires-clause-in_box c =
    c.assume_negations.ensures.within c.args.problem.now.bounds
    (box_of_problem c.args.problem.now.bounds c.args.work.now c.requires.own_box c.recall_well_formed.ensures.proper)

pub returns-clause-exact : goal.returns-clause-exact
returns-clause-exact c =
    refuted_by_hints c.args.problem.now c.args.log.now (record { atoms = c.args.atoms.now }) c.args.hints.now c.args.work.now c.assume_negations.new.bounds c.is_some.result
    c.requires.own_box c.if-not-assume_negations.ensures.exact (c.is_some.ensures ∙ c.conflict_at-conflict.ensures.exact)

pub returns-clause-own_box : goal.returns-clause-own_box
returns-clause-own_box c =
    let p = c.args.problem.now in
    let log = c.args.log.now in
    let limits = p.bounds in
    let atoms : List ℕ = vars_of_atoms c.args.atoms.now in
    let hints : List ℕ = vars_of_hints p log (hints_before c.conflict_at-conflict.result c.args.hints.now) in
    let first : ChangesOnly atoms limits c.assume_negations.new.bounds =
    subst (λ (b : Bounds). ChangesOnly atoms b c.assume_negations.new.bounds) c.requires.own_box c.assume_negations.ensures.touched in
    let both = changes_then atoms hints limits c.assume_negations.new.bounds c.conflict_at-conflict.new.bounds first c.conflict_at-conflict.ensures.touched in
    let rest = c.restore_atoms-2.ensures.after hints both in
    let used : vars_of_hints p log c.used_hints.result.now ++ [] ≡ hints =
    append-nil (vars_of_hints p log c.used_hints.result.now) ∙ ap (vars_of_hints p log) c.used_hints.ensures in
    nothing_changed limits c.restore_hints.new.bounds c.recall_well_formed.ensures.proper.same_count c.restore_hints.ensures.within
    (c.restore_hints.ensures.after [] (subst (λ (vars : List ℕ). ChangesOnly vars limits c.restore_atoms-2.new.bounds) (sym used) rest))
