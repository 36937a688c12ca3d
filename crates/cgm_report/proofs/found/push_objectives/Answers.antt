use Rattle.std.proofs.Common.{◌≡◌, ◌++◌, get_or, pos, refl, to_z, of_z, w64, rules}
use Rattle.cgm_model.specs.Model.{lists_of}
use Rattle.cgm_report.specs.Shown.{shown_line, vector_lines}
use Rattle.cgm_report.proofs.Zipped.{zipped_at, zipped_all}
use Rattle.cgm_report.proofs.found.push_objectives.Goals as goal

pub loop-at-preserved : goal.loop-at-preserved
loop-at-preserved c =
    let m = lists_of c.args.model.now in
    let xs = c.args.objectives.now in
    let ys = c.args.vector.now in
    let y = get_or ys c.loop-at.at (pos 0) in
    let same : to_z w64 (of_z w64 y) ≡ y = search rules in
    zipped_at (shown_line m) (vector_lines m) (record { more = λ x y xs ys. refl }) xs ys c.loop-at.at _ (pos 0) (to_z w64 (of_z w64 y)) c.loop-at-test.true c.requires same
    (c.args.report.now.items ++ (vector_lines m) xs ys) c.loop-at.report.items c.push_objective.new.report.items c.loop-at.invariant c.in_ok-push_objective.ensures

pub returns : goal.returns
returns c =
    let xs = c.args.objectives.now in
    let ys = c.args.vector.now in
    zipped_all (vector_lines (lists_of c.args.model.now)) (λ ys. refl) xs ys c.loop-at.at c.loop-at-test.false (c.args.report.now.items ++ vector_lines (lists_of c.args.model.now) xs ys) c.loop-at.report.items c.loop-at.invariant
