use Rattle.std.proofs.Common.{◌++◌, refl}
use Rattle.cgm_report.specs.Report.{refinement_lines}
use Rattle.cgm_report.proofs.Zipped.{zipped_all}
use Rattle.cgm_report.proofs.found.push_refinements.Goals as goal

pub returns : goal.returns
returns c =
    let xs = c.args.refinements.now in
    let ys = c.args.truths.now in
    zipped_all refinement_lines (λ ys. refl) xs ys c.loop-at.at c.loop-at-test.false (c.args.report.now.items ++ refinement_lines xs ys) c.loop-at.report.items c.loop-at.invariant
