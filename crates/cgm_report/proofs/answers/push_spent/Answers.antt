use Rattle.std.proofs.Common.{◌∙◌, ◌++◌, ℕ, List, ap}
use Rattle.cgm_report.specs.Answers.{spent_lines}
use Rattle.cgm_report.proofs.Zipped.{spent_more}
use Rattle.cgm_report.proofs.answers.push_spent.Goals as goal

pub loop-worker-preserved : goal.loop-worker-preserved
loop-worker-preserved c =
    let spent = c.args.spent.now in
    let old = c.loop-worker.report.items in
    spent_more spent c.loop-worker.worker 0 c.loop-worker-test.true (c.args.report.now.items ++ spent_lines 0 spent) old c.extend_from_slice.new.self.items c.loop-worker.invariant
    (c.in_ok-extend_from_slice.ensures.items ∙ ap (λ (bs : List ℕ). old ++ bs) (c.as_bytes.ensures.value ∙ c.in_ok-line.ensures))
