use Rattle.std.proofs.Common.{◌≤◌, ◌++◌, length, arith}
use Rattle.cgm_encode.specs.ProblemText.{row_line, row_lines}
use Rattle.cgm_encode.proofs.Lines.{numbered_end, numbered_more}
use Rattle.cgm_encode.proofs.printer.push_rows.Goals as goal

pub loop-n-preserved : goal.loop-n-preserved
loop-n-preserved c =
    numbered_more row_line c.args.problem.now.rows c.loop-n.n c.row.result.now c.loop-n.out.items c.push_row.new.out.items (c.args.out.now.items ++ row_lines c.args.problem.now)
    c.row.ensures.found c.loop-n.invariant c.in_ok-push_row.ensures

pub returns : goal.returns
returns c =
    let p = c.args.problem.now in
    let past : length p.rows ≤ c.loop-n.n = omega (arith, c.loop-n-test.false, c.rows-n-end.ensures.count) in
    numbered_end row_line p.rows c.loop-n.n c.loop-n.out.items (c.args.out.now.items ++ row_lines p) past c.loop-n.invariant
