use Rattle.std.proofs.Common.{◌≤◌, ◌++◌, length, arith}
use Rattle.cgm_encode.specs.ProblemText.{clause_line, clause_lines}
use Rattle.cgm_encode.proofs.Lines.{numbered_end, numbered_more}
use Rattle.cgm_encode.proofs.printer.push_clauses.Goals as goal

pub loop-n-preserved : goal.loop-n-preserved
loop-n-preserved c =
    numbered_more clause_line c.args.problem.now.clauses c.loop-n.n c.clause.result.now c.loop-n.out.items c.push_clause.new.out.items (c.args.out.now.items ++ clause_lines c.args.problem.now)
    c.clause.ensures.found c.loop-n.invariant c.in_ok-push_clause.ensures

pub returns : goal.returns
returns c =
    let p = c.args.problem.now in
    let past : length p.clauses ≤ c.loop-n.n = omega (arith, c.loop-n-test.false, c.clauses-n-end.ensures.count) in
    numbered_end clause_line p.clauses c.loop-n.n c.loop-n.out.items (c.args.out.now.items ++ clause_lines p) past c.loop-n.invariant
