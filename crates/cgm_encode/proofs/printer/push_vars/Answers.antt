use Rattle.std.proofs.Common.{◌≤◌, ◌<◌, ◌++◌, arith}
use Rattle.cgm_atom.specs.Instance.{var_count}
use Rattle.cgm_encode.specs.ProblemText.{var_line, var_lines}
use Rattle.cgm_encode.proofs.Lines.{ranged_all, ranged_end, ranged_more}
use Rattle.cgm_encode.proofs.printer.push_vars.Goals as goal

pub loop-v-preserved : goal.loop-v-preserved
loop-v-preserved c =
    let p = c.args.problem.now in
    let within : c.loop-v.v < var_count p = omega (arith, c.loop-v-test.true, c.vars-v-end.ensures.count) in
    ranged_more (var_line p.bounds) c.loop-v.v (var_count p) c.loop-v.out.items c.push_var.new.out.items (c.args.out.now.items ++ var_lines p)
    within c.loop-v.invariant c.in_ok-push_var.ensures

pub loop-v-init : goal.loop-v-init
loop-v-init c =
    let p = c.args.problem.now in
    ranged_all (var_line p.bounds) (var_count p) c.args.out.now.items

pub returns : goal.returns
returns c =
    let p = c.args.problem.now in
    let past : var_count p ≤ c.loop-v.v = omega (arith, c.loop-v-test.false, c.vars-v-end.ensures.count) in
    ranged_end (var_line p.bounds) c.loop-v.v (var_count p) c.loop-v.out.items (c.args.out.now.items ++ var_lines p) past c.loop-v.invariant
