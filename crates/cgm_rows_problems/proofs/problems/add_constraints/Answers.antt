use Rattle.std.proofs.Common.{ℕ, ◌≤◌, arith}
use Rattle.cgm_atom.specs.Instance.{Instance}
use Rattle.cgm_rows_problems.specs.Sizes.{HasSizes}
use Rattle.cgm_rows_problems.proofs.problems.add_constraints.Goals as goal

up_to : (p : Instance) (variables seen most objectives : ℕ) → seen ≤ most → HasSizes p variables seen objectives → HasSizes p variables most objectives
up_to p variables seen most objectives few sizes =
    let clauses = sizes.clauses_met in
    let rows = sizes.rows_met in
    record {
      variables_met = sizes.variables_met;
      clauses_met = omega (arith, clauses, few);
      rows_met = omega (arith, rows, few);
      objectives_met = sizes.objectives_met;
    }

pub returns : goal.returns
returns c =
    up_to c.loop-statement.builder c.args.count c.loop-statement.seen 2000 0 c.loop-statement.invariant.few c.loop-statement.invariant.sizes
