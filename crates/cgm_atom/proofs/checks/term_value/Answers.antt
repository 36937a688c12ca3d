use Rattle.std.proofs.Common.{◌≡◌, ◌*◌, w64, to_z, of_z, rules}
use Rattle.std.specs.Prelude.{unsigned_abs}
use Rattle.cgm_atom.specs.Bounds.{value_of, lower_of, upper_of}
use Rattle.cgm_atom.proofs.Sums.{term_size}
use Rattle.cgm_atom.proofs.checks.term_value.Goals as goal

pub returns-clause-size : goal.returns-clause-size
returns-clause-size c =
    let x = c.args.variable.0 in
    let b = c.args.problem.now.bounds in
    let v = value_of c.args.values.now x in
    let size : unsigned_abs (to_z w64 (of_z w64 c.product.result)) ≡ unsigned_abs c.args.coefficient * unsigned_abs v = search rules in
    let between = c.requires.within x in
    rw size (term_size c.args.coefficient (lower_of b x) v (upper_of b x) between.0 between.1)
