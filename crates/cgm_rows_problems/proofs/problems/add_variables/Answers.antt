use Rattle.std.proofs.Common.{◌≡◌, ℕ, ◌+◌, [], ◌∷◌, arith, length-append}
use Rattle.std.specs.Prelude.{ℤ}
use Rattle.cgm_atom.specs.Building.{with_var}
use Rattle.cgm_atom.specs.Instance.{Instance}
use Rattle.cgm_rows_problems.specs.Sizes.{HasSizes}
use Rattle.cgm_rows_problems.proofs.problems.add_variables.Goals as goal

one_more : (old new : Instance) (variables : ℕ) (lo hi : ℤ) → HasSizes old variables 0 0 → new ≡ with_var old lo hi → HasSizes new (variables + 1) 0 0
one_more old new variables lo hi sizes e =
    let longer = length-append old.bounds.lower (lo ∷ []) in
    let met = sizes.variables_met in
    rw e
    (record {
      variables_met = omega (arith, longer, met);
      clauses_met = sizes.clauses_met;
      rows_met = sizes.rows_met;
      objectives_met = sizes.objectives_met;
    })

pub loop-word-preserved : goal.loop-word-preserved
loop-word-preserved c =
    one_more c.loop-word.builder c.var.new.self c.loop-word.count _ _ c.loop-word.invariant c.in_ok-var.ensures.1
