use Rattle.std.proofs.Common.{List, ◌++◌, ◌∙◌, ap}
use Rattle.std.specs.Prelude.{ℤ}
use Rattle.cgm_model.specs.Model.{lists_of}
use Rattle.cgm_obj.specs.Vector.{vector_of}
use Rattle.cgm_encode.specs.Assignments.{extension}
use Rattle.cgm_encode.proofs.values.push_values.Goals as goal

pub returns : goal.returns
unfolding extension
returns c =
    c.in_ok-push_vector.ensures
    ∙ ap (λ (l : List ℤ). l ++ vector_of (lists_of c.args.model.now) c.args.earlier.now.pairs c.args.assignment.now) c.in_ok-push_choices.ensures
