use Rattle.std.proofs.Common.{◌∙◌, ap, arith, length}
use Rattle.cgm_atom.specs.Adding.{with_clauses}
use Rattle.cgm_atom.specs.Instance.{Instance, var_count}
use Rattle.cgm_model.specs.Model.{lists_of}
use Rattle.cgm_enc_graph.specs.GraphClauses.{graph_clauses}
use Rattle.cgm_encode.proofs.Growing.{own_count}
use Rattle.cgm_encode.proofs.encoding.add_numbers.Goals as goal

pub add_graph-requires-clause-variables : goal.add_graph-requires-clause-variables
add_graph-requires-clause-variables c =
    let count = ap (λ (p : Instance). var_count p) c.in_ok-add_own_variables.ensures ∙ own_count (lists_of c.args.model.now) in
    omega (arith, count)

pub add_graph-requires-clause-room : goal.add_graph-requires-clause-room
add_graph-requires-clause-room c =
    let none = ap (λ (p : Instance). length p.clauses) c.in_ok-add_own_variables.ensures in
    omega (arith, none)

pub add_sums-requires : goal.add_sums-requires
add_sums-requires c =
    c.in_ok-add_graph.ensures ∙ ap (λ (p : Instance). with_clauses p (graph_clauses (lists_of c.args.model.now))) c.in_ok-add_own_variables.ensures
