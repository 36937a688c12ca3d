use Rattle.std.proofs.Common.{◌∙◌, List, ap, arith, length, subst, sym}
use Rattle.std.specs.List.{All}
use Rattle.std.proofs.lemmas.List.FromFn.{length-map-range_with_len}
use Rattle.cgm_atom.specs.Instance.{Instance, var_count}
use Rattle.cgm_model.specs.Model.{lists_of}
use Rattle.cgm_model.specs.TruthVariables.{truth_variables}
use Rattle.cgm_encode.specs.declared.expressions.Expression.{Expression}
use Rattle.cgm_encode.specs.Building.{IsMeasured, expression_of}
use Rattle.cgm_encode.specs.Quantities.{sum_total}
use Rattle.cgm_encode.specs.Stages.{graph_instance, with_defined}
use Rattle.cgm_encode.proofs.Growing.{numbers_grown, own_count, sum_expressions}
use Rattle.cgm_encode.proofs.Measured.{few_parts, sums_measured}
use Rattle.cgm_encode.proofs.encoding.add_sums.Goals as goal

pub define-requires-clause-measured : goal.define-requires-clause-measured
define-requires-clause-measured c =
    let m = lists_of c.args.model.now in
    subst (λ (p : Instance). All (IsMeasured p) c.as_slice.result.now) (sym c.requires)
    (subst (λ (es : List Expression). All (IsMeasured (graph_instance m)) es) (sym (c.as_slice.ensures.value ∙ c.in_ok-sums.ensures)) (sums_measured m c.args.model.now.well_formed))

pub define-requires-clause-room : goal.define-requires-clause-room
define-requires-clause-room c =
    let m = lists_of c.args.model.now in
    let few = (few_parts m c.args.model.now.well_formed).variables in
    let count = ap (λ (p : Instance). var_count p) c.requires ∙ own_count m in
    let long = ap (λ (es : List Expression). length es) (c.as_slice.ensures.value ∙ c.in_ok-sums.ensures)
    ∙ length-map-range_with_len (λ sum. expression_of (truth_variables m) (sum_total m sum)) 0 (length m.sums) in
    omega (arith, few, count, long)

pub define-requires-clause-row_room : goal.define-requires-clause-row_room
define-requires-clause-row_room c =
    let m = lists_of c.args.model.now in
    let few = (few_parts m c.args.model.now.well_formed).variables in
    let none = ap (λ (p : Instance). length p.rows) c.requires in
    let long = ap (λ (es : List Expression). length es) (c.as_slice.ensures.value ∙ c.in_ok-sums.ensures)
    ∙ length-map-range_with_len (λ sum. expression_of (truth_variables m) (sum_total m sum)) 0 (length m.sums) in
    omega (arith, few, none, long)

pub returns : goal.returns
returns c =
    let m = lists_of c.args.model.now in
    c.in_ok-define.ensures.added
    ∙ ap (λ (es : List Expression). with_defined c.args.builder.now es) (c.as_slice.ensures.value ∙ c.in_ok-sums.ensures)
    ∙ ap (λ (p : Instance). with_defined p (sum_expressions m)) c.requires
    ∙ numbers_grown m
