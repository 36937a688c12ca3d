use Rattle.std.proofs.Common.{◌<◌, ◌∙◌, ℕ, List, ap, arith, length, subst, sym}
use Rattle.std.specs.List.{All, range_with_len}
use Rattle.std.proofs.lemmas.List.{length-map}
use Rattle.std.proofs.lemmas.List.FromFn.{length-range_with_len}
use Rattle.cgm_atom.specs.Instance.{Instance, var_count}
use Rattle.cgm_model.specs.Model.{lists_of}
use Rattle.cgm_encode.specs.declared.expressions.Expression.{Expression}
use Rattle.cgm_encode.specs.Building.{IsMeasured, expression_of}
use Rattle.cgm_encode.specs.Quantities.{objective_total}
use Rattle.cgm_encode.specs.Stages.{choices_instance, with_defined, with_objectives}
use Rattle.cgm_encode.specs.Variables.{first_objective}
use Rattle.cgm_encode.proofs.Growing.{choices_count, objective_expressions, objectives_grown}
use Rattle.cgm_encode.proofs.KnownSizes.{known_sizes}
use Rattle.cgm_encode.proofs.Measured.{defined_count, few_parts, objectives_measured, rows_few, variables_within}
use Rattle.cgm_encode.proofs.encoding.add_objective_part.Goals as goal

pub define-requires-clause-measured : goal.define-requires-clause-measured
define-requires-clause-measured c =
    let m = lists_of c.args.model.now in
    let pairs = c.args.earlier.now.pairs in
    subst (λ (p : Instance). All (IsMeasured p) c.as_slice.result.now) (sym c.requires.stage)
    (subst (λ (es : List Expression). All (IsMeasured (choices_instance m)) es) (sym (c.as_slice.ensures.value ∙ c.in_ok-objectives.ensures)) (objectives_measured m pairs c.args.model.now.well_formed))

pub define-requires-clause-room : goal.define-requires-clause-room
define-requires-clause-room c =
    let m = lists_of c.args.model.now in
    let pairs = c.args.earlier.now.pairs in
    let few = (few_parts m c.args.model.now.well_formed).variables in
    let count = ap (λ (p : Instance). var_count p) c.requires.stage ∙ choices_count m in
    let long = ap (λ (es : List Expression). length es) (c.as_slice.ensures.value ∙ c.in_ok-objectives.ensures)
    ∙ length-map m.objectives (λ o. expression_of (first_objective m) (objective_total m pairs o)) in
    omega (arith, few, count, long)

pub define-requires-clause-row_room : goal.define-requires-clause-row_room
define-requires-clause-row_room c =
    let m = lists_of c.args.model.now in
    let pairs = c.args.earlier.now.pairs in
    let few = rows_few m c.args.model.now.well_formed in
    let rows = ap (λ (p : Instance). length p.rows) c.requires.stage in
    let eight = (known_sizes m c.args.model.now.well_formed).objectives in
    let long = ap (λ (es : List Expression). length es) (c.as_slice.ensures.value ∙ c.in_ok-objectives.ensures)
    ∙ length-map m.objectives (λ o. expression_of (first_objective m) (objective_total m pairs o)) in
    omega (arith, few, rows, eight, long)

pub add_objectives-requires-clause-known : goal.add_objectives-requires-clause-known
add_objectives-requires-clause-known c =
    let b = c.args.builder.now in
    let es = c.as_slice.result.now in
    let count = ap (λ (p : Instance). var_count p) c.in_ok-variables.ensures.added ∙ defined_count b es in
    subst (λ (n : ℕ). All (λ v. v < n) c.as_slice-2.result.now) (sym count)
    (variables_within (var_count b) (length es) c.as_slice-2.result.now (c.as_slice-2.ensures.value ∙ c.in_ok-variables.ensures.variables))

pub add_objectives-requires-clause-room : goal.add_objectives-requires-clause-room
add_objectives-requires-clause-room c =
    let m = lists_of c.args.model.now in
    let pairs = c.args.earlier.now.pairs in
    let none = ap (λ (p : Instance). length p.objectives) c.in_ok-variables.ensures.added ∙ ap (λ (p : Instance). length p.objectives) c.requires.stage in
    let eight = (known_sizes m c.args.model.now.well_formed).objectives in
    let long = ap (λ (es : List Expression). length es) (c.as_slice.ensures.value ∙ c.in_ok-objectives.ensures)
    ∙ length-map m.objectives (λ o. expression_of (first_objective m) (objective_total m pairs o)) in
    let own = ap (λ (vs : List ℕ). length vs) (c.as_slice-2.ensures.value ∙ c.in_ok-variables.ensures.variables) ∙ length-range_with_len (var_count c.args.builder.now) (length c.as_slice.result.now) in
    omega (arith, none, eight, long, own)

pub returns : goal.returns
returns c =
    let m = lists_of c.args.model.now in
    let pairs = c.args.earlier.now.pairs in
    let b = c.args.builder.now in
    let es_are = c.as_slice.ensures.value ∙ c.in_ok-objectives.ensures in
    let own = c.as_slice-2.ensures.value ∙ c.in_ok-variables.ensures.variables
    ∙ ap (λ (p : Instance). range_with_len (var_count p) (length c.as_slice.result.now)) c.requires.stage
    ∙ ap (λ (es : List Expression). range_with_len (var_count (choices_instance m)) (length es)) es_are in
    c.in_ok-add_objectives.ensures
    ∙ ap (λ (p : Instance). with_objectives p c.as_slice-2.result.now)
    (c.in_ok-variables.ensures.added
    ∙ ap (λ (es : List Expression). with_defined b es) es_are
    ∙ ap (λ (p : Instance). with_defined p (objective_expressions m pairs)) c.requires.stage)
    ∙ objectives_grown m pairs c.as_slice-2.result.now own
