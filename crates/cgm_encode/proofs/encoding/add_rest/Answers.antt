use Rattle.std.proofs.Common.{◌∙◌, ap, arith, length}
use Rattle.cgm_atom.specs.Instance.{Instance, var_count}
use Rattle.cgm_model.specs.Model.{lists_of}
use Rattle.cgm_enc_formula.specs.Building.{rules_part, with_part}
use Rattle.cgm_encode.proofs.Growing.{numbers_count, rules_grown}
use Rattle.cgm_encode.proofs.Measured.{few_parts}
use Rattle.cgm_encode.proofs.encoding.add_rest.Goals as goal

pub add_rules-requires-clause-variables : goal.add_rules-requires-clause-variables
add_rules-requires-clause-variables c =
    let count = ap (λ (p : Instance). var_count p) c.requires ∙ numbers_count (lists_of c.args.model.now) in
    omega (arith, count)

pub add_rules-requires-clause-few_variables : goal.add_rules-requires-clause-few_variables
add_rules-requires-clause-few_variables c =
    let m = lists_of c.args.model.now in
    let count = ap (λ (p : Instance). var_count p) c.requires ∙ numbers_count m in
    let few = (few_parts m c.args.model.now.well_formed).variables in
    omega (arith, count, few)

pub add_rules-requires-clause-few_clauses : goal.add_rules-requires-clause-few_clauses
add_rules-requires-clause-few_clauses c =
    let m = lists_of c.args.model.now in
    let clauses = ap (λ (p : Instance). length p.clauses) c.requires in
    let few = (few_parts m c.args.model.now.well_formed).clauses in
    omega (arith, clauses, few)

pub add_rules-requires-clause-few_rows : goal.add_rules-requires-clause-few_rows
add_rules-requires-clause-few_rows c =
    let m = lists_of c.args.model.now in
    let rows = ap (λ (p : Instance). length p.rows) c.requires in
    let few = (few_parts m c.args.model.now.well_formed).rows in
    omega (arith, rows, few)

pub add_choices-requires : goal.add_choices-requires
add_choices-requires c =
    let m = lists_of c.args.model.now in
    c.in_ok-add_rules.ensures.1 ∙ ap (λ (p : Instance). with_part p (rules_part m (var_count p) m.rules)) c.requires ∙ rules_grown m
