use Rattle.std.proofs.Common.{List, subst, sym}
use Rattle.std.specs.List.{All}
use Rattle.cgm_atom.specs.Instance.{var_count}
use Rattle.cgm_model.specs.declared.lists.Rule.{Rule}
use Rattle.cgm_model.specs.Formulas.{formula_of}
use Rattle.cgm_model.specs.Model.{lists_of}
use Rattle.cgm_base.specs.Place.{Each}
use Rattle.cgm_enc_formula.specs.Building.{HasRoomFor, rules_part}
use Rattle.cgm_enc_formula.specs.Measures.{HasKnownNumbers, IsWithinMeasure}
use Rattle.cgm_enc_formula.specs.Rules.{IsEncodableRule}
use Rattle.cgm_enc_formula.proofs.Encodable.{known_numbers, room_for_rules, rules_encodable}
use Rattle.cgm_enc_formula.proofs.rules.add_rules.Goals as goal

pub first_past-requires-clause-known : goal.first_past-requires-clause-known
first_past-requires-clause-known c =
    let m = lists_of c.args.model.now in
    subst (λ (rs : List Rule). All (λ r. HasKnownNumbers m (formula_of r)) rs) (sym c.as_slice-rules.ensures) (known_numbers m c.args.model.now.well_formed)

pub add_each-requires-clause-encodable : goal.add_each-requires-clause-encodable
add_each-requires-clause-encodable c =
    let m = lists_of c.args.model.now in
    let bounds = c.args.builder.now.bounds in
    let within = subst (λ (rs : List Rule). Each (IsWithinMeasure m bounds) rs) c.as_slice-rules.ensures c.in-None.ensures in
    subst (λ (rs : List Rule). All (IsEncodableRule m bounds) rs) (sym c.as_slice-rules.ensures) (rules_encodable m bounds c.args.model.now.well_formed within)

pub add_each-requires-clause-room : goal.add_each-requires-clause-room
add_each-requires-clause-room c =
    let m = lists_of c.args.model.now in
    let b = c.args.builder.now in
    subst (λ (rs : List Rule). HasRoomFor b (rules_part m (var_count b) rs)) (sym c.as_slice-rules.ensures)
    (room_for_rules m b c.args.model.now.well_formed c.requires.few_variables c.requires.few_clauses c.requires.few_rows)
