use Rattle.std.proofs.Common.{◌≡◌, ◌+◌, ◌++◌, ◌∷◌, [], List, cond, sym, ◌∙◌, ap, subst}
use Rattle.cgm_formula.specs.declared.formula.Formula.{Formula}
use Rattle.cgm_formula.specs.Nodes.{node_count}
use Rattle.cgm_model.specs.declared.aids.Aids.{Aids}
use Rattle.cgm_model.specs.declared.lists.Rule.{Rule}
use Rattle.cgm_model.specs.Formulas.{formula_of}
use Rattle.cgm_model.specs.Keeping.{AreFor}
use Rattle.cgm_model.proofs.Aiding.{AreFor-rule, room_left, nodes_fit}
use Rattle.cgm_model.proofs.Fresh.{nodes_within}
use Rattle.cgm_model.proofs.builder.push_rule.Goals as goal

pub returns-clause-aids : goal.returns-clause-aids
returns-clause-aids c =
    let m = c.args.lists.now in
    let r = c.args.rule in
    let old : Aids = c.args.aids.now in
    let left = c.unwrap_or-left.result in
    let rules : c.push.new.self ≡ m.rules ++ r ∷ [] = c.push.ensures.items ∙ ap (λ b. cond b (m.rules ++ r ∷ []) m.rules) (sym c.in_ok-map_err.ensures.variant) in
    let fit = nodes_fit m r old c.requires.aids (nodes_within m r c.requires.allowed) in
    let nodes = ap (λ (f : Formula). node_count f) c.formula_of.ensures in
    let rest : left + node_count (formula_of r) ≡ old.node_room = ap (λ n. n + node_count (formula_of r)) c.unwrap_or-left.ensures ∙ room_left c.room_after.result old.node_room (node_count (formula_of r)) (rw nodes at c.room_after.ensures) fit in
    subst (λ (rs : List Rule). AreFor (record m { rules = rs }) (record old { node_room = left })) (sym rules) (AreFor-rule m r old left rest c.requires.aids)
