use Rattle.std.proofs.Common.{◌+◌, List, drop, refl, subst}
use Rattle.std.proofs.lemmas.List.{drop_all}
use Rattle.cgm_model.specs.declared.lists.Rule.{Rule}
use Rattle.cgm_model.specs.Model.{lists_of}
use Rattle.cgm_model.proofs.Places.{drop-read}
use Rattle.cgm_enc_formula.proofs.RuleSteps.{AreAdded, added_at_end, added_more, next_fits, next_known}
use Rattle.cgm_enc_formula.proofs.rules.add_each.Goals as goal

pub add_rule-requires-clause-encodable : goal.add_rule-requires-clause-encodable
add_rule-requires-clause-encodable c =
    let m = lists_of c.args.model.now in
    let all = c.args.rules.now in
    let i = c.loop-rule.rule-index in
    let r = c.rule-item.result in
    let here = drop-read all all i r refl c.loop-rule-test.true c.rule-item.is in
    next_known m c.args.builder.now c.loop-rule.builder all r (drop (i + 1) all)
    (subst (λ (rest : List Rule). AreAdded m c.args.builder.now all c.loop-rule.builder rest) here c.loop-rule.invariant)

pub add_rule-requires-clause-room : goal.add_rule-requires-clause-room
add_rule-requires-clause-room c =
    let m = lists_of c.args.model.now in
    let all = c.args.rules.now in
    let i = c.loop-rule.rule-index in
    let r = c.rule-item.result in
    let here = drop-read all all i r refl c.loop-rule-test.true c.rule-item.is in
    next_fits m c.args.builder.now c.loop-rule.builder all r (drop (i + 1) all)
    (subst (λ (rest : List Rule). AreAdded m c.args.builder.now all c.loop-rule.builder rest) here c.loop-rule.invariant)

pub loop-rule-preserved : goal.loop-rule-preserved
loop-rule-preserved c =
    let m = lists_of c.args.model.now in
    let all = c.args.rules.now in
    let i = c.loop-rule.rule-index in
    let r = c.rule-item.result in
    let here = drop-read all all i r refl c.loop-rule-test.true c.rule-item.is in
    added_more m c.args.builder.now c.loop-rule.builder c.add_rule.new.builder all r (drop (i + 1) all)
    (subst (λ (rest : List Rule). AreAdded m c.args.builder.now all c.loop-rule.builder rest) here c.loop-rule.invariant) c.recall_well_formed.ensures.proper.same_count c.in_ok-add_rule.ensures

pub returns : goal.returns
returns c =
    let m = lists_of c.args.model.now in
    let all = c.args.rules.now in
    added_at_end m c.args.builder.now c.loop-rule.builder all
    (subst (λ (rest : List Rule). AreAdded m c.args.builder.now all c.loop-rule.builder rest) (drop_all c.loop-rule.rule-index all c.loop-rule-test.false) c.loop-rule.invariant)
