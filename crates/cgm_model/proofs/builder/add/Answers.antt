use Rattle.std.proofs.Common.{◌≡◌, is_ok, None, Some, sym, ◌∙◌}
use Rattle.cgm_model.specs.Statement.{refusal}
use Rattle.cgm_model.proofs.Keeping.{IsWellFormed-after}
use Rattle.cgm_model.proofs.Refusals.{IsNotAdded-refused, IsAllowed-passed}
use Rattle.cgm_model.proofs.builder.add.Goals as goal

pub push-requires-clause-allowed : goal.push-requires-clause-allowed
push-requires-clause-allowed c =
    let e : refusal c.args.lists.now c.args.statement c.stays_acyclic-acyclic.result ≡ None = sym c.refusal.ensures ∙ c.in-None.is in
    IsAllowed-passed c.args.lists.now c.args.statement c.stays_acyclic-acyclic.result c.stays_acyclic-acyclic.ensures.answer e

pub returns-in-Some-clause-refused : goal.returns-in-Some-clause-refused
returns-in-Some-clause-refused c =
    let e : refusal c.args.lists.now c.args.statement c.stays_acyclic-acyclic.result ≡ Some c.in-Some.stop = sym c.refusal.ensures ∙ c.in-Some.is in
    IsNotAdded-refused c.args.lists.now c.args.statement c.stays_acyclic-acyclic.result c.in-Some.stop c.stays_acyclic-acyclic.ensures.answer e

pub returns-in-Ok-clause-allowed : goal.returns-in-Ok-clause-allowed
returns-in-Ok-clause-allowed c =
    let e : refusal c.args.lists.now c.args.statement c.stays_acyclic-acyclic.result ≡ None = sym c.refusal.ensures ∙ c.in-None.is in
    IsAllowed-passed c.args.lists.now c.args.statement c.stays_acyclic-acyclic.result c.stays_acyclic-acyclic.ensures.answer e

pub returns-in-Err-clause-refused : goal.returns-in-Err-clause-refused
returns-in-Err-clause-refused c =
    let e : refusal c.args.lists.now c.args.statement c.stays_acyclic-acyclic.result ≡ None = sym c.refusal.ensures ∙ c.in-None.is in
    IsAllowed-passed c.args.lists.now c.args.statement c.stays_acyclic-acyclic.result c.stays_acyclic-acyclic.ensures.answer e

pub returns-in-Ok-clause-known : goal.returns-in-Ok-clause-known
returns-in-Ok-clause-known c =
    let e : refusal c.args.lists.now c.args.statement c.stays_acyclic-acyclic.result ≡ None = sym c.refusal.ensures ∙ c.in-None.is in
    let allowed = IsAllowed-passed c.args.lists.now c.args.statement c.stays_acyclic-acyclic.result c.stays_acyclic-acyclic.ensures.answer e in
    IsWellFormed-after (is_ok c.push.result) c.args.lists.now c.args.statement c.push.new.lists c.push.ensures.lists c.requires.well_formed c.requires.proper allowed
