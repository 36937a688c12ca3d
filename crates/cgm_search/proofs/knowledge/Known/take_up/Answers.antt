use Rattle.std.proofs.Common.{◌≡◌, ◌++◌, ◌^◌, List, ap, ◌∙◌}
use Rattle.cgm_atom.specs.declared.entries.Entry.{Entry}
use Rattle.cgm_log.specs.Landing.{landed}
use Rattle.cgm_search.specs.Knowing.{seen}
use Rattle.cgm_search.proofs.LandedBatches.{landing_accepted, landing_fits, landing_is, news_accepted, news_fit, taken_on_ok}
use Rattle.cgm_search.proofs.knowledge.Known.take_up.Goals as goal

pub absorb_all-requires-clause-accepted : goal.absorb_all-requires-clause-accepted
absorb_all-requires-clause-accepted c =
    rw c.into_inner.ensures
    (news_accepted c.args.self.now.problem (seen c.args.self.now) c.in-Closed.news c.args.batch (rw c.in-Closed.is at c.requires.accepted))

pub absorb_all-requires-in-Landed-clause-accepted : goal.absorb_all-requires-in-Landed-clause-accepted
absorb_all-requires-in-Landed-clause-accepted c =
    rw c.into_inner-in-Landed.ensures
    (news_accepted c.args.self.now.problem (seen c.args.self.now) c.in-Landed.news c.args.batch (rw c.in-Landed.is at c.requires.accepted))

pub absorb_all-requires-in-Landed-2-clause-accepted : goal.absorb_all-requires-in-Landed-2-clause-accepted
absorb_all-requires-in-Landed-2-clause-accepted c =
    let p = c.args.self.now.problem in
    let log : List Entry = seen c.args.self.now ++ c.in-Landed.news in
    let answer = rw c.in-Landed.is at c.requires.answer in
    let landing = c.in_ok-landing-in-Landed.landing.items in
    let mid : seen c.absorb_all-in-Landed.new.self ≡ log =
    c.in_ok-absorb_all-in-Landed.ensures.entries ∙ ap (λ (xs : List Entry). seen c.args.self.now ++ xs) c.into_inner-in-Landed.ensures in
    let same : landing ≡ landed p log c.args.batch =
    landing_is p log c.args.batch c.in-Landed.first c.in-Landed.fate landing answer.0 answer.1 answer.2 c.in_ok-landing-in-Landed.ensures in
    rw c.absorb_all-in-Landed.ensures.problem
    (landing_accepted p log (seen c.absorb_all-in-Landed.new.self) landing c.args.batch mid same (rw c.in-Landed.is at c.requires.accepted))

pub returns-in_ok-landing-in-Landed-clause-entries : goal.returns-in_ok-landing-in-Landed-clause-entries
returns-in_ok-landing-in-Landed-clause-entries c =
    let p = c.args.self.now.problem in
    let log : List Entry = seen c.args.self.now ++ c.in-Landed.news in
    let answer = rw c.in-Landed.is at c.requires.answer in
    let landing = c.in_ok-landing-in-Landed.landing.items in
    let mid : seen c.absorb_all-in-Landed.new.self ≡ log =
    c.in_ok-absorb_all-in-Landed.ensures.entries ∙ ap (λ (xs : List Entry). seen c.args.self.now ++ xs) c.into_inner-in-Landed.ensures in
    let same : landing ≡ landed p log c.args.batch =
    landing_is p log c.args.batch c.in-Landed.first c.in-Landed.fate landing answer.0 answer.1 answer.2 c.in_ok-landing-in-Landed.ensures in
    rw c.in-Landed.is
    (taken_on_ok c.absorb_all-in-Landed-2.result p log (seen c.absorb_all-in-Landed.new.self) landing (seen c.absorb_all-in-Landed-2.new.self) c.args.batch mid same c.absorb_all-in-Landed-2.ensures.entries)

pub absorb_all-requires-clause-room : goal.absorb_all-requires-clause-room
absorb_all-requires-clause-room c =
    rw c.into_inner.ensures
    (news_fit c.args.self.now.problem (seen c.args.self.now) c.in-Closed.news c.args.batch (2 ^ 63) (rw c.in-Closed.is at c.requires.room))

pub absorb_all-requires-in-Landed-clause-room : goal.absorb_all-requires-in-Landed-clause-room
absorb_all-requires-in-Landed-clause-room c =
    rw c.into_inner-in-Landed.ensures
    (news_fit c.args.self.now.problem (seen c.args.self.now) c.in-Landed.news c.args.batch (2 ^ 63) (rw c.in-Landed.is at c.requires.room))

pub absorb_all-requires-in-Landed-2-clause-room : goal.absorb_all-requires-in-Landed-2-clause-room
absorb_all-requires-in-Landed-2-clause-room c =
    let p = c.args.self.now.problem in
    let log : List Entry = seen c.args.self.now ++ c.in-Landed.news in
    let answer = rw c.in-Landed.is at c.requires.answer in
    let landing = c.in_ok-landing-in-Landed.landing.items in
    let mid : seen c.absorb_all-in-Landed.new.self ≡ log =
    c.in_ok-absorb_all-in-Landed.ensures.entries ∙ ap (λ (xs : List Entry). seen c.args.self.now ++ xs) c.into_inner-in-Landed.ensures in
    let same : landing ≡ landed p log c.args.batch =
    landing_is p log c.args.batch c.in-Landed.first c.in-Landed.fate landing answer.0 answer.1 answer.2 c.in_ok-landing-in-Landed.ensures in
    landing_fits p log (seen c.absorb_all-in-Landed.new.self) landing c.args.batch (2 ^ 63) mid same (rw c.in-Landed.is at c.requires.room)
