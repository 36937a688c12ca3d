use Rattle.std.proofs.Common.{arith, decimal}
use Rattle.cgm_cert.proofs.WordLemmas.{cut_is, cut_none, cut_hint_is, dot_free}
use Rattle.cgm_cert.proofs.words.cut_hint_of.Goals as goal

pub returns-in-None-clause-none : goal.returns-in-None-clause-none
returns-in-None-clause-none c = λ h printable e.
    let parted = cut_hint_is c.args.rest.now h printable e in
    let best = parted.0 in
    let part = parted.1.0 in
    let facts = parted.1.1 in
    cut_none 46 c.args.rest.now (decimal best) (decimal part) c.in-None.ensures facts.2 (dot_free best facts.0)

pub returns-in-None-number_of-clause-none : goal.returns-in-None-number_of-clause-none
returns-in-None-number_of-clause-none c = λ h printable e.
    let parted = cut_hint_is c.args.rest.now h printable e in
    let best = parted.0 in
    let part = parted.1.0 in
    let facts = parted.1.1 in
    let parts = cut_is 46 c.args.rest.now c.in-Some.best.now c.in-Some.part.now (decimal best) (decimal part) c.in-Some.ensures.0 facts.2 (dot_free best facts.0) in
    c.in-None-number_of.ensures.none best facts.0 parts.0

pub returns-in-None-number_within-clause-none : goal.returns-in-None-number_within-clause-none
returns-in-None-number_within-clause-none c = λ h printable e.
    let parted = cut_hint_is c.args.rest.now h printable e in
    let best = parted.0 in
    let part = parted.1.0 in
    let facts = parted.1.1 in
    let parts = cut_is 46 c.args.rest.now c.in-Some.best.now c.in-Some.part.now (decimal best) (decimal part) c.in-Some.ensures.0 facts.2 (dot_free best facts.0) in
    c.in-None-number_within.ensures.none part (omega (arith, facts.1)) parts.1
