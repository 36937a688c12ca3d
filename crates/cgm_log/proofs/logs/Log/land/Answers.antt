-- What lands is accepted, and a certificate can write it.
use Rattle.std.proofs.Common.{◌≡◌, ◌++◌, List, length, subst, sym}
use Rattle.std.specs.List.{All}
use Rattle.cgm_atom.specs.declared.entries.Entry.{Entry}
use Rattle.cgm_atom.specs.Acceptance.{IsAccepted}
use Rattle.cgm_atom.specs.LogState.{state_of}
use Rattle.cgm_atom.specs.Ranges.{IsPrintable}
use Rattle.cgm_log.proofs.Adding.{landing_is}
use Rattle.cgm_log.proofs.Landings.{landing_accepted}
use Rattle.cgm_log.proofs.Placed.{batch_placed, kept_has_no_hints}
use Rattle.cgm_log.proofs.Printing.{landing_printable}
use Rattle.cgm_log.proofs.logs.Log.land.Goals as goal

pub append-requires-clause-hints : goal.append-requires-clause-hints
append-requires-clause-hints c =
    let log = c.args.self.now.entries in
    rw c.into_inner.ensures (batch_placed (length log) (length log) c.args.batch.by c.args.batch.lemmas c.count-first.ensures.valid.count c.requires.proper.lemmas)

pub append-requires-clause-no_hints : goal.append-requires-clause-no_hints
append-requires-clause-no_hints c =
    let log = c.args.self.now.entries in
    kept_has_no_hints (length log) c.args.self.now.problem (state_of log) c.args.batch.by c.args.batch.candidate c.args.judged.kept.items c.requires.kept

pub append-requires-clause-accepted : goal.append-requires-clause-accepted
append-requires-clause-accepted c =
    let p = c.args.self.now.problem in
    let log = c.args.self.now.entries in
    let b = c.args.batch in
    subst (λ (xs : List Entry). IsAccepted p (log ++ xs)) (sym (landing_is p log b c.into_inner.result.items c.args.judged.kept.items c.into_inner.ensures c.requires.kept))
    (landing_accepted p log b c.count-first.ensures.valid.accepted c.requires.still_open c.requires.proper)

pub append-requires-clause-printable : goal.append-requires-clause-printable
append-requires-clause-printable c =
    let p = c.args.self.now.problem in
    let log = c.args.self.now.entries in
    let b = c.args.batch in
    subst (λ (xs : List Entry). All IsPrintable xs) (sym (landing_is p log b c.into_inner.result.items c.args.judged.kept.items c.into_inner.ensures c.requires.kept))
    (landing_printable p log (state_of log) b c.count-first.ensures.valid.problem c.count-first.ensures.valid.count c.requires.proper)
