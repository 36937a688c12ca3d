use Rattle.std.proofs.Common.{refl, ap, ◌∙◌}
use Rattle.cgm_atom.specs.LogState.{state_of}
use Rattle.cgm_log.proofs.Printing.{bests_fit}
use Rattle.cgm_search.specs.Knowing.{seen}
use Rattle.cgm_search.proofs.Absorbing.{known_next}
use Rattle.cgm_search.proofs.knowledge.Known.take_in.Goals as goal

pub keep-requires-clause-bests_room : goal.keep-requires-clause-bests_room
keep-requires-clause-bests_room c =
    rw (c.of-log.ensures, c.as_slice.ensures.value) (bests_fit c.args.self.now.entries.items c.requires.known.count)

pub returns-clause-known : goal.returns-clause-known
returns-clause-known c =
    let known = c.args.self.now in
    known_next known _ c.args.entry c.requires.known c.requires.accepted c.requires.room refl
    c.in_ok-push.ensures.items
    (c.in_ok-add.ensures.own (seen known) c.requires.known.own)
    (rw (c.of-log.ensures ∙ ap state_of c.as_slice.ensures.value) at c.in_ok-keep.ensures)
