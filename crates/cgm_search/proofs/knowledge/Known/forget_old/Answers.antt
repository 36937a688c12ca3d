use Rattle.std.proofs.Common.{◌-◌, ◌<◌, length, refl, arith}
use Rattle.cgm_search.specs.Knowing.{seen}
use Rattle.cgm_search.proofs.Absorbing.{known_forgets}
use Rattle.cgm_search.proofs.knowledge.Known.forget_old.Goals as goal

pub returns-then-is_long_lemma-clause-known : goal.returns-then-is_long_lemma-clause-known
returns-then-is_long_lemma-clause-known c =
    let known = c.args.self.now in
    let short : c.len-count.result - 1000 - 1 < length (seen known) = omega (arith, c.len-count.ensures, c.if-count-le-KEPT_ENTRIES.false, known.entries.ok.0) in
    known_forgets known _ (c.len-count.result - 1000 - 1) c.index.result.now c.requires.known short c.index.ensures
    (c.is_long_lemma.ensures.0 c.if-is_long_lemma.true) refl refl refl c.forget.ensures.added c.forget.ensures.clauses c.forget.ensures.vars
