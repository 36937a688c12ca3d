use Rattle.std.proofs.Common.{ℕ, List, refl, sym, subst}
use Rattle.cgm_transcripts.specs.Agreement.{NamesFile}
use Rattle.cgm_transcripts.proofs.EachItem.{written_here, written_later}
use Rattle.cgm_transcripts.proofs.comparison.is_written_to.Goals as goal

pub returns-then-names_written : goal.returns-then-names_written
returns-then-names_written c =
    let P : List ℕ → Type 0 = λ word. NamesFile word c.args.name.now in (
      (λ _. c.loop-word.invariant.1 (written_here c.loop-word.left.now c.in-Some.word.now c.in-Some.rest.now c.args.name.now
          c.in-Some.ensures.cases.0 (subst P c.as_str.ensures.value (c.if-names_written.ensures.0 refl)))),
      (λ _. refl),
    )

pub loop-word-preserved : goal.loop-word-preserved
loop-word-preserved c =
    let P : List ℕ → Type 0 = λ word. NamesFile word c.args.name.now in
    written_later c.args.words.now c.loop-word.left.now c.in-Some.word.now c.in-Some.rest.now c.args.name.now
    c.in-Some.ensures.cases.0 (λ named. let t = c.if-names_written.ensures.1 (subst P (sym c.as_str.ensures.value) named) in cc) c.loop-word.invariant
