use Rattle.std.proofs.Common.{ℕ, List, String, refl, sym, subst}
use Rattle.std.specs.declared.alloc.Global.{Global}
use Rattle.std.specs.String.{string_bytes}
use Rattle.cgm_shelf.specs.MemShelf.{mem_files}
use Rattle.cgm_transcripts.specs.Agreement.{IsKeptFile}
use Rattle.cgm_transcripts.specs.Folder.{files_of}
use Rattle.cgm_transcripts.proofs.EachItem.{each_step, each_stop}
use Rattle.cgm_transcripts.proofs.comparison.changed_file.Goals as goal

pub loop-name-preserved : goal.loop-name-preserved
loop-name-preserved c =
    let P : List ℕ → Type 0 = λ name. IsKeptFile c.args.words.now (files_of c.args.before.now) (mem_files c.args.after.now) name in
    each_step (λ (name : String Global). P (string_bytes name)) c.args.names.now c.loop-name.left.now c.in-Some.rest.now c.in-Some.name.now
    c.in-Some.ensures.cases.0 (subst P c.as_str.ensures.value (c.if-is_kept.ensures.0 refl)) c.loop-name.invariant

pub returns-else-is_kept : goal.returns-else-is_kept
returns-else-is_kept c =
    let P : List ℕ → Type 0 = λ name. IsKeptFile c.args.words.now (files_of c.args.before.now) (mem_files c.args.after.now) name in (
      (λ none. absurd (cc)),
      (λ held. absurd (each_stop (λ (name : String Global). P (string_bytes name)) c.args.names.now c.loop-name.left.now c.in-Some.rest.now c.in-Some.name.now
          c.in-Some.ensures.cases.0 (λ kept. let t = c.if-is_kept.ensures.1 (subst P (sym c.as_str.ensures.value) kept) in cc) c.loop-name.invariant held)),
    )
