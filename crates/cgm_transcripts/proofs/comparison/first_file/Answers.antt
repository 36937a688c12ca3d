use Rattle.std.proofs.Common.{List, All, String, refl, sym, subst}
use Rattle.std.specs.declared.alloc.Global.{Global}
use Rattle.std.specs.String.{string_bytes}
use Rattle.cgm_shelf.specs.MemShelf.{mem_files}
use Rattle.cgm_transcripts.specs.declared.case.WantedFile.{WantedFile}
use Rattle.cgm_transcripts.specs.Agreement.{IsKeptFile, IsLeftFile}
use Rattle.cgm_transcripts.specs.Folder.{files_of}
use Rattle.cgm_transcripts.proofs.comparison.first_file.Goals as goal

pub returns-in-Some : goal.returns-in-Some
returns-in-Some c =
    let P : List WantedFile → Type 0 = λ files. All (IsLeftFile (mem_files c.args.ended.now.after.now)) files in
    ((λ none. absurd (cc)), (λ held. c.in-Some.ensures.1 (subst P (sym c.as_slice.ensures.value) held.0)))

pub returns-in-Some-changed_file : goal.returns-in-Some-changed_file
returns-in-Some-changed_file c =
    let P : List (String Global) → Type 0 = λ words. All (λ name. IsKeptFile words (files_of c.args.ended.now.before.now) (mem_files c.args.ended.now.after.now) (string_bytes name)) c.args.ended.now.names.now in
    ((λ none. absurd (cc)), (λ held. c.in-Some-changed_file.ensures.1 (subst P (sym c.as_slice-in-None.ensures.value) held.1)))

pub returns-in-None-changed_file : goal.returns-in-None-changed_file
returns-in-None-changed_file c =
    let P : List WantedFile → Type 0 = λ files. All (IsLeftFile (mem_files c.args.ended.now.after.now)) files in
    let Q : List (String Global) → Type 0 = λ words. All (λ name. IsKeptFile words (files_of c.args.ended.now.before.now) (mem_files c.args.ended.now.after.now) (string_bytes name)) c.args.ended.now.names.now in
    ((λ _. (subst P c.as_slice.ensures.value (c.in-None.ensures.0 refl), subst Q c.as_slice-in-None.ensures.value (c.in-None-changed_file.ensures.0 refl))), (λ _. refl))
