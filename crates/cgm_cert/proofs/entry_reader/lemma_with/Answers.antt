use Rattle.cgm_cert.specs.Spelling.{further_words}
use Rattle.cgm_cert.proofs.EntryWords.{no_hints}
use Rattle.cgm_cert.proofs.entry_reader.lemma_with.Goals as goal

pub returns-in-None-2 : goal.returns-in-None-2
returns-in-None-2 c =
    let found = rw c.in-Some.is at c.in_ok-atoms_of.ensures.found in
    let none = rw c.in-None-2.is at c.in_ok-hints_of-in-Some.ensures.none in
    no_hints c.args.by c.args.bound c.in-Some.atoms.items (further_words c.args.rest.now) (further_words c.in-Some.after.now) found.0 found.1 none
