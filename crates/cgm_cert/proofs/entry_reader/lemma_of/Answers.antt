use Rattle.cgm_cert.specs.Spelling.{further_words}
use Rattle.cgm_cert.proofs.EntryWords.{no_bound}
use Rattle.cgm_cert.proofs.entry_reader.lemma_of.Goals as goal

pub returns-in-None-bound_of : goal.returns-in-None-bound_of
returns-in-None-bound_of c =
    no_bound c.in-Some.by (further_words c.args.rest.now) (further_words c.in-Some.after.now) c.in-Some.ensures.found.0 c.in-None-bound_of.ensures.none
