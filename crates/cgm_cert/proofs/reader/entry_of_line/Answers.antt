use Rattle.cgm_cert.proofs.EntryLines.{line_found, line_none}
use Rattle.cgm_cert.proofs.reader.entry_of_line.Goals as goal

pub returns-clause-found : goal.returns-clause-found
returns-clause-found c = line_found c.args.line.now c.entry_of.result c.entry_of.ensures

pub returns-clause-none : goal.returns-clause-none
returns-clause-none c = line_none c.args.line.now c.entry_of.result c.entry_of.ensures
