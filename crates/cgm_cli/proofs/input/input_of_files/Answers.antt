use Rattle.std.proofs.Common.{ap, option_map}
use Rattle.cgm_model.specs.Model.{lists_of}
use Rattle.cgm_shelf.proofs.Told.{reads_on}
use Rattle.cgm_cli.proofs.Shelves.{input_of, no_input}
use Rattle.cgm_cli.proofs.input.input_of_files.Goals as goal

-- the model was read without a word to the sink, and so was the earlier text
pub returns-in-Ok-earlier_known-clause-outcome : goal.returns-in-Ok-earlier_known-clause-outcome
returns-in-Ok-earlier_known-clause-outcome g c =
    input_of c.args.name.now (option_map (λ file. file.now) c.args.earlier) (g.F.Shelf.state c.args.shelf.now) (g.F.Shelf.state c.reading_of_file.new.shelf)
    (lists_of c.in-Ok.reading.model) c.in-Ok.reading.rule_lines.items c.in-Ok-earlier_known.earlier.pairs
    c.in-Ok.ensures.only c.in-Ok.ensures.outcome c.in-Ok-earlier_known.ensures.outcome

pub returns-in-Ok-earlier_known-clause-only : goal.returns-in-Ok-earlier_known-clause-only
returns-in-Ok-earlier_known-clause-only g c =
    reads_on (g.F.Shelf.state c.args.shelf.now) (g.F.Shelf.state c.reading_of_file.new.shelf) (g.F.Shelf.state c.earlier_known.new.shelf)
    c.in-Ok.ensures.only c.in-Ok-earlier_known.ensures.only

-- the model was read without a word to the sink, and the earlier text wasn't
pub returns-in-Err-earlier_known-clause-outcome : goal.returns-in-Err-earlier_known-clause-outcome
returns-in-Err-earlier_known-clause-outcome g c =
    no_input c.args.name.now (option_map (λ file. file.now) c.args.earlier)
    (g.F.Shelf.state c.args.shelf.now) (g.F.Shelf.state c.reading_of_file.new.shelf) (g.F.Shelf.state c.earlier_known.new.shelf)
    (g.O.Sink.state c.args.out.now) (g.O.Sink.state c.reading_of_file.new.out) (g.O.Sink.state c.earlier_known.new.out)
    (lists_of c.in-Ok.reading.model) c.in-Ok.reading.rule_lines.items c.in-Err-earlier_known.status
    c.in-Ok.ensures.only (ap g.O.Sink.state c.in-Ok.ensures.untouched) c.in-Ok.ensures.outcome c.in-Err-earlier_known.ensures.outcome

pub returns-in-Err-earlier_known-clause-only : goal.returns-in-Err-earlier_known-clause-only
returns-in-Err-earlier_known-clause-only g c =
    reads_on (g.F.Shelf.state c.args.shelf.now) (g.F.Shelf.state c.reading_of_file.new.shelf) (g.F.Shelf.state c.earlier_known.new.shelf)
    c.in-Ok.ensures.only c.in-Err-earlier_known.ensures.only
