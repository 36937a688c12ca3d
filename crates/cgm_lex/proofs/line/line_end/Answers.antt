use Rattle.std.proofs.Common.{◌==◌, sym, ◌∙◌}
use Rattle.std.proofs.lemmas.List.{take_rest}
use Rattle.cgm_lex.proofs.Contents.{line_cut}
use Rattle.cgm_lex.proofs.Splits.{slice_split-position_none}
use Rattle.cgm_lex.proofs.line.line_end.Goals as goal

pub returns-in-None-clause-last : goal.returns-in-None-clause-last
returns-in-None-clause-last c = λ _. slice_split-position_none (λ byte. byte == 10) _ (sym (rw take_rest at c.feed_in.ensures) ∙ c.in-None.is)

pub returns-in-Some-clause-more : goal.returns-in-Some-clause-more
returns-in-Some-clause-more c = λ _. line_cut c.args.text.now c.args.from c.in-Some.count (sym (rw take_rest at c.feed_in.ensures) ∙ c.in-Some.is)
