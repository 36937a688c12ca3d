use Rattle.std.proofs.Common.{map, arith}
use Rattle.cgm_text.specs.Trees.{seen_all, term_in}
use Rattle.cgm_text.proofs.Terms.{no_total_after, total_more}
use Rattle.cgm_text.proofs.linear.total.Goals as goal

pub returns-in-None-term-clause-form : goal.returns-in-None-term-clause-form
returns-in-None-term-clause-form c =
    let line = c.args.line.now in
    no_total_after (term_in line c.in-Some.first) (map (term_in line) c.loop-after.others) (seen_all line c.args.tokens.now) (seen_all line c.loop-after.rest.now) c.loop-after.invariant.0 c.in-None-term.ensures.none (c.in-None-take.ensures line)

pub loop-after-preserved : goal.loop-after-preserved
loop-after-preserved c =
    let line = c.args.line.now in
    let shorter = c.in-Some-term.ensures.shorter in
    (total_more line (term_in line c.in-Some.first) c.loop-after.others c.push.new.terms c.in-Some-term.next (seen_all line c.args.tokens.now) (seen_all line c.loop-after.rest.now) (seen_all line c.in-Some-term.after.now) c.in_ok-push-in-Some-term.ensures.pushed c.loop-after.invariant.0 c.in-Some-term.ensures.found, omega arith)
