use Rattle.std.proofs.Common.{◌≡◌, ◌<◌, length, map}
use Rattle.cgm_text.specs.Trees.{seen_all, term_in}
use Rattle.cgm_print.specs.Written.{spelled_term, spelled_terms}
use Rattle.cgm_text.proofs.linear.total.Given as goal

abbrev pub invariant-loop-after : goal.invariant-loop-after
invariant-loop-after l =
    (seen_all l.line l.tokens ≡ spelled_term (term_in l.line l.first) (spelled_terms (map (term_in l.line) l.others) (seen_all l.line l.rest))) × (length l.rest < length l.tokens)

abbrev pub decreases-loop-after : goal.decreases-loop-after
decreases-loop-after l = length l.rest
