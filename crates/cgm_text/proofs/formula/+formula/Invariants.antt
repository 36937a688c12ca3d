use Rattle.std.proofs.Common.{◌≡◌, ◌+◌, ◌*◌, ◌≤◌, length, map}
use Rattle.cgm_text.specs.Trees.{formula_in, seen_all}
use Rattle.cgm_print.specs.Written.{spelled_each, formulas_of}
use Rattle.cgm_text.proofs.formula.+formula.Given as goal

abbrev pub decreases-bracketed : goal.decreases-bracketed
decreases-bracketed l = 2 * length l.tokens.now

abbrev pub decreases-formula : goal.decreases-formula
decreases-formula l = 2 * length l.tokens.now

abbrev pub decreases-joined : goal.decreases-joined
decreases-joined l = 2 * length l.tokens.now + 1

abbrev pub decreases-negation : goal.decreases-negation
decreases-negation l = 2 * length l.tokens.now + 1

abbrev pub decreases-paired : goal.decreases-paired
decreases-paired l = 2 * length l.tokens.now + 1

abbrev pub decreases-push_parts : goal.decreases-push_parts
decreases-push_parts l = 2 * length l.tokens.now + 1

abbrev pub invariant-push_parts-loop-after : goal.invariant-push_parts-loop-after
invariant-push_parts-loop-after l =
    (seen_all l.line l.tokens ≡ spelled_each (formulas_of (map (formula_in l.line) l.parts)) (seen_all l.line l.rest)) × (length l.rest ≤ length l.tokens)

abbrev pub decreases-push_parts-loop-after : goal.decreases-push_parts-loop-after
decreases-push_parts-loop-after l = length l.rest
