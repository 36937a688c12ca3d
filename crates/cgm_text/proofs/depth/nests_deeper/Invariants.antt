use Rattle.std.proofs.Common.{◌≡◌, ◌≤◌, ℕ, List, drop}
use Rattle.cgm_text.specs.Trees.{is_deeper, seen_all}
use Rattle.cgm_text.proofs.depth.nests_deeper.Given as goal

abbrev pub invariant-loop-token : goal.invariant-loop-token
invariant-loop-token l =
    (l.unclosed ≤ l.most) × ((line : List ℕ) → is_deeper l.most 0 (seen_all line l.tokens) ≡ is_deeper l.most l.unclosed (seen_all line (drop l.token-index l.tokens)))
