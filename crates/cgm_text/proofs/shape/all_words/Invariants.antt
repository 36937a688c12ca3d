use Rattle.std.proofs.Common.{◌≡◌, ℕ, List, ◌++◌, length, map}
use Rattle.cgm_lex.specs.Lexemes.{word}
use Rattle.cgm_text.specs.Trees.{seen_all, word_in}
use Rattle.cgm_text.proofs.shape.all_words.Given as goal

abbrev pub invariant-loop-words : goal.invariant-loop-words
invariant-loop-words l = (line : List ℕ) → seen_all line l.tokens ≡ map word (map (word_in line) l.words) ++ seen_all line l.rest

abbrev pub decreases-loop-words : goal.decreases-loop-words
decreases-loop-words l = length l.rest
