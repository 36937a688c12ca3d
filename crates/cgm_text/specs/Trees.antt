-- What a parsed formula stands for in its line.
use Rattle.std.specs.Prelude.{ℕ, ◌+◌, ◌-◌, Bool, true, false, nat_lt, if◌then◌else◌, List, [], ◌∷◌, map}
use Rattle.std.specs.List.{slice_range}
use Rattle.cgm_lex.specs.Lexemes.{Lexeme, opening, closing, colon, number, word, token_seen}
use Rattle.cgm_lex.specs.declared.token.Token.{Token}
use Rattle.cgm_text.specs.declared.written.FormStop.{FormStop}
use Rattle.cgm_text.specs.declared.written.FormStop.TheVariants as form_stops
use Rattle.cgm_text.specs.declared.written.Word.{Word}
use Rattle.cgm_text.specs.declared.written.Term.{Term}
use Rattle.cgm_text.specs.declared.written.Term.TheVariants as terms
use Rattle.cgm_text.specs.declared.written.Linear.{Linear}
use Rattle.cgm_text.specs.declared.written.Linear.TheVariants as linears
use Rattle.cgm_text.specs.declared.written.Tree.{Tree}
use Rattle.cgm_text.specs.declared.written.Tree.TheOpen.{Tree-F}
use Rattle.cgm_text.specs.declared.written.Tree.TheFolds.{fold-Tree}
use Rattle.cgm_print.specs.Written.{WrittenTerm, plain, scaled, WrittenLinear, single, total, WrittenFormula, name, negation, joined, paired, compared, formulas_of}

-- what the tokens of a line say
abbrev pub seen_all : List ℕ → List Token → List Lexeme
seen_all line tokens = map (token_seen line) tokens

abbrev pub word_in : List ℕ → Word → List ℕ
word_in line w = slice_range line w.from w.to

abbrev pub term_in : List ℕ → Term → WrittenTerm
term_in line (terms.Plain x) = plain (word_in line x)
term_in line (terms.Scaled k x) = scaled k (word_in line x)

abbrev pub linear_in : List ℕ → Linear → WrittenLinear
linear_in line (linears.Single term) = single (term_in line term)
linear_in line (linears.Total term others) = total (term_in line term) (map (term_in line) others)

abbrev pub tree_step : List ℕ → Tree-F WrittenFormula → WrittenFormula
tree_step line (Tree-F.Name x) = name (word_in line x)
tree_step line (Tree-F.Not part) = negation part
tree_step line (Tree-F.Join joint part parts) = joined joint part (formulas_of parts)
tree_step line (Tree-F.Pair pairing one other) = paired pairing one other
tree_step line (Tree-F.Compare comparison linear k) = compared comparison (linear_in line linear) k

abbrev pub formula_in : List ℕ → Tree → WrittenFormula
formula_in line = fold-Tree WrittenFormula (tree_step line)

-- what a stop says where the form is wrong only if this holds
abbrev pub IsFor : Type 0 → FormStop → Type 0
IsFor P form_stops.Form = P
IsFor P form_stops.Memory = Unit {0}

-- how many brackets are open after this token; a closing bracket with none open closes nothing
abbrev pub count_after : Lexeme → ℕ → ℕ
count_after opening count = count + 1
count_after closing count = count - 1
count_after colon count = count
count_after (number k) count = count
count_after (word w) count = count

-- whether more brackets than `most` are open at once, where so many are open before
abbrev pub is_deeper : ℕ → ℕ → List Lexeme → Bool
is_deeper most count [] = false
is_deeper most count (lexeme ∷ more) =
    if nat_lt most (count_after lexeme count) then true else is_deeper most (count_after lexeme count) more
