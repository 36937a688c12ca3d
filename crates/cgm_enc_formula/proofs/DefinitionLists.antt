-- Clauses and rows of definitions in two parts.
use Rattle.std.proofs.Common.{◌≡◌, ℕ, ◌+◌, List, [], ◌∷◌, ◌++◌, length, sym, ap, ◌∙◌, arith}
use Rattle.std.proofs.lemmas.List.{append_assoc}
use Rattle.cgm_atom.specs.declared.constraints.Clause.{Clause}
use Rattle.cgm_atom.specs.declared.constraints.Row.{Row}
use Rattle.cgm_enc_formula.specs.Definitions.{Definition, definition_clauses, definition_rows}
use Rattle.cgm_enc_formula.specs.Rules.{clauses_from, rows_from}

pub clauses_both : (n : ℕ) (xs ys : List Definition) → clauses_from n (xs ++ ys) ≡ clauses_from n xs ++ clauses_from (n + length xs) ys
clauses_both n [] ys =
    let here : n ≡ n + 0 = omega arith in
    ap (λ (k : ℕ). clauses_from k ys) here
clauses_both n (x ∷ xs) ys =
    let there : n + 1 + length xs ≡ n + length (x ∷ xs) = omega arith in
    ap (λ (clauses : List Clause). definition_clauses n x ++ clauses) (clauses_both (n + 1) xs ys ∙ ap (λ (k : ℕ). clauses_from (n + 1) xs ++ clauses_from k ys) there)
    ∙ sym (append_assoc (definition_clauses n x) (clauses_from (n + 1) xs) (clauses_from (n + length (x ∷ xs)) ys))

pub rows_both : (n : ℕ) (xs ys : List Definition) → rows_from n (xs ++ ys) ≡ rows_from n xs ++ rows_from (n + length xs) ys
rows_both n [] ys =
    let here : n ≡ n + 0 = omega arith in
    ap (λ (k : ℕ). rows_from k ys) here
rows_both n (x ∷ xs) ys =
    let there : n + 1 + length xs ≡ n + length (x ∷ xs) = omega arith in
    ap (λ (rows : List Row). definition_rows n x ++ rows) (rows_both (n + 1) xs ys ∙ ap (λ (k : ℕ). rows_from (n + 1) xs ++ rows_from k ys) there)
    ∙ sym (append_assoc (definition_rows n x) (rows_from (n + 1) xs) (rows_from (n + length (x ∷ xs)) ys))
