-- What a naming variable stands for, and the clauses and rows that define it. In comments a name stands for its literal, and `~` is negation.
use Rattle.std.specs.Prelude.{◌≡◌, ℕ, ◌+◌, ◌<◌, Bool, List, [], ◌∷◌, ◌++◌, map, Some, ℤ, pos, ◌+ℤ◌, ◌-ℤ◌, neg_ℤ, int_le}
use Rattle.std.specs.List.{All, list_all, list_any}
use Rattle.cgm_atom.specs.declared.constraints.Atom.{Atom}
use Rattle.cgm_atom.specs.declared.constraints.Clause.{Clause}
use Rattle.cgm_atom.specs.declared.constraints.Row.{Row}
use Rattle.cgm_atom.specs.declared.constraints.Var.{Var}
use Rattle.cgm_atom.specs.Atoms.{activity}
use Rattle.cgm_atom.specs.Limits.{AreTermsOf}
use Rattle.cgm_atom.specs.Literals.{clause, literal, negated, truth_at}
use Rattle.cgm_enc_formula.specs.declared.literals.Literal.{Literal}
use Rattle.cgm_enc_formula.specs.Literals.{atom_of, literal_true, opposite}
use Rattle.cgm_formula.specs.Truth.{same_truth}

pub data Definition : Type 0 where
  all_of : List Literal → Definition
  any_of : List Literal → Definition
  same_as : Literal → Literal → Definition
  at_most : List (ℤ × Var) → ℤ → Definition
  at_least : List (ℤ × Var) → ℤ → Definition

-- for each literal l: `a l`
abbrev pub pairs : Atom → List Literal → List Clause
pairs a ls = map (λ l. clause (a ∷ atom_of l ∷ [])) ls

-- of l1 .. ln: `a l1 .. ln`
abbrev pub one_of : Atom → List Literal → Clause
one_of a ls = clause (a ∷ map atom_of ls)

-- `and` of l1 .. ln: for each i `~p li`, then `p ~l1 .. ~ln`; `or`: for each i `p ~li`, then `~p l1 .. ln`;
-- `iff` of f, g: `~p ~f g`, `~p f ~g`, `p f g`, `p ~f ~g`; a comparison has none
abbrev pub definition_clauses : ℕ → Definition → List Clause
definition_clauses p (all_of ls) = pairs (negated p) ls ++ one_of (literal p) (map opposite ls) ∷ []
definition_clauses p (any_of ls) = pairs (literal p) (map opposite ls) ++ one_of (negated p) ls ∷ []
definition_clauses p (same_as f g) =
    clause (negated p ∷ atom_of (opposite f) ∷ atom_of g ∷ [])
    ∷ clause (negated p ∷ atom_of f ∷ atom_of (opposite g) ∷ [])
    ∷ clause (literal p ∷ atom_of f ∷ atom_of g ∷ [])
    ∷ clause (literal p ∷ atom_of (opposite f) ∷ atom_of (opposite g) ∷ [])
    ∷ []
definition_clauses p (at_most terms k) = []
definition_clauses p (at_least terms k) = []

-- each coefficient with its sign changed
abbrev pub negative : List (ℤ × Var) → List (ℤ × Var)
negative terms = map (λ t. (neg_ℤ t.0, t.1)) terms

abbrev pub row_where : Atom → List (ℤ × Var) → ℤ → Row
row_where guard terms least = record { guard = Some guard; terms = terms; least = least }

-- `<= L k`: where p, `-L >= -k`; where `~p`, `L >= k + 1`; `>= L k`: where p, `L >= k`; where `~p`, `-L >= 1 - k`
abbrev pub definition_rows : ℕ → Definition → List Row
definition_rows p (all_of ls) = []
definition_rows p (any_of ls) = []
definition_rows p (same_as f g) = []
definition_rows p (at_most terms k) =
    row_where (literal p) (negative terms) (neg_ℤ k) ∷ row_where (negated p) terms (k +ℤ pos 1) ∷ []
definition_rows p (at_least terms k) =
    row_where (literal p) terms k ∷ row_where (negated p) (negative terms) (pos 1 -ℤ k) ∷ []

-- what the values say of a definition
abbrev pub definition_true : List ℤ → Definition → Bool
definition_true values (all_of ls) = list_all (literal_true values) ls
definition_true values (any_of ls) = list_any (literal_true values) ls
definition_true values (same_as f g) = same_truth (literal_true values f) (literal_true values g)
definition_true values (at_most terms k) = int_le (activity values terms) k
definition_true values (at_least terms k) = int_le k (activity values terms)

-- its variables are some of so many
abbrev pub IsDefinitionOf : ℕ → Definition → Type 0
IsDefinitionOf count (all_of ls) = All (λ l. l.variable < count) ls
IsDefinitionOf count (any_of ls) = All (λ l. l.variable < count) ls
IsDefinitionOf count (same_as f g) = (f.variable < count) × (g.variable < count)
IsDefinitionOf count (at_most terms k) = AreTermsOf count terms
IsDefinitionOf count (at_least terms k) = AreTermsOf count terms

-- ---- definitions of variables that follow one another

-- each has variables before its own
abbrev pub AreDefinitionsFrom : ℕ → List Definition → Type 0
AreDefinitionsFrom n [] = Unit {0}
AreDefinitionsFrom n (d ∷ ds) = IsDefinitionOf n d × AreDefinitionsFrom (n + 1) ds

-- each variable is true exactly where its definition is
abbrev pub AreDefined : List ℤ → ℕ → List Definition → Type 0
AreDefined values n [] = Unit {0}
AreDefined values n (d ∷ ds) = (truth_at values n ≡ definition_true values d) × AreDefined values (n + 1) ds
