-- Laws over the definitions: what the clauses of a graph mean, which variables they have, and how many there are.
use Rattle.std.specs.Prelude.{◌↔◌, ℕ, ◌+◌, ◌*◌, ◌≤◌, IsTrue, List, ℤ, length}
use Rattle.std.specs.List.{All}
use Rattle.cgm_atom.specs.Atoms.{clause_true}
use Rattle.cgm_atom.specs.Limits.{IsClauseOf}
use Rattle.cgm_atom.specs.Literals.{truth_at}
use Rattle.cgm_base.specs.declared.limit.Which.TheVariants as limits
use Rattle.cgm_base.specs.Words.{limit_number}
use Rattle.cgm_formula.specs.declared.assignment.Assignment.{Assignment}
use Rattle.cgm_model.specs.declared.lists.Lists.{Lists}
use Rattle.cgm_model.specs.Realization.{IsRealization, KeepsRule}
use Rattle.cgm_base.specs.Place.{Each}
use Rattle.cgm_model.specs.TruthVariables.{StandFor, truth_variables}
use Rattle.cgm_model.specs.WellFormed.{IsWellFormedModel}
use Rattle.cgm_enc_graph.specs.GraphClauses.{graph_clauses}
use Rattle.cgm_enc_graph.specs.GraphRules.{KeepsGraph}

-- each clause is true of the values exactly where the assignment that they stand for keeps the rules of the graph
abbrev pub GraphClausesMeanRules : Type 0
GraphClausesMeanRules =
    (m : Lists) (values : List ℤ) (a : Assignment)
    → ∥ IsWellFormedModel m ∥₁
    → StandFor m (truth_at values) a
    → All (λ c. IsTrue (clause_true values c)) (graph_clauses m) ↔ KeepsGraph m a

-- a realization keeps the rules of the graph and the model's own rules
abbrev pub RealizationsKeepGraphs : Type 0
RealizationsKeepGraphs =
    (m : Lists) (a : Assignment) (sums : List ℤ)
    → IsRealization m a sums ↔ (KeepsGraph m a × Each (KeepsRule a sums) m.rules)

-- the clauses have variables of elements and refinements alone
abbrev pub GraphClausesAreKnown : Type 0
GraphClausesAreKnown =
    (m : Lists) → ∥ IsWellFormedModel m ∥₁ → All (IsClauseOf (truth_variables m)) (graph_clauses m)

-- a statement gives at most as many clauses as a refinement with the most sources
abbrev pub max_graph_clauses : ℕ
max_graph_clauses = (limit_number limits.Sources + 2) * limit_number limits.Statements

abbrev pub GraphClausesAreFew : Type 0
GraphClausesAreFew = (m : Lists) → ∥ IsWellFormedModel m ∥₁ → length (graph_clauses m) ≤ max_graph_clauses
