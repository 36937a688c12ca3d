-- Which statements may come after those that the lists have, and why one is refused.
use Rattle.std.specs.Prelude.{◌≡◌, ℕ, ◌<◌, ◌↔◌, Bool, true, false, cond, ◌&&◌, not, ◌==◌, nat_lt, nat_le, IsTrue, List, [], ◌∷◌, length, All, Option, None, Some, slice_get, map, unsigned_abs, int_le}
use Rattle.std.specs.List.{list_all, list_any}
use Rattle.std.specs.Str.{bytes_eq}
use Rattle.cgm_base.specs.declared.limit.Which.{Which}
use Rattle.cgm_base.specs.declared.limit.Which.TheVariants as limits
use Rattle.cgm_base.specs.Words.{limit_number}
use Rattle.cgm_model.specs.declared.lists.Edge.{Edge}
use Rattle.cgm_model.specs.declared.lists.ElementKind.{ElementKind}
use Rattle.cgm_model.specs.declared.lists.ElementKind.TheVariants as kinds
use Rattle.cgm_model.specs.declared.lists.Lists.{Lists}
use Rattle.cgm_model.specs.declared.lists.Preference.{Preference}
use Rattle.cgm_model.specs.declared.lists.Quantity.{Quantity}
use Rattle.cgm_model.specs.declared.lists.Quantity.TheVariants as quantities
use Rattle.cgm_model.specs.declared.lists.Statement.{Statement}
use Rattle.cgm_model.specs.declared.lists.Statement.TheVariants as statements
use Rattle.cgm_model.specs.declared.stop.AddStop.{AddStop}
use Rattle.cgm_model.specs.declared.stop.AddStop.TheVariants as stops
use Rattle.cgm_model.specs.declared.stop.Fault.TheVariants as faults
use Rattle.cgm_model.specs.Distinct.{are_distinct}
use Rattle.cgm_model.specs.Formulas.{IsKnownTruth, is_small, IsProperRule, formula_of, node_total, every_linear, has_small_terms, has_distinct_terms}
use Rattle.cgm_model.specs.Graph.{IsAcyclic}
use Rattle.cgm_model.specs.Lists.{added, statement_count}
use Rattle.cgm_model.specs.Name.{is_name}
use Rattle.cgm_model.specs.Named.{names}

-- both ends are among so many
abbrev pub IsEdgeOf : ℕ → Edge → Type 0
IsEdgeOf count e = (e.from < count) × (e.to < count)

-- both sides are there
abbrev pub IsProperPreference : Lists → Preference → Type 0
IsProperPreference m p = IsKnownTruth m p.better × IsKnownTruth m p.worse

-- the variable or sum of an objective is there
abbrev pub IsKnownQuantity : Lists → Quantity → Type 0
IsKnownQuantity m (quantities.Var k) = k < length m.vars
IsKnownQuantity m (quantities.Sum k) = k < length m.sums
IsKnownQuantity m built_in = Unit {0}

-- every number names something that is there, nothing is empty, and a goal alone has `must`
abbrev pub IsProperStatement : Lists → Statement → Type 0
IsProperStatement m (statements.Element e) = IsTrue e.must → e.kind ≡ kinds.Goal
IsProperStatement m (statements.Refine r) =
    (r.target < length m.elements) × (0 < length r.sources) × All (λ source. source < length m.elements) r.sources
IsProperStatement m (statements.Variable v) = Unit {0}
IsProperStatement m (statements.Sum x) = Unit {0}
IsProperStatement m (statements.Contrib e) = IsEdgeOf (length m.elements) e
IsProperStatement m (statements.Conflict e) = IsEdgeOf (length m.elements) e
IsProperStatement m (statements.Bind e) = IsEdgeOf (length m.refinements) e
IsProperStatement m (statements.Assert a) = a.element < length m.elements
IsProperStatement m (statements.Value v) = (v.sum < length m.sums) × IsKnownTruth m v.of
IsProperStatement m (statements.Reward w) = w.element < length m.elements
IsProperStatement m (statements.Penalty w) = w.element < length m.elements
IsProperStatement m (statements.Prefer p) = IsProperPreference m p
IsProperStatement m (statements.Rule r) = IsProperRule m r
IsProperStatement m (statements.Interest k) = k < length m.elements
IsProperStatement m (statements.Objective o) = IsKnownQuantity m o.of

-- the names that a statement declares: one or none
abbrev pub declared_names : Statement → List (List ℕ)
declared_names (statements.Element e) = e.name ∷ []
declared_names (statements.Refine r) = r.name ∷ []
declared_names (statements.Variable v) = v.name ∷ []
declared_names (statements.Sum x) = x.name ∷ []
declared_names s = []

abbrev pub is_short : List ℕ → Bool
is_short n = nat_le (length n) (limit_number limits.NameBytes)

abbrev pub is_new : Lists → List ℕ → Bool
is_new m n = not (list_any (bytes_eq n) (names m))

abbrev pub has_small_coefficients : Statement → Bool
has_small_coefficients (statements.Value v) = is_small v.k
has_small_coefficients (statements.Reward w) = is_small w.k
has_small_coefficients (statements.Penalty w) = is_small w.k
has_small_coefficients (statements.Rule r) = every_linear has_small_terms (formula_of r)
has_small_coefficients s = true

abbrev pub has_small_bounds : Statement → Bool
has_small_bounds (statements.Variable v) =
    nat_le (unsigned_abs v.lo) (limit_number limits.VariableBound) && nat_le (unsigned_abs v.hi) (limit_number limits.VariableBound)
has_small_bounds s = true

abbrev pub has_ordered_bounds : Statement → Bool
has_ordered_bounds (statements.Variable v) = int_le v.lo v.hi
has_ordered_bounds s = true

-- no number stands twice
abbrev pub is_distinct : List ℕ → Bool
is_distinct xs = are_distinct (λ y x. y == x) xs

abbrev pub source_list : Statement → List ℕ
source_list (statements.Refine r) = r.sources
source_list s = []

abbrev pub has_distinct_terms_each : Statement → Bool
has_distinct_terms_each (statements.Rule r) = every_linear has_distinct_terms (formula_of r)
has_distinct_terms_each s = true

-- the element has no interest line yet
abbrev pub has_new_interest : Lists → Statement → Bool
has_new_interest m (statements.Interest k) = not (list_any (λ j. j == k) m.interests)
has_new_interest m s = true

abbrev pub is_task : Option ElementKind → Bool
is_task (Some kinds.Task) = true
is_task (Some kinds.Goal) = false
is_task (Some kinds.Assume) = false
is_task None = false

abbrev pub is_assumption : Option ElementKind → Bool
is_assumption (Some kinds.Assume) = true
is_assumption (Some kinds.Goal) = false
is_assumption (Some kinds.Task) = false
is_assumption None = false

-- the kind of the element that a statement refines
abbrev pub target_kind : Lists → Statement → Option ElementKind
target_kind m (statements.Refine r) = slice_get (map (λ e. e.kind) m.elements) r.target
target_kind m s = None

-- the count is within the quantity's limit
abbrev pub is_within : ℕ → Which → Bool
is_within count which = nat_le count (limit_number which)

-- the answer of the first test that fails
abbrev pub first_failing : List (Bool × AddStop) → Option AddStop
first_failing [] = None
first_failing (t ∷ rest) = cond t.0 (first_failing rest) (Some t.1)

-- the tests of a statement in order, each with the answer where it fails;
-- `acyclic` tells whether the graph has no cycle with the statement
abbrev pub tests : Lists → Statement → Bool → List (Bool × AddStop)
tests m s acyclic =
    (list_all is_short (declared_names s), stops.Limit limits.NameBytes)
    ∷ (list_all is_name (declared_names s), stops.Refused faults.Name)
    ∷ (list_all (is_new m) (declared_names s), stops.Refused faults.DoubleName)
    ∷ (has_small_coefficients s, stops.Limit limits.Coefficient)
    ∷ (has_small_bounds s, stops.Limit limits.VariableBound)
    ∷ (has_ordered_bounds s, stops.Refused faults.CrossedBounds)
    ∷ (is_distinct (source_list s), stops.Refused faults.DoubleSource)
    ∷ (has_distinct_terms_each s, stops.Refused faults.DoubleTerm)
    ∷ (has_new_interest m s, stops.Refused faults.DoubleInterest)
    ∷ (not (is_task (target_kind m s)), stops.Refused faults.TaskRefined)
    ∷ (not (is_assumption (target_kind m s)), stops.Refused faults.AssumptionRefined)
    ∷ (acyclic, stops.Refused faults.Cycle)
    ∷ (nat_lt (statement_count m) (limit_number limits.Statements), stops.Limit limits.Statements)
    ∷ (is_within (length (added m s).elements) limits.Elements, stops.Limit limits.Elements)
    ∷ (is_within (length (added m s).refinements) limits.Refinements, stops.Limit limits.Refinements)
    ∷ (is_within (length (source_list s)) limits.Sources, stops.Limit limits.Sources)
    ∷ (is_within (node_total (added m s).rules) limits.FormulaNodes, stops.Limit limits.FormulaNodes)
    ∷ (is_within (length (added m s).objectives) limits.Objectives, stops.Limit limits.Objectives)
    ∷ []

-- the answer that a statement gets, if it is refused
unfoldable pub refusal : Lists → Statement → Bool → Option AddStop
refusal m s acyclic = first_failing (tests m s acyclic)

-- the statement passes each test
pub record IsAllowed (m : Lists) (s : Statement) : Type 0 where
  pub acyclic : IsAcyclic (added m s).refinements
  pub passes : refusal m s true ≡ None

-- this is the answer of the first test that the statement fails
pub record IsRefused (m : Lists) (s : Statement) (stop : AddStop) : Type 0 where
  pub is_acyclic : Bool
  pub decides : IsTrue is_acyclic ↔ IsAcyclic (added m s).refinements
  pub fails : refusal m s is_acyclic ≡ Some stop

-- why a statement isn't added: a test that it fails, or want of memory for one that passes them all
abbrev pub IsNotAdded : Lists → Statement → AddStop → Type 0
IsNotAdded m s (stops.Refused fault) = IsRefused m s (stops.Refused fault)
IsNotAdded m s (stops.Limit which) = IsRefused m s (stops.Limit which)
IsNotAdded m s stops.Memory = IsAllowed m s
