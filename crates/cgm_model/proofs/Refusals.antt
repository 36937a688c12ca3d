-- What a test's answer says of a statement: no test answers want of memory, and where none fails all pass.
use Rattle.std.proofs.Common.{◌≡◌, ◌≢◌, ◌↔◌, Bool, true, false, cond, not, nat_lt, IsTrue, List, [], ◌∷◌, length, Option, Some, None, refl, sym, subst}
use Rattle.std.proofs.lemmas.Option.{none-some, same_Some}
use Rattle.std.specs.List.{AllByRecursion, list_all}
use Rattle.cgm_base.specs.declared.limit.Which.TheVariants as limits
use Rattle.cgm_base.specs.Words.{limit_number}
use Rattle.cgm_model.specs.declared.lists.Lists.{Lists}
use Rattle.cgm_model.specs.declared.lists.Statement.{Statement}
use Rattle.cgm_model.specs.declared.stop.AddStop.{AddStop}
use Rattle.cgm_model.specs.declared.stop.AddStop.TheVariants as stops
use Rattle.cgm_model.specs.Graph.{IsAcyclic}
use Rattle.cgm_model.specs.Formulas.{node_total}
use Rattle.cgm_model.specs.Lists.{added, statement_count}
use Rattle.cgm_model.specs.Name.{is_name}
use Rattle.cgm_model.specs.Statement.{IsAllowed, IsNotAdded, declared_names, is_short, is_new, is_within, has_small_coefficients, has_small_bounds, has_ordered_bounds, has_distinct_terms_each, has_new_interest, source_list, target_kind, is_task, is_assumption, is_distinct, first_failing, tests, refusal}

-- the answer isn't want of memory
abbrev is_refusal : AddStop → Bool
is_refusal (stops.Refused fault) = true
is_refusal (stops.Limit which) = true
is_refusal stops.Memory = false

memory_apart : IsTrue false → ⊥
memory_apart e = cc

never_step : (b : Bool) (stop : AddStop) (later : Option AddStop) → IsTrue (is_refusal stop) → later ≢ Some stops.Memory → cond b later (Some stop) ≢ Some stops.Memory
never_step true stop later h n = n
never_step false stop later h n = λ e. let P : AddStop → Type 0 = λ x. IsTrue (is_refusal x) in memory_apart (subst P (same_Some stop stops.Memory e) h)

never_first : (answers : List (Bool × AddStop)) → AllByRecursion (λ t. IsTrue (is_refusal t.1)) answers → first_failing answers ≢ Some stops.Memory
never_first [] h = λ e. none-some stops.Memory e
never_first (t ∷ rest) h = never_step t.0 t.1 (first_failing rest) h.0 (never_first rest h.1)

never_memory : (m : Lists) (s : Statement) (acyclic : Bool) → refusal m s acyclic ≢ Some stops.Memory
unfolding refusal
never_memory m s acyclic =
    let each : AllByRecursion (λ t. IsTrue (is_refusal t.1)) (tests m s acyclic) = (refl, (refl, (refl, (refl, (refl, (refl, (refl, (refl, (refl, (refl, (refl, (refl, (refl, (refl, (refl, (refl, (refl, (refl, tt)))))))))))))))))) in
    never_first (tests m s acyclic) each

pub IsNotAdded-refused : (m : Lists) (s : Statement) (acyclic : Bool) (stop : AddStop) → IsTrue acyclic ↔ IsAcyclic (added m s).refinements → refusal m s acyclic ≡ Some stop → IsNotAdded m s stop
IsNotAdded-refused m s acyclic (stops.Refused fault) decides e = record { is_acyclic = acyclic; decides = decides; fails = e }
IsNotAdded-refused m s acyclic (stops.Limit which) decides e = record { is_acyclic = acyclic; decides = decides; fails = e }
IsNotAdded-refused m s acyclic stops.Memory decides e = absurd (never_memory m s acyclic e)

-- where no test fails, each one passes
passes_step : (b : Bool) (stop : AddStop) (later : Option AddStop) → cond b later (Some stop) ≡ None → (b ≡ true) × (later ≡ None)
passes_step true stop later e = (refl, e)
passes_step false stop later e = absurd (none-some stop (sym e))

passes_each : (answers : List (Bool × AddStop)) → first_failing answers ≡ None → AllByRecursion (λ t. t.0 ≡ true) answers
passes_each [] e = tt
passes_each (t ∷ rest) e =
    let here = passes_step t.0 t.1 (first_failing rest) e in
    (here.0, passes_each rest here.1)

all_pass : (m : Lists) (s : Statement) (acyclic : Bool) → refusal m s acyclic ≡ None → AllByRecursion (λ t. t.0 ≡ true) (tests m s acyclic)
unfolding refusal
all_pass m s acyclic e = passes_each (tests m s acyclic) e

-- the tests one by one
pub record Passes (m : Lists) (s : Statement) (is_acyclic : Bool) : Type 0 where
  pub short : list_all is_short (declared_names s) ≡ true
  pub spelled : list_all is_name (declared_names s) ≡ true
  pub new : list_all (is_new m) (declared_names s) ≡ true
  pub coefficients : has_small_coefficients s ≡ true
  pub bounds : has_small_bounds s ≡ true
  pub ordered : has_ordered_bounds s ≡ true
  pub sources_distinct : is_distinct (source_list s) ≡ true
  pub terms_distinct : has_distinct_terms_each s ≡ true
  pub interest : has_new_interest m s ≡ true
  pub no_task : not (is_task (target_kind m s)) ≡ true
  pub no_assumption : not (is_assumption (target_kind m s)) ≡ true
  pub acyclic : is_acyclic ≡ true
  pub statements : nat_lt (statement_count m) (limit_number limits.Statements) ≡ true
  pub elements : is_within (length (added m s).elements) limits.Elements ≡ true
  pub refinements : is_within (length (added m s).refinements) limits.Refinements ≡ true
  pub sources : is_within (length (source_list s)) limits.Sources ≡ true
  pub nodes : is_within (node_total (added m s).rules) limits.FormulaNodes ≡ true
  pub objectives : is_within (length (added m s).objectives) limits.Objectives ≡ true

pub Passes-none : (m : Lists) (s : Statement) (acyclic : Bool) → refusal m s acyclic ≡ None → Passes m s acyclic
Passes-none m s acyclic e =
    let h0 = all_pass m s acyclic e in
    let h1 = h0.1 in
    let h2 = h1.1 in
    let h3 = h2.1 in
    let h4 = h3.1 in
    let h5 = h4.1 in
    let h6 = h5.1 in
    let h7 = h6.1 in
    let h8 = h7.1 in
    let h9 = h8.1 in
    let h10 = h9.1 in
    let h11 = h10.1 in
    let h12 = h11.1 in
    let h13 = h12.1 in
    let h14 = h13.1 in
    let h15 = h14.1 in
    let h16 = h15.1 in
    let h17 = h16.1 in
    record {
      short = h0.0;
      spelled = h1.0;
      new = h2.0;
      coefficients = h3.0;
      bounds = h4.0;
      ordered = h5.0;
      sources_distinct = h6.0;
      terms_distinct = h7.0;
      interest = h8.0;
      no_task = h9.0;
      no_assumption = h10.0;
      acyclic = h11.0;
      statements = h12.0;
      elements = h13.0;
      refinements = h14.0;
      sources = h15.0;
      nodes = h16.0;
      objectives = h17.0;
    }

pub IsAllowed-passed : (m : Lists) (s : Statement) (acyclic : Bool) → IsTrue acyclic ↔ IsAcyclic (added m s).refinements → refusal m s acyclic ≡ None → IsAllowed m s
IsAllowed-passed m s acyclic decides e =
    let is : acyclic ≡ true = (Passes-none m s acyclic e).acyclic in
    record { acyclic = decides.0 is; passes = subst (λ b. refusal m s b ≡ None) is e }

none_step : (b : Bool) (stop : AddStop) (later : Option AddStop) → b ≡ true → later ≡ None → cond b later (Some stop) ≡ None
none_step true stop later e h = h
none_step false stop later e h = absurd cc

none_fails : (answers : List (Bool × AddStop)) → AllByRecursion (λ t. t.0 ≡ true) answers → first_failing answers ≡ None
none_fails [] h = refl
none_fails (t ∷ rest) h = none_step t.0 t.1 (first_failing rest) h.0 (none_fails rest h.1)

pub IsAllowed-passes : (m : Lists) (s : Statement) → IsAcyclic (added m s).refinements → Passes m s true → IsAllowed m s
unfolding refusal
IsAllowed-passes m s acyclic p =
    let each : AllByRecursion (λ t. t.0 ≡ true) (tests m s true) =
    (p.short, (p.spelled, (p.new, (p.coefficients, (p.bounds, (p.ordered, (p.sources_distinct, (p.terms_distinct, (p.interest, (p.no_task, (p.no_assumption, (p.acyclic, (p.statements, (p.elements, (p.refinements, (p.sources, (p.nodes, (p.objectives, tt)))))))))))))))))) in
    record { acyclic = acyclic; passes = none_fails (tests m s true) each }
