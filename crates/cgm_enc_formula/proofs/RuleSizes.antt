-- How many naming variables, clauses and rows a rule gives, by the nodes of its formula.
use Rattle.std.proofs.Common.{◌≡◌, ℕ, ◌+◌, ◌*◌, ◌≤◌, List, [], ◌∷◌, ◌++◌, length, map, refl, sym, ap, ◌∙◌, subst, arith}
use Rattle.std.specs.Prelude.{ℤ, sum}
use Rattle.std.specs.List.{AllByRecursion}
use Rattle.std.proofs.lemmas.List.{length-append, length-map}
use Rattle.std.proofs.lemmas.List.Sums.{sum_by-cons}
use Rattle.cgm_atom.specs.declared.constraints.Clause.{Clause}
use Rattle.cgm_formula.specs.declared.formula.Formula.{Formula}
use Rattle.cgm_formula.specs.declared.formula.Formula.TheOpen.{Formula-F}
use Rattle.cgm_formula.specs.declared.formula.Formula.TheVariants.{Name, Not, And, Or, Implies, Iff, AtMost, AtLeast, Equal}
use Rattle.cgm_formula.specs.declared.formula.Linear.{Linear}
use Rattle.cgm_formula.specs.declared.formula.Truth.{Truth}
use Rattle.cgm_formula.specs.Nodes.{node_count, node_step}
use Rattle.cgm_formula.proofs.Folds.{fold-AtLeast, fold-AtMost, fold-And, fold-Equal, fold-Iff, fold-Implies, fold-Name, fold-Not, fold-Or}
use Rattle.cgm_formula.proofs.Induction.{by_cases}
use Rattle.cgm_model.specs.declared.lists.Lists.{Lists}
use Rattle.cgm_model.specs.declared.lists.Rule.{Rule}
use Rattle.cgm_model.specs.Formulas.{formula_of, node_total}
use Rattle.cgm_model.specs.WellFormed.{IsWellFormedModel}
use Rattle.cgm_enc_formula.specs.declared.literals.Literal.{Literal}
use Rattle.cgm_enc_formula.specs.Building.{rules_part}
use Rattle.cgm_enc_formula.specs.Definitions.{Definition, all_of, any_of, definition_clauses, definition_rows, same_as}
use Rattle.cgm_enc_formula.specs.Laws.{IsSmallPart}
use Rattle.cgm_enc_formula.specs.Literals.{opposite, positive}
use Rattle.cgm_enc_formula.specs.Naming.{Named, NamedParts, Naming, naming, naming_step, parts_named}
use Rattle.cgm_enc_formula.specs.Rules.{clauses_from, rows_from, rule_clause, rule_clauses, rule_definitions, rule_rows}
use Rattle.cgm_enc_formula.proofs.DefinitionLists.{clauses_both, rows_both}
use Rattle.cgm_enc_formula.proofs.WellFormedRules.{few_nodes}

-- ---- definitions one after another

clauses-length : (n : ℕ) (xs ys : List Definition) → length (clauses_from n (xs ++ ys)) ≡ length (clauses_from n xs) + length (clauses_from (n + length xs) ys)
clauses-length n xs ys = ap (λ (cs : List Clause). length cs) (clauses_both n xs ys) ∙ length-append (clauses_from n xs) (clauses_from (n + length xs) ys)

rows-length : (n : ℕ) (xs ys : List Definition) → length (rows_from n (xs ++ ys)) ≡ length (rows_from n xs) + length (rows_from (n + length xs) ys)
rows-length n xs ys = ap length (rows_both n xs ys) ∙ length-append (rows_from n xs) (rows_from (n + length xs) ys)

one-clauses : (n : ℕ) (d : Definition) → length (clauses_from n (d ∷ [])) ≡ length (definition_clauses n d)
one-clauses n d = let long = length-append (definition_clauses n d) [] in omega arith

one-rows : (n : ℕ) (d : Definition) → length (rows_from n (d ∷ [])) ≡ length (definition_rows n d)
one-rows n d = let long = length-append (definition_rows n d) [] in omega arith

all_of-clauses : (n : ℕ) (ls : List Literal) → length (definition_clauses n (all_of ls)) ≡ length ls + 1
all_of-clauses n ls = simp (length-append, length-map) (omega arith)

any_of-clauses : (n : ℕ) (ls : List Literal) → length (definition_clauses n (any_of ls)) ≡ length ls + 1
any_of-clauses n ls = simp (length-append, length-map) (omega arith)

-- ---- formulas

pub record IsSmallNaming (nodes n : ℕ) (f : Named) : Type 0 where
  pub names : length f.definitions ≤ 3 * nodes
  pub clauses : length (clauses_from n f.definitions) + 1 ≤ 4 * nodes
  pub rows : length (rows_from n f.definitions) ≤ 4 * nodes

-- the same of parts, which have a literal each
record AreSmallParts (parts nodes n : ℕ) (fs : NamedParts) : Type 0 where
  literals : length fs.literals ≡ parts
  names : length fs.definitions ≤ 3 * nodes
  clauses : length (clauses_from n fs.definitions) + parts ≤ 4 * nodes
  rows : length (rows_from n fs.definitions) ≤ 4 * nodes

-- one variable behind the parts
whole_small : (parts nodes n : ℕ) (fs : NamedParts) (d : Definition) (l : Literal) → AreSmallParts parts nodes n fs → length (definition_clauses (n + length fs.definitions) d) ≤ parts + 3 → length (definition_rows (n + length fs.definitions) d) ≤ 4 → IsSmallNaming (1 + nodes) n (record { definitions = fs.definitions ++ d ∷ []; literal = l })
whole_small parts nodes n fs d l small few_clauses few_rows =
    let names = small.names in
    let clauses = small.clauses in
    let rows = small.rows in
    let long = length-append fs.definitions (d ∷ []) in
    let long_clauses = clauses-length n fs.definitions (d ∷ []) in
    let long_rows = rows-length n fs.definitions (d ∷ []) in
    let own_clauses = one-clauses (n + length fs.definitions) d in
    let own_rows = one-rows (n + length fs.definitions) d in
    record { names = omega arith; clauses = omega arith; rows = omega arith }

-- two parts
both_small : (first_nodes second_nodes n : ℕ) (one other : Named) → IsSmallNaming first_nodes n one → IsSmallNaming second_nodes (n + length one.definitions) other → AreSmallParts 2 (first_nodes + second_nodes) n (record { definitions = one.definitions ++ other.definitions; literals = one.literal ∷ other.literal ∷ [] })
both_small first_nodes second_nodes n one other h k =
    let names = h.names in
    let more_names = k.names in
    let clauses = h.clauses in
    let more_clauses = k.clauses in
    let rows = h.rows in
    let more_rows = k.rows in
    let long = length-append one.definitions other.definitions in
    let long_clauses = clauses-length n one.definitions other.definitions in
    let long_rows = rows-length n one.definitions other.definitions in
    record { literals = refl; names = omega arith; clauses = omega arith; rows = omega arith }

module _ (m : Lists) where
  abbrev HasSmallNaming : Formula → Type 0
  HasSmallNaming f = (n : ℕ) → IsSmallNaming (node_count f) n (naming m f n)

  by_step : (f : Formula) (step : Naming) (nodes : ℕ) → naming m f ≡ step → node_count f ≡ nodes → ((n : ℕ) → IsSmallNaming nodes n (step n)) → HasSmallNaming f
  by_step f step nodes e is h n =
      subst (λ (k : ℕ). IsSmallNaming k n (naming m f n)) (sym is)
      (subst (λ (naming_of : Naming). IsSmallNaming nodes n (naming_of n)) (sym e) (h n))

  parts_small : (parts : List Formula) → AllByRecursion HasSmallNaming parts → (n : ℕ) → AreSmallParts (length parts) (sum (map node_count parts)) n (parts_named (map (naming m) parts) n)
  parts_small [] h n = record { literals = refl; names = omega arith; clauses = omega arith; rows = omega arith }
  parts_small (part ∷ parts) h n =
      let first = naming m part n in
      let next = n + length first.definitions in
      let rest = parts_named (map (naming m) parts) next in
      let small = parts_small parts h.1 next in
      let more_literals = small.literals in
      let names = (h.0 n).names in
      let more_names = small.names in
      let clauses = (h.0 n).clauses in
      let more_clauses = small.clauses in
      let rows = (h.0 n).rows in
      let more_rows = small.rows in
      let total = sum_by-cons (λ (k : ℕ). k) (node_count part) (map node_count parts) in
      let long = length-append first.definitions rest.definitions in
      let long_clauses = clauses-length n first.definitions rest.definitions in
      let long_rows = rows-length n first.definitions rest.definitions in
      record { literals = omega arith; names = omega arith; clauses = omega arith; rows = omega arith }

  name_small : (name : Truth) → HasSmallNaming (Name name)
  name_small name =
      by_step (Name name) (naming_step m (Formula-F.Name name)) 1 (fold-Name (naming_step m) name) (fold-Name node_step name)
      (λ n. record { names = omega arith; clauses = omega arith; rows = omega arith })

  negation_small : (part : Formula) → HasSmallNaming part → HasSmallNaming (Not part)
  negation_small part h =
      by_step (Not part) (naming_step m (Formula-F.Not (naming m part))) (1 + node_count part) (fold-Not (naming_step m) part) (fold-Not node_step part)
      (λ n.
      let names = (h n).names in
      let clauses = (h n).clauses in
      let rows = (h n).rows in
      record { names = omega arith; clauses = omega arith; rows = omega arith })

  conjunction_small : (parts : List Formula) → AllByRecursion HasSmallNaming parts → HasSmallNaming (And parts)
  conjunction_small parts h =
      by_step (And parts) (naming_step m (Formula-F.And (map (naming m) parts))) (1 + sum (map node_count parts)) (fold-And (naming_step m) parts) (fold-And node_step parts)
      (λ n.
      let named = parts_named (map (naming m) parts) n in
      let small = parts_small parts h n in
      let literals = small.literals in
      let own = all_of-clauses (n + length named.definitions) named.literals in
      whole_small (length parts) (sum (map node_count parts)) n named (all_of named.literals) (positive (n + length named.definitions)) small (omega arith) (omega arith))

  disjunction_small : (parts : List Formula) → AllByRecursion HasSmallNaming parts → HasSmallNaming (Or parts)
  disjunction_small parts h =
      by_step (Or parts) (naming_step m (Formula-F.Or (map (naming m) parts))) (1 + sum (map node_count parts)) (fold-Or (naming_step m) parts) (fold-Or node_step parts)
      (λ n.
      let named = parts_named (map (naming m) parts) n in
      let small = parts_small parts h n in
      let literals = small.literals in
      let own = any_of-clauses (n + length named.definitions) named.literals in
      whole_small (length parts) (sum (map node_count parts)) n named (any_of named.literals) (positive (n + length named.definitions)) small (omega arith) (omega arith))

  two_nodes : (f : Formula) (first second : ℕ) → node_count f ≡ 1 + first + second → node_count f ≡ 1 + (first + second)
  two_nodes f first second e = omega arith

  implication_small : (premise conclusion : Formula) → HasSmallNaming premise → HasSmallNaming conclusion → HasSmallNaming (Implies premise conclusion)
  implication_small premise conclusion h k =
      by_step (Implies premise conclusion) (naming_step m (Formula-F.Implies (naming m premise) (naming m conclusion))) (1 + (node_count premise + node_count conclusion))
      (fold-Implies (naming_step m) premise conclusion) (two_nodes (Implies premise conclusion) (node_count premise) (node_count conclusion) (fold-Implies node_step premise conclusion))
      (λ n.
      let one = naming m premise n in
      let other = naming m conclusion (n + length one.definitions) in
      let small = both_small (node_count premise) (node_count conclusion) n one other (h n) (k (n + length one.definitions)) in
      let own = any_of-clauses (n + length (one.definitions ++ other.definitions)) (opposite one.literal ∷ other.literal ∷ []) in
      whole_small 2 (node_count premise + node_count conclusion) n (record { definitions = one.definitions ++ other.definitions; literals = one.literal ∷ other.literal ∷ [] })
      (any_of (opposite one.literal ∷ other.literal ∷ [])) (positive (n + length (one.definitions ++ other.definitions))) small (omega arith) (omega arith))

  equivalence_small : (first second : Formula) → HasSmallNaming first → HasSmallNaming second → HasSmallNaming (Iff first second)
  equivalence_small first second h k =
      by_step (Iff first second) (naming_step m (Formula-F.Iff (naming m first) (naming m second))) (1 + (node_count first + node_count second))
      (fold-Iff (naming_step m) first second) (two_nodes (Iff first second) (node_count first) (node_count second) (fold-Iff node_step first second))
      (λ n.
      let one = naming m first n in
      let other = naming m second (n + length one.definitions) in
      let small = both_small (node_count first) (node_count second) n one other (h n) (k (n + length one.definitions)) in
      whole_small 2 (node_count first + node_count second) n (record { definitions = one.definitions ++ other.definitions; literals = one.literal ∷ other.literal ∷ [] })
      (same_as one.literal other.literal) (positive (n + length (one.definitions ++ other.definitions))) small (omega arith) (omega arith))

  at_most_small : (l : Linear) (k : ℤ) → HasSmallNaming (AtMost l k)
  at_most_small l k =
      by_step (AtMost l k) (naming_step m (Formula-F.AtMost l k)) (1 + length l.terms) (fold-AtMost (naming_step m) l k) (fold-AtMost node_step l k)
      (λ n. record { names = omega arith; clauses = omega arith; rows = omega arith })

  at_least_small : (l : Linear) (k : ℤ) → HasSmallNaming (AtLeast l k)
  at_least_small l k =
      by_step (AtLeast l k) (naming_step m (Formula-F.AtLeast l k)) (1 + length l.terms) (fold-AtLeast (naming_step m) l k) (fold-AtLeast node_step l k)
      (λ n. record { names = omega arith; clauses = omega arith; rows = omega arith })

  equality_small : (l : Linear) (k : ℤ) → HasSmallNaming (Equal l k)
  equality_small l k =
      by_step (Equal l k) (naming_step m (Formula-F.Equal l k)) (1 + length l.terms) (fold-Equal (naming_step m) l k) (fold-Equal node_step l k)
      (λ n. record { names = omega arith; clauses = omega arith; rows = omega arith })

  pub naming_small : (f : Formula) → HasSmallNaming f
  naming_small = by_cases HasSmallNaming (record {
    name = name_small;
    negation = negation_small;
    conjunction = conjunction_small;
    disjunction = disjunction_small;
    implication = implication_small;
    equivalence = equivalence_small;
    at_most = at_most_small;
    at_least = at_least_small;
    equality = equality_small;
  })

  -- ---- rules

  pub record AreSmallRules (n : ℕ) (rs : List Rule) : Type 0 where
    pub names : length (rule_definitions m n rs) ≤ 3 * node_total rs
    pub clauses : length (rule_clauses m n rs) ≤ 4 * node_total rs
    pub rows : length (rule_rows m n rs) ≤ 4 * node_total rs

  rules_small : (n : ℕ) (rs : List Rule) → AreSmallRules n rs
  rules_small n [] = record { names = omega arith; clauses = omega arith; rows = omega arith }
  rules_small n (r ∷ rs) =
      let named = naming m (formula_of r) n in
      let next = n + length named.definitions in
      let small = rules_small next rs in
      let own = naming_small (formula_of r) n in
      let names = own.names in
      let more_names = small.names in
      let clauses = own.clauses in
      let more_clauses = small.clauses in
      let rows = own.rows in
      let more_rows = small.rows in
      let total = sum_by-cons (λ (x : Rule). node_count (formula_of x)) r rs in
      let long = length-append named.definitions (rule_definitions m next rs) in
      let long_clauses = length-append (clauses_from n named.definitions) (rule_clause m r named.literal ∷ rule_clauses m next rs) in
      let long_rows = rows-length n named.definitions (rule_definitions m next rs) in
      record { names = omega arith; clauses = omega arith; rows = omega arith }

pub rules_part_small : (m : Lists) (n : ℕ) → ∥ IsWellFormedModel m ∥₁ → IsSmallPart (rules_part m n m.rules)
unfolding rules_part
rules_part_small m n well =
    let few = few_nodes m well in
    let small = rules_small m n m.rules in
    let names = small.names in
    let clauses = small.clauses in
    let rows = small.rows in
    record { names = omega arith; clauses = omega arith; rows = omega arith }
