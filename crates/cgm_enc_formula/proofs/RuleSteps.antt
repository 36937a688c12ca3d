-- The steps of adding rules: the definitions of a rule's formula, then the rule's own clause, and one rule after another.
use Rattle.std.proofs.Common.{◌≡◌, ℕ, ◌+◌, ◌≤◌, List, [], ◌∷◌, ◌++◌, length, get_or, refl, sym, ap, ◌∙◌, subst, arith}
use Rattle.std.specs.List.{All}
use Rattle.std.proofs.lemmas.List.{append-nil, append_assoc, length-append}
use Rattle.std.proofs.lemmas.List.Elements.{All-head, All-tail}
use Rattle.cgm_atom.specs.declared.constraints.Clause.{Clause}
use Rattle.cgm_atom.specs.declared.constraints.Row.{Row}
use Rattle.cgm_atom.specs.Adding.{CanTake, with_written}
use Rattle.cgm_atom.specs.Instance.{Instance, var_count}
use Rattle.cgm_atom.specs.Limits.{IsClauseOf}
use Rattle.cgm_model.specs.declared.lists.Lists.{Lists}
use Rattle.cgm_model.specs.declared.lists.Rule.{Rule}
use Rattle.cgm_model.specs.Formulas.{formula_of}
use Rattle.cgm_enc_formula.specs.Building.{HasRoomFor, Part, both, clause_part, definitions_part, rule_part, rules_part, with_part}
use Rattle.cgm_enc_formula.specs.Definitions.{Definition}
use Rattle.cgm_enc_formula.specs.Naming.{naming}
use Rattle.cgm_enc_formula.specs.Rules.{IsEncodableRule, clauses_from, rows_from, rule_clause, rule_clauses, rule_definitions, rule_rows}
use Rattle.cgm_enc_formula.specs.Terms.{model_variables}
use Rattle.cgm_enc_formula.proofs.Defining.{one_clause, written_part}
use Rattle.cgm_enc_formula.proofs.DefinitionLists.{rows_both}
use Rattle.cgm_enc_formula.proofs.NamingSteps.{Adds, encodable_after}
use Rattle.cgm_enc_formula.proofs.Steps.{IsLeft, left_first, left_more, left_none, no_part, rest_fits, same_part, with-count, with_both}

-- ---- one rule

module _ (ds : List Definition) (c : Clause) where
  abbrev own_part : ℕ → Part
  own_part n = both (definitions_part n ds) (clause_part c)

  pub clause_fits : (old new : Instance) → Adds old ds new → IsClauseOf (var_count new) c → HasRoomFor old (own_part (var_count old)) → CanTake new (c ∷ [])
  clause_fits old new e known h =
      let rest = rest_fits old (definitions_part (var_count old) ds) (clause_part c) h in
      let there : HasRoomFor new (clause_part c) = subst (λ (p : Instance). HasRoomFor p (clause_part c)) (sym e) rest in
      record { known = one_clause (var_count new) c known; room = there.clauses }

  pub rule_added : (old new last : Instance) → Adds old ds new → last ≡ with_written new (c ∷ []) → last ≡ with_part old (own_part (var_count old))
  rule_added old new last e is =
      is ∙ written_part new (c ∷ []) ∙ ap (λ (p : Instance). with_part p (clause_part c)) e
      ∙ with_both old (definitions_part (var_count old) ds) (clause_part c)

-- ---- rules one after another

module _ (m : Lists) where
  rules_both : (n : ℕ) (r : Rule) (rs : List Rule) → rules_part m n (r ∷ rs) ≡ both (rule_part m n r) (rules_part m (n + length (naming m (formula_of r) n).definitions) rs)
  unfolding rules_part
  rules_both n r rs =
      let named = naming m (formula_of r) n in
      let ds = named.definitions in
      let next = n + length ds in
      let own = rule_clause m r named.literal in
      same_part (length (ds ++ rule_definitions m next rs)) (length ds + 0 + length (rule_definitions m next rs))
      (clauses_from n ds ++ own ∷ rule_clauses m next rs) ((clauses_from n ds ++ own ∷ []) ++ rule_clauses m next rs)
      (rows_from n (ds ++ rule_definitions m next rs)) ((rows_from n ds ++ []) ++ rule_rows m next rs)
      (let long = length-append ds (rule_definitions m next rs) in omega arith)
      (sym (append_assoc (clauses_from n ds) (own ∷ []) (rule_clauses m next rs)))
      (rows_both n ds (rule_definitions m next rs) ∙ ap (λ (rows : List Row). rows ++ rule_rows m next rs) (sym (append-nil (rows_from n ds))))

  no_rules : (n : ℕ) → rules_part m n [] ≡ no_part
  unfolding rules_part
  no_rules n = refl

  rule_after : (r : Rule) (old new : Instance) (part : Part) → new ≡ with_part old part → length old.bounds.upper ≡ length old.bounds.lower → model_variables m ≤ var_count old → IsEncodableRule m old.bounds r → IsEncodableRule m new.bounds r
  rule_after r old new part e same few h = record { condition = h.condition; formula = encodable_after m (formula_of r) old new part e same few h.formula }

  -- the rules before the rest are added, and the rest is left
  pub record AreAdded (old : Instance) (all : List Rule) (new : Instance) (rest : List Rule) : Type 0 where
    pub known : All (IsEncodableRule m new.bounds) rest
    pub variables : model_variables m ≤ var_count new
    pub left : IsLeft old (rules_part m (var_count old) all) new (rules_part m (var_count new) rest)

  pub next_known : (old p : Instance) (all : List Rule) (r : Rule) (rest : List Rule) → AreAdded old all p (r ∷ rest) → IsEncodableRule m p.bounds r
  next_known old p all r rest far = All-head (IsEncodableRule m p.bounds) r rest far.known

  pub next_fits : (old p : Instance) (all : List Rule) (r : Rule) (rest : List Rule) → AreAdded old all p (r ∷ rest) → HasRoomFor p (rule_part m (var_count p) r)
  next_fits old p all r rest far =
      let n = var_count p in
      left_first old p (rules_part m (var_count old) all) (rule_part m n r) (rules_part m (n + length (naming m (formula_of r) n).definitions) rest)
      (rules_part m n (r ∷ rest)) (rules_both n r rest) far.left

  pub added_more : (old p q : Instance) (all : List Rule) (r : Rule) (rest : List Rule) → AreAdded old all p (r ∷ rest) → length p.bounds.upper ≡ length p.bounds.lower → q ≡ with_part p (rule_part m (var_count p) r) → AreAdded old all q rest
  added_more old p q all r rest far same_count e =
      let n = var_count p in
      let ds = (naming m (formula_of r) n).definitions in
      let next = n + length ds in
      let same = ap (λ (x : Instance). var_count x) e in
      let long = with-count p (rule_part m n r) in
      let count : var_count q ≡ next = omega arith in
      let few = far.variables in
      let left = left_more old p q (rules_part m (var_count old) all) (rule_part m n r) (rules_part m next rest) (rules_part m n (r ∷ rest)) (rules_both n r rest) far.left e in
      record {
        known = λ k d l. rule_after (get_or rest k d) p q (rule_part m n r) e same_count few (All-tail (IsEncodableRule m p.bounds) r rest far.known k d l);
        variables = omega arith;
        left = subst (λ (k : ℕ). IsLeft old (rules_part m (var_count old) all) q (rules_part m k rest)) (sym count) left;
      }

  pub added_at_end : (old p : Instance) (all : List Rule) → AreAdded old all p [] → p ≡ with_part old (rules_part m (var_count old) all)
  added_at_end old p all far =
      left_none old p (rules_part m (var_count old) all)
      (subst (λ (x : Part). IsLeft old (rules_part m (var_count old) all) p x) (no_rules (var_count p)) far.left)
