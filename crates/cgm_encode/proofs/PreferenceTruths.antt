-- The clauses of a preference are true exactly where its variable is true where it isn't met.
use Rattle.std.proofs.Common.{◌≡◌, ℕ, Bool, true, false, not, ◌||◌, ◌&&◌, ◌↔◌, IsTrue, List, refl, sym, ap, ◌∙◌}
use Rattle.std.specs.Prelude.{ℤ}
use Rattle.std.specs.List.{All, list_all}
use Rattle.std.proofs.lemmas.Bool.{false≢true}
use Rattle.std.proofs.lemmas.List.Sums.{AllPass-from_list_all, list_all-from_AllPass}
use Rattle.cgm_atom.specs.Atoms.{atom_true, clause_true}
use Rattle.cgm_atom.specs.Literals.{negated, truth_at}
use Rattle.cgm_atom.proofs.ClauseTruths.{negated-true}
use Rattle.cgm_formula.specs.declared.assignment.Assignment.{Assignment}
use Rattle.cgm_formula.specs.Reading.{name_in}
use Rattle.cgm_model.specs.declared.lists.Lists.{Lists}
use Rattle.cgm_model.specs.declared.lists.Preference.{Preference}
use Rattle.cgm_model.specs.TruthVariables.{variable_of}
use Rattle.cgm_obj.specs.Counts.{is_met}
use Rattle.cgm_encode.specs.Problem.{preference_clauses}

-- what the three clauses say, where nu, na, nb are what is said of the negations
abbrev three : Bool → Bool → Bool → Bool → Bool → Bool → Bool
three u a b nu na nb = (nu || (na || false)) && ((nu || (b || false)) && ((u || (a || (nb || false))) && true))

unmet_from : (u a b : Bool) → three u a b (not u) (not a) (not b) ≡ true → u ≡ not (a || not b)
unmet_from true true b h = absurd (false≢true h)
unmet_from true false true h = refl
unmet_from true false false h = absurd (false≢true h)
unmet_from false true b h = refl
unmet_from false false true h = absurd (false≢true h)
unmet_from false false false h = refl

from_unmet : (u a b : Bool) → u ≡ not (a || not b) → three u a b (not u) (not a) (not b) ≡ true
from_unmet true true b h = absurd (false≢true (sym h))
from_unmet true false true h = refl
from_unmet true false false h = absurd (false≢true (sym h))
from_unmet false true b h = refl
from_unmet false false true h = absurd (false≢true h)
from_unmet false false false h = refl

module _ (m : Lists) (values : List ℤ) (u : ℕ) (p : Preference) where
  three_true : list_all (clause_true values) (preference_clauses m (u, p)) ≡ three (truth_at values u) (truth_at values (variable_of m p.better)) (truth_at values (variable_of m p.worse)) (not (truth_at values u)) (not (truth_at values (variable_of m p.better))) (not (truth_at values (variable_of m p.worse)))
  three_true =
      let a = variable_of m p.better in
      let b = variable_of m p.worse in
      let tu = truth_at values u in
      let ta = truth_at values a in
      let tb = truth_at values b in
      let na = atom_true values (negated a) in
      let nb = atom_true values (negated b) in
      ap (λ (t : Bool). three tu ta tb t na nb) (negated-true values u)
      ∙ ap (λ (t : Bool). three tu ta tb (not tu) t nb) (negated-true values a)
      ∙ ap (λ (t : Bool). three tu ta tb (not tu) (not ta) t) (negated-true values b)

  pub preference_means : (a : Assignment) → truth_at values (variable_of m p.better) ≡ name_in a p.better → truth_at values (variable_of m p.worse) ≡ name_in a p.worse → All (λ c. IsTrue (clause_true values c)) (preference_clauses m (u, p)) ↔ (truth_at values u ≡ not (is_met a p))
  preference_means a better worse =
      let ta = truth_at values (variable_of m p.better) in
      let tb = truth_at values (variable_of m p.worse) in
      let met : not (ta || not tb) ≡ not (is_met a p) = ap (λ (t : Bool). not (t || not tb)) better ∙ ap (λ (t : Bool). not (name_in a p.better || not t)) worse in (
        λ h. unmet_from (truth_at values u) ta tb (sym three_true ∙ list_all-from_AllPass (clause_true values) (preference_clauses m (u, p)) h) ∙ met,
        λ h. AllPass-from_list_all (clause_true values) (preference_clauses m (u, p)) (three_true ∙ from_unmet (truth_at values u) ta tb (h ∙ sym met)),
      )
