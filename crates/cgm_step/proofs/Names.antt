-- What hints name and carry, hint by hint.
use Rattle.std.proofs.Common.{◌≡◌, ℕ, List, ap, sym, ◌∙◌, subst}
use Rattle.std.specs.Prelude.{ℤ, slice_get}
use Rattle.std.specs.declared.option.Option.{Option}
use Rattle.std.specs.declared.option.Option.TheVariants.{Some, None}
use Rattle.std.specs.Option.{option_and_then, option_map, option_map_or}
use Rattle.cgm_atom.specs.declared.constraints.Atom.{Atom}
use Rattle.cgm_atom.specs.declared.constraints.Clause.{Clause}
use Rattle.cgm_atom.specs.declared.entries.Entry.{Entry}
use Rattle.cgm_atom.specs.declared.entries.Entry.TheVariants.{Lemma}
use Rattle.cgm_atom.specs.declared.entries.Hint.{Hint}
use Rattle.cgm_atom.specs.declared.entries.Hint.TheVariants as hint
use Rattle.cgm_atom.specs.Acceptance.{IsAcceptedState}
use Rattle.cgm_atom.specs.ClauseAtoms.{AreKnown}
use Rattle.cgm_atom.specs.Constraints.{Constraint, of_clause}
use Rattle.cgm_atom.specs.Cut.{cut}
use Rattle.cgm_atom.specs.Instance.{Instance, var_count, vector}
use Rattle.cgm_atom.specs.LogState.{LogState, best_at, carried, lemma_bound, lemma_clause, live_at, named}
use Rattle.cgm_step.specs.declared.naming.Found.{Found}
use Rattle.cgm_step.specs.declared.naming.Named.{Named}
use Rattle.cgm_step.specs.Naming.{IsFound, IsNamedConstraint}
use Rattle.cgm_step.proofs.Accepted.{lemma_atoms_known}

-- the item that a hint names, with what the hint carries
pub found_with : (p : Instance) (s : LogState) (h : Hint) (there : Option Constraint) (n : ℕ) (o : Option Named) (r : Option Found) → named p s h ≡ there → carried s h ≡ n → IsNamedConstraint p there o → r ≡ option_map (λ (m : Named). record { named = m; carried = n }) o → IsFound p s h r
found_with p s h there n None r e k found same = subst (λ (x : Option Found). IsFound p s h x) (sym same) (e ∙ found)
found_with p s h there n (Some m) r e k found same =
    subst (λ (x : Option Found). IsFound p s h x) (sym same) (e ∙ found.0, found.1, sym k)

-- the same hint, given by an equation
pub found_as : (p : Instance) (s : LogState) (h same : Hint) (r : Option Found) → h ≡ same → IsFound p s same r → IsFound p s h r
found_as p s h same r e found = subst (λ (x : Hint). IsFound p s x r) (sym e) found

-- ---- a part of the cut of the best with an ordinal

pub named-Cut : (p : Instance) (s : LogState) (ordinal part : ℕ) (values : List ℤ) → Some values ≡ best_at s ordinal → named p s (hint.Cut ordinal part) ≡ option_map of_clause (slice_get (cut p.objectives (vector p values)) part)
unfolding named
named-Cut p s ordinal part values e =
    ap (λ (o : Option (List ℤ)). option_map of_clause (option_and_then (λ vs. slice_get (cut p.objectives (vector p vs)) part) o)) (sym e)

pub named-Cut_gone : (p : Instance) (s : LogState) (ordinal part : ℕ) → None ≡ best_at s ordinal → named p s (hint.Cut ordinal part) ≡ None
unfolding named
named-Cut_gone p s ordinal part e =
    ap (λ (o : Option (List ℤ)). option_map of_clause (option_and_then (λ vs. slice_get (cut p.objectives (vector p vs)) part) o)) (sym e)

-- ---- the clause of the entry at a place

by_lemma : (p : Instance) (s : LogState) (place : ℕ) (o : Option Entry) → live_at s place ≡ o → named p s (hint.Entry place) ≡ option_map of_clause (option_and_then lemma_clause o)
unfolding named
by_lemma p s place o e = ap (λ (x : Option Entry). option_map of_clause (option_and_then lemma_clause x)) e

carried_by_lemma : (s : LogState) (place : ℕ) (o : Option Entry) → live_at s place ≡ o → carried s (hint.Entry place) ≡ option_map_or lemma_bound o 0
unfolding carried
carried_by_lemma s place o e = ap (λ (x : Option Entry). option_map_or lemma_bound x 0) e

pub lemma_found : (p : Instance) (s : LogState) (place by bound : ℕ) (clause : Clause) (hints : List Hint) (atoms : List Atom) → IsAcceptedState p s → Some (Lemma by clause hints bound) ≡ live_at s place → atoms ≡ clause.atoms
    → (named p s (hint.Entry place) ≡ Some (of_clause (record { atoms = atoms }))) × (Unit {0} × AreKnown (var_count p) atoms) × (bound ≡ carried s (hint.Entry place))
lemma_found p s place by bound clause hints atoms accepted e same =
    let known = lemma_atoms_known p s place clause accepted (ap (option_and_then lemma_clause) (sym e)) in (
      by_lemma p s place _ (sym e) ∙ ap (λ (xs : List Atom). Some (of_clause (record { atoms = xs }))) (sym same),
      (tt, subst (λ (xs : List Atom). AreKnown (var_count p) xs) (sym same) known),
      sym (carried_by_lemma s place _ (sym e)),
    )

pub no_lemma_found : (p : Instance) (s : LogState) (place : ℕ) (o : Option Entry) → o ≡ live_at s place → option_and_then lemma_clause o ≡ None → named p s (hint.Entry place) ≡ None
no_lemma_found p s place o e h = by_lemma p s place o (sym e) ∙ ap (option_map of_clause) h
