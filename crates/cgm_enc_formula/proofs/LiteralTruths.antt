-- What literals say of values.
use Rattle.std.proofs.Common.{◌≡◌, ℕ, Bool, true, false, cond, not, ◌||◌, ◌&&◌, List, [], ◌∷◌, map, refl, sym, ap, ◌∙◌}
use Rattle.std.specs.Prelude.{ℤ}
use Rattle.std.specs.List.{list_all, list_any}
use Rattle.cgm_atom.specs.declared.constraints.Atom.{Atom}
use Rattle.cgm_atom.specs.Atoms.{atom_true, clause_true}
use Rattle.cgm_atom.specs.Literals.{literal, negated, truth_at}
use Rattle.cgm_atom.proofs.ClauseTruths.{negated-true}
use Rattle.cgm_enc_formula.specs.declared.literals.Literal.{Literal}
use Rattle.cgm_enc_formula.specs.Definitions.{one_of, pairs}
use Rattle.cgm_enc_formula.specs.Literals.{atom_of, literal_true, opposite}

pub or_false : (t : Bool) → (t || false) ≡ t
or_false true = refl
or_false false = refl

pub and_true : (t : Bool) → (t && true) ≡ t
and_true true = refl
and_true false = refl

not_not : (t : Bool) → not (not t) ≡ t
not_not true = refl
not_not false = refl

opposite_by : (values : List ℤ) (t : Bool) (x : ℕ) → atom_true values (cond (not t) (literal x) (negated x)) ≡ not (atom_true values (cond t (literal x) (negated x)))
opposite_by values true x = negated-true values x
opposite_by values false x = sym (not_not (truth_at values x)) ∙ ap (λ (t : Bool). not t) (sym (negated-true values x))

pub opposite-true : (values : List ℤ) (l : Literal) → literal_true values (opposite l) ≡ not (literal_true values l)
opposite-true values l = opposite_by values l.is_positive l.variable

-- ---- an atom with each of the literals

distributed : (a t s : Bool) → ((a || t) && (a || s)) ≡ (a || (t && s))
distributed true t s = refl
distributed false t s = refl

pub pairs-true : (values : List ℤ) (a : Atom) (ls : List Literal) → list_all (clause_true values) (pairs a ls) ≡ (atom_true values a || list_all (literal_true values) ls)
pairs-true values a [] = all_true (atom_true values a)
  where
    all_true : (t : Bool) → true ≡ (t || true)
    all_true true = refl
    all_true false = refl
pairs-true values a (l ∷ ls) =
    ap (λ (t : Bool). (atom_true values a || t) && list_all (clause_true values) (pairs a ls)) (or_false (literal_true values l))
    ∙ ap (λ (t : Bool). (atom_true values a || literal_true values l) && t) (pairs-true values a ls)
    ∙ distributed (atom_true values a) (literal_true values l) (list_all (literal_true values) ls)

atoms-any : (values : List ℤ) (ls : List Literal) → list_any (atom_true values) (map atom_of ls) ≡ list_any (literal_true values) ls
atoms-any values [] = refl
atoms-any values (l ∷ ls) = ap (λ (t : Bool). literal_true values l || t) (atoms-any values ls)

pub one_of-true : (values : List ℤ) (a : Atom) (ls : List Literal) → clause_true values (one_of a ls) ≡ (atom_true values a || list_any (literal_true values) ls)
one_of-true values a ls = ap (λ (t : Bool). atom_true values a || t) (atoms-any values ls)

-- ---- opposites

none : (s t : Bool) → (not s && not t) ≡ not (s || t)
none true t = refl
none false t = refl

pub opposites-all : (values : List ℤ) (ls : List Literal) → list_all (literal_true values) (map opposite ls) ≡ not (list_any (literal_true values) ls)
opposites-all values [] = refl
opposites-all values (l ∷ ls) =
    ap (λ (t : Bool). t && list_all (literal_true values) (map opposite ls)) (opposite-true values l)
    ∙ ap (λ (t : Bool). not (literal_true values l) && t) (opposites-all values ls)
    ∙ none (literal_true values l) (list_any (literal_true values) ls)

some : (s t : Bool) → (not s || not t) ≡ not (s && t)
some true t = refl
some false t = refl

pub opposites-any : (values : List ℤ) (ls : List Literal) → list_any (literal_true values) (map opposite ls) ≡ not (list_all (literal_true values) ls)
opposites-any values [] = refl
opposites-any values (l ∷ ls) =
    ap (λ (t : Bool). t || list_any (literal_true values) (map opposite ls)) (opposite-true values l)
    ∙ ap (λ (t : Bool). not (literal_true values l) || t) (opposites-any values ls)
    ∙ some (literal_true values l) (list_all (literal_true values) ls)
