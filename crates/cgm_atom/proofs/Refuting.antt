-- Where the hints reach conflict from the negation of a clause, values that meet what they name make the clause true.
use Rattle.std.proofs.Common.{◌≡◌, Bool, true, false, List, [], ◌∷◌, map, refl}
use Rattle.std.specs.Prelude.{ℤ, IfSome, IsTrue, is_none}
use Rattle.std.specs.declared.option.Option.{Option}
use Rattle.std.specs.declared.option.Option.TheVariants.{Some, None}
use Rattle.std.specs.List.{All, list_any}
use Rattle.std.specs.Option.{option_and_then}
use Rattle.std.proofs.lemmas.Bool.{false≢true, or_parts}
use Rattle.std.proofs.lemmas.List.Elements.{All-nil, All-cons}
use Rattle.cgm_atom.specs.declared.constraints.Atom.{Atom}
use Rattle.cgm_atom.specs.declared.constraints.Clause.{Clause}
use Rattle.cgm_atom.specs.declared.entries.Hint.{Hint}
use Rattle.cgm_atom.specs.Acceptance.{is_refuted}
use Rattle.cgm_atom.specs.Atoms.{atom_true, clause_true, negation, row_true}
use Rattle.cgm_atom.specs.Bounds.{Bounds, IsWithin}
use Rattle.cgm_atom.specs.Instance.{Instance}
use Rattle.cgm_atom.specs.Laws.{IsLeft}
use Rattle.cgm_atom.specs.LogState.{LogState, all_narrowed, named, narrowed}
use Rattle.cgm_atom.specs.Constraints.{Constraint, of_clause, of_row, left_by, left_by_named}
use Rattle.cgm_atom.specs.Narrowing.{all_assumed}
use Rattle.cgm_atom.proofs.Keeping.{negation_true, within_assumed, within_left_by_clause, within_left_by_row}

-- the values make the clause true, or meet the row
abbrev pub IsMet : List ℤ → Constraint → Type 0
IsMet values (of_clause c) = IsTrue (clause_true values c)
IsMet values (of_row r) = IsTrue (row_true values r)

-- they meet what each hint names
abbrev pub AreMet : Instance → LogState → List ℤ → List Hint → Type 0
AreMet p s values [] = Unit {0}
AreMet p s values (h ∷ hints) = IfSome (named p s h) (IsMet values) × AreMet p s values hints

-- ---- hints keep the values

within_left : (b : Bounds) (c : Constraint) (values : List ℤ) → IsWithin b values → IsMet values c → IsLeft (left_by b c) values
within_left b (of_clause c) values within met = within_left_by_clause b c values within met
within_left b (of_row r) values within met = within_left_by_row b r values within met

within_left_by_named : (b : Bounds) (o : Option Constraint) (values : List ℤ) → IsWithin b values → IfSome o (IsMet values) → IsLeft (left_by_named b o) values
within_left_by_named b None values within met = within
within_left_by_named b (Some c) values within met = within_left b c values within met

left_by_next : (o : Option Bounds) (next : Bounds → Option Bounds) (values : List ℤ) → IsLeft o values → ((b : Bounds) → IsWithin b values → IsLeft (next b) values) → IsLeft (option_and_then next o) values
left_by_next None next values left keeps = absurd left
left_by_next (Some b) next values left keeps = keeps b left

within_narrowed : (p : Instance) (s : LogState) (b : Bounds) (hints : List Hint) (values : List ℤ) → IsWithin b values → AreMet p s values hints → IsLeft (all_narrowed p s b hints) values
within_narrowed p s b [] values within met = within
within_narrowed p s b (h ∷ hints) values within met =
    left_by_next (narrowed p s b h) (λ b'. all_narrowed p s b' hints) values (within_left_by_named b (named p s h) values within met.0)
    (λ b' within'. within_narrowed p s b' hints values within' met.1)

-- ---- the clause

negations_true : (values : List ℤ) (atoms : List Atom) → list_any (atom_true values) atoms ≡ false → All (λ a. IsTrue (atom_true values a)) (map negation atoms)
negations_true values [] h = All-nil (λ (a : Atom). IsTrue (atom_true values a))
negations_true values (a ∷ atoms) h =
    let parts = or_parts (atom_true values a) (list_any (atom_true values) atoms) h in
    All-cons (λ (x : Atom). IsTrue (atom_true values x)) (negation a) (map negation atoms) (negation_true values a parts.0) (negations_true values atoms parts.1)

no_conflict : (o : Option Bounds) (values : List ℤ) → IsLeft o values → is_none o ≡ true → ⊥
no_conflict None values left h = left
no_conflict (Some b) values left h = false≢true h

clause_by_cases : (p : Instance) (s : LogState) (c : Clause) (hints : List Hint) (values : List ℤ) (t : Bool) → clause_true values c ≡ t → IsWithin p.bounds values → AreMet p s values hints → IsTrue (is_refuted p s c hints) → t ≡ true
unfolding is_refuted
clause_by_cases p s c hints values true e within met refuted = refl
clause_by_cases p s c hints values false e within met refuted =
    let assumed = within_assumed p.bounds (map negation c.atoms) values within (negations_true values c.atoms e) in
    let left = left_by_next (all_assumed p.bounds (map negation c.atoms)) (λ b. all_narrowed p s b hints) values assumed (λ b within'. within_narrowed p s b hints values within' met) in
    absurd (no_conflict _ values left refuted)

pub clause_from_refutation : (p : Instance) (s : LogState) (c : Clause) (hints : List Hint) (values : List ℤ) → IsWithin p.bounds values → AreMet p s values hints → IsTrue (is_refuted p s c hints) → IsTrue (clause_true values c)
clause_from_refutation p s c hints values within met refuted =
    clause_by_cases p s c hints values (clause_true values c) refl within met refuted
