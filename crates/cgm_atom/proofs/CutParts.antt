-- The atoms of the parts of a cut.
use Rattle.std.proofs.Common.{◌≡◌, ℕ, zero, suc, ◌+◌, ◌<◌, ◌≤◌, max, Bool, true, false, cond, ◌||◌, ◌==◌, nat_lt, List, [], ◌∷◌, length, map, refl, ap, sym, ◌∙◌, subst, arith}
use Rattle.std.specs.Prelude.{ℤ, pos, ◌-ℤ◌, slice_get}
use Rattle.std.specs.declared.option.Option.TheVariants.{Some, None}
use Rattle.std.specs.List.{All}
use Rattle.std.specs.Option.{option_map, option_map_or}
use Rattle.std.proofs.lemmas.Option.{same_Some, slice_get_past}
use Rattle.std.proofs.lemmas.Bool.{lt-ltb, ne_eqb}
use Rattle.std.proofs.lemmas.Bool.Decides.{nat_tests}
use Rattle.std.proofs.lemmas.List.{length-map}
use Rattle.std.proofs.lemmas.List.Elements.{All-nil, All-cons, All-head, All-tail}
use Rattle.cgm_atom.specs.declared.constraints.Atom.{Atom}
use Rattle.cgm_atom.specs.declared.constraints.Clause.{Clause}
use Rattle.cgm_atom.specs.declared.constraints.Var.{Var}
use Rattle.cgm_atom.specs.Bounds.{value_of}
use Rattle.cgm_atom.specs.Cut.{cut, at_most_atom, with_lesser}
use Rattle.cgm_atom.specs.Instance.{Instance, values_at, var_count, vector}
use Rattle.cgm_atom.specs.Limits.{IsBound, IsWellFormedProblem, AreValuesOf}
use Rattle.cgm_atom.specs.Constraints.{of_clause}
use Rattle.cgm_atom.specs.ClauseAtoms.{AreKnown, cut_limit, part_atoms}

length-cut : (values : List ℤ) (x : Var) (os : List Var) → length (cut (x ∷ os) (values_at values (x ∷ os))) ≡ suc (length os)
unfolding cut
length-cut values x [] = refl
length-cut values x (y ∷ os) =
    ap suc (length-map (cut (y ∷ os) (values_at values (y ∷ os))) (with_lesser x (value_of values x.0)) ∙ length-cut values y os)

-- the atoms of a clause at a place, or none
abbrev atoms_at : List Clause → ℕ → List Atom
atoms_at cs part = option_map_or (λ c. c.atoms) (slice_get cs part) []

atoms_at-with_lesser : (x : Var) (v : ℤ) (cs : List Clause) (part : ℕ) → part < length cs → atoms_at (map (with_lesser x v) cs) part ≡ at_most_atom x (v -ℤ pos 1) ∷ atoms_at cs part
atoms_at-with_lesser x v [] part h = absurd (omega arith)
atoms_at-with_lesser x v (c ∷ cs) zero h = refl
atoms_at-with_lesser x v (c ∷ cs) (suc part) h = atoms_at-with_lesser x v cs part (omega arith)

part_atoms-suc : (values : List ℤ) (x y : Var) (os : List Var) (part : ℕ) → part < suc (length os) → part_atoms (x ∷ y ∷ os) (values_at values (x ∷ y ∷ os)) (suc part) ≡ at_most_atom x (value_of values x.0 -ℤ pos 1) ∷ part_atoms (y ∷ os) (values_at values (y ∷ os)) part
unfolding cut
part_atoms-suc values x y os part h =
    let there : part < length (cut (y ∷ os) (values_at values (y ∷ os))) = omega (arith, length-cut values y os) in
    atoms_at-with_lesser x (value_of values x.0) (cut (y ∷ os) (values_at values (y ∷ os))) part there

length_part : (values : List ℤ) (x : Var) (os : List Var) (part : ℕ) → part < suc (length os) → length (part_atoms (x ∷ os) (values_at values (x ∷ os)) part) ≡ suc part
unfolding cut
length_part values x [] zero h = refl
length_part values x [] (suc part) h = absurd (omega arith)
length_part values x (y ∷ os) zero h = refl
length_part values x (y ∷ os) (suc part) h =
    ap length (part_atoms-suc values x y os part (omega arith)) ∙ ap suc (length_part values y os part (omega arith))

one_more : (n part : ℕ) → suc part ≡ cond (suc n == 0) 0 (part + 1)
one_more n part = grind (arith, nat_tests)

-- a part has one atom more than its number, and none where there are no objectives
pub length-part_atoms : (values : List ℤ) (os : List Var) (part : ℕ) → part < max 1 (length os) → length (part_atoms os (values_at values os) part) ≡ cond (length os == 0) 0 (part + 1)
unfolding cut
length-part_atoms values [] zero h = refl
length-part_atoms values [] (suc part) h = absurd (omega arith)
length-part_atoms values (x ∷ os) part h = length_part values x os part (omega arith) ∙ one_more (length os) part

within : (values : List ℤ) (os : List Var) (part i : ℕ) (t : Bool) → (length os == 0) ≡ t → part < max 1 (length os) → i < cond t 0 (part + 1) → (i ≤ part) × (part < length os)
within values [] part i true e h k = absurd (omega arith)
within values [] part i false e h k = absurd (cc)
within values (x ∷ os) part i true e h k = absurd (omega arith)
within values (x ∷ os) part i false e h k = (omega arith, omega arith)

-- where a part has an atom with this number there is an objective with it
pub part_within : (values : List ℤ) (os : List Var) (part i : ℕ) → part < max 1 (length os) → i < length (part_atoms os (values_at values os) part) → (i ≤ part) × (part < length os)
part_within values os part i h k =
    within values os part i (length os == 0) refl h (omega (arith, length-part_atoms values os part h))

last-suc : (part n : ℕ) → (suc part + 1 == suc n) ≡ (part + 1 == n)
last-suc part n = grind (arith, nat_tests)

before-suc : (i part : ℕ) → nat_lt (suc i) (suc part) ≡ nat_lt i part
before-suc i part = grind (arith, nat_tests)

cut_limit-suc : (v : ℤ) (i part n : ℕ) → cut_limit v (suc i) (suc part) (suc n) ≡ cut_limit v i part n
cut_limit-suc v i part n =
    ap (λ (t : Bool). cond (t || (suc part + 1 == suc n)) (v -ℤ pos 1) v) (before-suc i part)
    ∙ ap (λ (t : Bool). cond (nat_lt i part || t) (v -ℤ pos 1) v) (last-suc part n)

cut_limit-before : (v : ℤ) (part n : ℕ) → cut_limit v 0 (suc part) n ≡ v -ℤ pos 1
cut_limit-before v part n = ap (λ (t : Bool). cond (t || (suc part + 1 == n)) (v -ℤ pos 1) v) (lt-ltb 0 (suc part) (omega arith))

cut_limit-first : (v : ℤ) (n : ℕ) → cut_limit v 0 0 (suc (suc n)) ≡ v
cut_limit-first v n = ap (λ (t : Bool). cond t (v -ℤ pos 1) v) (ne_eqb 1 (suc (suc n)) (λ e. absurd (omega arith)))

part_at : (values : List ℤ) (x : Var) (os : List Var) (part i : ℕ) (o : Var) → part < suc (length os) → i ≤ part → slice_get (x ∷ os) i ≡ Some o → slice_get (part_atoms (x ∷ os) (values_at values (x ∷ os)) part) i ≡ Some (at_most_atom o (cut_limit (value_of values o.0) i part (suc (length os))))
unfolding cut
part_at values x [] zero zero o h k e = ap (λ (y : Var). Some (at_most_atom y (value_of values y.0 -ℤ pos 1))) (same_Some x o e)
part_at values x [] zero (suc i) o h k e = absurd (omega arith)
part_at values x [] (suc part) i o h k e = absurd (omega arith)
part_at values x (y ∷ os) zero zero o h k e =
    rw (cut_limit-first (value_of values o.0) (length os)) (ap (λ (y : Var). Some (at_most_atom y (value_of values y.0))) (same_Some x o e))
part_at values x (y ∷ os) zero (suc i) o h k e = absurd (omega arith)
part_at values x (y ∷ os) (suc part) zero o h k e =
    rw (part_atoms-suc values x y os part (omega arith), cut_limit-before (value_of values o.0) part (suc (suc (length os))))
    (ap (λ (y : Var). Some (at_most_atom y (value_of values y.0 -ℤ pos 1))) (same_Some x o e))
part_at values x (y ∷ os) (suc part) (suc i) o h k e =
    rw (part_atoms-suc values x y os part (omega arith), cut_limit-suc (value_of values o.0) i part (suc (length os))) (part_at values y os part i o (omega arith) (omega arith) e)

-- the atom with a number of a part
pub slice_get-part_atoms : (values : List ℤ) (os : List Var) (part i : ℕ) (o : Var) → part < length os → i ≤ part → slice_get os i ≡ Some o → slice_get (part_atoms os (values_at values os) part) i ≡ Some (at_most_atom o (cut_limit (value_of values o.0) i part (length os)))
slice_get-part_atoms values [] part i o h k e = absurd (omega arith)
slice_get-part_atoms values (x ∷ os) part i o h k e = part_at values x os part i o (omega arith) k e

known_part : (count : ℕ) (values : List ℤ) (x : Var) (os : List Var) (part : ℕ) → part < suc (length os) → All (λ v. v.0 < count) (x ∷ os) → AreKnown count (part_atoms (x ∷ os) (values_at values (x ∷ os)) part)
unfolding cut
known_part count values x [] zero h known =
    All-cons (λ a. a.var.0 < count) (at_most_atom x (value_of values x.0 -ℤ pos 1)) [] (All-head (λ v. v.0 < count) x [] known) (All-nil (λ a. a.var.0 < count))
known_part count values x [] (suc part) h known = absurd (omega arith)
known_part count values x (y ∷ os) zero h known =
    All-cons (λ a. a.var.0 < count) (at_most_atom x (value_of values x.0)) [] (All-head (λ v. v.0 < count) x (y ∷ os) known) (All-nil (λ a. a.var.0 < count))
known_part count values x (y ∷ os) (suc part) h known =
    rw (part_atoms-suc values x y os part (omega arith))
    (All-cons (λ a. a.var.0 < count) (at_most_atom x (value_of values x.0 -ℤ pos 1)) (part_atoms (y ∷ os) (values_at values (y ∷ os)) part)
    (All-head (λ v. v.0 < count) x (y ∷ os) known) (known_part count values y os part (omega arith) (All-tail (λ v. v.0 < count) x (y ∷ os) known)))

-- the variables of a part are objectives
pub AreKnown-part_atoms : (count : ℕ) (values : List ℤ) (os : List Var) (part : ℕ) → part < max 1 (length os) → All (λ v. v.0 < count) os → AreKnown count (part_atoms os (values_at values os) part)
unfolding cut
AreKnown-part_atoms count values [] zero h known = All-nil (λ a. a.var.0 < count)
AreKnown-part_atoms count values [] (suc part) h known = absurd (omega arith)
AreKnown-part_atoms count values (x ∷ os) part h known = known_part count values x os part (omega arith) known

-- ---- parts as constraints

length-parts : (values : List ℤ) (os : List Var) → length (cut os (values_at values os)) ≡ max 1 (length os)
unfolding cut
length-parts values [] = refl
length-parts values (x ∷ os) = let e = length-cut values x os in omega arith

atoms_there : (cs : List Clause) (part : ℕ) → part < length cs → option_map of_clause (slice_get cs part) ≡ Some (of_clause (record { atoms = atoms_at cs part }))
atoms_there [] part h = absurd (omega arith)
atoms_there (c ∷ cs) zero h = refl
atoms_there (c ∷ cs) (suc part) h = atoms_there cs part (omega arith)

-- past the last part there is none
pub part_past : (values : List ℤ) (os objectives : List Var) (part : ℕ) → os ≡ objectives → max 1 (length os) ≤ part → option_map of_clause (slice_get (cut objectives (values_at values objectives)) part) ≡ None
part_past values os objectives part e h =
    let past : length (cut os (values_at values os)) ≤ part = omega (arith, length-parts values os) in
    subst (λ (xs : List Var). option_map of_clause (slice_get (cut xs (values_at values xs)) part) ≡ None) e
    (ap (option_map of_clause) (slice_get_past (cut os (values_at values os)) part past))

-- a part that is there, as it is looked up
pub part_there : (p : Instance) (values : List ℤ) (os : List Var) (part : ℕ) → os ≡ p.objectives → IsWellFormedProblem p → AreValuesOf p values → part < max 1 (length os)
    → (option_map of_clause (slice_get (cut p.objectives (vector p values)) part) ≡ Some (of_clause (record { atoms = part_atoms os (values_at values os) part })))
    × ((All (λ v. v.0 < length values) os × All IsBound values × (part < max 1 (length os))) × AreKnown (var_count p) (part_atoms os (values_at values os) part))
part_there p values os part e wf fit h =
    let within : part < length (cut os (values_at values os)) = omega (arith, length-parts values os) in
    let known : All (λ (v : Var). v.0 < var_count p) os = subst (λ (xs : List Var). All (λ (v : Var). v.0 < var_count p) xs) (sym e) wf.objectives in (
      subst (λ (xs : List Var). option_map of_clause (slice_get (cut xs (values_at values xs)) part) ≡ Some (of_clause (record { atoms = part_atoms os (values_at values os) part }))) e
          (atoms_there (cut os (values_at values os)) part within),
      (
        (subst (λ (n : ℕ). All (λ (v : Var). v.0 < n) os) (sym fit.count) known, fit.sizes, h),
        AreKnown-part_atoms (var_count p) values os part h known,
      ),
    )
