-- What a clause gives is given by a unit clause, and a clause that is neither false nor unit is quiet.
use Rattle.std.proofs.Common.{◌≡◌, ◌⊎◌, ◌↔◌, inl, inr, ℕ, ◌<◌, Bool, true, false, List, [], ◌∷◌, length, refl, sym, ap, subst, ◌∙◌, arith}
use Rattle.std.specs.Prelude.{ℤ, pos, ◌<ℤ◌, int_le, not}
use Rattle.std.specs.declared.option.Option.TheVariants.{Some, None}
use Rattle.std.specs.Int.{int_max, int_min}
use Rattle.std.specs.List.{All}
use Rattle.std.proofs.lemmas.Bool.{cases_eq}
use Rattle.std.proofs.lemmas.Int.{ints, clamps}
use Rattle.std.proofs.lemmas.List.{get_or-set_other, get_or-set_same}
use Rattle.std.proofs.lemmas.List.Elements.{All-filter, All-head, filter_passes}
use Rattle.cgm_atom.specs.declared.constraints.Atom.{Atom}
use Rattle.cgm_atom.specs.declared.constraints.Clause.{Clause}
use Rattle.cgm_atom.specs.Bounds.{Bounds, lower_of, upper_of}
use Rattle.cgm_atom.specs.ClauseAtoms.{AreKnown, left_in}
use Rattle.cgm_atom.specs.Constraints.{of_clause}
use Rattle.cgm_atom.specs.Narrowing.{is_false_in, is_true_in, left_by_clause, made_true, raised, reduced}
use Rattle.cgm_atom.specs.Relaxing.{bound_of}
use Rattle.cgm_trail.specs.Steps.{IsGiven}
use Rattle.cgm_trail.specs.TrailState.{IsOpenIn}
use Rattle.cgm_clauses.specs.Standing.{IsFalseIn, IsQuietIn, IsUnitBy, IsUnitIn}
use Rattle.cgm_clauses.proofs.Standings.{left_as, made_is_true, true_made_same}

-- ---- two atoms that set the same bound

raised_number : (b : Bounds) (x : ℕ) (k k' : ℤ) → x < length b.lower → int_le k (lower_of b x) ≡ false → int_le k' (lower_of b x) ≡ false → lower_of (raised b x k') x ≡ lower_of (raised b x k) x → k ≡ k'
raised_number b x k k' known h h' e =
    let above : lower_of b x <ℤ k = grind (arith, ints) in
    let above' : lower_of b x <ℤ k' = grind (arith, ints) in
    let same : int_max (lower_of b x) k' ≡ int_max (lower_of b x) k = sym (get_or-set_same b.lower x (int_max (lower_of b x) k') (pos 0) known) ∙ e ∙ get_or-set_same b.lower x (int_max (lower_of b x) k) (pos 0) known in
    omega (arith, ints, clamps)

reduced_number : (b : Bounds) (x : ℕ) (k k' : ℤ) → x < length b.upper → int_le (upper_of b x) k ≡ false → int_le (upper_of b x) k' ≡ false → upper_of (reduced b x k') x ≡ upper_of (reduced b x k) x → k ≡ k'
reduced_number b x k k' known h h' e =
    let below : k <ℤ upper_of b x = grind (arith, ints) in
    let below' : k' <ℤ upper_of b x = grind (arith, ints) in
    let same : int_min (upper_of b x) k' ≡ int_min (upper_of b x) k = sym (get_or-set_same b.upper x (int_min (upper_of b x) k') (pos 0) known) ∙ e ∙ get_or-set_same b.upper x (int_min (upper_of b x) k) (pos 0) known in
    omega (arith, ints, clamps)

contrary : (t : Bool) → t ≡ true → t ≡ false → ⊥
contrary t h k = absurd (cc)

raised_by_cases : (b : Bounds) (x x' : ℕ) (k k' : ℤ) → (x ≡ x') ⊎ (x ≡ x' → ⊥) → x' < length b.lower → int_le k (lower_of b x) ≡ false → int_le k' (lower_of b x') ≡ false → int_le k (lower_of (raised b x' k') x) ≡ true → lower_of (raised b x' k') x ≡ lower_of (raised b x k) x → (x ≡ x') × (k ≡ k')
raised_by_cases b x x' k k' (inl same) known h h' made e =
    let other : int_le k' (lower_of b x) ≡ false = subst (λ y. int_le k' (lower_of b y) ≡ false) (sym same) h' in
    let here : lower_of (raised b x k') x ≡ lower_of (raised b x k) x = subst (λ y. lower_of (raised b y k') x ≡ lower_of (raised b x k) x) (sym same) e in
    (same, raised_number b x k k' (omega arith) h other here)
raised_by_cases b x x' k k' (inr other) known h h' made e =
    absurd (contrary (int_le k (lower_of b x)) (ap (int_le k) (sym (get_or-set_other b.lower x' x (int_max (lower_of b x') k') (pos 0) other)) ∙ made) h)

reduced_by_cases : (b : Bounds) (x x' : ℕ) (k k' : ℤ) → (x ≡ x') ⊎ (x ≡ x' → ⊥) → x' < length b.upper → int_le (upper_of b x) k ≡ false → int_le (upper_of b x') k' ≡ false → int_le (upper_of (reduced b x' k') x) k ≡ true → upper_of (reduced b x' k') x ≡ upper_of (reduced b x k) x → (x ≡ x') × (k ≡ k')
reduced_by_cases b x x' k k' (inl same) known h h' made e =
    let other : int_le (upper_of b x) k' ≡ false = subst (λ y. int_le (upper_of b y) k' ≡ false) (sym same) h' in
    let here : upper_of (reduced b x k') x ≡ upper_of (reduced b x k) x = subst (λ y. upper_of (reduced b y k') x ≡ upper_of (reduced b x k) x) (sym same) e in
    (same, reduced_number b x k k' (omega arith) h other here)
reduced_by_cases b x x' k k' (inr other) known h h' made e =
    absurd (contrary (int_le (upper_of b x) k) (ap (λ u. int_le u k) (sym (get_or-set_other b.upper x' x (int_min (upper_of b x') k') (pos 0) other)) ∙ made) h)

abbrev atom_of : ℕ → Bool → ℤ → Atom
atom_of x up k = record { var = record { 0 = x }; at_least = up; k = k }

same_atom_by : (b : Bounds) (x x' : ℕ) (up up' : Bool) (k k' : ℤ) → x' < length b.lower → length b.upper ≡ length b.lower → is_true_in b (atom_of x up k) ≡ false → is_true_in b (atom_of x' up' k') ≡ false → is_true_in (made_true b (atom_of x' up' k')) (atom_of x up k) ≡ true → bound_of (made_true b (atom_of x' up' k')) (atom_of x up k) ≡ bound_of (made_true b (atom_of x up k)) (atom_of x up k) → (x ≡ x') × (up ≡ up') × (k ≡ k')
same_atom_by b x x' true true k k' known same h h' made e =
    let both = raised_by_cases b x x' k k' (cases_eq x x') known h h' made e in
    (both.0, refl, both.1)
same_atom_by b x x' true false k k' known same h h' made e = absurd (contrary (int_le k (lower_of b x)) made h)
same_atom_by b x x' false true k k' known same h h' made e = absurd (contrary (int_le (upper_of b x) k) made h)
same_atom_by b x x' false false k k' known same h h' made e =
    let both = reduced_by_cases b x x' k k' (cases_eq x x') (omega arith) h h' made e in
    (both.0, refl, both.1)

atom_from : (x x' : ℕ) (up up' : Bool) (k k' : ℤ) → x ≡ x' → up ≡ up' → k ≡ k' → atom_of x' up' k' ≡ atom_of x up k
atom_from x x' up up' k k' e f g = rw (e, f, g) refl

same_atom : (b : Bounds) (a a' : Atom) → a'.var.0 < length b.lower → length b.upper ≡ length b.lower → is_true_in b a ≡ false → is_true_in b a' ≡ false → is_true_in (made_true b a') a ≡ true → bound_of (made_true b a') a ≡ bound_of (made_true b a) a → a' ≡ a
same_atom b a a' known same h h' made e =
    let parts = same_atom_by b a.var.0 a'.var.0 a.at_least a'.at_least a.k a'.k known same h h' made e in
    atom_from a.var.0 a'.var.0 a.at_least a'.at_least a.k a'.k parts.0 parts.1 parts.2

-- ---- the atoms that are left

unless_false : (t : Bool) → not t ≡ true → t ≡ false
unless_false true h = absurd (cc)
unless_false false h = refl

left_known : (b : Bounds) (count : ℕ) (atoms : List Atom) (a : Atom) (rest : List Atom) → AreKnown count atoms → left_in b atoms ≡ a ∷ rest → a.var.0 < count
left_known b count atoms a rest known e =
    All-head (λ (x : Atom). x.var.0 < count) a rest
    (subst (λ xs. All (λ (x : Atom). x.var.0 < count) xs) e (All-filter (λ x. not (is_false_in b x)) (λ x. x.var.0 < count) atoms known))

left_open : (b : Bounds) (atoms : List Atom) (a : Atom) (rest : List Atom) → left_in b atoms ≡ a ∷ rest → is_false_in b a ≡ false
left_open b atoms a rest e =
    unless_false (is_false_in b a)
    (All-head (λ x. not (is_false_in b x) ≡ true) a rest
    (subst (λ xs. All (λ x. not (is_false_in b x) ≡ true) xs) e (filter_passes (λ x. not (is_false_in b x)) atoms)))

-- ---- the laws

-- the atom that is left is open, or it changes nothing
given_by_one : (b : Bounds) (c : Clause) (a a' : Atom) (t : Bool) → is_true_in b a' ≡ t → length b.upper ≡ length b.lower → AreKnown (length b.lower) c.atoms → IsOpenIn b a → IsGiven b (of_clause c) a → left_in b c.atoms ≡ a' ∷ [] → IsUnitBy b c a
given_by_one b c a a' true h same known undecided given e =
    let left : left_by_clause b c ≡ Some b = left_as b c (a' ∷ []) e ∙ ap Some (true_made_same b a' h) in
    let made : is_true_in b a ≡ true = rw left at given.cause in
    absurd (contrary (is_true_in b a) made undecided.not_true)
given_by_one b c a a' false h same known undecided given e =
    let left : left_by_clause b c ≡ Some (made_true b a') = left_as b c (a' ∷ []) e in
    let made : is_true_in (made_true b a') a ≡ true = rw left at given.cause in
    let exact : bound_of (made_true b a') a ≡ bound_of (made_true b a) a = rw left at given.exact in
    let one : a' ≡ a = same_atom b a a' (left_known b (length b.lower) c.atoms a' [] known e) same undecided.not_true h made exact in
    record { only = e ∙ ap (λ (x : Atom). x ∷ []) one; undecided = undecided }

given_by : (b : Bounds) (c : Clause) (a : Atom) (kept : List Atom) → length b.upper ≡ length b.lower → AreKnown (length b.lower) c.atoms → IsOpenIn b a → IsGiven b (of_clause c) a → left_in b c.atoms ≡ kept → IsUnitBy b c a
given_by b c a [] same known undecided given e =
    let left : left_by_clause b c ≡ None = left_as b c [] e in
    absurd (rw left at given.cause)
given_by b c a (a' ∷ []) same known undecided given e = given_by_one b c a a' (is_true_in b a') refl same known undecided given e
given_by b c a (a' ∷ a'' ∷ kept) same known undecided given e =
    let left : left_by_clause b c ≡ Some b = left_as b c (a' ∷ a'' ∷ kept) e in
    let made : is_true_in b a ≡ true = rw left at given.cause in
    absurd (contrary (is_true_in b a) made undecided.not_true)

pub given_by_unit : (b : Bounds) (c : Clause) (a : Atom) → length b.upper ≡ length b.lower → AreKnown (length b.lower) c.atoms → IsOpenIn b a → IsGiven b (of_clause c) a → IsUnitBy b c a
given_by_unit b c a same known undecided given = given_by b c a (left_in b c.atoms) same known undecided given refl

some_is_none : (b : Bounds) → (Some b) ≡ None → ⊥
some_is_none b e = absurd (cc)

same_some : (b b' : Bounds) → Some b ≡ Some b' → b ≡ b'
same_some b b' e = cc

quiet_not_unit : (b : Bounds) (c : Clause) → length b.upper ≡ length b.lower → IsQuietIn b c → IsUnitIn b c → ⊥
quiet_not_unit b c same quiet (a, unit) =
    let left : left_by_clause b c ≡ Some (made_true b a) = left_as b c (a ∷ []) unit.only in
    let stays : made_true b a ≡ b = same_some (made_true b a) b (sym left ∙ quiet) in
    let made : is_true_in b a ≡ true = subst (λ x. is_true_in x a ≡ true) stays (made_is_true b a unit.undecided.known same) in
    contrary (is_true_in b a) made unit.undecided.not_true

quiet_by_one : (b : Bounds) (c : Clause) (a : Atom) (t : Bool) → is_true_in b a ≡ t → AreKnown (length b.lower) c.atoms → (IsUnitIn b c → ⊥) → left_in b c.atoms ≡ a ∷ [] → IsQuietIn b c
quiet_by_one b c a true h known no_unit e = left_as b c (a ∷ []) e ∙ ap Some (true_made_same b a h)
quiet_by_one b c a false h known no_unit e =
    absurd (no_unit (
      a,
      record {
        only = e;
        undecided = record { known = left_known b (length b.lower) c.atoms a [] known e; not_true = h; not_false = left_open b c.atoms a [] e };
      },
    ))

quiet_by_kept : (b : Bounds) (c : Clause) (kept : List Atom) → AreKnown (length b.lower) c.atoms → (IsFalseIn b c → ⊥) → (IsUnitIn b c → ⊥) → left_in b c.atoms ≡ kept → IsQuietIn b c
quiet_by_kept b c [] known no_false no_unit e = absurd (no_false (left_as b c [] e))
quiet_by_kept b c (a ∷ []) known no_false no_unit e = quiet_by_one b c a (is_true_in b a) refl known no_unit e
quiet_by_kept b c (a ∷ a' ∷ kept) known no_false no_unit e = left_as b c (a ∷ a' ∷ kept) e

pub quiet_neither : (b : Bounds) (c : Clause) → length b.upper ≡ length b.lower → AreKnown (length b.lower) c.atoms → IsQuietIn b c ↔ ((¬ IsFalseIn b c) × (¬ IsUnitIn b c))
quiet_neither b c same known = (
  λ quiet. (λ no. some_is_none b (sym quiet ∙ no), λ unit. quiet_not_unit b c same quiet unit),
  λ no. quiet_by_kept b c (left_in b c.atoms) known no.0 no.1 refl,
)
