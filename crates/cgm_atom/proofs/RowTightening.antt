-- The terms of a row that have tightened a box as far as a loop has come.
use Rattle.std.proofs.Common.{◌≡◌, ◌≢◌, ℕ, zero, suc, Bool, true, false, cond, List, [], ◌∷◌, length, refl, ap, sym, ◌∙◌, subst, arith, length-set}
use Rattle.std.specs.Prelude.{ℤ, pos, negsuc, ◌+ℤ◌, ◌-ℤ◌, ◌≤ℤ◌, ◌<ℤ◌, ◌/◌, int_lt, unsigned_abs}
use Rattle.std.specs.declared.option.Option.TheVariants.{Some}
use Rattle.std.specs.Int.{int_max, int_min}
use Rattle.std.proofs.lemmas.Int.{ints}
use Rattle.std.proofs.lemmas.List.{get_or-set_other}
use Rattle.cgm_atom.specs.declared.constraints.Atom.{Atom}
use Rattle.cgm_atom.specs.declared.constraints.Row.{Row}
use Rattle.cgm_atom.specs.declared.constraints.Var.{Var}
use Rattle.cgm_atom.specs.Bounds.{Bounds, IsBoxOf, AreProperBounds, lower_of, upper_of}
use Rattle.cgm_atom.specs.Limits.{AreTermsOf, IsAbsent}
use Rattle.cgm_atom.specs.Narrowing.{greatest_activity, is_claimed_in, left_by_met, left_by_row, left_by_unmet, made_true, raised, reduced, tightened_by_term, tightened_by_terms}
use Rattle.cgm_atom.specs.declared.outcome.Narrowed.{Narrowed}
use Rattle.cgm_atom.specs.declared.outcome.Narrowed.TheVariants.{Same}
use Rattle.cgm_atom.specs.Outcome.{IsTightening, outcomes_joined}
use Rattle.cgm_atom.specs.Steps.{AreBounds, IsKeptAtom}
use Rattle.cgm_atom.proofs.Tightening.{AreBounds-inside, IsBoxOf-itself, tightening_after}

-- two boxes have the same bounds of a variable
abbrev pub AgreesAt : Bounds → Bounds → ℕ → Type 0
AgreesAt old now x = (lower_of now x ≡ lower_of old x) × (upper_of now x ≡ upper_of old x)

-- and of the variable of each term
abbrev pub AgreesOn : Bounds → Bounds → List (ℤ × Var) → Type 0
AgreesOn old now [] = Unit {0}
AgreesOn old now (t ∷ terms) = AgreesAt old now t.1.0 × AgreesOn old now terms

AgreesOn-itself : (b : Bounds) (terms : List (ℤ × Var)) → AgreesOn b b terms
AgreesOn-itself b [] = tt
AgreesOn-itself b (t ∷ terms) = ((refl, refl), AgreesOn-itself b terms)

elsewhere : (b : Bounds) (i x : ℕ) (up : Bool) (k : ℤ) → x ≢ i → AgreesAt b (cond up (raised b i k) (reduced b i k)) x
elsewhere b i x true k h = (get_or-set_other b.lower i x (int_max (lower_of b i) k) (pos 0) h, refl)
elsewhere b i x false k h = (refl, get_or-set_other b.upper i x (int_min (upper_of b i) k) (pos 0) h)

AgreesOn-made_true : (old now : Bounds) (a : Atom) (terms : List (ℤ × Var)) → IsAbsent a.var.0 terms → AgreesOn old now terms → AgreesOn old (made_true now a) terms
AgreesOn-made_true old now a [] absent agrees = tt
AgreesOn-made_true old now a (t ∷ terms) absent agrees =
    let same = elsewhere now a.var.0 t.1.0 a.at_least a.k absent.0 in
    ((same.0 ∙ agrees.0.0, same.1 ∙ agrees.0.1), AgreesOn-made_true old now a terms absent.1 agrees.1)

counted : (b : Bounds) (i : ℕ) (up : Bool) (k : ℤ) → length (cond up (raised b i k) (reduced b i k)).lower ≡ length b.lower
counted b i true k = length-set b.lower i (int_max (lower_of b i) k)
counted b i false k = refl

pub length-made_true : (b : Bounds) (a : Atom) → length (made_true b a).lower ≡ length b.lower
length-made_true b a = counted b a.var.0 a.at_least a.k

-- a term tightens alike from boxes that agree at its variable
tightened_alike : (old now : Bounds) (room : ℕ) (c : ℤ) (x : Var) (b : Bounds) → AgreesAt old now x.0 → tightened_by_term old room c x b ≡ tightened_by_term now room c x b
tightened_alike old now room (pos zero) x b h = refl
tightened_alike old now room (pos (suc n)) x b h =
    ap (λ (u : ℤ). made_true b (record { var = x; at_least = true; k = u -ℤ pos (room / suc n) })) (sym h.1)
tightened_alike old now room (negsuc n) x b h =
    ap (λ (l : ℤ). made_true b (record { var = x; at_least = false; k = l +ℤ pos (room / suc n) })) (sym h.0)

pub record IsTightenedSoFar (old : Bounds) (room : ℕ) (terms rest : List (ℤ × Var)) (now : Bounds) (outcome : Narrowed) : Type 0 where
  pub left : tightened_by_terms old room rest now ≡ tightened_by_terms old room terms old
  pub agrees : AgreesOn old now rest
  pub known : AreTermsOf (length now.lower) rest
  pub sizes : AreBounds now
  pub answer : IsTightening old now outcome
  pub within : (limits : Bounds) → IsBoxOf limits old → IsBoxOf limits now

pub tightening_begins : (b : Bounds) (room : ℕ) (terms : List (ℤ × Var)) → AreTermsOf (length b.lower) terms → AreBounds b → IsTightenedSoFar b room terms terms b Same
tightening_begins b room terms known sizes = record {
  left = refl;
  agrees = AgreesOn-itself b terms;
  known = known;
  sizes = sizes;
  answer = refl;
  within = λ limits box. box;
}

pub tightening_steps : (old : Bounds) (room : ℕ) (terms rest : List (ℤ × Var)) (t : ℤ × Var) (now new : Bounds) (a : Atom) (outcome step : Narrowed) → IsTightenedSoFar old room terms (t ∷ rest) now outcome → IsKeptAtom now room t.0 t.1 a → AreProperBounds now → new ≡ made_true now a → IsTightening now new step → ((limits : Bounds) → IsBoxOf limits now → IsBoxOf limits new) → IsTightenedSoFar old room terms rest new (outcomes_joined outcome step)
tightening_steps old room terms rest t now new a outcome step far kept proper e answer within =
    let own : IsBoxOf now new = within now (IsBoxOf-itself now proper) in
    let same : a.var.0 ≡ t.1.0 = ap (λ (x : Var). x.0) kept.var in
    record {
      left =
          ap (tightened_by_terms old room rest) (e ∙ sym (tightened_alike old now room t.0 t.1 now far.agrees.0 ∙ kept.tightened)) ∙ far.left;
      agrees =
          subst (λ (b : Bounds). AgreesOn old b rest) (sym e)
          (AgreesOn-made_true old now a rest (subst (λ (x : ℕ). IsAbsent x rest) (sym same) far.known.2) far.agrees.1);
      known = subst (λ (n : ℕ). AreTermsOf n rest) (sym (ap (λ (b : Bounds). length b.lower) e ∙ length-made_true now a)) far.known.3;
      sizes = AreBounds-inside now new far.sizes own.inside own.ordered;
      answer = tightening_after old now new outcome step own.inside far.answer answer;
      within = λ limits box. within limits (far.within limits box);
    }

-- ---- what a row leaves, by its tests

lt_true : (a b : ℤ) → a <ℤ b → int_lt a b ≡ true
lt_true a b h = grind (arith, ints)

le_false : (a b : ℤ) → b ≤ℤ a → int_lt a b ≡ false
le_false a b h = grind (arith, ints)

by_met : (b : Bounds) (r : Row) (t : Bool) → int_lt (greatest_activity b r.terms) r.least ≡ false → is_claimed_in b r.guard ≡ t → left_by_row b r ≡ Some (cond t (tightened_by_terms b (unsigned_abs (greatest_activity b r.terms -ℤ r.least)) r.terms b) b)
unfolding left_by_row
by_met b r t e h =
    ap (λ (s : Bool). cond s (left_by_unmet b r.guard) (Some (left_by_met b r))) e
    ∙ ap (λ (s : Bool). Some (cond s (tightened_by_terms b (unsigned_abs (greatest_activity b r.terms -ℤ r.least)) r.terms b) b)) h

pub left_by_row-unmet : (b : Bounds) (r : Row) (most : ℤ) → most ≡ greatest_activity b r.terms → most <ℤ r.least → left_by_row b r ≡ left_by_unmet b r.guard
unfolding left_by_row
left_by_row-unmet b r most e h =
    ap (λ (s : Bool). cond s (left_by_unmet b r.guard) (Some (left_by_met b r)))
    (lt_true (greatest_activity b r.terms) r.least (subst (λ (m : ℤ). m <ℤ r.least) e h))

pub left_by_row-claimed : (b : Bounds) (r : Row) (most : ℤ) → most ≡ greatest_activity b r.terms → r.least ≤ℤ most → is_claimed_in b r.guard ≡ true → left_by_row b r ≡ Some (tightened_by_terms b (unsigned_abs (most -ℤ r.least)) r.terms b)
left_by_row-claimed b r most e h claimed =
    by_met b r true (le_false (greatest_activity b r.terms) r.least (subst (λ (m : ℤ). r.least ≤ℤ m) e h)) claimed
    ∙ ap (λ (m : ℤ). Some (tightened_by_terms b (unsigned_abs (m -ℤ r.least)) r.terms b)) (sym e)

pub left_by_row-open : (b : Bounds) (r : Row) (most : ℤ) → most ≡ greatest_activity b r.terms → r.least ≤ℤ most → is_claimed_in b r.guard ≡ false → left_by_row b r ≡ Some b
left_by_row-open b r most e h claimed =
    by_met b r false (le_false (greatest_activity b r.terms) r.least (subst (λ (m : ℤ). r.least ≤ℤ m) e h)) claimed
