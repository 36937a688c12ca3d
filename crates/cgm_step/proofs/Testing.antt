-- The tests of an entry as far as a loop has come.
use Rattle.std.proofs.Common.{◌≡◌, ℕ, ◌≤◌, Bool, true, false, cond, not, nat_lt, List, ◌∷◌, length, map, drop, [], ap, sym, subst, inr, ◌∙◌, arith}
use Rattle.std.specs.Prelude.{ℤ, pos, ◌+ℤ◌, ◌-ℤ◌, int_le, int_lt}
use Rattle.std.specs.declared.option.Option.{Option}
use Rattle.std.specs.declared.option.Option.TheVariants.{Some, None}
use Rattle.std.specs.List.{position_from}
use Rattle.std.specs.Option.{is_none, option_and_then}
use Rattle.std.proofs.lemmas.Int.{ints}
use Rattle.std.proofs.lemmas.List.{drop_all}
use Rattle.cgm_atom.specs.declared.constraints.Atom.{Atom}
use Rattle.cgm_atom.specs.declared.constraints.Clause.{Clause}
use Rattle.cgm_atom.specs.declared.entries.Entry.TheVariants.{Best}
use Rattle.cgm_atom.specs.declared.entries.Hint.{Hint}
use Rattle.cgm_atom.specs.Acceptance.{first_fault, is_refuted}
use Rattle.cgm_atom.specs.Atoms.{negation}
use Rattle.cgm_atom.specs.Bounds.{Bounds, IsBoxOf, lower_of, upper_of}
use Rattle.cgm_atom.specs.Instance.{Instance}
use Rattle.cgm_atom.specs.LogState.{LogState, all_narrowed, named}
use Rattle.cgm_atom.specs.Narrowing.{all_assumed, is_false_in, is_true_in, made_true}
use Rattle.cgm_atom.proofs.RowTightening.{length-made_true}
use Rattle.cgm_step.specs.Touching.{ChangesOnly, IsAmong, vars_of_atoms}
use Rattle.cgm_step.proofs.Touching.{changes_both, changes_more, first_among, made_true_changes}

-- ---- the first item with a fault

abbrev pub is_unknown : ℕ → Atom → Bool
is_unknown count a = not (nat_lt a.var.0 count)

abbrev pub is_missing : Instance → LogState → Hint → Bool
is_missing p s h = is_none (named p s h)

-- past the end there is none
pub first_nowhere : {X : Type 0} (f : X → Bool) (xs : List X) (i : ℕ) → length xs ≤ i → position_from f i (drop i xs) ≡ position_from f 0 xs → position_from f 0 xs ≡ None
first_nowhere f xs i h far = sym far ∙ ap (position_from f i) (drop_all i xs h)

-- who made an entry makes no difference
pub first_fault-Best : (p : Instance) (s : LogState) (by : ℕ) (values same : List ℤ) → same ≡ values → first_fault p s (Best by values) ≡ first_fault p s (Best 0 same)
unfolding first_fault
first_fault-Best p s by values same e = sym (ap (λ (xs : List ℤ). first_fault p s (Best 0 xs)) e)

-- ---- negations

not_true : (a l : ℤ) → int_lt (a -ℤ pos 1) l ≡ int_le a l
not_true a l = grind (arith, ints)

not_true_below : (a u : ℤ) → int_lt u (a +ℤ pos 1) ≡ int_le u a
not_true_below a u = grind (arith, ints)

opposite : (b : Bounds) (x : ℕ) (up : Bool) (k : ℤ) → cond (not up) (int_lt (upper_of b x) (cond up (k -ℤ pos 1) (k +ℤ pos 1))) (int_lt (cond up (k -ℤ pos 1) (k +ℤ pos 1)) (lower_of b x)) ≡ cond up (int_le k (lower_of b x)) (int_le (upper_of b x) k)
opposite b x true k = not_true k (lower_of b x)
opposite b x false k = not_true_below k (upper_of b x)

-- a negation is false where the atom is true
pub is_false_in-negation : (b : Bounds) (a : Atom) → is_false_in b (negation a) ≡ is_true_in b a
is_false_in-negation b a = opposite b a.var.0 a.at_least a.k

pub record AreAssumedSoFar (old : Bounds) (atoms rest : List Atom) (now : Bounds) : Type 0 where
  pub left : all_assumed now (map negation rest) ≡ all_assumed old (map negation atoms)
  pub count : length now.lower ≡ length old.lower
  pub among : (x : ℕ) → IsAmong x (vars_of_atoms rest) → IsAmong x (vars_of_atoms atoms)
  pub touched : ChangesOnly (vars_of_atoms atoms) old now
  pub within : (limits : Bounds) → IsBoxOf limits old → IsBoxOf limits now

pub assuming_steps : (old : Bounds) (atoms rest : List Atom) (a : Atom) (now new : Bounds) → AreAssumedSoFar old atoms (a ∷ rest) now → is_true_in now a ≡ false → new ≡ made_true now (negation a) → ((limits : Bounds) → IsBoxOf limits now → IsBoxOf limits new) → AreAssumedSoFar old atoms rest new
assuming_steps old atoms rest a now new far e h within = record {
  left =
      ap (λ (b : Bounds). all_assumed b (map negation rest)) h
      ∙ sym (ap (λ (t : Bool). cond t None (all_assumed (made_true now (negation a)) (map negation rest))) (is_false_in-negation now a ∙ e))
      ∙ far.left;
  count = ap (λ (b : Bounds). length b.lower) h ∙ length-made_true now (negation a) ∙ far.count;
  among = λ x k. far.among x (inr k);
  touched =
      changes_both (vars_of_atoms atoms) old now new far.touched
      (subst (λ (b : Bounds). ChangesOnly (vars_of_atoms atoms) now b) (sym h)
      (changes_more (a.var.0 ∷ []) (vars_of_atoms atoms) now (made_true now (negation a)) (λ x k. far.among x (first_among x a.var.0 (vars_of_atoms rest) k)) (made_true_changes now (negation a))));
  within = λ limits place. within limits (far.within limits place);
}

pub assuming_stops : (old : Bounds) (atoms rest : List Atom) (a : Atom) (now : Bounds) → AreAssumedSoFar old atoms (a ∷ rest) now → is_true_in now a ≡ true → all_assumed old (map negation atoms) ≡ None
assuming_stops old atoms rest a now far e =
    sym far.left
    ∙ ap (λ (t : Bool). cond t None (all_assumed (made_true now (negation a)) (map negation rest))) (is_false_in-negation now a ∙ e)

-- ---- refutations

pub refuted_at_once : (p : Instance) (s : LogState) (c : Clause) (hints : List Hint) (b : Bounds) → b ≡ p.bounds → all_assumed b (map negation c.atoms) ≡ None → true ≡ is_refuted p s c hints
unfolding is_refuted
refuted_at_once p s c hints b same e =
    let none : all_assumed p.bounds (map negation c.atoms) ≡ None = subst (λ (x : Bounds). all_assumed x (map negation c.atoms) ≡ None) same e in
    sym (ap (λ (o : Option Bounds). is_none (option_and_then (λ x. all_narrowed p s x hints) o)) none)

pub refuted_by_hints : (p : Instance) (s : LogState) (c : Clause) (hints : List Hint) (b left : Bounds) (t : Bool) → b ≡ p.bounds → all_assumed b (map negation c.atoms) ≡ Some left → t ≡ is_none (all_narrowed p s left hints) → t ≡ is_refuted p s c hints
unfolding is_refuted
refuted_by_hints p s c hints b left t same e k =
    let some : all_assumed p.bounds (map negation c.atoms) ≡ Some left = subst (λ (x : Bounds). all_assumed x (map negation c.atoms) ≡ Some left) same e in
    k ∙ sym (ap (λ (o : Option Bounds). is_none (option_and_then (λ x. all_narrowed p s x hints) o)) some)
