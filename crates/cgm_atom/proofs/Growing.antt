-- A problem with one more variable is well formed.
use Rattle.std.proofs.Common.{◌≡◌, ℕ, zero, suc, ◌+◌, ◌-◌, ◌^◌, ◌<◌, ◌≤◌, List, [], ◌∷◌, ◌++◌, length, get_or, refl, arith, rules, length-append}
use Rattle.std.specs.Prelude.{ℤ, pos, ◌≤ℤ◌, IfSome}
use Rattle.std.specs.declared.option.Option.{Option}
use Rattle.std.specs.declared.option.Option.TheVariants.{Some, None}
use Rattle.std.proofs.lemmas.List.{get_or_append_left}
use Rattle.cgm_atom.specs.declared.constraints.Atom.{Atom}
use Rattle.cgm_atom.specs.declared.constraints.Clause.{Clause}
use Rattle.cgm_atom.specs.declared.constraints.Row.{Row}
use Rattle.cgm_atom.specs.declared.constraints.Var.{Var}
use Rattle.cgm_atom.specs.Bounds.{Bounds, value_of, lower_of, upper_of}
use Rattle.cgm_atom.specs.Building.{with_var}
use Rattle.cgm_atom.specs.Instance.{Instance, var_count}
use Rattle.cgm_atom.specs.Limits.{IsBound, IsAtomOf, IsClauseOf, AreTermsOf, IsRowOf, IsWellFormedProblem, greatest_size, measure}

-- what holds of the two values at each place holds still after one more of each
each_of_both_pushed : (P : ℤ → ℤ → Type 0) (ls us : List ℤ) (l u : ℤ) → P (pos 0) (pos 0) → length us ≡ length ls → ((x : ℕ) → P (value_of ls x) (value_of us x)) → P l u → (x : ℕ) → P (value_of (ls ++ l ∷ []) x) (value_of (us ++ u ∷ []) x)
each_of_both_pushed P [] [] l u z e h p zero = p
each_of_both_pushed P [] [] l u z e h p (suc x) = z
each_of_both_pushed P [] (b ∷ us) l u z e h p x = absurd (omega arith)
each_of_both_pushed P (a ∷ ls) [] l u z e h p x = absurd (omega arith)
each_of_both_pushed P (a ∷ ls) (b ∷ us) l u z e h p zero = h zero
each_of_both_pushed P (a ∷ ls) (b ∷ us) l u z e h p (suc x) =
    each_of_both_pushed P ls us l u z (omega arith) (λ y. h (suc y)) p x

atom_of_more : (n m : ℕ) (a : Atom) → n ≤ m → IsAtomOf n a → IsAtomOf m a
atom_of_more n m a h atom_of = (omega (arith, atom_of.0), atom_of.1)

clause_of_more : (n m : ℕ) (c : Clause) → n ≤ m → IsClauseOf n c → IsClauseOf m c
clause_of_more n m c h clause_of = λ i a inside. atom_of_more n m (get_or c.atoms i a) h (clause_of i a inside)

terms_of_more : (n m : ℕ) (terms : List (ℤ × Var)) → n ≤ m → AreTermsOf n terms → AreTermsOf m terms
terms_of_more n m [] h terms_of = tt
terms_of_more n m (t ∷ terms) h terms_of =
    (omega (arith, terms_of.0), terms_of.1, terms_of.2, terms_of_more n m terms h terms_of.3)

guard_of_more : (g : Option Atom) (n m : ℕ) → n ≤ m → IfSome g (λ a. a.var.0 < n) → IfSome g (λ a. a.var.0 < m)
guard_of_more None n m h guard = guard
guard_of_more (Some a) n m h guard = omega (arith, guard)

-- the bounds with more at their ends
abbrev pub longer : Bounds → List ℤ → List ℤ → Bounds
longer b ls us = record { lower = b.lower ++ ls; upper = b.upper ++ us }

greatest_size-longer : (b : Bounds) (ls us : List ℤ) (x : ℕ) → length b.upper ≡ length b.lower → x < length b.lower → greatest_size (longer b ls us) x ≡ greatest_size b x
greatest_size-longer b ls us x e h =
    let low : lower_of (longer b ls us) x ≡ lower_of b x = get_or_append_left b.lower ls (pos 0) x h in
    let high : upper_of (longer b ls us) x ≡ upper_of b x = get_or_append_left b.upper us (pos 0) x (omega arith) in
    rw (low, high) refl

pub measure-longer : (b : Bounds) (ls us : List ℤ) (terms : List (ℤ × Var)) → length b.upper ≡ length b.lower → AreTermsOf (length b.lower) terms → measure (longer b ls us) terms ≡ measure b terms
measure-longer b ls us [] e h = refl
measure-longer b ls us (t ∷ terms) e h =
    rw (greatest_size-longer b ls us t.1.0 e h.0, measure-longer b ls us terms e h.3) refl

row_of_pushed : (b : Bounds) (lo hi : ℤ) (r : Row) → length b.upper ≡ length b.lower → IsRowOf b r → IsRowOf (longer b (lo ∷ []) (hi ∷ [])) r
row_of_pushed b lo hi r e h =
    let more : length (longer b (lo ∷ []) (hi ∷ [])).lower ≡ length b.lower + 1 = length-append b.lower (lo ∷ []) in
    record {
      guard = guard_of_more r.guard (length b.lower) (length (longer b (lo ∷ []) (hi ∷ [])).lower) (omega arith) h.guard;
      terms = terms_of_more _ _ r.terms (omega arith) h.terms;
      measure_limit = rw (measure-longer b (lo ∷ []) (hi ∷ []) r.terms e h.terms) h.measure_limit;
      least_limit = h.least_limit;
    }

pub IsWellFormed-with_var : (p : Instance) (lo hi : ℤ) → IsWellFormedProblem p → lo ≤ℤ hi → IsBound lo → IsBound hi → var_count p < 2 ^ 32 - 1 → IsWellFormedProblem (with_var p lo hi)
IsWellFormed-with_var p lo hi h order low high room =
    let more : length (p.bounds.lower ++ lo ∷ []) ≡ length p.bounds.lower + 1 = length-append p.bounds.lower (lo ∷ []) in
    let more_too : length (p.bounds.upper ++ hi ∷ []) ≡ length p.bounds.upper + 1 = length-append p.bounds.upper (hi ∷ []) in
    let same : length p.bounds.upper ≡ length p.bounds.lower = h.proper.same_count in
    record {
      proper = record {
        same_count = omega arith;
        ordered = each_of_both_pushed (λ l u. l ≤ℤ u) p.bounds.lower p.bounds.upper lo hi (search rules) same h.proper.ordered order;
      };
      sizes = each_of_both_pushed (λ l u. IsBound l × IsBound u) p.bounds.lower p.bounds.upper lo hi (omega arith, omega arith) same h.sizes (low, high);
      clauses = λ k d within. clause_of_more _ _ (get_or p.clauses k d) (omega arith) (h.clauses k d within);
      rows = λ k d within. row_of_pushed p.bounds lo hi _ same (h.rows k d within);
      objectives = λ k d within. omega (arith, h.objectives k d within);
      var_limit = omega arith;
      clause_limit = h.clause_limit;
      row_limit = h.row_limit;
      objective_limit = h.objective_limit;
    }
