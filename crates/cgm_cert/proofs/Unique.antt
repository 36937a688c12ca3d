-- Two printable entries with the same words are the same.
use Rattle.std.proofs.Common.{◌≡◌, ℕ, suc, ◌^◌, ◌<◌, ◌≤◌, ◌*◌, Bool, true, false, List, [], ◌∷◌, ◌++◌, get_or, eqb, All, refl, sym, ap, ◌∙◌, map, arith, codes, decimal, ℤ, unsigned_abs}
use Rattle.std.specs.Fmt.{signed_decimal}
use Rattle.std.specs.List.{slice_split}
use Rattle.std.proofs.lemmas.Fmt.{decimal_injective, signed_decimal_injective}
use Rattle.std.proofs.lemmas.List.Splits.{slice_split_at}
use Rattle.cgm_atom.specs.declared.constraints.Atom.{Atom}
use Rattle.cgm_atom.specs.declared.constraints.Clause.{Clause}
use Rattle.cgm_atom.specs.declared.entries.Entry.{Entry}
use Rattle.cgm_atom.specs.declared.entries.Entry.TheVariants.{Best, Lemma}
use Rattle.cgm_atom.specs.declared.entries.Hint.{Hint}
use Rattle.cgm_atom.specs.declared.entries.Hint.TheVariants as hint
use Rattle.cgm_atom.specs.Limits.{IsBound}
use Rattle.cgm_atom.specs.Ranges.{IsAtomInRange, IsPrintable}
use Rattle.cgm_atom.specs.AtomWords.{atom_word}
use Rattle.cgm_cert.specs.Printable.{IsHintPrintable}
use Rattle.cgm_cert.specs.Spelling.{hint_word, entry_words}
use Rattle.cgm_cert.proofs.WordLemmas.{small_mag, sign, atom_is, atom_parts, atom_left_free, atom_is_no_mark, last_is, cut_is, dot_free}
use Rattle.cgm_cert.proofs.EntryLines.{hints_are_printable}
use Rattle.cgm_cert.proofs.Rows.{marked}

signed_is : (y z : ℤ) → unsigned_abs y ≤ 2 * 10 ^ 15 → unsigned_abs z ≤ 2 * 10 ^ 15 → signed_decimal y ≡ signed_decimal z → y ≡ z
signed_is y z one other e = signed_decimal_injective y z (small_mag y (omega (arith, one))) (small_mag z (omega (arith, other))) e

value_is : (y z : ℤ) → IsBound y → IsBound z → signed_decimal y ≡ signed_decimal z → y ≡ z
value_is y z one other e = signed_is y z (omega (arith, one)) (omega (arith, other)) e

small_is : (m n : ℕ) → m < 2 ^ 32 → n < 2 ^ 32 → decimal m ≡ decimal n → m ≡ n
small_is m n one other e = decimal_injective m n (omega (arith, one)) (omega (arith, other)) e

sign_tells : (a b : Bool) → sign a ≡ sign b → a ≡ b
sign_tells true true e = refl
sign_tells true false e = absurd (omega (arith, e))
sign_tells false true e = absurd (omega (arith, e))
sign_tells false false e = refl

abbrev atom_with : ℕ → Bool → ℤ → Atom
atom_with x b k = record { var = record { 0 = x }; at_least = b; k = k }

atom_unique : (a b : Atom) → IsAtomInRange a → IsAtomInRange b → atom_word a ≡ atom_word b → a ≡ b
atom_unique a b one other e =
    let split = ap (λ w. slice_split (λ x. eqb x 61) w) (atom_parts a) ∙ slice_split_at (λ x. eqb x 61) (decimal a.var.0 ++ sign a.at_least ∷ []) 61 (signed_decimal a.k) (atom_left_free a one) refl in
    let parts = atom_is (atom_word a) (decimal a.var.0 ++ sign a.at_least ∷ []) (signed_decimal a.k) b other split e in
    let left = last_is (decimal a.var.0) (decimal b.var.0) (sign a.at_least) (sign b.at_least) parts.0 in
    let var : a.var.0 ≡ b.var.0 = small_is a.var.0 b.var.0 one.0 other.0 left.0 in
    let way : a.at_least ≡ b.at_least = sign_tells a.at_least b.at_least left.1 in
    let k : a.k ≡ b.k = signed_is a.k b.k one.1 other.1 parts.1 in
    let same : atom_with a.var.0 a.at_least a.k ≡ atom_with b.var.0 b.at_least b.k = cc in
    same

abbrev first : List ℕ → ℕ
first l = get_or l 0 0

hint_unique : (g h : Hint) → IsHintPrintable g → IsHintPrintable h → hint_word g ≡ hint_word h → g ≡ h
hint_unique (hint.Clause m) (hint.Clause n) one other e = ap hint.Clause (small_is m n one.0 other.0 (cc))
hint_unique (hint.Clause m) (hint.Row n) one other e = absurd (omega (arith, ap (λ l. get_or l 0 0) e))
hint_unique (hint.Clause m) (hint.Entry n) one other e = absurd (omega (arith, ap (λ l. get_or l 0 0) e))
hint_unique (hint.Clause m) (hint.Own n) one other e = absurd other.1
hint_unique (hint.Clause m) (hint.Cut n q) one other e = absurd (omega (arith, ap (λ l. get_or l 0 0) e))
hint_unique (hint.Row m) (hint.Clause n) one other e = absurd (omega (arith, ap (λ l. get_or l 0 0) e))
hint_unique (hint.Row m) (hint.Row n) one other e = ap hint.Row (small_is m n one.0 other.0 (cc))
hint_unique (hint.Row m) (hint.Entry n) one other e = absurd (omega (arith, ap (λ l. get_or l 0 0) e))
hint_unique (hint.Row m) (hint.Own n) one other e = absurd other.1
hint_unique (hint.Row m) (hint.Cut n q) one other e = absurd (omega (arith, ap (λ l. get_or l 0 0) e))
hint_unique (hint.Entry m) (hint.Clause n) one other e = absurd (omega (arith, ap (λ l. get_or l 0 0) e))
hint_unique (hint.Entry m) (hint.Row n) one other e = absurd (omega (arith, ap (λ l. get_or l 0 0) e))
hint_unique (hint.Entry m) (hint.Entry n) one other e = ap hint.Entry (decimal_injective m n one.0 other.0 (cc))
hint_unique (hint.Entry m) (hint.Own n) one other e = absurd other.1
hint_unique (hint.Entry m) (hint.Cut n q) one other e = absurd (omega (arith, ap (λ l. get_or l 0 0) e))
hint_unique (hint.Own m) (hint.Clause n) one other e = absurd one.1
hint_unique (hint.Own m) (hint.Row n) one other e = absurd one.1
hint_unique (hint.Own m) (hint.Entry n) one other e = absurd one.1
hint_unique (hint.Own m) (hint.Own n) one other e = absurd one.1
hint_unique (hint.Own m) (hint.Cut n q) one other e = absurd one.1
hint_unique (hint.Cut m p) (hint.Clause n) one other e = absurd (omega (arith, ap (λ l. get_or l 0 0) e))
hint_unique (hint.Cut m p) (hint.Row n) one other e = absurd (omega (arith, ap (λ l. get_or l 0 0) e))
hint_unique (hint.Cut m p) (hint.Entry n) one other e = absurd (omega (arith, ap (λ l. get_or l 0 0) e))
hint_unique (hint.Cut m p) (hint.Own n) one other e = absurd other.1
hint_unique (hint.Cut m p) (hint.Cut n q) one other e =
    let rest : decimal m ++ 46 ∷ decimal p ≡ decimal n ++ 46 ∷ decimal q = cc in
    let split = slice_split_at (λ x. eqb x 46) (decimal m) 46 (decimal p) (dot_free m one.0.0) refl in
    let parts = cut_is 46 (decimal m ++ 46 ∷ decimal p) (decimal m) (decimal p) (decimal n) (decimal q) split rest (dot_free n other.0.0) in
    let best : m ≡ n = decimal_injective m n one.0.0 other.0.0 parts.0 in
    let part : p ≡ q = small_is p q one.0.1 other.0.1 parts.1 in
    let same : hint.Cut m p ≡ hint.Cut n q = cc in
    same

map_unique : {X : Type 0} (f : X → List ℕ) (P : X → Type 0) (xs ys : List X) → ((x y : X) → P x → P y → f x ≡ f y → x ≡ y) → All P xs → All P ys → map f xs ≡ map f ys → xs ≡ ys
map_unique f P [] [] each one other e = refl
map_unique f P [] (y ∷ ys) each one other e = absurd (cc)
map_unique f P (x ∷ xs) [] each one other e = absurd (cc)
map_unique f P (x ∷ xs) (y ∷ ys) each one other e =
    let head : x ≡ y = each x y (one 0 x (omega arith)) (other 0 y (omega arith)) (cc) in
    let rest : xs ≡ ys = map_unique f P xs ys each (λ k d within. one (suc k) d (omega (arith, within))) (λ k d within. other (suc k) d (omega (arith, within))) (cc) in
    ap (λ z. z ∷ xs) head ∙ ap (λ l. y ∷ l) rest

abbrev clause_with : List Atom → Clause
clause_with atoms = record { atoms = atoms }

best_is_no_lemma : (ws vs : List (List ℕ)) → codes "best" ∷ ws ≡ codes "lemma" ∷ vs → ⊥
best_is_no_lemma ws vs e = absurd (omega (arith, ap (λ l. get_or (get_or l 0 []) 0 0) e))

pub entry_unique : (e f : Entry) → IsPrintable e → IsPrintable f → entry_words e ≡ entry_words f → e ≡ f
entry_unique (Best by values) (Best other_by others) one other e =
    let by_same : by ≡ other_by = small_is by other_by (omega (arith, one.0.0)) (omega (arith, other.0.0)) (cc) in
    let values_same : values ≡ others = map_unique signed_decimal IsBound values others value_is one.0.1 other.0.1 (cc) in
    ap (λ b. Best b values) by_same ∙ ap (λ l. Best other_by l) values_same
entry_unique (Best by values) (Lemma other_by clause hints bound) one other e = absurd (best_is_no_lemma _ _ e)
entry_unique (Lemma by clause hints bound) (Best other_by others) one other e = absurd (best_is_no_lemma _ _ (sym e))
entry_unique (Lemma by clause hints bound) (Lemma other_by other_clause other_hints other_bound) one other e =
    let by_same : by ≡ other_by = small_is by other_by (omega (arith, one.0.0)) (omega (arith, other.0.0)) (cc) in
    let bound_same : bound ≡ other_bound = decimal_injective bound other_bound one.0.3 other.0.3 (cc) in
    let rest : map atom_word other_clause.atoms ++ codes ":" ∷ map hint_word other_hints ≡ map atom_word clause.atoms ++ codes ":" ∷ map hint_word hints = cc in
    let parts = marked atom_word IsAtomInRange clause.atoms other_clause.atoms (codes ":") (map hint_word hints) (map hint_word other_hints) rest atom_is_no_mark one.0.1 other.0.1 in
    let atoms_same : clause.atoms ≡ other_clause.atoms = map_unique atom_word IsAtomInRange clause.atoms other_clause.atoms atom_unique one.0.1 other.0.1 (sym parts.0) in
    let hints_same : hints ≡ other_hints = map_unique hint_word IsHintPrintable hints other_hints hint_unique (hints_are_printable hints one.0.2 one.1) (hints_are_printable other_hints other.0.2 other.1) (sym parts.1) in
    let clause_same : clause ≡ other_clause = ap clause_with atoms_same in
    let same : Lemma by clause hints bound ≡ Lemma other_by other_clause other_hints other_bound = cc in
    same
