-- The words of atoms and hints, cut at a byte that their numbers don't have.
use Rattle.std.proofs.Common.{ℤ, pos, negsuc, unsigned_abs, ◌≡◌, ℕ, ◌+◌, ◌%◌, ◌^◌, ◌<◌, ◌⊎◌, inl, inr, Bool, true, false, List, [], ◌∷◌, ◌++◌, length, get_or, eqb, All, refl, sym, ap, ◌∙◌, arith, append_assoc, codes, decimal, Option, None, Some, IfNone}
use Rattle.std.specs.Int.Signed.{mag}
use Rattle.std.specs.Fmt.{signed_decimal}
use Rattle.std.specs.List.{slice_split, join_with_byte}
use Rattle.std.proofs.lemmas.Fmt.{decimal_by_steps, decimal_nonempty}
use Rattle.std.proofs.lemmas.List.{length-append}
use Rattle.std.proofs.lemmas.List.Elements.{All-nil, All-cons, All-push}
use Rattle.std.proofs.lemmas.List.Splits.{slice_split_at, join_with_byte-slice_split, length-slice_split}
use Rattle.std.proofs.lemmas.Bool.{ne_eqb, eq-eqb}
use Rattle.cgm_atom.specs.declared.constraints.Atom.{Atom}
use Rattle.cgm_atom.specs.declared.entries.Hint.{Hint}
use Rattle.cgm_atom.specs.declared.entries.Hint.TheVariants as hint
use Rattle.cgm_atom.specs.Ranges.{IsAtomInRange}
use Rattle.cgm_atom.specs.AtomWords.{relation, atom_word}
use Rattle.cgm_cert.specs.Printable.{IsHintPrintable}
use Rattle.cgm_cert.specs.Spelling.{hint_word}

pub small_mag : (z : ℤ) → unsigned_abs z < 2 ^ 63 → mag z < 2 ^ 63
small_mag (pos n) small = small
small_mag (negsuc n) small = omega (arith, small)

-- the byte isn't in the list
abbrev pub IsFree : ℕ → List ℕ → Type 0
IsFree c xs = All (λ x. eqb x c ≡ false) xs

abbrev IsNoDigit : ℕ → Type 0
IsNoDigit c = (n : ℕ) → n < 10 → 48 + n ≡ c → ⊥

pub decimal_free : (c n : ℕ) → IsNoDigit c → n < 2 ^ 64 → IsFree c (decimal n)
decimal_free c n other fits =
    decimal_by_steps (λ _ ds. IsFree c ds)
    (λ m small. All-cons (λ x. eqb x c ≡ false) (48 + m) [] (ne_eqb (48 + m) c (other m small)) (All-nil (λ x. eqb x c ≡ false)))
    (λ m ds big free. let last : m % 10 < 10 = omega arith in All-push (λ x. eqb x c ≡ false) ds (48 + m % 10) free (ne_eqb (48 + m % 10) c (other (m % 10) last)))
    n fits

pub cut_is : (c : ℕ) (text left right xs ys : List ℕ) → slice_split (λ b. eqb b c) text ≡ left ∷ slice_split (λ b. eqb b c) right → text ≡ xs ++ c ∷ ys → IsFree c xs → (left ≡ xs) × (right ≡ ys)
cut_is c text left right xs ys split e free =
    let there : slice_split (λ b. eqb b c) (xs ++ c ∷ ys) ≡ xs ∷ slice_split (λ b. eqb b c) ys = slice_split_at (λ b. eqb b c) xs c ys free (eq-eqb c c refl) in
    let same : left ∷ slice_split (λ b. eqb b c) right ≡ xs ∷ slice_split (λ b. eqb b c) ys = sym split ∙ ap (λ t. slice_split (λ b. eqb b c) t) e ∙ there in
    let rest : slice_split (λ b. eqb b c) right ≡ slice_split (λ b. eqb b c) ys = cc in
    (cc, sym (join_with_byte-slice_split c right) ∙ ap (λ l. join_with_byte c l) rest ∙ join_with_byte-slice_split c ys)

pub cut_none : (c : ℕ) (text xs ys : List ℕ) → slice_split (λ b. eqb b c) text ≡ text ∷ [] → text ≡ xs ++ c ∷ ys → IsFree c xs → ⊥
cut_none c text xs ys split e free =
    let there : slice_split (λ b. eqb b c) (xs ++ c ∷ ys) ≡ xs ∷ slice_split (λ b. eqb b c) ys = slice_split_at (λ b. eqb b c) xs c ys free (eq-eqb c c refl) in
    let same : text ∷ [] ≡ xs ∷ slice_split (λ b. eqb b c) ys = sym split ∙ ap (λ t. slice_split (λ b. eqb b c) t) e ∙ there in
    let none : slice_split (λ b. eqb b c) ys ≡ [] = cc in
    absurd (omega (arith, length-slice_split (λ b. eqb b c) ys, ap (λ l. length l) none))

pub last_is : (xs ys : List ℕ) (x y : ℕ) → xs ++ x ∷ [] ≡ ys ++ y ∷ [] → (xs ≡ ys) × (x ≡ y)
last_is [] [] x y e = (refl, cc)
last_is [] (b ∷ ys) x y e = absurd (omega (arith, ap (λ l. length l) e, length-append ys (y ∷ [])))
last_is (a ∷ xs) [] x y e = absurd (omega (arith, ap (λ l. length l) e, length-append xs (x ∷ [])))
last_is (a ∷ xs) (b ∷ ys) x y e =
    let more = last_is xs ys x y (cc) in
    let first : a ≡ b = cc in
    (ap (λ l. a ∷ l) more.0 ∙ ap (λ h. h ∷ ys) first, more.1)

-- the first byte of a relation
abbrev pub sign : Bool → ℕ
sign true = 62
sign false = 60

atom_parts_with : (d k : List ℕ) (b : Bool) → d ++ (relation b ++ k) ≡ (d ++ sign b ∷ []) ++ 61 ∷ k
atom_parts_with d k true = sym (append_assoc d (62 ∷ []) (61 ∷ k))
atom_parts_with d k false = sym (append_assoc d (60 ∷ []) (61 ∷ k))

pub atom_parts : (a : Atom) → atom_word a ≡ (decimal a.var.0 ++ sign a.at_least ∷ []) ++ 61 ∷ signed_decimal a.k
atom_parts a = atom_parts_with (decimal a.var.0) (signed_decimal a.k) a.at_least

sign_is_no_mark : (b : Bool) → sign b ≡ 61 → ⊥
sign_is_no_mark true e = absurd (omega arith)
sign_is_no_mark false e = absurd (omega arith)

pub atom_left_free : (a : Atom) → IsAtomInRange a → IsFree 61 (decimal a.var.0 ++ sign a.at_least ∷ [])
atom_left_free a printable =
    let var : a.var.0 < 2 ^ 32 = printable.0 in
    All-push (λ x. eqb x 61 ≡ false) (decimal a.var.0) (sign a.at_least) (decimal_free 61 a.var.0 (λ n small e. absurd (omega arith)) (omega arith)) (ne_eqb (sign a.at_least) 61 (sign_is_no_mark a.at_least))

pub atom_is : (word left k : List ℕ) (a : Atom) → IsAtomInRange a → slice_split (λ b. eqb b 61) word ≡ left ∷ slice_split (λ b. eqb b 61) k → word ≡ atom_word a → (left ≡ decimal a.var.0 ++ sign a.at_least ∷ []) × (k ≡ signed_decimal a.k)
atom_is word left k a printable split e =
    cut_is 61 word left k (decimal a.var.0 ++ sign a.at_least ∷ []) (signed_decimal a.k) split (e ∙ atom_parts a) (atom_left_free a printable)

pub atom_none : (word : List ℕ) (a : Atom) → IsAtomInRange a → slice_split (λ b. eqb b 61) word ≡ word ∷ [] → word ≡ atom_word a → ⊥
atom_none word a printable split e =
    cut_none 61 word (decimal a.var.0 ++ sign a.at_least ∷ []) (signed_decimal a.k) split (e ∙ atom_parts a) (atom_left_free a printable)

-- the parts of an atom's word whose left part is a variable's word and a sign
pub atom_with_is : (word left var k : List ℕ) (b : ℕ) (a : Atom) → IsAtomInRange a → slice_split (λ b. eqb b 61) word ≡ left ∷ slice_split (λ b. eqb b 61) k → left ≡ var ++ b ∷ [] → word ≡ atom_word a → (var ≡ decimal a.var.0) × (b ≡ sign a.at_least) × (k ≡ signed_decimal a.k)
atom_with_is word left var k b a printable split last e =
    let parts = atom_is word left k a printable split e in
    let ends = last_is var (decimal a.var.0) b (sign a.at_least) (sym last ∙ parts.0) in
    (ends.0, ends.1, parts.1)

pub sign_is : (b : Bool) (x : ℕ) → x ≡ sign b → (x ≡ 62) ⊎ (x ≡ 60)
sign_is true x e = inl e
sign_is false x e = inr e

pub if_none : {X : Type 0} {P Q : Type 0} (r : Option X) → (P → Q) → IfNone r P → IfNone r Q
if_none None f p = f p
if_none (Some x) f p = p

-- a hint whose word begins with `b` is one to a part of a cut
pub cut_hint_is : (rest : List ℕ) (h : Hint) → IsHintPrintable h → 98 ∷ rest ≡ hint_word h → (best : ℕ) × ((part : ℕ) × ((best < 2 ^ 64) × (part < 2 ^ 32) × (rest ≡ decimal best ++ 46 ∷ decimal part)))
cut_hint_is rest (hint.Clause n) printable e = absurd (omega (arith, ap (λ l. get_or l 0 0) e))
cut_hint_is rest (hint.Row n) printable e = absurd (omega (arith, ap (λ l. get_or l 0 0) e))
cut_hint_is rest (hint.Entry place) printable e = absurd (omega (arith, ap (λ l. get_or l 0 0) e))
cut_hint_is rest (hint.Own place) printable e = absurd printable.1
cut_hint_is rest (hint.Cut best part) printable e = (best, (part, (printable.0.0, printable.0.1, cc)))

pub dot_free : (n : ℕ) → n < 2 ^ 64 → IsFree 46 (decimal n)
dot_free n fits = decimal_free 46 n (λ m small e. absurd (omega arith)) fits

-- an atom's word isn't `:`
pub atom_is_no_mark : (a : Atom) → IsAtomInRange a → atom_word a ≡ codes ":" → ⊥
atom_is_no_mark a printable e =
    let var : a.var.0 < 2 ^ 32 = printable.0 in
    let some : 0 < length (decimal a.var.0) = decimal_nonempty a.var.0 (omega arith) in
    let parts : (decimal a.var.0 ++ sign a.at_least ∷ []) ++ 61 ∷ signed_decimal a.k ≡ codes ":" = sym (atom_parts a) ∙ e in
    absurd (omega (arith, some, ap (λ l. length l) parts, length-append (decimal a.var.0 ++ sign a.at_least ∷ []) (61 ∷ signed_decimal a.k), length-append (decimal a.var.0) (sign a.at_least ∷ [])))
