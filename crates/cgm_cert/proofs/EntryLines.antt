-- The line of a printable entry has no line feed, and the words of the line are those of the entry.
use Rattle.std.proofs.Common.{◌≡◌, ℕ, suc, ◌+◌, ◌%◌, ◌^◌, ◌<◌, ◌≤◌, ◌*◌, Bool, true, false, List, [], ◌∷◌, ◌++◌, get_or, eqb, All, refl, sym, ap, ◌∙◌, subst, map, arith, codes, decimal, ℤ, pos, negsuc, unsigned_abs, Option, None, Some, Result, Ok, Err, IfOk, IfSome, IfNone, append_assoc}
use Rattle.std.specs.Fmt.{signed_decimal}
use Rattle.std.specs.List.{slice_split, join_with_byte}
use Rattle.std.proofs.lemmas.Fmt.{decimal_by_steps}
use Rattle.std.proofs.lemmas.List.Elements.{All-nil, All-cons, All-push, All-append}
use Rattle.std.proofs.lemmas.List.Splits.{slice_split_at, slice_split_none, join_with_byte-slice_split}
use Rattle.std.proofs.lemmas.Bool.{ne_eqb}
use Rattle.std.proofs.lemmas.List.{append-nil}
use Rattle.cgm_atom.specs.declared.constraints.Atom.{Atom}
use Rattle.cgm_atom.specs.declared.constraints.Clause.{Clause}
use Rattle.cgm_atom.specs.declared.entries.Entry.{Entry}
use Rattle.cgm_atom.specs.declared.entries.Entry.TheVariants.{Best, Lemma}
use Rattle.cgm_atom.specs.declared.entries.Hint.{Hint}
use Rattle.cgm_atom.specs.declared.entries.Hint.TheVariants as hint
use Rattle.cgm_atom.specs.Limits.{IsBound}
use Rattle.cgm_atom.specs.Ranges.{IsAtomInRange, IsHintInRange, IsPlaced, IsPrintable}
use Rattle.cgm_atom.specs.AtomWords.{atom_word, spaced}
use Rattle.cgm_cert.specs.Printable.{IsHintPrintable}
use Rattle.cgm_cert.specs.Spelling.{hint_word, entry_words, entry_line, words}
use Rattle.cgm_cert.specs.Fault.{IsLineOf, AreReadAs}
use Rattle.cgm_cert.proofs.WordLemmas.{IsFree, sign, atom_parts}

-- each byte is printed as more than a space
abbrev pub IsWord : List ℕ → Type 0
IsWord w = All (λ b. 33 ≤ b) w

abbrev pub AreWords : List (List ℕ) → Type 0
AreWords [] = Unit {0}
AreWords (w ∷ ws) = IsWord w × AreWords ws

abbrev P : ℕ → Type 0
P b = 33 ≤ b

pub word_free : (c : ℕ) (w : List ℕ) → c < 33 → IsWord w → IsFree c w
word_free c w low is = λ k d within. ne_eqb (get_or w k d) c (λ e. absurd (omega (arith, is k d within)))

decimal_is_word : (n : ℕ) → n < 2 ^ 64 → IsWord (decimal n)
decimal_is_word n fits =
    decimal_by_steps (λ _ ds. IsWord ds)
    (λ m small. All-cons P (48 + m) [] (omega arith) (All-nil P))
    (λ m ds big is. All-push P ds (48 + m % 10) is (omega arith))
    n fits

signed_is_word : (z : ℤ) → unsigned_abs z < 2 ^ 63 → IsWord (signed_decimal z)
signed_is_word (pos n) small = decimal_is_word n (omega (arith, small))
signed_is_word (negsuc n) small = All-cons P 45 (decimal (suc n)) (omega arith) (decimal_is_word (suc n) (omega (arith, small)))

sign_is_high : (b : Bool) → 33 ≤ sign b
sign_is_high true = omega arith
sign_is_high false = omega arith

value_is_word : (z : ℤ) → IsBound z → IsWord (signed_decimal z)
value_is_word z within = signed_is_word z (omega (arith, within))

atom_is_word : (a : Atom) → IsAtomInRange a → IsWord (atom_word a)
atom_is_word a printable =
    let var : a.var.0 < 2 ^ 32 = printable.0 in
    let size : unsigned_abs a.k ≤ 2 * 10 ^ 15 = printable.1 in
    let left = All-push P (decimal a.var.0) (sign a.at_least) (decimal_is_word a.var.0 (omega arith)) (sign_is_high a.at_least) in
    let right = All-cons P 61 (signed_decimal a.k) (omega arith) (signed_is_word a.k (omega (arith, size))) in
    subst IsWord (sym (atom_parts a)) (All-append P (decimal a.var.0 ++ sign a.at_least ∷ []) (61 ∷ signed_decimal a.k) left right)

hint_is_word : (h : Hint) → IsHintPrintable h → IsWord (hint_word h)
hint_is_word (hint.Clause n) printable = All-cons P 99 (decimal n) (omega arith) (decimal_is_word n (omega (arith, printable.0)))
hint_is_word (hint.Row n) printable = All-cons P 114 (decimal n) (omega arith) (decimal_is_word n (omega (arith, printable.0)))
hint_is_word (hint.Entry place) printable = All-cons P 101 (decimal place) (omega arith) (decimal_is_word place printable.0)
hint_is_word (hint.Own place) printable = absurd printable.1
hint_is_word (hint.Cut best part) printable =
    let right = All-cons P 46 (decimal part) (omega arith) (decimal_is_word part (omega (arith, printable.0.1))) in
    All-cons P 98 (decimal best ++ 46 ∷ decimal part) (omega arith) (All-append P (decimal best) (46 ∷ decimal part) (decimal_is_word best printable.0.0) right)

map_are_words : {X : Type 0} (f : X → List ℕ) (Q : X → Type 0) (xs : List X) → ((x : X) → Q x → IsWord (f x)) → All Q xs → AreWords (map f xs)
map_are_words f Q [] each all = tt
map_are_words f Q (x ∷ xs) each all =
    (each x (all 0 x (omega arith)), map_are_words f Q xs each (λ k d within. all (suc k) d (omega (arith, within))))

append_are_words : (ws vs : List (List ℕ)) → AreWords ws → AreWords vs → AreWords (ws ++ vs)
append_are_words [] vs one other = other
append_are_words (w ∷ ws) vs one other = (one.0, append_are_words ws vs one.1 other)

pub hints_are_printable : (hints : List Hint) → All IsHintInRange hints → All IsPlaced hints → All IsHintPrintable hints
hints_are_printable hints ranges placed = λ k d within. (ranges k d within, placed k d within)

best_is_word : IsWord (codes "best")
best_is_word = All-cons P 98 (101 ∷ 115 ∷ 116 ∷ []) (omega arith) (All-cons P 101 (115 ∷ 116 ∷ []) (omega arith) (All-cons P 115 (116 ∷ []) (omega arith) (All-cons P 116 [] (omega arith) (All-nil P))))

lemma_is_word : IsWord (codes "lemma")
lemma_is_word = All-cons P 108 (101 ∷ 109 ∷ 109 ∷ 97 ∷ []) (omega arith) (All-cons P 101 (109 ∷ 109 ∷ 97 ∷ []) (omega arith) (All-cons P 109 (109 ∷ 97 ∷ []) (omega arith) (All-cons P 109 (97 ∷ []) (omega arith) (All-cons P 97 [] (omega arith) (All-nil P)))))

mark_is_word : IsWord (codes ":")
mark_is_word = All-cons P 58 [] (omega arith) (All-nil P)

best_words : (by : ℕ) (values : List ℤ) → IsPrintable (Best by values) → AreWords (decimal by ∷ map signed_decimal values)
best_words by values printable =
    (decimal_is_word by (omega (arith, printable.0.0)), map_are_words signed_decimal IsBound values value_is_word printable.0.1)

lemma_words : (by bound : ℕ) (clause : Clause) (hints : List Hint) → IsPrintable (Lemma by clause hints bound) → AreWords (decimal by ∷ decimal bound ∷ (map atom_word clause.atoms ++ codes ":" ∷ map hint_word hints))
lemma_words by bound clause hints printable =
    let left = map_are_words atom_word IsAtomInRange clause.atoms atom_is_word printable.0.1 in
    let right = map_are_words hint_word IsHintPrintable hints hint_is_word (hints_are_printable hints printable.0.2 printable.1) in
    (decimal_is_word by (omega (arith, printable.0.0)), (decimal_is_word bound printable.0.3, append_are_words (map atom_word clause.atoms) (codes ":" ∷ map hint_word hints) left (mark_is_word, right)))

split_join : (w : List ℕ) (ws : List (List ℕ)) → IsWord w → AreWords ws → slice_split (λ b. eqb b 32) (join_with_byte 32 (w ∷ ws)) ≡ w ∷ ws
split_join w [] is are = slice_split_none (λ b. eqb b 32) w (word_free 32 w (omega arith) is)
split_join w (v ∷ ws) is are =
    slice_split_at (λ b. eqb b 32) w 32 (join_with_byte 32 (v ∷ ws)) (word_free 32 w (omega arith) is) refl ∙ ap (λ l. w ∷ l) (split_join v ws are.0 are.1)

join_free : (w : List ℕ) (ws : List (List ℕ)) → IsWord w → AreWords ws → IsFree 10 (join_with_byte 32 (w ∷ ws))
join_free w [] is are = word_free 10 w (omega arith) is
join_free w (v ∷ ws) is are =
    All-append (λ x. eqb x 10 ≡ false) w (32 ∷ join_with_byte 32 (v ∷ ws)) (word_free 10 w (omega arith) is)
    (All-cons (λ x. eqb x 10 ≡ false) 32 (join_with_byte 32 (v ∷ ws)) refl (join_free v ws are.0 are.1))

pub entry_split : (e : Entry) → IsPrintable e → words (entry_line e) ≡ entry_words e
entry_split (Best by values) printable = split_join (codes "best") (decimal by ∷ map signed_decimal values) best_is_word (best_words by values printable)
entry_split (Lemma by clause hints bound) printable =
    split_join (codes "lemma") (decimal by ∷ decimal bound ∷ (map atom_word clause.atoms ++ codes ":" ∷ map hint_word hints)) lemma_is_word (lemma_words by bound clause hints printable)

pub entry_free : (e : Entry) → IsPrintable e → IsFree 10 (entry_line e)
entry_free (Best by values) printable = join_free (codes "best") (decimal by ∷ map signed_decimal values) best_is_word (best_words by values printable)
entry_free (Lemma by clause hints bound) printable =
    join_free (codes "lemma") (decimal by ∷ decimal bound ∷ (map atom_word clause.atoms ++ codes ":" ∷ map hint_word hints)) lemma_is_word (lemma_words by bound clause hints printable)

pub line_found : {E : Type 0} (line : List ℕ) (r : Result (Option Entry) E) → IfOk r (AreReadAs (words line)) → IfOk r (λ o. IfSome o (IsLineOf line))
line_found line (Err x) read = tt
line_found line (Ok None) read = tt
line_found line (Ok (Some e)) read =
    (sym (join_with_byte-slice_split 32 line) ∙ ap (λ ws. join_with_byte 32 ws) read.0, read.1)

pub line_none : {E : Type 0} (line : List ℕ) (r : Result (Option Entry) E) → IfOk r (AreReadAs (words line)) → IfOk r (λ o. IfNone o ((e : Entry) → ¬ IsLineOf line e))
line_none line (Err x) read = tt
line_none line (Ok None) read = λ e is. read e is.1 (ap (λ l. words l) is.0 ∙ entry_split e is.1)
line_none line (Ok (Some e)) read = tt

-- words in a row, as the printer adds them
pub join_is : (w : List ℕ) (ws : List (List ℕ)) → join_with_byte 32 (w ∷ ws) ≡ w ++ spaced ws
join_is w [] = sym (append-nil w)
join_is w (v ∷ ws) = ap (λ l. w ++ 32 ∷ l) (join_is v ws)

pub spaced_append : (ws vs : List (List ℕ)) → spaced (ws ++ vs) ≡ spaced ws ++ spaced vs
spaced_append [] vs = refl
spaced_append (w ∷ ws) vs = ap (λ l. 32 ∷ (w ++ l)) (spaced_append ws vs) ∙ ap (λ l. 32 ∷ l) (sym (append_assoc w (spaced ws) (spaced vs)))
