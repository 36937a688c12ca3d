-- Lines that a loop adds: what was added with those that are left comes to all.
use Rattle.std.proofs.Common.{◌≡◌, ℕ, suc, ◌+◌, ◌<◌, ◌≤◌, List, [], ◌∷◌, ◌++◌, get_or, length, map, drop, sym, ap, ◌∙◌, arith}
use Rattle.std.specs.Prelude.{◌-◌, flat_map, slice_get, Some, Result, Ok, Err, OnOk, is_ok, if◌then◌else◌}
use Rattle.std.specs.List.{enumerate_from, range_with_len}
use Rattle.std.proofs.lemmas.List.{append-nil, append_assoc, drop_all, drop_more}
use Rattle.std.proofs.lemmas.Option.{get_or_from_slice_get, slice_get_within}
use Rattle.cgm_atom.specs.AtomWords.{spaced}

next : (old new one rest whole : List ℕ) → old ++ (one ++ rest) ≡ whole → new ≡ old ++ one → new ++ rest ≡ whole
next old new one rest whole e added = ap (λ (l : List ℕ). l ++ rest) added ∙ append_assoc old one rest ∙ e

-- the line of the item at place n
pub numbered_more : {X : Type 0} (f : ℕ × X → List ℕ) (xs : List X) (n : ℕ) (x : X) (old new whole : List ℕ) → slice_get xs n ≡ Some x → old ++ flat_map f (enumerate_from n (drop n xs)) ≡ whole → new ≡ old ++ f (n, x) → new ++ flat_map f (enumerate_from (n + 1) (drop (n + 1) xs)) ≡ whole
numbered_more {X} f xs n x old new whole found e added =
    let split : drop n xs ≡ x ∷ drop (n + 1) xs =
    drop_more xs n x (slice_get_within xs n x found) ∙ ap (λ (y : X). y ∷ drop (n + 1) xs) (get_or_from_slice_get xs n x x found) in
    next old new (f (n, x)) (flat_map f (enumerate_from (n + 1) (drop (n + 1) xs))) whole
    (ap (λ (ys : List X). old ++ flat_map f (enumerate_from n ys)) (sym split) ∙ e) added

-- the line of the number v
pub ranged_more : (f : ℕ → List ℕ) (v n : ℕ) (old new whole : List ℕ) → v < n → old ++ flat_map f (range_with_len v (n - v)) ≡ whole → new ≡ old ++ f v → new ++ flat_map f (range_with_len (v + 1) (n - (v + 1))) ≡ whole
ranged_more f v n old new whole l e added =
    let more : n - v ≡ suc (n - (v + 1)) = omega arith in
    next old new (f v) (flat_map f (range_with_len (v + 1) (n - (v + 1)))) whole
    (ap (λ (k : ℕ). old ++ flat_map f (range_with_len v k)) (sym more) ∙ e) added

-- four groups of lines behind the header
pub four_groups : (header a b c d one two three four : List ℕ) → one ≡ header ++ a → two ≡ one ++ b → three ≡ two ++ c → four ≡ three ++ d → four ≡ header ++ (a ++ (b ++ (c ++ d)))
four_groups header a b c d one two three four e f g h =
    h
    ∙ ap (λ (l : List ℕ). l ++ d) (g ∙ ap (λ (l : List ℕ). l ++ c) (f ∙ ap (λ (l : List ℕ). l ++ b) e))
    ∙ append_assoc ((header ++ a) ++ b) c d
    ∙ append_assoc (header ++ a) b (c ++ d)
    ∙ append_assoc header a (b ++ (c ++ d))

-- the word of one more item, after a space
pub spaced_more : {X : Type 0} (word : X → List ℕ) (xs : List X) (i : ℕ) (d : X) (old new whole : List ℕ) → i < length xs → old ++ spaced (map word (drop i xs)) ≡ whole → new ≡ old ++ 32 ∷ word (get_or xs i d) → new ++ spaced (map word (drop (i + 1) xs)) ≡ whole
spaced_more {X} word xs i d old new whole h e added =
    next old new (32 ∷ word (get_or xs i d)) (spaced (map word (drop (i + 1) xs))) whole
    (ap (λ (ys : List X). old ++ spaced (map word ys)) (sym (drop_more xs i d h)) ∙ e) added

-- what one more item gives, of a list
pub flat_more : {X : Type 0} (f : X → List ℕ) (xs : List X) (i : ℕ) (d : X) (old new whole : List ℕ) → i < length xs → old ++ flat_map f (drop i xs) ≡ whole → new ≡ old ++ f (get_or xs i d) → new ++ flat_map f (drop (i + 1) xs) ≡ whole
flat_more {X} f xs i d old new whole h e added =
    next old new (f (get_or xs i d)) (flat_map f (drop (i + 1) xs)) whole
    (ap (λ (ys : List X). old ++ flat_map f ys) (sym (drop_more xs i d h)) ∙ e) added

-- a word, three more, some behind them, and the line feed
pub line_of : (out word a b c rest : List ℕ) (one two three four five six : List ℕ) → one ≡ out ++ word → two ≡ one ++ a → three ≡ two ++ b → four ≡ three ++ c → five ≡ four ++ rest → six ≡ five ++ 10 ∷ [] → six ≡ out ++ (word ++ ((a ++ (b ++ (c ++ rest))) ++ 10 ∷ []))
line_of out word a b c rest one two three four five six e f g h i j =
    let tail = 10 ∷ [] in
    j
    ∙ ap (λ (l : List ℕ). l ++ tail) (i ∙ ap (λ (l : List ℕ). l ++ rest) (h ∙ ap (λ (l : List ℕ). l ++ c) (g ∙ ap (λ (l : List ℕ). l ++ b) (f ∙ ap (λ (l : List ℕ). l ++ a) e))))
    ∙ ap (λ (l : List ℕ). l ++ tail)
    (append_assoc (((out ++ word) ++ a) ++ b) c rest ∙ append_assoc ((out ++ word) ++ a) b (c ++ rest) ∙ append_assoc (out ++ word) a (b ++ (c ++ rest)) ∙ append_assoc out word (a ++ (b ++ (c ++ rest))))
    ∙ append_assoc out (word ++ (a ++ (b ++ (c ++ rest)))) tail
    ∙ ap (λ (l : List ℕ). out ++ l) (append_assoc word (a ++ (b ++ (c ++ rest))) tail)

pub short_line_of : (out word a b c : List ℕ) (one two three four five : List ℕ) → one ≡ out ++ word → two ≡ one ++ a → three ≡ two ++ b → four ≡ three ++ c → five ≡ four ++ 10 ∷ [] → five ≡ out ++ (word ++ ((a ++ (b ++ (c ++ []))) ++ 10 ∷ []))
short_line_of out word a b c one two three four five e f g h i =
    line_of out word a b c [] one two three four four five e f g h (sym (append-nil four)) i

-- what an addition leaves where it is made
pub on_ok_items : {T E : Type 0} (r : Result T E) (new good bad : List ℕ) → new ≡ (if is_ok r then good else bad) → OnOk r (new ≡ good)
on_ok_items (Ok x) new good bad e = e
on_ok_items (Err x) new good bad e = tt

-- the numbers from 0 on, and none that is left
pub ranged_all : (f : ℕ → List ℕ) (n : ℕ) (old : List ℕ) → old ++ flat_map f (range_with_len 0 (n - 0)) ≡ old ++ flat_map f (range_with_len 0 n)
ranged_all f n old =
    let same : n - 0 ≡ n = omega arith in
    ap (λ (k : ℕ). old ++ flat_map f (range_with_len 0 k)) same

pub ranged_end : (f : ℕ → List ℕ) (v n : ℕ) (new whole : List ℕ) → n ≤ v → new ++ flat_map f (range_with_len v (n - v)) ≡ whole → new ≡ whole
ranged_end f v n new whole past e =
    let none : n - v ≡ 0 = omega arith in
    sym (append-nil new) ∙ ap (λ (k : ℕ). new ++ flat_map f (range_with_len v k)) (sym none) ∙ e

pub numbered_end : {X : Type 0} (f : ℕ × X → List ℕ) (xs : List X) (n : ℕ) (new whole : List ℕ) → length xs ≤ n → new ++ flat_map f (enumerate_from n (drop n xs)) ≡ whole → new ≡ whole
numbered_end {X} f xs n new whole past e =
    sym (append-nil new) ∙ ap (λ (ys : List X). new ++ flat_map f (enumerate_from n ys)) (sym (drop_all n xs past)) ∙ e
