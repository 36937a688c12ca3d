-- Lines of entries, one more at a time.
use Rattle.std.proofs.Common.{◌≡◌, ◌≢◌, ℕ, ◌+◌, ◌<◌, eqb, List, [], ◌∷◌, ◌++◌, length, take, get_or, refl, sym, ap, ◌∙◌, inl, inr, map, arith, append_assoc}
use Rattle.std.proofs.lemmas.List.{append-nil, take_more, map_push}
use Rattle.std.proofs.lemmas.List.Splits.{length-slice_split}
use Rattle.cgm_atom.specs.declared.entries.Entry.{Entry}
use Rattle.cgm_atom.specs.AtomWords.{spaced}
use Rattle.cgm_cert.specs.declared.stop.CertKind.{CertKind}
use Rattle.cgm_cert.specs.declared.stop.CertKind.TheVariants as kinds
use Rattle.cgm_cert.specs.Spelling.{entry_line, lines_of, lines}
use Rattle.cgm_cert.specs.Fault.{IsLineOf, FailsAt}
use Rattle.cgm_cert.proofs.EntryLines.{spaced_append}

pub lines_of_append : (es fs : List Entry) → lines_of (es ++ fs) ≡ lines_of es ++ lines_of fs
lines_of_append [] fs = refl
lines_of_append (e ∷ es) fs =
    ap (λ l. entry_line e ++ 10 ∷ l) (lines_of_append es fs) ∙ sym (append_assoc (entry_line e) (10 ∷ lines_of es) (lines_of fs))

-- the text so far and one more line
pub line_added : (text rest line after : List ℕ) (es : List Entry) (e : Entry) → text ≡ lines_of es ++ rest → rest ≡ line ++ 10 ∷ after → line ≡ entry_line e → text ≡ lines_of (es ++ e ∷ []) ++ after
line_added text rest line after es e whole cut is =
    let first : line ++ 10 ∷ after ≡ (entry_line e ++ 10 ∷ []) ++ after = ap (λ l. l ++ 10 ∷ after) is ∙ sym (append_assoc (entry_line e) (10 ∷ []) after) in
    whole ∙ ap (λ l. lines_of es ++ l) (cut ∙ first) ∙ sym (append_assoc (lines_of es) (entry_line e ++ 10 ∷ []) after) ∙ ap (λ l. l ++ after) (sym (lines_of_append es (e ∷ [])))

pub lines_there : (text : List ℕ) → lines text ≢ []
lines_there text none = absurd (omega (arith, length-slice_split (λ byte. eqb byte 10) text, ap (λ l. length l) none))

pub fails_step : (number faulty : ℕ) (kind : CertKind) (line : List ℕ) (rest : List (List ℕ)) (e : Entry) → IsLineOf line e → FailsAt (number + 1) rest faulty kind → FailsAt number (line ∷ rest) faulty kind
fails_step number faulty kind line [] e is fails = absurd fails
fails_step number faulty kind line (next ∷ more) e is fails = inr (e, (is, fails))

pub fails_here : (number : ℕ) (line : List ℕ) (rest : List (List ℕ)) → rest ≢ [] → ((e : Entry) → ¬ IsLineOf line e) → FailsAt number (line ∷ rest) number kinds.Entry
fails_here number line [] there none = absurd (there refl)
fails_here number line (next ∷ more) there none = inl (refl, refl, none)

-- the words of items, one more at a time
pub spaced_more : {X : Type 0} (f : X → List ℕ) (xs : List X) (i : ℕ) (d : X) → i < length xs → spaced (map f (take (i + 1) xs)) ≡ spaced (map f (take i xs)) ++ 32 ∷ f (get_or xs i d)
spaced_more f xs i d within =
    let x = get_or xs i d in
    ap (λ l. spaced (map f l)) (take_more xs i d within) ∙ ap (λ l. spaced l) (map_push f (take i xs) x) ∙ spaced_append (map f (take i xs)) (f x ∷ [])
    ∙ ap (λ l. spaced (map f (take i xs)) ++ 32 ∷ l) (append-nil (f x))

pub word_added : {X : Type 0} (f : X → List ℕ) (xs : List X) (i : ℕ) (d : X) (base before between after : List ℕ) → i < length xs → before ≡ base ++ spaced (map f (take i xs)) → between ≡ before ++ 32 ∷ [] → after ≡ between ++ f (get_or xs i d) → after ≡ base ++ spaced (map f (take (i + 1) xs))
word_added f xs i d base before between after within so_far space word =
    let x = get_or xs i d in
    word ∙ ap (λ l. l ++ f x) space ∙ append_assoc before (32 ∷ []) (f x) ∙ ap (λ l. l ++ 32 ∷ f x) so_far ∙ append_assoc base (spaced (map f (take i xs))) (32 ∷ f x) ∙ ap (λ l. base ++ l) (sym (spaced_more f xs i d within))

-- one more line of an entry
pub lines_more : (es : List Entry) (i : ℕ) (d : Entry) (base before between after : List ℕ) → i < length es → before ≡ base ++ lines_of (take i es) → between ≡ before ++ entry_line (get_or es i d) → after ≡ between ++ 10 ∷ [] → after ≡ base ++ lines_of (take (i + 1) es)
lines_more es i d base before between after within so_far line feed =
    let e = get_or es i d in
    let more : lines_of (take (i + 1) es) ≡ lines_of (take i es) ++ (entry_line e ++ 10 ∷ []) = ap (λ l. lines_of l) (take_more es i d within) ∙ lines_of_append (take i es) (e ∷ []) in
    feed ∙ ap (λ l. l ++ 10 ∷ []) line ∙ append_assoc before (entry_line e) (10 ∷ []) ∙ ap (λ l. l ++ (entry_line e ++ 10 ∷ [])) so_far ∙ append_assoc base (lines_of (take i es)) (entry_line e ++ 10 ∷ []) ∙ ap (λ l. base ++ l) (sym more)
