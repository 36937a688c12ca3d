-- Content lines one by one.
use Rattle.std.proofs.Common.{◌≡◌, ℕ, ◌+◌, ◌-◌, ◌<◌, ◌≤◌, Bool, true, nat_eq, List, [], ◌∷◌, ◌++◌, length, map, take, drop, get_or, refl, sym, ap, ◌∙◌, add-one, arith, length-drop}
use Rattle.std.specs.Prelude.{Some, None}
use Rattle.std.proofs.Math.Seq.{drop-cons}
use Rattle.std.proofs.lemmas.List.{length-map}
use Rattle.std.proofs.lemmas.Bool.Decides.{nat_tests}
use Rattle.cgm_transcripts.specs.declared.flaw.Flaw.{Flaw}
use Rattle.cgm_transcripts.specs.declared.flaw.Flaw.TheVariants.{Form, Memory}
use Rattle.cgm_transcripts.specs.Flaws.{OnForm}
use Rattle.cgm_transcripts.specs.Content.{bytes_followed, content_bytes, line_bytes, is_nothing, is_open, unescaped}
use Rattle.cgm_transcripts.proofs.Following.{followed-append, suc_is_some}

-- a line whose bytes are known comes before the rest
pub content_step : (front more line : List ℕ) (rest : List (List ℕ)) → line_bytes line (is_nothing rest) ≡ Some more
    → bytes_followed (Some front) (content_bytes (line ∷ rest)) ≡ bytes_followed (Some (front ++ more)) (content_bytes rest)
content_step front more line rest found =
    ap (λ first. bytes_followed (Some front) (bytes_followed first (content_bytes rest))) found ∙ followed-append front more (content_bytes rest)

-- a line that spells nothing leaves no content
pub content_flaw : (front line : List ℕ) (rest : List (List ℕ)) → line_bytes line (is_nothing rest) ≡ None
    → bytes_followed (Some front) (content_bytes (line ∷ rest)) ≡ None
content_flaw front line rest flaw = ap (λ first. bytes_followed (Some front) (bytes_followed first (content_bytes rest))) flaw

-- the items from a place on are the one there and those after it
pub items_from : {A : Type 0} (f : A → List ℕ) (xs : List A) (i : ℕ) (d : A) → i < length xs
    → map f (drop i xs) ≡ f (get_or xs i d) ∷ map f (drop (i + 1) xs)
items_from f xs i d inside = rw add-one (ap (map f) (drop-cons xs i d inside))

nothing_by_length : (ys : List (List ℕ)) → is_nothing ys ≡ nat_eq (length ys) 0
nothing_by_length [] = refl
nothing_by_length (y ∷ ys) = suc_is_some (length ys)

last_by_length : (a b : ℕ) → a ≤ b → nat_eq (b - a) 0 ≡ nat_eq a b
last_by_length a b within = grind (arith, nat_tests)

-- nothing comes after the last item
pub nothing_after : {A : Type 0} (f : A → List ℕ) (xs : List A) (i : ℕ) → i < length xs
    → is_nothing (map f (drop (i + 1) xs)) ≡ nat_eq (i + 1) (length xs)
nothing_after f xs i inside =
    nothing_by_length (map f (drop (i + 1) xs))
    ∙ ap (λ count. nat_eq count 0) (length-map (drop (i + 1) xs) f ∙ length-drop (i + 1) xs)
    ∙ last_by_length (i + 1) (length xs) (omega arith)

-- the line at a place, whose bytes are known, comes before those after it
pub content_at_line : {A : Type 0} (f : A → List ℕ) (xs : List A) (i : ℕ) (d : A) (front now : List ℕ)
    → i < length xs
    → (more : List ℕ) × ((line_bytes (f (get_or xs i d)) (nat_eq (i + 1) (length xs)) ≡ Some more) × (now ≡ front ++ more))
    → bytes_followed (Some front) (content_bytes (map f (drop i xs))) ≡ bytes_followed (Some now) (content_bytes (map f (drop (i + 1) xs)))
content_at_line f xs i d front now inside (more, (found, grown)) =
    ap (λ lines. bytes_followed (Some front) (content_bytes lines)) (items_from f xs i d inside)
    ∙ content_step front more (f (get_or xs i d)) (map f (drop (i + 1) xs)) (ap (line_bytes (f (get_or xs i d))) (nothing_after f xs i inside) ∙ found)
    ∙ ap (λ bytes. bytes_followed (Some bytes) (content_bytes (map f (drop (i + 1) xs)))) (sym grown)

-- the line at a place that spells nothing leaves no content
pub content_at_flaw : {A : Type 0} (f : A → List ℕ) (xs : List A) (i : ℕ) (d : A) (front : List ℕ)
    → i < length xs → line_bytes (f (get_or xs i d)) (nat_eq (i + 1) (length xs)) ≡ None
    → bytes_followed (Some front) (content_bytes (map f (drop i xs))) ≡ None
content_at_flaw f xs i d front inside flaw =
    ap (λ lines. bytes_followed (Some front) (content_bytes lines)) (items_from f xs i d inside)
    ∙ content_flaw front (f (get_or xs i d)) (map f (drop (i + 1) xs)) (ap (line_bytes (f (get_or xs i d))) (nothing_after f xs i inside) ∙ flaw)

-- what follows from a fact of a flaw of the form is one too
pub on_form : {P Q : Type 0} → (P → Q) → (flaw : Flaw) → OnForm P flaw → OnForm Q flaw
on_form from (Form line fault) held = from held
on_form from Memory held = tt

-- an open last line has the bytes before its backslash
pub open_last : (line : List ℕ) (is_last : Bool) → true ≡ is_open line → is_last ≡ true
    → line_bytes line is_last ≡ unescaped (take (length line - 1) line)
open_last line is_last opened last = rw (← opened) (rw last refl)
