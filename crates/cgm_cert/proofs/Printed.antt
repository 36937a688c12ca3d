-- The line of an entry, as it is printed piece by piece.
use Rattle.std.proofs.Common.{◌≡◌, ℕ, List, ◌∷◌, ◌++◌, sym, ap, ◌∙◌, map, codes, decimal, ℤ, append_assoc, Result, OnOk, Ok, Err}
use Rattle.std.specs.Fmt.{signed_decimal}
use Rattle.cgm_atom.specs.declared.constraints.Clause.{Clause}
use Rattle.cgm_atom.specs.declared.entries.Entry.TheVariants.{Best, Lemma}
use Rattle.cgm_atom.specs.declared.entries.Hint.{Hint}
use Rattle.cgm_atom.specs.AtomWords.{atom_word, spaced}
use Rattle.cgm_cert.specs.Spelling.{hint_word, entry_line}
use Rattle.cgm_cert.proofs.EntryLines.{join_is, spaced_append}

pub on_ok : {X E : Type 0} {P Q : Type 0} (r : Result X E) → (P → Q) → OnOk r P → OnOk r Q
on_ok (Ok x) f p = f p
on_ok (Err e) f p = tt

joined : (old a b c : List ℕ) → ((old ++ a) ++ b) ++ c ≡ old ++ (a ++ (b ++ c))
joined old a b c = append_assoc (old ++ a) b c ∙ append_assoc old a (b ++ c)

pub best_printed : (old one two three : List ℕ) (by : ℕ) (values : List ℤ) → one ≡ old ++ codes "best " → two ≡ one ++ decimal by → three ≡ two ++ spaced (map signed_decimal values) → three ≡ old ++ entry_line (Best by values)
best_printed old one two three by values e f g =
    let s = spaced (map signed_decimal values) in
    g ∙ ap (λ l. l ++ s) (f ∙ ap (λ l. l ++ decimal by) e) ∙ joined old (codes "best ") (decimal by) s ∙ ap (λ l. old ++ l) (sym (join_is (codes "best") (decimal by ∷ map signed_decimal values)))

pub lemma_printed : (old one two three four five six seven : List ℕ) (by bound : ℕ) (clause : Clause) (hints : List Hint) → one ≡ old ++ codes "lemma " → two ≡ one ++ decimal by → three ≡ two ++ codes " " → four ≡ three ++ decimal bound → five ≡ four ++ spaced (map atom_word clause.atoms) → six ≡ five ++ codes " :" → seven ≡ six ++ spaced (map hint_word hints) → seven ≡ old ++ entry_line (Lemma by clause hints bound)
lemma_printed old one two three four five six seven by bound clause hints e f g h i j k =
    let atoms = map atom_word clause.atoms in
    let ends = map hint_word hints in
    let third : three ≡ old ++ (codes "lemma " ++ (decimal by ++ codes " ")) = g ∙ ap (λ l. l ++ codes " ") (f ∙ ap (λ l. l ++ decimal by) e) ∙ joined old (codes "lemma ") (decimal by) (codes " ") in
    let fourth : seven ≡ ((three ++ decimal bound) ++ spaced atoms) ++ (codes " :" ++ spaced ends) = k ∙ ap (λ l. l ++ spaced ends) (j ∙ ap (λ l. l ++ codes " :") (i ∙ ap (λ l. l ++ spaced atoms) h)) ∙ append_assoc ((three ++ decimal bound) ++ spaced atoms) (codes " :") (spaced ends) in
    let fifth : seven ≡ three ++ (decimal bound ++ (spaced atoms ++ (codes " :" ++ spaced ends))) = fourth ∙ joined three (decimal bound) (spaced atoms) (codes " :" ++ spaced ends) in
    let rest = decimal bound ++ (spaced atoms ++ (codes " :" ++ spaced ends)) in
    let sixth : seven ≡ old ++ ((codes "lemma " ++ (decimal by ++ codes " ")) ++ rest) = fifth ∙ ap (λ l. l ++ rest) third ∙ append_assoc old (codes "lemma " ++ (decimal by ++ codes " ")) rest in
    let words : spaced (atoms ++ codes ":" ∷ ends) ≡ spaced atoms ++ (codes " :" ++ spaced ends) = spaced_append atoms (codes ":" ∷ ends) in
    let line : entry_line (Lemma by clause hints bound) ≡ codes "lemma " ++ (decimal by ++ (codes " " ++ rest)) = join_is (codes "lemma") (decimal by ∷ decimal bound ∷ (atoms ++ codes ":" ∷ ends)) ∙ ap (λ l. codes "lemma " ++ (decimal by ++ (codes " " ++ (decimal bound ++ l)))) words in
    let group : (codes "lemma " ++ (decimal by ++ codes " ")) ++ rest ≡ codes "lemma " ++ (decimal by ++ (codes " " ++ rest)) = append_assoc (codes "lemma ") (decimal by ++ codes " ") rest ∙ ap (λ l. codes "lemma " ++ l) (append_assoc (decimal by) (codes " ") rest) in
    sixth ∙ ap (λ l. old ++ l) (group ∙ sym line)
