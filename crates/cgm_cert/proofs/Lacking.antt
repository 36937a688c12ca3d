-- No text lacks both entries and a fault.
use Rattle.std.proofs.Common.{◌≡◌, ◌≢◌, ℕ, zero, suc, ◌+◌, List, [], ◌∷◌, ◌++◌, All, refl, sym, ap, ◌∙◌, inl, inr, arith}
use Rattle.std.specs.List.{join_with_byte}
use Rattle.std.proofs.lemmas.List.Splits.{join_with_byte-slice_split}
use Rattle.cgm_atom.specs.declared.entries.Entry.{Entry}
use Rattle.cgm_atom.specs.Ranges.{IsPrintable}
use Rattle.cgm_cert.specs.declared.stop.CertKind.{CertKind}
use Rattle.cgm_cert.specs.declared.stop.CertKind.TheVariants as kinds
use Rattle.cgm_cert.specs.Spelling.{entry_line, lines_of, lines, header, cert_text}
use Rattle.cgm_cert.specs.Fault.{FailsAt, AreFaultyAt, HasFault, IsLineOf, IsTextOf}
use Rattle.cgm_cert.proofs.Steps.{lines_there}

-- the lines are those of printable entries, and nothing follows the last of them
AreLinesOf : List (List ℕ) → List Entry → Type 0
AreLinesOf rest entries = (join_with_byte 10 rest ≡ lines_of entries) × All IsPrintable entries

all_more : (e : Entry) (es : List Entry) → IsPrintable e → All IsPrintable es → All IsPrintable (e ∷ es)
all_more e es here later zero d h = here
all_more e es here later (suc k) d h = later k d (omega arith)

one_line : (line : List ℕ) → line ≡ [] → AreLinesOf (line ∷ []) []
unfolding AreLinesOf
one_line line e = (rw e refl, λ k d h. absurd (omega arith))

more_lines : (line next : List ℕ) (more : List (List ℕ)) (e : Entry) (es : List Entry) → IsLineOf line e → AreLinesOf (next ∷ more) es → AreLinesOf (line ∷ next ∷ more) (e ∷ es)
unfolding AreLinesOf
more_lines line next more e es is rest =
    (ap (λ l. l ++ 10 ∷ join_with_byte 10 (next ∷ more)) is.0 ∙ ap (λ l. entry_line e ++ 10 ∷ l) rest.0, all_more e es is.1 rest.1)

last_lacks : (number : ℕ) (line : List ℕ) → ((entries : List Entry) → AreLinesOf (line ∷ []) entries → ⊥) → ((faulty : ℕ) (kind : CertKind) → FailsAt number (line ∷ []) faulty kind → ⊥) → ⊥
last_lacks number line none sound = sound number kinds.Unfinished ((λ e. none [] (one_line line e)), refl, refl)

after_lacks : (number : ℕ) (rest : List (List ℕ)) → rest ≢ [] → ((entries : List Entry) → AreLinesOf rest entries → ⊥) → ((faulty : ℕ) (kind : CertKind) → FailsAt number rest faulty kind → ⊥) → ⊥
after_lacks number [] there none sound = there refl
after_lacks number (line ∷ []) there none sound = last_lacks number line none sound
after_lacks number (line ∷ next ∷ more) there none sound =
    sound number kinds.Entry (inl (
      refl,
      refl,
      λ e is.
          after_lacks (number + 1) (next ∷ more) (λ empty. absurd (cc)) (λ es lines. none (e ∷ es) (more_lines line next more e es is lines))
          (λ faulty kind fails. sound faulty kind (inr (e, (is, fails)))),
    ))

header_lacks : (first : List ℕ) (rest : List (List ℕ)) → ((entries : List Entry) → first ≡ header → rest ≢ [] → AreLinesOf rest entries → ⊥) → ((line : ℕ) (kind : CertKind) → AreFaultyAt (first ∷ rest) line kind → ⊥) → ⊥
header_lacks [] [] none sound = sound 1 kinds.Header (refl, refl)
header_lacks (byte ∷ bytes) [] none sound = sound 1 kinds.Unfinished (refl, refl)
header_lacks first (next ∷ more) none sound =
    sound 1 kinds.Header (inl (
      λ head.
          after_lacks 2 (next ∷ more) (λ empty. absurd (cc)) (λ es lines. none es head (λ empty. absurd (cc)) lines)
          (λ faulty kind fails. sound faulty kind (inr (head, fails))),
      refl,
      refl,
    ))

whole_is : (text first next : List ℕ) (more : List (List ℕ)) (entries : List Entry) → lines text ≡ first ∷ next ∷ more → first ≡ header → AreLinesOf (next ∷ more) entries → IsTextOf text entries
unfolding AreLinesOf IsTextOf cert_text
whole_is text first next more entries e head rest = (
  sym (join_with_byte-slice_split 10 text) ∙ ap (λ l. join_with_byte 10 l) e ∙ ap (λ l. l ++ 10 ∷ join_with_byte 10 (next ∷ more)) head
      ∙ ap (λ l. header ++ 10 ∷ l) rest.0,
  rest.1,
)

text_is : (text first : List ℕ) (rest : List (List ℕ)) (entries : List Entry) → lines text ≡ first ∷ rest → first ≡ header → rest ≢ [] → AreLinesOf rest entries → IsTextOf text entries
text_is text first [] entries e head there rest = absurd (there refl)
text_is text first (next ∷ more) entries e head there rest = whole_is text first next more entries e head rest

lines_lack : (text : List ℕ) (all : List (List ℕ)) → lines text ≡ all → ((entries : List Entry) → IsTextOf text entries → ⊥) → ((line : ℕ) (kind : CertKind) → AreFaultyAt all line kind → ⊥) → ⊥
lines_lack text [] e none sound = lines_there text e
lines_lack text (first ∷ rest) e none sound =
    header_lacks first rest (λ entries head there is. none entries (text_is text first rest entries e head there is)) sound

pub lacks_not_both : (text : List ℕ) → ((entries : List Entry) → IsTextOf text entries → ⊥) → ((line : ℕ) (kind : CertKind) → HasFault text line kind → ⊥) → ⊥
unfolding HasFault
lacks_not_both text none sound = lines_lack text (lines text) refl none (λ line kind faulty. sound line kind faulty)
