-- A text by its first line and the lines after it.
use Rattle.std.proofs.Common.{◌≡◌, ◌≢◌, ℕ, ◌+◌, ◌≤◌, List, [], ◌∷◌, ◌++◌, All, arith, refl, sym, ap, ◌∙◌, inl, inr, subst, Result, IfErr, IfOk, Ok, Err}
use Rattle.cgm_atom.specs.declared.entries.Entry.{Entry}
use Rattle.cgm_cert.specs.declared.stop.CertKind.TheVariants as kinds
use Rattle.cgm_cert.specs.declared.stop.CertStop.{CertStop}
use Rattle.cgm_cert.specs.declared.stop.CertStop.TheVariants as stops
use Rattle.cgm_cert.specs.declared.stop.CertKind.{CertKind}
use Rattle.cgm_atom.specs.Ranges.{IsPrintable}
use Rattle.cgm_cert.specs.Spelling.{lines, lines_of, header, cert_text}
use Rattle.cgm_cert.specs.Fault.{FailsAt, AreFaultyAt, IsTextOf, HasFault, IsNotRead, IsStopAfter}

pub is_text : (text first rest : List ℕ) (entries : List Entry) → text ≡ first ++ 10 ∷ rest → first ≡ header → rest ≡ lines_of entries → All IsPrintable entries → IsTextOf text entries
unfolding IsTextOf cert_text
is_text text first rest entries e head after all =
    (e ∙ ap (λ l. l ++ 10 ∷ rest) head ∙ ap (λ l. header ++ 10 ∷ l) after, all)

pub empty_text : (text : List ℕ) → text ≡ [] → HasFault text 1 kinds.Header
unfolding HasFault
empty_text text e = subst (λ t. AreFaultyAt (lines t) 1 kinds.Header) (sym e) (refl, refl)

unfinished_lines : (text : List ℕ) → text ≢ [] → AreFaultyAt (text ∷ []) 1 kinds.Unfinished
unfinished_lines [] some = absurd (some refl)
unfinished_lines (byte ∷ bytes) some = (refl, refl)

pub no_feed : (text : List ℕ) → lines text ≡ text ∷ [] → text ≢ [] → HasFault text 1 kinds.Unfinished
unfolding HasFault
no_feed text e some = subst (λ l. AreFaultyAt l 1 kinds.Unfinished) (sym e) (unfinished_lines text some)

faulty_header : (first : List ℕ) (rest : List (List ℕ)) → rest ≢ [] → first ≢ header → AreFaultyAt (first ∷ rest) 1 kinds.Header
faulty_header first [] there other = absurd (there refl)
faulty_header first (next ∷ more) there other = inl (other, refl, refl)

pub no_header : (text first : List ℕ) (rest : List (List ℕ)) → lines text ≡ first ∷ rest → rest ≢ [] → first ≢ header → HasFault text 1 kinds.Header
unfolding HasFault
no_header text first rest e there other = subst (λ l. AreFaultyAt l 1 kinds.Header) (sym e) (faulty_header first rest there other)

are_faulty : (first : List ℕ) (rest : List (List ℕ)) (line : ℕ) (kind : CertKind) → first ≡ header → rest ≢ [] → FailsAt 2 rest line kind → AreFaultyAt (first ∷ rest) line kind
are_faulty first [] line kind head there fails = absurd (there refl)
are_faulty first (next ∷ more) line kind head there fails = inr (head, fails)

fails_later : (number faulty : ℕ) (kind : CertKind) (rest : List (List ℕ)) → FailsAt number rest faulty kind → number ≤ faulty
fails_later number faulty kind [] fails = absurd fails
fails_later number faulty kind (line ∷ []) fails = omega (arith, fails.1)
fails_later number faulty kind (line ∷ next ∷ more) (inl here) = omega (arith, here.0)
fails_later number faulty kind (line ∷ next ∷ more) (inr later) = omega (arith, fails_later (number + 1) faulty kind (next ∷ more) later.1.1)

-- a header that stands is no fault of line 1
first_is_right : (first : List ℕ) (rest : List (List ℕ)) (kind : CertKind) → first ≡ header → rest ≢ [] → AreFaultyAt (first ∷ rest) 1 kind → ⊥
first_is_right first [] kind head there faulty = absurd (there refl)
first_is_right first (next ∷ more) kind head there (inl here) = absurd (here.0 head)
first_is_right first (next ∷ more) kind head there (inr later) =
    absurd (omega (arith, fails_later 2 1 kind (next ∷ more) later.1))

pub is_not_read : (text first : List ℕ) (rest : List (List ℕ)) (stop : CertStop) → lines text ≡ first ∷ rest → first ≡ header → rest ≢ [] → IsStopAfter rest stop → IsNotRead text stop
unfolding HasFault
is_not_read text first rest (stops.Bad line kind) e head there fails =
    subst (λ l. AreFaultyAt l line kind) (sym e) (are_faulty first rest line kind head there fails)
is_not_read text first rest stops.Memory e head there fails = λ kind faulty.
    first_is_right first rest kind head there (subst (λ l. AreFaultyAt l 1 kind) e faulty)

pub if_ok : {X E : Type 0} {P Q : X → Type 0} (r : Result X E) → ((x : X) → P x → Q x) → IfOk r P → IfOk r Q
if_ok (Ok x) f p = f x p
if_ok (Err e) f p = tt

pub if_err : {X E : Type 0} {P Q : E → Type 0} (r : Result X E) → ((e : E) → P e → Q e) → IfErr r P → IfErr r Q
if_err (Ok x) f p = tt
if_err (Err e) f p = f e p
