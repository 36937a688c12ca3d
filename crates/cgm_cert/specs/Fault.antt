-- The first faulty line of a text that is no certificate, and what is wrong with it.
use Rattle.std.specs.Prelude.{◌≡◌, ◌≢◌, ℕ, ◌+◌, ◌⊎◌, List, [], ◌∷◌, Option, None, Some}
use Rattle.std.specs.List.{All}
use Rattle.cgm_atom.specs.declared.entries.Entry.{Entry}
use Rattle.cgm_cert.specs.declared.stop.CertKind.{CertKind}
use Rattle.cgm_cert.specs.declared.stop.CertKind.TheVariants as kinds
use Rattle.cgm_cert.specs.declared.stop.CertStop.{CertStop}
use Rattle.cgm_cert.specs.declared.stop.CertStop.TheVariants as stops
use Rattle.cgm_atom.specs.Ranges.{IsPrintable}
use Rattle.cgm_cert.specs.Spelling.{entry_words, entry_line, cert_text, header, lines}

-- the line is that of a printable entry
abbrev pub IsLineOf : List ℕ → Entry → Type 0
IsLineOf line e = (line ≡ entry_line e) × IsPrintable e

-- words are those of a printable entry, or of none
abbrev pub AreReadAs : List (List ℕ) → Option Entry → Type 0
AreReadAs words (Some e) = (words ≡ entry_words e) × IsPrintable e
AreReadAs words None = (e : Entry) → IsPrintable e → words ≢ entry_words e

-- the first of the lines after the header that is faulty has the number `faulty`; the first of them all has the number
-- `number`; the last one is what follows the last line feed, and nothing is to follow it
abbrev pub FailsAt : ℕ → List (List ℕ) → ℕ → CertKind → Type 0
FailsAt number [] faulty kind = ⊥
FailsAt number (line ∷ []) faulty kind = (line ≢ []) × (faulty ≡ number) × (kind ≡ kinds.Unfinished)
FailsAt number (line ∷ next ∷ more) faulty kind =
    ((faulty ≡ number) × (kind ≡ kinds.Entry) × ((e : Entry) → ¬ IsLineOf line e))
    ⊎ ((e : Entry) × (IsLineOf line e × FailsAt (number + 1) (next ∷ more) faulty kind))

-- the same of all lines of a text: where the header lacks its line feed this is its fault, unless the text is empty
abbrev pub AreFaultyAt : List (List ℕ) → ℕ → CertKind → Type 0
AreFaultyAt [] faulty kind = ⊥
AreFaultyAt ([] ∷ []) faulty kind = (faulty ≡ 1) × (kind ≡ kinds.Header)
AreFaultyAt ((byte ∷ bytes) ∷ []) faulty kind = (faulty ≡ 1) × (kind ≡ kinds.Unfinished)
AreFaultyAt (first ∷ next ∷ more) faulty kind =
    ((first ≢ header) × (faulty ≡ 1) × (kind ≡ kinds.Header))
    ⊎ ((first ≡ header) × FailsAt 2 (next ∷ more) faulty kind)

-- the text is that of these entries, which are printable
unfoldable pub IsTextOf : List ℕ → List Entry → Type 0
IsTextOf text entries = (text ≡ cert_text entries) × All IsPrintable entries

-- the text's first faulty line, from 1, and what is wrong with it
unfoldable pub HasFault : List ℕ → ℕ → CertKind → Type 0
HasFault text line kind = AreFaultyAt (lines text) line kind

-- why a text isn't read: its first fault, or want of memory, which nothing wants before line 2
abbrev pub IsNotRead : List ℕ → CertStop → Type 0
IsNotRead text (stops.Bad line kind) = HasFault text line kind
IsNotRead text stops.Memory = (kind : CertKind) → ¬ HasFault text 1 kind

-- why the lines after the header aren't read
abbrev pub IsStopAfter : List (List ℕ) → CertStop → Type 0
IsStopAfter after (stops.Bad line kind) = FailsAt 2 after line kind
IsStopAfter after stops.Memory = Unit {0}
