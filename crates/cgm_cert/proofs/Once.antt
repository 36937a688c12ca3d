-- A text is that of one list of entries at most, and one that is has no fault; a text has one first fault at most.
use Rattle.std.proofs.Common.{◌≡◌, ◌≢◌, ℕ, suc, ◌+◌, eqb, List, [], ◌∷◌, ◌++◌, length, All, refl, sym, ap, ◌∙◌, inl, inr, subst, arith}
use Rattle.std.specs.List.{join_with_byte}
use Rattle.std.proofs.lemmas.List.{length-append}
use Rattle.std.proofs.lemmas.List.Splits.{slice_split_at, join_with_byte-slice_split}
use Rattle.cgm_atom.specs.declared.entries.Entry.{Entry}
use Rattle.cgm_cert.specs.declared.stop.CertKind.{CertKind}
use Rattle.cgm_atom.specs.Ranges.{IsPrintable}
use Rattle.cgm_cert.specs.Spelling.{entry_line, lines_of, lines, words, header, cert_text}
use Rattle.cgm_cert.specs.Fault.{FailsAt, AreFaultyAt, IsTextOf, HasFault}
use Rattle.cgm_cert.proofs.EntryLines.{entry_split, entry_free}
use Rattle.cgm_cert.proofs.Steps.{lines_there}
use Rattle.cgm_cert.proofs.Unique.{entry_unique}

lines_first : (e : Entry) (es : List Entry) → IsPrintable e → lines (lines_of (e ∷ es)) ≡ entry_line e ∷ lines (lines_of es)
lines_first e es printable = slice_split_at (λ b. eqb b 10) (entry_line e) 10 (lines_of es) (entry_free e printable) refl

entries_once : (one other : List Entry) → All IsPrintable one → All IsPrintable other → lines_of one ≡ lines_of other → one ≡ other
entries_once [] [] a b e = refl
entries_once [] (f ∷ fs) a b e = absurd (omega (arith, ap (λ l. length l) e, length-append (entry_line f) (10 ∷ lines_of fs)))
entries_once (e ∷ es) [] a b same = absurd (omega (arith, ap (λ l. length l) same, length-append (entry_line e) (10 ∷ lines_of es)))
entries_once (e ∷ es) (f ∷ fs) a b same =
    let first = a 0 e (omega arith) in
    let first' = b 0 f (omega arith) in
    let cut : entry_line e ∷ lines (lines_of es) ≡ entry_line f ∷ lines (lines_of fs) = sym (lines_first e es first) ∙ ap (λ t. lines t) same ∙ lines_first f fs first' in
    let line : entry_line e ≡ entry_line f = cc in
    let rest : lines (lines_of es) ≡ lines (lines_of fs) = cc in
    let joined : lines_of es ≡ lines_of fs = sym (join_with_byte-slice_split 10 (lines_of es)) ∙ ap (λ l. join_with_byte 10 l) rest ∙ join_with_byte-slice_split 10 (lines_of fs) in
    let head : e ≡ f = entry_unique e f first first' (sym (entry_split e first) ∙ ap (λ l. words l) line ∙ entry_split f first') in
    let others : es ≡ fs = entries_once es fs (λ k d within. a (suc k) d (omega (arith, within))) (λ k d within. b (suc k) d (omega (arith, within))) joined in
    ap (λ x. x ∷ es) head ∙ ap (λ l. f ∷ l) others

after_header : (t : List ℕ) → lines (header ++ 10 ∷ t) ≡ header ∷ lines t
after_header t = refl

pub one_list : (text : List ℕ) (one other : List Entry) → IsTextOf text one → IsTextOf text other → one ≡ other
unfolding IsTextOf cert_text
one_list text one other a b =
    let same : header ++ 10 ∷ lines_of one ≡ header ++ 10 ∷ lines_of other = sym a.0 ∙ b.0 in
    let rest : lines_of one ≡ lines_of other = cc in
    entries_once one other a.1 b.1 rest

fails_is : (number faulty : ℕ) (kind : CertKind) (e : Entry) (rest : List (List ℕ)) → IsPrintable e → rest ≢ [] → FailsAt number (entry_line e ∷ rest) faulty kind → FailsAt (number + 1) rest faulty kind
fails_is number faulty kind e [] printable there fails = absurd (there refl)
fails_is number faulty kind e (next ∷ more) printable there (inl here) = absurd (here.2 e (refl, printable))
fails_is number faulty kind e (next ∷ more) printable there (inr later) = later.1.1

entries_or_fails : (es : List Entry) (number faulty : ℕ) (kind : CertKind) → All IsPrintable es → FailsAt number (lines (lines_of es)) faulty kind → ⊥
entries_or_fails [] number faulty kind all fails = fails.0 refl
entries_or_fails (e ∷ es) number faulty kind all fails =
    let first = all 0 e (omega arith) in
    let cut = subst (λ l. FailsAt number l faulty kind) (lines_first e es first) fails in
    entries_or_fails es (number + 1) faulty kind (λ k d within. all (suc k) d (omega (arith, within)))
    (fails_is number faulty kind e (lines (lines_of es)) first (lines_there (lines_of es)) cut)

fault_is : (rest : List (List ℕ)) (faulty : ℕ) (kind : CertKind) → rest ≢ [] → AreFaultyAt (header ∷ rest) faulty kind → FailsAt 2 rest faulty kind
fault_is [] faulty kind there fault = absurd (there refl)
fault_is (next ∷ more) faulty kind there (inl here) = absurd (here.0 refl)
fault_is (next ∷ more) faulty kind there (inr later) = later.1

pub entries_or_fault : (text : List ℕ) (entries : List Entry) (line : ℕ) (kind : CertKind) → IsTextOf text entries → HasFault text line kind → ⊥
unfolding IsTextOf cert_text HasFault
entries_or_fault text entries line kind a fault =
    let lined = subst (λ t. AreFaultyAt (lines t) line kind) a.0 fault in
    let cut = subst (λ l. AreFaultyAt l line kind) (after_header (lines_of entries)) lined in
    entries_or_fails entries 2 line kind a.1 (fault_is (lines (lines_of entries)) line kind (lines_there (lines_of entries)) cut)

fails_once : (number one other : ℕ) (kind kind' : CertKind) (ls : List (List ℕ)) → FailsAt number ls one kind → FailsAt number ls other kind' → (one ≡ other) × (kind ≡ kind')
fails_once number one other kind kind' [] a b = absurd a
fails_once number one other kind kind' (line ∷ []) a b = (a.1 ∙ sym b.1, a.2 ∙ sym b.2)
fails_once number one other kind kind' (line ∷ next ∷ more) (inl a) (inl b) = (a.0 ∙ sym b.0, a.1 ∙ sym b.1)
fails_once number one other kind kind' (line ∷ next ∷ more) (inl a) (inr b) = absurd (a.2 b.0 b.1.0)
fails_once number one other kind kind' (line ∷ next ∷ more) (inr a) (inl b) = absurd (b.2 a.0 a.1.0)
fails_once number one other kind kind' (line ∷ next ∷ more) (inr a) (inr b) = fails_once (number + 1) one other kind kind' (next ∷ more) a.1.1 b.1.1

fault_once : (ls : List (List ℕ)) (one other : ℕ) (kind kind' : CertKind) → AreFaultyAt ls one kind → AreFaultyAt ls other kind' → (one ≡ other) × (kind ≡ kind')
fault_once [] one other kind kind' a b = absurd a
fault_once ([] ∷ []) one other kind kind' a b = (a.0 ∙ sym b.0, a.1 ∙ sym b.1)
fault_once ((byte ∷ bytes) ∷ []) one other kind kind' a b = (a.0 ∙ sym b.0, a.1 ∙ sym b.1)
fault_once (first ∷ next ∷ more) one other kind kind' (inl a) (inl b) = (a.1 ∙ sym b.1, a.2 ∙ sym b.2)
fault_once (first ∷ next ∷ more) one other kind kind' (inl a) (inr b) = absurd (a.0 b.0)
fault_once (first ∷ next ∷ more) one other kind kind' (inr a) (inl b) = absurd (b.0 a.0)
fault_once (first ∷ next ∷ more) one other kind kind' (inr a) (inr b) = fails_once 2 one other kind kind' (next ∷ more) a.1 b.1

pub one_fault : (text : List ℕ) (line other : ℕ) (kind kind' : CertKind) → HasFault text line kind → HasFault text other kind' → (line ≡ other) × (kind ≡ kind')
unfolding HasFault
one_fault text line other kind kind' a b = fault_once (lines text) line other kind kind' a b
