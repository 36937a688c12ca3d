-- Bytes that are spelled one after another.
use Rattle.std.proofs.Common.{◌≡◌, ◌∙◌, ℕ, List, [], ◌∷◌, ◌++◌, true, false, nat_eq, suc, length, refl, sym, ap, append_assoc, append-nil, arith}
use Rattle.std.specs.Prelude.{Option, Some, None}
use Rattle.std.proofs.lemmas.Bool.Decides.{nat_tests}
use Rattle.cgm_transcripts.specs.Content.{bytes_followed, after_byte, unescaped}

-- a byte after bytes is the last one of them
pub followed-after_byte : (front : List ℕ) (byte : ℕ) (rest : Option (List ℕ))
    → bytes_followed (Some front) (after_byte (Some byte) rest) ≡ bytes_followed (Some (front ++ byte ∷ [])) rest
followed-after_byte front byte None = refl
followed-after_byte front byte (Some more) = ap Some (sym (append_assoc front (byte ∷ []) more))

-- no bytes before
pub followed-nothing : (rest : Option (List ℕ)) → bytes_followed (Some []) rest ≡ rest
followed-nothing None = refl
followed-nothing (Some more) = refl

-- bytes after bytes, all before the rest
pub followed-append : (front more : List ℕ) (rest : Option (List ℕ))
    → bytes_followed (Some front) (bytes_followed (Some more) rest) ≡ bytes_followed (Some (front ++ more)) rest
followed-append front more None = refl
followed-append front more (Some last) = ap Some (sym (append_assoc front more last))

pub suc_is_some : (n : ℕ) → false ≡ nat_eq (suc n) 0
suc_is_some n = grind (arith, nat_tests)

-- nothing that is left
pub followed-end : (all : Option (List ℕ)) (front left : List ℕ) → all ≡ bytes_followed (Some front) (unescaped left)
    → true ≡ nat_eq (length left) 0 → Some front ≡ all
followed-end all front [] same empty = sym (same ∙ ap Some (append-nil front))
followed-end all front (byte ∷ left) same empty = absurd (let t = suc_is_some (length left) in cc)
