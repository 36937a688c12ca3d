-- Words that are no entry's, by the part that fails.
use Rattle.std.proofs.Common.{◌≡◌, ◌≢◌, ℕ, ◌^◌, ◌<◌, List, [], ◌∷◌, ◌++◌, get_or, All, sym, ap, map, arith, codes, decimal, None}
use Rattle.cgm_atom.specs.declared.constraints.Atom.{Atom}
use Rattle.cgm_atom.specs.declared.entries.Entry.TheVariants.{Best, Lemma}
use Rattle.cgm_atom.specs.declared.entries.Hint.{Hint}
use Rattle.cgm_atom.specs.Ranges.{IsAtomInRange}
use Rattle.cgm_atom.specs.AtomWords.{atom_word}
use Rattle.cgm_cert.specs.Printable.{IsHintPrintable}
use Rattle.cgm_cert.specs.Spelling.{hint_word}
use Rattle.cgm_cert.specs.Fault.{AreReadAs}
use Rattle.cgm_cert.proofs.EntryLines.{hints_are_printable}
use Rattle.cgm_cert.proofs.Rows.{marked}
use Rattle.cgm_cert.proofs.WordLemmas.{atom_is_no_mark}

-- after `lemma` and a worker no bound follows
pub no_bound : (by : ℕ) (rest after : List (List ℕ)) → rest ≡ decimal by ∷ after → ((bound : ℕ) (more : List (List ℕ)) → bound < 2 ^ 64 → after ≢ decimal bound ∷ more) → AreReadAs (codes "lemma" ∷ rest) None
no_bound by rest after split none (Best other values) printable e = absurd (omega (arith, ap (λ l. get_or (get_or l 0 []) 0 0) e))
no_bound by rest after split none (Lemma other clause hints bound) printable e =
    none bound (map atom_word clause.atoms ++ codes ":" ∷ map hint_word hints) printable.0.3 (cc)

-- after the atoms and the mark no hints follow
pub no_hints : (by bound : ℕ) (atoms : List Atom) (rest after : List (List ℕ)) → rest ≡ map atom_word atoms ++ codes ":" ∷ after → All IsAtomInRange atoms → ((hints : List Hint) → All IsHintPrintable hints → after ≢ map hint_word hints) → AreReadAs (codes "lemma" ∷ decimal by ∷ decimal bound ∷ rest) None
no_hints by bound atoms rest after split known none (Best other values) printable e = absurd (omega (arith, ap (λ l. get_or (get_or l 0 []) 0 0) e))
no_hints by bound atoms rest after split known none (Lemma other clause hints other_bound) printable e =
    let same : map atom_word clause.atoms ++ codes ":" ∷ map hint_word hints ≡ map atom_word atoms ++ codes ":" ∷ after = cc in
    let parts = marked atom_word IsAtomInRange atoms clause.atoms (codes ":") after (map hint_word hints) same atom_is_no_mark known printable.0.1 in
    none hints (hints_are_printable hints printable.0.2 printable.1) (sym parts.1)
