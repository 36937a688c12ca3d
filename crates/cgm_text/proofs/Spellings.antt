-- A name is a word, and none of the built-in quantities.
use Rattle.std.proofs.Common.{◌≡◌, ℕ, Bool, true, false, ◌||◌, not, List, Option, None, Some, if◌then◌else◌, codes, refl}
use Rattle.std.specs.Str.{bytes_eq}
use Rattle.std.proofs.lemmas.Bool.{and_parts}
use Rattle.cgm_lex.specs.Lexemes.{word}
use Rattle.cgm_lex.specs.Names.{is_spelled}
use Rattle.cgm_lex.specs.Spelling.{IsPlain}
use Rattle.cgm_lex.proofs.Spelled.{spelled_plain}
use Rattle.cgm_model.specs.declared.lists.Quantity.{Quantity}
use Rattle.cgm_model.specs.declared.lists.Quantity.TheVariants as quantities
use Rattle.cgm_model.specs.Name.{is_name, is_reserved}
use Rattle.cgm_text.specs.Parsed.{built_in}

pub name_plain : (n : List ℕ) → is_name n ≡ true → IsPlain (word n)
name_plain n e = spelled_plain n (and_parts (is_spelled n) (not (is_reserved n)) e).0

-- the built-in quantity of the first test that holds
abbrev pub chosen : Bool → Bool → Bool → Bool → Bool → Bool → Option Quantity
chosen a b c d e f =
    if a then Some quantities.Weight
    else if b then Some quantities.UnsatPrefs
    else if c then Some quantities.UnsatReqs
    else if d then Some quantities.SatTasks
    else if e then Some quantities.Familiarity
    else if f then Some quantities.Effort
    else None

none_chosen : (r s t u a b c d e f : Bool) → not (r || (s || (t || (u || (a || (b || (c || (d || (e || (f || false)))))))))) ≡ true → chosen a b c d e f ≡ None
none_chosen true s t u a b c d e f h = cc
none_chosen false true t u a b c d e f h = cc
none_chosen false false true u a b c d e f h = cc
none_chosen false false false true a b c d e f h = cc
none_chosen false false false false true b c d e f h = cc
none_chosen false false false false false true c d e f h = cc
none_chosen false false false false false false true d e f h = cc
none_chosen false false false false false false false true e f h = cc
none_chosen false false false false false false false false true f h = cc
none_chosen false false false false false false false false false true h = cc
none_chosen false false false false false false false false false false h = refl

pub name_free : (n : List ℕ) → is_name n ≡ true → built_in n ≡ None
name_free n e =
    none_chosen (bytes_eq (codes "and") n) (bytes_eq (codes "or") n) (bytes_eq (codes "not") n) (bytes_eq (codes "iff") n) (bytes_eq (codes "weight") n) (bytes_eq (codes "unsat_prefs") n) (bytes_eq (codes "unsat_reqs") n) (bytes_eq (codes "sat_tasks") n) (bytes_eq (codes "familiarity") n) (bytes_eq (codes "effort") n) (and_parts (is_spelled n) (not (is_reserved n)) e).1
