-- When a run gave what its case wants of it.
use Rattle.std.specs.Prelude.{◌≡◌, ◌⊎◌, ℕ, List, [], ◌∷◌, length, take, drop, codes, All, String, option_map}
use Rattle.std.specs.String.{string_bytes}
use Rattle.std.specs.declared.alloc.Global.{Global}
use Rattle.cgm_shelf.specs.Shelf.{Files}
use Rattle.cgm_transcripts.specs.declared.case.Extent.{Extent}
use Rattle.cgm_transcripts.specs.declared.case.Extent.TheVariants.{Whole, Front}
use Rattle.cgm_transcripts.specs.declared.case.Run.{Run}
use Rattle.cgm_transcripts.specs.declared.case.WantedFile.{WantedFile}

-- the output is these bytes, or begins with them
abbrev pub IsOutput : Extent → List ℕ → List ℕ → Type 0
IsOutput Whole wanted printed = printed ≡ wanted
IsOutput Front wanted printed = take (length wanted) printed ≡ wanted

-- the files have these bytes under the wanted file's name, or none where it has none
abbrev pub IsLeftFile : Files → WantedFile → Type 0
IsLeftFile files file = files (string_bytes file.name) ≡ option_map (λ bytes. bytes.items) file.bytes

-- these bytes are the front and then the rest
abbrev pub IsJoined : List ℕ → List ℕ → List ℕ → Type 0
IsJoined bytes front rest = (take (length front) bytes ≡ front) × (drop (length front) bytes ≡ rest)

-- the word names this file as one that is written
abbrev pub NamesFile : List ℕ → List ℕ → Type 0
NamesFile word name = IsJoined word (codes "--cert=") name ⊎ IsJoined word (codes "--core=") name

-- one of the words does
abbrev pub IsWrittenTo : List (String Global) → List ℕ → Type 0
IsWrittenTo [] name = ⊥
IsWrittenTo (word ∷ words) name = NamesFile (string_bytes word) name ⊎ IsWrittenTo words name

-- a file is as before, or a word names it as one that is written
abbrev pub IsKeptFile : List (String Global) → Files → Files → List ℕ → Type 0
IsKeptFile words before after name = IsWrittenTo words name ⊎ (after name ≡ before name)

-- the run ended with the wanted status and the wanted output, left each wanted file so, and of the files with these names
-- it changed none but those that its words name
pub record IsWantedEnd (run : Run) (code : ℕ) (printed : List ℕ) (names : List (String Global)) (before after : Files) : Type 0 where
  pub status : code ≡ run.status.code
  pub output : IsOutput run.output.extent run.output.bytes.items printed
  pub files : All (IsLeftFile after) run.files.items
  pub kept : All (λ name. IsKeptFile run.words.items before after (string_bytes name)) names
