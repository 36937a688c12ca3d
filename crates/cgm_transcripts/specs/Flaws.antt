-- Why a text can't be read as a transcript.
use Rattle.std.specs.Prelude.{⊤}
use Rattle.cgm_transcripts.specs.declared.flaw.Flaw.{Flaw}
use Rattle.cgm_transcripts.specs.declared.flaw.Flaw.TheVariants.{Form, Memory}

-- the fact holds where the text isn't of the form; want of memory says nothing
abbrev pub OnForm : Type 0 → Flaw → Type 0
OnForm P (Form line fault) = P
OnForm P Memory = ⊤
