-- How the program ends, and with which exit status.
use Rattle.std.specs.Prelude.{◌≡◌, ◌<◌, ℕ}
use Rattle.cgm_transcripts.specs.declared.ending.Ending.{Ending}
use Rattle.cgm_transcripts.specs.declared.ending.Ending.TheVariants.{Agree, Differ, Unfit}
use Rattle.cgm_transcripts.specs.declared.ending.Tally.{Tally}

-- the exit status of each ending
abbrev pub ending_code : Ending → ℕ
ending_code Agree = 0
ending_code Differ = 1
ending_code Unfit = 2

-- no case was told as different, each wrong case and each broken text was told, and a case was run
pub record IsWell (cases wrong broken : Tally) : Type 0 where
  pub agree : cases.told ≡ 0
  pub wrong_told : wrong.untold ≡ 0
  pub broken_told : broken.untold ≡ 0
  pub some : 0 < cases.untold

-- nothing was told as different, and no case was run
pub record IsUnrun (cases wrong broken : Tally) : Type 0 where
  pub agree : cases.told ≡ 0
  pub wrong_told : wrong.untold ≡ 0
  pub broken_told : broken.untold ≡ 0
  pub none : cases.untold ≡ 0
