-- The outcome of the program for its words: from the world that it found to the world that it left, with its status.
use Rattle.std.specs.Prelude.{◌≡◌, ◌≢◌, ℕ, List, IfSome, IsSomeAnd, Option, None, Some}
use Rattle.cgm_base.specs.declared.status.Status.{Status}
use Rattle.cgm_base.specs.declared.status.Status.TheVariants.{Done, Unrealizable, Usage, Open, Write, Memory}
use Rattle.cgm_shelf.specs.Shelf.{Files, ShelfState}
use Rattle.cgm_shelf.specs.Sink.{SinkState}
use Rattle.cgm_model.specs.declared.lists.Lists.{Lists}
use Rattle.cgm_evolve.specs.Pairs.{Pair}
use Rattle.cgm_print.specs.Canonical.{canonical_text}
use Rattle.cgm_trail.specs.TrailState.{TrailState}
use Rattle.cgm_encode.specs.Problem.{problem_of}
use Rattle.cgm_encode.specs.ProblemText.{problem_text}
use Rattle.cgm_cli.specs.CheckOutcome.{HasCheckOutcome}
use Rattle.cgm_cli.specs.CommandLine.{Action, Command, solve, check, show, encode, command_for, earlier_file, model_file, on_files, trial}
use Rattle.cgm_cli.specs.Effects.{World, IsCutOff, AreTrailsExtended, IsPrinted, IsTold, IsUnchanged, IsUntouched, outside_of}
use Rattle.cgm_cli.specs.FaultLines.{memory_fault, usage_fault}
use Rattle.cgm_cli.specs.Inputs.{HasInputOutcome, HasProblemOutcome}
use Rattle.cgm_cli.specs.SolveOutcome.{HasSolveOutcome, wanted}
use Rattle.cgm_cli.specs.TrialOutcome.{HasTrialOutcome}

-- ---- the outcome of a command

-- a command that prints this text
abbrev pub HasTextOutcome : List ℕ → SinkState → SinkState → Status → Type 0
HasTextOutcome text old new Done = IsPrinted text old new
HasTextOutcome text old new Write = IsCutOff text old new
HasTextOutcome text old new Memory = IsTold memory_fault old new
HasTextOutcome text old new status = ⊥

-- `show`: the canonical text of the model
abbrev pub HasShowOutcome : SinkState → SinkState → Lists → Status → Type 0
HasShowOutcome old new m status = HasTextOutcome (canonical_text m) old new status

-- `encode`, with what is known of an earlier realization: the text of the model's problem
abbrev pub HasEncodeOutcome : SinkState → SinkState → Lists → List Pair → Status → Type 0
HasEncodeOutcome old new m earlier status =
    HasTextOutcome (problem_text (problem_of m earlier)) old new status

-- the outcome of a command for what its files gave: a model with the lines of its rules, and what is known of an earlier realization
abbrev pub HasOwnOutcome : Command → World → World → Lists → List ℕ → List Pair → Status → Type 0
HasOwnOutcome (solve name file cert workers plan) found left m rule_lines earlier status =
    HasProblemOutcome (HasSolveOutcome (wanted workers plan cert) found left)
    found.sink left.sink m rule_lines earlier status
HasOwnOutcome (check name cert file) found left m rule_lines earlier status =
    HasProblemOutcome (HasCheckOutcome cert (outside_of found) (outside_of left))
    found.sink left.sink m rule_lines earlier status
HasOwnOutcome (encode name file) found left m rule_lines earlier status =
    HasProblemOutcome (HasEncodeOutcome found.sink left.sink)
    found.sink left.sink m rule_lines earlier status
HasOwnOutcome (show name) found left m rule_lines earlier status =
    HasShowOutcome found.sink left.sink m status

-- the outcome of a command on files: of its files, and of what they gave
abbrev pub HasCommandOutcome : Command → World → World → Status → Type 0
HasCommandOutcome command found left status =
    HasInputOutcome (HasOwnOutcome command found left) (model_file command) (earlier_file command)
    (outside_of found) (outside_of left) status

-- the outcome of what is asked for: a command on files, or `trial`
abbrev pub HasActionOutcome : Action → World → World → Status → Type 0
HasActionOutcome (on_files command) found left status = HasCommandOutcome command found left status
HasActionOutcome (trial goals workers plan) found left status =
    HasTrialOutcome goals workers plan found left status

-- ---- the outcome for the words

-- the words are no command line, or memory is wanted to read them
abbrev pub HasUsageOutcome : SinkState → SinkState → Status → Type 0
HasUsageOutcome old new Usage = IsTold usage_fault old new
HasUsageOutcome old new Memory = IsTold memory_fault old new
HasUsageOutcome old new status = ⊥

-- the outcome of a command line; none where the words are no command line
abbrev pub HasWordsOutcome : Option Action → World → World → Status → Type 0
HasWordsOutcome None found left status = HasUsageOutcome found.sink left.sink status
HasWordsOutcome (Some action) found left status = HasActionOutcome action found left status

-- the outcome for the words, where workers_for says how many workers search where so many are asked for
abbrev pub HasOutcome : (ℕ → ℕ) → List (List ℕ) → World → World → Status → Type 0
HasOutcome workers_for words found left status =
    HasWordsOutcome (command_for workers_for words) found left status

-- ---- what is left of the files

-- no file but the named one has changed
abbrev pub OnlyTouches : List ℕ → Option Files → Option Files → Type 0
OnlyTouches name old new =
    IfSome old (λ before.
    IsSomeAnd new (λ now. (other : List ℕ) → other ≢ name → now other ≡ before other))

-- a search that a certificate is wanted of leaves other files as they are, and all of them where it ends before there is a certificate
abbrev pub AreFilesOfSearch : Option (List ℕ) → ShelfState → ShelfState → Status → Type 0
AreFilesOfSearch None old new status = IsUntouched old new
AreFilesOfSearch (Some cert) old new Done = OnlyTouches cert old.files new.files
AreFilesOfSearch (Some cert) old new Unrealizable = OnlyTouches cert old.files new.files
AreFilesOfSearch (Some cert) old new Open = OnlyTouches cert old.files new.files
AreFilesOfSearch (Some cert) old new Write = OnlyTouches cert old.files new.files
AreFilesOfSearch (Some cert) old new status = IsUntouched old new

abbrev pub LeavesFiles : Command → ShelfState → ShelfState → Status → Type 0
LeavesFiles (solve name file cert workers plan) old new status =
    AreFilesOfSearch cert old new status
LeavesFiles (check name cert file) old new status = IsUntouched old new
LeavesFiles (encode name file) old new status = IsUntouched old new
LeavesFiles (show name) old new status = IsUntouched old new

-- `trial` touches no file
abbrev pub LeavesFilesAfter : Action → ShelfState → ShelfState → Status → Type 0
LeavesFilesAfter (on_files command) old new status = LeavesFiles command old new status
LeavesFilesAfter (trial goals workers plan) old new status = IsUntouched old new

-- the same of a command line; none where the words are no command line
abbrev pub AreFilesOf : Option Action → ShelfState → ShelfState → Status → Type 0
AreFilesOf None old new status = IsUntouched old new
AreFilesOf (Some action) old new status = LeavesFilesAfter action old new status

-- ---- what is left of the trails

-- a search leaves more trails only where its budget is spent or its report isn't printed
abbrev pub IsWorkOfSearch : List TrailState → List TrailState → Status → Type 0
IsWorkOfSearch old new Open = AreTrailsExtended old new
IsWorkOfSearch old new Write = AreTrailsExtended old new
IsWorkOfSearch old new Memory = AreTrailsExtended old new
IsWorkOfSearch old new status = IsUnchanged old new

abbrev pub LeavesWork : Command → List TrailState → List TrailState → Status → Type 0
LeavesWork (solve name file cert workers plan) old new status = IsWorkOfSearch old new status
LeavesWork (check name cert file) old new status = IsUnchanged old new
LeavesWork (encode name file) old new status = IsUnchanged old new
LeavesWork (show name) old new status = IsUnchanged old new

abbrev pub LeavesWorkAfter : Action → List TrailState → List TrailState → Status → Type 0
LeavesWorkAfter (on_files command) old new status = LeavesWork command old new status
LeavesWorkAfter (trial goals workers plan) old new status = IsWorkOfSearch old new status

-- the same of a command line; none where the words are no command line
abbrev pub IsWorkOf : Option Action → List TrailState → List TrailState → Status → Type 0
IsWorkOf None old new status = IsUnchanged old new
IsWorkOf (Some action) old new status = LeavesWorkAfter action old new status

-- ---- the whole

-- what is asked for ends, from the world that it found to the world that it left, with this status
pub record Ends (action : Action) (found left : World) (status : Status) : Type 0 where
  pub outcome : HasActionOutcome action found left status
  pub files : LeavesFilesAfter action found.shelf left.shelf status
  pub work : LeavesWorkAfter action found.work left.work status

-- the program ends so where its words ask for this, or are no command line
pub record Runs (line : Option Action) (found left : World) (status : Status) : Type 0 where
  pub outcome : HasWordsOutcome line found left status
  pub files : AreFilesOf line found.shelf left.shelf status
  pub work : IsWorkOf line found.work left.work status
