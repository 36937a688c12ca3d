-- Which words, after the program's own name, are a command line, and the command that they give.
use Rattle.std.specs.Prelude.{true, ℕ, ◌-◌, ◌^◌, List, [], ◌∷◌, ◌++◌, Option, Some, None, codes, map, option_and_then, option_map, if◌then◌else◌}
use Rattle.std.specs.Str.{bytes_eq}
use Rattle.clap.specs.Faults.{fault_of}
use Rattle.clap.specs.Kinds.{Kinds}
use Rattle.clap.specs.Simple.{App, matches_of, new_rule, new_shape}
use Rattle.clap.specs.Walk.{Row, Rule, Text, first_of}
use Rattle.cgm_atom.specs.Limits.{max_workers}
use Rattle.cgm_search.specs.declared.plans.Plan.{Plan}
use Rattle.cgm_search.specs.Searching.{max_budget, max_restarts}
use Rattle.cgm_cli.specs.Numbers.{number_or, numeral_in}

-- ---- the words that each command takes

-- a word that is wanted in its place
abbrev pub positional : Text → Rule
positional id = record (new_rule id) { required = true }

-- `--NAME=VALUE`, which may be left out
abbrev pub option : Text → Rule
option name = record (new_rule name) { long = Some name }

-- a command word with its positional words and its options, without help and version
abbrev pub options_of : Text → List Text → List Text → App
options_of word positionals names = record {
  top = record (new_shape word) {
    rules = map positional positionals ++ map option names;
    disable_help_flag = true;
  };
  subs = [];
}

-- `solve MODEL --earlier=FILE --cert=FILE --workers=N --budget=N --restarts=N --seed=N`
abbrev pub solve_options : App
solve_options =
    options_of (codes "solve") (codes "model" ∷ [])
    (codes "earlier" ∷ codes "cert" ∷ codes "workers" ∷ codes "budget" ∷ codes "restarts"
    ∷ codes "seed" ∷ [])

-- `check MODEL CERT --earlier=FILE`
abbrev pub check_options : App
check_options =
    options_of (codes "check") (codes "model" ∷ codes "cert" ∷ []) (codes "earlier" ∷ [])

-- `show MODEL`
abbrev pub show_options : App
show_options = options_of (codes "show") (codes "model" ∷ []) []

-- `encode MODEL --earlier=FILE`
abbrev pub encode_options : App
encode_options = options_of (codes "encode") (codes "model" ∷ []) (codes "earlier" ∷ [])

-- `trial N --workers=N --seed=N`
abbrev pub trial_options : App
trial_options =
    options_of (codes "trial") (codes "goals" ∷ []) (codes "workers" ∷ codes "seed" ∷ [])

abbrev pub unless_faulty : Kinds → List Row → Option (List Row)
unless_faulty [] rows = Some rows
unless_faulty (fault ∷ faults) rows = None

-- what the words give to each name; none where they aren't what the command takes
unfoldable pub given : App → List Text → Option (List Row)
given options words = unless_faulty (fault_of options words) (matches_of options words)

-- ---- the numbers that the words give

-- the number of an option, or its default; none where what is given is no number of its range
abbrev pub number_given : Text → ℕ → ℕ → ℕ → List Row → Option ℕ
number_given name least greatest default rows =
    number_or least greatest default (first_of name rows)

abbrev pub workers_given : List Row → Option ℕ
workers_given rows = number_given (codes "workers") 1 max_workers 4 rows

abbrev pub budget_given : List Row → Option ℕ
budget_given rows = number_given (codes "budget") 0 max_budget 1000000000 rows

abbrev pub restarts_given : List Row → Option ℕ
restarts_given rows = number_given (codes "restarts") 0 max_restarts 64 rows

abbrev pub seed_given : List Row → Option ℕ
seed_given rows = number_given (codes "seed") 0 (2 ^ 64 - 1) 0 rows

-- how long and how each worker searches; none where a number isn't one of its range
abbrev pub plan_given : List Row → Option Plan
plan_given rows =
    option_and_then (λ budget.
    option_and_then (λ restarts.
    option_map (λ seed. record { budget = budget; restarts = restarts; seed = seed })
    (seed_given rows)) (restarts_given rows)) (budget_given rows)

-- by which plan `trial` searches with this seed
abbrev pub trial_plan : ℕ → Plan
trial_plan seed = record { budget = 1000000000; restarts = 64; seed = seed }

-- the number of goals of `trial`; none where what is given is no number of its range
abbrev pub goals_given : List Row → Option ℕ
goals_given rows =
    option_and_then (numeral_in 0 (2 ^ 32 - 1)) (first_of (codes "goals") rows)

-- ---- commands

-- a command on files
pub data Command : Type 0 where
  -- `solve`, with the names of the model's file, of the earlier realization's file and of the certificate's file, by so many workers with this plan
  solve : Text → Option Text → Option Text → ℕ → Plan → Command
  -- `check`, with the names of the model's file, of the certificate's file and of the earlier realization's file
  check : Text → Text → Option Text → Command
  -- `show`, with the name of the model's file
  show : Text → Command
  -- `encode`, with the name of the model's file and that of the earlier realization's file
  encode : Text → Option Text → Command

-- the file of the model
abbrev pub model_file : Command → List ℕ
model_file (solve name file cert workers plan) = name
model_file (check name cert file) = name
model_file (encode name file) = name
model_file (show name) = name

-- the file of the earlier realization, where one is named
abbrev pub earlier_file : Command → Option (List ℕ)
earlier_file (solve name file cert workers plan) = file
earlier_file (check name cert file) = file
earlier_file (encode name file) = file
earlier_file (show name) = None

abbrev pub solve_with : List Row → Option Command
solve_with rows =
    option_and_then (λ model.
    option_and_then (λ workers.
    option_map (λ plan.
    solve model (first_of (codes "earlier") rows) (first_of (codes "cert") rows) workers plan)
    (plan_given rows)) (workers_given rows)) (first_of (codes "model") rows)

abbrev pub check_with : List Row → Option Command
check_with rows =
    option_and_then (λ model.
    option_map (λ cert. check model cert (first_of (codes "earlier") rows))
    (first_of (codes "cert") rows)) (first_of (codes "model") rows)

abbrev pub show_with : List Row → Option Command
show_with rows = option_map show (first_of (codes "model") rows)

abbrev pub encode_with : List Row → Option Command
encode_with rows =
    option_map (λ model. encode model (first_of (codes "earlier") rows))
    (first_of (codes "model") rows)

-- the command on files of the first word, which the words begin with
abbrev pub command_of : Text → List Text → Option Command
command_of word words =
    if bytes_eq word (codes "solve") then option_and_then solve_with (given solve_options words)
    else if bytes_eq word (codes "check")
    then option_and_then check_with (given check_options words)
    else if bytes_eq word (codes "show") then option_and_then show_with (given show_options words)
    else if bytes_eq word (codes "encode")
    then option_and_then encode_with (given encode_options words)
    else None

-- ---- what the words ask for

pub data Action : Type 0 where
  -- a command on files
  on_files : Command → Action
  -- `trial`, with so many goals, by so many workers with this plan
  trial : ℕ → ℕ → Plan → Action

abbrev pub trial_with : List Row → Option Action
trial_with rows =
    option_and_then (λ goals.
    option_and_then (λ workers.
    option_map (λ seed. trial goals workers (trial_plan seed))
    (seed_given rows)) (workers_given rows)) (goals_given rows)

-- what the first word asks for, which the words begin with
abbrev pub action_of : Text → List Text → Option Action
action_of word words =
    if bytes_eq word (codes "trial") then option_and_then trial_with (given trial_options words)
    else option_map on_files (command_of word words)

abbrev pub command_line : List Text → Option Action
command_line [] = None
command_line (word ∷ words) = action_of word (word ∷ words)

-- ---- by how many workers

-- one worker, however many are asked for
abbrev pub one_worker : ℕ → ℕ
one_worker asked = 1

-- as many workers as are asked for
abbrev pub as_asked : ℕ → ℕ
as_asked asked = asked

-- the command, where so many workers search as are said for those that are asked for
abbrev pub with_workers : (ℕ → ℕ) → Command → Command
with_workers workers_for (solve name file cert workers plan) =
    solve name file cert (workers_for workers) plan
with_workers workers_for (check name cert file) = check name cert file
with_workers workers_for (show name) = show name
with_workers workers_for (encode name file) = encode name file

-- the same of what the words ask for
abbrev pub searching_by : (ℕ → ℕ) → Action → Action
searching_by workers_for (on_files command) = on_files (with_workers workers_for command)
searching_by workers_for (trial goals workers plan) = trial goals (workers_for workers) plan

-- the command line of the words; none where they are none
abbrev pub command_for : (ℕ → ℕ) → List Text → Option Action
command_for workers_for words = option_map (searching_by workers_for) (command_line words)
