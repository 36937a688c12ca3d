-- How a command ends after its files were read: it goes on from there, or there is no input.
use Rattle.std.proofs.Common.{◌≡◌, ℕ, List, [], ◌↔◌, IfOk, IfErr, Option, Some, None, option_map, Ok, Err, false, true, refl, sym, subst, inl, inr}
use Rattle.std.proofs.lemmas.Bool.{false≢true}
use Rattle.std.specs.declared.result.Result.{Result}
use Rattle.cgm_base.specs.declared.status.Status.{Status}
use Rattle.cgm_base.specs.declared.status.Status.TheVariants as statuses
use Rattle.cgm_model.specs.declared.lists.Lists.{Lists}
use Rattle.cgm_shelf.specs.Shelf.{OnlyReads, ShelfState}
use Rattle.cgm_shelf.specs.Sink.{SinkState}
use Rattle.cgm_trail.specs.TrailState.{TrailState}
use Rattle.cgm_evolve.specs.Pairs.{Pair}
use Rattle.cgm_cli.specs.CommandLine.{Action, Command, solve, check, show, encode, command_for, command_line, earlier_file, model_file, on_files, searching_by, trial, with_workers}
use Rattle.cgm_cli.specs.Effects.{IsTold, IsUntouched, World, outside, world}
use Rattle.cgm_cli.specs.FaultLines.{memory_fault, usage_fault}
use Rattle.cgm_cli.specs.Inputs.{HasNoInput, IsInputOf}
use Rattle.cgm_cli.specs.Outcome.{AreFilesOf, AreFilesOfSearch, Ends, HasOwnOutcome, HasWordsOutcome, IsWorkOf, LeavesFiles, LeavesWork, OnlyTouches, Runs}
use Rattle.cgm_cli.proofs.Shelves.{own_from, untouched_from}
use Rattle.cgm_cli.proofs.Solving.{unchanged, untouched_files}

-- ---- the files

touches_from : (name : List ℕ) (old mid new : ShelfState) → OnlyReads old mid → OnlyTouches name mid.files new.files → OnlyTouches name old.files new.files
touches_from name old mid new only left = subst (λ told. OnlyTouches name told new.files) only.files left

search_from : (cert : Option (List ℕ)) (old mid new : ShelfState) (status : Status) → OnlyReads old mid → AreFilesOfSearch cert mid new status → AreFilesOfSearch cert old new status
search_from None old mid new status only left = untouched_from old mid new only left
search_from (Some name) old mid new statuses.Done only left = touches_from name old mid new only left
search_from (Some name) old mid new statuses.Unrealizable only left = touches_from name old mid new only left
search_from (Some name) old mid new statuses.Open only left = touches_from name old mid new only left
search_from (Some name) old mid new statuses.Write only left = touches_from name old mid new only left
search_from (Some name) old mid new statuses.Memory only left = untouched_from old mid new only left
search_from (Some name) old mid new statuses.Usage only left = untouched_from old mid new only left
search_from (Some name) old mid new statuses.Text only left = untouched_from old mid new only left
search_from (Some name) old mid new statuses.Earlier only left = untouched_from old mid new only left
search_from (Some name) old mid new statuses.Limit only left = untouched_from old mid new only left
search_from (Some name) old mid new statuses.Certificate only left = untouched_from old mid new only left
search_from (Some name) old mid new statuses.Read only left = untouched_from old mid new only left

files_from : (command : Command) (old mid new : ShelfState) (status : Status) → OnlyReads old mid → LeavesFiles command mid new status → LeavesFiles command old new status
files_from (solve name file cert workers plan) old mid new status only left = search_from cert old mid new status only left
files_from (check name cert file) old mid new status only left = untouched_from old mid new only left
files_from (encode name file) old mid new status only left = untouched_from old mid new only left
files_from (show name) old mid new status only left = untouched_from old mid new only left

kept_files : (command : Command) (old new : ShelfState) (status : Status) → IsUntouched old new → LeavesFiles command old new status
kept_files (solve name file cert workers plan) old new status kept = untouched_files cert old new status kept
kept_files (check name cert file) old new status kept = kept
kept_files (encode name file) old new status kept = kept
kept_files (show name) old new status kept = kept

kept_work : (command : Command) (work : List TrailState) (status : Status) → LeavesWork command work work status
kept_work (solve name file cert workers plan) work status = unchanged work work status refl
kept_work (check name cert file) work status = refl
kept_work (encode name file) work status = refl
kept_work (show name) work status = refl

-- ---- a command

-- the files gave an input, without a word to the sink, and then this came of it
pub ends : (command : Command) (old mid new : ShelfState) (sink quiet said : SinkState) (work done : List TrailState) (name : List ℕ) (file : Option (List ℕ)) (m : Lists) (lines : List ℕ) (pairs : List Pair) (status : Status) → name ≡ model_file command → file ≡ earlier_file command → OnlyReads old mid → quiet ≡ sink → IsInputOf old.files name file m lines pairs → HasOwnOutcome command (world mid quiet work) (world new said done) m lines pairs status → LeavesFiles command mid new status → LeavesWork command work done status → Ends (on_files command) (world old sink work) (world new said done) status
ends command old mid new sink quiet said work done name file m lines pairs status named other only same input own files left =
    let quietly : HasOwnOutcome command (world mid sink work) (world new said done) m lines pairs status = subst (λ s. HasOwnOutcome command (world mid s work) (world new said done) m lines pairs status) same own in
    let of_name : IsInputOf old.files (model_file command) file m lines pairs = subst (λ n. IsInputOf old.files n file m lines pairs) named input in
    let of_both : IsInputOf old.files (model_file command) (earlier_file command) m lines pairs = subst (λ f. IsInputOf old.files (model_file command) f m lines pairs) other of_name in
    record {
      outcome = inr (m, lines, pairs, (of_both, own_from command old mid new sink said work done m lines pairs status only quietly));
      files = files_from command old mid new status only files;
      work = left;
    }

-- the files gave no input
pub ends_early : (command : Command) (old new : ShelfState) (sink said : SinkState) (work : List TrailState) (name : List ℕ) (file : Option (List ℕ)) (status : Status) → name ≡ model_file command → file ≡ earlier_file command → OnlyReads old new → HasNoInput name file (outside old sink) (outside new said) status → Ends (on_files command) (world old sink work) (world new said work) status
ends_early command old new sink said work name file status named other only gone =
    let of_name : HasNoInput (model_file command) file (outside old sink) (outside new said) status = subst (λ n. HasNoInput n file (outside old sink) (outside new said) status) named gone in
    record {
      outcome = inl (subst (λ f. HasNoInput (model_file command) f (outside old sink) (outside new said) status) other of_name);
      files = kept_files command old new status (record { same = only.files; counted = only.writes });
      work = kept_work command work status;
    }

-- ---- the number of workers changes no file name

pub model_kept : (workers_for : ℕ → ℕ) (command : Command) → model_file (with_workers workers_for command) ≡ model_file command
model_kept workers_for (solve name file cert workers plan) = refl
model_kept workers_for (check name cert file) = refl
model_kept workers_for (show name) = refl
model_kept workers_for (encode name file) = refl

pub earlier_kept : (workers_for : ℕ → ℕ) (command : Command) → earlier_file (with_workers workers_for command) ≡ earlier_file command
earlier_kept workers_for (solve name file cert workers plan) = refl
earlier_kept workers_for (check name cert file) = refl
earlier_kept workers_for (show name) = refl
earlier_kept workers_for (encode name file) = refl

-- ---- the program

-- what the words ask for was done
pub runs_action : (workers_for : ℕ → ℕ) (words : List (List ℕ)) (action : Action) (found left : World) (status : Status) → Some action ≡ command_line words → Ends (searching_by workers_for action) found left status → Runs (command_for workers_for words) found left status
runs_action workers_for words action found left status is ends =
    subst (λ (line : Option Action). Runs (option_map (searching_by workers_for) line) found left status) is
    (record { outcome = ends.outcome; files = ends.files; work = ends.work })

-- the words are no command line, as was told
pub runs_nothing : (workers_for : ℕ → ℕ) (words : List (List ℕ)) (shelf : ShelfState) (sink said : SinkState) (work : List TrailState) → None ≡ command_line words → IsTold usage_fault sink said → Runs (command_for workers_for words) (world shelf sink work) (world shelf said work) statuses.Usage
runs_nothing workers_for words shelf sink said work is told =
    subst (λ (line : Option Action). Runs (option_map (searching_by workers_for) line) (world shelf sink work) (world shelf said work) statuses.Usage) is
    (record { outcome = told; files = record { same = refl; counted = refl }; work = refl })

memory_wanted : (line : Option Action) (found left : World) → IsTold memory_fault found.sink left.sink → HasWordsOutcome line found left statuses.Memory
memory_wanted None found left told = told
memory_wanted (Some (on_files command)) found left told = inl (inl (inl told))
memory_wanted (Some (trial goals workers plan)) found left told = told

files_kept : (line : Option Action) (shelf : ShelfState) (status : Status) → AreFilesOf line shelf shelf status
files_kept None shelf status = record { same = refl; counted = refl }
files_kept (Some (on_files command)) shelf status = kept_files command shelf shelf status (record { same = refl; counted = refl })
files_kept (Some (trial goals workers plan)) shelf status = record { same = refl; counted = refl }

work_kept : (line : Option Action) (work : List TrailState) (status : Status) → IsWorkOf line work work status
work_kept None work status = refl
work_kept (Some (on_files command)) work status = kept_work command work status
work_kept (Some (trial goals workers plan)) work status = unchanged work work status refl

-- want of memory was told, before anything else was done
pub lacks_memory : (line : Option Action) (shelf : ShelfState) (sink said : SinkState) (work : List TrailState) (status : Status) → status ≡ statuses.Memory → IsTold memory_fault sink said → Runs line (world shelf sink work) (world shelf said work) status
lacks_memory line shelf sink said work status is told = record {
  outcome = subst (λ s. HasWordsOutcome line (world shelf sink work) (world shelf said work) s) (sym is) (memory_wanted line (world shelf sink work) (world shelf said work) told);
  files = files_kept line shelf status;
  work = work_kept line work status;
}

-- whatever the arguments gave
pub always_given : {A E : Type 0} (args : Result A E) (P : A → Type 0) → ((given : A) → P given) → IfOk args P
always_given (Ok given) P all = all given
always_given (Err error) P all = tt

pub always_refused : {A E : Type 0} (args : Result A E) (P : E → Type 0) → ((error : E) → P error) → IfErr args P
always_refused (Ok given) P all = tt
always_refused (Err error) P all = all error

-- the words are those that the arguments give, where they can be had
pub given_words : {A E W : Type 0} (args : Result A E) (words_of : A → List W) (words : List W) (R : List W → Type 0) → IfOk args (λ given. words ≡ words_of given) → R words → IfOk args (λ given. R (words_of given))
given_words (Ok given) words_of words R is run = subst R is run
given_words (Err error) words_of words R is run = tt

-- arguments that can't be had give no words, or memory is wanted
pub refused_words : {A E W : Type 0} (args : Result A E) (IsMemory : E → Type 0) (words : List W) (R : List W → Type 0) (Q : Type 0) → IfErr args (λ error. words ≡ []) → IfErr args (λ error. (false ≡ true) ↔ IsMemory error) → R words → IfErr args (λ error. R [] × (IsMemory error → Q))
refused_words (Ok given) IsMemory words R Q none memory run = tt
refused_words (Err error) IsMemory words R Q none memory run =
    (subst R none run, λ is. absurd (false≢true (memory.1 is)))
