-- What the calls of a shelf do to its files, where it tells them, and what causes their faults.
use Rattle.std.specs.Prelude.{◌≡◌, ◌≢◌, ◌⊎◌, ℕ, ◌+◌, ◌^◌, ◌<◌, ◌≤◌, List, [], ◌++◌, length, take, drop, MatchOption, IsSome, IfSome, IsSomeAnd, Some, None, Result, IfOk, OnOk, OnErr, IsErr}
use Rattle.std.specs.declared.option.Option.{Option}
use Rattle.cgm_shelf.specs.Faults.{HasCause, Rose}

-- the bytes of the file with this name, if there is one
abbrev pub Files : Type 0
Files = List ℕ → Option (List ℕ)

-- what contracts see of a shelf: its files, where it tells them, how many reads have failed, and how many starts and appends
pub record ShelfState : Type 0 where
  pub files : Option Files
  pub read_faults : ℕ
  pub write_faults : ℕ

-- a shelf that doesn't tell its files, with these counts
abbrev pub untold_shelf : ℕ → ℕ → ShelfState
untold_shelf read_faults write_faults =
    record { files = None; read_faults = read_faults; write_faults = write_faults }

-- nothing but the count of failed reads may have changed, and that not downwards
pub record OnlyReads (old new : ShelfState) : Type 0 where
  pub files : new.files ≡ old.files
  pub writes : new.write_faults ≡ old.write_faults
  pub later : old.read_faults ≤ new.read_faults

-- the shelf tells its files, and none has this name
abbrev pub IsMissing : Option Files → List ℕ → Type 0
IsMissing told name = IsSomeAnd told (λ files. files name ≡ None)

-- the shelf tells its files, and one has this name
abbrev pub IsFileThere : Option Files → List ℕ → Type 0
IsFileThere told name = IsSomeAnd told (λ files. IsSome (files name))

-- where the shelf tells its files, one has this name, and P holds of its bytes
abbrev pub WhereTold : Option Files → List ℕ → (List ℕ → Type 0) → Type 0
WhereTold told name P = IfSome told (λ files. IsSomeAnd (files name) P)

-- the causes of a fault of a call that wants the named file to be there
abbrev pub MissingOrRose : Option Files → List ℕ → ℕ → ℕ → Type 0
MissingOrRose told name before now = IsMissing told name ⊎ Rose before now

-- the causes of a fault of a read
abbrev pub CantRead : ShelfState → ShelfState → List ℕ → Type 0
CantRead old new name = MissingOrRose old.files name old.read_faults new.read_faults

-- the named file has these bytes now, and every other file is as before
pub record OnlyChanges (before now : Files) (name bytes : List ℕ) : Type 0 where
  pub named : now name ≡ Some bytes
  pub others : (other : List ℕ) → other ≢ name → now other ≡ before other

-- a shelf that tells its files goes on telling them, and the named file alone has changed: it has these bytes.
-- One that tells nothing goes on telling nothing
abbrev pub Leaves : Option Files → Option Files → List ℕ → List ℕ → Type 0
Leaves old new name bytes =
    MatchOption old (new ≡ None)
    (λ before. IsSomeAnd new (λ now. OnlyChanges before now name bytes))

-- the same where the piece was added to the named file, which was there
abbrev pub Appends : Option Files → Option Files → List ℕ → List ℕ → Type 0
Appends old new name piece =
    MatchOption old (new ≡ None)
    (λ before. IsSomeAnd (before name)
    (λ file. IsSomeAnd new (λ now. OnlyChanges before now name (file ++ piece))))

-- a read of this many bytes from a place in a file: they are the front of the buffer, and none come only at the file's end
pub record ReadsFrom (file : List ℕ) (at : ℕ) (buffer : List ℕ) (count : ℕ) : Type 0 where
  pub front : take count buffer ≡ take count (drop at file)
  pub inside : count ≤ length (drop at file)
  pub at_end : count ≡ 0 → 0 < length buffer → length file ≤ at

-- every file has fewer bytes than this
abbrev pub AllBelow : ℕ → Option Files → Type 0
AllBelow limit told =
    IfSome told (λ files. (name : List ℕ) → IfSome (files name) (λ bytes. length bytes < limit))

-- the named file is as before, or holds a front of these bytes; every other file is as before
abbrev pub LeavesPart : Option Files → Option Files → List ℕ → List ℕ → Type 0
LeavesPart old new name bytes = (new ≡ old) ⊎ ((count : ℕ) × Leaves old new name (take count bytes))

-- the next bytes of a file come after those read so far: none come only at its end
pub record ReadsNext (file old new : List ℕ) (count : ℕ) : Type 0 where
  pub added : new ≡ old ++ take count (drop (length old) file)
  pub inside : count ≤ length (drop (length old) file)
  pub at_end : count ≡ 0 → length file ≤ length old

-- the shelf tells that the named file has more bytes than the limit
abbrev pub IsLongerFile : Option Files → List ℕ → Option ℕ → Type 0
IsLongerFile told name limit =
    IsSomeAnd told
    (λ files. IsSomeAnd (files name) (λ file. IsSomeAnd limit (λ most. most < length file)))

-- ---- what each call promises

-- the named file was made empty, whether it was there or not; after a fault the files are as before
pub record IsStart {T E : Type 0} (old new : ShelfState) (name : List ℕ)
    (result : Result T E) : Type 0 where
  pub ok : OnOk result (Leaves old.files new.files name [])
  pub err : OnErr result (new.files ≡ old.files)
  pub reads : new.read_faults ≡ old.read_faults
  pub cause : HasCause old.write_faults new.write_faults result

-- the front of the buffer has the named file's bytes from this place on, as many as are answered; a name that isn't there fails, and is no fault of the shelf
pub record IsRead {E : Type 0} (old new : ShelfState) (name : List ℕ) (at : ℕ) (buffer : List ℕ)
    (result : Result ℕ E) : Type 0 where
  pub within : IfOk result (λ count. count ≤ length buffer)
  pub place : IfOk result (λ count. at + count < 2 ^ 63)
  pub bytes : IfOk result
      (λ count. WhereTold old.files name (λ file. ReadsFrom file at buffer count))
  pub only : OnlyReads old new
  pub cause : OnErr result (CantRead old new name)
  pub missing : IsMissing old.files name → IsErr result × (new.read_faults ≡ old.read_faults)

-- a front of the piece was added to the named file, as long as is answered; after a fault the files are as before; a name that isn't there fails, and is no fault of the shelf
pub record IsAppend {E : Type 0} (old new : ShelfState) (name piece : List ℕ)
    (result : Result ℕ E) : Type 0 where
  pub within : IfOk result (λ count. count ≤ length piece)
  pub some : IfOk result (λ count. 0 < length piece → 0 < count)
  pub ok : IfOk result (λ count. Appends old.files new.files name (take count piece))
  pub err : OnErr result (new.files ≡ old.files)
  pub reads : new.read_faults ≡ old.read_faults
  pub later : old.write_faults ≤ new.write_faults
  pub cause : OnErr result (MissingOrRose old.files name old.write_faults new.write_faults)
  pub missing : IsMissing old.files name → IsErr result × (new.write_faults ≡ old.write_faults)
