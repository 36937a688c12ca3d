-- What a shelf in memory shows: its files, its plan of failing calls and its counts.
use Rattle.std.specs.Prelude.{◌≡◌, ◌⊎◌, ℕ, min, List, length, drop, None, Some, Contains}
use Rattle.cgm_shelf.specs.Faults.{next}
use Rattle.cgm_shelf.specs.MemFiles.{files_in}
use Rattle.cgm_shelf.specs.Shelf.{Files, ShelfState}
use Rattle.cgm_shelf.specs.declared.mem_shelf.MemShelf.{MemShelf}

-- the files of the shelf
abbrev pub mem_files : MemShelf → Files
mem_files shelf = files_in shelf.files

-- how many reads have failed
abbrev pub read_faults_of : MemShelf → ℕ
read_faults_of shelf = shelf.reads.faults

-- how many starts and appends have failed
abbrev pub write_faults_of : MemShelf → ℕ
write_faults_of shelf = shelf.writes.faults

-- what contracts see of it: it tells its files
abbrev pub mem_shelf_state : MemShelf → ShelfState
mem_shelf_state shelf = record {
  files = Some (mem_files shelf);
  read_faults = read_faults_of shelf;
  write_faults = write_faults_of shelf;
}

-- how many calls have failed for want of memory
abbrev pub refused_of : MemShelf → ℕ
refused_of shelf = shelf.refused

-- the most bytes that one read or append moves
abbrev pub piece_of : MemShelf → ℕ
piece_of shelf = shelf.piece

-- the numbers of the reads that are to fail, and how many reads were made
abbrev pub failing_reads : MemShelf → List ℕ
failing_reads shelf = shelf.reads.failing.items

abbrev pub reads_made : MemShelf → ℕ
reads_made shelf = shelf.reads.made

-- the numbers of the starts and appends that are to fail, and how many of them were made
abbrev pub failing_writes : MemShelf → List ℕ
failing_writes shelf = shelf.writes.failing.items

abbrev pub writes_made : MemShelf → ℕ
writes_made shelf = shelf.writes.made

-- what is to fail stays, and so does the size of a piece
pub record KeepsPlan (old new : MemShelf) : Type 0 where
  pub piece : piece_of new ≡ piece_of old
  pub reads : failing_reads new ≡ failing_reads old
  pub writes : failing_writes new ≡ failing_writes old

-- no count of faults has changed
pub record KeepsFaults (old new : MemShelf) : Type 0 where
  pub reads : read_faults_of new ≡ read_faults_of old
  pub writes : write_faults_of new ≡ write_faults_of old
  pub refused : refused_of new ≡ refused_of old

-- one more read has failed by the plan
pub record AddsReadFault (old new : MemShelf) : Type 0 where
  pub reads : read_faults_of new ≡ next (read_faults_of old)
  pub writes : write_faults_of new ≡ write_faults_of old
  pub refused : refused_of new ≡ refused_of old

-- one more start or append has failed by the plan
pub record AddsWriteFault (old new : MemShelf) : Type 0 where
  pub reads : read_faults_of new ≡ read_faults_of old
  pub writes : write_faults_of new ≡ next (write_faults_of old)
  pub refused : refused_of new ≡ refused_of old

-- one more start or append has failed for want of memory
pub record AddsRefusal (old new : MemShelf) : Type 0 where
  pub reads : read_faults_of new ≡ read_faults_of old
  pub writes : write_faults_of new ≡ next (write_faults_of old)
  pub refused : refused_of new ≡ next (refused_of old)

-- one more read was made
pub record CountsRead (old new : MemShelf) : Type 0 where
  pub reads : reads_made new ≡ next (reads_made old)
  pub writes : writes_made new ≡ writes_made old

-- one more start or append was made
pub record CountsWrite (old new : MemShelf) : Type 0 where
  pub reads : reads_made new ≡ reads_made old
  pub writes : writes_made new ≡ next (writes_made old)

-- the start or append that this call is, is to fail
abbrev pub IsFailingWrite : MemShelf → Type 0
IsFailingWrite shelf = Contains (failing_writes shelf) (next (writes_made shelf))

-- the read that this call is, is to fail
abbrev pub IsFailingRead : MemShelf → Type 0
IsFailingRead shelf = Contains (failing_reads shelf) (next (reads_made shelf))

-- the shelf has no file of this name
abbrev pub Lacks : MemShelf → List ℕ → Type 0
Lacks shelf name = mem_files shelf name ≡ None

-- a planned fault of a start, or want of memory, and what each does to the counts
abbrev pub FailsStart : MemShelf → MemShelf → Type 0
FailsStart old new =
    (IsFailingWrite old × AddsWriteFault old new) ⊎ (¬ IsFailingWrite old × AddsRefusal old new)

-- a name that isn't there, or a planned fault of a read, and what each does to the counts
abbrev pub FailsRead : MemShelf → MemShelf → List ℕ → Type 0
FailsRead old new name =
    (Lacks old name × KeepsFaults old new) ⊎ (IsFailingRead old × AddsReadFault old new)

-- a name that isn't there, a planned fault of an append, or want of memory, and what each does to the counts
abbrev pub FailsAppend : MemShelf → MemShelf → List ℕ → Type 0
FailsAppend old new name = (Lacks old name × KeepsFaults old new) ⊎ FailsStart old new

-- a read moves as much as the piece, the buffer and the rest of the file allow
abbrev pub moved : MemShelf → List ℕ → ℕ → List ℕ → ℕ
moved shelf file at buffer = min (min (piece_of shelf) (length buffer)) (length (drop at file))
