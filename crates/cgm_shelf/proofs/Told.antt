-- The steps of the loops over a shelf or a sink, where it tells its files or its bytes.
use Rattle.std.proofs.Common.{◌≡◌, ℕ, ◌+◌, ◌<◌, ◌≤◌, List, ◌++◌, length, take, drop, Some, None, IfSome, IsSomeAnd, option_map, sym, ◌∙◌, append_assoc, arith}
use Rattle.std.proofs.lemmas.List.{length-append, length-take-le, length-drop, drop-drop, take-append-drop}
use Rattle.std.proofs.Math.Seq.{take-add}
use Rattle.std.specs.declared.option.Option.{Option}
use Rattle.cgm_shelf.specs.Sink.{Adds, SinkState}
use Rattle.cgm_shelf.specs.Shelf.{Files, WhereTold, Leaves, Appends, OnlyChanges, OnlyReads, ReadsFrom, ReadsNext, ShelfState}

-- these bytes are the front of the named file, where the shelf tells it
abbrev pub IsFront : Option Files → List ℕ → List ℕ → Type 0
IsFront told name bytes = IfSome told (λ files. IfSome (files name) (λ file. bytes ++ drop (length bytes) file ≡ file))

past_one : (o : Option (List ℕ)) (buffer : List ℕ) (at count most : ℕ) → at ≤ most → most < at + count → IsSomeAnd o (λ file. ReadsFrom file at buffer count) → IsSomeAnd o (λ file. most < length file)
past_one None buffer at count most fits past read = read
past_one (Some file) buffer at count most fits past read = omega (arith, length-drop at file, read.inside)

-- a read that goes past the limit shows that the file is longer
pub longer_past : (told : Option Files) (name buffer : List ℕ) (at count : ℕ) (limit : Option ℕ) → IfSome limit (λ most. at ≤ most) → IsSomeAnd limit (λ most. most < at + count) → WhereTold told name (λ file. ReadsFrom file at buffer count) → IsSomeAnd limit (λ most. WhereTold told name (λ file. most < length file))
longer_past told name buffer at count None fits past read = past
longer_past None name buffer at count (Some most) fits past read = tt
longer_past (Some files) name buffer at count (Some most) fits past read = past_one (files name) buffer at count most fits past read

-- the next bytes make the front longer
front_after : (file old new : List ℕ) (count : ℕ) → old ++ drop (length old) file ≡ file → ReadsNext file old new count → new ++ drop (length new) file ≡ file
front_after file old new count front next =
    let rest : List ℕ = drop (length old) file in
    let taken : length (take count rest) ≡ count = length-take-le count rest next.inside in
    let long : length (old ++ take count rest) ≡ length old + count = omega (arith, length-append old (take count rest)) in
    rw (next.added, long, ← drop-drop count (length old) file, append_assoc, take-append-drop) front

front_one : (o : Option (List ℕ)) (old new : List ℕ) (count : ℕ) → IfSome o (λ file. old ++ drop (length old) file ≡ file) → IsSomeAnd o (λ file. ReadsNext file old new count) → IfSome o (λ file. new ++ drop (length new) file ≡ file)
front_one None old new count front next = tt
front_one (Some file) old new count front next = front_after file old new count front next

pub front_more : (told : Option Files) (name old new : List ℕ) (count : ℕ) → IsFront told name old → WhereTold told name (λ file. ReadsNext file old new count) → IsFront told name new
front_more None name old new count front next = tt
front_more (Some files) name old new count front next = front_one (files name) old new count front next

changes_again : (before middle : Files) (last : Option Files) (name done bytes : List ℕ) → OnlyChanges before middle name done → IsSomeAnd last (λ now. OnlyChanges middle now name bytes) → IsSomeAnd last (λ now. OnlyChanges before now name bytes)
changes_again before middle None name done bytes first second = second
changes_again before middle (Some now) name done bytes first second = record { named = second.named; others = λ other apart. second.others other apart ∙ first.others other apart }

append_at : (o : Option (List ℕ)) (P : List ℕ → Type 0) (file : List ℕ) → o ≡ Some file → IsSomeAnd o P → P file
append_at o P file e h = rw e at h

-- after a start or an append, an append goes on from what the file holds
pub Leaves-append : (first middle last : Option Files) (name done more : List ℕ) → Leaves first middle name done → Appends middle last name more → Leaves first last name (done ++ more)
Leaves-append None None last name done more left append = append
Leaves-append None (Some files) last name done more left append = cc
Leaves-append (Some before) None last name done more left append = elim left [ ]
Leaves-append (Some before) (Some files) last name done more left append =
    changes_again before files last name done (done ++ more) left (append_at (files name) (λ file. IsSomeAnd last (λ now. OnlyChanges files now name (file ++ more))) done left.named append)

-- a front of some bytes and a front of the rest are a front of them
pub take_on : (bytes rest : List ℕ) (done count : ℕ) → rest ≡ drop done bytes → take done bytes ++ take count rest ≡ take (done + count) bytes
take_on bytes rest done count e = rw e (sym (take-add done count bytes))

more_added : (first middle last : Option (List ℕ)) (done more : List ℕ) → middle ≡ option_map (λ before. before ++ done) first → last ≡ option_map (λ before. before ++ more) middle → last ≡ option_map (λ before. before ++ (done ++ more)) first
more_added None middle last done more one two = rw one at two
more_added (Some before) middle last done more one two = rw (← append_assoc) (rw one at two)

-- bytes that are added after others are added with them
pub Adds-more : (first middle last : SinkState) (done more : List ℕ) → Adds first middle done → Adds middle last more → Adds first last (done ++ more)
Adds-more first middle last done more one two = more_added first.written middle.written last.written done more one two

-- reads after reads are reads
pub reads_on : (first middle last : ShelfState) → OnlyReads first middle → OnlyReads middle last → OnlyReads first last
reads_on first middle last one two = record {
  files = two.files ∙ one.files;
  writes = two.writes ∙ one.writes;
  later = omega (arith, one.later, two.later);
}
