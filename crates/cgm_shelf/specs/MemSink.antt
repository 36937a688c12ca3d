-- What a sink in memory shows: its bytes, its plan of failing writes and its counts.
use Rattle.std.specs.Prelude.{◌≡◌, ◌⊎◌, ℕ, List, Some, Contains}
use Rattle.cgm_shelf.specs.Faults.{next}
use Rattle.cgm_shelf.specs.Sink.{SinkState}
use Rattle.cgm_shelf.specs.declared.mem_sink.MemSink.{MemSink}

-- the bytes written so far
abbrev pub bytes_of : MemSink → List ℕ
bytes_of sink = sink.bytes.items

-- how many writes have failed
abbrev pub faults_of : MemSink → ℕ
faults_of sink = sink.writes.faults

-- what contracts see of it: it tells its bytes
abbrev pub mem_sink_state : MemSink → SinkState
mem_sink_state sink = record { written = Some (bytes_of sink); faults = faults_of sink }

-- how many writes have failed for want of memory
abbrev pub sink_refused_of : MemSink → ℕ
sink_refused_of sink = sink.refused

-- the most bytes that one write takes
abbrev pub sink_piece_of : MemSink → ℕ
sink_piece_of sink = sink.piece

-- the numbers of the writes that are to fail, and how many writes were made
abbrev pub failing_sink_writes : MemSink → List ℕ
failing_sink_writes sink = sink.writes.failing.items

abbrev pub sink_writes_made : MemSink → ℕ
sink_writes_made sink = sink.writes.made

-- no count of faults has changed
pub record KeepsSinkFaults (old new : MemSink) : Type 0 where
  pub faults : faults_of new ≡ faults_of old
  pub refused : sink_refused_of new ≡ sink_refused_of old

-- one more write has failed by the plan
pub record AddsFault (old new : MemSink) : Type 0 where
  pub faults : faults_of new ≡ next (faults_of old)
  pub refused : sink_refused_of new ≡ sink_refused_of old

-- one more write has failed for want of memory
pub record AddsSinkRefusal (old new : MemSink) : Type 0 where
  pub faults : faults_of new ≡ next (faults_of old)
  pub refused : sink_refused_of new ≡ next (sink_refused_of old)

-- one more write was made; what is to fail stays, and so does the size of a piece
pub record CountsSinkWrite (old new : MemSink) : Type 0 where
  pub made : sink_writes_made new ≡ next (sink_writes_made old)
  pub failing : failing_sink_writes new ≡ failing_sink_writes old
  pub piece : sink_piece_of new ≡ sink_piece_of old

-- the write that this call is, is to fail
abbrev pub IsFailingSinkWrite : MemSink → Type 0
IsFailingSinkWrite sink = Contains (failing_sink_writes sink) (next (sink_writes_made sink))

-- a planned fault, or want of memory, and what each does to the counts
abbrev pub FailsWrite : MemSink → MemSink → Type 0
FailsWrite old new =
    (IsFailingSinkWrite old × AddsFault old new) ⊎ (¬ IsFailingSinkWrite old × AddsSinkRefusal old new)
