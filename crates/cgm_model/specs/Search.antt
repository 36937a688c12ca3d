-- The search for a cycle: marks go from the sources of a new refinement along the graph, each marked element once through a queue.
use Rattle.std.specs.Prelude.{◌≡◌, ℕ, ◌+◌, ◌<◌, ◌≤◌, Bool, false, not, IsTrue, List, [], Some, length, All, Contains, count_by, slice_get}
use Rattle.std.specs.List.{slice_index_or}
use Rattle.cgm_model.specs.declared.lists.Refinement.{Refinement}
use Rattle.cgm_model.specs.Graph.{IsNumbering}

abbrev pub IsMarked : List Bool → ℕ → Type 0
IsMarked marks element = IsTrue (slice_index_or marks element false)

abbrev pub unmarked_count : List Bool → ℕ
unmarked_count marks = count_by not marks

-- the marked elements have lesser numbers than this
abbrev pub AreBelow : (ℕ → ℕ) → ℕ → List Bool → Type 0
AreBelow f bound marks = (element : ℕ) → IsMarked marks element → f element < bound

-- the marks, the queue, and how many of its places are used
pub record State : Type 0 where
  pub marks : List Bool
  pub queue : List ℕ
  pub count : ℕ

abbrev pub state : List Bool → List ℕ → ℕ → State
state marks queue count = record { marks = marks; queue = queue; count = count }

-- the element stands in the queue
abbrev pub IsQueued : State → ℕ → Type 0
IsQueued s element = (k : ℕ) × (k < s.count) × (slice_index_or s.queue k 0 ≡ element)

-- the marked elements are those in the queue, each once, and there is room for the others
pub record IsSearch (s : State) : Type 0 where
  pub counted : s.count + unmarked_count s.marks ≡ length s.marks
  pub room : length s.marks ≤ length s.queue
  pub queued : (element : ℕ) → IsMarked s.marks element → IsQueued s element
  pub marked : (k : ℕ) → k < s.count → IsMarked s.marks (slice_index_or s.queue k 0)

-- no mark is lost, and the queue goes on behind what it had
pub record Continues (old new : State) : Type 0 where
  pub search : IsSearch new
  pub length : length new.marks ≡ length old.marks
  pub kept : (element : ℕ) → IsMarked old.marks element → IsMarked new.marks element
  pub more : old.count ≤ new.count
  pub front : (k : ℕ) → k < old.count → slice_index_or new.queue k 0 ≡ slice_index_or old.queue k 0

-- these elements are marked, and no others beside the old ones
pub record MarksEach (elements : List ℕ) (old new : State) : Type 0 where
  pub continues : Continues old new
  pub marked : All (IsMarked new.marks) elements
  pub below : (f : ℕ → ℕ) (bound : ℕ) → All (λ element. f element < bound) elements → AreBelow f bound old.marks → AreBelow f bound new.marks

-- the refinement with this number has its sources marked where it has the element as target
abbrev pub IsVisited : List Refinement → List Bool → ℕ → ℕ → Type 0
IsVisited refinements marks element number =
    (r : Refinement) → slice_get refinements number ≡ Some r → r.target ≡ element → All (IsMarked marks) r.sources

-- marks go from the element to the sources of the refinements with these numbers alone
pub record Visits (refinements : List Refinement) (element : ℕ) (numbers : List ℕ) (old new : State) : Type 0 where
  pub continues : Continues old new
  pub visited : All (IsVisited refinements new.marks element) numbers
  pub below : (f : ℕ → ℕ) (bound : ℕ) → IsNumbering f refinements → f element < bound → AreBelow f bound old.marks → AreBelow f bound new.marks

-- where the target is marked, so is each source
abbrev pub IsClosedUnderSources : List Bool → Refinement → Type 0
IsClosedUnderSources marks r = IsMarked marks r.target → All (IsMarked marks) r.sources

-- marks have gone from targets to their sources alone, until they were closed
pub record Fills (refinements : List Refinement) (old new : List Bool) : Type 0 where
  pub kept : (element : ℕ) → IsMarked old element → IsMarked new element
  pub below : (f : ℕ → ℕ) (bound : ℕ) → IsNumbering f refinements → AreBelow f bound old → AreBelow f bound new
  pub closed : All (IsClosedUnderSources new) refinements

-- each refinement's number stands in the list of its target
abbrev pub IsCovered : List (List ℕ) → List Refinement → Type 0
IsCovered by_target refinements =
    (k : ℕ) (r : Refinement) → slice_get refinements k ≡ Some r → Contains (slice_index_or by_target r.target []) k
