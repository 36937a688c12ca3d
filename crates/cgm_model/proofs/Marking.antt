-- One mark more, one refinement more whose sources are marked, and one element more whose refinements are visited.
use Rattle.std.proofs.Common.{◌≡◌, ◌≢◌, ℕ, zero, suc, ◌+◌, ◌<◌, ◌≤◌, ◌++◌, Bool, true, false, not, cond, List, [], ◌∷◌, Some, None, length, get_or, set, slice_get, refl, sym, ◌∙◌, ap, subst, All, Contains, arith, ⊎_elim}
use Rattle.std.proofs.lemmas.Bool.{false≢true, cases_eq}
use Rattle.std.proofs.lemmas.List.{length-set, get_or-set_same, get_or-set_other}
use Rattle.std.proofs.lemmas.List.Elements.{All-append, All-cons, All-nil, All-head, All-pop}
use Rattle.std.proofs.lemmas.List.Sums.{sum_by-set, sum_by-cons}
use Rattle.std.proofs.lemmas.Option.{none-some, same_Some, slice_get-get_or, get_or_from_slice_get, slice_get_within}
use Rattle.cgm_model.specs.declared.lists.Refinement.{Refinement}
use Rattle.cgm_model.specs.Graph.{IsNumbering, HasKnownElements}
use Rattle.cgm_model.specs.Search.{IsMarked, unmarked_count, AreBelow, State, state, IsSearch, Continues, MarksEach, IsVisited, Visits, Fills, IsCovered}

pub Continues-same : (s : State) → IsSearch s → Continues s s
Continues-same s search = record {
  search = search;
  length = refl;
  kept = λ x m. m;
  more = omega arith;
  front = λ k l. refl;
}

Continues-then : (a b c : State) → Continues a b → Continues b c → Continues a c
Continues-then a b c g h = record {
  search = h.search;
  length = h.length ∙ g.length;
  kept = λ x m. h.kept x (g.kept x m);
  more = omega (arith, g.more, h.more);
  front = λ k l. h.front k (omega (arith, g.more)) ∙ g.front k l;
}

all_unmarked : (marks : List Bool) → ((element : ℕ) → ¬ IsMarked marks element) → 0 + unmarked_count marks ≡ length marks
all_unmarked [] none = refl
all_unmarked (true ∷ marks) none = absurd (none 0 refl)
all_unmarked (false ∷ marks) none =
    let one_more : unmarked_count (false ∷ marks) ≡ 1 + unmarked_count marks = sum_by-cons (λ b. cond (not b) 1 0) false marks in
    omega (arith, one_more, all_unmarked marks (λ k m. none (suc k) m))

-- nothing is marked, and the queue is empty
pub IsSearch-begun : (marks : List Bool) (queue : List ℕ) → length marks ≤ length queue → ((element : ℕ) → ¬ IsMarked marks element) → IsSearch (state marks queue 0)
IsSearch-begun marks queue room none = record {
  counted = all_unmarked marks none;
  room = room;
  queued = λ x m. absurd (none x m);
  marked = λ k l. absurd (omega arith);
}

-- ---- one mark

set_marked : (marks : List Bool) (at element : ℕ) → at < length marks → IsMarked marks element → IsMarked (set marks at true) element
set_marked marks at element l m =
    ⊎_elim
    (λ e. let P : ℕ → Type 0 = λ k. IsMarked (set marks at true) k in subst P (sym e) (get_or-set_same marks at true false l))
    (λ ne. get_or-set_other marks at element true false ne ∙ m)
    (cases_eq element at)

set_below : (f : ℕ → ℕ) (bound : ℕ) (marks : List Bool) (at element : ℕ) → f at < bound → AreBelow f bound marks → IsMarked (set marks at true) element → f element < bound
set_below f bound marks at element l below m =
    ⊎_elim
    (λ e. let P : ℕ → Type 0 = λ k. f k < bound in subst P (sym e) l)
    (λ ne. below element (sym (get_or-set_other marks at element true false ne) ∙ m))
    (cases_eq element at)

pub MarksEach-old : (s : State) (at : ℕ) → IsSearch s → IsMarked s.marks at → MarksEach (at ∷ []) s s
MarksEach-old s at search m = record {
  continues = Continues-same s search;
  marked = All-cons (IsMarked s.marks) at [] m (All-nil (IsMarked s.marks));
  below = λ f bound each below. below;
}

count_less : (marks : List Bool) (at : ℕ) → at < length marks → get_or marks at false ≡ false → unmarked_count (set marks at true) + 1 ≡ unmarked_count marks
count_less marks at l e =
    let count : unmarked_count (set marks at true) + 1 ≡ unmarked_count marks + 0 = rw e at (sum_by-set (λ b. cond (not b) 1 0) marks at true false l) in
    omega arith

IsSearch-new : (s : State) (at : ℕ) → IsSearch s → at < length s.marks → get_or s.marks at false ≡ false → IsSearch (state (set s.marks at true) (set s.queue s.count at) (s.count + 1))
IsSearch-new s at search l e =
    let less = count_less s.marks at l e in
    let place : s.count < length s.queue = omega (arith, less, search.counted, search.room) in
    let after : List ℕ = set s.queue s.count at in
    let Q : ℕ → Type 0 = λ x. IsMarked (set s.marks at true) x in
    record {
      counted = omega (arith, less, search.counted, length-set s.marks at true);
      room = omega (arith, search.room, length-set s.marks at true, length-set s.queue s.count at);
      queued = λ x m.
          ⊎_elim
          (λ same. (s.count, omega arith, get_or-set_same s.queue s.count at 0 place ∙ sym same))
          (λ ne.
          let before = search.queued x (sym (get_or-set_other s.marks at x true false ne) ∙ m) in
          (before.0, omega (arith, before.1), get_or-set_other s.queue s.count before.0 at 0 (λ same. let k = before.1 in omega arith) ∙ before.2))
          (cases_eq x at);
      marked = λ k m.
          ⊎_elim
          (λ same.
          let P : ℕ → Type 0 = λ i. Q (get_or after i 0) in
          subst P (sym same) (subst Q (sym (get_or-set_same s.queue s.count at 0 place)) (get_or-set_same s.marks at true false l)))
          (λ ne.
          let old = search.marked k (omega (arith, ne, m)) in
          subst Q (sym (get_or-set_other s.queue s.count k at 0 ne)) (set_marked s.marks at (get_or s.queue k 0) l old))
          (cases_eq k s.count);
    }

-- a place of the queue is free where an element has no mark
pub free_place : (s : State) (at : ℕ) → IsSearch s → at < length s.marks → get_or s.marks at false ≡ false → s.count < length s.queue
free_place s at search l e = let less = count_less s.marks at l e in omega (arith, less, search.counted, search.room)

pub MarksEach-new : (s : State) (at : ℕ) → IsSearch s → at < length s.marks → get_or s.marks at false ≡ false → MarksEach (at ∷ []) s (state (set s.marks at true) (set s.queue s.count at) (s.count + 1))
MarksEach-new s at search l e = record {
  continues = record {
    search = IsSearch-new s at search l e;
    length = length-set s.marks at true;
    kept = λ x m. set_marked s.marks at x l m;
    more = omega arith;
    front = λ k m. get_or-set_other s.queue s.count k at 0 (λ same. omega arith);
  };
  marked = All-cons (IsMarked (set s.marks at true)) at [] (get_or-set_same s.marks at true false l) (All-nil (IsMarked (set s.marks at true)));
  below = λ f bound each below x m. set_below f bound s.marks at x (All-head (λ k. f k < bound) at [] each) below m;
}

-- ---- marks on several elements

pub MarksEach-none : (s : State) → IsSearch s → MarksEach [] s s
MarksEach-none s search = record {
  continues = Continues-same s search;
  marked = All-nil (IsMarked s.marks);
  below = λ f bound each below. below;
}

pub MarksEach-push : (elements : List ℕ) (at : ℕ) (a b c : State) → MarksEach elements a b → MarksEach (at ∷ []) b c → MarksEach (elements ++ at ∷ []) a c
MarksEach-push elements at a b c g h = record {
  continues = Continues-then a b c g.continues h.continues;
  marked = All-append (IsMarked c.marks) elements (at ∷ []) (λ k d l. h.continues.kept (get_or elements k d) (g.marked k d l)) h.marked;
  below = λ f bound each below.
      let parts = All-pop (λ x. f x < bound) (elements ++ at ∷ []) elements (Some at) refl each in
      h.below f bound (All-cons (λ x. f x < bound) at [] parts.1 (All-nil (λ x. f x < bound))) (g.below f bound parts.0 below);
}

-- ---- visits

-- what holds of each item holds of one of them
pub item_at : {X : Type 0} (P : X → Type 0) (xs : List X) (k : ℕ) (x : X) → All P xs → slice_get xs k ≡ Some x → P x
item_at P xs k x h at = subst P (get_or_from_slice_get xs k x x at) (h k x (slice_get_within xs k x at))

pub IsKnown-wider : (count more : ℕ) → more ≡ count → (refinements : List Refinement) → All (HasKnownElements count) refinements → All (HasKnownElements more) refinements
IsKnown-wider count more e refinements h = subst (λ n. All (HasKnownElements n) refinements) (sym e) h

pub Visits-none : (refinements : List Refinement) (element : ℕ) (s : State) → IsSearch s → Visits refinements element [] s s
Visits-none refinements element s search = record {
  continues = Continues-same s search;
  visited = All-nil (IsVisited refinements s.marks element);
  below = λ f bound numbering less below. below;
}

one : (refinements : List Refinement) (element number : ℕ) (marks : List Bool) → IsVisited refinements marks element number → All (IsVisited refinements marks element) (number ∷ [])
one refinements element number marks h =
    All-cons (IsVisited refinements marks element) number [] h (All-nil (IsVisited refinements marks element))

-- there is no refinement with this number
pub Visits-nothing : (refinements : List Refinement) (element number : ℕ) (s : State) → IsSearch s → slice_get refinements number ≡ None → Visits refinements element (number ∷ []) s s
Visits-nothing refinements element number s search none = record {
  continues = Continues-same s search;
  visited = one refinements element number s.marks (λ r at same. absurd (none-some r (sym none ∙ at)));
  below = λ f bound numbering less below. below;
}

-- the refinement with this number has another target
pub Visits-other : (refinements : List Refinement) (element number : ℕ) (r : Refinement) (s : State) → IsSearch s → slice_get refinements number ≡ Some r → r.target ≢ element → Visits refinements element (number ∷ []) s s
Visits-other refinements element number r s search is ne = record {
  continues = Continues-same s search;
  visited = one refinements element number s.marks (λ q at same. absurd (ne (ap (λ (x : Refinement). x.target) (same_Some r q (sym is ∙ at)) ∙ same)));
  below = λ f bound numbering less below. below;
}

pub Visits-sources : (refinements : List Refinement) (element number : ℕ) (r : Refinement) (a b : State) → slice_get refinements number ≡ Some r → r.target ≡ element → MarksEach r.sources a b → Visits refinements element (number ∷ []) a b
Visits-sources refinements element number r a b is target g = record {
  continues = g.continues;
  visited = one refinements element number b.marks (λ q at same. subst (λ (x : Refinement). All (IsMarked b.marks) x.sources) (same_Some r q (sym is ∙ at)) g.marked);
  below = λ f bound numbering less below.
      let each = item_at (λ (x : Refinement). All (λ source. f source < f x.target) x.sources) refinements number r numbering is in
      let same = ap f target in
      g.below f bound (λ j d m. let s = each j d m in omega arith) below;
}

pub Visits-push : (refinements : List Refinement) (element : ℕ) (numbers : List ℕ) (n : ℕ) (a b c : State) → Visits refinements element numbers a b → Visits refinements element (n ∷ []) b c → Visits refinements element (numbers ++ n ∷ []) a c
Visits-push refinements element numbers n a b c g h = record {
  continues = Continues-then a b c g.continues h.continues;
  visited = All-append (IsVisited refinements c.marks element) numbers (n ∷ [])
      (λ k d l r at same j e m. h.continues.kept (get_or r.sources j e) (g.visited k d l r at same j e m))
      h.visited;
  below = λ f bound numbering less below. h.below f bound numbering less (g.below f bound numbering less below);
}

-- ---- the queue

marked_within : (marks : List Bool) (element : ℕ) → IsMarked marks element → element < length marks
marked_within [] element m = absurd (false≢true m)
marked_within (b ∷ marks) zero m = omega arith
marked_within (b ∷ marks) (suc k) m = omega (arith, marked_within marks k m)

-- each refinement of the element has its sources marked
abbrev pub IsDone : List Refinement → List Bool → ℕ → Type 0
IsDone refinements marks element =
    (k : ℕ) (r : Refinement) → slice_get refinements k ≡ Some r → r.target ≡ element → All (IsMarked marks) r.sources

-- the elements before a place of the queue are done
pub record IsFilling (refinements : List Refinement) (old now : State) (next : ℕ) : Type 0 where
  pub continues : Continues old now
  pub within : next ≤ now.count
  pub done : (k : ℕ) → k < next → IsDone refinements now.marks (get_or now.queue k 0)
  pub below : (f : ℕ → ℕ) (bound : ℕ) → IsNumbering f refinements → AreBelow f bound old.marks → AreBelow f bound now.marks

pub IsFilling-begun : (refinements : List Refinement) (s : State) → IsSearch s → IsFilling refinements s s 0
IsFilling-begun refinements s search = record {
  continues = Continues-same s search;
  within = omega arith;
  done = λ k l. absurd (omega arith);
  below = λ f bound numbering below. below;
}

visited_done : (refinements : List Refinement) (by_target : List (List ℕ)) (marks : List Bool) (element : ℕ) → IsCovered by_target refinements → All (IsVisited refinements marks element) (get_or by_target element []) → IsDone refinements marks element
visited_done refinements by_target marks element covered visited k r at target =
    let stands = subst (λ x. Contains (get_or by_target x []) k) target (covered k r at) in
    let here = visited stands.0 k stands.1 in
    subst (IsVisited refinements marks element) stands.2 here r at target

-- the next element of the queue is one of the elements
pub next_within : (refinements : List Refinement) (a b : State) (next : ℕ) → next < b.count → IsFilling refinements a b next → get_or b.queue next 0 < length a.marks
next_within refinements a b next l g =
    omega (arith, g.continues.length, marked_within b.marks (get_or b.queue next 0) (g.continues.search.marked next l))

pub IsFilling-more : (refinements : List Refinement) (by_target : List (List ℕ)) (a b c : State) (next : ℕ) → IsCovered by_target refinements → next < b.count → IsFilling refinements a b next → Visits refinements (get_or b.queue next 0) (get_or by_target (get_or b.queue next 0) []) b c → IsFilling refinements a c (next + 1)
IsFilling-more refinements by_target a b c next covered l g h = record {
  continues = Continues-then a b c g.continues h.continues;
  within = omega (arith, h.continues.more);
  done = λ k m.
      ⊎_elim
      (λ same.
      let here = visited_done refinements by_target c.marks (get_or b.queue next 0) covered h.visited in
      subst (IsDone refinements c.marks) (sym (ap (λ i. get_or c.queue i 0) same ∙ h.continues.front next l)) here)
      (λ ne.
      let before : k < next = omega (arith, ne, m) in
      let old = g.done k before in
      subst (IsDone refinements c.marks) (sym (h.continues.front k (omega arith))) (λ j r at target i e n. h.continues.kept (get_or r.sources i e) (old j r at target i e n)))
      (cases_eq k next);
  below = λ f bound numbering below.
      let now = g.below f bound numbering below in
      h.below f bound numbering (now (get_or b.queue next 0) (g.continues.search.marked next l)) now;
}

pub Fills-from_filling : (refinements : List Refinement) (a b : State) (next : ℕ) → b.count ≤ next → IsFilling refinements a b next → Fills refinements a.marks b.marks
Fills-from_filling refinements a b next l g = record {
  kept = g.continues.kept;
  below = g.below;
  closed = λ k d n m.
      let r = get_or refinements k d in
      let place = g.continues.search.queued r.target m in
      g.done place.0 (omega (arith, place.1, l)) k r (slice_get-get_or refinements k d n) (sym place.2);
}
