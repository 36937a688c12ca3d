-- Rows one after another, and a round over the store and all rows.
use Rattle.std.proofs.Common.{◌≡◌, inl, inr, ℕ, zero, suc, ◌+◌, ◌≤◌, List, [], ◌∷◌, length, refl, arith}
use Rattle.std.specs.Prelude.{IsSomeAnd, Result, Ok, Err, slice_get, Option, Some, None}
use Rattle.std.specs.List.{AllWithin, Contains, HoldsAt}
use Rattle.std.proofs.lemmas.List.Elements.{AllWithin-more}
use Rattle.cgm_atom.specs.declared.constraints.Row.{Row}
use Rattle.cgm_atom.specs.declared.entries.Hint.{Hint}
use Rattle.cgm_atom.specs.declared.entries.Hint.TheVariants as hint
use Rattle.cgm_atom.specs.Bounds.{Bounds}
use Rattle.cgm_atom.specs.Constraints.{Constraint, left_by, of_clause, of_row}
use Rattle.cgm_atom.specs.Instance.{Instance}
use Rattle.cgm_atom.specs.Narrowing.{left_by_row}
use Rattle.cgm_clauses.specs.declared.named.Named.{Named}
use Rattle.cgm_clauses.specs.StoreState.{IsPairIn}
use Rattle.cgm_clauses.specs.Standing.{IsFalseIn}
use Rattle.cgm_clauses.specs.Sweeping.{AreQuiet}
use Rattle.cgm_clauses.proofs.Steps.{left_is_less, trail_stays}
use Rattle.cgm_linear.specs.Sweeping.{IsRowNumbered}
use Rattle.cgm_search.specs.Settling.{AreRowsQuiet, IsOneRound, IsRoundName, IsRowName, IsRowRound}
use Rattle.cgm_trail.specs.declared.changes.Swept.{Swept}
use Rattle.cgm_trail.specs.declared.changes.Swept.TheVariants as swept
use Rattle.cgm_trail.specs.Steps.{IsPropagated}
use Rattle.cgm_trail.specs.TrailState.{TrailState, box_of}
use Rattle.cgm_trail.proofs.Propagating.{more_names, one_after_another}

-- ---- rows

pub row_made_next : (p : Instance) (n : ℕ) (old mid new : TrailState) (left left' left'' : ℕ) → IsPropagated (IsRowName p) old mid left left' → IsPropagated (IsRowNumbered p n) mid new left' left'' → IsPropagated (IsRowName p) old new left left''
row_made_next p n old mid new left left' left'' h k =
    one_after_another (IsRowName p) old mid new left left' left'' h
    (more_names (IsRowNumbered p n) (IsRowName p) mid new left' left'' (λ (by : Hint) (c : Constraint) (named : IsRowNumbered p n by c). (n, named)) k)

row_at : (b : Bounds) (rows : List Row) (n : ℕ) → IsSomeAnd (slice_get rows n) (λ r. left_by_row b r ≡ Some b) → HoldsAt (λ r. left_by_row b r ≡ Some b) rows n
row_at b [] n h = elim h [ ]
row_at b (r ∷ rows) zero h = λ d. h
row_at b (r ∷ rows) (suc n) h = λ d. row_at b rows n h d

-- the row leaves the old box as the new one, and the new one as it is
abbrev pub IsRowQuiet : TrailState → TrailState → Row → Type 0
IsRowQuiet old new r = (left_by_row (box_of old) r ≡ Some (box_of new)) × (left_by_row (box_of new) r ≡ Some (box_of new))

swept_quiet : (old new : TrailState) (o : Option Row) → IsSomeAnd o (IsRowQuiet old new) → IsSomeAnd o (λ r. left_by_row (box_of new) r ≡ Some (box_of new))
swept_quiet old new None h = elim h [ ]
swept_quiet old new (Some r) h = h.1

-- the rows before the next one stay quiet where no step was taken, and so is the next one
pub rows_quiet_next : (NamesA NamesB : Hint → Constraint → Type 0) (rows : List Row) (n : ℕ) (old mid new : TrailState) (left left' left'' : ℕ) → IsPropagated NamesA old mid left left' → IsPropagated NamesB mid new left' left'' → (left' ≡ left → AllWithin (λ r. left_by_row (box_of mid) r ≡ Some (box_of mid)) rows 0 n) → IsSomeAnd (slice_get rows n) (IsRowQuiet mid new) → left'' ≡ left → AllWithin (λ r. left_by_row (box_of new) r ≡ Some (box_of new)) rows 0 (n + 1)
rows_quiet_next NamesA NamesB rows n old mid new left left' left'' h k quiet last e =
    let less = left_is_less NamesA old mid left left' h in
    let less' = left_is_less NamesB mid new left' left'' k in
    let first : left' ≡ left = omega arith in
    let second : left'' ≡ left' = omega arith in
    let same : new ≡ mid = trail_stays NamesB mid new left' left'' k second in
    let before : AllWithin (λ r. left_by_row (box_of new) r ≡ Some (box_of new)) rows 0 n = rw same (quiet first) in
    AllWithin-more (λ r. left_by_row (box_of new) r ≡ Some (box_of new)) rows 0 n before
    (row_at (box_of new) rows n (swept_quiet mid new (slice_get rows n) last))

pub rows_quiet_at_end : (b : Bounds) (rows : List Row) (n : ℕ) → length rows ≤ n → AllWithin (λ r. left_by_row b r ≡ Some b) rows 0 n → AreRowsQuiet b rows
rows_quiet_at_end b rows n long quiet = λ k d short. quiet k d (omega arith) (omega arith)

-- where a row is in conflict, nothing is left of the box
pub row_conflict : (p : Instance) (n : ℕ) (old new : TrailState) (h : Hint) (o : Option Row) → slice_get p.rows n ≡ o → IsSomeAnd o (λ r. (h ≡ hint.Row n) × (left_by_row (box_of old) r ≡ None) × (new ≡ old)) → (k : Constraint) × IsRowName p h k × (left_by (box_of new) k ≡ None)
row_conflict p n old new h None e c = elim c [ ]
row_conflict p n old new h (Some r) e c = (of_row r, (n, (r, e, (c.0, refl))), rw c.2 c.1)

-- ---- a round

pub store_named : (p : Instance) (clauses : List Named) (h : Hint) (k : Constraint) → IsPairIn clauses h k → IsRoundName p clauses h k
store_named p clauses h k named = inl named

pub row_named : (p : Instance) (clauses : List Named) (h : Hint) (k : Constraint) → IsRowName p h k → IsRoundName p clauses h k
row_named p clauses h k named = inr named

pub made_by_store : (p : Instance) (clauses : List Named) (old new : TrailState) (left left' : ℕ) → IsPropagated (IsPairIn clauses) old new left left' → IsPropagated (IsRoundName p clauses) old new left left'
made_by_store p clauses old new left left' h =
    more_names (IsPairIn clauses) (IsRoundName p clauses) old new left left' (store_named p clauses) h

pub made_by_round : (p : Instance) (clauses : List Named) (old mid new : TrailState) (left left' left'' : ℕ) → IsPropagated (IsPairIn clauses) old mid left left' → IsPropagated (IsRowName p) mid new left' left'' → IsPropagated (IsRoundName p clauses) old new left left''
made_by_round p clauses old mid new left left' left'' h k =
    one_after_another (IsRoundName p clauses) old mid new left left' left'' (made_by_store p clauses old mid left left' h)
    (more_names (IsRowName p) (IsRoundName p clauses) mid new left' left'' (row_named p clauses) k)

pub round_end : {E : Type 0} (p : Instance) (clauses : List Named) (old mid new : TrailState) (left left' left'' : ℕ) (answer : Result Swept E) → IsPropagated (IsPairIn clauses) old mid left left' → IsPropagated (IsRowName p) mid new left' left'' → AreQuiet (box_of mid) clauses → IsRowRound p (box_of new) left' left'' answer → IsOneRound p clauses (box_of new) left left'' answer
round_end p clauses old mid new left left' left'' (Ok swept.Quiet) h k quiet rows =
    λ (e : left'' ≡ left).
    let less = left_is_less (IsPairIn clauses) old mid left left' h in
    let less' = left_is_less (IsRowName p) mid new left' left'' k in
    let second : left'' ≡ left' = omega arith in
    let same : new ≡ mid = trail_stays (IsRowName p) mid new left' left'' k second in
    (rw same quiet, rows second)
round_end p clauses old mid new left left' left'' (Ok (swept.Conflict h)) made made' quiet rows =
    (rows.0, row_named p clauses h rows.0 rows.1, rows.2)
round_end p clauses old mid new left left' left'' (Ok swept.Spent) h k quiet rows = rows
round_end p clauses old mid new left left' left'' (Err e) h k quiet rows = tt

-- a conflict of the store
pub store_conflict : (p : Instance) (clauses : List Named) (b : Bounds) (h : Hint) → (n : Named) × Contains clauses n × (h ≡ n.name) × IsFalseIn b n.clause → (k : Constraint) × IsRoundName p clauses h k × (left_by b k ≡ None)
store_conflict p clauses b h c = (of_clause c.0.clause, inl (c.0, c.1, c.2, refl), c.3)
