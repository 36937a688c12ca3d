-- What a propagation keeps, and answers that hold of longer lists of clauses.
use Rattle.std.proofs.Common.{◌≡◌, ℕ, ◌+◌, ◌<◌, ◌≤◌, List, [], ◌∷◌, ◌++◌, length, get_or, take, refl, ap, ◌∙◌, add-zero, arith}
use Rattle.std.specs.Prelude.{Result, Ok, Err}
use Rattle.std.specs.List.{Contains}
use Rattle.std.proofs.lemmas.List.{append-nil, take_all}
use Rattle.std.proofs.lemmas.List.Elements.{All-append, All-more, Contains-append_left, Contains-append_right}
use Rattle.cgm_atom.specs.declared.entries.Hint.{Hint}
use Rattle.cgm_atom.specs.Bounds.{Bounds}
use Rattle.cgm_atom.specs.Constraints.{Constraint, of_clause}
use Rattle.cgm_trail.specs.declared.changes.Change.{Change}
use Rattle.cgm_trail.specs.declared.changes.Swept.{Swept}
use Rattle.cgm_trail.specs.declared.changes.Swept.TheVariants as swept
use Rattle.cgm_trail.specs.Steps.{IsOnly, IsPropagated, grown}
use Rattle.cgm_trail.specs.TrailState.{TrailState, box_of}
use Rattle.cgm_trail.proofs.Propagating.{more_names, one_after_another}
use Rattle.cgm_clauses.specs.declared.named.Named.{Named}
use Rattle.cgm_clauses.specs.Standing.{IsQuietIn}
use Rattle.cgm_clauses.specs.StoreState.{IsPairIn}
use Rattle.cgm_clauses.specs.Sweeping.{AreQuiet, IsOneSweep, IsSweepStop}

-- ---- a propagation

pub left_is_less : (Names : Hint → Constraint → Type 0) (old new : TrailState) (left left' : ℕ) → IsPropagated Names old new left left' → left' ≤ left
left_is_less Names old new left left' h = omega (arith, h.spent)

pub problem_stays : (Names : Hint → Constraint → Type 0) (old new : TrailState) (left left' : ℕ) → IsPropagated Names old new left left' → new.problem ≡ old.problem
problem_stays Names old new left left' h = ap (λ t. t.problem) h.after

pub room_stays : (Names : Hint → Constraint → Type 0) (old new : TrailState) (left left' room : ℕ) → IsPropagated Names old new left left' → old.moves + left ≤ room → new.moves + left' ≤ room
room_stays Names old new left left' room h k =
    let moves : new.moves ≡ old.moves + length h.added = ap (λ t. t.moves) h.after in
    omega (arith, h.spent, moves)

grown_by : (t : TrailState) (added : List Change) → length added ≡ 0 → grown t added ≡ t
grown_by t [] e = rw (append-nil, add-zero) refl
grown_by t (c ∷ added) e = absurd (omega arith)

-- where `left` stayed, so did the trail
pub trail_stays : (Names : Hint → Constraint → Type 0) (old new : TrailState) (left left' : ℕ) → IsPropagated Names old new left left' → left' ≡ left → new ≡ old
trail_stays Names old new left left' h e = h.after ∙ grown_by old h.added (omega (arith, h.spent))

-- ---- more clauses

pub names_of_more : (xs ys : List Named) → ((n : Named) → Contains xs n → Contains ys n) → (h : Hint) (k : Constraint) → IsPairIn xs h k → IsPairIn ys h k
names_of_more xs ys f h k named = (named.0, f named.0 named.1, named.2, named.3)

pub name_of_one : (ys : List Named) (n : Named) → Contains ys n → (h : Hint) (k : Constraint) → IsOnly n.name (of_clause n.clause) h k → IsPairIn ys h k
name_of_one ys n there h k only = (n, there, only.0, only.1)

pub stop_of_more : {E : Type 0} (quiet quiet' : Type 0) (b : Bounds) (xs ys : List Named) (left : ℕ) (answer : Result Swept E) → ((n : Named) → Contains xs n → Contains ys n) → (quiet → quiet') → IsSweepStop quiet b xs left answer → IsSweepStop quiet' b ys left answer
stop_of_more quiet quiet' b xs ys left (Ok swept.Quiet) f g h = g h
stop_of_more quiet quiet' b xs ys left (Ok (swept.Conflict name)) f g h = (h.0, f h.0 h.1, h.2, h.3)
stop_of_more quiet quiet' b xs ys left (Ok swept.Spent) f g h = (h.0, (h.1.0, f h.1.0 h.1.1, h.1.2))
stop_of_more quiet quiet' b xs ys left (Err error) f g h = (h.0, (h.1.0, f h.1.0 h.1.1, h.1.2))

-- ---- one clause after those before it

-- what propagation by a clause of the list makes next
pub made_next : (xs : List Named) (n : Named) (old mid new : TrailState) (left left' left'' : ℕ) → Contains xs n → IsPropagated (IsPairIn xs) old mid left left' → IsPropagated (IsOnly n.name (of_clause n.clause)) mid new left' left'' → IsPropagated (IsPairIn xs) old new left left''
made_next xs n old mid new left left' left'' there h k =
    one_after_another (IsPairIn xs) old mid new left left' left'' h
    (more_names (IsOnly n.name (of_clause n.clause)) (IsPairIn xs) mid new left' left'' (name_of_one xs n there) k)

-- where the second left `left` as it was, so did the first, and what was quiet stays so
quiet_still : (NamesA NamesB : Hint → Constraint → Type 0) (xs : List Named) (old mid new : TrailState) (left left' left'' : ℕ) → IsPropagated NamesA old mid left left' → IsPropagated NamesB mid new left' left'' → (left' ≡ left → AreQuiet (box_of mid) xs) → left'' ≡ left → AreQuiet (box_of new) xs
quiet_still NamesA NamesB xs old mid new left left' left'' h k quiet e =
    let less = left_is_less NamesA old mid left left' h in
    let less' = left_is_less NamesB mid new left' left'' k in
    let first : left' ≡ left = omega arith in
    let second : left'' ≡ left' = omega arith in
    rw (trail_stays NamesB mid new left' left'' k second) (quiet first)

pub quiet_next : (NamesA NamesB : Hint → Constraint → Type 0) (xs : List Named) (i : ℕ) (n : Named) (old mid new : TrailState) (left left' left'' : ℕ) → i < length xs → n ≡ get_or xs i n → IsPropagated NamesA old mid left left' → IsPropagated NamesB mid new left' left'' → (left' ≡ left → AreQuiet (box_of mid) (take i xs)) → (left'' ≡ left' → AreQuiet (box_of new) (n ∷ [])) → left'' ≡ left → AreQuiet (box_of new) (take (i + 1) xs)
quiet_next NamesA NamesB xs i n old mid new left left' left'' short there h k quiet last e =
    let less = left_is_less NamesA old mid left left' h in
    let less' = left_is_less NamesB mid new left' left'' k in
    let second : left'' ≡ left' = omega arith in
    All-more (λ m. IsQuietIn (box_of new) m.clause) xs i n short
    (quiet_still NamesA NamesB (take i xs) old mid new left left' left'' h k quiet e)
    (rw (← there) (last second 0 n (omega arith)))

pub quiet_at_end : (b : Bounds) (xs : List Named) (i : ℕ) → length xs ≤ i → AreQuiet b (take i xs) → AreQuiet b xs
quiet_at_end b xs i long quiet = rw (take_all i xs long) at quiet

-- ---- one list after another

pub made_by_first : (xs ys : List Named) (old new : TrailState) (left left' : ℕ) → IsPropagated (IsPairIn xs) old new left left' → IsPropagated (IsPairIn (xs ++ ys)) old new left left'
made_by_first xs ys old new left left' h =
    more_names (IsPairIn xs) (IsPairIn (xs ++ ys)) old new left left' (names_of_more xs (xs ++ ys) (λ n. Contains-append_left xs ys n)) h

pub made_by_both : (xs ys : List Named) (old mid new : TrailState) (left left' left'' : ℕ) → IsPropagated (IsPairIn xs) old mid left left' → IsPropagated (IsPairIn ys) mid new left' left'' → IsPropagated (IsPairIn (xs ++ ys)) old new left left''
made_by_both xs ys old mid new left left' left'' h k =
    one_after_another (IsPairIn (xs ++ ys)) old mid new left left' left'' (made_by_first xs ys old mid left left' h)
    (more_names (IsPairIn ys) (IsPairIn (xs ++ ys)) mid new left' left'' (names_of_more ys (xs ++ ys) (λ n. Contains-append_right xs ys n)) k)

pub swept_by_both : {E : Type 0} (xs ys : List Named) (old mid new : TrailState) (left left' left'' : ℕ) (answer : Result Swept E) → IsPropagated (IsPairIn xs) old mid left left' → IsPropagated (IsPairIn ys) mid new left' left'' → (left' ≡ left → AreQuiet (box_of mid) xs) → IsOneSweep (box_of new) ys left' left'' answer → IsOneSweep (box_of new) (xs ++ ys) left left'' answer
swept_by_both xs ys old mid new left left' left'' answer h k quiet rest =
    stop_of_more (left'' ≡ left' → AreQuiet (box_of new) ys) (left'' ≡ left → AreQuiet (box_of new) (xs ++ ys)) (box_of new) ys (xs ++ ys) left'' answer
    (λ n. Contains-append_right xs ys n)
    (λ (last : left'' ≡ left' → AreQuiet (box_of new) ys) (e : left'' ≡ left).
    let less = left_is_less (IsPairIn xs) old mid left left' h in
    let less' = left_is_less (IsPairIn ys) mid new left' left'' k in
    let second : left'' ≡ left' = omega arith in
    All-append (λ n. IsQuietIn (box_of new) n.clause) xs ys
    (quiet_still (IsPairIn xs) (IsPairIn ys) xs old mid new left left' left'' h k quiet e)
    (last second))
    rest
