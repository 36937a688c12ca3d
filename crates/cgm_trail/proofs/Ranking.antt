-- The rank of a trail: what moves add to it, its limit, and that few restarts leave few moves.
use Rattle.std.proofs.Common.{◌≡◌, ℕ, zero, suc, ◌+◌, ◌-◌, ◌*◌, ◌^◌, ◌<◌, ◌≤◌, Bool, true, false, not, cond, List, [], ◌∷◌, ◌++◌, length, replicate, refl, sym, ap, subst, get_or, drop, ◌∙◌, add-one, append_assoc, arith, length-append}
use Rattle.std.specs.Prelude.{◌-ℤ◌, unsigned_abs}
use Rattle.std.proofs.lemmas.List.{length-replicate}
use Rattle.std.proofs.lemmas.Nat.{pow_pos}
use Rattle.std.proofs.Math.Nat.{add-mul, mul-le-mul, pow-succ'}
use Rattle.cgm_atom.specs.declared.constraints.Atom.{Atom}
use Rattle.cgm_atom.specs.declared.entries.Hint.{Hint}
use Rattle.cgm_atom.specs.Bounds.{Bounds, IsBoxOf, AreProperBounds}
use Rattle.cgm_atom.specs.Narrowing.{made_true}
use Rattle.cgm_atom.specs.Relaxing.{bound_of}
use Rattle.cgm_trail.specs.declared.changes.Change.{Change}
use Rattle.cgm_trail.specs.declared.changes.Reason.{Reason}
use Rattle.cgm_trail.specs.declared.changes.Reason.TheVariants.{By}
use Rattle.cgm_trail.specs.Rank.{IsTrail, letters, letters_of, rank, rank_from, rank_of, slack, units}
use Rattle.cgm_trail.specs.TrailState.{AreChanges, IsChangeOf, TrailState, box_after, change_of, cut_to, decision_places, is_decision, is_decision_reason, jumped, level_of, decided, tightened}
use Rattle.cgm_trail.proofs.Cuts.{cut_next, cut_parts, length-places}
use Rattle.cgm_trail.proofs.Replaying.{box_made_true, box_of_itself}
use Rattle.cgm_trail.proofs.Slacks.{slack_made_true, units_made_true}

-- ---- letters

rank_from-append : (left : ℕ) (xs ys : List Bool) → rank_from left (xs ++ ys) ≡ rank_from left xs + rank_from (left - length xs) ys
rank_from-append left [] ys =
    let n : left - 0 ≡ left = omega arith in
    rw n (omega arith)
rank_from-append left (x ∷ xs) ys =
    let rest : rank_from (left - 1) (xs ++ ys) ≡ rank_from (left - 1) xs + rank_from (left - 1 - length xs) ys = rank_from-append (left - 1) xs ys in
    let n : left - suc (length xs) ≡ left - 1 - length xs = omega arith in
    rw n (omega (arith, rest))

double : (n : ℕ) → 2 ^ suc n ≡ 2 ^ n + 2 ^ n
double n = omega (arith, pow-succ' 2 n)

letter_at_most : (t : Bool) (left : ℕ) → cond t (2 ^ left) 1 ≤ 2 ^ left
letter_at_most true left = omega arith
letter_at_most false left = omega (arith, pow_pos left)

letter_at_least : (t : Bool) (left : ℕ) → 1 ≤ cond t (2 ^ left) 1
letter_at_least true left = omega (arith, pow_pos left)
letter_at_least false left = omega arith

-- the rank of a string of at most so many letters
rank_from-limit : (left : ℕ) (ls : List Bool) → length ls ≤ left → rank_from left ls + 2 ≤ 2 ^ suc left
rank_from-limit left [] h = omega (arith, double left, pow_pos left)
rank_from-limit zero (t ∷ ls) h = absurd (omega arith)
rank_from-limit (suc left) (t ∷ ls) h =
    let n : suc left - 1 ≡ left = omega arith in
    let rest : rank_from left ls + 2 ≤ 2 ^ suc left = rank_from-limit left ls (omega arith) in
    rw n (omega (arith, rest, letter_at_most t (suc left), double (suc left)))

-- a false and all letters after it count less than a true in its place
less_than_true : (left : ℕ) (ls : List Bool) → suc (length ls) ≤ left → rank_from left (false ∷ ls) + 1 ≤ 2 ^ left
less_than_true zero ls h = absurd (omega arith)
less_than_true (suc left) ls h =
    let n : suc left - 1 ≡ left = omega arith in
    rw n (omega (arith, rank_from-limit left ls (omega arith)))

-- ---- letters of changes

letters-append : (xs ys : List Change) → letters (xs ++ ys) ≡ letters xs ++ letters ys
letters-append [] ys = refl
letters-append (x ∷ xs) ys =
    ap (λ ls. letters_of x ++ ls) (letters-append xs ys) ∙ sym (append_assoc (letters_of x) (letters xs) (letters ys))

letters_of_units : (b : Bounds) (c : Change) → IsChangeOf b c → length (letters_of c) ≡ unsigned_abs (c.atom.k -ℤ bound_of b c.atom)
letters_of_units b c h =
    let same : units c ≡ unsigned_abs (c.atom.k -ℤ bound_of b c.atom) = ap (λ z. unsigned_abs (c.atom.k -ℤ z)) h.before in
    let some : 0 < unsigned_abs (c.atom.k -ℤ bound_of b c.atom) = units_made_true b c.atom h.undecided in
    let rest : length (replicate (units c - 1) true) ≡ units c - 1 = length-replicate (units c - 1) true in
    omega (arith, same, some, rest)

-- the letters and the slack that is left make up the slack
letters_slack : (limits b : Bounds) (changes : List Change) → IsBoxOf limits b → AreChanges b changes → length (letters changes) + slack (box_after b changes) ≡ slack b
letters_slack limits b [] place h = omega arith
letters_slack limits b (c ∷ changes) place h =
    let place' = box_made_true limits b c.atom h.0.undecided place in
    let rest : length (letters changes) + slack (box_after (made_true b c.atom) changes) ≡ slack (made_true b c.atom) = letters_slack limits (made_true b c.atom) changes place' h.1 in
    let first : length (letters_of c) ≡ unsigned_abs (c.atom.k -ℤ bound_of b c.atom) = letters_of_units b c h.0 in
    let taken : slack (made_true b c.atom) + unsigned_abs (c.atom.k -ℤ bound_of b c.atom) ≡ slack b = slack_made_true b c.atom (place.upper_count ∙ sym place.lower_count) h.0.undecided in
    let both : length (letters_of c ++ letters changes) ≡ length (letters_of c) + length (letters changes) = length-append (letters_of c) (letters changes) in
    omega (arith, rest, first, taken, both)

-- ---- ranks

rank-append : (b : Bounds) (xs ys : List Change) → rank b (xs ++ ys) ≡ rank b xs + rank_from (slack b - length (letters xs)) (letters ys)
unfolding rank
rank-append b xs ys = ap (rank_from (slack b)) (letters-append xs ys) ∙ rank_from-append (slack b) (letters xs) (letters ys)

-- one change more raises the rank
pub rank_raised : (b : Bounds) (changes : List Change) (c : Change) → rank b changes + 1 ≤ rank b (changes ++ c ∷ [])
rank_raised b changes c =
    omega (arith, rank-append b changes (c ∷ []), letter_at_least (not (is_decision c)) (slack b - length (letters changes)))

pub rank_limit : (b : Bounds) (changes : List Change) → AreProperBounds b → AreChanges b changes → rank b changes + 2 ≤ 2 ^ suc (slack b)
unfolding rank
rank_limit b changes proper h =
    rank_from-limit (slack b) (letters changes) (omega (arith, letters_slack b b changes (box_of_itself b proper) h))

-- a tightening in the place of a decision and all that follows it raises the rank
pub jump_raises : (b : Bounds) (before after : List Change) (d c : Change) → AreProperBounds b → AreChanges b (before ++ d ∷ after) → is_decision d ≡ true → is_decision c ≡ false → rank b (before ++ d ∷ after) + 1 ≤ rank b (before ++ c ∷ [])
jump_raises b before after d c proper h e f =
    let left : ℕ = slack b - length (letters before) in
    let all : length (letters (before ++ d ∷ after)) ≤ slack b = omega (arith, letters_slack b b (before ++ d ∷ after) (box_of_itself b proper) h) in
    let parts : length (letters (before ++ d ∷ after)) ≡ length (letters before) + length (letters (d ∷ after)) = ap length (letters-append before (d ∷ after)) ∙ length-append (letters before) (letters (d ∷ after)) in
    let short : suc (length (replicate (units d - 1) true ++ letters after)) ≤ left = omega (arith, all, parts) in
    let less : rank_from left (letters (d ∷ after)) + 1 ≤ 2 ^ left = rw e (less_than_true left (replicate (units d - 1) true ++ letters after) short) in
    let more : 2 ^ left ≤ rank_from left (letters (c ∷ [])) = rw f (omega arith) in
    omega (arith, rank-append b before (d ∷ after), rank-append b before (c ∷ []), less, more)

-- so does a jump
pub rank_jumped : (b : Bounds) (changes : List Change) (level : ℕ) (a : Atom) (reason : Reason) → AreProperBounds b → AreChanges b changes → level < level_of changes → is_decision_reason reason ≡ false → rank b changes + 1 ≤ rank b (cut_to level changes ++ change_of (box_after b (cut_to level changes)) a reason ∷ [])
rank_jumped b changes level a reason proper h k e =
    let c : Change = change_of (box_after b (cut_to level changes)) a reason in
    let n : ℕ = length (cut_to level changes) in
    let known : level < length (decision_places 0 changes) = omega (arith, k, length-places 0 changes) in
    let parts : changes ≡ cut_to level changes ++ (get_or changes n c ∷ drop (n + 1) changes) = cut_parts level changes c known in
    subst (λ cs. rank b cs + 1 ≤ rank b (cut_to level changes ++ c ∷ [])) (sym parts)
    (jump_raises b (cut_to level changes) (drop (n + 1) changes) (get_or changes n c) c proper (subst (AreChanges b) parts h) (cut_next 0 level changes c known) e)

-- ---- counts

-- a move that raises the rank
pub counted_more : (moves times limit rank rank' : ℕ) → moves ≤ times * limit + rank → rank + 1 ≤ rank' → moves + 1 ≤ times * limit + rank'
counted_more moves times limit rank rank' h k = omega arith

-- no move, and the same rank
pub counted_same : (moves base rank rank' : ℕ) → moves ≤ base + rank → rank' ≡ rank → moves ≤ base + rank'
counted_same moves base rank rank' h e = omega arith

-- a restart, whose rank may be any
pub counted_restart : (moves times bound rank rank' : ℕ) → moves ≤ times * (bound - 1) + rank → rank + 2 ≤ bound → moves + 1 ≤ (times + 1) * (bound - 1) + rank'
counted_restart moves times bound rank rank' h k = omega (arith, add-mul times 1 (bound - 1))

few : (moves restarts limit rank bound : ℕ) → moves ≤ restarts * (bound - 1) + rank → rank + 2 ≤ bound → restarts ≤ limit → moves < (limit + 1) * bound
few moves restarts limit rank bound h g k =
    let product : restarts * (bound - 1) ≤ limit * bound = mul-le-mul k (omega arith) in
    omega (arith, product, add-mul limit 1 bound)

pub moves_are_few : (t : TrailState) (restarts : ℕ) → IsTrail t → t.restarts ≤ restarts → t.moves < (restarts + 1) * 2 ^ (slack t.problem.bounds + 1)
moves_are_few t restarts h k =
    few t.moves t.restarts restarts (rank t.problem.bounds t.changes) (2 ^ (slack t.problem.bounds + 1)) h.counted
    (rw add-one (rank_limit t.problem.bounds t.changes h.problem.proper h.changes)) k

pub rank_is_bounded : (t : TrailState) → IsTrail t → rank_of t + 2 ≤ 2 ^ (slack t.problem.bounds + 1)
rank_is_bounded t h = rw add-one (rank_limit t.problem.bounds t.changes h.problem.proper h.changes)

raised : (n m : ℕ) → n + 1 ≤ m → n < m
raised n m h = omega arith

pub moves_raise_rank : (t : TrailState) (a : Atom) (by : Hint) → IsTrail t → (rank_of t < rank_of (tightened t a by)) × (rank_of t < rank_of (decided t a)) × ((level : ℕ) → level < level_of t.changes → rank_of t < rank_of (jumped t level a by))
moves_raise_rank t a by h = (
  raised _ _ (rank_raised t.problem.bounds t.changes _),
  raised _ _ (rank_raised t.problem.bounds t.changes _),
  λ level k. raised _ _ (rank_jumped t.problem.bounds t.changes level a (By by) h.problem.proper h.changes k refl),
)
