-- Cutting to a level keeps the changes before the place of the next level's decision.
use Rattle.std.proofs.Common.{◌≡◌, ℕ, zero, suc, ◌+◌, ◌<◌, ◌≤◌, Bool, true, false, cond, List, [], ◌∷◌, ◌++◌, length, get_or, take, drop, refl, sym, ap, ◌∙◌, arith, eqb}
use Rattle.std.proofs.lemmas.List.{drop_more, take-append-drop}
use Rattle.std.proofs.lemmas.Bool.{eq-eqb, eqb-true, ne_eqb}
use Rattle.cgm_trail.specs.declared.changes.Change.{Change}
use Rattle.cgm_trail.specs.TrailState.{cut_to, decision_places, is_decision, level_of, level_start}

-- ---- places of decisions

counted_step : (t : Bool) (at n : ℕ) (places : List ℕ) → length places ≡ n → length (cond t (at ∷ places) places) ≡ cond t (n + 1) n
counted_step true at n places h = omega arith
counted_step false at n places h = h

-- there are as many as levels after level 0
pub length-places : (at : ℕ) (changes : List Change) → length (decision_places at changes) ≡ level_of changes
length-places at [] = refl
length-places at (c ∷ changes) =
    counted_step (is_decision c) at (level_of changes) (decision_places (at + 1) changes) (length-places (at + 1) changes)

kept_step : (t : Bool) (at : ℕ) (places more : List ℕ) → cond t (at ∷ (places ++ more)) (places ++ more) ≡ (cond t (at ∷ places) places) ++ more
kept_step true at places more = refl
kept_step false at places more = refl

pub places-decided : (at : ℕ) (changes : List Change) (c : Change) → is_decision c ≡ true → decision_places at (changes ++ c ∷ []) ≡ decision_places at changes ++ (at + length changes) ∷ []
places-decided at [] c e = rw e (ap (λ n. n ∷ []) (omega arith))
places-decided at (x ∷ changes) c e =
    let n : at + 1 + length changes ≡ at + suc (length changes) = omega arith in
    let rest : decision_places (at + 1) (changes ++ c ∷ []) ≡ decision_places (at + 1) changes ++ (at + 1 + length changes) ∷ [] = places-decided (at + 1) changes c e in
    rw (rest, n) (kept_step (is_decision x) at (decision_places (at + 1) changes) ((at + suc (length changes)) ∷ []))

pub places-tightened : (at : ℕ) (changes : List Change) (c : Change) → is_decision c ≡ false → decision_places at (changes ++ c ∷ []) ≡ decision_places at changes
places-tightened at [] c e = rw e refl
places-tightened at (x ∷ changes) c e = rw (places-tightened (at + 1) changes c e) refl

-- ---- the place of a cut

place_zero : (t : Bool) (at d : ℕ) (c : Change) (places : List ℕ) (cut : List Change) → (0 < length places → get_or places 0 d ≡ at + 1 + length cut) → 0 < length (cond t (at ∷ places) places) → get_or (cond t (at ∷ places) places) 0 d ≡ at + length (cond t [] (c ∷ cut))
place_zero true at d c places cut h k = omega arith
place_zero false at d c places cut h k = let e = h k in omega arith

place_suc : (t : Bool) (at level d : ℕ) (c : Change) (places : List ℕ) (cut : ℕ → List Change) → ((l : ℕ) → l < length places → get_or places l d ≡ at + 1 + length (cut l)) → suc level < length (cond t (at ∷ places) places) → get_or (cond t (at ∷ places) places) (suc level) d ≡ at + length (c ∷ cut (cond t level (suc level)))
place_suc true at level d c places cut h k = let e = h level (omega arith) in omega arith
place_suc false at level d c places cut h k = let e = h (suc level) k in omega arith

-- a level's place is where the changes of the levels before it end
pub cut_place : (at level d : ℕ) (changes : List Change) → level < length (decision_places at changes) → get_or (decision_places at changes) level d ≡ at + length (cut_to level changes)
cut_place at level d [] h = absurd (omega arith)
cut_place at zero d (c ∷ changes) h =
    place_zero (is_decision c) at d c (decision_places (at + 1) changes) (cut_to zero changes) (cut_place (at + 1) zero d changes) h
cut_place at (suc level) d (c ∷ changes) h =
    place_suc (is_decision c) at level d c (decision_places (at + 1) changes) (λ l. cut_to l changes) (λ l. cut_place (at + 1) l d changes) h

taken_zero : (t : Bool) (c : Change) (changes cut : List Change) → cut ≡ take (length cut) changes → cond t [] (c ∷ cut) ≡ take (length (cond t [] (c ∷ cut))) (c ∷ changes)
taken_zero true c changes cut h = refl
taken_zero false c changes cut h = ap (λ cs. c ∷ cs) h

-- a cut keeps a first part
pub cut_taken : (level : ℕ) (changes : List Change) → cut_to level changes ≡ take (length (cut_to level changes)) changes
cut_taken level [] = refl
cut_taken zero (c ∷ changes) = taken_zero (is_decision c) c changes (cut_to zero changes) (cut_taken zero changes)
cut_taken (suc level) (c ∷ changes) = ap (λ cs. c ∷ cs) (cut_taken (cond (is_decision c) level (suc level)) changes)

short_zero : (t : Bool) (at : ℕ) (c : Change) (changes cut : List Change) (places : List ℕ) → (0 < length places → length cut < length changes) → 0 < length (cond t (at ∷ places) places) → length (cond t [] (c ∷ cut)) < suc (length changes)
short_zero true at c changes cut places h k = omega arith
short_zero false at c changes cut places h k = let r = h k in omega arith

short_suc : (t : Bool) (at level : ℕ) (changes : List Change) (cut : ℕ → List Change) (places : List ℕ) → ((l : ℕ) → l < length places → length (cut l) < length changes) → suc level < length (cond t (at ∷ places) places) → suc (length (cut (cond t level (suc level)))) < suc (length changes)
short_suc true at level changes cut places h k = let r = h level (omega arith) in omega arith
short_suc false at level changes cut places h k = let r = h (suc level) k in omega arith

-- a cut below the present level drops a change
pub cut_short : (at level : ℕ) (changes : List Change) → level < length (decision_places at changes) → length (cut_to level changes) < length changes
cut_short at level [] h = absurd (omega arith)
cut_short at zero (c ∷ changes) h =
    short_zero (is_decision c) at c changes (cut_to zero changes) (decision_places (at + 1) changes) (cut_short (at + 1) zero changes) h
cut_short at (suc level) (c ∷ changes) h =
    short_suc (is_decision c) at level changes (λ l. cut_to l changes) (decision_places (at + 1) changes) (λ l. cut_short (at + 1) l changes) h

next_zero : (t : Bool) (at : ℕ) (c d : Change) (changes cut : List Change) (places : List ℕ) → is_decision c ≡ t → (0 < length places → is_decision (get_or changes (length cut) d) ≡ true) → 0 < length (cond t (at ∷ places) places) → is_decision (get_or (c ∷ changes) (length (cond t [] (c ∷ cut))) d) ≡ true
next_zero true at c d changes cut places e h k = e
next_zero false at c d changes cut places e h k = h k

next_suc : (t : Bool) (at level : ℕ) (d : Change) (changes : List Change) (cut : ℕ → List Change) (places : List ℕ) → ((l : ℕ) → l < length places → is_decision (get_or changes (length (cut l)) d) ≡ true) → suc level < length (cond t (at ∷ places) places) → is_decision (get_or changes (length (cut (cond t level (suc level)))) d) ≡ true
next_suc true at level d changes cut places h k = h level (omega arith)
next_suc false at level d changes cut places h k = h (suc level) k

-- the change after a cut is the next level's decision
pub cut_next : (at level : ℕ) (changes : List Change) (d : Change) → level < length (decision_places at changes) → is_decision (get_or changes (length (cut_to level changes)) d) ≡ true
cut_next at level [] d h = absurd (omega arith)
cut_next at zero (c ∷ changes) d h =
    next_zero (is_decision c) at c d changes (cut_to zero changes) (decision_places (at + 1) changes) refl (cut_next (at + 1) zero changes d) h
cut_next at (suc level) (c ∷ changes) d h =
    next_suc (is_decision c) at level d changes (λ l. cut_to l changes) (decision_places (at + 1) changes) (λ l. cut_next (at + 1) l changes d) h

places_zero : (t : Bool) (at : ℕ) (c : Change) (cut : List Change) → is_decision c ≡ t → decision_places (at + 1) cut ≡ [] → decision_places at (cond t [] (c ∷ cut)) ≡ []
places_zero true at c cut e h = refl
places_zero false at c cut e h = rw e h

places_suc : (t : Bool) (at level : ℕ) (places : List ℕ) (cut : ℕ → List ℕ) → ((l : ℕ) → cut l ≡ take l places) → cond t (at ∷ cut (cond t level (suc level))) (cut (cond t level (suc level))) ≡ take (suc level) (cond t (at ∷ places) places)
places_suc true at level places cut h = ap (λ ns. at ∷ ns) (h level)
places_suc false at level places cut h = h (suc level)

-- and keeps the decisions of the first levels
pub cut_places : (at level : ℕ) (changes : List Change) → decision_places at (cut_to level changes) ≡ take level (decision_places at changes)
cut_places at zero [] = refl
cut_places at (suc level) [] = refl
cut_places at zero (c ∷ changes) = places_zero (is_decision c) at c (cut_to zero changes) refl (cut_places (at + 1) zero changes)
cut_places at (suc level) (c ∷ changes) =
    places_suc (is_decision c) at level (decision_places (at + 1) changes) (λ l. decision_places (at + 1) (cut_to l changes)) (λ l. cut_places (at + 1) l changes)

all_zero : (t : Bool) (at : ℕ) (c : Change) (changes cut : List Change) (places : List ℕ) → (length places ≤ 0 → cut ≡ changes) → length (cond t (at ∷ places) places) ≤ 0 → cond t [] (c ∷ cut) ≡ c ∷ changes
all_zero true at c changes cut places h k = absurd (omega arith)
all_zero false at c changes cut places h k = ap (λ cs. c ∷ cs) (h k)

all_suc : (t : Bool) (at level : ℕ) (c : Change) (changes : List Change) (cut : ℕ → List Change) (places : List ℕ) → ((l : ℕ) → length places ≤ l → cut l ≡ changes) → length (cond t (at ∷ places) places) ≤ suc level → c ∷ cut (cond t level (suc level)) ≡ c ∷ changes
all_suc true at level c changes cut places h k = ap (λ cs. c ∷ cs) (h level (omega arith))
all_suc false at level c changes cut places h k = ap (λ cs. c ∷ cs) (h (suc level) k)

-- a cut to the present level keeps all
pub cut_all : (at level : ℕ) (changes : List Change) → length (decision_places at changes) ≤ level → cut_to level changes ≡ changes
cut_all at level [] h = refl
cut_all at zero (c ∷ changes) h =
    all_zero (is_decision c) at c changes (cut_to zero changes) (decision_places (at + 1) changes) (cut_all (at + 1) zero changes) h
cut_all at (suc level) (c ∷ changes) h =
    all_suc (is_decision c) at level c changes (λ l. cut_to l changes) (decision_places (at + 1) changes) (λ l. cut_all (at + 1) l changes) h

grows_zero : (t : Bool) (at : ℕ) (c : Change) (cut : ℕ → List Change) (places : List ℕ) → (0 < length places → length (cut 0) < length (cut 1)) → 0 < length (cond t (at ∷ places) places) → length (cond t [] (c ∷ cut 0)) < length (c ∷ cut (cond t 0 1))
grows_zero true at c cut places h k = omega arith
grows_zero false at c cut places h k = let e = h k in omega arith

grows_suc : (t : Bool) (at level : ℕ) (cut : ℕ → List Change) (places : List ℕ) → ((l : ℕ) → l < length places → length (cut l) < length (cut (suc l))) → suc level < length (cond t (at ∷ places) places) → suc (length (cut (cond t level (suc level)))) < suc (length (cut (cond t (suc level) (suc (suc level)))))
grows_suc true at level cut places h k = let e = h level (omega arith) in omega arith
grows_suc false at level cut places h k = let e = h (suc level) k in omega arith

-- each level after level 0 has a change
pub cut_grows : (at level : ℕ) (changes : List Change) → level < length (decision_places at changes) → length (cut_to level changes) < length (cut_to (suc level) changes)
cut_grows at level [] h = absurd (omega arith)
cut_grows at zero (c ∷ changes) h =
    grows_zero (is_decision c) at c (λ l. cut_to l changes) (decision_places (at + 1) changes) (cut_grows (at + 1) zero changes) h
cut_grows at (suc level) (c ∷ changes) h =
    grows_suc (is_decision c) at level (λ l. cut_to l changes) (decision_places (at + 1) changes) (λ l. cut_grows (at + 1) l changes) h

-- the changes are those of the cut, the decision, and the rest
pub cut_parts : (level : ℕ) (changes : List Change) (d : Change) → level < length (decision_places 0 changes) → changes ≡ cut_to level changes ++ (get_or changes (length (cut_to level changes)) d ∷ drop (length (cut_to level changes) + 1) changes)
cut_parts level changes d h =
    let n : ℕ = length (cut_to level changes) in
    let short : n < length changes = cut_short 0 level changes h in
    sym (take-append-drop n changes) ∙ ap (λ cs. cs ++ drop n changes) (sym (cut_taken level changes)) ∙ ap (λ cs. cut_to level changes ++ cs) (drop_more changes n d short)

-- ---- where levels start

pub start_later : (level m : ℕ) (changes : List Change) → level ≡ suc m → level ≤ level_of changes → get_or (decision_places 0 changes) m 0 ≡ level_start level changes
start_later level m changes e h =
    let known : m < length (decision_places 0 changes) = omega (arith, e, h, length-places 0 changes) in
    let more : length (cut_to m changes) < length (cut_to (suc m) changes) = cut_grows 0 m changes known in
    let place : get_or (decision_places 0 changes) m 0 ≡ 0 + length (cut_to m changes) = cut_place 0 m 0 changes known in
    let differs : eqb (length (cut_to (suc m) changes)) (length (cut_to m changes)) ≡ false = ne_eqb _ _ (λ q. omega (arith, q, more)) in
    rw (e, differs) (omega (arith, place))

start_none_by : (t : Bool) (n : ℕ) → eqb n 0 ≡ t → 0 ≡ cond t n 0
start_none_by true n e = omega (arith, eqb-true n 0 e)
start_none_by false n e = refl

pub start_none : (level : ℕ) (changes : List Change) → level ≡ 0 → length (decision_places 0 changes) ≡ 0 → 0 ≡ level_start level changes
start_none level changes e h =
    let whole : cut_to 0 changes ≡ changes = cut_all 0 0 changes (omega arith) in
    rw (e, whole) (start_none_by (eqb (length changes) 0) (length changes) refl)

pub start_first : (level first : ℕ) (changes : List Change) → level ≡ 0 → 0 < length (decision_places 0 changes) → first ≡ get_or (decision_places 0 changes) 0 0 → 0 < first → 0 ≡ level_start level changes
start_first level first changes e known f h =
    let place : get_or (decision_places 0 changes) 0 0 ≡ 0 + length (cut_to 0 changes) = cut_place 0 0 0 changes known in
    let differs : eqb (length (cut_to 0 changes)) 0 ≡ false = ne_eqb _ _ (λ q. omega (arith, q, place)) in
    rw (e, differs) refl

pub start_empty : (level first : ℕ) (changes : List Change) → level ≡ 0 → 0 < length (decision_places 0 changes) → first ≡ get_or (decision_places 0 changes) 0 0 → first ≡ 0 → length changes ≡ level_start level changes
start_empty level first changes e known f h =
    let place : get_or (decision_places 0 changes) 0 0 ≡ 0 + length (cut_to 0 changes) = cut_place 0 0 0 changes known in
    let same : eqb (length (cut_to 0 changes)) 0 ≡ true = eq-eqb _ _ (omega (arith, place)) in
    rw (e, same) refl
