-- A name stands for one thing, and the function from names to things finds it.
use Rattle.std.proofs.Common.{◌≡◌, ◌≢◌, ℕ, zero, suc, ◌+◌, ◌<◌, ◌++◌, ◌||◌, not, Bool, true, false, cond, List, [], ◌∷◌, Option, None, Some, length, get_or, slice_get, refl, sym, ◌∙◌, ap, subst, arith, ⊎_elim}
use Rattle.std.specs.List.{AllPairs, list_any, position_from}
use Rattle.std.specs.Option.{option_or, option_map, is_some}
use Rattle.std.proofs.lemmas.List.Folds.{list_any-append}
use Rattle.std.specs.Str.{bytes_eq}
use Rattle.std.proofs.lemmas.Bool.{cases_order}
use Rattle.std.proofs.lemmas.List.{get_or_append_left, get_or-append-add, length-append}
use Rattle.std.proofs.lemmas.Option.{none-some, same_Some, slice_get_within, get_or_from_slice_get}
use Rattle.std.proofs.lemmas.Slice.Eq.{bytes_eq-Decides}
use Rattle.cgm_model.specs.declared.lists.Lists.{Lists}
use Rattle.cgm_model.specs.declared.lists.Thing.{Thing}
use Rattle.cgm_model.specs.declared.lists.Thing.TheVariants as things
use Rattle.cgm_model.specs.Named.{names, element_names, refinement_names, variable_names, sum_names, IsNamedThing, place_of, thing_named}
use Rattle.cgm_model.specs.Statement.{is_new}
use Rattle.cgm_model.specs.WellFormed.{IsWellFormedModel}

-- ---- one place

-- two places with one name are one
same_place : (xs : List (List ℕ)) (i j : ℕ) (name : List ℕ) → AllPairs (λ one other. one ≢ other) xs → i < length xs → j < length xs → get_or xs i [] ≡ name → get_or xs j [] ≡ name → i ≡ j
same_place xs i j name apart l k a b =
    ⊎_elim
    (λ same. same)
    (⊎_elim
    (λ less. absurd (apart i j [] less k (a ∙ sym b)))
    (λ more. absurd (apart j i [] more l (b ∙ sym a))))
    (cases_order i j)

pub record Placed (xs : List (List ℕ)) (place : ℕ) (name : List ℕ) : Type 0 where
  pub within : place < length xs
  pub named : get_or xs place [] ≡ name

placed_here : (xs : List (List ℕ)) (k : ℕ) (name : List ℕ) → slice_get xs k ≡ Some name → Placed xs k name
placed_here xs k name at = record {
  within = slice_get_within xs k name at;
  named = get_or_from_slice_get xs k name [] at;
}

placed_first : (xs ys : List (List ℕ)) (k : ℕ) (name : List ℕ) → Placed xs k name → Placed (xs ++ ys) k name
placed_first xs ys k name p = record {
  within = omega (arith, p.within, length-append xs ys);
  named = get_or_append_left xs ys [] k p.within ∙ p.named;
}

placed_second : (xs ys : List (List ℕ)) (k : ℕ) (name : List ℕ) → Placed ys k name → Placed (xs ++ ys) (length xs + k) name
placed_second xs ys k name p = record {
  within = omega (arith, p.within, length-append xs ys);
  named = get_or-append-add xs ys k [] ∙ p.named;
}

-- the place of a thing's name among all names
abbrev pub place : Lists → Thing → ℕ
place m (things.Element k) = k
place m (things.Refinement k) = length (element_names m) + k
place m (things.Var k) = length (element_names m) + (length (refinement_names m) + k)
place m (things.Sum k) = length (element_names m) + (length (refinement_names m) + (length (variable_names m) + k))

pub placed : (m : Lists) (name : List ℕ) (t : Thing) → IsNamedThing m name t → Placed (names m) (place m t) name
placed m name (things.Element k) at =
    placed_first (element_names m) (refinement_names m ++ (variable_names m ++ sum_names m)) k name (placed_here (element_names m) k name at)
placed m name (things.Refinement k) at =
    placed_second (element_names m) (refinement_names m ++ (variable_names m ++ sum_names m)) k name
    (placed_first (refinement_names m) (variable_names m ++ sum_names m) k name (placed_here (refinement_names m) k name at))
placed m name (things.Var k) at =
    placed_second (element_names m) (refinement_names m ++ (variable_names m ++ sum_names m)) (length (refinement_names m) + k) name
    (placed_second (refinement_names m) (variable_names m ++ sum_names m) k name
    (placed_first (variable_names m) (sum_names m) k name (placed_here (variable_names m) k name at)))
placed m name (things.Sum k) at =
    placed_second (element_names m) (refinement_names m ++ (variable_names m ++ sum_names m)) (length (refinement_names m) + (length (variable_names m) + k)) name
    (placed_second (refinement_names m) (variable_names m ++ sum_names m) (length (variable_names m) + k) name
    (placed_second (variable_names m) (sum_names m) k name (placed_here (sum_names m) k name at)))

same_thing : (m : Lists) (name : List ℕ) (one other : Thing) → IsNamedThing m name one → IsNamedThing m name other → place m one ≡ place m other → one ≡ other
same_thing m name (things.Element i) (things.Element j) a b e = ap (λ k. things.Element k) e
same_thing m name (things.Element i) (things.Refinement j) a b e =
    let l = slice_get_within (element_names m) i name a in absurd (omega arith)
same_thing m name (things.Element i) (things.Var j) a b e =
    let l = slice_get_within (element_names m) i name a in absurd (omega arith)
same_thing m name (things.Element i) (things.Sum j) a b e =
    let l = slice_get_within (element_names m) i name a in absurd (omega arith)
same_thing m name (things.Refinement i) (things.Element j) a b e =
    let l = slice_get_within (element_names m) j name b in absurd (omega arith)
same_thing m name (things.Refinement i) (things.Refinement j) a b e =
    let same : i ≡ j = omega arith in ap (λ k. things.Refinement k) same
same_thing m name (things.Refinement i) (things.Var j) a b e =
    let l = slice_get_within (refinement_names m) i name a in absurd (omega arith)
same_thing m name (things.Refinement i) (things.Sum j) a b e =
    let l = slice_get_within (refinement_names m) i name a in absurd (omega arith)
same_thing m name (things.Var i) (things.Element j) a b e =
    let l = slice_get_within (element_names m) j name b in absurd (omega arith)
same_thing m name (things.Var i) (things.Refinement j) a b e =
    let l = slice_get_within (refinement_names m) j name b in absurd (omega arith)
same_thing m name (things.Var i) (things.Var j) a b e =
    let same : i ≡ j = omega arith in ap (λ k. things.Var k) same
same_thing m name (things.Var i) (things.Sum j) a b e =
    let l = slice_get_within (variable_names m) i name a in absurd (omega arith)
same_thing m name (things.Sum i) (things.Element j) a b e =
    let l = slice_get_within (element_names m) j name b in absurd (omega arith)
same_thing m name (things.Sum i) (things.Refinement j) a b e =
    let l = slice_get_within (refinement_names m) j name b in absurd (omega arith)
same_thing m name (things.Sum i) (things.Var j) a b e =
    let l = slice_get_within (variable_names m) j name b in absurd (omega arith)
same_thing m name (things.Sum i) (things.Sum j) a b e =
    let same : i ≡ j = omega arith in ap (λ k. things.Sum k) same

pub named_once : (m : Lists) → IsWellFormedModel m → (name : List ℕ) (one other : Thing) → IsNamedThing m name one → IsNamedThing m name other → one ≡ other
named_once m w name one other a b =
    let p = placed m name one a in
    let q = placed m name other b in
    same_thing m name one other a b (same_place (names m) (place m one) (place m other) name w.names.distinct p.within q.within p.named q.named)

-- ---- the function

record FoundFrom (ns : List (List ℕ)) (name : List ℕ) (from k : ℕ) : Type 0 where
  place : ℕ
  is : k ≡ from + place
  named : slice_get ns place ≡ Some name

abbrev step : ℕ → List (List ℕ) → List ℕ → Bool → Option ℕ
step from ns name b = cond b (Some from) (position_from (bytes_eq name) (from + 1) ns)

found_step : (n : List ℕ) (ns : List (List ℕ)) (name : List ℕ) (from k : ℕ) → (position_from (bytes_eq name) (from + 1) ns ≡ Some k → FoundFrom ns name (from + 1) k) → (b : Bool) → bytes_eq name n ≡ b → step from ns name b ≡ Some k → FoundFrom (n ∷ ns) name from k
found_step n ns name from k later true t e = record {
  place = 0;
  is = let same = same_Some from k e in omega arith;
  named = ap (λ x. Some x) (sym ((bytes_eq-Decides name n).0 t));
}
found_step n ns name from k later false t e =
    let there = later e in
    record {
      place = suc there.place;
      is = let i = there.is in omega arith;
      named = there.named;
    }

found_from : (ns : List (List ℕ)) (name : List ℕ) (from k : ℕ) → position_from (bytes_eq name) from ns ≡ Some k → FoundFrom ns name from k
found_from [] name from k e = absurd (none-some k e)
found_from (n ∷ ns) name from k e =
    found_step n ns name from k (λ later. found_from ns name (from + 1) k later) (bytes_eq name n) refl e

there_step : (ns : List (List ℕ)) (name : List ℕ) (from : ℕ) → position_from (bytes_eq name) (from + 1) ns ≢ None → (b : Bool) → step from ns name b ≢ None
there_step ns name from later true none = none-some from (sym none)
there_step ns name from later false none = later none

found_there : (ns : List (List ℕ)) (name : List ℕ) (from j : ℕ) → slice_get ns j ≡ Some name → position_from (bytes_eq name) from ns ≢ None
found_there [] name from j at = absurd (none-some name at)
found_there (n ∷ ns) name from zero at = λ none.
    let same : bytes_eq name n ≡ true = (bytes_eq-Decides name n).1 (sym (same_Some n name at)) in
    none-some from (sym none ∙ ap (step from ns name) same)
found_there (n ∷ ns) name from (suc j) at = there_step ns name from (found_there ns name (from + 1) j at) (bytes_eq name n)

place_named : (ns : List (List ℕ)) (name : List ℕ) (k : ℕ) → place_of name ns ≡ Some k → slice_get ns k ≡ Some name
place_named ns name k e =
    let f = found_from ns name 0 k e in
    let same : k ≡ f.place = let i = f.is in omega arith in
    ap (slice_get ns) same ∙ f.named

-- the first of four places that is there
abbrev first_thing : Option ℕ → Option ℕ → Option ℕ → Option ℕ → Option Thing
first_thing a b c d =
    option_or (option_map (λ k. things.Element k) a)
    (option_or (option_map (λ k. things.Refinement k) b)
    (option_or (option_map (λ k. things.Var k) c) (option_map (λ k. things.Sum k) d)))

-- the places of a name among the names of each group
record ArePlaces (m : Lists) (name : List ℕ) (a b c d : Option ℕ) : Type 0 where
  elements : place_of name (element_names m) ≡ a
  refinements : place_of name (refinement_names m) ≡ b
  vars : place_of name (variable_names m) ≡ c
  sums : place_of name (sum_names m) ≡ d

places_of : (m : Lists) (name : List ℕ) → ArePlaces m name (place_of name (element_names m)) (place_of name (refinement_names m)) (place_of name (variable_names m)) (place_of name (sum_names m))
places_of m name = record { elements = refl; refinements = refl; vars = refl; sums = refl }

first_named : (m : Lists) (name : List ℕ) (a b c d : Option ℕ) → ArePlaces m name a b c d → (t : Thing) → first_thing a b c d ≡ Some t → IsNamedThing m name t
first_named m name (Some k) b c d p t e = subst (IsNamedThing m name) (same_Some (things.Element k) t e) (place_named (element_names m) name k p.elements)
first_named m name None (Some k) c d p t e = subst (IsNamedThing m name) (same_Some (things.Refinement k) t e) (place_named (refinement_names m) name k p.refinements)
first_named m name None None (Some k) d p t e = subst (IsNamedThing m name) (same_Some (things.Var k) t e) (place_named (variable_names m) name k p.vars)
first_named m name None None None (Some k) p t e = subst (IsNamedThing m name) (same_Some (things.Sum k) t e) (place_named (sum_names m) name k p.sums)
first_named m name None None None None p t e = absurd (none-some t e)

pub named-from_thing_named : (m : Lists) (name : List ℕ) (t : Thing) → thing_named m name ≡ Some t → IsNamedThing m name t
unfolding thing_named
named-from_thing_named m name t e =
    first_named m name (place_of name (element_names m)) (place_of name (refinement_names m)) (place_of name (variable_names m)) (place_of name (sum_names m)) (places_of m name) t e

first_is_some : (m : Lists) (name : List ℕ) (a b c d : Option ℕ) → ArePlaces m name a b c d → (t : Thing) → IsNamedThing m name t → first_thing a b c d ≢ None
first_is_some m name (Some k) b c d p t h none = none-some (things.Element k) (sym none)
first_is_some m name None (Some k) c d p t h none = none-some (things.Refinement k) (sym none)
first_is_some m name None None (Some k) d p t h none = none-some (things.Var k) (sym none)
first_is_some m name None None None (Some k) p t h none = none-some (things.Sum k) (sym none)
first_is_some m name None None None None p (things.Element k) h none = found_there (element_names m) name 0 k h p.elements
first_is_some m name None None None None p (things.Refinement k) h none = found_there (refinement_names m) name 0 k h p.refinements
first_is_some m name None None None None p (things.Var k) h none = found_there (variable_names m) name 0 k h p.vars
first_is_some m name None None None None p (things.Sum k) h none = found_there (sum_names m) name 0 k h p.sums

pub thing_named-is_some : (m : Lists) (name : List ℕ) (t : Thing) → IsNamedThing m name t → thing_named m name ≢ None
unfolding thing_named
thing_named-is_some m name t h =
    first_is_some m name (place_of name (element_names m)) (place_of name (refinement_names m)) (place_of name (variable_names m)) (place_of name (sum_names m)) (places_of m name) t h

by_answer : (m : Lists) → IsWellFormedModel m → (name : List ℕ) (t : Thing) → IsNamedThing m name t → (answer : Option Thing) → thing_named m name ≡ answer → thing_named m name ≡ Some t
by_answer m w name t h None e = absurd (thing_named-is_some m name t h e)
by_answer m w name t h (Some u) e =
    e ∙ ap (λ x. Some x) (named_once m w name u t (named-from_thing_named m name u e) h)

pub thing_named-from_named : (m : Lists) → IsWellFormedModel m → (name : List ℕ) (t : Thing) → IsNamedThing m name t → thing_named m name ≡ Some t
thing_named-from_named m w name t h = by_answer m w name t h (thing_named m name) refl

none_by_answer : (m : Lists) (name : List ℕ) → ((t : Thing) → ¬ IsNamedThing m name t) → (answer : Option Thing) → thing_named m name ≡ answer → thing_named m name ≡ None
none_by_answer m name h None e = e
none_by_answer m name h (Some t) e = absurd (h t (named-from_thing_named m name t e))

pub thing_named-none : (m : Lists) (name : List ℕ) → ((t : Thing) → ¬ IsNamedThing m name t) → thing_named m name ≡ None
thing_named-none m name h = none_by_answer m name h (thing_named m name) refl

-- ---- the test for a new name

any_step : (test : List ℕ → Bool) (from : ℕ) (n : List ℕ) (ns : List (List ℕ)) → is_some (position_from test (from + 1) ns) ≡ list_any test ns → (b : Bool) → test n ≡ b → is_some (cond b (Some from) (position_from test (from + 1) ns)) ≡ (b || list_any test ns)
any_step test from n ns later true e = refl
any_step test from n ns later false e = later

any_from : (test : List ℕ → Bool) (from : ℕ) (ns : List (List ℕ)) → is_some (position_from test from ns) ≡ list_any test ns
any_from test from [] = refl
any_from test from (n ∷ ns) = any_step test from n ns (any_from test (from + 1) ns) (test n) refl

some_first : (a b c d : Option ℕ) → is_some (first_thing a b c d) ≡ (is_some a || (is_some b || (is_some c || is_some d)))
some_first (Some k) b c d = refl
some_first None (Some k) c d = refl
some_first None None (Some k) d = refl
some_first None None None (Some k) = refl
some_first None None None None = refl

pub not_swap : (a b : Bool) → a ≡ not b → b ≡ not a
not_swap a true e = ap not (sym e)
not_swap a false e = ap not (sym e)

pub not_some-thing_named : (m : Lists) (name : List ℕ) → not (is_some (thing_named m name)) ≡ is_new m name
unfolding thing_named
not_some-thing_named m name =
    let test = bytes_eq name in
    let a = place_of name (element_names m) in
    let b = place_of name (refinement_names m) in
    let c = place_of name (variable_names m) in
    let d = place_of name (sum_names m) in
    let each : (is_some a || (is_some b || (is_some c || is_some d))) ≡ (list_any test (element_names m) || (list_any test (refinement_names m) || (list_any test (variable_names m) || list_any test (sum_names m)))) =
    rw (any_from test 0 (element_names m), any_from test 0 (refinement_names m), any_from test 0 (variable_names m), any_from test 0 (sum_names m)) refl in
    let whole : list_any test (names m) ≡ (list_any test (element_names m) || (list_any test (refinement_names m) || (list_any test (variable_names m) || list_any test (sum_names m)))) =
    list_any-append test (element_names m) (refinement_names m ++ (variable_names m ++ sum_names m))
    ∙ ap (λ x. list_any test (element_names m) || x) (list_any-append test (refinement_names m) (variable_names m ++ sum_names m)
    ∙ ap (λ x. list_any test (refinement_names m) || x) (list_any-append test (variable_names m) (sum_names m))) in
    ap not (some_first a b c d ∙ (each ∙ sym whole))
