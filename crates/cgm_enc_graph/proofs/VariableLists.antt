-- The variables of the refinements of each element, as far as a loop over the refinements has come.
use Rattle.std.proofs.Common.{◌≡◌, ◌≢◌, ℕ, suc, ◌+◌, ◌==◌, ◌<◌, ◌≤◌, Bool, true, false, cond, List, [], ◌∷◌, ◌++◌, length, get_or, set, map, drop, refl, sym, ap, ◌∙◌, arith, ⊎_elim}
use Rattle.std.specs.List.{enumerate_from, filter, flat_map}
use Rattle.std.proofs.lemmas.Bool.{cases_eq, eq-eqb, ne_eqb}
use Rattle.std.proofs.lemmas.List.{append-nil, append_assoc, drop_all, drop_more, get_or-set_other, get_or-set_same, length-set}
use Rattle.cgm_atom.specs.declared.constraints.Clause.{Clause}
use Rattle.cgm_model.specs.declared.lists.Element.{Element}
use Rattle.cgm_model.specs.declared.lists.Lists.{Lists}
use Rattle.cgm_model.specs.declared.lists.Refinement.{Refinement}
use Rattle.cgm_enc_graph.specs.GraphClauses.{element_clauses, numbered_elements, numbered_refinements, variables_for}

-- for each element what it has, with what the refinements from place i on give it, is all
pub record AreSoFar (count first : ℕ) (refinements : List Refinement) (lists : List (List ℕ)) (i : ℕ) : Type 0 where
  pub count_of : length lists ≡ count
  pub left : (e : ℕ) → e < count → get_or lists e [] ++ variables_for (enumerate_from (first + i) (drop i refinements)) e ≡ variables_for (enumerate_from first refinements) e

pub none_so_far : (count first : ℕ) (refinements : List Refinement) (lists : List (List ℕ)) → length lists ≡ count → ((e : ℕ) → get_or lists e [] ≡ []) → AreSoFar count first refinements lists 0
none_so_far count first refinements lists length_is empty = record {
  count_of = length_is;
  left = λ e within.
      let start : first + 0 ≡ first = omega arith in
      ap (λ (own : List ℕ). own ++ variables_for (enumerate_from (first + 0) refinements) e) (empty e)
      ∙ ap (λ (k : ℕ). variables_for (enumerate_from k refinements) e) start;
}

-- the variable of one refinement, for its target alone
abbrev own_variable : ℕ → Refinement → ℕ → List ℕ
own_variable x r e = cond (r.target == e) (x ∷ []) []

first_variable : (x : ℕ) (target e : ℕ) (r : Refinement) (rest : List (ℕ × Refinement)) (t : Bool) → map (λ (s : ℕ × Refinement). s.0) (cond t ((x, r) ∷ filter (λ s. s.1.target == e) rest) (filter (λ s. s.1.target == e) rest)) ≡ cond t (x ∷ []) [] ++ variables_for rest e
first_variable x target e r rest true = refl
first_variable x target e r rest false = refl

split_first : (first i : ℕ) (refinements : List Refinement) (r : Refinement) (e : ℕ) → i < length refinements → r ≡ get_or refinements i r → variables_for (enumerate_from (first + i) (drop i refinements)) e ≡ own_variable (first + i) r e ++ variables_for (enumerate_from (first + (i + 1)) (drop (i + 1) refinements)) e
split_first first i refinements r e within is =
    let rest = drop (i + 1) refinements in
    let next : first + i + 1 ≡ first + (i + 1) = omega arith in
    ap (λ (rs : List Refinement). variables_for (enumerate_from (first + i) rs) e) (drop_more refinements i r within ∙ ap (λ (q : Refinement). q ∷ rest) (sym is))
    ∙ first_variable (first + i) r.target e r (enumerate_from (first + i + 1) rest) (r.target == e)
    ∙ ap (λ (k : ℕ). own_variable (first + i) r e ++ variables_for (enumerate_from k rest) e) next

-- the list of the target grows by the variable, the others stay
grown : (lists : List (List ℕ)) (x : ℕ) (r : Refinement) (e : ℕ) → r.target < length lists → get_or (set lists r.target (get_or lists r.target [] ++ x ∷ [])) e [] ≡ get_or lists e [] ++ own_variable x r e
grown lists x r e within =
    ⊎_elim
    (λ (same : e ≡ r.target).
    ap (λ (k : ℕ). get_or (set lists r.target (get_or lists r.target [] ++ x ∷ [])) k []) same
    ∙ get_or-set_same lists r.target (get_or lists r.target [] ++ x ∷ []) [] within
    ∙ ap (λ (k : ℕ). get_or lists k [] ++ x ∷ []) (sym same)
    ∙ ap (λ (t : Bool). get_or lists e [] ++ cond t (x ∷ []) []) (sym (eq-eqb r.target e (sym same))))
    (λ (other : e ≢ r.target).
    get_or-set_other lists r.target e (get_or lists r.target [] ++ x ∷ []) [] other
    ∙ sym (append-nil (get_or lists e []))
    ∙ ap (λ (t : Bool). get_or lists e [] ++ cond t (x ∷ []) []) (sym (ne_eqb r.target e (λ same. other (sym same)))))
    (cases_eq e r.target)

pub one_more : (count first : ℕ) (refinements : List Refinement) (old new : List (List ℕ)) (i x : ℕ) (r : Refinement) → i < length refinements → r ≡ get_or refinements i r → r.target < count → x ≡ first + i → new ≡ set old r.target (get_or old r.target [] ++ x ∷ []) → AreSoFar count first refinements old i → AreSoFar count first refinements new (i + 1)
one_more count first refinements old new i x r within is known variable change far =
    let length_is = far.count_of in
    let there : r.target < length old = omega arith in
    record {
      count_of = ap (λ (xs : List (List ℕ)). length xs) change ∙ length-set old r.target (get_or old r.target [] ++ x ∷ []) ∙ length_is;
      left = λ e inside.
          let rest = variables_for (enumerate_from (first + (i + 1)) (drop (i + 1) refinements)) e in
          ap (λ (xs : List (List ℕ)). get_or xs e [] ++ rest) change
          ∙ ap (λ (own : List ℕ). own ++ rest) (grown old x r e there)
          ∙ append_assoc (get_or old e []) (own_variable x r e) rest
          ∙ ap (λ (k : ℕ). get_or old e [] ++ (own_variable k r e ++ rest)) variable
          ∙ ap (λ (ys : List ℕ). get_or old e [] ++ ys) (sym (split_first first i refinements r e within is))
          ∙ far.left e inside;
    }

pub all_so_far : (count first : ℕ) (refinements : List Refinement) (lists : List (List ℕ)) (i : ℕ) → length refinements ≤ i → AreSoFar count first refinements lists i → (e : ℕ) → e < count → get_or lists e [] ≡ variables_for (enumerate_from first refinements) e
all_so_far count first refinements lists i past far e within =
    sym (append-nil (get_or lists e []))
    ∙ ap (λ (rs : List Refinement). get_or lists e [] ++ variables_for (enumerate_from (first + i) rs) e) (sym (drop_all i refinements past))
    ∙ far.left e within

-- ---- the clauses of elements by their lists

pub listed_elements : (first : ℕ) (lists : List (List ℕ)) (elements : List Element) (own : ℕ → List ℕ) → length lists ≡ length elements → ((e : ℕ) → e < length lists → get_or lists e [] ≡ own (first + e)) → flat_map (λ (e : ℕ × List ℕ). element_clauses e.0 e.1) (enumerate_from first lists) ≡ flat_map (λ (e : ℕ × Element). element_clauses e.0 (own e.0)) (enumerate_from first elements)
listed_elements first [] [] own same h = refl
listed_elements first [] (y ∷ elements) own same h = absurd (omega arith)
listed_elements first (xs ∷ lists) [] own same h = absurd (omega arith)
listed_elements first (xs ∷ lists) (y ∷ elements) own same h =
    let here : first + 0 ≡ first = omega arith in
    let is : xs ≡ own first = h 0 (omega arith) ∙ ap own here in
    let rest = listed_elements (first + 1) lists elements own (omega arith)
    (λ e within. let there : first + suc e ≡ first + 1 + e = omega arith in h (suc e) (omega arith) ∙ ap own there) in
    ap (λ (ys : List ℕ). element_clauses first ys ++ flat_map (λ (e : ℕ × List ℕ). element_clauses e.0 e.1) (enumerate_from (first + 1) lists)) is
    ∙ ap (λ (clauses : List Clause). element_clauses first (own first) ++ clauses) rest

-- the lists that one pass made are those of the model
pub listed_model : (m : Lists) (lists : List (List ℕ)) (elements : List Element) (refinements : List Refinement) → elements ≡ m.elements → refinements ≡ m.refinements → length lists ≡ length elements → ((e : ℕ) → e < length elements → get_or lists e [] ≡ variables_for (enumerate_from (length elements) refinements) e) → flat_map (λ (e : ℕ × List ℕ). element_clauses e.0 e.1) (enumerate_from 0 lists) ≡ flat_map (λ (e : ℕ × Element). element_clauses e.0 (variables_for (numbered_refinements m) e.0)) (numbered_elements m)
listed_model m lists elements refinements same_elements same_refinements count h =
    let all : length elements ≡ length m.elements = ap (λ (xs : List Element). length xs) same_elements in
    let numbered : enumerate_from (length elements) refinements ≡ numbered_refinements m =
    ap (λ (first : ℕ). enumerate_from first refinements) all ∙ ap (λ (rs : List Refinement). enumerate_from (length m.elements) rs) same_refinements in
    listed_elements 0 lists m.elements (variables_for (numbered_refinements m)) (omega arith)
    (λ e within.
    let start : 0 + e ≡ e = omega arith in
    h e (omega arith)
    ∙ ap (λ (rs : List (ℕ × Refinement)). variables_for rs e) numbered
    ∙ ap (λ (k : ℕ). variables_for (numbered_refinements m) k) (sym start))
