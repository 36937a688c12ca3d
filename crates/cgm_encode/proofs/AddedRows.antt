-- Rows that define variables, added one pair after another.
use Rattle.std.proofs.Common.{◌≡◌, ℕ, ◌+◌, ◌*◌, ◌<◌, ◌≤◌, List, [], ◌∷◌, ◌++◌, length, get_or, drop, refl, sym, ap, ◌∙◌, subst, arith}
use Rattle.std.specs.Prelude.{flat_map}
use Rattle.std.specs.List.{enumerate_from, range_with_len, zip}
use Rattle.std.proofs.lemmas.List.{append-nil, append_assoc, drop_all, drop_more, length-append}
use Rattle.cgm_atom.specs.declared.constraints.Row.{Row}
use Rattle.cgm_atom.specs.Instance.{Instance, var_count}
use Rattle.cgm_encode.specs.declared.expressions.Expression.{Expression}
use Rattle.cgm_encode.specs.Building.{defining_rows, with_rows}

abbrev rows_of : List ℕ → List Expression → List Row
rows_of variables expressions = flat_map defining_rows (zip variables expressions)

pub with_more : (p : Instance) (xs ys : List Row) → with_rows (with_rows p xs) ys ≡ with_rows p (xs ++ ys)
with_more p xs ys = ap (λ (rows : List Row). record p { rows = rows }) (append_assoc p.rows xs ys)

pub with_none : (p : Instance) → with_rows p [] ≡ p
with_none p = ap (λ (rows : List Row). record p { rows = rows }) (append-nil p.rows)

-- the pairs from place i on are left
pub record AreRowsLeft (old : Instance) (variables : List ℕ) (expressions : List Expression) (i : ℕ) (new : Instance) : Type 0 where
  pub total : with_rows new (rows_of (drop i variables) (drop i expressions)) ≡ with_rows old (rows_of variables expressions)
  pub bounds : new.bounds ≡ old.bounds
  pub count : var_count new ≡ var_count old
  pub rows : length new.rows ≡ length old.rows + 2 * i

pub rows_first : (p : Instance) (variables : List ℕ) (expressions : List Expression) → AreRowsLeft p variables expressions 0 p
rows_first p variables expressions = record { total = refl; bounds = refl; count = refl; rows = omega arith }

here : (variables : List ℕ) (expressions : List Expression) (i v : ℕ) (e : Expression) → i < length variables → i < length expressions → v ≡ get_or variables i v → e ≡ get_or expressions i e → rows_of (drop i variables) (drop i expressions) ≡ defining_rows (v, e) ++ rows_of (drop (i + 1) variables) (drop (i + 1) expressions)
here variables expressions i v e in_variables in_expressions v_is e_is =
    ap (λ (vs : List ℕ). rows_of vs (drop i expressions)) (drop_more variables i v in_variables ∙ ap (λ (x : ℕ). x ∷ drop (i + 1) variables) (sym v_is))
    ∙ ap (λ (es : List Expression). rows_of (v ∷ drop (i + 1) variables) es) (drop_more expressions i e in_expressions ∙ ap (λ (x : Expression). x ∷ drop (i + 1) expressions) (sym e_is))

pub rows_more : (old p q : Instance) (variables : List ℕ) (expressions : List Expression) (i v : ℕ) (e : Expression) → i < length variables → i < length expressions → v ≡ get_or variables i v → e ≡ get_or expressions i e → AreRowsLeft old variables expressions i p → q ≡ with_rows p (defining_rows (v, e)) → AreRowsLeft old variables expressions (i + 1) q
rows_more old p q variables expressions i v e in_variables in_expressions v_is e_is far added =
    let more = rows_of (drop (i + 1) variables) (drop (i + 1) expressions) in
    let rows_are = far.rows in
    let longer = length-append p.rows (defining_rows (v, e)) in
    let next : AreRowsLeft old variables expressions (i + 1) (with_rows p (defining_rows (v, e))) = record {
      total = with_more p (defining_rows (v, e)) more
          ∙ ap (λ (rows : List Row). with_rows p rows) (sym (here variables expressions i v e in_variables in_expressions v_is e_is))
          ∙ far.total;
      bounds = far.bounds;
      count = far.count;
      rows = omega arith;
    } in
    subst (λ (n : Instance). AreRowsLeft old variables expressions (i + 1) n) (sym added) next

none_left : (variables : List ℕ) (expressions : List Expression) (i : ℕ) → length expressions ≤ i → rows_of (drop i variables) (drop i expressions) ≡ []
none_left variables expressions i past =
    ap (λ (es : List Expression). rows_of (drop i variables) es) (drop_all i expressions past) ∙ empty (drop i variables)
  where
    empty : (vs : List ℕ) → rows_of vs [] ≡ []
    empty [] = refl
    empty (v ∷ vs) = refl

pub rows_end : (old p : Instance) (variables : List ℕ) (expressions : List Expression) (i : ℕ) → length expressions ≤ i → AreRowsLeft old variables expressions i p → p ≡ with_rows old (rows_of variables expressions)
rows_end old p variables expressions i past far =
    sym (with_none p)
    ∙ ap (λ (rows : List Row). with_rows p rows) (sym (none_left variables expressions i past))
    ∙ far.total

-- the pair at place i
pub zip_here : {X : Type 0} (variables : List ℕ) (xs : List X) (i v : ℕ) (x : X) → i < length variables → i < length xs → v ≡ get_or variables i v → x ≡ get_or xs i x → zip (drop i variables) (drop i xs) ≡ (v, x) ∷ zip (drop (i + 1) variables) (drop (i + 1) xs)
zip_here {X} variables xs i v x in_variables in_xs v_is x_is =
    ap (λ (vs : List ℕ). zip vs (drop i xs)) (drop_more variables i v in_variables ∙ ap (λ (y : ℕ). y ∷ drop (i + 1) variables) (sym v_is))
    ∙ ap (λ (ys : List X). zip (v ∷ drop (i + 1) variables) ys) (drop_more xs i x in_xs ∙ ap (λ (y : X). y ∷ drop (i + 1) xs) (sym x_is))

-- the variables are those from n on
pub zipped : {X : Type 0} (n : ℕ) (xs : List X) → zip (range_with_len n (length xs)) xs ≡ enumerate_from n xs
zipped n [] = refl
zipped n (x ∷ xs) = ap (λ (rest : List _). (n, x) ∷ rest) (zipped (n + 1) xs)
