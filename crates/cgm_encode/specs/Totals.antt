-- Totals: number times variable over a list of shares, and a constant. Their terms, their values, their ranges in a box, and the rows that define a variable as one.
use Rattle.std.specs.Prelude.{ℕ, ◌==◌, cond, if◌then◌else◌, List, [], ◌∷◌, map, None, ℤ, pos, negsuc, ◌+ℤ◌, ◌*ℤ◌, neg_ℤ, int_lt}
use Rattle.std.specs.List.{range_with_len}
use Rattle.cgm_atom.specs.declared.constraints.Row.{Row}
use Rattle.cgm_atom.specs.declared.constraints.Var.{Var}
use Rattle.cgm_atom.specs.Bounds.{Bounds, lower_of, upper_of, value_of}
use Rattle.cgm_atom.specs.Narrowing.{greatest_activity}
use Rattle.cgm_enc_formula.specs.Definitions.{negative}
use Rattle.cgm_enc_formula.specs.Terms.{nonzero}
use Rattle.cgm_model.specs.Sums.{total_by}

-- a number for a variable
abbrev pub Share : Type 0
Share = ℤ × ℕ

pub record Total : Type 0 where
  pub shares : List Share
  pub constant : ℤ

-- number times variable, added up, and the constant
abbrev pub total_value : List ℤ → Total → ℤ
total_value values t = total_by (λ s. s.0 *ℤ value_of values s.1) t.shares +ℤ t.constant

-- the total with its sign changed
abbrev pub opposite_total : Total → Total
opposite_total t = record { shares = map (λ s. (neg_ℤ s.0, s.1)) t.shares; constant = neg_ℤ t.constant }

-- the numbers of all shares of variable x, added up
abbrev pub combined : List Share → ℕ → ℤ
combined shares x = total_by (λ s. if s.1 == x then s.0 else pos 0) shares

-- each of the first n variables with its combined number, where that isn't 0, ascending
abbrev pub combined_terms : ℕ → List Share → List (ℤ × Var)
combined_terms n shares = nonzero (map (λ x. (combined shares x, record { 0 = x })) (range_with_len 0 n))

-- ---- the range of a total

-- the least value of a coefficient times a variable
abbrev pub least_term : Bounds → ℤ → ℕ → ℤ
least_term b c x = cond (int_lt c (pos 0)) (c *ℤ upper_of b x) (c *ℤ lower_of b x)

abbrev pub least_activity : Bounds → List (ℤ × Var) → ℤ
least_activity b [] = pos 0
least_activity b (t ∷ terms) = least_term b t.0 t.1.0 +ℤ least_activity b terms

-- a least and a greatest value
abbrev pub Range : Type 0
Range = ℤ × ℤ

-- the least and the greatest value that the box allows a total over its first n variables
abbrev pub total_range : Bounds → ℕ → Total → Range
total_range b n t =
    let terms = combined_terms n t.shares in
    (least_activity b terms +ℤ t.constant, greatest_activity b terms +ℤ t.constant)

-- ---- the rows of a total

abbrev pub row_of : List (ℤ × Var) → ℤ → Row
row_of terms least = record { guard = None; terms = terms; least = least }

-- for the variable v, a total of the first n variables with the terms L and the constant d: `v - L >= d`, then `-v + L >= -d`
abbrev pub total_rows : ℕ → Total → ℕ → List Row
total_rows n t v =
    let terms = combined_terms n t.shares in
    row_of ((pos 1, record { 0 = v }) ∷ negative terms) t.constant
    ∷ row_of ((negsuc 0, record { 0 = v }) ∷ terms) (neg_ℤ t.constant)
    ∷ []
