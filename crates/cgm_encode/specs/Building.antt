-- Variables and rows that are added to a problem, and expressions: the terms and the constant of a total.
use Rattle.std.specs.Prelude.{ℕ, ◌+◌, ◌^◌, ◌<◌, ◌≤◌, List, [], ◌∷◌, ◌++◌, map, ℤ, pos, negsuc, ◌+ℤ◌, ◌≤ℤ◌, neg_ℤ, unsigned_abs, sum_by}
use Rattle.std.specs.List.{All}
use Rattle.std.specs.BTreeMap.{BTreeMap, get}
use Rattle.std.specs.Option.{unwrap_or}
use Rattle.std.specs.Ordering.{nat_cmp}
use Rattle.cgm_atom.specs.declared.constraints.Row.{Row}
use Rattle.cgm_atom.specs.Bounds.{Bounds}
use Rattle.cgm_atom.specs.Instance.{Instance, var_count}
use Rattle.cgm_atom.specs.Limits.{AreTermsOf, IsBound, max_bound, max_measure, measure}
use Rattle.cgm_atom.specs.Narrowing.{greatest_activity}
use Rattle.cgm_enc_formula.specs.Definitions.{negative}
use Rattle.cgm_encode.specs.declared.expressions.Expression.{Expression}
use Rattle.cgm_encode.specs.Totals.{Range, Share, Total, combined_terms, least_activity, row_of}

-- ---- additions

-- the problem with a variable more for each range
abbrev pub with_ranges : Instance → List Range → Instance
with_ranges p ranges = record p {
  bounds = record {
    lower = p.bounds.lower ++ map (λ r. r.0) ranges;
    upper = p.bounds.upper ++ map (λ r. r.1) ranges;
  };
}

-- the problem with these rows more
abbrev pub with_rows : Instance → List Row → Instance
with_rows p rows = record p { rows = p.rows ++ rows }

-- ---- numbers by variable

-- the number of variable x in a table; 0 for one that isn't there
abbrev pub number_at : BTreeMap ℕ ℤ → ℕ → ℤ
number_at numbers x = unwrap_or (get nat_cmp numbers x) (pos 0)

-- the sizes of the numbers of shares, added up
abbrev pub share_size : List Share → ℕ
share_size shares = sum_by (λ s. unsigned_abs s.0) shares

-- ---- expressions

-- the terms of a total of the first n variables, and its constant
abbrev pub expression_of : ℕ → Total → Expression
expression_of n t = record { terms = combined_terms n t.shares; constant = t.constant }

-- the least and the greatest value that the box allows an expression
abbrev pub expression_range : Bounds → Expression → Range
expression_range b e = (least_activity b e.terms +ℤ e.constant, greatest_activity b e.terms +ℤ e.constant)

-- both ends of the range are within the limit of a bound
abbrev pub AreBounds : Range → Type 0
AreBounds r = IsBound r.0 × IsBound r.1

-- the measure of the expression's terms and the size of its constant are together within the limit of a bound
abbrev pub HasBoundSize : Bounds → Expression → Type 0
HasBoundSize b e = measure b e.terms + unsigned_abs e.constant ≤ max_bound

-- for the variable v and the expression L + d: `v - L >= d`, then `-v + L >= -d`
abbrev pub defining_rows : ℕ × Expression → List Row
defining_rows e =
    row_of ((pos 1, record { 0 = e.0 }) ∷ negative e.1.terms) e.1.constant
    ∷ row_of ((negsuc 0, record { 0 = e.0 }) ∷ e.1.terms) (neg_ℤ e.1.constant)
    ∷ []

-- the expression has terms of the problem, its numbers are within their limits, and its range is in order
pub record IsMeasured (p : Instance) (e : Expression) : Type 0 where
  pub terms : AreTermsOf (var_count p) e.terms
  pub coefficients : All (λ t. unsigned_abs t.0 < 2 ^ 63) e.terms
  pub measure_limit : measure p.bounds e.terms ≤ max_measure
  pub constant : unsigned_abs e.constant ≤ max_measure
  pub size : HasBoundSize p.bounds e
  pub ordered : (expression_range p.bounds e).0 ≤ℤ (expression_range p.bounds e).1

-- the expression can define a variable behind the first n: its terms are those of the first n variables, and its sign can be changed
pub record IsDefining (n : ℕ) (e : Expression) : Type 0 where
  pub terms : AreTermsOf n e.terms
  pub coefficients : All (λ t. unsigned_abs t.0 < 2 ^ 63) e.terms
  pub constant : unsigned_abs e.constant < 2 ^ 63
