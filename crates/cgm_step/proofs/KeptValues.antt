-- Narrowing keeps the values that meet what a hint names.
use Rattle.std.proofs.Common.{◌≡◌, List, subst, sym}
use Rattle.std.specs.Prelude.{ℤ, IfSome}
use Rattle.std.specs.declared.option.Option.{Option}
use Rattle.std.specs.declared.option.Option.TheVariants.{Some, None}
use Rattle.cgm_atom.specs.Bounds.{Bounds, IsWithin}
use Rattle.cgm_atom.specs.Laws.{IsLeft}
use Rattle.cgm_atom.specs.Constraints.{Constraint, left_by, left_by_named, of_clause, of_row, IsMetBy}
use Rattle.cgm_atom.proofs.Keeping.{within_left_by_clause, within_left_by_row}
use Rattle.cgm_atom.specs.declared.outcome.Narrowed.{Narrowed}
use Rattle.cgm_atom.specs.declared.outcome.Narrowed.TheVariants.{Same, Tighter, Conflict}
use Rattle.cgm_atom.specs.Outcome.{HasNoValues, IsNarrowing, KeepsValues}

left_kept : (b : Bounds) (c : Constraint) (values : List ℤ) → IsWithin b values → IsMetBy values c → IsLeft (left_by b c) values
left_kept b (of_clause c) values within h = within_left_by_clause b c values within h
left_kept b (of_row r) values within h = within_left_by_row b r values within h

named_kept : (b : Bounds) (there : Option Constraint) (values : List ℤ) → IsWithin b values → IfSome there (IsMetBy values) → IsLeft (left_by_named b there) values
named_kept b None values within h = within
named_kept b (Some c) values within h = left_kept b c values within h

kept : (left : Option Bounds) (old new : Bounds) (answer : Narrowed) (values : List ℤ) → IsNarrowing left old new answer → IsWithin old values → IsLeft left values → IsWithin new values
kept left old new Same values h within far = subst (λ (b : Bounds). IsWithin b values) (sym h.1) within
kept left old new Tighter values h within far = subst (λ (o : Option Bounds). IsLeft o values) h.0 far
kept left old new Conflict values h within far = subst (λ (b : Bounds). IsWithin b values) (sym h.1) within

narrowing_keeps : (there : Option Constraint) (old new : Bounds) (answer : Narrowed) → IsNarrowing (left_by_named old there) old new answer → KeepsValues there old new
narrowing_keeps there old new answer h values within met =
    kept (left_by_named old there) old new answer values h within (named_kept old there values within met)

conflict_has_none : (there : Option Constraint) (old new : Bounds) (answer : Narrowed) → IsNarrowing (left_by_named old there) old new answer → answer ≡ Conflict → HasNoValues there old
conflict_has_none there old new answer h e values within met =
    let none = subst (λ (a : Narrowed). IsNarrowing (left_by_named old there) old new a) e h in
    subst (λ (o : Option Bounds). IsLeft o values) none.0 (named_kept old there values within met)

of_found : (there : Option Constraint) (c : Constraint) (old new : Bounds) (answer : Narrowed) → there ≡ Some c → IsNarrowing (left_by old c) old new answer → IsNarrowing (left_by_named old there) old new answer
of_found there c old new answer e h =
    subst (λ (o : Option Constraint). IsNarrowing (left_by_named old o) old new answer) (sym e) h

-- the same, where the hint names this constraint
pub found_keeps : (there : Option Constraint) (c : Constraint) (old new : Bounds) (answer : Narrowed) → there ≡ Some c → IsNarrowing (left_by old c) old new answer → KeepsValues there old new
found_keeps there c old new answer e h = narrowing_keeps there old new answer (of_found there c old new answer e h)

pub found_conflict : (there : Option Constraint) (c : Constraint) (old new : Bounds) (answer : Narrowed) → there ≡ Some c → IsNarrowing (left_by old c) old new answer → answer ≡ Conflict → HasNoValues there old
found_conflict there c old new answer e h = conflict_has_none there old new answer (of_found there c old new answer e h)
