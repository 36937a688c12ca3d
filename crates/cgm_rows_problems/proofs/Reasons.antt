-- Trails that grow by a change with a reason, and what a hint of the problem names.
use Rattle.std.proofs.Common.{◌≡◌, List, [], ◌∷◌, ap, refl, sym, subst, ◌∙◌, IsTrue}
use Rattle.std.specs.Prelude.{Option, Some, None}
use Rattle.cgm_atom.specs.declared.constraints.Atom.{Atom}
use Rattle.cgm_atom.specs.declared.entries.Hint.{Hint}
use Rattle.cgm_atom.specs.declared.entries.Hint.TheVariants as hint
use Rattle.cgm_atom.specs.Bounds.{Bounds}
use Rattle.cgm_atom.specs.Constraints.{Constraint, left_by, left_by_named}
use Rattle.cgm_atom.specs.Instance.{Instance}
use Rattle.cgm_atom.specs.LogState.{LogState, named}
use Rattle.cgm_atom.specs.Narrowing.{is_true_in, made_true}
use Rattle.cgm_atom.specs.Relaxing.{bound_of}
use Rattle.cgm_learn.specs.Learning.{IsConflictIn, IsNameAfter}
use Rattle.cgm_trail.specs.declared.changes.Reason.TheVariants.{By}
use Rattle.cgm_trail.specs.Steps.{AreReasoned}
use Rattle.cgm_trail.specs.TrailState.{TrailState, box_of, change_of, decided, trail_started, tightened}
use Rattle.cgm_trail.proofs.Propagating.{AreReasoned-append, reasoned_decided}
use Rattle.cgm_rows_problems.specs.Driving.{HasName, IsDriven, IsGivenBy, IsOfProblem}

pub driven_at_first : (p : Instance) (s : LogState) (t : TrailState) → t ≡ trail_started p → IsDriven p s t
driven_at_first p s t e = rw e (record { problem = refl; reasons = tt })

-- the reasons, over the bounds of the trail's own problem
reasons_within : (p : Instance) (s : LogState) (t : TrailState) → IsDriven p s t → AreReasoned (IsNameAfter p s []) t.problem.bounds t.changes
reasons_within p s t h = subst (λ (q : Instance). AreReasoned (IsNameAfter p s []) q.bounds t.changes) (sym h.problem) h.reasons

pub driven_by_decision : (p : Instance) (s : LogState) (t t' : TrailState) (a : Atom) → IsDriven p s t → t' ≡ decided t a → IsDriven p s t'
driven_by_decision p s t t' a h e = rw e (record {
  problem = h.problem;
  reasons =
      subst (λ (q : Instance). AreReasoned (IsNameAfter p s []) q.bounds (decided t a).changes) h.problem
      (reasoned_decided (IsNameAfter p s []) t a (reasons_within p s t h));
})

pub driven_by_hint : (p : Instance) (s : LogState) (t t' : TrailState) (a : Atom) (by : Hint) → IsDriven p s t → IsGivenBy p s (box_of t) by a → t' ≡ tightened t a by → IsDriven p s t'
driven_by_hint p s t t' a by h g e = rw e (record {
  problem = h.problem;
  reasons =
      subst (λ (q : Instance). AreReasoned (IsNameAfter p s []) q.bounds (tightened t a by).changes) h.problem
      (AreReasoned-append (IsNameAfter p s []) t.problem.bounds t.changes (change_of (box_of t) a (By by) ∷ [])
      (reasons_within p s t h) (g, tt));
})

pub name_of_problem : (p : Instance) (s : LogState) (h : Hint) (k : Constraint) → IsOfProblem h → named p s h ≡ Some k → HasName p s h
name_of_problem p s (hint.Clause n) k o e = (k, (tt, e), e)
name_of_problem p s (hint.Row n) k o e = (k, (tt, e), e)
name_of_problem p s (hint.Entry place) k o e = elim o [ ]
name_of_problem p s (hint.Own i) k o e = elim o [ ]
name_of_problem p s (hint.Cut ordinal part) k o e = elim o [ ]

pub given_by_name : (p : Instance) (s : LogState) (b left made : Bounds) (h : Hint) (a : Atom) → HasName p s h → left_by_named b (named p s h) ≡ Some left → made ≡ made_true b a → IsTrue (is_true_in left a) → bound_of left a ≡ bound_of made a → IsGivenBy p s b h a
given_by_name p s b left made h a name e same met bound =
    let after : left_by b name.0 ≡ Some left = subst (λ o. left_by_named b o ≡ Some left) name.2 e in
    (name.0, name.1, record { cause = rw after met; exact = rw after (bound ∙ ap (λ (q : Bounds). bound_of q a) same) })

pub conflict_by_name : (p : Instance) (s : LogState) (b : Bounds) (h : Hint) → HasName p s h → left_by_named b (named p s h) ≡ None → IsConflictIn p s [] b h
conflict_by_name p s b h name e = (name.0, name.1, subst (λ o. left_by_named b o ≡ None) name.2 e)
