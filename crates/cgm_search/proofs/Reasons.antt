-- What a search keeps of its trail when the log grows and when moves are made.
use Rattle.std.proofs.Common.{◌≡◌, ◌+◌, false, cond, List, [], ◌∷◌, ◌++◌, refl, ap}
use Rattle.cgm_atom.specs.declared.entries.Entry.{Entry}
use Rattle.cgm_atom.specs.declared.entries.Hint.{Hint}
use Rattle.cgm_atom.specs.Bounds.{Bounds}
use Rattle.cgm_atom.specs.Constraints.{Constraint}
use Rattle.cgm_atom.specs.Instance.{Instance}
use Rattle.cgm_atom.specs.LogState.{state_of}
use Rattle.cgm_atom.specs.Narrowing.{made_true}
use Rattle.cgm_search.specs.Storing.{IsSeenName}
use Rattle.cgm_search.proofs.Keeping.{seen_longer}
use Rattle.cgm_trail.specs.declared.changes.Change.{Change}
use Rattle.cgm_trail.specs.Steps.{AreReasoned, AreSteps}
use Rattle.cgm_trail.specs.TrailState.{is_decision, level_of}
use Rattle.cgm_trail.proofs.Propagating.{reasoned_by_more}

-- reasons stay in a longer log
pub reasons_longer : (p : Instance) (log more : List Entry) (b : Bounds) (changes : List Change) → AreReasoned (IsSeenName p (state_of log)) b changes → AreReasoned (IsSeenName p (state_of (log ++ more))) b changes
reasons_longer p log more b changes h =
    reasoned_by_more (IsSeenName p (state_of log)) (IsSeenName p (state_of (log ++ more))) b changes
    (λ (by : Hint) (k : Constraint) (named : IsSeenName p (state_of log) by k). seen_longer p log more by k named) h

-- steps of propagation open no level
pub level_of-steps : (Names : Hint → Constraint → Type 0) (b : Bounds) (changes added : List Change) → AreSteps Names b added → level_of (changes ++ added) ≡ level_of changes
level_of-steps Names b [] [] h = refl
level_of-steps Names b [] (c ∷ added) h =
    let by : is_decision c ≡ false = rw h.0.reason refl in
    rw by (level_of-steps Names (made_true b c.atom) [] added h.1)
level_of-steps Names b (x ∷ changes) added h =
    ap (λ n. cond (is_decision x) (n + 1) n) (level_of-steps Names b changes added h)
