-- The statements of lists in canonical order, each of which may come after those before it.
use Rattle.std.specs.Prelude.{List, [], ◌∷◌, ◌++◌, map}
use Rattle.cgm_model.specs.declared.lists.Lists.{Lists}
use Rattle.cgm_model.specs.declared.lists.Statement.{Statement}
use Rattle.cgm_model.specs.declared.lists.Statement.TheVariants as statements
use Rattle.cgm_model.specs.Lists.{added}
use Rattle.cgm_model.specs.Statement.{IsProperStatement, IsAllowed}

-- by group, each group in its order
abbrev pub statements_of : Lists → List Statement
statements_of m =
    map (λ e. statements.Element e) m.elements
    ++ (map (λ r. statements.Refine r) m.refinements
    ++ (map (λ v. statements.Variable v) m.vars
    ++ (map (λ x. statements.Sum x) m.sums
    ++ (map (λ e. statements.Contrib e) m.contribs
    ++ (map (λ e. statements.Conflict e) m.conflicts
    ++ (map (λ e. statements.Bind e) m.binds
    ++ (map (λ a. statements.Assert a) m.asserts
    ++ (map (λ v. statements.Value v) m.values
    ++ (map (λ w. statements.Reward w) m.rewards
    ++ (map (λ w. statements.Penalty w) m.penalties
    ++ (map (λ p. statements.Prefer p) m.prefers
    ++ (map (λ r. statements.Rule r) m.rules
    ++ (map (λ k. statements.Interest k) m.interests
    ++ map (λ o. statements.Objective o) m.objectives)))))))))))))

-- the lists after these statements
abbrev pub after : Lists → List Statement → Lists
after m [] = m
after m (s ∷ ss) = after (added m s) ss

-- each statement is proper and allowed after those before it
abbrev pub StatementsStandInOrder : Lists → List Statement → Type 0
StatementsStandInOrder m [] = Unit {0}
StatementsStandInOrder m (s ∷ ss) = IsProperStatement m s × IsAllowed m s × StatementsStandInOrder (added m s) ss
