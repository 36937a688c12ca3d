use Rattle.std.proofs.Common.{◌++◌, ◌∷◌, [], ◌↔◌, IsTrue, List, sym, subst}
use Rattle.cgm_model.specs.declared.lists.Refinement.{Refinement}
use Rattle.cgm_model.specs.declared.lists.Statement.{Statement}
use Rattle.cgm_model.specs.Graph.{IsAcyclic}
use Rattle.cgm_model.specs.Lists.{added}
use Rattle.cgm_model.proofs.Aiding.{AreFor-graph}
use Rattle.cgm_model.proofs.builder.stays_acyclic.Goals as goal

pub returns-in-Refine-clause-answer : goal.returns-in-Refine-clause-answer
returns-in-Refine-clause-answer c =
    let P : Statement → Type 0 = λ s. IsTrue c.stays_acyclic.result ↔ IsAcyclic (added c.args.lists.now s).refinements in
    let Q : List Refinement → Type 0 = λ rs. IsTrue c.stays_acyclic.result ↔ IsAcyclic (rs ++ c.in-Refine.r ∷ []) in
    subst P (sym c.in-Refine.is) (subst Q c.as_slice.ensures c.stays_acyclic.ensures.answer)

pub returns-in-Refine-clause-aids : goal.returns-in-Refine-clause-aids
returns-in-Refine-clause-aids c =
    AreFor-graph c.args.lists.now c.args.aids.now c.stays_acyclic.new.graph c.stays_acyclic.ensures.kept c.stays_acyclic.ensures.room c.requires.aids
