use Rattle.std.proofs.Common.{◌≡◌, ℕ, ◌++◌, ◌∷◌, [], List, Some, cond, is_ok, length, ap, subst}
use Rattle.std.specs.Str.{bytes_eq}
use Rattle.cgm_model.specs.declared.aids.Aids.{Aids}
use Rattle.cgm_model.specs.declared.lists.Refinement.{Refinement}
use Rattle.cgm_model.specs.declared.lists.Thing.TheVariants as things
use Rattle.cgm_model.specs.Keeping.{AreFor}
use Rattle.cgm_model.specs.NameTable.{thing_found}
use Rattle.cgm_model.specs.TargetIndex.{IsTargetIndexOf}
use Rattle.cgm_model.proofs.Aiding.{AreFor-graph, AreFor-names, AreFor-declared, AreFor-refinement, after_push}
use Rattle.cgm_model.proofs.Fresh.{fresh_refinement}
use Rattle.cgm_model.proofs.builder.push_refinement.Goals as goal

pub returns-in_err-link-clause-aids : goal.returns-in_err-link-clause-aids
returns-in_err-link-clause-aids c =
    AreFor-graph c.args.lists.now c.args.aids.now c.link.new.graph c.link.ensures.kept c.link.ensures.room c.requires.aids

pub returns-in_err-declare-clause-aids : goal.returns-in_err-declare-clause-aids
returns-in_err-declare-clause-aids c =
    let linked : Aids = record c.args.aids.now { graph = c.link.new.graph } in
    let h = AreFor-graph c.args.lists.now c.args.aids.now c.link.new.graph c.link.ensures.kept c.link.ensures.room c.requires.aids in
    AreFor-names c.args.lists.now linked c.declare.new.names c.in_err-declare.ensures.others h

pub returns-clause-aids : goal.returns-clause-aids
returns-clause-aids c =
    let m = c.args.lists.now in
    let r = c.args.refinement in
    let old : Aids = c.args.aids.now in
    let linked : Aids = record old { graph = c.link.new.graph } in
    let new : Aids = record linked { names = c.declare.new.names } in
    let h = AreFor-graph m old c.link.new.graph c.link.ensures.kept c.link.ensures.room c.requires.aids in
    let S : List ℕ → ℕ → Type 0 = λ n k. (q : List ℕ) → thing_found c.declare.new.names q ≡ cond (bytes_eq q n) (Some (things.Refinement k)) (thing_found old.names q) in
    let set : S r.name (length m.refinements) = subst (λ n. S n (length m.refinements)) c.as_slice-2.ensures (subst (λ (xs : List Refinement). S c.as_slice-2.result.now (length xs)) c.as_slice.ensures c.in_ok-declare.ensures.set) in
    let fresh = fresh_refinement m r c.requires.allowed in
    let all : IsTargetIndexOf (m.refinements ++ r ∷ []) c.link.new.graph = c.in_ok-link.ensures.linked m.refinements (ap (λ (xs : List Refinement). length xs) c.as_slice.ensures) c.requires.aids.graph in
    let before = AreFor-declared m r.name (things.Refinement (length m.refinements)) linked c.declare.new.names set fresh h in
    let after = AreFor-refinement m r linked c.declare.new.names set fresh all h in
    after_push (λ (xs : List Refinement). AreFor (record m { refinements = xs }) new) (is_ok c.push.result) m.refinements r c.push.new.self c.push.ensures.items before after
