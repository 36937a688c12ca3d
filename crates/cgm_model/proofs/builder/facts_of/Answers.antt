use Rattle.std.proofs.Common.{All, List, get_or, map, subst, sym, arith}
use Rattle.std.proofs.lemmas.List.{length-map}
use Rattle.std.proofs.lemmas.Option.{slice_get_within}
use Rattle.cgm_model.specs.declared.lists.Element.{Element}
use Rattle.cgm_model.specs.declared.lists.ElementKind.TheVariants as kinds
use Rattle.cgm_model.specs.declared.lists.Refinement.{Refinement}
use Rattle.cgm_model.specs.WellFormed.{IsRefinement}
use Rattle.cgm_model.proofs.builder.facts_of.Goals as goal

pub of-requires-clause-known : goal.of-requires-clause-known
of-requires-clause-known c = λ k d l.
    let m = c.args.lists.now in
    let each = subst (λ (rs : List Refinement). All (IsRefinement m) rs) (sym c.as_slice.ensures) c.requires.well_formed.refinements in
    let own : IsRefinement m (get_or c.as_slice.result.now k d) = each k d l in
    let room = c.requires.aids.room.graph in
    let within = slice_get_within (map (λ (e : Element). e.kind) m.elements) (get_or c.as_slice.result.now k d).target kinds.Goal own.target in
    let same = length-map m.elements (λ (e : Element). e.kind) in
    record {
      target = omega (arith, within, same, room);
      sources = λ j e n. omega (arith, own.known j e n, room);
    }
