use Rattle.std.proofs.Common.{◌≡◌, ◌<◌, ◌++◌, ◌∷◌, [], List, ℕ, All, Contains, length, get_or, set, sym, ap, ◌∙◌, subst, arith}
use Rattle.std.proofs.lemmas.List.{length-set, get_or_read}
use Rattle.std.specs.Vec.{with_item}
use Rattle.cgm_model.specs.declared.graph.Graph.{Graph}
use Rattle.cgm_model.specs.Search.{IsMarked}
use Rattle.cgm_model.proofs.Targets.{IsIndexOf-kept, IsIndexOf-linked, Grows, Grows-set, has_new}
use Rattle.cgm_model.proofs.graph.link.Goals as goal

pub returns-clause-kept : goal.returns-clause-kept
returns-clause-kept c = λ rs h.
    let old = c.args.graph.now in
    let xs = old.by_target.items in
    let t = c.args.refinement.now.target in
    let new : Graph = record { by_target = with_item old.by_target t c.push.new.self; is_source = c.flag_each.new.flags; queue = old.queue; marks = old.marks } in
    let within : t < length xs = omega (arith, c.requires.known.target, h.targets) in
    let is : c.push.new.self ≡ get_or xs t [] ++ c.args.number ∷ [] = c.in_ok-push.ensures.ok ∙ ap (λ (ys : List ℕ). ys ++ c.args.number ∷ []) (get_or_read xs t c.index_mut.result.now within c.index_mut.ensures.value []) in
    IsIndexOf-kept rs old new
    (subst (λ ys. Grows xs (set xs t ys)) (sym is) (Grows-set xs t c.args.number within))
    c.flag_each.ensures.kept (omega (arith, h.targets, length-set xs t c.push.new.self)) (omega (arith, h.flags, c.flag_each.ensures.length)) h.queue h

pub returns-clause-linked : goal.returns-clause-linked
returns-clause-linked c = λ rs same h.
    let old = c.args.graph.now in
    let xs = old.by_target.items in
    let r = c.args.refinement.now in
    let new : Graph = record { by_target = with_item old.by_target r.target c.push.new.self; is_source = c.flag_each.new.flags; queue = old.queue; marks = old.marks } in
    let within : r.target < length xs = omega (arith, c.requires.known.target, h.targets) in
    let is : c.push.new.self ≡ get_or xs r.target [] ++ c.args.number ∷ [] = c.in_ok-push.ensures.ok ∙ ap (λ (ys : List ℕ). ys ++ c.args.number ∷ []) (get_or_read xs r.target c.index_mut.result.now within c.index_mut.ensures.value []) in
    IsIndexOf-linked rs r c.args.number new same
    (subst (λ ys. Contains (get_or (set xs r.target ys) r.target []) c.args.number) (sym is) (has_new xs r.target c.args.number within))
    (subst (λ ys. All (IsMarked c.flag_each.new.flags.items) ys) c.as_slice.ensures c.flag_each.ensures.flagged)
    (returns-clause-kept c rs h)
