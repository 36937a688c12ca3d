use Rattle.std.proofs.Common.{◌≡◌, ℕ, ◌+◌, ◌<◌, false, List, [], ◌∷◌, ◌++◌, length, get_or, map, take, of_z, to_z, w64, sym, ap, ◌∙◌, rules}
use Rattle.std.specs.Prelude.{ℤ}
use Rattle.std.proofs.lemmas.List.{map_more, take_all}
use Rattle.cgm_model.specs.declared.lists.Objective.{Objective}
use Rattle.cgm_model.specs.declared.lists.Quantity.TheVariants as quantities
use Rattle.cgm_model.specs.Model.{lists_of}
use Rattle.cgm_obj.specs.Vector.{objective_number, vector_of}
use Rattle.cgm_obj.proofs.vectors.vector.Goals as goal

one_more : (by : Objective → ℤ) (items : List Objective) (i : ℕ) (none : Objective) (old new : List ℤ) (number : ℤ) → i < length items → old ≡ map by (take i items) → number ≡ by (get_or items i none) → new ≡ old ++ number ∷ [] → new ≡ map by (take (i + 1) items)
one_more by items i none old new number h so is pushed =
    pushed ∙ ap (λ (ns : List ℤ). ns ++ number ∷ []) so ∙ ap (λ (n : ℤ). map by (take i items) ++ n ∷ []) is ∙ sym (map_more by items i none h)

pub loop-o-preserved : goal.loop-o-preserved
loop-o-preserved c =
    let by = objective_number (lists_of c.args.model.now) c.args.earlier.now.pairs c.args.assignment.now in
    let none : Objective = record { max = false; of = quantities.Var 0 } in
    let number = to_z w64 (of_z w64 c.objective_number.result) in
    let passed : number ≡ c.objective_number.result = search rules in
    one_more by c.as_slice-o-items.result.now c.loop-o.o-index none c.loop-o.numbers.items c.push.new.self.items number
    c.loop-o-test.true c.loop-o.invariant (passed ∙ c.objective_number.ensures) c.in_ok-push.ensures.items

pub returns : goal.returns
unfolding vector_of
returns c =
    let all = take_all c.loop-o.o-index c.as_slice-o-items.result.now c.loop-o-test.false ∙ c.as_slice-o-items.ensures in
    c.loop-o.invariant ∙ ap (λ (os : List Objective). map (objective_number (lists_of c.args.model.now) c.args.earlier.now.pairs c.args.assignment.now) os) all
