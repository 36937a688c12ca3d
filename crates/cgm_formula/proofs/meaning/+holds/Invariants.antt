use Rattle.std.proofs.Common.{◌≡◌, drop}
use Rattle.std.specs.List.{list_all, list_any}
use Rattle.cgm_formula.specs.Reading.{name_in, number_in}
use Rattle.cgm_formula.specs.Truth.{truth}
use Rattle.cgm_formula.proofs.meaning.+holds.Given as goal

abbrev pub invariant-all_hold-loop-part : goal.invariant-all_hold-loop-part
invariant-all_hold-loop-part l =
    let says = truth (name_in l.assignment) (number_in l.assignment l.sums) in
    list_all says (drop l.part-index l.parts) ≡ list_all says l.parts

abbrev pub invariant-some_holds-loop-part : goal.invariant-some_holds-loop-part
invariant-some_holds-loop-part l =
    let says = truth (name_in l.assignment) (number_in l.assignment l.sums) in
    list_any says (drop l.part-index l.parts) ≡ list_any says l.parts
