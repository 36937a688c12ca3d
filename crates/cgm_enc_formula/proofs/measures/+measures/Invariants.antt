use Rattle.std.proofs.Common.{◌≡◌, drop}
use Rattle.std.specs.List.{list_all}
use Rattle.cgm_model.specs.Model.{lists_of}
use Rattle.cgm_enc_formula.specs.Measures.{has_small_measures}
use Rattle.cgm_enc_formula.proofs.measures.+measures.Given as goal

abbrev pub invariant-have_small_measures-loop-part : goal.invariant-have_small_measures-loop-part
invariant-have_small_measures-loop-part l =
    let small = has_small_measures (lists_of l.model) l.builder.bounds in
    list_all small (drop l.part-index l.parts) ≡ list_all small l.parts
