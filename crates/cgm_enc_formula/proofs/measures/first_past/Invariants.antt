use Rattle.std.proofs.Common.{drop}
use Rattle.cgm_model.specs.Model.{lists_of}
use Rattle.cgm_model.proofs.Places.{Settles}
use Rattle.cgm_enc_formula.specs.Measures.{IsWithinMeasure}
use Rattle.cgm_enc_formula.proofs.measures.first_past.Given as goal

abbrev pub invariant-loop-number : goal.invariant-loop-number
invariant-loop-number l =
    Settles (IsWithinMeasure (lists_of l.model) l.builder.bounds) l.rules (drop l.number l.rules) l.number
