-- What it is to be the encoding of a model and an earlier realization, and what encoding answers.
use Rattle.std.specs.Prelude.{◌≡◌, List, length, Result, Ok, Err}
use Rattle.cgm_atom.specs.Bounds.{Bounds}
use Rattle.cgm_model.specs.declared.lists.Lists.{Lists}
use Rattle.cgm_base.specs.Place.{Each, FirstFails}
use Rattle.cgm_evolve.specs.Pairs.{Pair}
use Rattle.cgm_enc_formula.specs.declared.stop.EncodeStop.{EncodeStop}
use Rattle.cgm_enc_formula.specs.declared.stop.EncodeStop.TheVariants as stops
use Rattle.cgm_enc_formula.specs.Measures.{IsWithinMeasure}
use Rattle.cgm_encode.specs.declared.answer.Encoded.{Encoded}
use Rattle.cgm_encode.specs.Problem.{box_of_problem, number_ranges, problem_of}

-- the problem, and the counts of what its first variables stand for
pub record IsEncodingOf (m : Lists) (pairs : List Pair) (enc : Encoded) : Type 0 where
  pub problem : enc.problem ≡ problem_of m pairs
  pub elements : enc.elements ≡ length m.elements
  pub refinements : enc.refinements ≡ length m.refinements
  pub vars : enc.vars ≡ length m.vars

-- the bounds by which comparisons are measured
abbrev pub number_box : Lists → Bounds
number_box m = box_of_problem (number_ranges m)

-- the measure of each comparison is within the limit
abbrev pub IsEncodable : Lists → Type 0
IsEncodable m = Each (IsWithinMeasure m (number_box m)) m.rules

-- the encoding; or the first rule with a comparison whose measure passes the limit; or want of memory
abbrev pub IsEncodeAnswer : Lists → List Pair → Result Encoded EncodeStop → Type 0
IsEncodeAnswer m pairs (Ok enc) = IsEncodable m × IsEncodingOf m pairs enc
IsEncodeAnswer m pairs (Err (stops.Row rule)) = FirstFails (IsWithinMeasure m (number_box m)) m.rules rule
IsEncodeAnswer m pairs (Err stops.Memory) = Unit {0}
