-- What is told of a closed log.
use Rattle.std.proofs.Common.{◌≡◌, List, refl, sym, subst}
use Rattle.std.specs.declared.option.Option.{Option}
use Rattle.std.specs.declared.option.Option.TheVariants.{None, Some}
use Rattle.cgm_atom.specs.declared.entries.Entry.{Entry}
use Rattle.cgm_atom.specs.Acceptance.{IsClosed}
use Rattle.cgm_crew.specs.declared.crews.CrewEnd.{CrewEnd}
use Rattle.cgm_encode.specs.declared.answer.Encoded.{Encoded}
use Rattle.cgm_encode.specs.declared.answer.Found.{Found}
use Rattle.cgm_trail.specs.TrailState.{TrailState}
use Rattle.cgm_solve.specs.Answers.{IsLastBestOf}
use Rattle.cgm_solve.specs.Runs.{IsToldOf, closed_answer}

pub told_closed : (encoded : Encoded) (e : CrewEnd) (before : List TrailState) (best : Option Found) (entries : List Entry) → entries ≡ e.log.entries → IsClosed e.log.entries → IsLastBestOf encoded e.log.entries best → IsToldOf encoded e before before (closed_answer best entries)
told_closed encoded e before None entries same closed best_is = (
  same,
  subst (λ (es : List Entry). IsClosed es) (sym same) closed,
  subst (λ (es : List Entry). IsLastBestOf encoded es None) (sym same) best_is,
  refl,
)
told_closed encoded e before (Some found) entries same closed best_is = (
  same,
  subst (λ (es : List Entry). IsClosed es) (sym same) closed,
  subst (λ (es : List Entry). IsLastBestOf encoded es (Some found)) (sym same) best_is,
  refl,
)
