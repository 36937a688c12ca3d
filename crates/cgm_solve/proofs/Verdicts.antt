-- What the verdict of the checker shows of the model, whatever model the problem is the encoding of.
use Rattle.std.proofs.Common.{◌≡◌, List, sym, subst}
use Rattle.std.specs.Prelude.{ℤ, IsSomeAnd}
use Rattle.std.specs.declared.option.Option.{Option}
use Rattle.std.specs.declared.option.Option.TheVariants.{Some}
use Rattle.cgm_atom.specs.declared.entries.Entry.{Entry}
use Rattle.cgm_atom.specs.Acceptance.{IsAccepted}
use Rattle.cgm_atom.specs.Bounds.{AreProperBounds}
use Rattle.cgm_atom.specs.Instance.{Instance}
use Rattle.cgm_check.specs.declared.Verdict.TheVariants.{Least, NoSolution}
use Rattle.cgm_check.specs.Verdicts.{IsVerdictOf}
use Rattle.cgm_encode.specs.declared.answer.Answer.TheVariants.{Realized, Unrealizable}
use Rattle.cgm_encode.specs.declared.answer.Encoded.{Encoded}
use Rattle.cgm_encode.specs.declared.answer.Found.{Found}
use Rattle.cgm_encode.specs.Decoding.{ForEncoded, IsDecodedFound}
use Rattle.cgm_solve.specs.Answers.{IsShown}
use Rattle.cgm_solve.proofs.Showing.{shows_realized, shows_unrealizable}

proper_for : (p q : Instance) → p ≡ q → AreProperBounds p.bounds → AreProperBounds q.bounds
proper_for p q same proper = subst (λ (r : Instance). AreProperBounds r.bounds) same proper

accepted_for : (p q : Instance) (entries : List Entry) → p ≡ q → IsAccepted p entries → IsAccepted q entries
accepted_for p q entries same accepted = subst (λ (r : Instance). IsAccepted r entries) same accepted

pub shown_realized : (encoded : Encoded) (entries : List Entry) (values : List ℤ) (found : Found) (own : List Entry) → AreProperBounds encoded.problem.bounds → IsVerdictOf encoded.problem entries (Least values) → ForEncoded encoded (λ m pairs. IsDecodedFound m pairs values found) → own ≡ entries → ForEncoded encoded (λ m pairs. IsShown m pairs entries (Realized found own))
shown_realized encoded entries values found own proper verdict is_found same = λ m pairs well_formed encoding. (
  same,
  shows_realized m pairs entries found well_formed (proper_for encoded.problem _ encoding.problem proper) (accepted_for encoded.problem _ entries encoding.problem verdict.0) verdict.1
      (subst (λ (o : Option (List ℤ)). IsSomeAnd o (λ v. IsDecodedFound m pairs v found)) (sym verdict.2) (is_found m pairs well_formed encoding)),
)

pub shown_unrealizable : (encoded : Encoded) (entries own : List Entry) → AreProperBounds encoded.problem.bounds → IsVerdictOf encoded.problem entries NoSolution → own ≡ entries → ForEncoded encoded (λ m pairs. IsShown m pairs entries (Unrealizable own))
shown_unrealizable encoded entries own proper verdict same = λ m pairs well_formed encoding.
    (same, shows_unrealizable m pairs entries well_formed (proper_for encoded.problem _ encoding.problem proper) (accepted_for encoded.problem _ entries encoding.problem verdict.0) verdict.1 verdict.2)
