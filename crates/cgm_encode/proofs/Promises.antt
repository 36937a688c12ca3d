-- What decoding and extending promise, by the laws of the problem of a model.
use Rattle.std.proofs.Common.{◌≡◌, ℕ, List, length, sym, ap, ◌∙◌, subst}
use Rattle.std.specs.Prelude.{ℤ}
use Rattle.cgm_atom.specs.Instance.{Instance, IsSolution, vector}
use Rattle.cgm_formula.specs.declared.assignment.Assignment.{Assignment}
use Rattle.cgm_model.specs.declared.lists.Lists.{Lists}
use Rattle.cgm_model.specs.WellFormed.{IsWellFormedModel}
use Rattle.cgm_evolve.specs.Pairs.{Pair}
use Rattle.cgm_obj.specs.Least.{Realizes}
use Rattle.cgm_obj.specs.Vector.{vector_of}
use Rattle.cgm_encode.specs.declared.answer.Encoded.{Encoded}
use Rattle.cgm_encode.specs.declared.answer.Found.{Found}
use Rattle.cgm_encode.specs.Assignments.{assignment_of, decoded, extension}
use Rattle.cgm_encode.specs.Decoding.{ForEncoded, IsDecoded, IsDecodedFor, IsDecodedFound, IsExtended}
use Rattle.cgm_encode.specs.Encoding.{IsEncodingOf}
use Rattle.cgm_encode.specs.Laws.{DecodesTo, ExtendsTo}
use Rattle.cgm_encode.specs.Problem.{problem_of}
use Rattle.cgm_encode.proofs.RuleLaws.{realizations_extend, solutions_decode}

counted : (m : Lists) (pairs : List Pair) (enc : Encoded) (values : List ℤ) → IsEncodingOf m pairs enc → assignment_of enc.elements enc.refinements enc.vars values ≡ decoded m values
unfolding decoded
counted m pairs enc values encoding =
    ap (λ (n : ℕ). assignment_of n enc.refinements enc.vars values) encoding.elements
    ∙ ap (λ (n : ℕ). assignment_of (length m.elements) n enc.vars values) encoding.refinements
    ∙ ap (λ (n : ℕ). assignment_of (length m.elements) (length m.refinements) n values) encoding.vars

decoded_for : (m : Lists) (pairs : List Pair) (enc : Encoded) (values : List ℤ) (a : Assignment) → a ≡ decoded m values → IsEncodingOf m pairs enc → DecodesTo m pairs values (decoded m values) → IsDecodedFor m pairs enc values a
decoded_for m pairs enc values a is encoding law = record {
  assignment = is;
  realizes = subst (λ (b : Assignment). Realizes m b) (sym is) law.realizes;
  vector = ap (λ (p : Instance). vector p values) encoding.problem ∙ law.vector ∙ ap (λ (b : Assignment). vector_of m pairs b) (sym is);
}

pub decoded_promise : (enc : Encoded) (values : List ℤ) (a : Assignment) → a ≡ assignment_of enc.elements enc.refinements enc.vars values → IsSolution enc.problem values → IsDecoded enc values a
unfolding IsDecoded
decoded_promise enc values a is solution =
    λ m pairs well encoding.
    decoded_for m pairs enc values a (is ∙ counted m pairs enc values encoding) encoding
    (solutions_decode m pairs values well (subst (λ (p : Instance). IsSolution p values) encoding.problem solution))

pub found_promise : (enc : Encoded) (values : List ℤ) (found : Found) → IsDecoded enc values found.assignment → found.vector ≡ vector enc.problem values → ForEncoded enc (λ m pairs. IsDecodedFound m pairs values found)
unfolding IsDecoded
found_promise enc values found is_decoded vector_is = λ m pairs well encoding.
    let for_model = is_decoded m pairs well encoding in
    record {
      assignment = for_model.assignment;
      realizes = for_model.realizes;
      vector = vector_is ∙ for_model.vector;
    }

extended_for : (m : Lists) (pairs : List Pair) (enc : Encoded) (a : Assignment) (values : List ℤ) → values ≡ extension m pairs a → IsEncodingOf m pairs enc → ExtendsTo m pairs a (extension m pairs a) → IsExtended m pairs enc a values
extended_for m pairs enc a values is encoding law = record {
  numbers = is;
  solution = subst (λ (p : Instance). IsSolution p values) (sym encoding.problem) (subst (λ (vs : List ℤ). IsSolution (problem_of m pairs) vs) (sym is) law.solution);
  assignment = ap (λ (vs : List ℤ). decoded m vs) is ∙ law.assignment;
  vector = ap (λ (p : Instance). vector p values) encoding.problem ∙ ap (λ (vs : List ℤ). vector (problem_of m pairs) vs) is ∙ law.vector;
}

pub extended_promise : (m : Lists) (pairs : List Pair) (enc : Encoded) (a : Assignment) (values : List ℤ) → ∥ IsWellFormedModel m ∥₁ → Realizes m a → IsEncodingOf m pairs enc → values ≡ extension m pairs a → IsExtended m pairs enc a values
extended_promise m pairs enc a values well realizes encoding is =
    extended_for m pairs enc a values is encoding (realizations_extend m pairs a well realizes)
