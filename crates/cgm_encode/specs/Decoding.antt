-- What decoding and extending promise for every model whose encoding it is.
use Rattle.std.specs.Prelude.{◌≡◌, List, ℤ}
use Rattle.cgm_atom.specs.Instance.{IsSolution, vector}
use Rattle.cgm_formula.specs.declared.assignment.Assignment.{Assignment}
use Rattle.cgm_model.specs.declared.lists.Lists.{Lists}
use Rattle.cgm_model.specs.WellFormed.{IsWellFormedModel}
use Rattle.cgm_evolve.specs.Pairs.{Pair}
use Rattle.cgm_obj.specs.Least.{Realizes}
use Rattle.cgm_obj.specs.Vector.{vector_of}
use Rattle.cgm_encode.specs.declared.answer.Encoded.{Encoded}
use Rattle.cgm_encode.specs.declared.answer.Found.{Found}
use Rattle.cgm_encode.specs.Assignments.{decoded, extension}
use Rattle.cgm_encode.specs.Encoding.{IsEncodingOf}

-- a fact of each well-formed model and earlier realization of which this is the encoding
abbrev pub ForEncoded : Encoded → (Lists → List Pair → Type 0) → Type 0
ForEncoded enc P = (m : Lists) (pairs : List Pair) → ∥ IsWellFormedModel m ∥₁ → IsEncodingOf m pairs enc → P m pairs

-- the assignment is the one that the values stand for, a realization, and the values of the objectives are its vector
pub record IsDecodedFor (m : Lists) (pairs : List Pair) (enc : Encoded) (values : List ℤ) (a : Assignment) : Type 0 where
  pub assignment : a ≡ decoded m values
  pub realizes : Realizes m a
  pub vector : vector enc.problem values ≡ vector_of m pairs a

-- the same for every model and earlier realization whose encoding this is
unfoldable pub IsDecoded : Encoded → List ℤ → Assignment → Type 0
IsDecoded enc values a = ForEncoded enc (λ m pairs. IsDecodedFor m pairs enc values a)

-- what is found is the assignment that the values stand for, a realization, with its vector
pub record IsDecodedFound (m : Lists) (pairs : List Pair) (values : List ℤ) (found : Found) : Type 0 where
  pub assignment : found.assignment ≡ decoded m values
  pub realizes : Realizes m found.assignment
  pub vector : found.vector ≡ vector_of m pairs found.assignment

-- the values are those of the realization: a solution that decodes to it, with its vector
pub record IsExtended (m : Lists) (pairs : List Pair) (enc : Encoded) (a : Assignment) (values : List ℤ) : Type 0 where
  pub numbers : values ≡ extension m pairs a
  pub solution : IsSolution enc.problem values
  pub assignment : decoded m values ≡ a
  pub vector : vector enc.problem values ≡ vector_of m pairs a
