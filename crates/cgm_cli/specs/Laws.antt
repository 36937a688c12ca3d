-- Laws over the outcomes of commands: which statuses come where nothing fails, and that `check` accepts what `solve` wrote.
use Rattle.std.specs.Prelude.{◌≡◌, ◌≢◌, ◌⊎◌, ℕ, ◌+◌, ◌*◌, ◌^◌, ◌<◌, ◌≤◌, List, [], ◌∷◌, length, Contains, IsSome, IsSomeAnd, Option, None, Some}
use Rattle.cgm_base.specs.declared.status.Status.{Status}
use Rattle.cgm_base.specs.declared.status.Status.TheVariants.{Done, Unrealizable, Limit, Certificate, Open, Read, Write, Memory}
use Rattle.cgm_base.specs.Words.{most_bytes}
use Rattle.cgm_shelf.specs.Faults.{Rose}
use Rattle.cgm_shelf.specs.Shelf.{Files, ShelfState}
use Rattle.cgm_model.specs.declared.lists.Lists.{Lists}
use Rattle.cgm_text.specs.Text.{IsTextOf}
use Rattle.cgm_evolve.specs.Pairs.{Pair}
use Rattle.cgm_evolve.specs.Text.{IsTextOf as IsEarlierTextOf}
use Rattle.cgm_trail.specs.Rank.{slack}
use Rattle.cgm_search.specs.declared.plans.Plan.{Plan}
use Rattle.cgm_encode.specs.declared.answer.Found.{Found}
use Rattle.cgm_encode.specs.Encoding.{IsEncodable}
use Rattle.cgm_encode.specs.Problem.{problem_of}
use Rattle.cgm_gen.specs.Draws.{most_goals}
use Rattle.cgm_report.specs.Answers.{exhausted, left_open}
use Rattle.cgm_cli.specs.CommandLine.{solve, check, show, encode, trial}
use Rattle.cgm_cli.specs.Effects.{World, IsPrinted}
use Rattle.cgm_cli.specs.Outcome.{HasActionOutcome, HasCommandOutcome}

-- ---- which statuses come where nothing fails

-- neither the shelf nor the sink failed
pub record NothingFails (found left : World) : Type 0 where
  pub reads : ¬ Rose found.shelf.read_faults left.shelf.read_faults
  pub writes : ¬ Rose found.shelf.write_faults left.shelf.write_faults
  pub prints : ¬ Rose found.sink.faults left.sink.faults

-- the named file has a text of this model, within the limit on bytes
abbrev pub HasModel : Files → List ℕ → Lists → Type 0
HasModel files name m =
    IsSomeAnd (files name) (λ text. IsTextOf text m × (length text ≤ most_bytes))

-- the same of an earlier realization; without a file nothing is known
abbrev pub HasEarlier : Files → Option (List ℕ) → List Pair → Type 0
HasEarlier files None earlier = earlier ≡ []
HasEarlier files (Some name) earlier =
    IsSomeAnd (files name) (λ text. IsEarlierTextOf text earlier × (length text ≤ most_bytes))

-- the shelf tells its files; they have this model, which has a problem, and this earlier realization
pub record IsGoodInput (shelf : ShelfState) (name : List ℕ) (file : Option (List ℕ)) (m : Lists)
    (earlier : List Pair) : Type 0 where
  pub files : Files
  pub told : shelf.files ≡ Some files
  pub model : HasModel files name m
  pub known : HasEarlier files file earlier
  pub encodable : IsEncodable m

abbrev pub IsOneOf : Status → List Status → Type 0
IsOneOf status statuses = Contains statuses status

-- a budget of at least this many moves can't be spent
abbrev pub IsEnough : Plan → Lists → List Pair → Type 0
IsEnough plan m earlier =
    (plan.restarts + 1) * 2 ^ (slack (problem_of m earlier).bounds + 1) ≤ plan.budget

-- `solve` then answers, or leaves open what its budget doesn't reach, or wants memory
abbrev pub SolveCompletes : Type 0
SolveCompletes =
    (name : List ℕ) (file cert : Option (List ℕ)) (workers : ℕ) (plan : Plan) (found left : World)
    (status : Status) (m : Lists) (earlier : List Pair)
    → IsGoodInput found.shelf name file m earlier → NothingFails found left
    → HasCommandOutcome (solve name file cert workers plan) found left status
    → IsOneOf status (Done ∷ Unrealizable ∷ Open ∷ Memory ∷ [])
    × (IsEnough plan m earlier → status ≢ Open)

-- `check` then answers by the certificate alone, or wants memory
abbrev pub CheckCompletes : Type 0
CheckCompletes =
    (name cert : List ℕ) (file : Option (List ℕ)) (found left : World)
    (status : Status) (m : Lists) (earlier : List Pair)
    → (good : IsGoodInput found.shelf name file m earlier) → IsSome (good.files cert)
    → NothingFails found left
    → HasCommandOutcome (check name cert file) found left status
    → IsOneOf status (Done ∷ Unrealizable ∷ Certificate ∷ Open ∷ Memory ∷ [])

-- `encode` then prints the problem, or wants memory
abbrev pub EncodeCompletes : Type 0
EncodeCompletes =
    (name : List ℕ) (file : Option (List ℕ)) (found left : World)
    (status : Status) (m : Lists) (earlier : List Pair)
    → IsGoodInput found.shelf name file m earlier → NothingFails found left
    → HasCommandOutcome (encode name file) found left status
    → IsOneOf status (Done ∷ Memory ∷ [])

-- `show` prints the model, with a problem or without, or wants memory
abbrev pub ShowCompletes : Type 0
ShowCompletes =
    (name : List ℕ) (told : Files) (found left : World) (status : Status) (m : Lists)
    → found.shelf.files ≡ Some told → HasModel told name m → NothingFails found left
    → HasCommandOutcome (show name) found left status
    → IsOneOf status (Done ∷ Memory ∷ [])

-- `trial` of at most 2,000 goals answers, or leaves open what its budget doesn't reach, or wants memory; of more goals it tells the limit, or wants memory
abbrev pub TrialCompletes : Type 0
TrialCompletes =
    (goals workers : ℕ) (plan : Plan) (found left : World) (status : Status)
    → NothingFails found left → HasActionOutcome (trial goals workers plan) found left status
    → (goals ≤ most_goals → IsOneOf status (Done ∷ Open ∷ Memory ∷ []))
    × (most_goals < goals → IsOneOf status (Limit ∷ Memory ∷ []))

-- ---- `check` over what `solve` wrote

-- the names that a run is given: of the model's file, of the earlier text's file where there is one, and of the certificate's file
pub record RunNames : Type 0 where
  pub model : List ℕ
  pub earlier : Option (List ℕ)
  pub cert : List ℕ

-- both runs are given an earlier text, and the second finds the bytes that the first found; or neither is given one
abbrev pub IsSameEarlier : Files → Files → Option (List ℕ) → Option (List ℕ) → Type 0
IsSameEarlier before now None None = Unit {0}
IsSameEarlier before now None (Some again) = ⊥
IsSameEarlier before now (Some name) None = ⊥
IsSameEarlier before now (Some name) (Some again) = now again ≡ before name

-- the shelf of a later `check`, under names of its own, tells the bytes of the model and of the earlier text as `solve` found them, and those of the certificate as `solve` left them
pub record IsLater (first second : RunNames) (old new later : ShelfState) : Type 0 where
  pub before : Files
  pub after : Files
  pub now : Files
  pub found : old.files ≡ Some before
  pub left : new.files ≡ Some after
  pub told : later.files ≡ Some now
  pub model_is : now second.model ≡ before first.model
  pub known : IsSameEarlier before now first.earlier second.earlier
  pub certificate : now second.cert ≡ after first.cert

-- exactly these bytes were printed in between
abbrev pub printed_between : World → World → List ℕ → Type 0
printed_between found left bytes = IsPrinted bytes found.sink left.sink

-- both printed the same report
abbrev pub PrintSame : (List ℕ → Type 0) → (List ℕ → Type 0) → Type 0
PrintSame printed again = (report : List ℕ) × (printed report × again report)

-- the one printed the best that a spent budget leaves, the other the same best of an open certificate
abbrev pub PrintSameBest : (List ℕ → Type 0) → (List ℕ → Type 0) → Type 0
PrintSameBest printed again =
    (m : Lists) × (best : Option Found) × (spent : List ℕ) × (
    printed (exhausted m best spent) × again (left_open m best)
    )

-- what `check` answers, if nothing fails, where `solve` answered this
abbrev pub Agrees : Status → (List ℕ → Type 0) → Status → (List ℕ → Type 0) → Type 0
Agrees Done printed status again = (status ≡ Done) × PrintSame printed again
Agrees Unrealizable printed status again = (status ≡ Unrealizable) × PrintSame printed again
Agrees Open printed status again = (status ≡ Open) × PrintSameBest printed again
Agrees other printed status again = Unit {0}

-- the certificate of an answer is accepted, also where it was written over the file of the model or of the earlier text: `check` gives the same answer, unless a read, the sink or memory fails
abbrev pub CertificatesAreAccepted : Type 0
CertificatesAreAccepted =
    (first second : RunNames) (workers : ℕ) (plan : Plan) (found left later last : World)
    (status answer : Status)
    → HasCommandOutcome (solve first.model first.earlier (Some first.cert) workers plan)
    found left status
    → IsLater first second found.shelf left.shelf later.shelf
    → HasCommandOutcome (check second.model second.cert second.earlier) later last answer
    → IsOneOf answer (Read ∷ Write ∷ Memory ∷ [])
    ⊎ Agrees status (printed_between found left) answer (printed_between later last)
