-- What runs left of the workers of a crew.
use Rattle.std.proofs.Common.{◌≡◌, ℕ, ◌+◌, ◌<◌, List, [], ◌∷◌, ◌++◌, length, refl, sym, ap, subst, ◌∙◌, arith}
use Rattle.std.specs.Prelude.{IsSomeAnd, Option, slice_index_or}
use Rattle.std.specs.List.{All}
use Rattle.std.proofs.lemmas.List.{get_or_append_left, get_or_push, length_push}
use Rattle.cgm_crew.specs.declared.crews.Crew.{Crew}
use Rattle.cgm_search.specs.Working.{WorkerState}
use Rattle.cgm_crew.specs.Workers.{HasEnded, IsDone, IsLead, IsOther, IsRunOf}
use Rattle.cgm_turn.specs.Passes.{PassState, TurnState}

pub lead_ran : (turn : TurnState) (crew : Crew) (w w' : WorkerState PassState) → IsRunOf w w' → IsLead turn crew w → IsLead turn crew w'
lead_ran turn crew w w' r h =
    record { problem = r.problem ∙ h.problem; plan_is = r.plan_is ∙ h.plan_is; number = r.number ∙ h.number; home = r.home ∙ h.home }

pub lead_ended : (w w' : WorkerState PassState) → IsRunOf w w' → HasEnded w'
lead_ended w w' r = record { stopped = r.stopped; ended = r.ended; valid = r.valid }

other_ran : (turn : TurnState) (crew : Crew) (w w' : WorkerState PassState) → IsRunOf w w' → IsOther turn crew w → IsDone turn crew w'
other_ran turn crew w w' r h =
    record {
      other = record {
        problem = r.problem ∙ h.problem;
        plan_is = r.plan_is ∙ h.plan_is;
        number = subst (λ (o : Option ℕ). IsSomeAnd o (λ k. k < crew.workers)) (sym r.number) h.number;
        table_is = ap (λ (z : PassState). z.table) r.home ∙ h.table_is;
      };
      stopped = r.stopped;
      ended = r.ended;
      valid = r.valid;
    }

pub others_ran : (turn : TurnState) (crew : Crew) (ws ws' : List (WorkerState PassState)) → length ws' ≡ length ws → ((i : ℕ) (d : WorkerState PassState) → i < length ws → IsRunOf (slice_index_or ws i d) (slice_index_or ws' i d))
    → All (IsOther turn crew) ws → All (IsDone turn crew) ws'
others_ran turn crew ws ws' same runs h = λ k d lt.
    let near : k < length ws = omega (arith, lt, same) in
    other_ran turn crew (slice_index_or ws k d) (slice_index_or ws' k d) (runs k d near) (h k d near)

-- ---- the lead stands last

pub lead_of_runs : (ws ws' all all' : List (WorkerState PassState)) (w w' : WorkerState PassState) → all ≡ ws ++ w ∷ [] → all' ≡ ws' ++ w' ∷ [] → length all' ≡ length all → ((i : ℕ) (d : WorkerState PassState) → i < length all → IsRunOf (slice_index_or all i d) (slice_index_or all' i d)) → IsRunOf w w'
lead_of_runs ws ws' all all' w w' e f same runs =
    let n : length all ≡ length ws + 1 = ap (λ (xs : List (WorkerState PassState)). length xs) e ∙ length_push ws w in
    let n' : length all' ≡ length ws' + 1 = ap (λ (xs : List (WorkerState PassState)). length xs) f ∙ length_push ws' w' in
    let here = runs (length ws) w (omega (arith, n)) in
    let old : slice_index_or all (length ws) w ≡ w = ap (λ (xs : List (WorkerState PassState)). slice_index_or xs (length ws) w) e ∙ get_or_push ws w w (length ws) refl in
    let new : slice_index_or all' (length ws) w ≡ w' = ap (λ (xs : List (WorkerState PassState)). slice_index_or xs (length ws) w) f ∙ get_or_push ws' w' w (length ws) (omega (arith, n, n', same)) in
    subst (λ (x : WorkerState PassState). IsRunOf w x) new (subst (λ (x : WorkerState PassState). IsRunOf x (slice_index_or all' (length ws) w)) old here)

pub others_of_runs : (ws ws' all all' : List (WorkerState PassState)) (w w' : WorkerState PassState) → all ≡ ws ++ w ∷ [] → all' ≡ ws' ++ w' ∷ [] → length all' ≡ length all → ((i : ℕ) (d : WorkerState PassState) → i < length all → IsRunOf (slice_index_or all i d) (slice_index_or all' i d))
    → (i : ℕ) (d : WorkerState PassState) → i < length ws → IsRunOf (slice_index_or ws i d) (slice_index_or ws' i d)
others_of_runs ws ws' all all' w w' e f same runs i d lt =
    let n : length all ≡ length ws + 1 = ap (λ (xs : List (WorkerState PassState)). length xs) e ∙ length_push ws w in
    let n' : length all' ≡ length ws' + 1 = ap (λ (xs : List (WorkerState PassState)). length xs) f ∙ length_push ws' w' in
    let here = runs i d (omega (arith, n, lt)) in
    let old : slice_index_or all i d ≡ slice_index_or ws i d = ap (λ (xs : List (WorkerState PassState)). slice_index_or xs i d) e ∙ get_or_append_left ws (w ∷ []) d i lt in
    let new : slice_index_or all' i d ≡ slice_index_or ws' i d = ap (λ (xs : List (WorkerState PassState)). slice_index_or xs i d) f ∙ get_or_append_left ws' (w' ∷ []) d i (omega (arith, n, n', same, lt)) in
    subst (λ (x : WorkerState PassState). IsRunOf (slice_index_or ws i d) x) new (subst (λ (x : WorkerState PassState). IsRunOf x (slice_index_or all' i d)) old here)
