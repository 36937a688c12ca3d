-- What a pass knows in its turn, and after it.
use Rattle.std.specs.Prelude.{◌≡◌, ◌<◌, ◌^◌, [], ◌∷◌, drop, length, IfOk, IfErr, OnOk, Option, Some, None, Result}
use Rattle.atomic_table.specs.Table.{Me}
use Rattle.cgm_atom.specs.Acceptance.{IsAccepted}
use Rattle.cgm_log.specs.declared.batches.Batch.{Batch}
use Rattle.cgm_log.specs.declared.batches.Refund.{Refund}
use Rattle.cgm_log.specs.declared.batches.Traded.{Traded}
use Rattle.cgm_log.specs.Landing.{with_landed}
use Rattle.cgm_log.specs.LogBook.{IsLog, LogBook}
use Rattle.cgm_log.specs.Trading.{IsAnswer, news_of}
use Rattle.cgm_turn.specs.declared.views.View.{View}
use Rattle.cgm_turn.specs.Plays.{IsFoundBy, handed_back, handed_on, holding}

-- the turn came: the log is in the slot that the seat has
pub record TurnCame (v : View) (me : Me (Option LogBook) View) : Type 0 where
  pub log : LogBook
  pub found : IsFoundBy v log
  pub after : me ≡ (holding v log.entries, (0, Some log) ∷ [])

pub record IsInTurn (me : Me (Option LogBook) View) : Type 0 where
  pub log : LogBook
  pub found : IsFoundBy me.0 log
  pub held : me.0.held ≡ Some log.entries
  pub only : me.1 ≡ (0, Some log) ∷ []

-- the turn was taken: the log before, and what became of it
pub record IsTurnTaken (v : View) (b : Batch) (r : Result Traded Refund) (me : Me (Option LogBook) View) : Type 0 where
  pub before : LogBook
  pub found : IsFoundBy v before
  pub held : v.held ≡ Some before.entries
  pub answer : IfOk r (λ t. IsAnswer before.problem before.entries b t × (news_of t ≡ drop (length v.seen) before.entries))
  pub landed :
      OnOk r ((log : LogBook) × IsLog log × (log.problem ≡ before.problem) × (log.entries ≡ with_landed before.problem before.entries b) × (me ≡ (handed_on v log, [])))
  pub refund : IfErr r (λ x. (x.batch ≡ b) × (me ≡ (handed_back v, [])))

-- a view at rest that differs from the old one in what it was told and landed
pub record IsRested (v : View) (me : Me (Option LogBook) View) : Type 0 where
  pub slots : me.1 ≡ []
  pub ticket : me.0.ticket ≡ None
  pub held : me.0.held ≡ None
  pub lives : me.0.is_spent ≡ v.is_spent
  pub number : me.0.number ≡ v.number
  pub begun : me.0.begun ≡ v.begun
  pub splits : me.0.splits ≡ v.splits
  pub out : me.0.out ≡ v.out
  pub accepted : IsAccepted me.0.problem me.0.seen
  pub room : length me.0.seen < 2 ^ 63
