-- What a pass learns in its turn.
use Rattle.std.proofs.Common.{◌≡◌, ℕ, ◌^◌, ◌<◌, ◌≤◌, ◌≢◌, Bool, true, false, List, [], ◌∷◌, length, take, refl, sym, ap, subst, ◌∙◌, arith, length-append}
use Rattle.std.specs.Prelude.{ℤ, if◌then◌else◌}
use Rattle.std.specs.declared.option.Option.{Option}
use Rattle.std.specs.declared.option.Option.TheVariants.{Some, None}
use Rattle.std.specs.List.{All}
use Rattle.std.proofs.Math.Seq.{take-append_seam}
use Rattle.atomic_table.specs.Table.{Me, Step}
use Rattle.cgm_atom.specs.Acceptance.{IsAccepted}
use Rattle.cgm_atom.specs.declared.entries.Entry.{Entry}
use Rattle.cgm_atom.specs.Instance.{Instance}
use Rattle.cgm_log.specs.declared.batches.Batch.{Batch}
use Rattle.cgm_log.specs.Landing.{IsProperBatch, landed, with_landed}
use Rattle.cgm_log.specs.LogBook.{LogBook}
use Rattle.cgm_log.specs.Makers.{maker}
use Rattle.cgm_log.proofs.Makers.{landed_own}
use Rattle.cgm_turn.specs.declared.views.View.{View}
use Rattle.cgm_turn.specs.Plays.{TurnComesAt, IsFoundBy, holding, put_back}
use Rattle.cgm_turn.specs.Turns.{IsInTurn, IsRested, TurnCame}
use Rattle.cgm_turn.specs.Views.{HasTurn}

-- ---- a look

pub come_now : (st : Step (Option LogBook)) (o : Option ℕ) (t found : ℕ) (m m' : Me (Option LogBook) View) → o ≡ Some t → m.1 ≡ [] → TurnComesAt o st m found m' → t ≡ found → TurnCame m.0 m'
come_now st o t found m m' e none told same =
    let now = (subst (λ (p : Option ℕ). TurnComesAt p st m found m') e told).0 same in
    record { log = now.0; found = now.1; after = now.2 ∙ ap (λ (xs : List (ℕ × Option LogBook)). (holding m.0 now.0.entries, (0, Some now.0) ∷ xs)) none }

pub not_yet : (st : Step (Option LogBook)) (o : Option ℕ) (t found : ℕ) (m m' : Me (Option LogBook) View) → o ≡ Some t → TurnComesAt o st m found m' → t ≢ found → m' ≡ m
not_yet st o t found m m' e told other = (subst (λ (p : Option ℕ). TurnComesAt p st m found m') e told).1 other

-- ---- the batch is proper on the log

pub seen_within : (v : View) (log : LogBook) (seen : ℕ) → IsFoundBy v log → seen ≤ length v.seen → seen ≤ length log.entries
seen_within v log seen found le = omega (arith, ap length found.seen.1, length-append v.seen found.seen.0)

pub proper_found : (v : View) (log : LogBook) (seen : ℕ) (b : Batch) → IsFoundBy v log → seen ≡ length v.seen → IsProperBatch v.problem v.seen b → IsProperBatch log.problem (take seen log.entries) b
proper_found v log seen b found e proper =
    let front : take seen log.entries ≡ v.seen = ap (λ (n : ℕ). take n log.entries) e ∙ ap (take (length v.seen)) found.seen.1 ∙ take-append_seam v.seen found.seen.0 in
    subst (λ (p : Instance). IsProperBatch p (take seen log.entries) b) found.problem
    (subst (λ (xs : List Entry). IsProperBatch v.problem xs b) (sym front) proper)

-- ---- the log with what landed, which is the worker's own

pub has_turn : (v : View) (before log : LogBook) (seen : List Entry) (b : Batch) → v.held ≡ Some before.entries → v.problem ≡ before.problem → b.by ≡ v.number → IsProperBatch before.problem seen b → log.entries ≡ with_landed before.problem before.entries b → log.problem ≡ before.problem
    → HasTurn (v, (0, None) ∷ []) log
has_turn v before log seen b held problem number proper ok same = record {
  old = before.entries;
  added = landed before.problem before.entries b;
  slot = None;
  held = held;
  only = refl;
  grown = ok;
  own = subst (λ (n : ℕ). All (λ e. maker e ≡ n) (landed before.problem before.entries b)) number (landed_own before.problem before.entries b (length seen) proper.lemmas);
  problem = same ∙ sym problem;
}

pub rested : (v : View) (seen landed : List Entry) (me : Me (Option LogBook) View) → me ≡ (put_back v seen landed, []) → IsAccepted v.problem seen → length seen < 2 ^ 63 → IsRested v me
rested v seen landed me e accepted room =
    subst (λ (x : Me (Option LogBook) View). IsRested v x) (sym e)
    (record { slots = refl; ticket = refl; held = refl; lives = refl; number = refl; begun = refl; splits = refl; out = refl; accepted = accepted; room = room })

Some-same : {X : Type 0} (x y : X) → Some x ≡ Some y → x ≡ y
Some-same x y e = cc

abbrev value_in : List (ℕ × Option LogBook) → Option LogBook
value_in [] = None
value_in (x ∷ xs) = x.1

pub only_log : (xs : List (ℕ × Option LogBook)) (x y : LogBook) → xs ≡ (0, Some x) ∷ [] → xs ≡ (0, Some y) ∷ [] → x ≡ y
only_log xs x y e f = Some-same x y (ap value_in (sym e ∙ f))

-- the log that was taken out is the one that was found
pub found_out : (me : Me (Option LogBook) View) (log : LogBook) → IsInTurn me → me.1 ≡ (0, Some log) ∷ [] → IsFoundBy me.0 log × (me.0.held ≡ Some log.entries)
found_out me log turn e =
    let is : turn.log ≡ log = only_log me.1 turn.log log turn.only e in
    (subst (λ (l : LogBook). IsFoundBy me.0 l) is turn.found, turn.held ∙ ap (λ (l : LogBook). Some l.entries) is)
