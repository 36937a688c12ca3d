-- A trade at the turn is the core's.
use Rattle.std.proofs.Common.{◌≡◌, ℕ, zero, suc, List, [], ◌∷◌, length, take, refl, sym, ap, subst, ◌∙◌}
use Rattle.std.specs.Prelude.{IsSomeAnd, slice_get, slice_set}
use Rattle.std.specs.Option.{option_flatten}
use Rattle.std.specs.declared.option.Option.{Option}
use Rattle.std.specs.declared.option.Option.TheVariants.{Some}
use Rattle.std.proofs.Math.Seq.{take-append_seam}
use Rattle.cgm_atom.specs.declared.entries.Entry.{Entry}
use Rattle.cgm_atom.specs.Instance.{Instance}
use Rattle.cgm_log.specs.Landing.{IsProperBatch, with_landed}
use Rattle.cgm_log.specs.Trading.{news_of}
use Rattle.cgm_turn.specs.Laws.{TradesAreTheCores}

-- a worker that is in has seen what was put down for it
seen_set : (seen : List (Option ℕ)) (worker n m : ℕ) → option_flatten (slice_get seen worker) ≡ Some n → option_flatten (slice_get (slice_set seen worker (Some m)) worker) ≡ Some m
seen_set [] worker n m h = absurd (cc)
seen_set (o ∷ seen) zero n m h = refl
seen_set (o ∷ seen) (suc worker) n m h = seen_set seen worker n m h

pub trades_are_the_cores : TradesAreTheCores
trades_are_the_cores old new b t s proper number trade problem log seat =
    let front : take (length old.told) s.log ≡ old.told = ap (take (length old.told)) log ∙ take-append_seam old.told (news_of t) in
    let told : with_landed s.problem s.log b ≡ new.told =
    ap (λ (p : Instance). with_landed p s.log b) problem ∙ ap (λ (xs : List Entry). with_landed old.problem xs b) log ∙ sym trade.told in (
      subst (λ (o : Option ℕ). IsSomeAnd o (λ n. IsProperBatch s.problem (take n s.log) b × (b.by ≡ old.number))) (sym seat)
          (subst (λ (p : Instance). IsProperBatch p (take (length old.told) s.log) b) (sym problem) (subst (λ (xs : List Entry). IsProperBatch old.problem xs b) (sym front) proper), number),
      told,
      seen_set s.fronts_seen old.number (length old.told) (length (with_landed s.problem s.log b)) seat ∙ ap (λ (xs : List Entry). Some (length xs)) told,
    )
