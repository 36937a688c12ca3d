-- What lands of a proper batch is its worker's.
use Rattle.std.proofs.Common.{◌≡◌, ℕ, Bool, true, false, List, [], ◌∷◌, ◌++◌, length, refl, sym, subst}
use Rattle.std.specs.Prelude.{ℤ, if◌then◌else◌}
use Rattle.std.specs.declared.option.Option.{Option}
use Rattle.std.specs.declared.option.Option.TheVariants.{Some, None}
use Rattle.std.specs.List.{All}
use Rattle.std.proofs.lemmas.List.Elements.{All-append, All-cons, All-head, All-nil, All-tail}
use Rattle.cgm_atom.specs.declared.entries.Entry.{Entry}
use Rattle.cgm_atom.specs.declared.entries.Entry.TheVariants.{Best, Lemma}
use Rattle.cgm_atom.specs.Instance.{Instance}
use Rattle.cgm_atom.specs.LogState.{LogState, last_best, state_of}
use Rattle.cgm_atom.specs.Placing.{all_placed}
use Rattle.cgm_log.specs.declared.batches.Batch.{Batch}
use Rattle.cgm_log.specs.declared.batches.Fate.{Fate}
use Rattle.cgm_log.specs.declared.batches.Fate.TheVariants.{Behind, Kept}
use Rattle.cgm_log.specs.Landing.{IsLemmaOf, fate_after, kept_candidate, kept_entry, landed}
use Rattle.cgm_log.specs.Makers.{AreMadeBy, maker}

-- ---- what lands

own_lemmas : (by n k : ℕ) (lemmas : List Entry) → All (IsLemmaOf by k) lemmas → All (λ e. maker e ≡ by) (all_placed n lemmas)
own_lemmas by n k [] h = All-nil (λ e. maker e ≡ by)
own_lemmas by n k (Best other values ∷ lemmas) h = absurd (All-head (IsLemmaOf by k) (Best other values) lemmas h)
own_lemmas by n k (Lemma other clause hints bound ∷ lemmas) h =
    let first : IsLemmaOf by k (Lemma other clause hints bound) = All-head (IsLemmaOf by k) (Lemma other clause hints bound) lemmas h in
    All-cons (λ e. maker e ≡ by) _ (all_placed n lemmas) first.0 (own_lemmas by n k lemmas (All-tail (IsLemmaOf by k) (Lemma other clause hints bound) lemmas h))

own_kept : (by : ℕ) (values : List ℤ) (fate : Fate) → All (λ e. maker e ≡ by) (kept_entry by values fate)
own_kept by values (Kept ordinal) = All-cons (λ e. maker e ≡ by) (Best by values) [] refl (All-nil (λ e. maker e ≡ by))
own_kept by values (Behind ordinal best) = All-nil (λ e. maker e ≡ by)

own_candidate : (p : Instance) (s : LogState) (by : ℕ) (candidate : Option (List ℤ)) → All (λ e. maker e ≡ by) (kept_candidate p s by candidate)
own_candidate p s by None = All-nil (λ e. maker e ≡ by)
own_candidate p s by (Some values) = own_kept by values (fate_after p (length s.bests) (last_best s) values)

by_closed : (P : Entry → Type 0) (t : Bool) (xs : List Entry) → All P xs → All P (if t then [] else xs)
by_closed P true xs h = All-nil P
by_closed P false xs h = h

pub landed_own : (p : Instance) (log : List Entry) (b : Batch) (seen : ℕ) → All (IsLemmaOf b.by seen) b.lemmas → All (λ e. maker e ≡ b.by) (landed p log b)
landed_own p log b seen lemmas =
    by_closed (λ e. maker e ≡ b.by) (state_of log).closed _
    (All-append (λ e. maker e ≡ b.by) (all_placed (length log) b.lemmas) (kept_candidate p (state_of log) b.by b.candidate)
    (own_lemmas b.by (length log) seen b.lemmas lemmas) (own_candidate p (state_of log) b.by b.candidate))

-- ---- lists of entries that one worker made

pub made_none : (w : ℕ) (entries : List Entry) → entries ≡ [] → AreMadeBy w entries
unfolding AreMadeBy
made_none w entries e = subst (λ (xs : List Entry). All (λ x. maker x ≡ w) xs) (sym e) (All-nil (λ x. maker x ≡ w))

pub made_same : (w : ℕ) (old new : List Entry) → new ≡ old → AreMadeBy w old → AreMadeBy w new
made_same w old new e h = subst (λ (xs : List Entry). AreMadeBy w xs) (sym e) h

-- what lands of a batch is added
pub made_landed : (w : ℕ) (p : Instance) (log : List Entry) (b : Batch) (seen : ℕ) (old new : List Entry) → All (IsLemmaOf b.by seen) b.lemmas → b.by ≡ w → new ≡ old ++ landed p log b → AreMadeBy w old → AreMadeBy w new
unfolding AreMadeBy
made_landed w p log b seen old new lemmas own grown h =
    subst (λ (xs : List Entry). All (λ x. maker x ≡ w) xs) (sym grown)
    (All-append (λ x. maker x ≡ w) old (landed p log b) h
    (subst (λ (n : ℕ). All (λ x. maker x ≡ n) (landed p log b)) own (landed_own p log b seen lemmas)))
