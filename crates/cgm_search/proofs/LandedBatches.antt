-- What a trade adds to what a worker has seen: the news, and then what landed of its batch.
use Rattle.std.proofs.Common.{◌≡◌, ℕ, ◌+◌, ◌-◌, ◌<◌, Bool, true, false, List, [], ◌∷◌, ◌++◌, length, refl, sym, ap, subst, ◌∙◌, append_assoc, arith, length-append}
use Rattle.std.specs.Prelude.{ℤ, if◌then◌else◌, Result, Ok, Err, OnOk}
use Rattle.std.specs.declared.option.Option.{Option}
use Rattle.std.specs.declared.option.Option.TheVariants.{Some, None}
use Rattle.cgm_atom.specs.declared.entries.Entry.{Entry}
use Rattle.cgm_atom.specs.Acceptance.{IsAccepted, IsAcceptedAfter, IsClosed}
use Rattle.cgm_atom.specs.Instance.{Instance}
use Rattle.cgm_atom.specs.LogState.{LogState, empty_state, state_of, state_with}
use Rattle.cgm_atom.specs.Placing.{all_placed}
use Rattle.cgm_atom.proofs.StateLemmas.{IsAccepted-next, state_of-push}
use Rattle.cgm_log.specs.declared.batches.Batch.{Batch}
use Rattle.cgm_log.specs.declared.batches.Fate.{Fate}
use Rattle.cgm_log.specs.Landing.{fate_of, kept_candidate, landed, with_landed}
use Rattle.cgm_log.proofs.Adding.{closed_stays}
use Rattle.cgm_search.specs.Trading.{HasLanded, IsLongerLog, kept_of}

-- ---- parts of an accepted log

front_after : (p : Instance) (s : LogState) (log more : List Entry) → IsAcceptedAfter p s (log ++ more) → IsAcceptedAfter p s log
front_after p s [] more h = tt
front_after p s (e ∷ log) more h = (h.0, front_after p (state_with s e) log more h.1)

pub accepted_front : (p : Instance) (log more : List Entry) → IsAccepted p (log ++ more) → IsAccepted p log
unfolding IsAccepted
accepted_front p log more h = front_after p empty_state log more h

pub accepted_rest : (p : Instance) (log more : List Entry) → IsAccepted p (log ++ more) → IsAcceptedAfter p (state_of log) more
accepted_rest p log [] h = tt
accepted_rest p log (e ∷ more) h = (
  IsAccepted-next p log e more h,
  subst (λ (s : LogState). IsAcceptedAfter p s more) (state_of-push log e)
      (accepted_rest p (log ++ e ∷ []) more (subst (λ (xs : List Entry). IsAccepted p xs) (sym (append_assoc log (e ∷ []) more)) h)),
)

-- ---- the list that lands

kept_by_fate : (p : Instance) (s : LogState) (by : ℕ) (candidate : Option (List ℤ)) → kept_of by candidate (fate_of p s candidate) ≡ kept_candidate p s by candidate
kept_by_fate p s by None = refl
kept_by_fate p s by (Some values) = refl

when_open : (t : Bool) (xs : List Entry) → t ≡ false → xs ≡ (if t then [] else xs)
when_open true xs h = absurd (cc)
when_open false xs h = refl

pub landing_is : (p : Instance) (log : List Entry) (b : Batch) (first : ℕ) (fate : Option Fate) (landing : List Entry) → (state_of log).closed ≡ false → first ≡ length log + 1 → fate ≡ fate_of p (state_of log) b.candidate → landing ≡ all_placed (first - 1) b.lemmas ++ kept_of b.by b.candidate fate → landing ≡ landed p log b
landing_is p log b first fate landing still_open e f h =
    let before : first - 1 ≡ length log = omega arith in
    h
    ∙ ap (λ (n : ℕ). all_placed n b.lemmas ++ kept_of b.by b.candidate fate) before
    ∙ ap (λ (o : Option Fate). all_placed (length log) b.lemmas ++ kept_of b.by b.candidate o) f
    ∙ ap (λ (xs : List Entry). all_placed (length log) b.lemmas ++ xs) (kept_by_fate p (state_of log) b.by b.candidate)
    ∙ when_open (state_of log).closed (all_placed (length log) b.lemmas ++ kept_candidate p (state_of log) b.by b.candidate) still_open

-- ---- taking up an answer

pub news_accepted : (p : Instance) (seen news : List Entry) (b : Batch) → IsAccepted p (with_landed p (seen ++ news) b) → IsAcceptedAfter p (state_of seen) news
news_accepted p seen news b h =
    accepted_rest p seen news (accepted_front p (seen ++ news) (landed p (seen ++ news) b) h)

pub landing_accepted : (p : Instance) (log mid landing : List Entry) (b : Batch) → mid ≡ log → landing ≡ landed p log b → IsAccepted p (with_landed p log b) → IsAcceptedAfter p (state_of mid) landing
landing_accepted p log mid landing b e f h = rw (e, f) (accepted_rest p log (landed p log b) h)

pub closed_taken : (p : Instance) (log now : List Entry) (b : Batch) → IsClosed log → now ≡ log → now ≡ with_landed p log b
closed_taken p log now b closed e = e ∙ closed_stays p log b closed

landed_taken : (p : Instance) (log mid landing now : List Entry) (b : Batch) → mid ≡ log → landing ≡ landed p log b → now ≡ mid ++ landing → now ≡ with_landed p log b
landed_taken p log mid landing now b e f h = h ∙ ap (λ (xs : List Entry). xs ++ landing) e ∙ ap (λ (xs : List Entry). log ++ xs) f

pub taken_on_ok : {T E : Type 0} (r : Result T E) (p : Instance) (log mid landing now : List Entry) (b : Batch) → mid ≡ log → landing ≡ landed p log b → OnOk r (now ≡ mid ++ landing) → OnOk r (now ≡ with_landed p log b)
taken_on_ok (Ok x) p log mid landing now b e f h = landed_taken p log mid landing now b e f h
taken_on_ok (Err x) p log mid landing now b e f h = tt

pub news_fit : (p : Instance) (seen news : List Entry) (b : Batch) (limit : ℕ) → length (with_landed p (seen ++ news) b) < limit → length seen + length news < limit
news_fit p seen news b limit h =
    let outer = length-append (seen ++ news) (landed p (seen ++ news) b) in
    let inner = length-append seen news in
    omega arith

pub landing_fits : (p : Instance) (log mid landing : List Entry) (b : Batch) (limit : ℕ) → mid ≡ log → landing ≡ landed p log b → length (with_landed p log b) < limit → length mid + length landing < limit
landing_fits p log mid landing b limit e f h =
    let whole = length-append log (landed p log b) in
    let m = ap length e in
    let l = ap length f in
    omega arith

-- ---- a longer log

pub longer : (p : Instance) (old new : List Entry) (b : Batch) → HasLanded p old b new → IsLongerLog old new
longer p old new b h = (
  h.0 ++ landed p (old ++ h.0) b,
  h.1 ∙ append_assoc old h.0 (landed p (old ++ h.0) b),
)

pub landed_on_ok : {T E : Type 0} (r : Result T E) (p : Instance) (old news now : List Entry) (b copy : Batch) → copy ≡ b → OnOk r (now ≡ with_landed p (old ++ news) copy) → OnOk r (HasLanded p old b now)
landed_on_ok (Ok x) p old news now b copy e h = (news, h ∙ ap (λ (a : Batch). with_landed p (old ++ news) a) e)
landed_on_ok (Err x) p old news now b copy e h = tt

pub longer_on_ok : {T E : Type 0} (r : Result T E) (p : Instance) (old new : List Entry) (b : Batch) → OnOk r (HasLanded p old b new) → OnOk r (IsLongerLog old new)
longer_on_ok (Ok x) p old new b h = longer p old new b h
longer_on_ok (Err x) p old new b h = tt
