-- Pairs with one more pair: what they say of a name, and that their names stay distinct.
use Rattle.std.proofs.Common.{◌≡◌, ◌≢◌, ℕ, zero, suc, ◌≤◌, ◌++◌, Bool, true, false, cond, nat_lt, IsTrue, List, [], ◌∷◌, length, All, AllPairs, Option, None, Some, refl, sym, ap, ◌∙◌, arith}
use Rattle.std.specs.Option.{is_some}
use Rattle.std.specs.Str.{bytes_eq}
use Rattle.std.proofs.lemmas.Bool.{false≢true}
use Rattle.std.proofs.lemmas.Bool.Decides.{nat_tests}
use Rattle.std.proofs.lemmas.List.Elements.{All-nil, All-push}
use Rattle.std.proofs.lemmas.List.Quantifiers.{all_pairs_push}
use Rattle.std.proofs.lemmas.Slice.Eq.{bytes_eq-Decides}
use Rattle.cgm_base.specs.declared.limit.Which.TheVariants as limits
use Rattle.cgm_base.specs.Words.{limit_number}
use Rattle.cgm_lex.specs.Names.{is_spelled}
use Rattle.cgm_lex.specs.declared.stops.LineFault.{LineFault}
use Rattle.cgm_evolve.specs.Line.{name_fault}
use Rattle.cgm_evolve.specs.Pairs.{ArePairs, Pair, truth_in}

-- ---- names

-- nothing is said of a name, so none of the pairs has it
none_of : (b : Bool) (t : Bool) (o : Option Bool) → cond b (Some t) o ≡ None → (b ≡ false) × (o ≡ None)
none_of true t o e = cc
none_of false t o e = (refl, e)

pub apart : (pairs : List Pair) (n : List ℕ) → truth_in pairs n ≡ None → All (λ p. p.0 ≢ n) pairs
apart [] n e k d h same = absurd (omega arith)
apart (p ∷ ps) n e zero d h same =
    let parts = none_of (bytes_eq n p.0) p.1 (truth_in ps n) e in
    false≢true (sym parts.0 ∙ (bytes_eq-Decides n p.0).1 (sym same))
apart (p ∷ ps) n e (suc k) d h same = apart ps n (none_of (bytes_eq n p.0) p.1 (truth_in ps n) e).1 k d (omega arith) same

-- the other way round
unsaid_first : (p : Pair) (ps : List Pair) (n : List ℕ) (b : Bool) → bytes_eq n p.0 ≡ b → p.0 ≢ n → truth_in ps n ≡ None → truth_in (p ∷ ps) n ≡ None
unsaid_first p ps n true e h later = absurd (h (sym ((bytes_eq-Decides n p.0).0 e)))
unsaid_first p ps n false e h later = rw e later

pub unsaid : (pairs : List Pair) (n : List ℕ) → All (λ p. p.0 ≢ n) pairs → truth_in pairs n ≡ None
unsaid [] n h = refl
unsaid (p ∷ ps) n h =
    unsaid_first p ps n (bytes_eq n p.0) refl (h 0 p (omega arith)) (unsaid ps n (λ k d l. h (suc k) d (omega arith)))

swapped : (b c : Bool) (t u : Option Bool) (rest : Option Bool) → (b ≡ true → c ≡ true → ⊥) → cond b t (cond c u rest) ≡ cond c u (cond b t rest)
swapped true true t u rest h = absurd (h refl refl)
swapped true false t u rest h = refl
swapped false true t u rest h = refl
swapped false false t u rest h = refl

pub truth_in-push : (pairs : List Pair) (p : Pair) (q : List ℕ) → truth_in pairs p.0 ≡ None → truth_in (pairs ++ p ∷ []) q ≡ cond (bytes_eq q p.0) (Some p.1) (truth_in pairs q)
truth_in-push [] p q e = refl
truth_in-push (r ∷ rs) p q e =
    let parts = none_of (bytes_eq p.0 r.0) r.1 (truth_in rs p.0) e in
    let later = truth_in-push rs p q parts.1 in
    ap (λ o. cond (bytes_eq q r.0) (Some r.1) o) later
    ∙ swapped (bytes_eq q r.0) (bytes_eq q p.0) (Some r.1) (Some p.1) (truth_in rs q)
    (λ x y.
    let same : p.0 ≡ r.0 = sym ((bytes_eq-Decides q p.0).0 y) ∙ (bytes_eq-Decides q r.0).0 x in
    false≢true (sym parts.0 ∙ (bytes_eq-Decides p.0 r.0).1 same))

-- ---- the tests of a name

pub record Fits (pairs : List Pair) (n : List ℕ) : Type 0 where
  pub short : length n ≤ limit_number limits.NameBytes
  pub fresh : truth_in pairs n ≡ None

fits_by : (long : Bool) (said : Option Bool) (one other : LineFault) → cond long (Some one) (cond (is_some said) (Some other) None) ≡ None → (long ≡ false) × (said ≡ None)
fits_by true said one other e = cc
fits_by false (Some t) one other e = cc
fits_by false None one other e = (refl, refl)

pub fits : (pairs : List Pair) (n : List ℕ) → name_fault pairs n ≡ None → Fits pairs n
fits pairs n e =
    let parts = fits_by (nat_lt (limit_number limits.NameBytes) (length n)) (truth_in pairs n) _ _ e in
    let test = parts.0 in
    record { short = grind (arith, nat_tests); fresh = parts.1 }

fault_by : (pairs : List Pair) (n : List ℕ) (long : Bool) → nat_lt (limit_number limits.NameBytes) (length n) ≡ long → Fits pairs n → name_fault pairs n ≡ None
fault_by pairs n true e f = let short = f.short in absurd (grind (arith, nat_tests))
fault_by pairs n false e f = rw e (rw f.fresh refl)

pub fits_back : (pairs : List Pair) (n : List ℕ) → Fits pairs n → name_fault pairs n ≡ None
fits_back pairs n f = fault_by pairs n (nat_lt (limit_number limits.NameBytes) (length n)) refl f

-- ---- pairs

pub no_pairs : ArePairs []
no_pairs = record {
  spelled = All-nil (λ (p : Pair). IsTrue (is_spelled p.0));
  short = All-nil (λ (p : Pair). length p.0 ≤ limit_number limits.NameBytes);
  distinct = λ i j d l h. absurd (omega arith);
}

pub ArePairs-push : (pairs : List Pair) (p : Pair) → ArePairs pairs → IsTrue (is_spelled p.0) → name_fault pairs p.0 ≡ None → ArePairs (pairs ++ p ∷ [])
ArePairs-push pairs p are spelled fine =
    let f = fits pairs p.0 fine in
    record {
      spelled = All-push (λ (q : Pair). IsTrue (is_spelled q.0)) pairs p are.spelled spelled;
      short = All-push (λ (q : Pair). length q.0 ≤ limit_number limits.NameBytes) pairs p are.short f.short;
      distinct = all_pairs_push (λ (one other : Pair). one.0 ≢ other.0) pairs p are.distinct (apart pairs p.0 f.fresh);
    }

-- the pair after some of the pairs is spelled as a name, and its name has no fault after them
here_holds : (P : Pair → Type 0) (ps qs : List Pair) (p : Pair) → All P (ps ++ p ∷ qs) → P p
here_holds P [] qs p h = h 0 p (omega arith)
here_holds P (r ∷ ps) qs p h = here_holds P ps qs p (λ k d l. h (suc k) d (omega arith))

here_apart : (ps qs : List Pair) (p : Pair) → AllPairs (λ one other. one.0 ≢ other.0) (ps ++ p ∷ qs) → All (λ r. r.0 ≢ p.0) ps
here_apart [] qs p h k d l = absurd (omega arith)
here_apart (r ∷ ps) qs p h zero d l = here_holds (λ (other : Pair). r.0 ≢ other.0) ps qs p (λ k e w. h 0 (suc k) e (omega arith) (omega arith))
here_apart (r ∷ ps) qs p h (suc k) d l = here_apart ps qs p (λ i j e a b. h (suc i) (suc j) e (omega arith) (omega arith)) k d (omega arith)

pub proper_here : (ps qs : List Pair) (p : Pair) → ArePairs (ps ++ p ∷ qs) → IsTrue (is_spelled p.0) × (name_fault ps p.0 ≡ None)
proper_here ps qs p are = (
  here_holds (λ (q : Pair). IsTrue (is_spelled q.0)) ps qs p are.spelled,
  fits_back ps p.0 (record {
    short = here_holds (λ (q : Pair). length q.0 ≤ limit_number limits.NameBytes) ps qs p are.short;
    fresh = unsaid ps p.0 (here_apart ps qs p are.distinct);
  }),
)
