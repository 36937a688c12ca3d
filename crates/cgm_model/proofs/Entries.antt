-- What a look-up by bytes finds after a key was entered.
use Rattle.std.proofs.Common.{◌≡◌, ℕ, Bool, true, false, cond, List, [], ◌∷◌, Option, Some, refl, sym, ◌∙◌, ap}
use Rattle.std.specs.Map.{lookup}
use Rattle.std.specs.Str.{bytes_eq}
use Rattle.std.proofs.lemmas.Bool.{false≢true}
use Rattle.std.proofs.lemmas.Slice.Eq.{bytes_eq-Decides}
use Rattle.indexmap.specs.IndexMap.{insert_entry}

-- the first key is the one that is entered, and takes the value
taken : {V : Type 0} (b c : Bool) (v w : V) (rest : Option V) → b ≡ c → cond c (Some v) rest ≡ cond b (Some v) (cond c (Some w) rest)
taken true true v w rest e = refl
taken true false v w rest e = absurd (false≢true (sym e))
taken false true v w rest e = absurd (false≢true e)
taken false false v w rest e = refl

-- the first key is another
passed : {V : Type 0} (b c : Bool) (v w : V) (rest later : Option V) → (b ≡ true → c ≡ true → ⊥) → later ≡ cond b (Some v) rest → cond c (Some w) later ≡ cond b (Some v) (cond c (Some w) rest)
passed true true v w rest later apart e = absurd (apart refl refl)
passed true false v w rest later apart e = e
passed false true v w rest later apart e = refl
passed false false v w rest later apart e = e

module _ {K V : Type 0} (eq : K → K → Bool) (bytes : K → List ℕ) (reads : (a b : K) → eq a b ≡ bytes_eq (bytes a) (bytes b)) where
  entered : (e : K × V) (es : List (K × V)) (key : K) (v : V) (q : List ℕ) → lookup (λ k. bytes_eq q (bytes k)) (insert_entry eq es key v) ≡ cond (bytes_eq q (bytes key)) (Some v) (lookup (λ k. bytes_eq q (bytes k)) es) → (b : Bool) → eq key e.0 ≡ b → lookup (λ k. bytes_eq q (bytes k)) (cond b ((e.0, v) ∷ es) (e ∷ insert_entry eq es key v)) ≡ cond (bytes_eq q (bytes key)) (Some v) (lookup (λ k. bytes_eq q (bytes k)) (e ∷ es))
  entered e es key v q later true is =
      let same : bytes key ≡ bytes e.0 = (bytes_eq-Decides (bytes key) (bytes e.0)).0 (sym (reads key e.0) ∙ is) in
      taken (bytes_eq q (bytes key)) (bytes_eq q (bytes e.0)) v e.1 (lookup (λ k. bytes_eq q (bytes k)) es) (ap (bytes_eq q) same)
  entered e es key v q later false is =
      passed (bytes_eq q (bytes key)) (bytes_eq q (bytes e.0)) v e.1 (lookup (λ k. bytes_eq q (bytes k)) es) (lookup (λ k. bytes_eq q (bytes k)) (insert_entry eq es key v))
      (λ s t.
      let same : bytes key ≡ bytes e.0 = sym ((bytes_eq-Decides q (bytes key)).0 s) ∙ (bytes_eq-Decides q (bytes e.0)).0 t in
      false≢true (sym is ∙ (reads key e.0 ∙ (bytes_eq-Decides (bytes key) (bytes e.0)).1 same)))
      later

  pub lookup-insert : (es : List (K × V)) (key : K) (v : V) (q : List ℕ) → lookup (λ k. bytes_eq q (bytes k)) (insert_entry eq es key v) ≡ cond (bytes_eq q (bytes key)) (Some v) (lookup (λ k. bytes_eq q (bytes k)) es)
  lookup-insert [] key v q = refl
  lookup-insert (e ∷ es) key v q = entered e es key v q (lookup-insert es key v q) (eq key e.0) refl
