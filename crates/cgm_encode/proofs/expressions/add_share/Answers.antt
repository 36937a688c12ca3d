use Rattle.std.proofs.Common.{◌≡◌, ◌≢◌, ◌==◌, ℕ, Bool, true, false, cond, of_z, to_z, w64, sym, ap, ◌∙◌, ⊎_elim, arith, rules}
use Rattle.std.specs.Prelude.{ℤ, pos, ◌+ℤ◌, Option, Some}
use Rattle.std.specs.BTreeMap.{BTreeMap, get, is_at}
use Rattle.std.specs.Option.{unwrap_or}
use Rattle.std.specs.Ordering.{nat_cmp}
use Rattle.std.proofs.lemmas.Bool.{cases_eq, eq-eqb, ne_eqb}
use Rattle.std.proofs.lemmas.Int.{ints}
use Rattle.cgm_encode.specs.Building.{number_at}
use Rattle.cgm_encode.proofs.CombinedTerms.{other_key, same_key}
use Rattle.cgm_encode.proofs.expressions.add_share.Goals as goal

nothing_more : (n : ℤ) → n ≡ n +ℤ pos 0
nothing_more n = omega (arith, ints)

share_added : (old new : BTreeMap ℕ ℤ) (k : ℕ) (n v : ℤ) → ((q : ℕ) → get nat_cmp new q ≡ cond (is_at (nat_cmp k) q) (Some v) (get nat_cmp old q)) → v ≡ number_at old k +ℤ n → (x : ℕ) → number_at new x ≡ number_at old x +ℤ cond (k == x) n (pos 0)
share_added old new k n v updates is x =
    let found : (t : Bool) → is_at (nat_cmp k) x ≡ t → number_at new x ≡ unwrap_or (cond t (Some v) (get nat_cmp old x)) (pos 0) =
    λ t h. ap (λ (o : Option ℤ). unwrap_or o (pos 0)) (updates x ∙ ap (λ (s : Bool). cond s (Some v) (get nat_cmp old x)) h) in
    ⊎_elim
    (λ (same : k ≡ x).
    found true (ap (λ (y : ℕ). is_at (nat_cmp k) y) (sym same) ∙ same_key k)
    ∙ is
    ∙ ap (λ (y : ℕ). number_at old y +ℤ n) same
    ∙ ap (λ (t : Bool). number_at old x +ℤ cond t n (pos 0)) (sym (eq-eqb k x same)))
    (λ (other : k ≢ x).
    found false (other_key k x other)
    ∙ nothing_more (number_at old x)
    ∙ ap (λ (t : Bool). number_at old x +ℤ cond t n (pos 0)) (sym (ne_eqb k x other)))
    (cases_eq k x)

pub returns : goal.returns
returns c =
    let share = c.args.share.now in
    let old = c.args.numbers.now in
    let sum : to_z w64 (of_z w64 c.plus.result) ≡ c.plus.result = search rules in
    let so_far : to_z w64 (of_z w64 c.number_of-so_far.result) ≡ c.number_of-so_far.result = search rules in
    let own : to_z w64 (of_z w64 share.0) ≡ share.0 = search rules in
    let is =
    sum ∙ c.plus.ensures
    ∙ ap (λ (z : ℤ). z +ℤ to_z w64 (of_z w64 share.0)) (so_far ∙ c.number_of-so_far.ensures)
    ∙ ap (λ (z : ℤ). number_at old share.1 +ℤ z) own in
    share_added old c.insert.new.self share.1 share.0 (to_z w64 (of_z w64 c.plus.result)) c.in_ok-insert.ensures.updates.0 is
