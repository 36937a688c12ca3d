-- The variables by number stand once each, and one exchange of a shuffle.
use Rattle.std.proofs.Common.{◌≡◌, ◌≢◌, ◌∙◌, ℕ, zero, suc, refl, ◌%◌, List, ap, sym, swap, arith}
use Rattle.std.proofs.lemmas.List.Sorted.{IsPermutation-refl}
use Rattle.cgm_atom.specs.declared.constraints.Var.{Var}
use Rattle.rand_pcg.specs.Lcg.{Lcg}
use Rattle.rand_pcg.specs.Pcg.{pcg32}
use Rattle.cgm_split.specs.Drawing.{IsEachOnce, by_number, drawn, generator, order_of, shuffled}

pub each_once_by_number : (count : ℕ) (vs : List Var) → vs ≡ by_number count → IsEachOnce count vs
each_once_by_number count vs same = rw same (IsPermutation-refl (by_number count))

pub shuffled_more : (n m word : ℕ) (g h : Lcg) (vs : List Var) → n ≡ suc m → (word, h) ≡ pcg32 g → shuffled n g vs ≡ shuffled m h (swap vs m (word % n))
shuffled_more n m word g h vs more draw =
    ap (λ k. shuffled k g vs) more
    ∙ ap (λ (d : ℕ × Lcg). shuffled m d.1 (swap vs m (d.0 % suc m))) (sym draw)
    ∙ ap (λ k. shuffled m h (swap vs m (word % k))) (sym more)

pub order_of_drawn : (count seed worker : ℕ) → worker ≢ 0 → order_of count seed worker ≡ shuffled count (generator seed worker) (by_number count)
unfolding drawn
order_of_drawn count seed zero h = absurd (h refl)
order_of_drawn count seed (suc w) h = refl

pub order_of_first : (count seed worker : ℕ) → worker ≡ 0 → order_of count seed worker ≡ by_number count
order_of_first count seed zero h = refl
order_of_first count seed (suc w) h = absurd (omega arith)
