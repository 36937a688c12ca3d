-- Landing after n entries places a hint as `placed` does, and under the same condition.
use Rattle.std.proofs.Common.{◌≡◌, ℕ, suc, ◌+◌, ◌-◌, ◌^◌, ◌<◌, refl, ap, arith}
use Rattle.cgm_atom.specs.declared.entries.Hint.{Hint}
use Rattle.cgm_atom.specs.declared.entries.Hint.TheVariants as hint
use Rattle.cgm_atom.specs.Placing.{CanBePlaced, placed}
use Rattle.cgm_trail.specs.Landing.{CanLand, hint_landed}

pub landed_is_placed : (n : ℕ) (h : Hint) → hint_landed (suc n) h ≡ placed n h
landed_is_placed n (hint.Clause number) = refl
landed_is_placed n (hint.Row number) = refl
landed_is_placed n (hint.Entry place) = refl
landed_is_placed n (hint.Own i) = let e : suc n + i - 1 ≡ n + i = omega arith in ap hint.Entry e
landed_is_placed n (hint.Cut best part) = refl

pub placed_can_land : (n : ℕ) (h : Hint) → CanBePlaced n h → CanLand (suc n) h
placed_can_land n (hint.Clause number) can = tt
placed_can_land n (hint.Row number) can = tt
placed_can_land n (hint.Entry place) can = tt
placed_can_land n (hint.Own i) can = let fits : suc n + i - 1 < 2 ^ 64 = omega (arith, can.1) in (can.0, fits)
placed_can_land n (hint.Cut best part) can = tt
