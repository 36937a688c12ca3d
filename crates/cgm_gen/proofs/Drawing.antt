-- Draws one after another, and the costs of goals so far.
use Rattle.std.proofs.Common.{◌≡◌, ℕ, zero, suc, ◌+◌, ◌≤◌, ◌%◌, Bool, true, false, nat_lt, if◌then◌else◌, List, [], ◌∷◌, ◌++◌, length, refl, sym, ap, ◌∙◌, append_assoc, append-nil, arith}
use Rattle.std.proofs.lemmas.Bool.Decides.{nat_tests}
use Rattle.rand_pcg.specs.Lcg.{Lcg}
use Rattle.rand_pcg.specs.Pcg.{pcg32}
use Rattle.cgm_gen.specs.declared.costs.Costs.{Costs}
use Rattle.cgm_gen.specs.Draws.{both_drawn, costs_from, costs_of, draw, drawn_costs, cost_generator, one_drawn}

abbrev pub costs : ℕ → ℕ → Costs
costs a b = record { of_a = a; of_b = b }

pub draw_is : (g h : Lcg) (word : ℕ) → (word, h) ≡ pcg32 g → (1 + word % 100, h) ≡ draw g
unfolding draw
draw_is g h word e = ap (λ (d : ℕ × Lcg). (1 + d.0 % 100, d.1)) e

-- ---- the costs of one goal

abbrev then_drawn : ℕ × Lcg → Costs × Lcg
then_drawn d = (costs d.0 (draw d.1).0, (draw d.1).1)

pub both_is : (g h k : Lcg) (a b : ℕ) → (a, h) ≡ draw g → (b, k) ≡ draw h → (costs a b, k) ≡ both_drawn g
both_is g h k a b first second =
    ap (λ (d : ℕ × Lcg). (costs a d.0, d.1)) second ∙ ap then_drawn first

pub one_is : (g h : Lcg) (b : ℕ) → (b, h) ≡ draw g → (costs 0 b, h) ≡ one_drawn g
one_is g h b e = ap (λ (d : ℕ × Lcg). (costs 0 d.0, d.1)) e

drawn_by : (t : Bool) (place : ℕ) (g : Lcg) → nat_lt place 8 ≡ t → (if t then both_drawn g else one_drawn g) ≡ drawn_costs place g
drawn_by t place g e = ap (λ (b : Bool). if b then both_drawn g else one_drawn g) (sym e)

pub both_at : (place : ℕ) (test : Bool) (g : Lcg) (d : Costs × Lcg) → test ≡ nat_lt place 8 → test ≡ true → d ≡ both_drawn g → d ≡ drawn_costs place g
both_at place test g d is yes_ e = e ∙ drawn_by true place g (sym is ∙ yes_)

pub one_at : (place : ℕ) (test : Bool) (g : Lcg) (d : Costs × Lcg) → test ≡ nat_lt place 8 → test ≡ false → d ≡ one_drawn g → d ≡ drawn_costs place g
one_at place test g d is no_ e = e ∙ drawn_by false place g (sym is ∙ no_)

pub late : (place : ℕ) (g : Lcg) (d : Costs × Lcg) → 8 ≤ place → d ≡ one_drawn g → d ≡ drawn_costs place g
late place g d h e =
    let test : nat_lt place 8 ≡ false = grind (arith, nat_tests) in
    e ∙ drawn_by false place g test

-- ---- the costs of all goals

pub begun : (goals left : ℕ) (g : Lcg) (so_far : List Costs) → so_far ≡ [] → left ≡ goals → g ≡ cost_generator goals → so_far ++ costs_from 0 left g ≡ costs_of goals
unfolding costs_of
begun goals left g so_far none all started_ =
    ap (λ (xs : List Costs). xs ++ costs_from 0 left g) none
    ∙ ap (λ (n : ℕ). costs_from 0 n g) all
    ∙ ap (λ (h : Lcg). costs_from 0 goals h) started_

pub one_more : (place left rest : ℕ) (g h : Lcg) (next : Costs) (so_far whole : List Costs) → rest ≡ suc left → so_far ++ costs_from place rest g ≡ whole → (next, h) ≡ drawn_costs place g → (so_far ++ next ∷ []) ++ costs_from (place + 1) left h ≡ whole
one_more place left rest g h next so_far whole more is drawn =
    append_assoc so_far (next ∷ []) (costs_from (place + 1) left h)
    ∙ ap (λ (d : Costs × Lcg). so_far ++ (d.0 ∷ costs_from (place + 1) left d.1)) drawn
    ∙ ap (λ (k : ℕ). so_far ++ costs_from place k g) (sym more) ∙ is

pub all_drawn : (place rest : ℕ) (g : Lcg) (so_far whole : List Costs) → rest ≡ 0 → so_far ++ costs_from place rest g ≡ whole → so_far ≡ whole
all_drawn place rest g so_far whole none is =
    sym (append-nil so_far) ∙ ap (λ (k : ℕ). so_far ++ costs_from place k g) (sym none) ∙ is

-- ---- what the costs are

pub counted : (place count : ℕ) (g : Lcg) → length (costs_from place count g) ≡ count
counted place zero g = refl
counted place (suc count) g = omega (arith, counted (place + 1) count (drawn_costs place g).1)
