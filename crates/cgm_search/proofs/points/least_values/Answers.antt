use Rattle.std.proofs.Common.{◌≡◌, ◌++◌, ◌∷◌, [], ℕ, ◌+◌, ◌<◌, List, length, drop, get_or, ap, arith, append_assoc, of_z, rules, sym, to_z, w64, ◌∙◌}
use Rattle.std.specs.Prelude.{ℤ, pos}
use Rattle.std.proofs.lemmas.Int.{to_z-of_z}
use Rattle.std.proofs.lemmas.List.{drop_more}
use Rattle.cgm_search.proofs.points.least_values.Goals as goal

value_more : (all old new : List ℤ) (x : ℕ) (v : ℤ) → x < length all → old ++ drop x all ≡ all → v ≡ get_or all x (pos 0) → new ≡ old ++ v ∷ [] → new ++ drop (x + 1) all ≡ all
value_more all old new x v within so is pushed =
    rw (pushed, is) (append_assoc old (get_or all x (pos 0) ∷ []) (drop (x + 1) all) ∙ ap (λ (xs : List ℤ). old ++ xs) (sym (drop_more all x (pos 0) within)) ∙ so)

pub loop-x-preserved : goal.loop-x-preserved
loop-x-preserved c =
    value_more c.args.state.now.lower c.loop-x.values.items c.push.new.self.items c.loop-x.x (to_z w64 (of_z w64 c.lo.result))
    (omega (arith, c.loop-x-test.true, c.vars-x-end.ensures.count, c.requires)) c.loop-x.invariant (to_z-of_z w64 c.lo.result (search rules) ∙ c.lo.ensures.value) c.in_ok-push.ensures.items
