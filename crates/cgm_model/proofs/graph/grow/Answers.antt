use Rattle.std.proofs.Common.{◌≡◌, ◌+◌, ◌++◌, ◌∷◌, [], List, Bool, ℕ, false, length, sym, ap, ◌∙◌, subst, arith}
use Rattle.std.proofs.lemmas.List.{length_push}
use Rattle.cgm_model.specs.Search.{IsMarked}
use Rattle.cgm_model.proofs.Targets.{IsIndexOf-kept, Grows, Grows-push, marked_front}
use Rattle.cgm_model.proofs.graph.grow.Goals as goal

pub returns-clause-kept : goal.returns-clause-kept
returns-clause-kept c = λ rs h.
    let old = c.args.graph.now in
    let lists = c.in_ok-push.ensures.items ∙ ap (λ (x : List ℕ). old.by_target.items ++ x ∷ []) c.new.ensures in
    let targets : length c.push.new.self.items ≡ length old.by_target.items + 1 = ap (λ (xs : List (List ℕ)). length xs) lists ∙ length_push old.by_target.items [] in
    let flags : length c.push-2.new.self.items ≡ length old.is_source.items + 1 = ap (λ (xs : List Bool). length xs) c.in_ok-push-2.ensures.items ∙ length_push old.is_source.items false in
    let queue : length c.push-3.new.self.items ≡ length old.queue.items + 1 = ap (λ (xs : List ℕ). length xs) c.in_ok-push-3.ensures.items ∙ length_push old.queue.items 0 in
    let marks : length c.push-4.new.self.items ≡ length old.marks.items + 1 = ap (λ (xs : List Bool). length xs) c.in_ok-push-4.ensures.items ∙ length_push old.marks.items false in
    IsIndexOf-kept rs old (record { by_target = c.push.new.self; is_source = c.push-2.new.self; queue = c.push-3.new.self; marks = c.push-4.new.self })
    (subst (Grows old.by_target.items) (sym lists) (Grows-push old.by_target.items))
    (λ x m. subst (λ xs. IsMarked xs x) (sym c.in_ok-push-2.ensures.items) (marked_front old.is_source.items (false ∷ []) x m))
    (omega (arith, h.targets)) (omega (arith, h.flags)) (omega (arith, h.queue)) h

pub returns-in_err-push-4-clause-kept : goal.returns-in_err-push-4-clause-kept
returns-in_err-push-4-clause-kept c = λ rs h.
    let old = c.args.graph.now in
    let lists = c.in_ok-push.ensures.items ∙ ap (λ (x : List ℕ). old.by_target.items ++ x ∷ []) c.new.ensures in
    let targets : length c.push.new.self.items ≡ length old.by_target.items + 1 = ap (λ (xs : List (List ℕ)). length xs) lists ∙ length_push old.by_target.items [] in
    let flags : length c.push-2.new.self.items ≡ length old.is_source.items + 1 = ap (λ (xs : List Bool). length xs) c.in_ok-push-2.ensures.items ∙ length_push old.is_source.items false in
    let queue : length c.push-3.new.self.items ≡ length old.queue.items + 1 = ap (λ (xs : List ℕ). length xs) c.in_ok-push-3.ensures.items ∙ length_push old.queue.items 0 in
    let marks : length c.push-4.new.self.items ≡ length old.marks.items = ap (λ (xs : List Bool). length xs) c.in_err-push-4.ensures.items in
    IsIndexOf-kept rs old (record { by_target = c.push.new.self; is_source = c.push-2.new.self; queue = c.push-3.new.self; marks = c.push-4.new.self })
    (subst (Grows old.by_target.items) (sym lists) (Grows-push old.by_target.items))
    (λ x m. subst (λ xs. IsMarked xs x) (sym c.in_ok-push-2.ensures.items) (marked_front old.is_source.items (false ∷ []) x m))
    (omega (arith, h.targets)) (omega (arith, h.flags)) (omega (arith, h.queue)) h
