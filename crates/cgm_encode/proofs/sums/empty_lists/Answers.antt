use Rattle.std.proofs.Common.{ℕ, ◌+◌, ◌++◌, ◌∷◌, [], List, ap, get_or, length, ◌∙◌}
use Rattle.std.proofs.lemmas.List.{length_push}
use Rattle.cgm_enc_graph.proofs.EmptyLists.{empty_more}
use Rattle.cgm_encode.specs.Totals.{Share}
use Rattle.cgm_encode.proofs.sums.empty_lists.Goals as goal

pub loop-preserved : goal.loop-preserved
loop-preserved c =
    let lists = c.loop.lists.items in
    let items = c.in_ok-push.ensures.items ∙ ap (λ (xs : List Share). lists ++ xs ∷ []) (c.of.ensures ∙ c.new.ensures.items) in (
      ap (λ (ls : List (List Share)). length ls) items ∙ length_push lists [] ∙ ap (λ (n : ℕ). n + 1) c.loop.invariant.0,
      λ e. ap (λ (ls : List (List Share)). get_or ls e []) items ∙ empty_more lists c.loop.invariant.1 e,
    )
