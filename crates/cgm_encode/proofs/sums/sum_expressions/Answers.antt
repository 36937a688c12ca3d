use Rattle.std.proofs.Common.{◌<◌, ◌^◌, ◌∙◌, ℕ, List, ap, arith, get_or, length, map, subst, sym}
use Rattle.std.specs.List.{All, range_with_len}
use Rattle.std.proofs.lemmas.List.Elements.{All-map}
use Rattle.cgm_model.specs.Model.{lists_of}
use Rattle.cgm_model.specs.TruthVariables.{truth_variables}
use Rattle.cgm_encode.specs.declared.expressions.Expression.{Expression}
use Rattle.cgm_encode.specs.Building.{expression_of, share_size}
use Rattle.cgm_encode.specs.Quantities.{plain, sum_total}
use Rattle.cgm_encode.specs.Totals.{Share}
use Rattle.cgm_encode.proofs.Growing.{twice}
use Rattle.cgm_encode.proofs.KnownParts.{known_parts}
use Rattle.cgm_encode.proofs.MeasuredTotals.{sum_small}
use Rattle.cgm_encode.proofs.Shares.{sum_shares}
use Rattle.cgm_encode.proofs.sums.sum_expressions.Goals as goal

pub expressions_of-requires-clause-known : goal.expressions_of-requires-clause-known
expressions_of-requires-clause-known c =
    let m = lists_of c.args.model.now in
    let xs = range_with_len 0 (length m.sums) in
    let P : List Share → Type 0 = λ shares. All (λ s. s.1 < truth_variables m) shares in
    subst (λ (ls : List (List Share)). All P ls) (sym (c.as_slice.ensures.value ∙ c.in_ok-lists.ensures))
    (All-map P (λ sum. (sum_total m sum).shares) xs (λ k d l. sum_shares m (known_parts m c.args.model.now.well_formed) (get_or xs k d)))

pub expressions_of-requires-clause-small : goal.expressions_of-requires-clause-small
expressions_of-requires-clause-small c =
    let m = lists_of c.args.model.now in
    let xs = range_with_len 0 (length m.sums) in
    let P : List Share → Type 0 = λ shares. share_size shares < 2 ^ 63 in
    subst (λ (ls : List (List Share)). All P ls) (sym (c.as_slice.ensures.value ∙ c.in_ok-lists.ensures))
    (All-map P (λ sum. (sum_total m sum).shares) xs
    (λ k d l. let few = (sum_small m c.args.model.now.well_formed (get_or xs k d)).numbers in omega arith))

pub returns : goal.returns
returns c =
    let m = lists_of c.args.model.now in
    let xs = range_with_len 0 (length m.sums) in
    let f : List Share → Expression = λ shares. expression_of (truth_variables m) (plain shares) in
    c.in_ok-expressions.ensures
    ∙ ap (λ (ls : List (List Share)). map f ls) (c.as_slice.ensures.value ∙ c.in_ok-lists.ensures)
    ∙ twice f (λ (sum : ℕ). (sum_total m sum).shares) xs
