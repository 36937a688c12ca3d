use Rattle.std.proofs.Common.{◌≡◌, ◌∙◌, List, [], ◌∷◌, ◌++◌, ap, subst, sym}
use Rattle.std.specs.declared.option.Option.{Option}
use Rattle.std.specs.declared.option.Option.TheVariants.{Some}
use Rattle.atomic_table.specs.Table.{opening}
use Rattle.cgm_log.specs.LogBook.{LogBook}
use Rattle.cgm_turn.specs.Rule.{IsTurnTable}
use Rattle.cgm_turn.specs.Views.{newcomer}
use Rattle.cgm_turn.proofs.Opening.{opens}
use Rattle.cgm_turn.proofs.passes.Turn.new.Goals as goal

pub new-requires : goal.new-requires
new-requires c =
    let log : LogBook = c.args.log in
    let items : c.push_reserved.new.self.items ≡ Some log ∷ [] = c.push_reserved.ensures.items ∙ ap (λ (xs : List (Option LogBook)). xs ++ Some log ∷ []) c.in_ok-slots.ensures.items in
    subst (λ (xs : List (Option LogBook)). IsTurnTable (opening (0 ∷ 0 ∷ []) xs (newcomer c.of-key.result.value.problem))) (sym items)
    (subst (λ (l : LogBook). IsTurnTable (opening (0 ∷ 0 ∷ []) (Some log ∷ []) (newcomer l.problem))) (sym c.of-key.ensures) (opens log c.requires.empty))
