use Rattle.std.proofs.Common.{ap, sym, ◌∙◌, ◌∷◌}
use Rattle.std.specs.declared.option.Option.TheVariants.{Some}
use Rattle.atomic_table.specs.Table.{rest}
use Rattle.cgm_turn.proofs.moves.take_out.Goals as goal

pub exchange-requires : goal.exchange-requires
exchange-requires c =
    let t = c.requires.there in
    (c.requires.own, (Some t.0, t.1 ∙ ap (λ xs. (0, Some t.0) ∷ rest xs) (sym t.1)))
