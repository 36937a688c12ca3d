-- The log of a closed table.
use Rattle.std.proofs.Common.{◌≡◌, ℕ, List, false, sym, ◌∙◌}
use Rattle.std.specs.declared.option.Option.{Option}
use Rattle.std.specs.declared.option.Option.TheVariants.{Some, None}
use mathlib.Core.Option.{some, some-injective}
use lib.ListN.{get_elem?}
use Rattle.atomic_table.specs.Seated.{TableId}
use Rattle.atomic_table.specs.Table.{Final, Seen}
use Rattle.cgm_log.specs.LogBook.{LogBook}
use Rattle.cgm_turn.specs.declared.views.View.{View}
use Rattle.cgm_turn.specs.Passes.{IsLogAtClose}
use Rattle.cgm_turn.specs.Rule.{IsTurnTable}
use Rattle.cgm_turn.specs.Views.{IsLogAtEnd}
use Rattle.cgm_turn.proofs.Closing.{ends}
use Rattle.cgm_turn.proofs.Passing.{state_at}
use Rattle.std.specs.Prelude.{slice_index}

pub final_log : (id : ℕ) (v : View) (ws : List ℕ) (xs : List (Option LogBook)) → Final (Seen IsTurnTable id v) ws xs → v.is_spent ≡ false → v.number ≡ 0 → v.ticket ≡ None → v.out ≡ 0 → (log : LogBook) × (get_elem? xs 0 ≡ some (Some log)) × IsLogAtEnd v log
final_log id v ws xs f lives number rest out =
    let e = ends (slice_index f.0.words 0) (slice_index f.0.words 1) f.0.homes f.0.views id v f.1.0.served f.1.1 lives number rest out in
    (e.0, f.4 0 (Some e.0) e.1, e.2)

Some-same : (x y : LogBook) → Some x ≡ Some y → x ≡ y
Some-same x y e = cc

pub end_of_pass : (table : TableId) (v : View) (log : LogBook) → IsLogAtEnd v log → IsLogAtClose (state_at table v) log
end_of_pass table v log h = record { problem = h.problem; told = h.seen; own = h.made; told_to_joined = h.seen_by_joined; fronts = h.fronts }

pub taken_log : (xs : List (Option LogBook)) (x y : LogBook) → get_elem? xs 0 ≡ some (Some x) → get_elem? xs 0 ≡ some (Some y) → x ≡ y
taken_log xs x y e f = Some-same x y (some-injective (Some x) (Some y) (sym e ∙ f))
