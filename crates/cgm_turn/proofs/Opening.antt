-- A new table meets the rule.
use Rattle.std.proofs.Common.{◌≡◌, ℕ, zero, suc, ◌*◌, ◌^◌, ◌≤◌, List, [], ◌∷◌, refl, sym, ap, subst, ◌∙◌, arith}
use Rattle.std.specs.declared.option.Option.{Option}
use Rattle.std.specs.declared.option.Option.TheVariants.{Some, None}
use mathlib.Core.Option.{some, some-injective, some-ne-none}
use mathlib.Core.Option as option
use lib.ListN.{get_elem?}
use Rattle.atomic_table.specs.Table.{opening}
use Rattle.cgm_atom.specs.declared.entries.Entry.{Entry}
use Rattle.cgm_atom.specs.Acceptance.{IsAccepted}
use Rattle.cgm_atom.proofs.StateLemmas.{IsAccepted-nil}
use Rattle.cgm_log.specs.LogBook.{LogBook}
use Rattle.cgm_turn.specs.declared.views.View.{View}
use Rattle.cgm_turn.specs.Entries.{made_by}
use Rattle.cgm_turn.specs.Rule.{IsServed, IsTurnTable, KnowsTurn, trades_of}
use Rattle.cgm_turn.specs.Views.{newcomer}
use Rattle.cgm_turn.proofs.Keeping.{held_none}

only_place : {A : Type 0} (a : A) (j : ℕ) (b : A) → get_elem? (a ∷ []) j ≡ some b → (j ≡ 0) × (a ≡ b)
only_place a zero b e = (refl, some-injective a b e)
only_place a (suc j) b e = absurd (some-ne-none b (sym e))

opens_served : (log : LogBook) → log.entries ≡ [] → IsServed 0 0 (some (Some log) ∷ []) (newcomer log.problem ∷ [])
opens_served log none = let v : View = newcomer log.problem in let homes : List (option.Option (Option LogBook)) = some (Some log) ∷ [] in record {
  log = log;
  accepted = subst (λ (xs : List Entry). IsAccepted log.problem xs) (sym none) (IsAccepted-nil log.problem);
  joined = [];
  out = 0;
  splits = 0;
  slots = refl;
  leads = record { first = v; place = refl; lives = refl; joined_is = refl; out_is = refl; splits_is = refl };
  given = refl;
  home = λ rest. refl;
  away = λ j u e entries held.
      let nothing : u.held ≡ None = ap (λ (x : View). x.held) (sym (only_place v j u e).1) in
      held_none u.held entries (get_elem? homes 0 ≡ some option.none) nothing held;
  order = omega arith;
  drawn = refl;
  each = λ j u e.
      let is = only_place v j u e in
      subst (λ (n : ℕ). KnowsTurn 0 0 log [] n u) (sym is.0)
      (subst (λ (x : View). KnowsTurn 0 0 log [] 0 x) is.1
      (record {
        number = refl;
        problem = refl;
        seen = (log.entries, refl);
        landed = ap (made_by 0) none;
        unjoined = refl;
        waits = tt;
        bounded = omega arith;
        begun = omega arith;
        holds = tt;
      }));
  apart = λ j k u w t e e' f f'. (only_place v j u e).0 ∙ sym (only_place v k w e').0;
  accounts = λ w. tt;
  fronts = tt;
  distinct = tt;
  later = λ w far. (ap (made_by w) none, refl);
  living = refl;
  trades = record {
    counted = refl;
    members = refl;
    bounded = λ j u e. subst (λ (x : View). trades_of x ≤ x.members * 2 ^ 59) (only_place v j u e).1 (omega arith);
    few = omega arith;
  };
}

pub opens : (log : LogBook) → log.entries ≡ [] → IsTurnTable (opening (0 ∷ 0 ∷ []) (Some log ∷ []) (newcomer log.problem))
opens log none = record { words = refl; served = opens_served log none }
