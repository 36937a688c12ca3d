-- The pass that its fields keep: its seat is at rest.
use Rattle.std.specs.Prelude.{◌≡◌, ◌≤◌, ◌<◌, ◌^◌, false, [], length, None}
use Rattle.cgm_atom.specs.Acceptance.{IsAccepted}
use Rattle.cgm_turn.specs.declared.passes.Pass.TheInside.{Inside}
use Rattle.cgm_turn.specs.declared.views.View.{View}
use Rattle.cgm_turn.specs.Passes.{PassState}

abbrev pub view_of : Inside → View
view_of x = x.seat.me.0

abbrev pub pass_state : Inside → PassState
pass_state x =
    record {
      table = x.seat.table_id;
      problem = (view_of x).problem;
      number = (view_of x).number;
      told = (view_of x).seen;
      own = (view_of x).landed;
      trades = (view_of x).begun;
      splits = (view_of x).splits;
      out = (view_of x).out;
      joined = (view_of x).joined;
    }

pub record IsRestingPass (x : Inside) : Type 0 where
  pub slots : x.seat.me.1 ≡ []
  pub lives : (view_of x).is_spent ≡ false
  pub ticket : (view_of x).ticket ≡ None
  pub held : (view_of x).held ≡ None
  pub number : x.number ≡ (view_of x).number
  pub trades : x.trades ≡ (view_of x).begun
  pub splits : x.splits ≡ (view_of x).splits
  pub out : x.out ≡ (view_of x).out
  pub few : x.out ≤ x.splits
  pub seen : x.seen ≡ length (view_of x).seen
  pub accepted : IsAccepted (view_of x).problem (view_of x).seen
  pub room : length (view_of x).seen < 2 ^ 63
