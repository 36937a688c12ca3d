use Rattle.std.proofs.Common.{◌≡◌, List, length, ap, ◌∙◌, arith}
use Rattle.std.specs.declared.option.Option.TheVariants.{Some}
use Rattle.std.proofs.lemmas.List.{length-set, length-append}
use Rattle.cgm_atom.specs.declared.entries.Entry.{Entry}
use Rattle.cgm_log.specs.Landing.{landed}
use Rattle.cgm_core.specs.CoreParts.{core_state}
use Rattle.cgm_core.proofs.EventLists.{front_accepted, fronts_set}
use Rattle.cgm_core.proofs.cores.Core.trade_after.Goals as goal

pub is_proper-requires-clause-accepted : goal.is_proper-requires-clause-accepted
is_proper-requires-clause-accepted c =
    rw (c.problem.ensures.problem, c.split_at.ensures.front, c.entries.ensures.entries)
    (front_accepted c.self.inside.log.problem c.self.inside.log.entries c.args.seen c.recall_log.ensures.accepted)

pub invariant_of-self-in-Ok : goal.invariant_of-self-in-Ok
invariant_of-self-in-Ok c =
    let log : List Entry = c.trade.new.self.entries in
    let count : length c.entries-in-Ok.result.now ≡ length log = ap length c.entries-in-Ok.ensures.entries in
    record {
      fronts_seen = length-set c.self.inside.fronts_seen.items c.args.worker (Some (length c.entries-in-Ok.result.now)) ∙ c.self.invariant.fronts_seen;
      fronts =
          fronts_set (core_state c.self.inside) log c.args.worker (Some (length c.entries-in-Ok.result.now))
          (omega (arith, ap length c.in-Ok.ensures.landed, length-append c.self.inside.log.entries (landed c.self.inside.log.problem c.self.inside.log.entries c.args.batch)))
          (omega (arith, count)) c.self.invariant.fronts;
    }
