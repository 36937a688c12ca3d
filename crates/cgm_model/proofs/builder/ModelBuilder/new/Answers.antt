use Rattle.std.proofs.Common.{refl, sym, subst}
use Rattle.cgm_model.specs.declared.aids.Aids.{Aids}
use Rattle.cgm_model.specs.declared.lists.Lists.{Lists}
use Rattle.cgm_model.specs.Keeping.{AreFor}
use Rattle.cgm_model.specs.WellFormed.{IsWellFormedModel}
use Rattle.cgm_model.proofs.Aiding.{AreFor-none}
use Rattle.cgm_model.proofs.Keeping.{IsWellFormed-none}
use Rattle.cgm_model.proofs.builder.ModelBuilder.new.Goals as goal

pub invariant_of-result : goal.invariant_of-result
invariant_of-result c =
    let aids : Aids = record { alloc = c.args.alloc; names = c.new.result; graph = c.new-2.result; node_room = 200000; interests = c.new-3.result } in (
      subst IsWellFormedModel (sym c.empty_lists.ensures) IsWellFormed-none,
      subst (λ (m : Lists). AreFor m aids) (sym c.empty_lists.ensures) (AreFor-none aids c.new-2.ensures.index c.new-2.ensures.room refl c.new-3.ensures.items),
    )

pub returns-clause-known : goal.returns-clause-known
returns-clause-known c = subst IsWellFormedModel (sym c.empty_lists.ensures) IsWellFormed-none
