use Rattle.std.proofs.Common.{inl, subst, ◌∙◌}
use Rattle.cgm_cli.specs.Effects.{IsTold}
use Rattle.cgm_cli.proofs.faults.tell_fault.Goals as goal

pub returns-in-Ok : goal.returns-in-Ok
returns-in-Ok g c =
    inl (
      c.status.ensures,
      subst (λ bytes. IsTold bytes (g.O.Sink.state c.args.out.now) (g.O.Sink.state c.tell.new.out)) (c.as_bytes.ensures.value ∙ c.in-Ok.ensures) c.tell.ensures,
    )
