use Rattle.std.proofs.Common.{◌-◌, ◌≤◌, List, ap, refl, subst, sym, ◌∙◌, length, arith}
use Rattle.std.specs.declared.option.Option.TheVariants.{Some}
use Rattle.std.proofs.lemmas.Option.{slice_get_read}
use Rattle.cgm_atom.specs.declared.constraints.Atom.{Atom}
use Rattle.cgm_atom.specs.ClauseAtoms.{AreKnown}
use Rattle.cgm_atom.specs.Constraints.{of_clause}
use Rattle.cgm_atom.specs.Instance.{var_count}
use Rattle.cgm_learn.specs.Grounds.{GroundState}
use Rattle.cgm_learn.proofs.Pending.{pending_found}
use Rattle.cgm_learn.proofs.grounds.Ground.find_pending.Goals as goal

pub returns-in-Lemma : goal.returns-in-Lemma
returns-in-Lemma c =
    let n = c.args.number in
    let inside : GroundState = record { problem = c.self.inside.problem.now; state = c.self.inside.log.now; pending = c.self.inside.pending.now } in
    let known : (1 ≤ n) × (n ≤ length inside.pending) =
    subst (λ (g : GroundState). (1 ≤ n) × (n ≤ length g.pending)) (sym c.self.view_is) c.requires in
    let found =
    pending_found inside n (n - 1) c.in-Lemma.by c.in-Lemma.bound c.in-Lemma.clause c.in-Lemma.hints c.self.invariant (omega (arith, known.0))
    (slice_get_read inside.pending _ (n - 1) c.index-pending-number.result refl (omega (arith, known.0, known.1)) c.index-pending-number.is ∙ ap Some c.in-Lemma.is) in
    rw (← c.self.view_is) (
      found.there ∙ ap (λ (xs : List Atom). Some (of_clause (record { atoms = xs }))) (sym c.as_slice.ensures),
      (tt, subst (λ (xs : List Atom). AreKnown (var_count inside.problem) xs) (sym c.as_slice.ensures) found.known),
      found.carries,
    )
