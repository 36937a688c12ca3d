use Rattle.std.proofs.Common.{◌≡◌, List, ℕ, MatchResult, option_map, Some, Bor, rules, subst}
use Rattle.cgm_cli.specs.Effects.{outside}
use Rattle.cgm_cli.specs.Inputs.{HasNothingKnown, IsKnownOf}
use Rattle.cgm_cli.proofs.input.earlier_known.Goals as goal

-- a file is named
pub returns-in-Some-clause-outcome : goal.returns-in-Some-clause-outcome
returns-in-Some-clause-outcome g c =
    let old = g.F.Shelf.state c.args.shelf.now in
    let new = g.F.Shelf.state c.earlier_of_file.new.shelf in
    let sink = g.O.Sink.state c.args.out.now in
    let said = g.O.Sink.state c.earlier_of_file.new.out in
    let file = c.in-Some.file.now in
    let named : Some file ≡ option_map {T = Bor (List ℕ)} {U = List ℕ} (λ file. file.now) c.args.earlier = search rules in
    subst (λ x. MatchResult c.earlier_of_file.result (λ known. IsKnownOf old.files x known.pairs) (HasNothingKnown x (outside old sink) (outside new said))) named
    c.earlier_of_file.ensures.outcome
