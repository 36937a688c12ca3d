use Rattle.std.proofs.Common.{◌<◌, ◌^◌, arith}
use Rattle.std.proofs.lemmas.List.Elements.{All-head}
use Rattle.cgm_atom.specs.declared.entries.Hint.TheVariants as hint
use Rattle.cgm_atom.specs.Ranges.{IsHintInRange}
use Rattle.cgm_atom.proofs.laws.printable_numbers_fit.Goals as goal

pub returns-clause-clauses : goal.returns-clause-clauses
returns-clause-clauses c = λ by bound clause hints h.
    let number : 2 ^ 40 < 2 ^ 32 = All-head IsHintInRange (hint.Clause (2 ^ 40)) hints h.0.2 in
    absurd (omega (arith, number))
