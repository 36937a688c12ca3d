use Rattle.std.proofs.Common.{◌≡◌, sym, ap, ◌∙◌}
use Rattle.std.specs.Fmt.{decimal}
use Rattle.std.proofs.lemmas.Fmt.{parse-decimal}
use Rattle.cgm_cert.proofs.numbers.number_of.Goals as goal

pub returns-in-Err-clause-none : goal.returns-in-Err-clause-none
returns-in-Err-clause-none c = λ n small e. let read = parse-decimal 64 n _ _ small small e c.parse_u64.ensures in absurd (cc)

pub returns-else-is-clause-none : goal.returns-else-is-clause-none
returns-else-is-clause-none c = λ n small e.
    let read = parse-decimal 64 n _ _ small small e c.parse_u64.ensures in
    let same : n ≡ c.in-Ok.n = cc in
    let told = c.if-is.ensures.1 (e ∙ ap decimal same ∙ sym c.format.ensures.text) in
    let untrue = c.if-is.false in
    absurd (cc)
