use Rattle.std.proofs.Common.{◌≡◌, sym, ◌∙◌, arith}
use Rattle.std.proofs.lemmas.Fmt.{decimal_injective}
use Rattle.cgm_cert.proofs.numbers.number_within.Goals as goal

pub returns-else-n-most-clause-none : goal.returns-else-n-most-clause-none
returns-else-n-most-clause-none c = λ n within e.
    let fits = c.ranges.most in
    let same : n ≡ c.in-Some.n = decimal_injective n c.in-Some.n (omega arith) (omega arith) (sym e ∙ c.in-Some.ensures.found) in
    absurd (omega (arith, same))
