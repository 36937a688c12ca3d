use Rattle.std.proofs.Common.{◌≡◌, ℕ, ◌<◌, ◌^◌, true, false, Ok, Err, rules}
use Rattle.cgm_cli.specs.Numbers.{is_between, is_numeral}
use Rattle.cgm_cli.proofs.Numerals.{no_numeral, not_within, parsed, too_great, within}
use Rattle.cgm_cli.proofs.numbers.numeral_in.Goals as goal

pub returns-then-not-is_numeral-clause-number : goal.returns-then-not-is_numeral-clause-number
returns-then-not-is_numeral-clause-number c =
    let fails : is_numeral c.args.text.now ≡ false = search rules in
    no_numeral c.args.least c.args.greatest c.args.text.now fails

pub returns-then-is_between-clause-number : goal.returns-then-is_between-clause-number
returns-then-is_between-clause-number c =
    let text = c.args.text.now in
    let number = c.in-Ok.number in
    let numeral : is_numeral text ≡ true = search rules in
    let between : is_between c.args.least c.args.greatest number ≡ true = search rules in
    within c.args.least c.args.greatest number text numeral (parsed {E = ℕ} text (Ok number) numeral c.in-Ok.ensures.value.0).1 between

pub returns-else-is_between-clause-number : goal.returns-else-is_between-clause-number
returns-else-is_between-clause-number c =
    let text = c.args.text.now in
    let number = c.in-Ok.number in
    let numeral : is_numeral text ≡ true = search rules in
    let fails : is_between c.args.least c.args.greatest number ≡ false = search rules in
    not_within c.args.least c.args.greatest number text (parsed {E = ℕ} text (Ok number) numeral c.in-Ok.ensures.value.0).1 fails

pub returns-in-Err-clause-number : goal.returns-in-Err-clause-number
returns-in-Err-clause-number c =
    let text = c.args.text.now in
    let numeral : is_numeral text ≡ true = search rules in
    let fits : c.args.greatest < 2 ^ 64 = search rules in
    too_great c.args.least c.args.greatest text numeral fits (parsed text (Err c.in-Err.field-0) numeral c.in-Err.ensures.value.0)
