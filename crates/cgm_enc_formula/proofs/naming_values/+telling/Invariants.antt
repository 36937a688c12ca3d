use Rattle.std.proofs.Common.{◌≡◌, ◌++◌, drop, map}
use Rattle.cgm_atom.specs.Literals.{bit}
use Rattle.cgm_formula.specs.Reading.{name_in, number_in}
use Rattle.cgm_enc_formula.specs.NamingValues.{all_truths, told}
use Rattle.cgm_enc_formula.proofs.naming_values.+telling.Given as goal

abbrev pub invariant-push_each-loop-part : goal.invariant-push_each-loop-part
invariant-push_each-loop-part l =
    (l.truths.items ++ map (λ part. part.says) (map (told (name_in l.assignment) (number_in l.assignment l.sums)) (drop l.part-index l.parts))
    ≡ map (λ part. part.says) (map (told (name_in l.assignment) (number_in l.assignment l.sums)) l.parts))
    × (l.out.items ++ map bit (all_truths (map (told (name_in l.assignment) (number_in l.assignment l.sums)) (drop l.part-index l.parts)))
    ≡ l.initial.out.items ++ map bit (all_truths (map (told (name_in l.assignment) (number_in l.assignment l.sums)) l.parts)))
