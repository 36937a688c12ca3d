use Rattle.std.proofs.Common.{◌∷◌, [], length, ap, inl, inr, decimal, arith, rules}
use Rattle.std.proofs.lemmas.List.{length-append}
use Rattle.cgm_cert.proofs.WordLemmas.{atom_is, atom_none, atom_with_is, sign, sign_is, if_none}
use Rattle.cgm_cert.proofs.words.atom_of.Goals as goal

pub returns-in-None-clause-none : goal.returns-in-None-clause-none
returns-in-None-clause-none c = λ a printable e. atom_none c.args.word.now a printable c.in-None.ensures e

pub returns-in-None-split_last-clause-none : goal.returns-in-None-split_last-clause-none
returns-in-None-split_last-clause-none c = λ a printable e.
    let parts = atom_is c.args.word.now c.in-Some.left.now c.in-Some.k.now a printable c.in-Some.ensures.0 e in
    absurd (omega (arith, c.in-None-split_last.ensures.cases, ap (λ l. length l) parts.0, length-append (decimal a.var.0) (sign a.at_least ∷ [])))

pub returns-in-62-clause-none : goal.returns-in-62-clause-none
returns-in-62-clause-none c =
    if_none c.atom_with.result
    (λ none a printable e.
    let parts = atom_with_is c.args.word.now c.in-Some.left.now c.in-Some-split_last.var.now c.in-Some.k.now c.in-Some-split_last.sign.now a printable c.in-Some.ensures.0 c.in-Some-split_last.ensures.cases.0 e in
    none a printable parts.0 parts.2)
    c.atom_with.ensures.none

pub returns-in-60-clause-none : goal.returns-in-60-clause-none
returns-in-60-clause-none c =
    if_none c.atom_with-in-60.result
    (λ none a printable e.
    let parts = atom_with_is c.args.word.now c.in-Some.left.now c.in-Some-split_last.var.now c.in-Some.k.now c.in-Some-split_last.sign.now a printable c.in-Some.ensures.0 c.in-Some-split_last.ensures.cases.0 e in
    none a printable parts.0 parts.2)
    c.atom_with-in-60.ensures.none

pub returns-in_default-clause-none : goal.returns-in_default-clause-none
returns-in_default-clause-none c = λ a printable e.
    let parts = atom_with_is c.args.word.now c.in-Some.left.now c.in-Some-split_last.var.now c.in-Some.k.now c.in-Some-split_last.sign.now a printable c.in-Some.ensures.0 c.in-Some-split_last.ensures.cases.0 e in
    elim (sign_is a.at_least c.in-Some-split_last.sign.now parts.1) [
      | inl more ↦ absurd (search rules)
      | inr less ↦ absurd (search rules)
    ]
