use Rattle.std.proofs.Common.{sym, ◌∙◌, ap, map, ◌++◌, inl, inr, codes}
use Rattle.std.proofs.lemmas.List.{append-nil}
use Rattle.cgm_atom.specs.Ranges.{IsAtomInRange}
use Rattle.cgm_atom.specs.AtomWords.{atom_word}
use Rattle.cgm_cert.specs.Spelling.{further_words}
use Rattle.cgm_cert.proofs.Rows.{stray_or_mark, unmarked}
use Rattle.cgm_cert.proofs.WordLemmas.{atom_is_no_mark}
use Rattle.cgm_cert.proofs.word_lists.atoms_of.Goals as goal

pub returns-in-None-clause-none : goal.returns-in-None-clause-none
returns-in-None-clause-none c = λ others more all e.
    let items = c.loop-word.atoms.items in
    let spelled = sym e ∙ c.loop-word.invariant.spelled ∙ ap (λ l. map atom_word items ++ l) c.in-Some.ensures.0 in
    elim (stray_or_mark atom_word IsAtomInRange items others c.in-Some.word.now (codes ":") (further_words c.in-Some.after.now) more all spelled atom_is_no_mark c.loop-word.invariant.within) [
      | inl found ↦ c.in-None.ensures.none found.0 found.1.0 found.1.1
      | inr mark ↦ (let told = c.if-is.ensures.1 mark in let untrue = c.if-is.false in absurd (cc))
    ]

pub returns-clause-none : goal.returns-clause-none
returns-clause-none c = λ others more all e.
    let items = c.loop-word.atoms.items in
    let spelled = sym e ∙ c.loop-word.invariant.spelled ∙ ap (λ l. map atom_word items ++ l) c.in_default.ensures ∙ append-nil (map atom_word items) in
    unmarked atom_word IsAtomInRange items others (codes ":") more spelled atom_is_no_mark c.loop-word.invariant.within
