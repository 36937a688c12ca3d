use Rattle.std.proofs.Common.{sym, ap, ◌∙◌, ◌++◌, map}
use Rattle.std.specs.Fmt.{signed_decimal}
use Rattle.cgm_atom.specs.AtomWords.{atom_word, spaced}
use Rattle.cgm_cert.specs.Spelling.{entry_line, hint_word}
use Rattle.cgm_cert.proofs.Printed.{on_ok, best_printed, lemma_printed}
use Rattle.cgm_cert.proofs.printer.push_entry.Goals as goal

pub returns-in_ok-push_number-in-Best : goal.returns-in_ok-push_number-in-Best
returns-in_ok-push_number-in-Best c =
    on_ok c.push_values.result
    (λ last.
    best_printed c.args.out.now.items c.extend_from_slice.new.self.items c.push_number.new.out.items c.push_values.new.out.items c.in-Best.by c.in-Best.values
    c.in_ok-extend_from_slice-in-Best.ensures.items c.in_ok-push_number-in-Best.ensures (last ∙ ap (λ list. c.push_number.new.out.items ++ spaced (map signed_decimal list)) c.as_slice.ensures) ∙ ap (λ e. c.args.out.now.items ++ entry_line e) (sym c.in-Best.is))
    c.push_values.ensures

pub returns-in_ok-extend_from_slice-in-Lemma-3 : goal.returns-in_ok-extend_from_slice-in-Lemma-3
returns-in_ok-extend_from_slice-in-Lemma-3 c =
    on_ok c.push_hints.result
    (λ last.
    lemma_printed c.args.out.now.items c.extend_from_slice-in-Lemma.new.self.items c.push_number-in-Lemma.new.out.items c.extend_from_slice-in-Lemma-2.new.self.items c.push_number-in-Lemma-2.new.out.items c.push_atoms.new.out.items c.extend_from_slice-in-Lemma-3.new.self.items c.push_hints.new.out.items
    c.in-Lemma.by c.in-Lemma.bound c.in-Lemma.clause c.in-Lemma.hints
    c.in_ok-extend_from_slice-in-Lemma.ensures.items c.in_ok-push_number-in-Lemma.ensures c.in_ok-extend_from_slice-in-Lemma-2.ensures.items c.in_ok-push_number-in-Lemma-2.ensures (c.in_ok-push_atoms-in-Lemma.ensures ∙ ap (λ list. c.push_number-in-Lemma-2.new.out.items ++ spaced (map atom_word list)) c.as_slice-in-Lemma.ensures) c.in_ok-extend_from_slice-in-Lemma-3.ensures.items (last ∙ ap (λ list. c.extend_from_slice-in-Lemma-3.new.self.items ++ spaced (map hint_word list)) c.as_slice-in-Lemma-2.ensures)
    ∙ ap (λ e. c.args.out.now.items ++ entry_line e) (sym c.in-Lemma.is))
    c.push_hints.ensures
