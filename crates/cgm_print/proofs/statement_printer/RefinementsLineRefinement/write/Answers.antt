use Rattle.std.proofs.Common.{◌∙◌, ◌∷◌, [], ◌<◌, length, map, arith}
use Rattle.cgm_lex.specs.Lexemes.{colon, word}
use Rattle.cgm_model.specs.Model.{lists_of}
use Rattle.cgm_print.specs.Canonical.{element_name}
use Rattle.cgm_print.specs.Printing.{text_followed, words_before}
use Rattle.cgm_print.proofs.Spaces.{refined_some, refined_none}
use Rattle.cgm_print.proofs.statement_printer.RefinementsLineRefinement.write.Goals as goal

pub returns-in_ok-word-in-empty : goal.returns-in_ok-word-in-empty
returns-in_ok-word-in-empty c =
    let m = lists_of c.args.model.now in
    let r = c.args.item.now in
    let ns = c.as_slice-numbers.result.now in
    let target = c.element_name.result.now in
    let none : length c.as_slice-numbers.result.now < 1 = omega arith in
    refined_none m c.as_slice.result.now r.name target (element_name m r.target) ns r.sources c.args.printer.now.text.items (text_followed c.word-in-empty.new.self [])
    c.as_slice.ensures c.element_name.ensures c.as_slice-numbers.ensures none
    (c.in_ok-word-in-empty.ensures [] ∙ c.in_ok-colon.ensures (word [] ∷ []) ∙ c.in_ok-word.ensures (colon ∷ word [] ∷ []) ∙ c.in_ok-named_line.ensures (word target ∷ colon ∷ word [] ∷ []))

pub returns-in_ok-source_names-in-len1-up : goal.returns-in_ok-source_names-in-len1-up
returns-in_ok-source_names-in-len1-up c =
    let m = lists_of c.args.model.now in
    let r = c.args.item.now in
    let ns = c.as_slice-numbers.result.now in
    let target = c.element_name.result.now in
    let ws = words_before (map (element_name m) ns) [] in
    refined_some m c.as_slice.result.now r.name target (element_name m r.target) ns r.sources c.args.printer.now.text.items (text_followed c.source_names.new.printer [])
    c.as_slice.ensures c.element_name.ensures c.as_slice-numbers.ensures c.in-len1-up.len_at_least
    (c.in_ok-source_names-in-len1-up.ensures [] ∙ c.in_ok-colon.ensures ws ∙ c.in_ok-word.ensures (colon ∷ ws) ∙ c.in_ok-named_line.ensures (word target ∷ colon ∷ ws))
