use Rattle.std.proofs.Common.{◌==◌, arith, sym}
use Rattle.std.proofs.lemmas.Int.{clamps}
use Rattle.std.proofs.lemmas.List.{take_rest, length-drop, length-take}
use Rattle.cgm_lex.proofs.Splits.{slice_split-position_none, slice_split-position_some}
use Rattle.cgm_lex.proofs.line.split_line.Goals as goal

pub returns-in-None : goal.returns-in-None
returns-in-None c = slice_split-position_none (λ byte. byte == 10) c.args.text.now (sym c.in-None.ensures)

pub returns-in-Some : goal.returns-in-Some
returns-in-Some c =
    let cut = slice_split-position_some (λ byte. byte == 10) c.args.text.now c.in-Some.end (sym c.in-Some.ensures) in
    let within = cut.1 in
    let front = length-take c.in-Some.end c.args.text.now in
    rw take_rest (cut.0, simp length-drop (rw front (omega (arith, clamps, within))))
