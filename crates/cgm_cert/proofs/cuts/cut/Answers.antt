use Rattle.std.proofs.Common.{◌==◌, sym}
use Rattle.std.proofs.lemmas.List.{take_rest}
use Rattle.cgm_cert.proofs.Splits.{slice_split-position_none, slice_split-position_some, whole_at}
use Rattle.cgm_cert.proofs.cuts.cut.Goals as goal

pub returns-in-None : goal.returns-in-None
returns-in-None c = slice_split-position_none (λ byte. byte == c.args.mark) c.args.text.now (sym c.in-None.ensures)

pub returns-in-Some : goal.returns-in-Some
returns-in-Some c =
    let cut = slice_split-position_some (λ byte. byte == c.args.mark) c.args.text.now c.in-Some.place (sym c.in-Some.ensures) in
    rw take_rest (cut.0, whole_at c.args.mark c.args.text.now c.in-Some.place (sym c.in-Some.ensures))
