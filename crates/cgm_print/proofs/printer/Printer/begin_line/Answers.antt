use Rattle.std.proofs.Common.{ap, ◌∙◌, List, ℕ, ◌++◌, true}
use Rattle.cgm_lex.specs.Lexemes.{word}
use Rattle.cgm_print.specs.Printing.{rest_of_line}
use Rattle.cgm_print.proofs.Spaces.{line_begun}
use Rattle.cgm_print.proofs.printer.Printer.begin_line.Goals as goal

pub returns : goal.returns
returns c after =
    ap (λ (bs : List ℕ). bs ++ rest_of_line true after) c.in_ok-extend_from_slice.ensures.items
    ∙ line_begun c.args.self.now.text.items (word c.args.first.now) after
