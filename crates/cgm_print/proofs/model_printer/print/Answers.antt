use Rattle.std.proofs.Common.{◌∙◌, ◌∷◌, ◌++◌, [], List, ℕ, pos, ap}
use Rattle.cgm_lex.specs.Lexemes.{number}
use Rattle.cgm_lex.specs.Spelling.{spelled_line}
use Rattle.cgm_model.specs.Model.{lists_of}
use Rattle.cgm_print.proofs.Spaces.{all_groups}
use Rattle.cgm_print.proofs.model_printer.print.Goals as goal
use Rattle.cgm_print.specs.Statements.{header_tokens}

pub returns : goal.returns
returns c =
    all_groups (lists_of c.args.model.now) c.end_line.new.self.text.items c.declarations.new.printer.text.items c.relations.new.printer.text.items c.weights.new.printer.text.items c.demands.new.printer.text.items
    (c.in_ok-end_line.ensures
    ∙ ap (λ (bs : List ℕ). bs ++ 10 ∷ []) (c.in_ok-number.ensures [] ∙ c.in_ok-begin_line.ensures (number (pos 1) ∷ []) ∙ ap (λ (bs : List ℕ). bs ++ spelled_line header_tokens) c.new-p.ensures))
    c.in_ok-declarations.ensures c.in_ok-relations.ensures c.in_ok-weights.ensures c.in_ok-demands.ensures
