use Rattle.std.proofs.Common.{◌++◌, map, ℕ, List, refl}
use Rattle.std.specs.Prelude.{pos, ℤ}
use Rattle.cgm_atom.specs.declared.constraints.Var.{Var}
use Rattle.cgm_atom.specs.AtomWords.{spaced}
use Rattle.cgm_enc_formula.proofs.Mapped.{all_done}
use Rattle.cgm_encode.specs.ProblemText.{term_word}
use Rattle.cgm_encode.proofs.Lines.{spaced_more}
use Rattle.cgm_encode.proofs.printer.push_terms.Goals as goal

pub loop-term-preserved : goal.loop-term-preserved
loop-term-preserved c =
    spaced_more term_word c.args.terms.now c.loop-term.term-index (pos 0, record { 0 = 0 }) c.loop-term.out.items c.push_term.new.out.items (c.args.out.now.items ++ spaced (map term_word c.args.terms.now))
    c.loop-term-test.true c.loop-term.invariant c.in_ok-push_term.ensures

pub returns : goal.returns
returns c =
    let text : List (ℤ × Var) → List ℕ = λ xs. spaced (map term_word xs) in
    all_done text c.args.terms.now c.loop-term.term-index c.loop-term.out.items (c.args.out.now.items ++ text c.args.terms.now) refl c.loop-term-test.false c.loop-term.invariant
