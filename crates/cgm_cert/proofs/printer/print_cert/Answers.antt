use Rattle.std.proofs.Common.{◌≡◌, ◌++◌, ◌∷◌, [], length, take, ap, ◌∙◌, arith}
use Rattle.cgm_cert.specs.Spelling.{header, entry_line, lines_of, cert_text}
use Rattle.std.proofs.Math.Seq.{take-length}
use Rattle.cgm_cert.specs.Fault.{IsTextOf}
use Rattle.cgm_cert.proofs.Steps.{lines_more}
use Rattle.cgm_cert.proofs.printer.print_cert.Goals as goal

pub loop-entry-preserved : goal.loop-entry-preserved
loop-entry-preserved c =
    lines_more c.args.entries.now c.loop-entry.entry-index c.entry-item.result (header ++ 10 ∷ []) c.loop-entry.out.items c.push_entry.new.out.items c.push.new.self.items
    c.loop-entry-test.true c.loop-entry.invariant (c.in_ok-push_entry.ensures ∙ ap (λ e. c.loop-entry.out.items ++ entry_line e) c.entry-item.is) c.in_ok-push.ensures.items

pub returns : goal.returns
unfolding IsTextOf cert_text
returns c =
    let entries = c.args.entries.now in
    let all : c.loop-entry.entry-index ≡ length entries = omega arith in
    (c.loop-entry.invariant ∙ ap (λ list. header ++ 10 ∷ lines_of list) (ap (λ n. take n entries) all ∙ take-length entries), c.requires)
