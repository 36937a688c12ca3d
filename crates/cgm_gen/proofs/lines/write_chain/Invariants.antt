use Rattle.std.proofs.Common.{◌≡◌, ◌+◌, ◌-◌, ◌++◌}
use Rattle.cgm_gen.specs.GeneratedText.{chain_lines}
use Rattle.cgm_gen.proofs.lines.write_chain.Given as goal

abbrev pub invariant-loop-next : goal.invariant-loop-next
invariant-loop-next l = record {
  follows : l.next ≡ l.place + 1;
  so_far : l.text.items ++ chain_lines l.place (l.goals - l.next) ≡ l.fn.text.items ++ chain_lines 8 (l.goals - 9);
}

abbrev pub decreases-loop-next : goal.decreases-loop-next
decreases-loop-next l = l.goals - l.next
