use Rattle.std.proofs.Common.{◌≡◌, ℕ, suc, ◌+◌, ◌-◌, ◌++◌, ◌∙◌, subst, sym, arith}
use Rattle.cgm_gen.specs.GeneratedText.{chain_lines}
use Rattle.cgm_gen.proofs.Writing.{link_more, links_done}
use Rattle.cgm_gen.proofs.lines.write_chain.Goals as goal

pub loop-next-preserved : goal.loop-next-preserved
loop-next-preserved c =
    let place = c.loop-next.place in
    let next = c.loop-next.next in
    let goals = c.args.goals in
    let left = goals - (next + 1) in
    let more : goals - next ≡ suc (goals - (next + 1)) = omega (arith, c.loop-next-test.true) in
    let start = c.args.text.now.items ++ chain_lines 8 (goals - 9) in
    record {
      follows = omega arith;
      so_far = subst (λ (p : ℕ). c.write.new.text.items ++ chain_lines p left ≡ start) (sym c.loop-next.invariant.follows)
          (link_more place left (goals - next) start c.loop-next.text.items c.write.new.text.items c.as_str.result.now
          more c.loop-next.invariant.so_far (c.as_str.ensures.value ∙ c.in_ok-line.ensures) c.in_ok-write.ensures);
    }

pub returns : goal.returns
returns c =
    links_done c.loop-next.place (c.args.goals - c.loop-next.next) (c.args.text.now.items ++ chain_lines 8 (c.args.goals - 9)) c.loop-next.text.items
    (omega (arith, c.loop-next-test.false)) c.loop-next.invariant.so_far
