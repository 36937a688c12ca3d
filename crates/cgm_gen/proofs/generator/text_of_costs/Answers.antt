use Rattle.std.proofs.Common.{sym}
use Rattle.cgm_gen.proofs.Writing.{whole_text}
use Rattle.cgm_gen.proofs.generator.text_of_costs.Goals as goal

pub returns : goal.returns
returns c =
    whole_text c.args.costs.now c.args.goals c.new-text.result.items c.extend_from_slice.new.self.items c.write_goals.new.text.items c.extend_from_slice-2.new.self.items
    c.write_values.new.text.items c.write_chain.new.text.items c.extend_from_slice-3.new.self.items
    (sym c.requires.count) c.new-text.ensures.items c.in_ok-extend_from_slice.ensures.items c.in_ok-write_goals.ensures c.in_ok-extend_from_slice-2.ensures.items
    c.in_ok-write_values.ensures c.in_ok-write_chain.ensures c.in_ok-extend_from_slice-3.ensures.items
