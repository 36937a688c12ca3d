use Rattle.std.proofs.Common.{◌≡◌, ◌∙◌, ℤ, ap, nat_cmp, of_z, rules, to_z, w64}
use Rattle.std.specs.BTreeMap.{insert_entry}
use Rattle.cgm_model.specs.Model.{lists_of}
use Rattle.cgm_enc_formula.proofs.TermTables.{inserted}
use Rattle.cgm_enc_formula.proofs.terms.insert_term.Goals as goal

pub returns : goal.returns
returns c =
    let k : to_z w64 (of_z w64 c.args.term.now.0) ≡ c.args.term.now.0 = search rules in
    let es = c.args.coefficients.now.entries in
    inserted (lists_of c.args.model.now) c.args.term.now es c.insert.new.self.entries c.number_variable.result
    (λ e. c.if-term-eq0.false (ap (of_z w64) e)) c.number_variable.ensures c.requires.new
    (c.in_ok-insert.ensures.entries ∙ ap (λ (z : ℤ). insert_entry nat_cmp es c.number_variable.result z) k)
