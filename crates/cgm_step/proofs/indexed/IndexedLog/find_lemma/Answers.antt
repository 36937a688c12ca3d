use Rattle.std.proofs.Common.{ap, sym, refl, ◌∙◌}
use Rattle.std.specs.declared.option.Option.TheVariants.{Some, None}
use Rattle.cgm_step.proofs.Names.{lemma_found, no_lemma_found}
use Rattle.cgm_step.proofs.indexed.IndexedLog.find_lemma.Goals as goal

pub returns-in-None : goal.returns-in-None
returns-in-None c = no_lemma_found c.args.problem.now c.args.self.now c.args.place None c.in-None.ensures refl

pub returns-in-Some-Best : goal.returns-in-Some-Best
returns-in-Some-Best c =
    no_lemma_found c.args.problem.now c.args.self.now c.args.place _ (sym (ap Some c.in-Some-Best.field-0-is) ∙ c.in-Some-Best.ensures) refl

pub returns-in-Some-Lemma : goal.returns-in-Some-Lemma
returns-in-Some-Lemma c =
    lemma_found c.args.problem.now c.args.self.now c.args.place c.in-Some-Lemma.field-0-0 c.in-Some-Lemma.bound c.in-Some-Lemma.clause c.in-Some-Lemma.field-0-2
    c.as_slice.result.now c.requires (sym (ap Some c.in-Some-Lemma.field-0-is) ∙ c.in-Some-Lemma.ensures) c.as_slice.ensures
