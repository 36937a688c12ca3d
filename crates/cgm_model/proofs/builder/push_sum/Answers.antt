use Rattle.std.proofs.Common.{◌≡◌, ℕ, List, Some, cond, is_ok, length, subst}
use Rattle.std.specs.Str.{bytes_eq}
use Rattle.cgm_model.specs.declared.aids.Aids.{Aids}
use Rattle.cgm_model.specs.declared.lists.Sum.{Sum}
use Rattle.cgm_model.specs.declared.lists.Thing.TheVariants as things
use Rattle.cgm_model.specs.Keeping.{AreFor}
use Rattle.cgm_model.specs.NameTable.{thing_found}
use Rattle.cgm_model.proofs.Aiding.{AreFor-names, AreFor-declared, AreFor-sum, after_push}
use Rattle.cgm_model.proofs.Fresh.{fresh_sum}
use Rattle.cgm_model.proofs.builder.push_sum.Goals as goal

pub returns-in_err-declare-clause-aids : goal.returns-in_err-declare-clause-aids
returns-in_err-declare-clause-aids c =
    AreFor-names c.args.lists.now c.args.aids.now c.declare.new.names c.in_err-declare.ensures.others c.requires.aids

pub returns-clause-aids : goal.returns-clause-aids
returns-clause-aids c =
    let m = c.args.lists.now in
    let x = c.args.sum in
    let old : Aids = c.args.aids.now in
    let new : Aids = record old { names = c.declare.new.names } in
    let S : List ℕ → ℕ → Type 0 = λ n k. (q : List ℕ) → thing_found c.declare.new.names q ≡ cond (bytes_eq q n) (Some (things.Sum k)) (thing_found old.names q) in
    let set : S x.name (length m.sums) = subst (λ n. S n (length m.sums)) c.as_slice-2.ensures (subst (λ (xs : List Sum). S c.as_slice-2.result.now (length xs)) c.as_slice.ensures c.in_ok-declare.ensures.set) in
    let fresh = fresh_sum m x c.requires.allowed in
    let before = AreFor-declared m x.name (things.Sum (length m.sums)) old c.declare.new.names set fresh c.requires.aids in
    let after = AreFor-sum m x old c.declare.new.names set fresh c.requires.aids in
    after_push (λ (xs : List Sum). AreFor (record m { sums = xs }) new) (is_ok c.push.result) m.sums x c.push.new.self c.push.ensures.items before after
