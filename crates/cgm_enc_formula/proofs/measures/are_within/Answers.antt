-- What the terms so far have left, and what the rest takes.
use Rattle.std.proofs.Common.{◌≡◌, ℕ, ◌+◌, ◌-◌, ◌*◌, ◌<◌, ◌≤◌, List, drop, get_or, length, refl, sym, ap, arith}
use Rattle.std.specs.Prelude.{ℤ, pos, unsigned_abs}
use Rattle.std.proofs.lemmas.Bool.{true≢false}
use Rattle.std.proofs.lemmas.List.{drop_all, drop_more}
use Rattle.cgm_atom.specs.Bounds.{Bounds}
use Rattle.cgm_atom.specs.Limits.{greatest_size, measure}
use Rattle.cgm_formula.specs.declared.formula.Number.{Number}
use Rattle.cgm_formula.specs.declared.formula.Number.TheVariants as number
use Rattle.cgm_model.specs.declared.lists.Lists.{Lists}
use Rattle.cgm_model.specs.Model.{lists_of}
use Rattle.cgm_enc_formula.specs.Terms.{number_variable, variable_terms}
use Rattle.cgm_enc_formula.proofs.measures.are_within.Goals as goal

-- the measure of terms, by the number of the place where the loop stands
module _ (m : Lists) (b : Bounds) (terms : List (ℤ × Number)) (i : ℕ) where
  abbrev whole : List (ℤ × Number) → ℕ
  whole ts = measure b (variable_terms m ts)

  abbrev own : ℤ × Number → ℕ
  own t = unsigned_abs t.0 * greatest_size b (number_variable m t.1)

  opened : (none : ℤ × Number) → i < length terms → whole (drop i terms) ≡ own (get_or terms i none) + whole (drop (i + 1) terms)
  opened none h = ap (λ (ts : List (ℤ × Number)). whole ts) (drop_more terms i none h)

  ended : length terms ≤ i → whole (drop i terms) ≡ 0
  ended h = ap (λ (ts : List (ℤ × Number)). whole ts) (drop_all i terms h)

passed : (room most all left own rest from share : ℕ) → room + all ≡ most + left → left ≡ own + rest → from ≡ room → share ≡ own → from < share → all ≤ most → ⊥
passed room most all left own rest from share so_far opened is same more small = omega arith

one_more : (room most all left own rest from share : ℕ) → room + all ≡ most + left → left ≡ own + rest → from ≡ room → share ≡ own → share ≤ from → (room - share) + all ≡ most + rest
one_more room most all left own rest from share so_far opened is same few = omega arith

at_end : (room most all left : ℕ) → room + all ≡ most + left → left ≡ 0 → all ≤ most
at_end room most all left so_far ended = omega arith

pub term_measure-share-requires-clause-known : goal.term_measure-share-requires-clause-known
term_measure-share-requires-clause-known c = c.requires.known c.loop-term.term-index (pos 0, number.Var 0) c.loop-term-test.true

pub returns-then-share-from : goal.returns-then-share-from
returns-then-share-from c =
    let m = lists_of c.args.model.now in
    let b = c.args.builder.now.bounds in
    let terms = c.args.terms.now in
    let i = c.loop-term.term-index in
    let none : ℤ × Number = (pos 0, number.Var 0) in (
      λ no. absurd (true≢false (sym no)),
      λ small. absurd (passed c.loop-term.room c.args.most (whole m b terms i terms) (whole m b terms i (drop i terms)) (own m b terms i (get_or terms i none)) (whole m b terms i (drop (i + 1) terms)) c.from.result c.term_measure-share.result
          c.loop-term.invariant (opened m b terms i none c.loop-term-test.true) c.from.ensures c.term_measure-share.ensures c.if-share-from.true small),
    )

pub loop-term-preserved : goal.loop-term-preserved
loop-term-preserved c =
    let m = lists_of c.args.model.now in
    let b = c.args.builder.now.bounds in
    let terms = c.args.terms.now in
    let i = c.loop-term.term-index in
    let none : ℤ × Number = (pos 0, number.Var 0) in
    one_more c.loop-term.room c.args.most (whole m b terms i terms) (whole m b terms i (drop i terms)) (own m b terms i (get_or terms i none)) (whole m b terms i (drop (i + 1) terms)) c.from.result c.term_measure-share.result
    c.loop-term.invariant (opened m b terms i none c.loop-term-test.true) c.from.ensures c.term_measure-share.ensures c.if-share-from.false

pub returns : goal.returns
returns c =
    let m = lists_of c.args.model.now in
    let b = c.args.builder.now.bounds in
    let terms = c.args.terms.now in
    let i = c.loop-term.term-index in (
      λ yes. at_end c.loop-term.room c.args.most (whole m b terms i terms) (whole m b terms i (drop i terms)) c.loop-term.invariant (ended m b terms i c.loop-term-test.false),
      λ small. refl,
    )
