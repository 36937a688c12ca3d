use Rattle.std.proofs.Common.{◌<◌, ◌≤◌, ◌∙◌, length, arith}
use Rattle.std.specs.Prelude.{flat_map}
use Rattle.std.specs.List.{zip}
use Rattle.std.proofs.lemmas.List.{get_or_default}
use Rattle.cgm_model.specs.Model.{lists_of}
use Rattle.cgm_encode.specs.Problem.{preference_clauses}
use Rattle.cgm_encode.proofs.PairedPlaces.{pair_end, pair_first, pair_more}
use Rattle.cgm_encode.proofs.preferences.add_preferences.Goals as goal

pub add_preference-requires-clause-room : goal.add_preference-requires-clause-room
add_preference-requires-clause-room c =
    let f = preference_clauses (lists_of c.args.model.now) in
    let xs = c.args.variables.now in
    let ys = c.args.prefers.now in
    let i = c.loop-place.place in
    let same = c.requires.count in
    let second : i < length ys = c.loop-place-test.true in
    let first : i < length xs = omega arith in
    pair_first f c.args.builder.now c.loop-place.builder (flat_map f (zip xs ys)) xs ys i c.variable_at.result _
    first second (c.variable_at.ensures ∙ get_or_default xs i 0 c.variable_at.result first) c.loop-place.invariant

pub loop-place-preserved : goal.loop-place-preserved
loop-place-preserved c =
    let f = preference_clauses (lists_of c.args.model.now) in
    let xs = c.args.variables.now in
    let ys = c.args.prefers.now in
    let i = c.loop-place.place in
    let same = c.requires.count in
    let second : i < length ys = c.loop-place-test.true in
    let first : i < length xs = omega arith in
    pair_more f c.args.builder.now c.loop-place.builder c.add_preference.new.builder (flat_map f (zip xs ys)) xs ys i c.variable_at.result _
    first second (c.variable_at.ensures ∙ get_or_default xs i 0 c.variable_at.result first) c.loop-place.invariant c.in_ok-add_preference.ensures

pub returns : goal.returns
returns c =
    let f = preference_clauses (lists_of c.args.model.now) in
    let xs = c.args.variables.now in
    let ys = c.args.prefers.now in
    let i = c.loop-place.place in
    let same = c.requires.count in
    let over : length ys ≤ i = omega arith in
    let past : length xs ≤ i = omega arith in
    pair_end f c.args.builder.now c.loop-place.builder (flat_map f (zip xs ys)) xs ys i past over c.loop-place.invariant
