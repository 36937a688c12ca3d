use Rattle.std.proofs.Common.{◌≡◌, ◌∙◌, ℕ, List, ap, arith, length, subst, sym}
use Rattle.std.specs.Prelude.{flat_map}
use Rattle.std.specs.List.{All, range_with_len, zip}
use Rattle.std.proofs.lemmas.List.FromFn.{length-range_with_len}
use Rattle.cgm_atom.specs.declared.constraints.Clause.{Clause}
use Rattle.cgm_atom.specs.Adding.{CanTake, with_written}
use Rattle.cgm_atom.specs.Instance.{Instance, var_count}
use Rattle.cgm_model.specs.declared.lists.Preference.{Preference}
use Rattle.cgm_model.specs.Model.{lists_of}
use Rattle.cgm_model.specs.Statement.{IsProperPreference}
use Rattle.cgm_encode.specs.Building.{with_ranges}
use Rattle.cgm_encode.specs.Problem.{bits, preference_clauses}
use Rattle.cgm_encode.specs.Stages.{rules_instance}
use Rattle.cgm_encode.specs.Variables.{first_preference}
use Rattle.cgm_encode.proofs.Growing.{choices_grown, rules_count}
use Rattle.cgm_encode.proofs.KnownParts.{known_parts}
use Rattle.cgm_encode.proofs.Measured.{few_parts, preferences_fit, preferences_zipped}
use Rattle.cgm_encode.proofs.encoding.add_preference_part.Goals as goal

pub add_bits-requires : goal.add_bits-requires
add_bits-requires c =
    let m = lists_of c.args.model.now in
    let b = c.args.builder.now in
    let count : var_count b ≡ first_preference m = ap (λ (p : Instance). var_count p) c.requires ∙ rules_count m in
    let prefers = c.as_slice-prefers.ensures in
    let long : length c.as_slice-prefers.result.now ≡ length m.prefers = ap (λ (ps : List Preference). length ps) prefers in
    let few = (few_parts m c.args.model.now.well_formed).variables in
    omega (arith, count, long, few)

pub add_preferences-requires-clause-count : goal.add_preferences-requires-clause-count
add_preferences-requires-clause-count c =
    ap (λ (vs : List ℕ). length vs) (c.as_slice.ensures.value ∙ c.in_ok-variables.ensures.variables)
    ∙ length-range_with_len (var_count c.args.builder.now) (length c.as_slice-prefers.result.now)

pub add_preferences-requires-clause-room : goal.add_preferences-requires-clause-room
add_preferences-requires-clause-room c =
    let m = lists_of c.args.model.now in
    let b = c.args.builder.now in
    let count : var_count b ≡ first_preference m = ap (λ (p : Instance). var_count p) c.requires ∙ rules_count m in
    let prefers = c.as_slice-prefers.ensures in
    let long : length c.as_slice-prefers.result.now ≡ length m.prefers = ap (λ (ps : List Preference). length ps) prefers in
    let variables : c.in_ok-variables.variables.items ≡ range_with_len (first_preference m) (length m.prefers) =
    c.in_ok-variables.ensures.variables
    ∙ ap (λ (n : ℕ). range_with_len n (length c.as_slice-prefers.result.now)) count
    ∙ ap (λ (k : ℕ). range_with_len (first_preference m) k) long in
    let own = c.as_slice.ensures.value ∙ variables in
    let begun : c.add_bits.new.builder ≡ with_ranges (rules_instance m) (bits (length m.prefers)) =
    c.in_ok-variables.ensures.added
    ∙ ap (λ (p : Instance). with_ranges p (bits (length c.as_slice-prefers.result.now))) c.requires
    ∙ ap (λ (k : ℕ). with_ranges (rules_instance m) (bits k)) long in
    let written : flat_map (preference_clauses m) (zip c.as_slice.result.now c.as_slice-prefers.result.now) ≡ flat_map (preference_clauses m) (zip c.as_slice.result.now m.prefers) =
    ap (λ (ps : List Preference). flat_map (preference_clauses m) (zip c.as_slice.result.now ps)) prefers in
    subst (λ (p : Instance). CanTake p (flat_map (preference_clauses m) (zip c.as_slice.result.now c.as_slice-prefers.result.now))) (sym begun)
    (subst (λ (clauses : List Clause). CanTake (with_ranges (rules_instance m) (bits (length m.prefers))) clauses) (sym (written ∙ preferences_zipped m c.as_slice.result.now own))
    (preferences_fit m c.args.model.now.well_formed))

pub add_preferences-requires-clause-known : goal.add_preferences-requires-clause-known
add_preferences-requires-clause-known c =
    let m = lists_of c.args.model.now in
    let parts = known_parts m c.args.model.now.well_formed in
    subst (λ (ps : List Preference). All (IsProperPreference m) ps) (sym c.as_slice-prefers.ensures) (λ k d l. (parts.better k d l, parts.worse k d l))

pub returns-clause-added : goal.returns-clause-added
returns-clause-added c =
    let m = lists_of c.args.model.now in
    let b = c.args.builder.now in
    let count : var_count b ≡ first_preference m = ap (λ (p : Instance). var_count p) c.requires ∙ rules_count m in
    let prefers = c.as_slice-prefers.ensures in
    let long : length c.as_slice-prefers.result.now ≡ length m.prefers = ap (λ (ps : List Preference). length ps) prefers in
    let variables : c.in_ok-variables.variables.items ≡ range_with_len (first_preference m) (length m.prefers) =
    c.in_ok-variables.ensures.variables
    ∙ ap (λ (n : ℕ). range_with_len n (length c.as_slice-prefers.result.now)) count
    ∙ ap (λ (k : ℕ). range_with_len (first_preference m) k) long in
    let own = c.as_slice.ensures.value ∙ variables in
    let begun : c.add_bits.new.builder ≡ with_ranges (rules_instance m) (bits (length m.prefers)) =
    c.in_ok-variables.ensures.added
    ∙ ap (λ (p : Instance). with_ranges p (bits (length c.as_slice-prefers.result.now))) c.requires
    ∙ ap (λ (k : ℕ). with_ranges (rules_instance m) (bits k)) long in
    let written : flat_map (preference_clauses m) (zip c.as_slice.result.now c.as_slice-prefers.result.now) ≡ flat_map (preference_clauses m) (zip c.as_slice.result.now m.prefers) =
    ap (λ (ps : List Preference). flat_map (preference_clauses m) (zip c.as_slice.result.now ps)) prefers in
    c.in_ok-add_preferences.ensures
    ∙ ap (λ (clauses : List Clause). with_written c.add_bits.new.builder clauses) written
    ∙ ap (λ (p : Instance). with_written p (flat_map (preference_clauses m) (zip c.as_slice.result.now m.prefers))) begun
    ∙ choices_grown m c.as_slice.result.now own

pub returns-clause-variables : goal.returns-clause-variables
returns-clause-variables c =
    let m = lists_of c.args.model.now in
    let b = c.args.builder.now in
    let count : var_count b ≡ first_preference m = ap (λ (p : Instance). var_count p) c.requires ∙ rules_count m in
    let prefers = c.as_slice-prefers.ensures in
    let long : length c.as_slice-prefers.result.now ≡ length m.prefers = ap (λ (ps : List Preference). length ps) prefers in
    let variables : c.in_ok-variables.variables.items ≡ range_with_len (first_preference m) (length m.prefers) =
    c.in_ok-variables.ensures.variables
    ∙ ap (λ (n : ℕ). range_with_len n (length c.as_slice-prefers.result.now)) count
    ∙ ap (λ (k : ℕ). range_with_len (first_preference m) k) long in
    variables
