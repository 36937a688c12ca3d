use Rattle.std.proofs.Common.{◌≡◌, ◌∙◌, ◌++◌, ℕ, ℤ, List, ap, codes, get_or, pos, refl, to_z, of_z, w64, rules}
use Rattle.std.specs.Int.{w128}
use Rattle.cgm_model.specs.declared.lists.Variable.{Variable}
use Rattle.cgm_report.specs.Report.{number_line, variable_lines}
use Rattle.cgm_report.proofs.Zipped.{zipped_at, zipped_all}
use Rattle.cgm_report.proofs.found.push_variables.Goals as goal

pub loop-at-preserved : goal.loop-at-preserved
loop-at-preserved c =
    let xs = c.args.vars.now in
    let ys = c.args.numbers.now in
    let old = c.loop-at.report.items in
    let y = get_or ys c.loop-at.at (pos 0) in
    let same : to_z w64 (of_z w64 y) ≡ y = search rules in
    let k = to_z w128 (of_z w128 c.from-number.result) in
    let wide : k ≡ c.from-number.result = search rules in
    zipped_at (λ (x : Variable) (k : ℤ). number_line (codes "var") x.name k) variable_lines (record { more = λ x y xs ys. refl }) xs ys c.loop-at.at c.index-vars-at.result (pos 0) k c.loop-at-test.true c.requires (wide ∙ c.from-number.ensures ∙ same)
    (c.args.report.now.items ++ variable_lines xs ys) old c.push_number.new.report.items c.loop-at.invariant
    (c.in_ok-push_number.ensures ∙ ap (λ (name : List ℕ). old ++ number_line (codes "var") name k) c.as_slice.ensures
    ∙ ap (λ (x : Variable). old ++ number_line (codes "var") x.name k) c.index-vars-at.is)

pub returns : goal.returns
returns c =
    let xs = c.args.vars.now in
    let ys = c.args.numbers.now in
    zipped_all variable_lines (λ ys. refl) xs ys c.loop-at.at c.loop-at-test.false (c.args.report.now.items ++ variable_lines xs ys) c.loop-at.report.items c.loop-at.invariant
