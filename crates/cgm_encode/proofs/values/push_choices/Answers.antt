use Rattle.cgm_model.specs.Model.{lists_of}
use Rattle.cgm_encode.proofs.ToldRules.{choices_told}
use Rattle.cgm_encode.proofs.values.push_choices.Goals as goal

pub returns : goal.returns
returns c =
    choices_told (lists_of c.args.model.now) c.args.assignment.now c.requires.fits
    c.args.out.now.items c.push_numbers.new.out.items c.push_rules.new.out.items c.push_preferences.new.out.items
    c.args.sums.now c.rules.result.now c.as_slice.result.now
    c.args.model.now.well_formed c.requires.empty c.requires.sums c.in_ok-push_numbers.ensures c.rules.ensures.items c.in_ok-push_rules.ensures
    c.as_slice.ensures c.in_ok-push_preferences.ensures
