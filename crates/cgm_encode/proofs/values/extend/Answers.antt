use Rattle.cgm_model.specs.Model.{lists_of}
use Rattle.cgm_encode.proofs.Promises.{extended_promise}
use Rattle.cgm_encode.proofs.values.extend.Goals as goal

pub push_values-requires-clause-fits : goal.push_values-requires-clause-fits
push_values-requires-clause-fits c = c.requires.realizes.fits

pub returns : goal.returns
returns c =
    extended_promise (lists_of c.args.model.now) c.args.earlier.now.pairs c.args.enc.now c.args.assignment.now c.push_values.new.out.items
    c.args.model.now.well_formed c.requires.realizes c.requires.encoding c.in_ok-push_values.ensures
