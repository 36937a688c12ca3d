use Rattle.std.proofs.Common.{map, rules, ◌≢◌}
use Rattle.std.specs.String.{string_bytes}
use Rattle.clap.specs.declared.error.kind.ErrorKind.TheVariants as kinds
use Rattle.clap.specs.Words.{app_of, found_of, rows_of, kind_of}
use Rattle.cgm_cli.proofs.Taking.{refused, simple, taken}
use Rattle.cgm_cli.proofs.options.given.Goals as goal

pub returns-in-Ok : goal.returns-in-Ok
returns-in-Ok c =
    let a = app_of c.args.options in
    taken a (map string_bytes c.args.words.now) (rows_of (found_of c.in-Ok.matches)) (c.in-Ok.ensures.kinds c.requires) (c.in-Ok.ensures.matches (simple a c.requires)).0

pub returns : goal.returns
returns c =
    let a = app_of c.args.options in
    let other : kind_of c.in-Err.error ≢ kinds.OutOfMemory = search rules in
    refused a (map string_bytes c.args.words.now) (kind_of c.in-Err.error) other (c.in-Err.ensures.kinds c.requires)
