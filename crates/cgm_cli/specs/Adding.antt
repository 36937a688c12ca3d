-- Options with more of them.
use Rattle.std.specs.Prelude.{codes}
use Rattle.clap.specs.Simple.{App}
use Rattle.clap.specs.Words.{with_rule}
use Rattle.cgm_cli.specs.CommandLine.{option}

-- with those of a search that give numbers
abbrev pub with_numbers : App → App
with_numbers options =
    with_rule (with_rule (with_rule (with_rule options
    (option (codes "workers"))) (option (codes "budget"))) (option (codes "restarts")))
    (option (codes "seed"))
