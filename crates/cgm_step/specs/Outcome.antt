-- What a test of an entry answers.
use Rattle.std.specs.Prelude.{◌≡◌, Option, Some, None, Result, Ok, Err}

-- the fault, if there is one
abbrev pub IsVerdict : {T E : Type 0} → Option E → Result T E → Type 0
IsVerdict fault (Ok done) = fault ≡ None
IsVerdict fault (Err why) = fault ≡ Some why
