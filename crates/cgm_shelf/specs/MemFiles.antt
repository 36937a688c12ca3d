-- The files that a map from names to bytes holds.
use Rattle.std.specs.Prelude.{ℕ, ◌<◌, ◌^◌, length, Vec, String, Some, None, IfSome}
use Rattle.std.specs.declared.alloc.Global.{Global}
use Rattle.std.specs.declared.option.Option.{Option}
use Rattle.std.specs.Option.{option_map}
use Rattle.std.specs.BTreeMap.{BTreeMap, get_by_text}
use Rattle.std.proofs.Common.{arith}
use Rattle.cgm_shelf.specs.Shelf.{Files, AllBelow}

abbrev pub files_in : BTreeMap (String Global) (Vec ℕ Global) → Files
files_in map name = option_map (λ v. v.items) (get_by_text map name)

is_small :
    (o : Option (Vec ℕ Global))
    → IfSome (option_map (λ v. v.items) o) (λ bytes. length bytes < 2 ^ 63)
is_small None = tt
is_small (Some v) = omega (arith, v.ok.0, v.ok.1, v.small)

-- a vector has fewer than 2^63 bytes
pub files_small :
    (map : BTreeMap (String Global) (Vec ℕ Global)) → AllBelow (2 ^ 63) (Some (files_in map))
files_small map = λ name. is_small (get_by_text map name)
