-- What a table of names says of a name.
use Rattle.std.specs.Prelude.{ℕ, List, Option}
use Rattle.std.specs.Str.{bytes_eq}
use Rattle.indexmap.specs.IndexMap.{get_by}
use Rattle.cgm_model.specs.declared.lists.Thing.{Thing}
use Rattle.cgm_model.specs.declared.names.NameTable.{NameTable}

abbrev pub thing_found : NameTable → List ℕ → Option Thing
thing_found t name = get_by (λ key. bytes_eq name key.items) t.entries
