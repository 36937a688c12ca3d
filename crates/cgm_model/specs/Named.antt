-- The names that lists declare, and what a name stands for.
use Rattle.std.specs.Prelude.{◌≡◌, ℕ, List, ◌++◌, Option, Some, map, slice_get, option_map}
use Rattle.std.specs.List.{position_from}
use Rattle.std.specs.Option.{option_or}
use Rattle.std.specs.Str.{bytes_eq}
use Rattle.cgm_model.specs.declared.lists.Lists.{Lists}
use Rattle.cgm_model.specs.declared.lists.Thing.{Thing}
use Rattle.cgm_model.specs.declared.lists.Thing.TheVariants as things

abbrev pub element_names : Lists → List (List ℕ)
element_names m = map (λ e. e.name) m.elements

abbrev pub refinement_names : Lists → List (List ℕ)
refinement_names m = map (λ r. r.name) m.refinements

abbrev pub variable_names : Lists → List (List ℕ)
variable_names m = map (λ v. v.name) m.vars

abbrev pub sum_names : Lists → List (List ℕ)
sum_names m = map (λ x. x.name) m.sums

-- the declared names
abbrev pub names : Lists → List (List ℕ)
names m = element_names m ++ (refinement_names m ++ (variable_names m ++ sum_names m))

-- the thing has this name
abbrev pub IsNamedThing : Lists → List ℕ → Thing → Type 0
IsNamedThing m name (things.Element k) = slice_get (element_names m) k ≡ Some name
IsNamedThing m name (things.Refinement k) = slice_get (refinement_names m) k ≡ Some name
IsNamedThing m name (things.Var k) = slice_get (variable_names m) k ≡ Some name
IsNamedThing m name (things.Sum k) = slice_get (sum_names m) k ≡ Some name

-- the place of a name in a list of names
abbrev pub place_of : List ℕ → List (List ℕ) → Option ℕ
place_of name names = position_from (bytes_eq name) 0 names

-- what the name stands for
unfoldable pub thing_named : Lists → List ℕ → Option Thing
thing_named m name =
    option_or (option_map (λ k. things.Element k) (place_of name (element_names m)))
    (option_or (option_map (λ k. things.Refinement k) (place_of name (refinement_names m)))
    (option_or (option_map (λ k. things.Var k) (place_of name (variable_names m)))
    (option_map (λ k. things.Sum k) (place_of name (sum_names m)))))
