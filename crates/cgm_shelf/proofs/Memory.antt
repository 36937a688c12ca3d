-- What a change of a map from names to bytes does to its files.
use Rattle.std.proofs.Common.{◌≡◌, ℕ, List, ◌++◌, Vec, String, Some, Bool, true, false, cond, IsSomeAnd, refl, sym, ◌∙◌, ap}
use mathlib.Core.Path.{fun_ext}
use Rattle.std.specs.declared.alloc.Global.{Global}
use Rattle.std.specs.Option.{option_map}
use Rattle.std.specs.BTreeMap.{BTreeMap, get_by_text, UpdatesBy}
use Rattle.std.specs.Cmp.Lexicographic.{slice_cmp}
use Rattle.std.specs.Ordering.{nat_cmp}
use Rattle.std.specs.Str.{bytes_eq}
use Rattle.std.specs.String.{string_cmp, string_bytes}
use Rattle.std.proofs.lemmas.Bool.{false_from_ne_true}
use Rattle.std.proofs.lemmas.Map.Text.{btree_map_updates_text}
use Rattle.std.proofs.lemmas.Slice.Eq.{bytes_eq-Decides}
use Rattle.cgm_shelf.specs.Shelf.{OnlyChanges}
use Rattle.cgm_shelf.specs.MemFiles.{files_in}

module _ (name : List ℕ) (old new : BTreeMap (String Global) (Vec ℕ Global)) (v : Vec ℕ Global) (updates : UpdatesBy string_cmp (λ k. slice_cmp nat_cmp name (string_bytes k)) old new (Some v)) where
  found : (other : List ℕ) → files_in new other ≡ option_map (λ w. w.items) (cond (bytes_eq name other) (Some v) (get_by_text old other))
  found other = ap (option_map (λ (w : Vec ℕ Global). w.items)) (btree_map_updates_text name old new (Some v) updates other)

  found_at : (other : List ℕ) (b : Bool) → bytes_eq name other ≡ b → files_in new other ≡ option_map (λ w. w.items) (cond b (Some v) (get_by_text old other))
  found_at other b e = found other ∙ ap (λ (t : Bool). option_map (λ (w : Vec ℕ Global). w.items) (cond t (Some v) (get_by_text old other))) e

  -- a value that is put under a name is the file of that name
  pub files-put : OnlyChanges (files_in old) (files_in new) name v.items
  files-put = record {
    named = found_at name true ((bytes_eq-Decides name name).1 refl);
    others = λ other apart. found_at other false (false_from_ne_true (bytes_eq name other) (λ e. apart (sym ((bytes_eq-Decides name other).0 e))));
  }

  same_at : (other : List ℕ) (b : Bool) → bytes_eq name other ≡ b → files_in old name ≡ Some v.items → files_in new other ≡ files_in old other
  same_at other true e held = found_at other true e ∙ sym held ∙ ap (files_in old) ((bytes_eq-Decides name other).0 e)
  same_at other false e held = found_at other false e

  -- a value with the bytes that were there changes no file
  pub files-same : files_in old name ≡ Some v.items → files_in new ≡ files_in old
  files-same held = fun_ext (λ other. same_at other (bytes_eq name other) refl held)

  -- a value with more bytes at its end is an append
  pub files-append : (held : Vec ℕ Global) (bytes : List ℕ) → get_by_text old name ≡ Some held → v.items ≡ held.items ++ bytes → IsSomeAnd (files_in old name) (λ file. OnlyChanges (files_in old) (files_in new) name (file ++ bytes))
  files-append held bytes there longer = let file : files_in old name ≡ Some held.items = ap (option_map (λ (w : Vec ℕ Global). w.items)) there in rw (file, ← longer) files-put
