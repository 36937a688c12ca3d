-- The formulas that written formulas stand for, one after another.
use Rattle.std.proofs.Common.{◌≡◌, ℕ, ◌+◌, ◌<◌, ◌≤◌, List, [], ◌∷◌, ◌++◌, length, map, get_or, take, refl, sym, ap, ◌∙◌}
use Rattle.std.proofs.lemmas.List.{take_all, take_more, map_push}
use Rattle.cgm_formula.specs.declared.formula.Formula.{Formula}
use Rattle.cgm_model.specs.declared.lists.Lists.{Lists}
use Rattle.cgm_text.specs.declared.written.Tree.{Tree}
use Rattle.cgm_text.specs.Meaning.{formula_of, each_formula_of}
use Rattle.cgm_text.specs.Trees.{formula_in}
use Rattle.cgm_print.specs.Written.{WrittenFormula, formulas_of}

each_of_list : (m : Lists) (fs : List WrittenFormula) → each_formula_of m (formulas_of fs) ≡ map (formula_of m) fs
each_of_list m [] = refl
each_of_list m (f ∷ fs) = ap (λ gs. formula_of m f ∷ gs) (each_of_list m fs)

pub formulas_all : (m : Lists) (line : List ℕ) (trees : List Tree) (i : ℕ) (first : Formula) (all : List Formula) → length trees ≤ i → all ≡ first ∷ map (formula_of m) (map (formula_in line) (take i trees)) → all ≡ first ∷ each_formula_of m (formulas_of (map (formula_in line) trees))
formulas_all m line trees i first all past so_far =
    let whole = ap (λ ts. first ∷ map (formula_of m) (map (formula_in line) ts)) (take_all i trees past) in
    so_far ∙ (whole ∙ ap (λ fs. first ∷ fs) (sym (each_of_list m (map (formula_in line) trees))))

-- one more element of a list that is made by two functions after a first one, in a loop over the elements
pub pushed_at : {X Y Z : Type 0} (f : Y → Z) (g : X → Y) (xs : List X) (i : ℕ) (d : X) (first z : Z) (old new : List Z) → i < length xs → z ≡ f (g (get_or xs i d)) → old ≡ first ∷ map f (map g (take i xs)) → new ≡ old ++ z ∷ [] → new ≡ first ∷ map f (map g (take (i + 1) xs))
pushed_at {X} {Y} {Z} f g xs i d first z old new within z_is so_far pushed =
    let x = get_or xs i d in
    let once = ap (map g) (take_more xs i d within) ∙ map_push g (take i xs) x in
    let twice = ap (map f) once ∙ map_push f (map g (take i xs)) (g x) in
    let more = ap (λ (l : List Z). l ++ z ∷ []) so_far ∙ ap (λ (y : Z). first ∷ (map f (map g (take i xs)) ++ y ∷ [])) z_is in
    pushed ∙ (more ∙ ap (λ (l : List Z). first ∷ l) (sym twice))

pub pushed_more : {X Y Z : Type 0} (f : Y → Z) (g : X → Y) (xs : List X) (i : ℕ) (x : X) (first z : Z) (old new : List Z) → i < length xs → x ≡ get_or xs i x → z ≡ f (g x) → old ≡ first ∷ map f (map g (take i xs)) → new ≡ old ++ z ∷ [] → new ≡ first ∷ map f (map g (take (i + 1) xs))
pushed_more {X} {Y} {Z} f g xs i x first z old new within is z_is so_far pushed =
    pushed_at f g xs i x first z old new within (z_is ∙ ap (λ (y : X). f (g y)) is) so_far pushed

-- the whole list, after the loop
pub pushed_all : {X Y Z : Type 0} (f : Y → Z) (g : X → Y) (xs : List X) (i : ℕ) (first : Z) (all : List Z) → length xs ≤ i → all ≡ first ∷ map f (map g (take i xs)) → all ≡ first ∷ map f (map g xs)
pushed_all {X} {Y} {Z} f g xs i first all past so_far =
    so_far ∙ ap (λ (ys : List X). first ∷ map f (map g ys)) (take_all i xs past)
