-- The first name that is wrong, along terms and formulas.
use Rattle.std.proofs.Common.{◌≡◌, ℕ, ◌+◌, ◌<◌, ◌≤◌, List, [], ◌∷◌, length, map, get_or, drop, Option, None, Some, refl, sym, ap, ◌∙◌, drop-cons, add-one}
use Rattle.std.specs.Option.{option_or}
use Rattle.std.proofs.lemmas.List.{drop_all}
use Rattle.cgm_base.specs.declared.fault.BadKind.{BadKind}
use Rattle.cgm_model.specs.declared.lists.Lists.{Lists}
use Rattle.cgm_model.specs.Named.{thing_named}
use Rattle.cgm_text.specs.declared.names.Wanted.TheVariants as wants
use Rattle.cgm_print.specs.declared.words.ConditionWord.{ConditionWord}
use Rattle.cgm_print.specs.declared.words.Pairing.{Pairing}
use Rattle.cgm_text.specs.declared.written.Term.{Term}
use Rattle.cgm_text.specs.declared.written.Tree.{Tree}
use Rattle.cgm_text.specs.declared.written.Tree.TheOpen.{Tree-F}
use Rattle.cgm_text.specs.declared.written.Tree.TheFolds.{fold-roll-Tree}
use Rattle.cgm_text.specs.declared.written.Tree.TheVariants.{Pair, rolls-Pair}
use Rattle.cgm_print.specs.Statements.{condition}
use Rattle.cgm_text.specs.Trees.{formula_in, term_in, tree_step}
use Rattle.cgm_text.specs.Uses.{NameUse, terms_uses, formula_uses, formulas_uses, thing_fault, first_name_fault, statement_uses}
use Rattle.cgm_print.specs.Written.{WrittenFormula, paired, formulas_of}

-- before whatever names follow, these names have this fault, or none
abbrev Comes : Lists → (List NameUse → List NameUse) → Option BadKind → Type 0
Comes m uses fault = (after : List NameUse) → first_name_fault m (uses after) ≡ option_or fault (first_name_fault m after)

pub term_fails : (m : Lists) (line : List ℕ) (terms : List Term) (i : ℕ) (d : Term) (kind : BadKind) → i < length terms → Comes m (terms_uses (term_in line (get_or terms i d) ∷ [])) (Some kind) → Comes m (terms_uses (map (term_in line) (drop i terms))) (Some kind)
term_fails m line terms i d kind within fails after =
    let split : drop i terms ≡ get_or terms i d ∷ drop (i + 1) terms = rw add-one (drop-cons terms i d within) in
    ap (λ ts. first_name_fault m (terms_uses (map (term_in line) ts) after)) split ∙ fails (terms_uses (map (term_in line) (drop (i + 1) terms)) after)

pub term_passes : (m : Lists) (line : List ℕ) (terms : List Term) (i : ℕ) (d : Term) → i < length terms → Comes m (terms_uses (term_in line (get_or terms i d) ∷ [])) None → (after : List NameUse) → first_name_fault m (terms_uses (map (term_in line) (drop i terms)) after) ≡ first_name_fault m (terms_uses (map (term_in line) (drop (i + 1) terms)) after)
term_passes m line terms i d within passes after =
    let split : drop i terms ≡ get_or terms i d ∷ drop (i + 1) terms = rw add-one (drop-cons terms i d within) in
    ap (λ ts. first_name_fault m (terms_uses (map (term_in line) ts) after)) split ∙ passes (terms_uses (map (term_in line) (drop (i + 1) terms)) after)

pub terms_end : (m : Lists) (line : List ℕ) (terms : List Term) (i : ℕ) → length terms ≤ i → (after : List NameUse) → first_name_fault m (terms_uses (map (term_in line) (drop i terms)) after) ≡ first_name_fault m after
terms_end m line terms i past after = ap (λ ts. first_name_fault m (terms_uses (map (term_in line) ts) after)) (drop_all i terms past)

pub formula_fails : (m : Lists) (line : List ℕ) (trees : List Tree) (i : ℕ) (d : Tree) (kind : BadKind) → i < length trees → Comes m (formula_uses (formula_in line (get_or trees i d))) (Some kind) → Comes m (formulas_uses (formulas_of (map (formula_in line) (drop i trees)))) (Some kind)
formula_fails m line trees i d kind within fails after =
    let split : drop i trees ≡ get_or trees i d ∷ drop (i + 1) trees = rw add-one (drop-cons trees i d within) in
    ap (λ ts. first_name_fault m (formulas_uses (formulas_of (map (formula_in line) ts)) after)) split ∙ fails (formulas_uses (formulas_of (map (formula_in line) (drop (i + 1) trees))) after)

pub formula_passes : (m : Lists) (line : List ℕ) (trees : List Tree) (i : ℕ) (d : Tree) → i < length trees → Comes m (formula_uses (formula_in line (get_or trees i d))) None → (after : List NameUse) → first_name_fault m (formulas_uses (formulas_of (map (formula_in line) (drop i trees))) after) ≡ first_name_fault m (formulas_uses (formulas_of (map (formula_in line) (drop (i + 1) trees))) after)
formula_passes m line trees i d within passes after =
    let split : drop i trees ≡ get_or trees i d ∷ drop (i + 1) trees = rw add-one (drop-cons trees i d within) in
    ap (λ ts. first_name_fault m (formulas_uses (formulas_of (map (formula_in line) ts)) after)) split ∙ passes (formulas_uses (formulas_of (map (formula_in line) (drop (i + 1) trees))) after)

pub formulas_end : (m : Lists) (line : List ℕ) (trees : List Tree) (i : ℕ) → length trees ≤ i → (after : List NameUse) → first_name_fault m (formulas_uses (formulas_of (map (formula_in line) (drop i trees))) after) ≡ first_name_fault m after
formulas_end m line trees i past after =
    ap (λ ts. first_name_fault m (formulas_uses (formulas_of (map (formula_in line) ts)) after)) (drop_all i trees past)

pair_in : (line : List ℕ) (pairing : Pairing) (one other : Tree) → formula_in line (Pair pairing one other) ≡ paired pairing (formula_in line one) (formula_in line other)
pair_in line pairing one other =
    ap (formula_in line) (sym (rolls-Pair pairing one other)) ∙ fold-roll-Tree WrittenFormula (tree_step line) (Tree-F.Pair pairing one other)

pub pair_comes : (m : Lists) (line : List ℕ) (pairing : Pairing) (tree one other : Tree) (fault : Option BadKind) → tree ≡ Pair pairing one other → Comes m (formula_uses (formula_in line one)) None → Comes m (formula_uses (formula_in line other)) fault → Comes m (formula_uses (formula_in line tree)) fault
pair_comes m line pairing tree one other fault is first second after =
    let whole = ap (formula_in line) is ∙ pair_in line pairing one other in
    ap (λ f. first_name_fault m (formula_uses f after)) whole ∙ (first (formula_uses (formula_in line other) after) ∙ second after)

or_end : (fault : Option BadKind) → option_or fault None ≡ fault
or_end None = refl
or_end (Some kind) = refl

pub comes_whole : (m : Lists) (f : WrittenFormula) (fault : Option BadKind) → Comes m (formula_uses f) fault → fault ≡ first_name_fault m (formula_uses f [])
comes_whole m f fault comes = sym (comes [] ∙ or_end fault)

pub condition_comes : (m : Lists) (what : ConditionWord) (x : List ℕ) (f : WrittenFormula) (fault : Option BadKind) → None ≡ thing_fault wants.Truth (thing_named m x) → Comes m (formula_uses f) fault → fault ≡ first_name_fault m (statement_uses (condition what x f))
condition_comes m what x f fault right comes =
    comes_whole m f fault comes ∙ ap (λ bad. option_or bad (first_name_fault m (formula_uses f []))) right
