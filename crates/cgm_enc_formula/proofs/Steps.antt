-- Parts that are added one after another: what was added with what is left comes to all.
use Rattle.std.proofs.Common.{◌≡◌, ℕ, ◌+◌, List, [], ◌∷◌, ◌++◌, length, map, refl, sym, ap, ◌∙◌, subst, arith}
use Rattle.std.specs.Prelude.{ℤ, pos, replicate}
use Rattle.std.proofs.lemmas.List.{append-nil, append_assoc, length-append, length-map, length-replicate, map-append, replicate-append-replicate}
use Rattle.cgm_atom.specs.declared.constraints.Clause.{Clause}
use Rattle.cgm_atom.specs.declared.constraints.Row.{Row}
use Rattle.cgm_atom.specs.Building.{without_repeats}
use Rattle.cgm_atom.specs.Instance.{Instance, var_count}
use Rattle.cgm_enc_formula.specs.Building.{HasRoomFor, Part, both, definition_part, definitions_part, with_part}
use Rattle.cgm_enc_formula.specs.Definitions.{Definition, definition_clauses, definition_rows}
use Rattle.cgm_enc_formula.specs.Rules.{clauses_from, rows_from}
use Rattle.cgm_enc_formula.proofs.DefinitionLists.{clauses_both, rows_both}

-- ---- a problem by its changed lists

abbrev pub made : Instance → List ℤ → List ℤ → List Clause → List Row → Instance
made p lower upper clauses rows =
    record p { bounds = record { lower = lower; upper = upper }; clauses = clauses; rows = rows }

pub same_made : (p : Instance) (l k u v : List ℤ) (c d : List Clause) (r s : List Row) → l ≡ k → u ≡ v → c ≡ d → r ≡ s → made p l u c r ≡ made p k v d s
same_made p l k u v c d r s el eu ec er =
    ap (λ (x : List ℤ). made p x u c r) el ∙ ap (λ (x : List ℤ). made p k x c r) eu ∙ ap (λ (x : List Clause). made p k v x r) ec
    ∙ ap (λ (x : List Row). made p k v d x) er

longer : (xs : List ℤ) (i j : ℕ) (z : ℤ) → (xs ++ replicate i z) ++ replicate j z ≡ xs ++ replicate (i + j) z
longer xs i j z =
    append_assoc xs (replicate i z) (replicate j z) ∙ ap (λ (ys : List ℤ). xs ++ ys) (replicate-append-replicate i j z)

pub with_both : (p : Instance) (a b : Part) → with_part (with_part p a) b ≡ with_part p (both a b)
with_both p a b =
    same_made p ((p.bounds.lower ++ replicate a.names (pos 0)) ++ replicate b.names (pos 0)) (p.bounds.lower ++ replicate (a.names + b.names) (pos 0))
    ((p.bounds.upper ++ replicate a.names (pos 1)) ++ replicate b.names (pos 1)) (p.bounds.upper ++ replicate (a.names + b.names) (pos 1))
    ((p.clauses ++ map without_repeats a.clauses) ++ map without_repeats b.clauses) (p.clauses ++ map without_repeats (a.clauses ++ b.clauses))
    ((p.rows ++ a.rows) ++ b.rows) (p.rows ++ (a.rows ++ b.rows))
    (longer p.bounds.lower a.names b.names (pos 0))
    (longer p.bounds.upper a.names b.names (pos 1))
    (append_assoc p.clauses (map without_repeats a.clauses) (map without_repeats b.clauses)
    ∙ ap (λ (clauses : List Clause). p.clauses ++ clauses) (sym (map-append without_repeats a.clauses b.clauses)))
    (append_assoc p.rows a.rows b.rows)

abbrev pub no_part : Part
no_part = record { names = 0; clauses = []; rows = [] }

pub with_none : (p : Instance) → with_part p no_part ≡ p
with_none p =
    same_made p (p.bounds.lower ++ []) p.bounds.lower (p.bounds.upper ++ []) p.bounds.upper (p.clauses ++ []) p.clauses (p.rows ++ []) p.rows
    (append-nil p.bounds.lower) (append-nil p.bounds.upper) (append-nil p.clauses) (append-nil p.rows)

pub with-count : (p : Instance) (a : Part) → var_count (with_part p a) ≡ var_count p + a.names
with-count p a =
    length-append p.bounds.lower (replicate a.names (pos 0)) ∙ ap (λ (k : ℕ). length p.bounds.lower + k) (length-replicate a.names (pos 0))

-- ---- room

pub first_fits : (p : Instance) (a b : Part) → HasRoomFor p (both a b) → HasRoomFor p a
first_fits p a b h =
    let names = h.names in
    let clauses = h.clauses in
    let rows = h.rows in
    let all_clauses = length-append a.clauses b.clauses in
    let all_rows = length-append a.rows b.rows in
    record { names = omega arith; clauses = omega arith; rows = omega arith }

pub rest_fits : (p : Instance) (a b : Part) → HasRoomFor p (both a b) → HasRoomFor (with_part p a) b
rest_fits p a b h =
    let names = h.names in
    let clauses = h.clauses in
    let rows = h.rows in
    let all_clauses = length-append a.clauses b.clauses in
    let all_rows = length-append a.rows b.rows in
    let count = with-count p a in
    let new_clauses = length-append p.clauses (map without_repeats a.clauses) in
    let same = length-map a.clauses without_repeats in
    let new_rows = length-append p.rows a.rows in
    record { names = omega arith; clauses = omega arith; rows = omega arith }

-- ---- one part is added, and the rest is left

pub record IsLeft (old : Instance) (all : Part) (new : Instance) (rest : Part) : Type 0 where
  pub room : HasRoomFor new rest
  pub total : with_part new rest ≡ with_part old all

pub left_all : (p : Instance) (all : Part) → HasRoomFor p all → IsLeft p all p all
left_all p all h = record { room = h; total = refl }

pub left_first : (old p : Instance) (all a b rest : Part) → rest ≡ both a b → IsLeft old all p rest → HasRoomFor p a
left_first old p all a b rest e far = first_fits p a b (subst (λ (x : Part). HasRoomFor p x) e far.room)

pub left_more : (old p q : Instance) (all a b rest : Part) → rest ≡ both a b → IsLeft old all p rest → q ≡ with_part p a → IsLeft old all q b
left_more old p q all a b rest e far is =
    let room = rest_fits p a b (subst (λ (x : Part). HasRoomFor p x) e far.room) in
    let total = with_both p a b ∙ ap (λ (x : Part). with_part p x) (sym e) ∙ far.total in
    subst (λ (n : Instance). IsLeft old all n b) (sym is) (record { room = room; total = total })

pub left_none : (old p : Instance) (all : Part) → IsLeft old all p no_part → p ≡ with_part old all
left_none old p all far = sym (with_none p) ∙ far.total

-- the last part is added
pub left_last : (old p q : Instance) (all a rest : Part) → rest ≡ a → IsLeft old all p rest → q ≡ with_part p a → q ≡ with_part old all
left_last old p q all a rest e far is = is ∙ ap (λ (x : Part). with_part p x) (sym e) ∙ far.total

-- ---- parts of definitions

abbrev pub record_part : ℕ → List Clause → List Row → Part
record_part names clauses rows = record { names = names; clauses = clauses; rows = rows }

pub same_part : (n k : ℕ) (c d : List Clause) (r s : List Row) → n ≡ k → c ≡ d → r ≡ s → record_part n c r ≡ record_part k d s
same_part n k c d r s en ec er =
    ap (λ (x : ℕ). record_part x c r) en ∙ ap (λ (x : List Clause). record_part k x r) ec ∙ ap (λ (x : List Row). record_part k d x) er

pub definitions_both : (n : ℕ) (xs ys : List Definition) → definitions_part n (xs ++ ys) ≡ both (definitions_part n xs) (definitions_part (n + length xs) ys)
definitions_both n xs ys =
    same_part (length (xs ++ ys)) (length xs + length ys) (clauses_from n (xs ++ ys)) (clauses_from n xs ++ clauses_from (n + length xs) ys)
    (rows_from n (xs ++ ys)) (rows_from n xs ++ rows_from (n + length xs) ys)
    (length-append xs ys) (clauses_both n xs ys) (rows_both n xs ys)

pub one_definition : (n : ℕ) (d : Definition) → definitions_part n (d ∷ []) ≡ definition_part n d
one_definition n d =
    same_part 1 1 (definition_clauses n d ++ []) (definition_clauses n d) (definition_rows n d ++ []) (definition_rows n d)
    refl (append-nil (definition_clauses n d)) (append-nil (definition_rows n d))
