-- The rest of a line after its first token, and the lines of a group.
use Rattle.std.proofs.Common.{◌≡◌, ℕ, zero, suc, ◌+◌, ◌<◌, ◌≤◌, arith, Bool, true, false, not, ◌&&◌, ◌||◌, if◌then◌else◌, List, [], ◌∷◌, ◌++◌, drop, get_or, length, map, codes, refl, ap, sym, ◌∙◌, append_assoc, append-nil, Result, OnOk}
use Rattle.std.proofs.lemmas.List.{drop_more}
use Rattle.std.proofs.lemmas.Result.{on_ok_weaker}
use Rattle.cgm_lex.specs.Lexemes.{Lexeme, colon, word}
use Rattle.cgm_lex.specs.Spelling.{is_closing_bracket, is_opening, spelled_line, text_of}
use Rattle.cgm_model.specs.declared.lists.Lists.{Lists}
use Rattle.cgm_model.specs.declared.lists.Statement.{Statement}
use Rattle.cgm_model.specs.declared.lists.Assertion.{Assertion}
use Rattle.cgm_model.specs.declared.lists.Edge.{Edge}
use Rattle.cgm_model.specs.declared.lists.Element.{Element}
use Rattle.cgm_model.specs.declared.lists.Preference.{Preference}
use Rattle.cgm_model.specs.declared.lists.Refinement.{Refinement}
use Rattle.cgm_model.specs.declared.lists.Sum.{Sum}
use Rattle.cgm_model.specs.declared.lists.SumValue.{SumValue}
use Rattle.cgm_model.specs.declared.lists.Variable.{Variable}
use Rattle.cgm_model.specs.declared.lists.Weighing.{Weighing}
use Rattle.cgm_model.specs.declared.lists.Statement.TheVariants as statements
use Rattle.cgm_model.specs.Canonical.{statements_of}
use Rattle.cgm_print.specs.Canonical.{canonical_text, element_name, statement_lines, whole_line, written, written_refinement}
use Rattle.cgm_print.specs.Printing.{declaring, demanding, relating, rest_of_line, space_before, weighing, words_before}
use Rattle.cgm_print.specs.Statements.{statement_tokens, header_tokens}

gaps : (opens closes : Bool) → (if opens || closes then [] else codes " ") ≡ (if not opens && not closes then codes " " else [])
gaps true closes = refl
gaps false true = refl
gaps false false = refl

line_is : (t : Lexeme) (ts : List Lexeme) → spelled_line (t ∷ ts) ≡ text_of t ++ rest_of_line (not (is_opening t)) ts
line_is t [] = sym (append-nil (text_of t))
line_is t (next ∷ more) =
    ap (λ (bs : List ℕ). text_of t ++ (bs ++ spelled_line (next ∷ more))) (gaps (is_opening t) (is_closing_bracket next))
    ∙ ap (λ (bs : List ℕ). text_of t ++ (space_before (not (is_opening t)) next ++ bs)) (line_is next more)

pub line_begun : (old : List ℕ) (t : Lexeme) (ts : List Lexeme) → (old ++ text_of t) ++ rest_of_line (not (is_opening t)) ts ≡ old ++ spelled_line (t ∷ ts)
line_begun old t ts =
    append_assoc old (text_of t) (rest_of_line (not (is_opening t)) ts) ∙ ap (λ (bs : List ℕ). old ++ bs) (sym (line_is t ts))

-- one more line of a group
pub line_more : {X : Type 0} (m : Lists) (say : X → Statement) (xs : List X) (i : ℕ) (x : X) → i < length xs → x ≡ get_or xs i x → (start old ended new : List ℕ)
    → old ++ statement_lines m (map say (drop i xs)) ≡ start
    → ended ≡ old ++ spelled_line (statement_tokens (written m (say x))) → new ≡ ended ++ 10 ∷ []
    → new ++ statement_lines m (map say (drop (i + 1) xs)) ≡ start
line_more {X} m say xs i x h item start old ended new so_far line feed =
    let tokens = statement_tokens (written m (say x)) in
    let more = statement_lines m (map say (drop (i + 1) xs)) in
    let whole : new ≡ old ++ whole_line tokens = feed ∙ ap (λ (bs : List ℕ). bs ++ 10 ∷ []) line ∙ append_assoc old (spelled_line tokens) (10 ∷ []) in
    ap (λ (bs : List ℕ). bs ++ more) whole ∙ append_assoc old (whole_line tokens) more
    ∙ ap (λ (y : X). old ++ (whole_line (statement_tokens (written m (say y))) ++ more)) item
    ∙ ap (λ (ys : List X). old ++ statement_lines m (map say ys)) (sym (drop_more xs i x h)) ∙ so_far

drop_past : {X : Type 0} (xs : List X) (i : ℕ) → length xs ≤ i → drop i xs ≡ []
drop_past [] zero h = refl
drop_past [] (suc i) h = refl
drop_past (x ∷ xs) zero h = absurd (omega arith)
drop_past (x ∷ xs) (suc i) h = drop_past xs i (omega arith)

same_item : {X : Type 0} (xs : List X) (i : ℕ) (d e : X) → i < length xs → get_or xs i d ≡ get_or xs i e
same_item [] i d e h = absurd (omega arith)
same_item (x ∷ xs) zero d e h = refl
same_item (x ∷ xs) (suc i) d e h = same_item xs i d e (omega arith)

pub line_more_at : {X : Type 0} (m : Lists) (say : X → Statement) (xs : List X) (i : ℕ) (d : X) → i < length xs → (start old ended new : List ℕ)
    → old ++ statement_lines m (map say (drop i xs)) ≡ start
    → ended ≡ old ++ spelled_line (statement_tokens (written m (say (get_or xs i d)))) → new ≡ ended ++ 10 ∷ []
    → new ++ statement_lines m (map say (drop (i + 1) xs)) ≡ start
line_more_at m say xs i d h start old ended new so_far line feed =
    line_more m say xs i (get_or xs i d) h (same_item xs i d (get_or xs i d) h) start old ended new so_far line feed

pub lines_done : {X : Type 0} (m : Lists) (say : X → Statement) (xs : List X) (i : ℕ) → length xs ≤ i → (start new : List ℕ)
    → new ++ statement_lines m (map say (drop i xs)) ≡ start → new ≡ start
lines_done {X} m say xs i h start new so_far =
    sym (append-nil new) ∙ ap (λ (ys : List X). new ++ statement_lines m (map say ys)) (sym (drop_past xs i h)) ∙ so_far

pub lines_together : (m : Lists) (xs ys : List Statement) → statement_lines m (xs ++ ys) ≡ statement_lines m xs ++ statement_lines m ys
lines_together m [] ys = refl
lines_together m (s ∷ xs) ys =
    let first = whole_line (statement_tokens (written m s)) in
    ap (λ (bs : List ℕ). first ++ bs) (lines_together m xs ys) ∙ sym (append_assoc first (statement_lines m xs) (statement_lines m ys))

-- a line whose two names are these
pub two_names : {E : Type 0} (r : Result (Unit {0}) E) (w x y one other : List ℕ) (old line : List ℕ) → x ≡ one → y ≡ other
    → OnOk r (line ≡ old ++ spelled_line (word w ∷ word x ∷ word y ∷ [])) → OnOk r (line ≡ old ++ spelled_line (word w ∷ word one ∷ word other ∷ []))
two_names r w x y one other old line e f last =
    on_ok_weaker r (λ (h : line ≡ old ++ spelled_line (word w ∷ word x ∷ word y ∷ [])).
    h ∙ ap (λ (n : List ℕ). old ++ spelled_line (word w ∷ word n ∷ word y ∷ [])) e ∙ ap (λ (n : List ℕ). old ++ spelled_line (word w ∷ word one ∷ word n ∷ [])) f) last

-- the lines of groups that follow one another
two_groups : (m : Lists) (xs ys : List Statement) (t a b : List ℕ) → a ≡ t ++ statement_lines m xs → b ≡ a ++ statement_lines m ys → b ≡ t ++ statement_lines m (xs ++ ys)
two_groups m xs ys t a b a_is b_is =
    b_is ∙ ap (λ (bs : List ℕ). bs ++ statement_lines m ys) a_is ∙ append_assoc t (statement_lines m xs) (statement_lines m ys)
    ∙ ap (λ (bs : List ℕ). t ++ bs) (sym (lines_together m xs ys))

pub three_groups : (m : Lists) (xs ys zs : List Statement) (t a b c : List ℕ) → a ≡ t ++ statement_lines m xs → b ≡ a ++ statement_lines m ys → c ≡ b ++ statement_lines m zs → c ≡ t ++ statement_lines m (xs ++ (ys ++ zs))
three_groups m xs ys zs t a b c a_is b_is c_is = two_groups m xs (ys ++ zs) t a c a_is (two_groups m ys zs a b c b_is c_is)

pub four_groups : (m : Lists) (xs ys zs ws : List Statement) (t a b c d : List ℕ) → a ≡ t ++ statement_lines m xs → b ≡ a ++ statement_lines m ys → c ≡ b ++ statement_lines m zs → d ≡ c ++ statement_lines m ws → d ≡ t ++ statement_lines m (xs ++ (ys ++ (zs ++ ws)))
four_groups m xs ys zs ws t a b c d a_is b_is c_is d_is =
    two_groups m xs (ys ++ (zs ++ ws)) t a d a_is (three_groups m ys zs ws a b c d b_is c_is d_is)

four_first : (ws xs ys zs rest : List Statement) → (ws ++ (xs ++ (ys ++ zs))) ++ rest ≡ ws ++ (xs ++ (ys ++ (zs ++ rest)))
four_first ws xs ys zs rest =
    append_assoc ws (xs ++ (ys ++ zs)) rest
    ∙ ap (λ (more : List Statement). ws ++ more) (append_assoc xs (ys ++ zs) rest ∙ ap (λ (more : List Statement). xs ++ more) (append_assoc ys zs rest))

parts_are : (m : Lists) → declaring m ++ (relating m ++ (weighing m ++ demanding m)) ≡ statements_of m
parts_are m =
    four_first (map (λ (x : Element). statements.Element x) m.elements) (map (λ (x : Refinement). statements.Refine x) m.refinements) (map (λ (x : Variable). statements.Variable x) m.vars) (map (λ (x : Sum). statements.Sum x) m.sums) (relating m ++ (weighing m ++ demanding m))
    ∙ ap (λ (rest : List Statement). map (λ (x : Element). statements.Element x) m.elements ++ (map (λ (x : Refinement). statements.Refine x) m.refinements ++ (map (λ (x : Variable). statements.Variable x) m.vars ++ (map (λ (x : Sum). statements.Sum x) m.sums ++ rest))))
    (four_first (map (λ (x : Edge). statements.Contrib x) m.contribs) (map (λ (x : Edge). statements.Conflict x) m.conflicts) (map (λ (x : Edge). statements.Bind x) m.binds) (map (λ (x : Assertion). statements.Assert x) m.asserts) (weighing m ++ demanding m)
    ∙ ap (λ (rest : List Statement). map (λ (x : Edge). statements.Contrib x) m.contribs ++ (map (λ (x : Edge). statements.Conflict x) m.conflicts ++ (map (λ (x : Edge). statements.Bind x) m.binds ++ (map (λ (x : Assertion). statements.Assert x) m.asserts ++ rest))))
    (four_first (map (λ (x : SumValue). statements.Value x) m.values) (map (λ (x : Weighing). statements.Reward x) m.rewards) (map (λ (x : Weighing). statements.Penalty x) m.penalties) (map (λ (x : Preference). statements.Prefer x) m.prefers) (demanding m)))

-- all groups after the header
pub all_groups : (m : Lists) (t a b c d : List ℕ) → t ≡ whole_line header_tokens
    → a ≡ t ++ statement_lines m (declaring m) → b ≡ a ++ statement_lines m (relating m) → c ≡ b ++ statement_lines m (weighing m) → d ≡ c ++ statement_lines m (demanding m)
    → d ≡ canonical_text m
unfolding canonical_text
all_groups m t a b c d t_is a_is b_is c_is d_is =
    four_groups m (declaring m) (relating m) (weighing m) (demanding m) t a b c d a_is b_is c_is d_is
    ∙ ap (λ (bs : List ℕ). bs ++ statement_lines m (declaring m ++ (relating m ++ (weighing m ++ demanding m)))) t_is
    ∙ ap (λ (ss : List Statement). whole_line header_tokens ++ statement_lines m ss) (parts_are m)

-- the line of a refinement

words_all : (xs : List (List ℕ)) → words_before xs [] ≡ map word xs
words_all [] = refl
words_all (x ∷ xs) = ap (λ (ts : List Lexeme). word x ∷ ts) (words_all xs)

some_sources : (m : Lists) (x target : List ℕ) (ns : List ℕ) → 1 ≤ length ns → word (codes "refine") ∷ word x ∷ word target ∷ colon ∷ words_before (map (element_name m) ns) [] ≡ statement_tokens (written_refinement x target (map (element_name m) ns))
some_sources m x target [] some = absurd (omega arith)
some_sources m x target (n ∷ ns) some =
    ap (λ (ts : List Lexeme). word (codes "refine") ∷ word x ∷ word target ∷ colon ∷ word (element_name m n) ∷ ts) (words_all (map (element_name m) ns))

no_sources : (m : Lists) (x target : List ℕ) (ns : List ℕ) → length ns < 1 → word (codes "refine") ∷ word x ∷ word target ∷ colon ∷ word [] ∷ [] ≡ statement_tokens (written_refinement x target (map (element_name m) ns))
no_sources m x target [] none = refl
no_sources m x target (n ∷ ns) none = absurd (omega arith)

same_line : (m : Lists) (x name target other : List ℕ) (ns numbers : List ℕ) (old : List ℕ) → x ≡ name → target ≡ other → ns ≡ numbers
    → old ++ spelled_line (statement_tokens (written_refinement x target (map (element_name m) ns))) ≡ old ++ spelled_line (statement_tokens (written_refinement name other (map (element_name m) numbers)))
same_line m x name target other ns numbers old e f g =
    ap (λ (y : List ℕ). old ++ spelled_line (statement_tokens (written_refinement y target (map (element_name m) ns)))) e
    ∙ ap (λ (y : List ℕ). old ++ spelled_line (statement_tokens (written_refinement name y (map (element_name m) ns)))) f
    ∙ ap (λ (ks : List ℕ). old ++ spelled_line (statement_tokens (written_refinement name other (map (element_name m) ks)))) g

pub refined_some : (m : Lists) (x name target other : List ℕ) (ns numbers : List ℕ) (old line : List ℕ) → x ≡ name → target ≡ other → ns ≡ numbers → 1 ≤ length ns
    → line ≡ old ++ spelled_line (word (codes "refine") ∷ word x ∷ word target ∷ colon ∷ words_before (map (element_name m) ns) [])
    → line ≡ old ++ spelled_line (statement_tokens (written_refinement name other (map (element_name m) numbers)))
refined_some m x name target other ns numbers old line e f g some h =
    h ∙ ap (λ (ts : List Lexeme). old ++ spelled_line ts) (some_sources m x target ns some) ∙ same_line m x name target other ns numbers old e f g

pub refined_none : (m : Lists) (x name target other : List ℕ) (ns numbers : List ℕ) (old line : List ℕ) → x ≡ name → target ≡ other → ns ≡ numbers → length ns < 1
    → line ≡ old ++ spelled_line (word (codes "refine") ∷ word x ∷ word target ∷ colon ∷ word [] ∷ [])
    → line ≡ old ++ spelled_line (statement_tokens (written_refinement name other (map (element_name m) numbers)))
refined_none m x name target other ns numbers old line e f g none h =
    h ∙ ap (λ (ts : List Lexeme). old ++ spelled_line ts) (no_sources m x target ns none) ∙ same_line m x name target other ns numbers old e f g
