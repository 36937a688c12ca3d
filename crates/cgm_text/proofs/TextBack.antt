-- The canonical text of a well-formed model is the text of this model.
use Rattle.std.proofs.Common.{◌≡◌, ◌≢◌, ℕ, zero, suc, ◌+◌, ◌<◌, ◌≤◌, ◌==◌, ℤ, pos, negsuc, Bool, true, false, nat_le, List, [], ◌∷◌, ◌++◌, length, map, get_or, slice_get, FitsSigned, None, Some, Result, Ok, refl, sym, ap, ◌∙◌, subst, arith, append_assoc, append-nil, w64}
use Rattle.std.specs.Prelude.{unsigned_abs}
use Rattle.std.specs.List.{All, AllByRecursion, list_all}
use Rattle.std.proofs.lemmas.Bool.{and_parts, ne_eqb}
use Rattle.std.proofs.lemmas.Bool.Decides.{nat_tests}
use Rattle.std.proofs.lemmas.List.{length-map}
use Rattle.std.proofs.lemmas.List.Elements.{All-from_recursion, recursion_from_All}
use Rattle.std.proofs.lemmas.List.Splits.{slice_split_at}
use Rattle.std.proofs.lemmas.Option.{none-some, get_or_from_slice_get}
use Rattle.cgm_base.specs.declared.limit.Which.TheVariants as limits
use Rattle.cgm_base.specs.Words.{limit_number}
use Rattle.cgm_formula.specs.declared.formula.Formula.{Formula}
use Rattle.cgm_formula.specs.declared.formula.Linear.{Linear}
use Rattle.cgm_formula.specs.declared.formula.Number.{Number}
use Rattle.cgm_formula.specs.Nodes.{formula_names as names_in, comparisons}
use Rattle.cgm_lex.specs.Lexemes.{Lexeme, line_lexemes, word}
use Rattle.cgm_lex.specs.Lines.{lines}
use Rattle.cgm_lex.specs.Readings.{Lead, gives}
use Rattle.cgm_lex.specs.Spelling.{IsPlain, spelled_line}
use Rattle.cgm_lex.proofs.Printing.{line_is_read, line_has_no_feed}
use Rattle.cgm_model.specs.declared.lists.Element.{Element}
use Rattle.cgm_model.specs.declared.lists.Lists.{Lists}
use Rattle.cgm_model.specs.declared.lists.Refinement.{Refinement}
use Rattle.cgm_model.specs.declared.lists.Statement.{Statement}
use Rattle.cgm_model.specs.declared.lists.Statement.TheVariants as statements
use Rattle.cgm_model.specs.declared.lists.Sum.{Sum}
use Rattle.cgm_model.specs.declared.lists.Thing.{Thing}
use Rattle.cgm_model.specs.declared.lists.Thing.TheVariants as things
use Rattle.cgm_model.specs.declared.lists.Variable.{Variable}
use Rattle.cgm_model.specs.Canonical.{statements_of, after, StatementsStandInOrder}
use Rattle.cgm_model.specs.Formulas.{IsKnownNumber, IsKnownTruth, IsProperFormula, every_linear, formula_of as formula_of_rule, has_small_terms}
use Rattle.cgm_model.specs.Lists.{added, no_lists}
use Rattle.cgm_model.specs.Name.{is_name}
use Rattle.cgm_model.specs.Named.{element_names, refinement_names, sum_names, variable_names, IsNamedThing, thing_named}
use Rattle.cgm_model.specs.Statement.{IsAllowed, IsProperStatement}
use Rattle.cgm_model.specs.WellFormed.{IsRule, IsValue, IsVariable, IsProperWeighing, IsWellFormedModel}
use Rattle.cgm_model.proofs.Canon.{after_all, stands_in_order}
use Rattle.cgm_model.proofs.Keeping.{IsWellFormed-added, IsWellFormed-none}
use Rattle.cgm_model.proofs.Lookups.{place, placed, thing_named-from_named}
use Rattle.cgm_text.specs.Back.{ArePlain, Fitting, Given, HasWidth, IsSide, IsTerm, IsThingThere, thing_name, Knows, StatementBack}
use Rattle.cgm_print.specs.Canonical.{canonical_text, name_at, statement_lines, whole_line, written}
use Rattle.cgm_text.specs.Line.{ComesTo, AreLexemesJudged, AreShallowJudged, IsNamedJudged, nests_too_deep, nothing, header, says, written as form_written}
use Rattle.cgm_text.specs.Meaning.{statement_of}
use Rattle.cgm_print.specs.Statements.{WrittenStatement, statement_tokens, header_tokens}
use Rattle.cgm_text.specs.Text.{HasStatements, IsTextOf, LineStatement, all_added, model_of, model_text, on_line}
use Rattle.cgm_text.specs.Uses.{first_name_fault, statement_uses}
use Rattle.cgm_text.proofs.Drafts.{all_added_push}
use Rattle.cgm_text.proofs.Spellings.{name_plain}
use Rattle.cgm_text.proofs.StatementsBack.{statement_back}

-- ---- names that stay

front_named : {X : Type 0} (f : X → List ℕ) (xs ys : List X) (k : ℕ) (n : List ℕ) → slice_get (map f xs) k ≡ Some n → slice_get (map f (xs ++ ys)) k ≡ Some n
front_named f [] ys k n e = absurd (none-some n e)
front_named f (x ∷ xs) ys zero n e = e
front_named f (x ∷ xs) ys (suc k) n e = front_named f xs ys k n e

last_named : {X : Type 0} (f : X → List ℕ) (xs : List X) (y : X) → slice_get (map f (xs ++ y ∷ [])) (length xs) ≡ Some (f y)
last_named f [] y = refl
last_named f (x ∷ xs) y = last_named f xs y

last_holds : {X : Type 0} (P : X → Type 0) (xs : List X) (y : X) → All P (xs ++ y ∷ []) → P y
last_holds P [] y h = h 0 y (omega arith)
last_holds P (x ∷ xs) y h = last_holds P xs y (λ k d l. h (suc k) d (omega arith))

named_stays : (p : Lists) (s : Statement) (n : List ℕ) (t : Thing) → IsNamedThing p n t → IsNamedThing (added p s) n t
named_stays p (statements.Element x) n (things.Element k) h = front_named (λ (y : Element). y.name) p.elements (x ∷ []) k n h
named_stays p (statements.Element x) n (things.Refinement k) h = h
named_stays p (statements.Element x) n (things.Var k) h = h
named_stays p (statements.Element x) n (things.Sum k) h = h
named_stays p (statements.Refine x) n (things.Element k) h = h
named_stays p (statements.Refine x) n (things.Refinement k) h = front_named (λ (y : Refinement). y.name) p.refinements (x ∷ []) k n h
named_stays p (statements.Refine x) n (things.Var k) h = h
named_stays p (statements.Refine x) n (things.Sum k) h = h
named_stays p (statements.Variable x) n (things.Element k) h = h
named_stays p (statements.Variable x) n (things.Refinement k) h = h
named_stays p (statements.Variable x) n (things.Var k) h = front_named (λ (y : Variable). y.name) p.vars (x ∷ []) k n h
named_stays p (statements.Variable x) n (things.Sum k) h = h
named_stays p (statements.Sum x) n (things.Element k) h = h
named_stays p (statements.Sum x) n (things.Refinement k) h = h
named_stays p (statements.Sum x) n (things.Var k) h = h
named_stays p (statements.Sum x) n (things.Sum k) h = front_named (λ (y : Sum). y.name) p.sums (x ∷ []) k n h
named_stays p (statements.Contrib x) n (things.Element k) h = h
named_stays p (statements.Contrib x) n (things.Refinement k) h = h
named_stays p (statements.Contrib x) n (things.Var k) h = h
named_stays p (statements.Contrib x) n (things.Sum k) h = h
named_stays p (statements.Conflict x) n (things.Element k) h = h
named_stays p (statements.Conflict x) n (things.Refinement k) h = h
named_stays p (statements.Conflict x) n (things.Var k) h = h
named_stays p (statements.Conflict x) n (things.Sum k) h = h
named_stays p (statements.Bind x) n (things.Element k) h = h
named_stays p (statements.Bind x) n (things.Refinement k) h = h
named_stays p (statements.Bind x) n (things.Var k) h = h
named_stays p (statements.Bind x) n (things.Sum k) h = h
named_stays p (statements.Assert x) n (things.Element k) h = h
named_stays p (statements.Assert x) n (things.Refinement k) h = h
named_stays p (statements.Assert x) n (things.Var k) h = h
named_stays p (statements.Assert x) n (things.Sum k) h = h
named_stays p (statements.Value x) n (things.Element k) h = h
named_stays p (statements.Value x) n (things.Refinement k) h = h
named_stays p (statements.Value x) n (things.Var k) h = h
named_stays p (statements.Value x) n (things.Sum k) h = h
named_stays p (statements.Reward x) n (things.Element k) h = h
named_stays p (statements.Reward x) n (things.Refinement k) h = h
named_stays p (statements.Reward x) n (things.Var k) h = h
named_stays p (statements.Reward x) n (things.Sum k) h = h
named_stays p (statements.Penalty x) n (things.Element k) h = h
named_stays p (statements.Penalty x) n (things.Refinement k) h = h
named_stays p (statements.Penalty x) n (things.Var k) h = h
named_stays p (statements.Penalty x) n (things.Sum k) h = h
named_stays p (statements.Prefer x) n (things.Element k) h = h
named_stays p (statements.Prefer x) n (things.Refinement k) h = h
named_stays p (statements.Prefer x) n (things.Var k) h = h
named_stays p (statements.Prefer x) n (things.Sum k) h = h
named_stays p (statements.Rule x) n (things.Element k) h = h
named_stays p (statements.Rule x) n (things.Refinement k) h = h
named_stays p (statements.Rule x) n (things.Var k) h = h
named_stays p (statements.Rule x) n (things.Sum k) h = h
named_stays p (statements.Interest x) n (things.Element k) h = h
named_stays p (statements.Interest x) n (things.Refinement k) h = h
named_stays p (statements.Interest x) n (things.Var k) h = h
named_stays p (statements.Interest x) n (things.Sum k) h = h
named_stays p (statements.Objective x) n (things.Element k) h = h
named_stays p (statements.Objective x) n (things.Refinement k) h = h
named_stays p (statements.Objective x) n (things.Var k) h = h
named_stays p (statements.Objective x) n (things.Sum k) h = h

named_after : (p : Lists) (ss : List Statement) (n : List ℕ) (t : Thing) → IsNamedThing p n t → IsNamedThing (after p ss) n t
named_after p [] n t h = h
named_after p (s ∷ ss) n t h = named_after (added p s) ss n t (named_stays p s n t h)

get_some : (xs : List (List ℕ)) (k : ℕ) → k < length xs → slice_get xs k ≡ Some (name_at xs k)
get_some [] k h = absurd (omega arith)
get_some (x ∷ xs) zero h = refl
get_some (x ∷ xs) (suc k) h = get_some xs k (omega arith)

-- ---- what the lists before a statement know

-- what has a name is spelled as one
named_spelled : (p : Lists) → IsWellFormedModel p → (n : List ℕ) (t : Thing) → IsNamedThing p n t → is_name n ≡ true
named_spelled p w n t h =
    let q = placed p n t h in
    subst (λ (x : List ℕ). is_name x ≡ true) q.named (w.names.spelled (place p t) [] q.within)

there_named : (p : Lists) (t : Thing) → IsThingThere p t → IsNamedThing p (thing_name p t) t
there_named p (things.Element k) h = get_some (element_names p) k (omega (arith, h, length-map p.elements (λ (x : Element). x.name)))
there_named p (things.Refinement k) h = get_some (refinement_names p) k (omega (arith, h, length-map p.refinements (λ (x : Refinement). x.name)))
there_named p (things.Var k) h = get_some (variable_names p) k (omega (arith, h, length-map p.vars (λ (x : Variable). x.name)))
there_named p (things.Sum k) h = get_some (sum_names p) k (omega (arith, h, length-map p.sums (λ (x : Sum). x.name)))

name_is : (m : Lists) (n : List ℕ) (t : Thing) → IsNamedThing m n t → thing_name m t ≡ n
name_is m n (things.Element k) h = get_or_from_slice_get (element_names m) k n [] h
name_is m n (things.Refinement k) h = get_or_from_slice_get (refinement_names m) k n [] h
name_is m n (things.Var k) h = get_or_from_slice_get (variable_names m) k n [] h
name_is m n (things.Sum k) h = get_or_from_slice_get (sum_names m) k n [] h

knows : (p m : Lists) (ss : List Statement) → IsWellFormedModel p → after p ss ≡ m → Knows p m
knows p m ss w e =
    let same : (t : Thing) → IsThingThere p t → thing_name m t ≡ thing_name p t = λ t h.
    name_is m (thing_name p t) t (subst (λ (q : Lists). IsNamedThing q (thing_name p t) t) e (named_after p ss (thing_name p t) t (there_named p t h))) in
    record {
      named = λ t h. ap (thing_named p) (same t h) ∙ thing_named-from_named p w (thing_name p t) t (there_named p t h);
      spelled = λ t h. ap is_name (same t h) ∙ named_spelled p w (thing_name p t) t (there_named p t h);
    }

-- ---- numbers

bound_fits : (k : ℤ) → unsigned_abs k ≤ 1000000000 → FitsSigned w64 k
bound_fits (pos n) h = record { sfits = omega arith }
bound_fits (negsuc n) h = record { sfits = omega arith }

number_fits : (k : ℤ) → unsigned_abs k ≤ 1000000 → FitsSigned w64 k
number_fits k h = bound_fits k (omega (arith, h))

coefficient_fits : (k : ℤ) → nat_le (unsigned_abs k) 1000000 ≡ true → FitsSigned w64 k
coefficient_fits k e = let h : unsigned_abs k ≤ 1000000 = grind (arith, nat_tests) in number_fits k h

terms_fit : (p : Lists) (ts : List (ℤ × Number)) → AllByRecursion (λ (t : ℤ × Number). IsKnownNumber p t.1) ts → list_all (λ (t : ℤ × Number). nat_le (unsigned_abs t.0) (limit_number limits.Coefficient)) ts ≡ true → AllByRecursion (IsTerm p) ts
terms_fit p [] known small = tt
terms_fit p (t ∷ ts) known small =
    let parts = and_parts (nat_le (unsigned_abs t.0) (limit_number limits.Coefficient)) (list_all (λ (u : ℤ × Number). nat_le (unsigned_abs u.0) (limit_number limits.Coefficient)) ts) small in
    ((known.0, coefficient_fits t.0 parts.0), terms_fit p ts known.1 parts.1)

sides_fit : (p : Lists) (cs : List (Linear × ℤ)) → AllByRecursion (λ (c : Linear × ℤ). All (λ (t : ℤ × Number). IsKnownNumber p t.1) c.0.terms) cs → list_all (λ (c : Linear × ℤ). has_small_terms c.0) cs ≡ true → AllByRecursion (λ (c : Linear × ℤ). FitsSigned w64 c.1) cs → AllByRecursion (IsSide p) cs
sides_fit p [] known small fits = tt
sides_fit p (c ∷ cs) known small fits =
    let parts = and_parts (has_small_terms c.0) (list_all (λ (d : Linear × ℤ). has_small_terms d.0) cs) small in
    (record { terms = terms_fit p c.0.terms (recursion_from_All (λ (t : ℤ × Number). IsKnownNumber p t.1) c.0.terms known.0) parts.0; fits = fits.0 }, sides_fit p cs known.1 parts.1 fits.1)

formula_given : (p : Lists) (f : Formula) → IsProperFormula p f → every_linear has_small_terms f ≡ true → AllByRecursion (λ (c : Linear × ℤ). FitsSigned w64 c.1) (comparisons f) → Given p f
formula_given p f proper small fits = record {
  known = recursion_from_All (IsKnownTruth p) (names_in f) proper.names;
  sides = sides_fit p (comparisons f) (recursion_from_All (λ (c : Linear × ℤ). All (λ (t : ℤ × Number). IsKnownNumber p t.1) c.0.terms) (comparisons f) proper.numbers) small fits;
  full = proper.full;
}

-- the name that a statement adds is a word
added_plain : (p : Lists) → IsWellFormedModel p → (n : List ℕ) (t : Thing) → IsNamedThing p n t → IsPlain (word n)
added_plain p w n t h = name_plain n (named_spelled p w n t h)

fitting : (p : Lists) (s : Statement) → IsWellFormedModel (added p s) → IsProperStatement p s → HasWidth s → Fitting p s
fitting p (statements.Element e) w proper wide = added_plain (added p (statements.Element e)) w e.name (things.Element (length p.elements)) (last_named (λ (x : Element). x.name) p.elements e)
fitting p (statements.Refine r) w proper wide = added_plain (added p (statements.Refine r)) w r.name (things.Refinement (length p.refinements)) (last_named (λ (x : Refinement). x.name) p.refinements r)
fitting p (statements.Variable v) w proper wide =
    let is : IsVariable v = last_holds IsVariable p.vars v w.vars in
    (added_plain (added p (statements.Variable v)) w v.name (things.Var (length p.vars)) (last_named (λ (x : Variable). x.name) p.vars v), (bound_fits v.lo is.low, bound_fits v.hi is.high))
fitting p (statements.Sum x) w proper wide = added_plain (added p (statements.Sum x)) w x.name (things.Sum (length p.sums)) (last_named (λ (y : Sum). y.name) p.sums x)
fitting p (statements.Contrib e) w proper wide = tt
fitting p (statements.Conflict e) w proper wide = tt
fitting p (statements.Bind e) w proper wide = tt
fitting p (statements.Assert a) w proper wide = tt
fitting p (statements.Value v) w proper wide =
    let is : IsValue (added p (statements.Value v)) v = last_holds (IsValue (added p (statements.Value v))) p.values v w.values in
    number_fits v.k is.small
fitting p (statements.Reward v) w proper wide =
    let is : IsProperWeighing (added p (statements.Reward v)) v = last_holds (IsProperWeighing (added p (statements.Reward v))) p.rewards v w.rewards in
    number_fits v.k is.small
fitting p (statements.Penalty v) w proper wide =
    let is : IsProperWeighing (added p (statements.Penalty v)) v = last_holds (IsProperWeighing (added p (statements.Penalty v))) p.penalties v w.penalties in
    number_fits v.k is.small
fitting p (statements.Prefer x) w proper wide = tt
fitting p (statements.Rule r) w proper wide =
    let is : IsRule (added p (statements.Rule r)) r = last_holds (IsRule (added p (statements.Rule r))) p.rules r w.rules in
    formula_given p (formula_of_rule r) proper.formula is.small wide
fitting p (statements.Interest k) w proper wide = tt
fitting p (statements.Objective o) w proper wide = tt

-- ---- lines

comes_by : (p : Lists) (s : Statement) (v : WrittenStatement) → IsAllowed p s → StatementBack p s v → (bytes : List ℕ) → line_lexemes bytes ≡ Ok (statement_tokens v) → ComesTo (Some p) bytes (says s)
comes_by p s v allowed back bytes e =
    let judged : IsNamedJudged None p s (says s) = (refl, allowed) in
    let meant : IsNamedJudged None p (statement_of p v) (says s) = subst (λ (t : Statement). IsNamedJudged None p t (says s)) (sym back.meaning) judged in
    let named : IsNamedJudged (first_name_fault p (statement_uses v)) p (statement_of p v) (says s) = subst (λ o. IsNamedJudged o p (statement_of p v) (says s)) (sym back.names) meant in
    let shallow : AreShallowJudged false (Some p) (statement_tokens v) (says s) = (form_written v, (refl, named)) in
    let deep : AreShallowJudged (nests_too_deep (statement_tokens v)) (Some p) (statement_tokens v) (says s) = subst (λ (b : Bool). AreShallowJudged b (Some p) (statement_tokens v) (says s)) (sym back.shallow) shallow in
    subst (λ (r : Result (List Lexeme) _). AreLexemesJudged (Some p) r (says s)) (sym e) deep

plain_all : (ts : List Lexeme) → ArePlain ts → All IsPlain ts
plain_all ts h = All-from_recursion IsPlain ts h

no_feed_test : (bs : List ℕ) → All (λ byte. byte ≢ 10) bs → All (λ byte. (byte == 10) ≡ false) bs
no_feed_test bs h = λ k d l. ne_eqb (get_or bs k d) 10 (h k d l)

line_first : (ts : List Lexeme) (rest : List ℕ) → All IsPlain ts → lines (whole_line ts ++ rest) ≡ spelled_line ts ∷ lines rest
line_first ts rest plain_ =
    ap lines (append_assoc (spelled_line ts) (10 ∷ []) rest)
    ∙ slice_split_at (λ byte. byte == 10) (spelled_line ts) 10 rest (no_feed_test (spelled_line ts) (line_has_no_feed ts plain_)) refl

tagged : ℕ → List Statement → List LineStatement
tagged line [] = []
tagged line (s ∷ ss) = on_line line s ∷ tagged (line + 1) ss

abbrev pub AllHaveWidth : List Statement → Type 0
AllHaveWidth ss = AllByRecursion HasWidth ss

lead : (m p : Lists) (said : List LineStatement) (line : ℕ) (ss : List Statement) → model_of said ≡ p → IsWellFormedModel p → StatementsStandInOrder p ss → after p ss ≡ m → AllHaveWidth ss
    → Lead model_text (Some said) line (lines (statement_lines m ss)) (gives (Some (said ++ tagged line ss)))
unfolding tagged
lead m p said line [] is w stand e wide =
    (Ok (Some said), ((nothing, (refl, refl)), ap (λ (xs : List LineStatement). gives (Some xs)) (append-nil said)))
lead m p said line (s ∷ ss) is w stand e wide =
    let proper = stand.0 in
    let allowed = stand.1 in
    let after_w = IsWellFormed-added p s w proper allowed in
    let v = written m s in
    let back : StatementBack p s v = statement_back p m (knows p m (s ∷ ss) w e) s proper (fitting p s after_w proper wide.0) in
    let plain_ = plain_all (statement_tokens v) back.words in
    let comes = comes_by p s v allowed back (spelled_line (statement_tokens v)) (line_is_read (statement_tokens v) plain_) in
    let comes_said : ComesTo (Some (model_of said)) (spelled_line (statement_tokens v)) (says s) = subst (λ (q : Lists). ComesTo (Some q) (spelled_line (statement_tokens v)) (says s)) (sym is) comes in
    let next = said ++ on_line line s ∷ [] in
    let is_next : model_of next ≡ added p s = all_added_push no_lists said (on_line line s) ∙ ap (λ (q : Lists). added q s) is in
    let later = lead m (added p s) next (line + 1) ss is_next after_w stand.2 e wide.1 in
    let later_here : Lead model_text (Some next) (line + 1) (lines (statement_lines m ss)) (gives (Some (said ++ on_line line s ∷ tagged (line + 1) ss))) =
    subst (λ (xs : List LineStatement). Lead model_text (Some next) (line + 1) (lines (statement_lines m ss)) (gives (Some xs))) (append_assoc said (on_line line s ∷ []) (tagged (line + 1) ss)) later in
    subst (λ (bs : List (List ℕ)). Lead model_text (Some said) line bs (gives (Some (said ++ on_line line s ∷ tagged (line + 1) ss)))) (sym (line_first (statement_tokens v) (statement_lines m ss) plain_)) (Ok (Some next), ((says s, (comes_said, refl)), later_here))

all_tagged : (p : Lists) (line : ℕ) (ss : List Statement) → all_added p (tagged line ss) ≡ after p ss
unfolding tagged
all_tagged p line [] = refl
all_tagged p line (s ∷ ss) = all_tagged (added p s) (line + 1) ss

header_plain : All IsPlain header_tokens
header_plain = plain_all header_tokens ((omega arith, (refl, refl)), (record { sfits = omega arith }, tt))

header_comes : ComesTo None (spelled_line header_tokens) header
header_comes = subst (λ (r : Result (List Lexeme) _). AreLexemesJudged None r header) (sym (line_is_read header_tokens header_plain)) refl

-- statements that stand in order, each on its own line behind the header, are a text of the lists that they give
pub statements_back : (ss : List Statement) → StatementsStandInOrder no_lists ss → AllHaveWidth ss → IsTextOf (whole_line header_tokens ++ statement_lines (after no_lists ss) ss) (after no_lists ss)
unfolding HasStatements
statements_back ss stand wide =
    let m = after no_lists ss in
    let rest = statement_lines m ss in
    let body_lead = lead m no_lists [] 2 ss refl IsWellFormed-none stand refl wide in
    let whole : Lead model_text None 1 (lines (whole_line header_tokens ++ rest)) (gives (Some (tagged 2 ss))) =
    subst (λ (bs : List (List ℕ)). Lead model_text None 1 bs (gives (Some (tagged 2 ss)))) (sym (line_first header_tokens rest header_plain)) (Ok (Some []), ((header, (header_comes, refl)), body_lead)) in
    (tagged 2 ss, (whole, sym (all_tagged no_lists 2 ss)))

pub text_back : (m : Lists) → IsWellFormedModel m → AllHaveWidth (statements_of m) → IsTextOf (canonical_text m) m
unfolding HasStatements canonical_text
text_back m w wide =
    let ss = statements_of m in
    let rest = statement_lines m ss in
    let body_lead = lead m no_lists [] 2 ss refl IsWellFormed-none (stands_in_order m w) (after_all m) wide in
    let whole : Lead model_text None 1 (lines (whole_line header_tokens ++ rest)) (gives (Some (tagged 2 ss))) =
    subst (λ (bs : List (List ℕ)). Lead model_text None 1 bs (gives (Some (tagged 2 ss)))) (sym (line_first header_tokens rest header_plain)) (Ok (Some []), ((header, (header_comes, refl)), body_lead)) in
    (tagged 2 ss, (whole, sym (all_tagged no_lists 2 ss ∙ after_all m)))
