-- A text that is written goal by goal.
use Rattle.std.proofs.Common.{◌≡◌, ℕ, zero, suc, ◌+◌, ◌-◌, ◌<◌, ◌≤◌, List, [], ◌∷◌, ◌++◌, codes, length, drop, get_or, refl, sym, ap, ◌∙◌, append_assoc, append-nil, arith}
use Rattle.std.proofs.lemmas.List.{drop_more}
use Rattle.std.specs.Fmt.{decimal}
use Rattle.cgm_base.specs.Printed.{line}
use Rattle.cgm_gen.specs.declared.costs.Costs.{Costs}
use Rattle.cgm_gen.specs.GeneratedText.{chain_lines, each_goal, goal_lines, link_line, text_of_costs, value_lines}

drop_past : {X : Type 0} (xs : List X) (i : ℕ) → length xs ≤ i → drop i xs ≡ []
drop_past [] zero h = refl
drop_past [] (suc i) h = refl
drop_past (x ∷ xs) zero h = absurd (omega arith)
drop_past (x ∷ xs) (suc i) h = drop_past xs i (omega arith)

module _ (give : ℕ → Costs → List ℕ) where
  -- one more goal was written
  pub goal_more : (all : List Costs) (i : ℕ) (one : Costs) → i < length all → one ≡ get_or all i one → (start old new lines : List ℕ)
      → old ++ each_goal give i (drop i all) ≡ start → lines ≡ give i one → new ≡ old ++ lines
      → new ++ each_goal give (i + 1) (drop (i + 1) all) ≡ start
  goal_more all i one h item start old new lines so_far are written =
      let more = each_goal give (i + 1) (drop (i + 1) all) in
      ap (λ (bs : List ℕ). bs ++ more) (written ∙ ap (λ (bs : List ℕ). old ++ bs) are)
      ∙ append_assoc old (give i one) more
      ∙ ap (λ (c : Costs). old ++ (give i c ++ more)) item
      ∙ ap (λ (cs : List Costs). old ++ each_goal give i cs) (sym (drop_more all i one h)) ∙ so_far

  pub goals_done : (all : List Costs) (i : ℕ) → length all ≤ i → (start new : List ℕ)
      → new ++ each_goal give i (drop i all) ≡ start → new ≡ start
  goals_done all i h start new so_far =
      sym (append-nil new) ∙ ap (λ (cs : List Costs). new ++ each_goal give i cs) (sym (drop_past all i h)) ∙ so_far

-- one more link was written
pub link_more : (place left rest : ℕ) (start old new line : List ℕ) → rest ≡ suc left → old ++ chain_lines place rest ≡ start → line ≡ link_line place → new ≡ old ++ line → new ++ chain_lines (place + 1) left ≡ start
link_more place left rest start old new line more so_far is written =
    let later = chain_lines (place + 1) left in
    ap (λ (bs : List ℕ). bs ++ later) (written ∙ ap (λ (bs : List ℕ). old ++ bs) is)
    ∙ append_assoc old (link_line place) later
    ∙ ap (λ (k : ℕ). old ++ chain_lines place k) (sym more) ∙ so_far

pub links_done : (place rest : ℕ) (start new : List ℕ) → rest ≡ 0 → new ++ chain_lines place rest ≡ start → new ≡ start
links_done place rest start new none so_far =
    sym (append-nil new) ∙ ap (λ (k : ℕ). new ++ chain_lines place k) (sym none) ∙ so_far

-- ---- brackets of lines

-- two names behind words
pub two_flat : (x a y b : List ℕ) → x ++ a ++ y ++ b ≡ x ++ (a ++ (y ++ b))
two_flat x a y b = simp append_assoc refl

-- three names
pub three_flat : (x a y b z c : List ℕ) → x ++ a ++ y ++ b ++ z ++ c ≡ x ++ (a ++ (y ++ (b ++ (z ++ c))))
three_flat x a y b z c = simp append_assoc refl

-- five lines
pub five_flat : (a b c d e : List ℕ) → a ++ b ++ c ++ d ++ e ≡ a ++ (b ++ (c ++ (d ++ e)))
five_flat a b c d e = simp append_assoc refl

-- a line of two names
two_line : (x a y b z : List ℕ) → (x ++ a ++ y ++ b) ++ z ≡ x ++ (a ++ (y ++ (b ++ z)))
two_line x a y b z = simp append_assoc refl

pub link_flat : (place : ℕ) → link_line place ≡ codes "contrib B" ++ (decimal (place + 1) ++ (codes " B" ++ (decimal (place + 1 + 1) ++ codes "\n")))
link_flat place = two_line (codes "contrib B") (decimal (place + 1)) (codes " ") (66 ∷ decimal (place + 1 + 1)) (10 ∷ [])

value_both : (x n y a z w b : List ℕ) → ((x ++ n ++ y ++ a) ++ z) ++ ((w ++ n ++ y ++ b) ++ z) ≡ x ++ (n ++ (y ++ (a ++ (z ++ (w ++ (n ++ (y ++ (b ++ z))))))))
value_both x n y a z w b = simp append_assoc refl

pub value_flat : (place : ℕ) (c : Costs) → value_lines place c
    ≡ codes "value cost A" ++ (decimal (place + 1) ++ (codes " " ++ (decimal c.of_a ++ (codes "\nvalue cost B" ++ (decimal (place + 1) ++ (codes " " ++ (decimal c.of_b ++ codes "\n")))))))
value_flat place c =
    value_both (codes "value cost A") (decimal (place + 1)) (codes " ") (decimal c.of_a) (10 ∷ []) (codes "value cost B") (decimal c.of_b)

goal_all : (x n y z w v r s g t a u b : List ℕ)
    → ((x ++ n ++ y) ++ z) ++ ((w ++ n) ++ z) ++ ((v ++ n) ++ z) ++ ((r ++ n ++ s ++ (g ++ n) ++ t ++ (a ++ n)) ++ z) ++ ((u ++ n ++ s ++ (g ++ n) ++ t ++ (b ++ n)) ++ z)
    ≡ (x ++ (n ++ (y ++ (z ++ (w ++ (n ++ (z ++ (v ++ (n ++ (z ++ (r ++ (n ++ (s ++ (g ++ (n ++ (t ++ (a ++ n)))))))))))))))))
    ++ (z ++ (u ++ (n ++ (s ++ (g ++ (n ++ (t ++ (b ++ (n ++ z)))))))))
goal_all x n y z w v r s g t a u b = simp append_assoc refl

-- as `format!` joins more than twelve pieces
pub goal_flat : (place : ℕ) → goal_lines place
    ≡ (codes "goal G" ++ (decimal (place + 1) ++ (codes " must\ntask B" ++ (decimal (place + 1) ++ (codes "\ntask A" ++ (decimal (place + 1)
    ++ (codes "\nrefine R" ++ (decimal (place + 1) ++ (codes " G" ++ (decimal (place + 1) ++ (codes " : A" ++ decimal (place + 1))))))))))))
    ++ (codes "\nrefine S" ++ (decimal (place + 1) ++ (codes " G" ++ (decimal (place + 1) ++ (codes " : B" ++ (decimal (place + 1) ++ codes "\n"))))))
goal_flat place =
    goal_all (codes "goal G") (decimal (place + 1)) (codes " must") (10 ∷ []) (codes "task B") (codes "task A") (codes "refine R") (codes " ") (codes "G") (codes " : ")
    (codes "A") (codes "refine S") (codes "B")

-- ---- the whole

-- what comes behind a piece that was written
behind : (old new piece rest : List ℕ) → new ≡ old ++ piece → new ++ rest ≡ old ++ (piece ++ rest)
behind old new piece rest is = ap (λ (bs : List ℕ). bs ++ rest) is ∙ append_assoc old piece rest

-- the pieces of a text, one after another
pub whole_text : (all : List Costs) (goals : ℕ) (none headed declared_ summed valued chained whole : List ℕ) → goals ≡ length all
    → none ≡ [] → headed ≡ none ++ line (codes "cgm 1")
    → declared_ ≡ headed ++ each_goal (λ place one. goal_lines place) 0 all
    → summed ≡ declared_ ++ line (codes "sum cost")
    → valued ≡ summed ++ each_goal value_lines 0 all
    → chained ≡ valued ++ chain_lines 8 (goals - 9)
    → whole ≡ chained ++ (line (codes "require (<= cost 800)") ++ line (codes "objective min cost"))
    → whole ≡ text_of_costs all
whole_text all goals none headed declared_ summed valued chained whole count empty is_headed is_declared is_summed is_valued is_chained is_whole =
    let head : List ℕ = line (codes "cgm 1") in
    let lines_ : List ℕ = each_goal (λ place (one : Costs). goal_lines place) 0 all in
    let sum : List ℕ = line (codes "sum cost") in
    let values : List ℕ = each_goal value_lines 0 all in
    let chain : List ℕ = chain_lines 8 (goals - 9) in
    let last : List ℕ = line (codes "require (<= cost 800)") ++ line (codes "objective min cost") in
    is_whole
    ∙ behind valued chained chain last is_chained
    ∙ behind summed valued values (chain ++ last) is_valued
    ∙ behind declared_ summed sum (values ++ (chain ++ last)) is_summed
    ∙ behind headed declared_ lines_ (sum ++ (values ++ (chain ++ last))) is_declared
    ∙ behind none headed head (lines_ ++ (sum ++ (values ++ (chain ++ last)))) is_headed
    ∙ ap (λ (bs : List ℕ). bs ++ (head ++ (lines_ ++ (sum ++ (values ++ (chain ++ last)))))) empty
    ∙ ap (λ (n : ℕ). head ++ (lines_ ++ (sum ++ (values ++ (chain_lines 8 (n - 9) ++ last))))) count
