use Rattle.std.proofs.Common.{◌≡◌, ◌∙◌, ℕ, ◌<◌, ◌≤◌, Bool, ◌&&◌, List, length, get_or, false, not, refl, sym, ap}
use Rattle.std.specs.Prelude.{slice_get}
use Rattle.std.proofs.lemmas.Option.{slice_get_past, slice_get_read}
use Rattle.cgm_model.specs.declared.lists.Element.{Element}
use Rattle.cgm_obj.specs.Counts.{is_free_goal, is_goal}
use Rattle.cgm_obj.proofs.counts.is_free_goal.Goals as goal

none_here : (items xs : List Element) (k : ℕ) → items ≡ xs → length items ≤ k → false ≡ is_free_goal (slice_get xs k)
none_here items xs k same h = rw (sym same, slice_get_past items k h) refl

some_here : (items xs : List Element) (k : ℕ) (e : Element) (kind : Bool) → items ≡ xs → k < length items → e ≡ get_or items k e → kind ≡ is_goal e.kind → kind && not e.must ≡ is_free_goal (slice_get xs k)
some_here items xs k e kind same h at is =
    ap (λ (t : Bool). t && not e.must) is ∙ rw (sym same, slice_get_read items (length items) k e refl h at) refl

pub returns-in-None : goal.returns-in-None
returns-in-None c =
    none_here c.as_slice.result.now c.args.model.now.elements c.args.element c.as_slice.ensures c.in-None.ensures.lookup.3

pub returns-then-is_goal : goal.returns-then-is_goal
returns-then-is_goal c =
    let e = c.in-Some.e.now in
    ap (λ (t : Bool). t && not e.must) (sym c.if-is_goal.true)
    ∙ some_here c.as_slice.result.now c.args.model.now.elements c.args.element e c.is_goal.result
    c.as_slice.ensures c.in-Some.ensures.lookup.3.0 c.in-Some.ensures.lookup.1 c.is_goal.ensures

pub returns-else-is_goal : goal.returns-else-is_goal
returns-else-is_goal c =
    let e = c.in-Some.e.now in
    c.if-is_goal.false
    ∙ ap (λ (t : Bool). t && not e.must) (sym c.if-is_goal.false)
    ∙ some_here c.as_slice.result.now c.args.model.now.elements c.args.element e c.is_goal.result
    c.as_slice.ensures c.in-Some.ensures.lookup.3.0 c.in-Some.ensures.lookup.1 c.is_goal.ensures
