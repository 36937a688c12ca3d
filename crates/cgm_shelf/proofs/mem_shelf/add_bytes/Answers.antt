use Rattle.std.proofs.Common.{◌≡◌, ◌∙◌, ℕ, Vec, Some, Ok, Err, OnErr, sym, ap, rules}
use Rattle.std.specs.BTreeMap.{get_by_text}
use Rattle.std.specs.declared.alloc.Global.{Global}
use Rattle.std.specs.declared.result.Result.{Result}
use Rattle.std.specs.Option.{option_copied_mut, option_map}
use Rattle.cgm_shelf.proofs.Memory.{files-append, files-same}
use Rattle.cgm_shelf.proofs.mem_shelf.add_bytes.Goals as goal

OnErr_always : {T E P : Type 0} (r : Result T E) → P → OnErr r P
OnErr_always (Ok x) p = tt
OnErr_always (Err e) p = p

pub returns-in_err-extend_from_slice-clause-err : goal.returns-in_err-extend_from_slice-clause-err
returns-in_err-extend_from_slice-clause-err c =
    let files = c.args.files.now in
    let w = c.extend_from_slice.new.self in
    let there : get_by_text files c.args.name.now ≡ Some c.unwrap-held.result.now = sym c.get_mut.ensures.value ∙ ap option_copied_mut c.unwrap-held.ensures in
    let same = files-same c.args.name.now files (c.get_mut.follows.lender w) w ((c.get_mut.follows.holds w).3 (search rules)) (ap (option_map (λ (v : Vec ℕ Global). v.items)) there ∙ ap Some (sym c.in_err-extend_from_slice.ensures.items)) in
    OnErr_always c.from_residual.result same

pub returns-clause-ok : goal.returns-clause-ok
returns-clause-ok c =
    let files = c.args.files.now in
    let w = c.extend_from_slice.new.self in
    let there : get_by_text files c.args.name.now ≡ Some c.unwrap-held.result.now = sym c.get_mut.ensures.value ∙ ap option_copied_mut c.unwrap-held.ensures in
    files-append c.args.name.now files (c.get_mut.follows.lender w) w ((c.get_mut.follows.holds w).3 (search rules)) c.unwrap-held.result.now c.args.bytes.now there c.in_ok-extend_from_slice.ensures.items
