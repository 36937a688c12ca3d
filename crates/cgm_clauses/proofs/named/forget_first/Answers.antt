use Rattle.std.proofs.Common.{◌≡◌, ◌<◌, ◌≢◌, length, rules}
use Rattle.std.specs.List.{AllWithin, HoldsAt}
use Rattle.cgm_clauses.proofs.Naming.{forgotten_at, forgotten_none}
use Rattle.cgm_clauses.proofs.named.forget_first.Goals as goal

pub returns-then-place-len : goal.returns-then-place-len
returns-then-place-len c =
    let short : c.place_of-place.result < length c.args.clauses.now.items = search rules in
    let there : c.place_of-place.result < length c.as_slice.result.now = search rules in
    let others : AllWithin (λ n. n.name ≢ c.args.name) c.args.clauses.now.items 0 c.place_of-place.result = rw c.as_slice.ensures.value at c.place_of-place.ensures.others in
    let found : HoldsAt (λ n. n.name ≡ c.args.name) c.args.clauses.now.items c.place_of-place.result = rw c.as_slice.ensures.value at (c.place_of-place.ensures.found there) in
    rw c.remove.ensures.items (forgotten_at c.args.name c.args.clauses.now.items c.place_of-place.result others short found)

pub returns-else-place-len : goal.returns-else-place-len
returns-else-place-len c =
    let all : c.place_of-place.result ≡ length c.args.clauses.now.items = search rules in
    let others : AllWithin (λ n. n.name ≢ c.args.name) c.args.clauses.now.items 0 c.place_of-place.result = rw c.as_slice.ensures.value at c.place_of-place.ensures.others in
    forgotten_none c.args.name c.args.clauses.now.items (rw all at others)
