-- Handing on what a part says as what the whole says.
use Rattle.std.proofs.Common.{ℕ, ◌<◌, IfOk, Result, arith}
use Rattle.std.proofs.lemmas.Result.{IfOk-weaker}
use Rattle.cgm_text.specs.declared.written.FormStop.{FormStop}
use Rattle.cgm_text.specs.declared.written.FormStop.TheVariants.{Form, Memory}
use Rattle.cgm_text.specs.Trees.{IsFor}

pub weaken : (P Q : Type 0) (s : FormStop) → IsFor P s → (P → Q) → IsFor Q s
weaken P Q Form p f = f p
weaken P Q Memory p f = tt

-- fewer than the rest are fewer than all
pub fewer_left : {X Y : Type 0} (r : Result X Y) (size : X → ℕ) (rest all : ℕ) → rest < all → IfOk r (λ x. size x < rest) → IfOk r (λ x. size x < all)
fewer_left r size rest all less = IfOk-weaker r (λ x. size x < rest) (λ x. size x < all) (λ x fewer. omega (arith, fewer, less))
