use Rattle.std.proofs.Common.{◌∙◌, refl, sym}
use Rattle.cgm_transcripts.proofs.comparison.first_difference.Goals as goal

pub returns-then-is_output : goal.returns-then-is_output
returns-then-is_output c = (
  (λ none. let held = c.first_file.ensures.0 none in
      record { status = sym c.code.ensures ∙ c.if-code-run.false; output = c.if-is_output.ensures.0 refl; files = held.0; kept = held.1 }),
  (λ given. c.first_file.ensures.1 (given.files, given.kept)),
)
