-- How many blocks there are stays.
use Rattle.std.proofs.Common.{◌≡◌, ℕ, ◌*◌, List, [], ◌∷◌, refl, ap, ◌∙◌}
use Rattle.std.proofs.lemmas.List.{length-map, length-set}
use Rattle.nl_types.specs.declared.segment.Log.{Log}
use Rattle.nl_types.specs.Blocks.Segments.{Segments, at_rest, none_active, total_blocks, with_error}
use Rattle.nl_types.specs.Blocks.Placing.{with_log, with_logs}
use Rattle.nl_types.specs.Facts.NextLogs.{length-with_log}

pub total-with_logs : (s : Segments) (logs : List Log) (stamp : ℕ)
    → total_blocks (with_logs s logs stamp) ≡ total_blocks s
total-with_logs s [] stamp = refl
total-with_logs s (log ∷ logs) stamp =
    total-with_logs (with_log s log stamp) logs stamp
    ∙ ap (λ (n : ℕ). n * s.blocks) (length-with_log s log stamp)

pub total-with_error : (s : Segments) (segment : ℕ) → total_blocks (with_error s segment) ≡ total_blocks s
total-with_error s segment =
    ap (λ (n : ℕ). n * s.blocks) (length-set (none_active s.each) segment _ ∙ length-map s.each at_rest)
