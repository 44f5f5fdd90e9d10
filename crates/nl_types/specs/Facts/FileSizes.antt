-- Where files end after a write or a truncation.
use Rattle.std.proofs.Common.{◌≡◌, ℕ, ◌+◌, ◌-◌, List, ◌++◌, length, take, drop, replicate, ap, ◌∙◌, arith}
use Rattle.std.proofs.lemmas.List.{length-append, length-take, length-drop, length-replicate}
use Rattle.nl_types.specs.Plain.Calls.{overwritten}
use Rattle.nl_types.specs.Plain.CallLaws.{WrittenSizes, TruncatedSizes}

pub written_sizes : WrittenSizes
written_sizes old offset new =
    let front = take offset old in
    let zeros : List ℕ = replicate (offset - length old) 0 in
    let rest = drop (offset + length new) old in
    let whole : length (overwritten old offset new) ≡ length front + length zeros + length new + length rest =
    length-append (front ++ zeros ++ new) rest
    ∙ ap (λ n. n + length rest)
    (length-append (front ++ zeros) new ∙ ap (λ n. n + length new) (length-append front zeros)) in
    omega (
      arith,
      whole,
      length-take offset old,
      length-replicate {A = ℕ} (offset - length old) 0,
      length-drop (offset + length new) old,
    )

pub truncated_sizes : TruncatedSizes
truncated_sizes old size =
    let zeros : List ℕ = replicate (size - length old) 0 in
    omega (
      arith,
      length-append (take size old) zeros,
      length-take size old,
      length-replicate {A = ℕ} (size - length old) 0,
    )
