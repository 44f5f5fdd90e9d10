use Rattle.std.proofs.Common.{◌≡◌, ℕ, ap, arith, length, ◌∙◌}
use Rattle.std.proofs.lemmas.List.{take_at}
use Rattle.nl_tree.specs.Facts.ReadingCalls.{are_bytes_from}
use Rattle.nl_tree.proofs.reading.file_bytes.Goals as goal

pub returns-clause-bytes : goal.returns-clause-bytes
returns-clause-bytes g c = λ held h.
    let size = c.size.ensures held h in
    let filled : length c.read_bytes.new.into ≡ c.in_ok-bytes.bytes.len =
    c.read_bytes.auto.into ∙ c.as_mut_slice.ensures.len in
    let made : length c.read_bytes.new.into ≡ c.min-count.result =
    c.read_bytes.auto.into ∙ (ap (length {A = ℕ}) c.as_mut_slice.ensures.value ∙ c.in_ok-bytes.ensures.len) in
    rw (c.from_vec.ensures ∙ take_at c.read_bytes.new.into _ c.in_ok-bytes.bytes.len filled)
    (are_bytes_from (held c.args.file) c.args.offset c.args.len c.read_bytes.new.into
    (omega (arith, size, made)) (c.read_bytes.ensures held h))
