use Rattle.std.proofs.Common.{arith, ◌≡◌, length}
use Rattle.std.proofs.lemmas.List.{length-take, take_at}
use Rattle.nl_tree.specs.Facts.ReadingCalls.{are_bytes_from}
use Rattle.nl_tree.proofs.reading.read_file_into.Goals as goal

pub returns-clause-reads : goal.returns-clause-reads
returns-clause-reads g c = λ held h.
    let size = c.size.ensures held h in
    let copied = c.read_bytes.ensures held h in
    let long : length c.read_bytes.new.into ≡ c.min-count.result =
    omega (arith, length-take c.min-count.result c.args.into.now) in
    rw (take_at c.read_bytes.new.into _ c.min-count.result long)
    (are_bytes_from (held c.args.file) c.args.offset (length c.args.into.now) c.read_bytes.new.into
    (omega (arith, size, long)) copied)
