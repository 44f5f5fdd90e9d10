use Rattle.std.proofs.Common.{inl}
use Rattle.nl_tree.specs.Facts.ReadingCalls.{is_read_reply}
use Rattle.nl_tree.proofs.reading.answer.Goals as goal

pub returns-in-Bytes : goal.returns-in-Bytes
returns-in-Bytes g c = λ held shown h means.
    rw c.in-Bytes.is
    (is_read_reply _ _ (rw c.as_slice.ensures at (c.answer_bytes.ensures held shown h means)))

pub returns-in-List : goal.returns-in-List
returns-in-List g c = λ held shown h means.
    rw c.in-List.is
    (is_read_reply _ _ (rw c.as_slice-in-List.ensures at (c.answer_names.ensures held shown h means)))

pub returns-in-Stat : goal.returns-in-Stat
returns-in-Stat g c = λ held shown h means.
    rw c.in-Stat.is (inl (rw c.as_slice-in-Stat.ensures at (c.answer_stat.ensures held shown h means)))
