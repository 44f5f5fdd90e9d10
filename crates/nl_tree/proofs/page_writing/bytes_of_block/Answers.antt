use Rattle.nl_tree.specs.Facts.PageBytes.{zero_at}
use Rattle.nl_tree.proofs.page_writing.bytes_of_block.Goals as goal

pub returns-in-None : goal.returns-in-None
returns-in-None c = λ k. rw c.in-None.is (zero_at 1024 k)
