use Rattle.nl_files.proofs.CheckpointTrees.{found_free}
use Rattle.nl_files.proofs.read_tree.ReadTreeBase.free_from.Goals as goal

pub returns : goal.returns
returns g c = λ held h. found_free _ _ held h c.args.from c.next_ino.result c.next_ino.ensures
