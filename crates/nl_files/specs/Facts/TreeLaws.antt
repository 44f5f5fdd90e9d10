-- The current tree of a new volume, and the one that is left where a checkpoint was made.
use Rattle.std.proofs.Common.{[], refl, ap, arith}
use Rattle.std.specs.Option.{option_map}
use Rattle.nl_types.specs.Plain.Trees.{Tree, root_alone}
use Rattle.nl_types.specs.Facts.ExactLifetimes.{ledger-blank}
use Rattle.nl_types.specs.Facts.Inodes.RootAlone.{new_inodes_mean_the_root}
use Rattle.nl_dirs.specs.Records.{entry_of}
use Rattle.nl_tree.specs.Held.{Holding, inode_content, inodes_of_holding}
use Rattle.nl_tree.specs.Became.{Current, holding_over}
use Rattle.nl_tree.specs.CurrentTrees.{StandsOver}
use Rattle.nl_tree.specs.FirstTree.{first_holding, nothing_held, first_tree}
use Rattle.nl_tree.specs.Facts.FirstTree.{absent-first, holds_nothing, root-first}
use Rattle.nl_tree.specs.Facts.FirstCounts.{counts_first, counts_settled}
use Rattle.nl_files.specs.TreeLaws.{EmptyRootsHoldNothing, FirstTreesStand, SettledTreesGoOn, TreesCanBeSettled}
use Rattle.nl_files.specs.Facts.First.{first-hold, latest-first, stores-nothing}
use Rattle.nl_files.specs.Facts.Following.{latest-hold, settled-follow}

first_stands : StandsOver first_tree nothing_held root_alone
first_stands = record {
  sound = first-hold.current.sound;
  counts = counts_first;
  stands = record {
    means = new_inodes_mean_the_root (inodes_of_holding first_holding) (λ name. entry_of name [])
        (ap (option_map inode_content) (root-first 2 refl)) (λ name. refl)
        (λ i other. ap (option_map inode_content) (absent-first i other));
    count = refl;
  };
  few = omega arith;
}

pub first_trees-stand : FirstTreesStand
first_trees-stand = record {
  is_ledger = ledger-blank;
  latest = latest-first;
  base_sound = holds_nothing;
  stands = first_stands;
}

pub empty_roots-hold_nothing : EmptyRootsHoldNothing
empty_roots-hold_nothing pages = record { stores = stores-nothing pages; sound = holds_nothing }

pub trees-can_be_settled : TreesCanBeSettled
trees-can_be_settled ledger root now base tree over = record {
  holds = record { stores = over.latest.stores; sound = over.base_sound };
  checkpoint = latest-hold ledger root base over.is_ledger over.latest over.base_sound;
  current = record {
    base_is = over.latest.stores;
    base_sound = over.base_sound;
    sound = over.stands.sound;
    holds = refl;
  };
}

-- over the checkpoint that was made of it the tree stands for what it stood for
settled_stands : (now : Current) (base : Holding) (tree : Tree) → StandsOver now base tree
    → StandsOver (record now { became = [] }) (holding_over now.became base) tree
settled_stands now base tree stands = record {
  sound = stands.sound;
  counts = counts_settled _ now.mark (holding_over now.became base) base stands.counts;
  stands = stands.stands;
  few = stands.few;
}

pub settled_trees-go_on : SettledTreesGoOn
settled_trees-go_on room ledger root new now base tree batch over settles fits =
    let follows =
    settled-follow room ledger root new base
    (holding_over now.became base) now.became batch over.is_ledger over.latest settles fits in
    record {
      is_ledger = follows.is_ledger;
      latest = follows.is_latest;
      base_sound = over.stands.sound;
      stands = settled_stands now base tree over.stands;
    }
