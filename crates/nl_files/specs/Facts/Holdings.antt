-- A root stands for one holding at most.
use Rattle.std.proofs.Common.{◌≡◌, ℕ, List, Option, Some, None, sym, ap, ◌∙◌}
use Rattle.nl_types.specs.Blocks.Roots.{Blocks, Pages, page_at}
use Rattle.nl_layout.specs.Root.{root_of}
use Rattle.nl_layout.specs.declared.inode.Inode.{Inode}
use Rattle.nl_layout.specs.declared.inode.InodeKind.{InodeKind}
use Rattle.nl_layout.specs.declared.inode.InodeKind.TheVariants.{File, Directory, InodeFile}
use Rattle.nl_ifile.specs.Inodes.{inode_at}
use Rattle.nl_dirs.specs.declared.record.Record.{Record}
use Rattle.nl_dirs.specs.Facts.Blocks.{directories-one}
use Rattle.nl_dirs.specs.Facts.Spelling.{blocks_hold_their_records, bytes_hold_one_list}
use Rattle.nl_tree.specs.Held.{Held, Listed}
use Rattle.nl_files.specs.CheckpointRoots.{StandsAs, StandsFor}
use Rattle.nl_files.specs.Laws.{RootsHoldOne}

-- blocks of a kind and a size hold one thing
as-one : (blocks : Blocks) (kind : InodeKind) (size : ℕ) (a b : Option Held) → StandsAs blocks kind size a
    → StandsAs blocks kind size b → a ≡ b
as-one blocks File size a b s t = s ∙ sym t
as-one blocks Directory size a b s t =
    let records : s.0 ≡ t.0 =
    directories-one bytes_hold_one_list blocks_hold_their_records blocks size size s.0 t.0 s.1 t.1 in
    s.2 ∙ (ap (λ (rs : List Record). Some (Listed rs)) records ∙ sym t.2)
as-one blocks InodeFile size a b s t = absurd s

-- an inode holds one thing
inode-one : (pages : Pages) (inode : Option Inode) (a b : Option Held) → StandsFor pages inode a
    → StandsFor pages inode b → a ≡ b
inode-one pages None a b s t = s ∙ sym t
inode-one pages (Some inode) a b s t =
    as-one (page_at pages (root_of inode.root)) inode.kind inode.size a b s t

pub roots-hold_one : RootsHoldOne
roots-hold_one pages root one other s t =
    λ k. λ i. inode-one pages (inode_at pages root i) (one i) (other i) (s i) (t i) k
