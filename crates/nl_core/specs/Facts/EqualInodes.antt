-- A file's inode fixes its bytes: equal inodes are equal files.
use Rattle.std.proofs.Common.{◌≡◌, ℕ, List, Option, Some, None, Result, Ok, Err, refl, sym, ap, ◌∙◌, subst}
use Rattle.std.specs.Option.{option_map, ok_or}
use Rattle.nl_types.specs.declared.error.VolError.{VolError}
use Rattle.nl_types.specs.declared.error.VolError.TheVariants.{NotFound}
use Rattle.nl_types.specs.declared.kind.Kind.TheVariants as kind
use Rattle.nl_types.specs.declared.reply.Object.{Object}
use Rattle.nl_types.specs.declared.reply.Object.TheVariants.{File}
use Rattle.nl_types.specs.Plain.Calls.{and_then, object_at, walk}
use Rattle.nl_types.specs.Inodes.{Bytes, InodeContent, Link, object_of}
use Rattle.nl_types.specs.Plain.Paths.{Path}
use Rattle.nl_types.specs.Resolving.{object_in, resolve}
use Rattle.nl_types.specs.Blocks.Roots.{Blocks, Pages, Root, page_at}
use Rattle.nl_types.specs.Plain.Trees.{Tree, lookup}
use Rattle.nl_types.specs.Plain.Worlds.{World}
use Rattle.nl_types.specs.Facts.Inodes.Resolving.{files_hold_bytes, objects_by_inodes}
use Rattle.nl_layout.specs.Root.{root_of}
use Rattle.nl_layout.specs.declared.inode.Inode.{Inode}
use Rattle.nl_layout.specs.declared.inode.InodeKind.{InodeKind}
use Rattle.nl_layout.specs.declared.inode.InodeKind.TheVariants as inode_kind
use Rattle.nl_ifile.specs.Inodes.{InodeMap, inode_at}
use Rattle.nl_tree.specs.Held.{Held, Holding, bytes_stored, inode_content, inodes_of_holding}
use Rattle.nl_tree.specs.Reading.{HoldingMeans}
use Rattle.nl_files.specs.CheckpointRoots.{StandsAs, StandsFor}
use Rattle.nl_files.specs.CheckpointTrees.{HoldsTree}
use Rattle.nl_files.specs.Facts.Holdings.{roots-hold_one}
use Rattle.nl_cpfile.specs.Tables.{checkpoint_root}
use Rattle.nl_commit.specs.Layout.{Layout, layout_pages}
use Rattle.nl_commit.specs.Means.{Means}
use Rattle.nl_commit.specs.Volume.{Lists}
use Rattle.nl_commit.specs.Facts.Events.{copy_of}
use Rattle.nl_events.specs.SameFiles.{HasFileInode, file_inode, inode_found}
use Rattle.nl_core.specs.SameFiles.{HasFile, HaveOneFile, HaveOneInode}

-- ---- the walk to a file

-- it comes to a link of a file, which has the inode
abbrev ComesTo : InodeMap → Inode → Result Link VolError → Type 0
ComesTo inodes inode found = (i : ℕ) × (found ≡ Ok (i, kind.File)) × (inodes i ≡ Some inode)

comes_to : (inodes : InodeMap) (inode : Inode) (found : Result Link VolError)
    → inode_found inodes found ≡ Some inode → ComesTo inodes inode found
comes_to inodes inode (Ok (i, kind.File)) is = (i, refl, is)
comes_to inodes inode (Ok (i, kind.Directory)) is = cc
comes_to inodes inode (Err e) is = cc

-- ---- bytes

-- as many bytes of the inode's blocks as its size says
abbrev bytes_by : Pages → Inode → List ℕ
bytes_by pages inode = bytes_stored (page_at pages (root_of inode.root)) inode.size

-- a file that stands as such blocks has those
stand_as : (blocks : Blocks) (k : InodeKind) (size : ℕ) (held : Option Held) (bytes : List ℕ)
    → StandsAs blocks k size held → option_map inode_content held ≡ Some (Bytes bytes)
    → bytes ≡ bytes_stored blocks size
stand_as blocks inode_kind.File size held bytes stands has =
    let same : Some (Bytes bytes) ≡ Some (Bytes (bytes_stored blocks size)) =
    sym has ∙ ap (option_map inode_content) stands in cc
stand_as blocks inode_kind.Directory size held bytes stands has =
    let same = sym has ∙ ap (option_map inode_content) stands.2 in cc
stand_as blocks inode_kind.InodeFile size held bytes stands has = absurd stands

-- what a path leads to stands at it
lookup_of : {A : Type 0} (walked : Result A VolError) (there : Option Object) (object : Object)
    → and_then walked (λ _. ok_or there NotFound) ≡ Ok object → there ≡ Some object
lookup_of (Err e) there object is = cc
lookup_of (Ok a) None object is = cc
lookup_of (Ok a) (Some found) object is = cc

-- so the tree that is held has those bytes at the path
file_bytes : (pages : Pages) (root : Root) (held : Holding) (tree : Tree) (path : Path) (inode : Inode)
    → HoldsTree pages root held → HoldingMeans held tree → file_inode pages root held path ≡ Some inode
    → lookup tree path ≡ Some (File (bytes_by pages inode))
file_bytes pages root held tree path inode holds means leads =
    let inodes = inodes_of_holding held in
    let at = comes_to (inode_at pages root) inode (resolve inodes path) leads in
    let has = files_hold_bytes inodes tree means.means path at.0 at.1 in
    let stands = subst (λ o. StandsFor pages o (held at.0)) at.2 (holds.stores at.0) in
    let bytes : has.1 ≡ bytes_by pages inode =
    stand_as (page_at pages (root_of inode.root)) inode.kind inode.size (held at.0) has.1 stands has.2 in
    let found : object_at tree path ≡ Ok (File has.1) =
    objects_by_inodes inodes tree means.means path
    ∙ ap (λ (r : Result Link VolError). and_then r (λ l. ok_or (object_in inodes l) NotFound)) at.1
    ∙ ap (λ (o : Option InodeContent). ok_or (option_map object_of o) NotFound) has.2 in
    lookup_of (walk tree path) (lookup tree path) (File has.1) found
    ∙ ap (λ (b : List ℕ). Some (File b)) bytes

-- ---- kept checkpoints

-- a copy has the bytes of the inode
has_file : (pages : Pages) (l : Lists) (w : World) (n : ℕ) (path : Path) (inode : Inode) → Means pages l w
    → HasFileInode pages l.table n path inode → HasFile n path (bytes_by pages inode) w
has_file pages l w n path inode means has =
    let copy = copy_of pages l w n (Some has.checkpoint) means has.is_kept in
    let root = root_of (checkpoint_root has.checkpoint) in
    let same : has.held ≡ copy.2.tree.held =
    roots-hold_one pages root has.held copy.2.tree.held has.holds.stores copy.2.tree.holds.stores in
    record {
      copy = copy.0;
      is_kept = copy.1;
      has = file_bytes pages root copy.2.tree.held copy.0.tree path inode copy.2.tree.holds copy.2.tree.means
          (ap (λ (held : Holding). file_inode pages root held path) (sym same) ∙ has.leads);
    }

-- equal inodes are equal files
pub have_one_file : (l : Layout) (old new : ℕ) (path : Path) → HaveOneInode l old new path
    → HaveOneFile l old new path
have_one_file l old new path one w means = (
  bytes_by (layout_pages l) one.0,
  has_file (layout_pages l) l.lists w old path one.0 means one.1,
  has_file (layout_pages l) l.lists w new path one.0 means one.2,
)
