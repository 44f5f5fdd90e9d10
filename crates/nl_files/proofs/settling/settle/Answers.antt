use Rattle.std.proofs.Common.{◌≡◌, ℕ, List, [], sym, subst}
use Rattle.nl_layout.specs.Root.{root_of}
use Rattle.nl_vstore.specs.Batches.{Changes}
use Rattle.nl_vstore.specs.Stores.{capacity, content_in}
use Rattle.nl_types.specs.Blocks.Entries.{Content}
use Rattle.nl_types.specs.Blocks.Roots.{Root, pages_of}
use Rattle.nl_ifile.specs.declared.change.InodeChange.{InodeChange}
use Rattle.nl_tree.specs.declared.overlay.Overlay.{Overlay}
use Rattle.nl_tree.specs.Became.{Became, Current}
use Rattle.nl_tree.specs.Held.{Holding, IsHolding}
use Rattle.nl_tree.specs.Overlays.{became_in, current_of}
use Rattle.nl_files.specs.Settles.{IsCurrent, Settles, Settling}
use Rattle.nl_files.specs.CheckpointRoots.{Stores, roots_at}
use Rattle.nl_blocktree.specs.Checkpoints.{no_changes}
use Rattle.nl_tree.specs.Facts.Becoming.{became-may, became-rises}
use Rattle.nl_files.proofs.Planning.{ok-both}
use Rattle.nl_files.proofs.Storing.{inodes-ascend, inodes-within, settles}
use Rattle.nl_files.proofs.settling.settle.Goals.{in-Ok, in-Err}
use Rattle.nl_files.proofs.settling.settle.Goals as goal

-- the changes of the tree are those of its maps
inside : (content : Content) (root : Root) (o : Overlay) (now : Current) (base held : Holding)
    → current_of o ≡ now →
    IsCurrent content root now.became base held → IsCurrent content root (became_in o) base held
inside content root o now base held view current =
    subst (λ (c : Current). IsCurrent content root c.became base held) (sym view) current

-- the loop's answer, where the batch was empty
begun : (content : Content) (root : Root) (base v : Holding) (before now : Changes)
    (inodes given : List InodeChange) (all : List (ℕ × Became))
    → before ≡ no_changes → given ≡ inodes → IsCurrent content root all base v →
    ((b : Holding) → Stores (pages_of content) root b → IsHolding b
    → Settling content (roots_at (pages_of content) root) b before now inodes [] all)
    → Settling content (roots_at (pages_of content) root) base no_changes now given [] all
begun content root base v before now inodes given all empty given_is current h =
    subst (λ (b : Changes). Settling content (roots_at (pages_of content) root) base b now given [] all) empty
    (subst (λ (xs : List InodeChange).
    Settling content (roots_at (pages_of content) root) base before now xs [] all)
    (sym given_is) (h base current.base_is current.base_sound))

pub settle_inodes-requires-clause-changes : goal.settle_inodes-requires-clause-changes
settle_inodes-requires-clause-changes g c =
    let content = content_in (g.V.Vstore.store c.args.store.now) in
    let asked = c.requires.current in
    let current =
    inside content (root_of c.args.root) c.overlay.result.now c.args.tree.now asked.0 asked.1
    c.overlay.ensures.same asked.2 in
    became-may c.overlay.result.now asked.0 asked.1 c.overlay.ensures.orderly current.sound current.holds

pub put_inodes-settled-requires-clause-ascending : goal.put_inodes-settled-requires-clause-ascending
put_inodes-settled-requires-clause-ascending g c =
    let content = content_in (g.V.Vstore.store c.args.store.now) in
    let o = c.overlay.result.now in
    let all = became_in o in
    let asked = c.requires.current in
    let current =
    inside content
    (root_of c.args.root) o c.args.tree.now asked.0 asked.1 c.overlay.ensures.same asked.2 in
    inodes-ascend 0 content (root_of c.args.root)
    (root_of c.args.root) asked.0 asked.1 all c.deref.result.now c.settle_inodes.new.batch
    c.settle_inodes.new.batch c.requires.checkpoint current
    (became-rises o asked.0 asked.1 c.overlay.ensures.orderly current.sound current.holds)
    (became-may o asked.0 asked.1 c.overlay.ensures.orderly current.sound current.holds)
    (begun content (root_of c.args.root) asked.0 asked.1 c.args.batch.now c.settle_inodes.new.batch
    c.in-Ok.inodes.items c.deref.result.now all c.requires.empty c.deref.ensures.value current
    c.in-Ok.ensures.settling)

pub put_inodes-settled-requires-clause-in_range : goal.put_inodes-settled-requires-clause-in_range
put_inodes-settled-requires-clause-in_range g c =
    let content = content_in (g.V.Vstore.store c.args.store.now) in
    let o = c.overlay.result.now in
    let all = became_in o in
    let asked = c.requires.current in
    let current =
    inside content
    (root_of c.args.root) o c.args.tree.now asked.0 asked.1 c.overlay.ensures.same asked.2 in
    inodes-within 0 content (root_of c.args.root)
    (root_of c.args.root) asked.0 asked.1 all c.deref.result.now c.settle_inodes.new.batch
    c.settle_inodes.new.batch c.requires.checkpoint current
    (became-rises o asked.0 asked.1 c.overlay.ensures.orderly current.sound current.holds)
    (became-may o asked.0 asked.1 c.overlay.ensures.orderly current.sound current.holds)
    (begun content (root_of c.args.root) asked.0 asked.1 c.args.batch.now c.settle_inodes.new.batch
    c.in-Ok.inodes.items c.deref.result.now all c.requires.empty c.deref.ensures.value current
    c.in-Ok.ensures.settling)

pub returns-else-is_err-clause-settles : goal.returns-else-is_err-clause-settles
returns-else-is_err-clause-settles g c =
    let content = content_in (g.V.Vstore.store c.args.store.now) in
    let o = c.overlay.result.now in
    let all = became_in o in
    elim c.match-settle_inodes.branch [
      | in-Ok w ↦ rw (w.settled-is, w.batch-is) (ok-both w.put_inodes-settled.result _ _ _
          (λ new puts fits. λ base v asked.
          let current =
          inside content (root_of c.args.root) o c.args.tree.now base v c.overlay.ensures.same asked in
          subst (λ (now : Current).
          Settles content (root_of c.args.root) (root_of new) now.became v w.put_inodes-settled.new.batch)
          c.overlay.ensures.same
          (settles (capacity (g.V.Vstore.store c.args.store.now)) content (root_of c.args.root)
          (root_of new) base v all w.deref.result.now c.settle_inodes.new.batch
          w.put_inodes-settled.new.batch c.requires.checkpoint current
          (became-rises o base v c.overlay.ensures.orderly current.sound current.holds)
          (became-may o base v c.overlay.ensures.orderly current.sound current.holds)
          (begun content (root_of c.args.root) base v c.args.batch.now c.settle_inodes.new.batch
          w.in-Ok.inodes.items w.deref.result.now all c.requires.empty w.deref.ensures.value current
          w.in-Ok.ensures.settling)
          puts fits))
          w.put_inodes-settled.ensures.ok w.put_inodes-settled.ensures.fits)
      | in-Err w ↦ rw w.settled-is (record {})
    ]

pub settle_inodes-requires-clause-fits : goal.settle_inodes-requires-clause-fits
settle_inodes-requires-clause-fits g c = c.requires.fits

pub settle_inodes-requires-clause-checkpoint : goal.settle_inodes-requires-clause-checkpoint
settle_inodes-requires-clause-checkpoint g c = c.requires.checkpoint

pub put_inodes-settled-requires-clause-inodes : goal.put_inodes-settled-requires-clause-inodes
put_inodes-settled-requires-clause-inodes g c = c.requires.checkpoint.inodes

pub put_inodes-settled-requires-clause-file : goal.put_inodes-settled-requires-clause-file
put_inodes-settled-requires-clause-file g c = record {
  fits = c.in-Ok.ensures.fits;
  sound = c.requires.checkpoint.inode_file.sound;
  live = c.requires.checkpoint.inode_file.live;
}
