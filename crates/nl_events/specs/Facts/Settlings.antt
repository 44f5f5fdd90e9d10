-- What a checkpoint of a pen could write.
use Rattle.std.proofs.Common.{◌≡◌, ℕ, length, sym, ap, ◌∙◌, subst, refl}
use Rattle.std.proofs.lemmas.List.{length-map}
use Rattle.nl_types.specs.Blocks.Roots as roots
use Rattle.nl_vstore.specs.Batches.{Changes, item_of_birth, items_of}
use Rattle.nl_vstore.specs.Stores.{content_in}
use Rattle.nl_layout.specs.Root.{root_of}
use Rattle.nl_layout.specs.declared.root.Root.{Root}
use Rattle.nl_layout.specs.declared.root.Root.TheVariants.{Empty, Chain, Tree}
use Rattle.nl_tree.specs.Became.{holding_over}
use Rattle.nl_tree.specs.Held.{Holding}
use Rattle.nl_files.specs.CheckpointRoots.{IsCheckpointRoot}
use Rattle.nl_files.specs.Facts.Following.{latest-hold}
use Rattle.nl_files.specs.Facts.OneSettling.{settlings-alike}
use Rattle.nl_files.specs.Facts.Holdings.{roots-hold_one}
use Rattle.nl_commit.specs.Draft.{SettlesNow}
use Rattle.nl_commit.specs.Laws.{SettlingsAreAlike}
use Rattle.nl_commit.specs.Volume.{latest_root}
use Rattle.nl_commit.specs.Layout.{IsSoundPen, Layout, Settled, ledger_of, layout_pages}
use Rattle.nl_events.specs.Facts.Ledgers.{is-latest}

-- the root that is kept tells the root
root_of-one : (a b : Root) → root_of a ≡ root_of b → a ≡ b
root_of-one Empty Empty e = refl
root_of-one Empty (Chain t) e = cc
root_of-one Empty (Tree h t) e = cc
root_of-one (Chain t) Empty e = cc
root_of-one (Chain t) (Chain u) e = let top : t ≡ u = cc in ap Chain top
root_of-one (Chain t) (Tree h u) e = cc
root_of-one (Tree g t) Empty e = cc
root_of-one (Tree g t) (Chain u) e = cc
root_of-one (Tree g t) (Tree h u) e =
    let height : g ≡ h = cc in
    let top : t ≡ u = cc in
    ap (λ (k : ℕ). Tree k t) height ∙ ap (Tree h) top

module _ (l : Layout) (sound : IsSoundPen l) (root other : Root) (one : Settled l root)
    (two : Settled l other) where
  abbrev old_root : roots.Root
  old_root = root_of (latest_root l.lists)

  -- what is held is one
  held-one : two.held ≡ one.held
  held-one =
      two.current.holds
      ∙ (ap (holding_over l.lists.current.became)
      (roots-hold_one (layout_pages l) old_root two.base one.base two.current.base_is one.current.base_is)
      ∙ sym one.current.holds)

  -- the latest checkpoint can be settled over
  checkpoint : IsCheckpointRoot (content_in l.store) old_root
  checkpoint = latest-hold (ledger_of l) old_root one.base sound.ledger
      (is-latest l sound one.base one.current.base_is) one.current.base_sound

  alike : (length one.changes.births ≡ length two.changes.births) × (root_of other ≡ root_of root)
  alike = settlings-alike (content_in l.store) old_root (root_of root) (root_of other) l.lists.current.became
      one.held one.changes two.changes checkpoint one.current.sound one.settles
      (subst (λ (held : Holding). SettlesNow (content_in l.store) l.lists other held two.changes) held-one
      two.settles)

  -- as many births
  pub births-alike : length one.changes.births ≡ length two.changes.births
  births-alike = alike.0

  -- and one root
  pub roots-alike : other ≡ root
  roots-alike = root_of-one other root alike.1

pub settlings_are_alike : SettlingsAreAlike
settlings_are_alike l root other held one two =
    (roots-alike l held.sound root other one two, sym (births-alike l held.sound root other one two))

-- as many blocks are written as there are births
pub count-items : (changes : Changes) → length (items_of changes.births) ≡ length changes.births
count-items changes = length-map changes.births item_of_birth
