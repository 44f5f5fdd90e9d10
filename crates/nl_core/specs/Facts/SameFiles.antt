-- Whether a path leads to one inode in two checkpoints of a pen is decided.
use Rattle.std.proofs.Common.{◌≡◌, ℕ, Bool, true, false, eqb, Option, Some, None, refl, sym, ap, ◌∙◌, subst}
use Rattle.std.specs.Prelude.{◌↔◌, ◌&&◌, IsTrue}
use Rattle.std.proofs.lemmas.Bool.{and_parts, eq-eqb, eqb-true}
use Rattle.std.proofs.lemmas.Option.{same_Some}
use Rattle.nl_types.specs.Plain.Paths.{Path}
use Rattle.nl_types.specs.Blocks.Roots.{Pages}
use Rattle.nl_layout.specs.Root.{root_of}
use Rattle.nl_layout.specs.declared.inode.Inode.{Inode}
use Rattle.nl_layout.specs.declared.inode.InodeKind.{InodeKind}
use Rattle.nl_layout.specs.declared.inode.InodeKind.TheVariants as inode_kind
use Rattle.nl_layout.specs.declared.root.Root.{Root}
use Rattle.nl_layout.specs.declared.root.Root.TheVariants as root
use Rattle.nl_tree.specs.Held.{Holding}
use Rattle.nl_files.specs.CheckpointRoots.{Stores}
use Rattle.nl_files.specs.Facts.Holdings.{roots-hold_one}
use Rattle.nl_cpfile.specs.Tables.{Table, checkpoint_root, kept_at}
use Rattle.nl_cpfile.specs.declared.checkpoint.Checkpoint.{Checkpoint}
use Rattle.nl_commit.specs.Layout.{IsPen, Layout, layout_pages}
use Rattle.nl_commit.specs.Facts.Events.{copy_of}
use Rattle.nl_events.specs.SameFiles.{AreHeld, HasFileInode, file_inode}
use Rattle.nl_events.specs.Facts.TwoInodes.{both_there, no_first, no_second}
use Rattle.nl_core.specs.SameFiles.{HaveOneInode}

-- ---- inodes are compared

same_kind : (k l : InodeKind) → (b : Bool) × (IsTrue b ↔ (k ≡ l))
same_kind inode_kind.File inode_kind.File = (true, (λ _. refl, λ _. refl))
same_kind inode_kind.File inode_kind.Directory = (false, (λ no. cc, λ is. cc))
same_kind inode_kind.File inode_kind.InodeFile = (false, (λ no. cc, λ is. cc))
same_kind inode_kind.Directory inode_kind.File = (false, (λ no. cc, λ is. cc))
same_kind inode_kind.Directory inode_kind.Directory = (true, (λ _. refl, λ _. refl))
same_kind inode_kind.Directory inode_kind.InodeFile = (false, (λ no. cc, λ is. cc))
same_kind inode_kind.InodeFile inode_kind.File = (false, (λ no. cc, λ is. cc))
same_kind inode_kind.InodeFile inode_kind.Directory = (false, (λ no. cc, λ is. cc))
same_kind inode_kind.InodeFile inode_kind.InodeFile = (true, (λ _. refl, λ _. refl))

both_true : (a b : Bool) → a ≡ true → b ≡ true → (a && b) ≡ true
both_true a b p q = cc

same_root : (r s : Root) → (b : Bool) × (IsTrue b ↔ (r ≡ s))
same_root root.Empty root.Empty = (true, (λ _. refl, λ _. refl))
same_root root.Empty (root.Chain n) = (false, (λ no. cc, λ is. cc))
same_root root.Empty (root.Tree k n) = (false, (λ no. cc, λ is. cc))
same_root (root.Chain m) root.Empty = (false, (λ no. cc, λ is. cc))
same_root (root.Chain m) (root.Chain n) =
    (eqb m n, (λ is. ap root.Chain (eqb-true m n is), λ is. let e : m ≡ n = cc in eq-eqb m n e))
same_root (root.Chain m) (root.Tree k n) = (false, (λ no. cc, λ is. cc))
same_root (root.Tree j m) root.Empty = (false, (λ no. cc, λ is. cc))
same_root (root.Tree j m) (root.Chain n) = (false, (λ no. cc, λ is. cc))
same_root (root.Tree j m) (root.Tree k n) = (
  eqb j k && eqb m n,
  (
    λ is.
        let parts = and_parts (eqb j k) (eqb m n) is in
        let high = eqb-true j k parts.0 in
        let top = eqb-true m n parts.1 in
        cc,
    λ is.
        let high : j ≡ k = cc in
        let top : m ≡ n = cc in
        both_true (eqb j k) (eqb m n) (eq-eqb j k high) (eq-eqb m n top),
  ),
)

same_inode : (x y : Inode) → (b : Bool) × (IsTrue b ↔ (x ≡ y))
same_inode x y =
    let kinds = same_kind x.kind y.kind in
    let roots = same_root x.root y.root in (
      kinds.0 && (roots.0 && eqb x.size y.size),
      (
        λ is.
            let parts = and_parts kinds.0 (roots.0 && eqb x.size y.size) is in
            let others = and_parts roots.0 (eqb x.size y.size) parts.1 in
            let k = kinds.1.0 parts.0 in
            let r = roots.1.0 others.0 in
            let s = eqb-true x.size y.size others.1 in
            λ i. record { kind = k i; root = r i; size = s i },
        λ is.
            both_true kinds.0 (roots.0 && eqb x.size y.size)
            (kinds.1.1 (ap (λ (z : Inode). z.kind) is))
            (both_true roots.0 (eqb x.size y.size)
            (roots.1.1 (ap (λ (z : Inode). z.root) is))
            (eq-eqb x.size y.size (ap (λ (z : Inode). z.size) is))),
      ),
    )

-- ---- in a pen

-- the roots of its kept checkpoints stand for trees
pub are_held : (l : Layout) → IsPen l → AreHeld (layout_pages l) l.lists.table
are_held l pen n c is =
    let copy = copy_of (layout_pages l) l.lists pen.world.0 n (Some c) pen.world.1 is in
    (copy.2.tree.held, copy.2.tree.holds)

-- in a checkpoint's tree the path leads to one inode at most
leads_to_one : (pages : Pages) (c d : Checkpoint) (one other : Holding) (path : Path) (x : Inode) → d ≡ c
    → Stores pages (root_of (checkpoint_root c)) one → Stores pages (root_of (checkpoint_root d)) other
    → file_inode pages (root_of (checkpoint_root d)) other path ≡ Some x
    → file_inode pages (root_of (checkpoint_root c)) one path ≡ Some x
leads_to_one pages c d one other path x same s t leads =
    let r = root_of (checkpoint_root c) in
    let stores : Stores pages r other =
    subst (λ (k : Checkpoint). Stores pages (root_of (checkpoint_root k)) other) same t in
    ap (λ (held : Holding). file_inode pages r held path) (roots-hold_one pages r one other s stores)
    ∙ subst (λ (k : Checkpoint). file_inode pages (root_of (checkpoint_root k)) other path ≡ Some x) same
    leads

-- the inode that it leads to
abbrev Found : Pages → Table → ℕ → Path → Type 0
Found pages kept n path =
    (found : Option Inode) × ((x : Inode) → (found ≡ Some x) ↔ HasFileInode pages kept n path x)

found_at : (pages : Pages) (kept : Table) (n : ℕ) (path : Path) → AreHeld pages kept
    → (o : Option Checkpoint) → kept_at n kept ≡ o → Found pages kept n path
found_at pages kept n path held None is =
    (None, λ x. (λ none. cc, λ has. let none = sym is ∙ has.is_kept in cc))
found_at pages kept n path held (Some c) is =
    let there = held n c is in (
      file_inode pages (root_of (checkpoint_root c)) there.0 path,
      λ x. (
        λ leads. record { checkpoint = c; is_kept = is; held = there.0; holds = there.1; leads = leads },
        λ has.
            let same : has.checkpoint ≡ c = same_Some has.checkpoint c (sym has.is_kept ∙ is) in
            leads_to_one pages c has.checkpoint there.0 has.held path x same there.1.stores has.holds.stores
            has.leads,
      ),
    )

-- two inodes that may be there are compared
one_of_two : (A B : Inode → Type 0) (a b : Option Inode) → ((x : Inode) → (a ≡ Some x) ↔ A x)
    → ((x : Inode) → (b ≡ Some x) ↔ B x) → (is : Bool) × (IsTrue is ↔ ((x : Inode) × A x × B x))
one_of_two A B None b first second = (false, no_first A B first)
one_of_two A B (Some x) None first second = (false, no_second A B second)
one_of_two A B (Some x) (Some y) first second =
    let equal = same_inode x y in (equal.0, both_there A B x y equal.0 equal.1 first second)

-- so whether it is one inode in both is decided
pub one_inode_is_decided : (l : Layout) → IsPen l → (old new : ℕ) (path : Path)
    → (is : Bool) × (IsTrue is ↔ HaveOneInode l old new path)
one_inode_is_decided l pen old new path =
    let pages = layout_pages l in
    let kept = l.lists.table in
    let held = are_held l pen in
    let one = found_at pages kept old path held (kept_at old kept) refl in
    let other = found_at pages kept new path held (kept_at new kept) refl in
    one_of_two (HasFileInode pages kept old path) (HasFileInode pages kept new path) one.0 other.0 one.1
    other.1
