-- Pages that a port keeps, while it sees more.
use Rattle.std.proofs.Common.{◌≡◌, inl, inr, ℕ, List, [], ◌∷◌, Contains, Option, None, Some, Result, Ok, Err, refl, sym, ap, ◌∙◌, subst}
use mathlib.Core.List.{IsPrefix}
use Rattle.lru.specs.LruCache.{lru_cache}
use Rattle.lru.proofs.Splits.{Contains-nil}
use Rattle.nl_types.specs.declared.error.VolError.{VolError}
use Rattle.nl_types.specs.declared.error.VolError.TheVariants.{BadMount}
use Rattle.nl_types.specs.Blocks.Roots.{Pages}
use Rattle.nl_types.specs.Plain.Trees.{Tree}
use Rattle.nl_layout.specs.Root.{root_of}
use Rattle.nl_layout.specs.declared.root.Root.{Root}
use Rattle.nl_tree.specs.Held.{Holding}
use Rattle.nl_files.specs.CheckpointTrees.{HoldsTree}
use Rattle.nl_cpfile.specs.Tables.{kept_at, checkpoint_root}
use Rattle.nl_commit.specs.Commits.{IsHistory, shown_after}
use Rattle.nl_commit.specs.Shown.{Shown, pages_shown}
use Rattle.nl_commit.specs.declared.commit.Commit.{Commit}
use Rattle.nl_publish.specs.Cached.{IsCachedPage}
use Rattle.nl_publish.specs.Histories.{IsBegun, Known}
use Rattle.nl_publish.specs.Mounts.{Claim}
use Rattle.nl_publish.specs.Facts.CachedPages.{cached_pages_stay, kept_low}
use Rattle.nl_publish.specs.Facts.Staying.{history_state}
use Rattle.nl_mounts.specs.declared.cache.CacheKey.{CacheKey}
use Rattle.nl_mounts.specs.declared.looks.MountedTree.{MountedTree}
use Rattle.nl_mounts.specs.Caching.{AreCachedPages, Cache, HasCachedBlocks, key_of}
use Rattle.nl_mounts.specs.Ports.{Finds, IsCacheOf, IsMountTree, IsNotRead, IsOfTree, IsSeenOn, Lacks, OfMountFile, OfTreeFile, PutsOfTree, Shows, TouchesIfAny}
use Rattle.nl_mounts.specs.Warming.{HasTouched, IsStored, OfHeldFile, PutsStored, Warms}
use Rattle.nl_mounts.specs.Warming.Warms.{Nothing, Part, Whole}

-- ---- while more is seen

begun : (log : List Commit) → IsHistory log → IsBegun log
begun [] history = absurd history
begun (c ∷ log) history = history

pub learned_pages : (old new : Known) (cache : Option Cache) → IsBegun new.commits
    → IsPrefix old.commits new.commits → AreCachedPages old.commits cache
    → AreCachedPages new.commits cache
learned_pages old new cache more prefix pages = record {
  each = λ c key page is has.
      cached_pages_stay old.commits new.commits key.checkpoint key.inode key.index page more prefix
      (pages.each c key page is has);
}

pub seen_on : (old new : Known) (cache : Option Cache) → IsSeenOn old new → AreCachedPages old.commits cache
    → AreCachedPages new.commits cache
seen_on old new cache seen pages =
    learned_pages old new cache (begun new.commits seen.history) seen.later.commits pages

pub nothing_kept : (log : List Commit) (cache : Option Cache) → cache ≡ None → AreCachedPages log cache
nothing_kept log cache none = record { each = λ c key page is has. absurd (cc (none, is)) }

pub none_kept : (log : List Commit) (pages : ℕ) → AreCachedPages log (Some (lru_cache [] pages))
none_kept log pages = record {
  each = λ c key page is has.
      let same : lru_cache [] pages ≡ c = cc is in
      absurd
      (Contains-nil (key, page) (subst (λ (d : Cache). Contains d.entries (key, page)) (sym same) has));
}

-- ---- what a look finds

pub finds_seen : (m : Claim) (old new : Known) (x : Shown) (tree : Option MountedTree)
    → Finds m old new x tree → IsSeenOn old new
finds_seen m old new x tree (Lacks volume seen lacks none) = seen
finds_seen m old new x tree (Shows t seen at is) = seen

holds_at : (x y : Shown) (r s : Root) (held : Holding) → x ≡ y → r ≡ s
    → HoldsTree (pages_shown x) (root_of r) held → HoldsTree (pages_shown y) (root_of s) held
holds_at x y r s held p q holds =
    subst (λ (z : Shown). HoldsTree (pages_shown z) (root_of s) held) p
    (subst (λ (t : Root). HoldsTree (pages_shown x) (root_of t) held) q holds)

module _ (m : Claim) (old new : Known) (x : Shown) (t : MountedTree) (at : IsMountTree m old new x t) where
  -- what is kept of the checkpoint are blocks of its files
  blocks_of : (c : Cache)
      → ((key : CacheKey) (page : List ℕ) → Contains c.entries (key, page)
      → IsCachedPage new.commits key.checkpoint key.inode key.index page)
      → (held : Holding) → HoldsTree (pages_shown x) (root_of t.root) held
      → HasCachedBlocks c t.checkpoint held
  blocks_of c each held holds inode index page has =
      (each (key_of t.checkpoint inode index) page has).block at.checkpoint held at.kept
      (holds_at x (shown_after new.commits) t.root (checkpoint_root at.checkpoint) held at.shown
      (sym at.root) holds)

  of_mount_file : (path : List ℕ) (P : ℕ → Holding → ℕ → Type 0)
      → OfHeldFile (HoldsTree (pages_shown x) (root_of t.root)) t.checkpoint path P
      → OfMountFile (shown_after new.commits) m.number path P
  of_mount_file path P all n c mounted kept held inode holds found_file =
      let mounted_at = at.mounted in let kept_now = at.kept in
      let same : t.checkpoint ≡ n = cc (mounted, mounted_at) in
      let kept_here : kept_at t.checkpoint (shown_after new.commits).table ≡ Some c =
      subst (λ (k : ℕ). kept_at k (shown_after new.commits).table ≡ Some c) (sym same) kept in
      let checkpoint : c ≡ at.checkpoint = cc (kept_here, kept_now) in
      let root : checkpoint_root c ≡ t.root = ap checkpoint_root checkpoint ∙ at.root in
      subst (λ (k : ℕ). P k held inode) same
      (all held inode
      (holds_at (shown_after new.commits) x (checkpoint_root c) t.root held (sym at.shown) root holds)
      found_file)

  -- a block of a file of the tree is a page that may be kept
  stored_page : IsHistory new.commits → (key : CacheKey) (page : List ℕ)
      → IsStored (HoldsTree (pages_shown x) (root_of t.root)) t.checkpoint (key, page)
      → IsCachedPage new.commits key.checkpoint key.inode key.index page
  stored_page history key page stored =
      let state = history_state new.commits history in
      let table = (shown_after new.commits).table in
      subst (λ (n : ℕ). IsCachedPage new.commits n key.inode key.index page) (sym stored.checkpoint) (record {
        history = history;
        given = kept_low table.earlier table.latest state.table.rising t.checkpoint at.checkpoint at.kept;
        block = λ c held kept holds.
            let kept_now = at.kept in
            let same : c ≡ at.checkpoint = cc (kept, kept_now) in
            stored.block held
            (holds_at (shown_after new.commits) x (checkpoint_root c) t.root held (sym at.shown)
            (ap checkpoint_root same ∙ at.root) holds);
      })

-- ---- of the tree that was found

refused_none : (pages : Pages) (o : Option MountedTree) (Refused : Type 0) (Answers : Tree → Type 0)
    → IsOfTree pages o Refused Answers → o ≡ None → Refused
refused_none pages o Refused Answers is none =
    subst (λ (p : Option MountedTree). IsOfTree pages p Refused Answers) none is

pub read_refused : (pages : Pages) (o : Option MountedTree) (result : Result ℕ VolError) (was now : List ℕ)
    (Answers : Tree → Type 0)
    → IsOfTree pages o (IsNotRead result was now) Answers → o ≡ None → result ≡ Err BadMount
read_refused pages o result was now Answers is none =
    (refused_none pages o (IsNotRead result was now) Answers is none).refused

pub warming_refused : (pages : Pages) (o : Option MountedTree) (result : Result ℕ VolError)
    (Answers : Tree → Type 0)
    → IsOfTree pages o (result ≡ Err BadMount) Answers → o ≡ None → result ≡ Err BadMount
warming_refused pages o result Answers is none = refused_none pages o (result ≡ Err BadMount) Answers is none

module _ (pages : Pages) (o : Option MountedTree) (tree : MountedTree) (path : List ℕ)
    (holds : Holding → Type 0) (is : o ≡ Some tree)
    (holds_here : (held : Holding) → HoldsTree pages (root_of tree.root) held → holds held) where
  of_file : (P : ℕ → Holding → ℕ → Type 0) → OfHeldFile holds tree.checkpoint path P
      → OfTreeFile pages o path P
  of_file P all t here held inode h at =
      let same : tree ≡ t = cc (is, here) in
      subst (λ (u : MountedTree). HoldsTree pages (root_of u.root) held → P u.checkpoint held inode) same
      (λ hu. all held inode (holds_here held hu) at) h

  touched_in : (offset : ℕ) (was now : Cache) (result : Result ℕ VolError)
      → HasTouched (OfHeldFile holds tree.checkpoint path) offset was result now
      → HasTouched (OfTreeFile pages o path) offset was result now
  touched_in offset was now (Ok count) touched =
      record { touched_is = of_file _ touched.touched_is; none = touched.none; same = touched.same }
  touched_in offset was now (Err e) touched =
      record { touched_is = tt; none = touched.none; same = touched.same }

  pub touches_in : (offset : ℕ) (cache : Option Cache) (was now : Cache) (result : Result ℕ VolError)
      → cache ≡ Some was
      → HasTouched (OfHeldFile holds tree.checkpoint path) offset was result now
      → TouchesIfAny (OfTreeFile pages o path) offset cache result (Some now)
  touches_in offset cache was now result cache_is touched =
      subst (λ (c : Option Cache). TouchesIfAny (OfTreeFile pages o path) offset c result (Some now))
      (sym cache_is) (now, refl, touched_in offset was now result touched)

  pub warms_in : (offset len : ℕ) (was now : Cache) (result : Result ℕ VolError)
      → Warms (OfHeldFile holds tree.checkpoint path) offset len was result now
      → Warms (OfTreeFile pages o path) offset len was result now
  warms_in offset len was now result (Whole count done all) = Whole count done (of_file _ all)
  warms_in offset len was now result (Part done part) = Part done (of_file _ part)
  warms_in offset len was now result (Nothing e done same) = Nothing e done same

  pub puts_in : (was now : Cache) → PutsStored holds tree.checkpoint was now → PutsOfTree pages o was now
  puts_in was now stored e has = elim (stored e has) [
    | inl old ↦ inl old
    | inr new ↦
        inr (
          tree,
          is,
          record {
            checkpoint = new.checkpoint;
            block = λ held h. new.block held (holds_here held h);
          },
        )
  ]

-- ---- through what a look found

pub found_in : (m : Claim) (old new : Known) (x y : Shown) (o p : Option MountedTree) → y ≡ x → p ≡ o
    → Finds m old new x o → Finds m old new y p
found_in m old new x y o p shown tree finds =
    subst (λ (z : Shown). Finds m old new z p) (sym shown)
    (subst (λ (q : Option MountedTree). Finds m old new x q) (sym tree) finds)

-- what is kept is of the tree that was found
pub is_cache : (m : Claim) (old new : Known) (x : Shown) (tree : Option MountedTree) (cache : Option Cache)
    → Finds m old new x tree → AreCachedPages new.commits cache
    → IsCacheOf (pages_shown x) tree cache
is_cache m old new x tree cache (Lacks volume seen lacks none) pages t c held is has holds =
    absurd (cc (none, is))
is_cache m old new x tree cache (Shows s seen at shows) pages t c held is has holds =
    let same : s ≡ t = cc (shows, is) in
    let at_t : IsMountTree m old new x t = subst (λ (u : MountedTree). IsMountTree m old new x u) same at in
    blocks_of m old new x t at_t c (λ key page inside. pages.each c key page has inside) held holds

-- a read puts nothing
pub touched_pages : (log : List Commit) (OfFile : (ℕ → Holding → ℕ → Type 0) → Type 0) (offset : ℕ)
    (old new : Option Cache) (result : Result ℕ VolError)
    → TouchesIfAny OfFile offset old result new → AreCachedPages log old → AreCachedPages log new
touched_pages log OfFile offset None new result touched pages = nothing_kept log new touched
touched_pages log OfFile offset (Some was) new result (now, is, touched) pages = record {
  each = λ c key page here has.
      let same : c ≡ now = cc (here, is) in
      pages.each was key page refl
      (touched.none (key, page) (subst (λ (d : Cache). Contains d.entries (key, page)) same has));
}

-- what is put is of the tree that was found
pub put_pages : (m : Claim) (old new : Known) (x : Shown) (tree : Option MountedTree) (was now : Cache)
    → Finds m old new x tree
    → PutsOfTree (pages_shown x) tree was now → AreCachedPages new.commits (Some was)
    → AreCachedPages new.commits (Some now)
put_pages m old new x tree was now finds puts pages = record {
  each = λ c key page here has.
      let same : c ≡ now = cc here in
      elim (puts (key, page) (subst (λ (d : Cache). Contains d.entries (key, page)) same has)) [
        | inl before ↦ pages.each was key page refl before
        | inr put ↦ stored key page finds put.0 put.1 put.2
      ];
}
  where
    stored : (key : CacheKey) (page : List ℕ) → Finds m old new x tree → (t : MountedTree) → tree ≡ Some t
        → IsStored (HoldsTree (pages_shown x) (root_of t.root)) t.checkpoint (key, page)
        → IsCachedPage new.commits key.checkpoint key.inode key.index page
    stored key page (Lacks volume seen lacks none) t is put = absurd (cc (none, is))
    stored key page (Shows s seen at shows) t is put =
        let same : s ≡ t = cc (shows, is) in
        let at_t : IsMountTree m old new x t =
        subst (λ (u : MountedTree). IsMountTree m old new x u) same at in
        stored_page m old new x t at_t seen.history key page put

-- ---- of the file of the mount's checkpoint

module _ (m : Claim) (old new : Known) (x : Shown) (tree : Option MountedTree) (path : List ℕ) where
  touched_at : (offset : ℕ) (was now : Cache) (result : Result ℕ VolError) → Finds m old new x tree
      → (tree ≡ None → result ≡ Err BadMount)
      → HasTouched (OfTreeFile (pages_shown x) tree path) offset was result now
      → HasTouched (OfMountFile (shown_after new.commits) m.number path) offset was result now
  touched_at offset was now (Err e) finds refused touched =
      record { touched_is = tt; none = touched.none; same = touched.same }
  touched_at offset was now (Ok count) (Lacks volume seen lacks none) refused touched =
      absurd (cc (refused none))
  touched_at offset was now (Ok count) (Shows t seen at is) refused touched = record {
    touched_is = of_mount_file m old new x t at path _ (touched.touched_is t is);
    none = touched.none;
    same = touched.same;
  }

  pub touches_at : (offset : ℕ) (was now : Option Cache) (result : Result ℕ VolError) → Finds m old new x tree
      → (tree ≡ None → result ≡ Err BadMount)
      → TouchesIfAny (OfTreeFile (pages_shown x) tree path) offset was result now
      → TouchesIfAny (OfMountFile (shown_after new.commits) m.number path) offset was result now
  touches_at offset None now result finds refused touches = touches
  touches_at offset (Some was) now result finds refused (c, is, touched) =
      (c, is, touched_at offset was c result finds refused touched)

  pub warms_at : (offset len : ℕ) (was now : Cache) (result : Result ℕ VolError) → Finds m old new x tree
      → (tree ≡ None → result ≡ Err BadMount)
      → Warms (OfTreeFile (pages_shown x) tree path) offset len was result now
      → Warms (OfMountFile (shown_after new.commits) m.number path) offset len was result now
  warms_at offset len was now result finds refused (Nothing e is same) = Nothing e is same
  warms_at offset len was now result (Lacks volume seen lacks none) refused (Whole count is all) =
      absurd (cc (refused none, is))
  warms_at offset len was now result (Lacks volume seen lacks none) refused (Part is part) =
      absurd (cc (refused none, is))
  warms_at offset len was now result (Shows t seen at shows) refused (Whole count is all) =
      Whole count is (of_mount_file m old new x t at path _ (all t shows))
  warms_at offset len was now result (Shows t seen at shows) refused (Part is part) =
      Part is (of_mount_file m old new x t at path _ (part t shows))
