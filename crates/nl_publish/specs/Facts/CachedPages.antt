-- Why pages that are kept aside stay right.
use Rattle.std.proofs.Common.{◌≡◌, ℕ, ◌<◌, ◌≤◌, Bool, true, false, cond, eqb, List, [], ◌∷◌, ◌++◌, map, fold, Option, Some, None, refl, ap, sym, subst, ◌∙◌, arith, inl, inr}
use Rattle.std.specs.List.{filter}
use Rattle.std.specs.Option.{option_or}
use Rattle.std.specs.Ordering.{nat_cmp, eq_by_cmp}
use Rattle.std.proofs.lemmas.Bool.{cases_Bool, cond-false, cond-true, eqb-true, ne_eqb}
use mathlib.Core.List.{IsPrefix}
use Rattle.nl_types.specs.declared.event.Mode.{Mode}
use Rattle.nl_types.specs.Plain.Trees.{Tree}
use Rattle.nl_layout.specs.Root.{root_of}
use Rattle.nl_layout.specs.declared.root.Root.{Root as RootBlock}
use Rattle.nl_tree.specs.Held.{Holding, held_block}
use Rattle.nl_files.specs.CheckpointRoots.{Stores}
use Rattle.nl_files.specs.CheckpointTrees.{HoldsTree}
use Rattle.nl_files.specs.Staying.{AgreeAtCheckpoint}
use Rattle.nl_files.specs.Facts.Holdings.{roots-hold_one}
use Rattle.nl_files.specs.Facts.Staying.{checkpoints-stay}
use Rattle.nl_cpfile.specs.Tables.{IsRising, Precedes, all, is_kept_without, kept_at, moded, range_in, checkpoint_root}
use Rattle.nl_cpfile.specs.declared.checkpoint.Checkpoint.{Checkpoint}
use Rattle.nl_cpfile.specs.Facts.Found.{eq_by_cmp-nat_cmp, found, found-push}
use Rattle.nl_cpfile.specs.Facts.Rising.{All-last}
use Rattle.nl_commit.specs.Commits.{AllNext, IsHistory, IsShownState, IsNext, applied, shown_after}
use Rattle.nl_commit.specs.Shown.{Shown, nothing, pages_shown}
use Rattle.nl_commit.specs.declared.commit.Commit.{Commit}
use Rattle.nl_commit.specs.declared.commit.Commit.TheVariants.{Freed, GivenBack, ModeSet, Mounted, RangeRemoved, Removed, Resized, Whole, Written}
use Rattle.nl_publish.specs.Cached.{CachedPagesStay, IsCachedPage}
use Rattle.nl_publish.specs.Histories.{IsBegun}
use Rattle.nl_publish.specs.Facts.Growing.{fold-grows}
use Rattle.nl_publish.specs.Told.{KeptTreesStay, TreeOn}
use Rattle.nl_publish.specs.Facts.Staying.{history_state, rest_of, tree_on}

-- ---- what is kept behind a commit under a number that was given was kept before it

abbrev pub WasFound : ℕ → List Checkpoint → Type 0
WasFound k kept = (c : Checkpoint) × (found k kept ≡ Some c)

found_more : (k : ℕ) (x : Checkpoint) (kept : List Checkpoint) → WasFound k kept → WasFound k (x ∷ kept)
found_more k x kept (c, is) = elim (cases_Bool (eq_by_cmp nat_cmp k x.number)) [
  | inl t ↦ (x, cond-true (eq_by_cmp nat_cmp k x.number) (Some x) (found k kept) t)
  | inr t ↦ (c, cond-false (eq_by_cmp nat_cmp k x.number) (Some x) (found k kept) t ∙ is)
]

found_filter : (p : Checkpoint → Bool) (k : ℕ) (kept last : List Checkpoint) (d : Checkpoint)
    → found k (filter p kept ++ last) ≡ Some d → WasFound k (kept ++ last)
found_filter p k [] last d is = (d, is)
found_filter p k (x ∷ kept) last d is =
    by (p x) (eq_by_cmp nat_cmp k x.number) refl is (found_filter p k kept last)
  where
    by : (b t : Bool) → eq_by_cmp nat_cmp k x.number ≡ t
        → found k (cond b (x ∷ filter p kept) (filter p kept) ++ last) ≡ Some d
        → ((e : Checkpoint) → found k (filter p kept ++ last) ≡ Some e → WasFound k (kept ++ last))
        → WasFound k (x ∷ (kept ++ last))
    by false t h is rest = found_more k x (kept ++ last) (rest d is)
    by true true h is rest = (x, cond-true (eq_by_cmp nat_cmp k x.number) (Some x) (found k (kept ++ last)) h)
    by true false h is rest = found_more k x (kept ++ last) (rest d
        (sym (cond-false (eq_by_cmp nat_cmp k x.number) (Some x) (found k (filter p kept ++ last)) h) ∙ is))

moded_number : (n : ℕ) (mode : Mode) (c : Checkpoint) → (moded n mode c).number ≡ c.number
moded_number n mode c =
    elim (eqb c.number n) as (λ b. (cond b (record c { mode = mode }) c).number ≡ c.number)
    [ true ↦ refl | false ↦ refl ]

found_moded : (n : ℕ) (mode : Mode) (k : ℕ) (kept : List Checkpoint) (d : Checkpoint)
    → found k (map (moded n mode) kept) ≡ Some d → WasFound k kept
found_moded n mode k [] d is = cc
found_moded n mode k (x ∷ kept) d is = by (eq_by_cmp nat_cmp k x.number) refl (found_moded n mode k kept)
  where
    by : (t : Bool) → eq_by_cmp nat_cmp k x.number ≡ t
        → ((e : Checkpoint) → found k (map (moded n mode) kept) ≡ Some e → WasFound k kept)
        → WasFound k (x ∷ kept)
    by true h rest = (x, cond-true (eq_by_cmp nat_cmp k x.number) (Some x) (found k kept) h)
    by false h rest = found_more k x kept (rest d
        (sym (cond-false (eq_by_cmp nat_cmp k (moded n mode x).number) (Some (moded n mode x))
        (found k (map (moded n mode) kept))
        (ap (eq_by_cmp nat_cmp k) (moded_number n mode x) ∙ h)) ∙ is))

map_push : {A B : Type 0} (f : A → B) (xs : List A) (x : A) → map f (xs ++ x ∷ []) ≡ map f xs ++ f x ∷ []
map_push f [] x = refl
map_push f (y ∷ xs) x = ap (λ ys. f y ∷ ys) (map_push f xs x)

pub record IsBehind (x : Shown) (c : Commit) (n : ℕ) : Type 0 where
  pub latest : x.table.latest.number ≤ (applied x c).table.latest.number
  pub kept : (d : Checkpoint) → kept_at n (applied x c).table ≡ Some d → WasFound n (all x.table)

pub behind : (x : Shown) (c : Commit) (n : ℕ) → n ≤ x.table.latest.number → IsNext x c → IsBehind x c n
behind x (Whole w) n given next = absurd next.new
behind x (Written w) n given next =
    let above : x.table.latest.number < w.checkpoint.number = next.new in
    record {
      latest = omega (arith, above);
      kept = λ d is. (
        d,
        or_none (found n (all x.table))
            ∙ (sym (ap (option_or (found n (all x.table)))
            (cond-false (eqb w.checkpoint.number n) (Some w.checkpoint) None
            (ne_eqb w.checkpoint.number n (λ same. omega (arith, above, given, same)))))
            ∙ (found-push n (all x.table) w.checkpoint (found n (all x.table)) refl ∙ is)),
      );
    }
  where
    or_none : (o : Option Checkpoint) → o ≡ option_or o None
    or_none None = refl
    or_none (Some c) = refl
behind x (ModeSet m mode) n given next =
    let same = moded_number m mode x.table.latest in
    record {
      latest = omega (arith, same);
      kept = λ d is.
          found_moded m mode n (all x.table) d
          (ap (found n) (map_push (moded m mode) x.table.earlier x.table.latest) ∙ is);
    }
behind x (Removed m) n given next = record {
  latest = omega arith;
  kept = λ d is. found_filter (is_kept_without (m ∷ [])) n x.table.earlier (x.table.latest ∷ []) d is;
}
behind x (RangeRemoved first last) n given next = record {
  latest = omega arith;
  kept = λ d is.
      found_filter (is_kept_without (range_in first last x.table)) n x.table.earlier
      (x.table.latest ∷ []) d is;
}
behind x (Mounted mount) n given next = record { latest = omega arith; kept = λ d is. (d, is) }
behind x (GivenBack m) n given next = record { latest = omega arith; kept = λ d is. (d, is) }
behind x (Freed gone) n given next = record { latest = omega arith; kept = λ d is. (d, is) }
behind x (Resized segments blocks) n given next = record { latest = omega arith; kept = λ d is. (d, is) }

-- ---- one commit

module _ (n : ℕ) (P : Holding → Type 0) where
  -- P is true of what the checkpoint holds in a state, where that keeps it
  pub record Shows (x : Shown) : Type 0 where
    pub given : n ≤ x.table.latest.number
    pub held : (c : Checkpoint) (held : Holding) → kept_at n x.table ≡ Some c
        → HoldsTree (pages_shown x) (root_of (checkpoint_root c)) held → P held

  step : (x : Shown) (c : Commit) → IsShownState x → IsNext x c → Shows x → Shows (applied x c)
  step x c state next shows =
      let at = behind x c n shows.given next in
      record {
        given = let given = shows.given in let more = at.latest in omega (arith, given, more);
        held = λ d held is holds. held_on d held is holds (at.kept d is);
      }
    where
      held_on : (d : Checkpoint) (held : Holding) → kept_at n (applied x c).table ≡ Some d
          → HoldsTree (pages_shown (applied x c)) (root_of (checkpoint_root d)) held
          → WasFound n (all x.table) → P held
      held_on d held is holds (e, was) =
          let pages = pages_shown x in
          let more = pages_shown (applied x c) in
          let keeps = next.keeps n e d was is in
          let tree = state.trees n e was in
          let root = root_of (checkpoint_root e) in
          let agree : AgreeAtCheckpoint pages more root = λ i level offset v at.
          keeps.pages (record { inode = i; level = level; offset = offset }) v at in
          let stay = checkpoints-stay pages more root tree.means.held tree.sound tree.means.holds agree in
          let stores : Stores more root held =
          subst (λ (r : RootBlock). Stores more (root_of r) held) keeps.root holds.stores in
          let one : held ≡ tree.means.held =
          roots-hold_one more root held tree.means.held stores
          (stay.stores tree.means.held tree.means.holds.stores) in
          subst P (sym one) (shows.held e tree.means.held was tree.means.holds)

  -- ---- all that come

  steps : (x : Shown) (more : List Commit) → IsShownState x → AllNext x more → Shows x
      → Shows (fold applied x more)
  steps x [] state next shows = shows
  steps x (c ∷ more) state next shows =
      steps (applied x c) more next.0.state next.1 (step x c state next.0 shows)

  pub shows_on : (log later : List Commit) → IsHistory log → IsHistory later → IsPrefix log later
      → Shows (shown_after log) → Shows (shown_after later)
  shows_on log later began history prefix shows =
      let whole : IsHistory (log ++ prefix.0) = subst IsHistory (sym prefix.1) history in
      let after =
      steps (shown_after log) prefix.0 (history_state log began) (rest_of log prefix.0 whole began) shows in
      let at : fold applied (shown_after log) prefix.0 ≡ shown_after later =
      sym (fold-grows nothing log prefix.0) ∙ ap shown_after prefix.1 in
      subst Shows at after

module _ (n inode index : ℕ) (page : List ℕ) where
  abbrev HasBlock : Holding → Type 0
  HasBlock held = held_block (held inode) index ≡ Some page

  page_stays : (log later : List Commit) → IsHistory later → IsPrefix log later
      → IsCachedPage log n inode index page → IsCachedPage later n inode index page
  page_stays log later history prefix cached =
      let shows : Shows n HasBlock (shown_after log) = record { given = cached.given; held = cached.block } in
      let now = shows_on n HasBlock log later cached.history history prefix shows in
      record { history = history; given = now.given; block = now.held }

-- what goes on from a history is one
pub begun_on : (log later : List Commit) → IsBegun later → IsPrefix log later → IsHistory log → IsHistory later
begun_on [] later begun prefix history = absurd history
begun_on (c ∷ log) [] begun prefix history = absurd (cc (prefix.1))
begun_on (c ∷ log) (d ∷ later) begun prefix history = begun

pub cached_pages_stay : CachedPagesStay
cached_pages_stay log later n inode index page begun prefix cached =
    page_stays n inode index page log later (begun_on log later begun prefix cached.history) prefix cached

-- ---- trees of kept checkpoints

-- a kept number is at most the latest
low_at : (n : ℕ) (latest : Checkpoint) (c : Checkpoint) (b : Bool) → eq_by_cmp nat_cmp n latest.number ≡ b
    → cond b (Some latest) None ≡ Some c → n ≤ latest.number
low_at n latest c true h is =
    let same = eqb-true latest.number n (sym (eq_by_cmp-nat_cmp n latest.number) ∙ h) in omega (arith, same)
low_at n latest c false h is = absurd cc

pub kept_low : (earlier : List Checkpoint) (latest : Checkpoint) → IsRising (earlier ++ latest ∷ [])
    → (n : ℕ) (c : Checkpoint)
    → found n (earlier ++ latest ∷ []) ≡ Some c → n ≤ latest.number
kept_low [] latest rising n c is = low_at n latest c (eq_by_cmp nat_cmp n latest.number) refl is
kept_low (d ∷ earlier) latest rising n c is =
    by (eq_by_cmp nat_cmp n d.number) refl is (kept_low earlier latest rising.1 n c)
  where
    by : (b : Bool) → eq_by_cmp nat_cmp n d.number ≡ b
        → cond b (Some d) (found n (earlier ++ latest ∷ [])) ≡ Some c
        → (found n (earlier ++ latest ∷ []) ≡ Some c → n ≤ latest.number) → n ≤ latest.number
    by true h here later =
        let same = eqb-true d.number n (sym (eq_by_cmp-nat_cmp n d.number) ∙ h) in
        let up = (All-last (Precedes d) earlier latest rising.0).number in omega (arith, same, up)
    by false h here later = later here

-- a state has the tree, where it keeps the checkpoint
record HasTree (n : ℕ) (t : Tree) (x : Shown) : Type 0 where
  given : n ≤ x.table.latest.number
  tree : (c : Checkpoint) → kept_at n x.table ≡ Some c → TreeOn x n t

tree_step : (n : ℕ) (t : Tree) (x : Shown) (c : Commit) → IsNext x c → HasTree n t x → HasTree n t (applied x c)
tree_step n t x c next has =
    let at = behind x c n has.given next in
    record {
      given = let given = has.given in let more = at.latest in omega (arith, given, more);
      tree = λ d is. let was = at.kept d is in tree_on x c n d t next is (has.tree was.0 was.1);
    }

trees_on : (n : ℕ) (t : Tree) (x : Shown) (more : List Commit) → AllNext x more → HasTree n t x
    → HasTree n t (fold applied x more)
trees_on n t x [] next has = has
trees_on n t x (c ∷ more) next has =
    trees_on n t (applied x c) more next.1 (tree_step n t x c next.0 has)

pub kept_trees_stay : KeptTreesStay
kept_trees_stay log later n t c history begun prefix tree is =
    let whole : IsHistory (log ++ prefix.0) =
    subst IsHistory (sym prefix.1) (begun_on log later begun prefix history) in
    let table = (shown_after log).table in
    let has : HasTree n t (shown_after log) = record {
      given =
          kept_low table.earlier table.latest (history_state log history).table.rising n tree.checkpoint
          tree.kept;
      tree = λ d kept. tree;
    } in
    let after = trees_on n t (shown_after log) prefix.0 (rest_of log prefix.0 whole history) has in
    let at : fold applied (shown_after log) prefix.0 ≡ shown_after later =
    sym (fold-grows nothing log prefix.0) ∙ ap shown_after prefix.1 in
    (subst (HasTree n t) at after).tree c is
