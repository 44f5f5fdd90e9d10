-- The copy that a mount names.
use Rattle.std.proofs.Common.{◌≡◌, ℕ, List, [], ◌∷◌, ◌++◌, Option, None, Some, ap, refl, sym, ◌∙◌, subst}
use Rattle.nl_types.specs.Blocks.Roots.{Pages}
use Rattle.nl_types.specs.Plain.Worlds.{Copy, World, copy_at}
use Rattle.nl_cpfile.specs.Tables.{kept_at, checkpoint_root}
use Rattle.nl_cpfile.specs.declared.checkpoint.Checkpoint.{Checkpoint}
use Rattle.nl_commit.specs.Commits.{IsHistory, IsShownState, shown_after}
use Rattle.nl_commit.specs.Layout.{MeansWorld, layout_pages}
use Rattle.nl_commit.specs.Means.{RootMeans}
use Rattle.nl_commit.specs.Notes.{shown_of}
use Rattle.nl_commit.specs.Shown.{Shown, mounted_on, pages_shown}
use Rattle.nl_commit.specs.declared.commit.Commit.{Commit}
use Rattle.nl_commit.specs.declared.commit.Commit.TheVariants as commit
use Rattle.nl_commit.specs.Facts.Events.{copy_of}
use Rattle.nl_commit.specs.Facts.ShownNumbers.{pages-shown}
use Rattle.nl_publish.specs.Locks.{HeldPen, IsHeldPen}
use Rattle.nl_publish.specs.Told.{PublishedWorldsAreShown, ShowsCopy, TreeOn}
use Rattle.nl_publish.proofs.Running.{HasMounted}
use Rattle.nl_publish.specs.Facts.Staying.{found_pushed, history_state, new_mount}

-- the history that a mount's commit ends shows that mount
pub mounted_last : (before : List Commit) (m k : ℕ)
    → IsHistory (before ++ commit.Mounted (record { number = m; checkpoint = k }) ∷ [])
    → mounted_on (shown_after (before ++ commit.Mounted (record { number = m; checkpoint = k }) ∷ [])) m ≡ Some k
mounted_last before m k h =
    let new = new_mount before m k h in
    ap (λ (x : Shown). mounted_on x m) new.grown ∙ found_pushed m k (shown_after before).mounts new.none

-- a copy that the pen means is what its state shows
copy_shown : (h : HeldPen) (k : ℕ) (w : World) → MeansWorld h.layout w → (m : ℕ) → IsShownState (shown_of h.layout)
    → mounted_on (shown_of h.layout) m ≡ Some k → ShowsCopy (shown_of h.layout) k w
copy_shown h k w means m state at =
    let c = state.mounted m k at in
    let copy = copy_of (layout_pages h.layout) h.layout.lists w k (Some c.0) means c.1 in
    record {
      copy = copy.0;
      kept = copy.1;
      shown = record {
        checkpoint = c.0;
        kept = c.1;
        means =
            subst (λ (pages : Pages). RootMeans pages (checkpoint_root c.0) copy.0.tree)
            (sym (pages-shown h.layout)) copy.2.tree;
      };
    }

-- the copy of a mount that was just published
pub shows_copy : (h : HeldPen) (m k : ℕ) (w : World) → IsHeldPen h → HasMounted h k m → MeansWorld h.layout w
    → ShowsCopy (shown_after h.published) k w
shows_copy h m k w told mounted means =
    let at : shown_after h.published ≡ shown_of h.layout = ap shown_after mounted.all ∙ sym told.shown in
    let history : IsHistory h.published = subst IsHistory (sym mounted.all) told.history in
    let ends : IsHistory (mounted.ends.0 ++ commit.Mounted (record { number = m; checkpoint = k }) ∷ []) =
    subst IsHistory mounted.ends.1 history in
    let found : mounted_on (shown_after h.published) m ≡ Some k =
    ap (λ (log : List Commit). mounted_on (shown_after log) m) mounted.ends.1
    ∙ mounted_last mounted.ends.0 m k ends in
    subst (λ (x : Shown). ShowsCopy x k w) (sym at)
    (copy_shown h k w means m (subst IsShownState at (history_state h.published history))
    (subst (λ (x : Shown). mounted_on x m ≡ Some k) at found))

-- where all is published, each copy of a world that the pen means is shown
module _ (h : HeldPen) (w : World) (n : ℕ) (copy : Copy) (means : MeansWorld h.layout w)
    (is : copy_at w n ≡ Some copy) where
  shown_at : (o : Option Checkpoint) → kept_at n (shown_of h.layout).table ≡ o
      → TreeOn (shown_of h.layout) n copy.tree
  shown_at None none =
      absurd (cc (is, copy_of (layout_pages h.layout) h.layout.lists w n None means none))
  shown_at (Some c) kept =
      let found = copy_of (layout_pages h.layout) h.layout.lists w n (Some c) means kept in
      let same : found.0 ≡ copy = (let at = found.1 in cc (is, at)) in
      record {
        checkpoint = c;
        kept = kept;
        means =
            subst (λ (k : Copy). RootMeans (pages_shown (shown_of h.layout)) (checkpoint_root c) k.tree) same
            (subst (λ (pages : Pages). RootMeans pages (checkpoint_root c) found.0.tree)
            (sym (pages-shown h.layout)) found.2.tree);
      }

pub published_worlds_are_shown : PublishedWorldsAreShown
published_worlds_are_shown h w told all means n copy is =
    subst (λ (x : Shown). TreeOn x n copy.tree) (told.shown ∙ ap shown_after (sym all))
    (shown_at h w n copy means is (kept_at n (shown_of h.layout).table) refl)
