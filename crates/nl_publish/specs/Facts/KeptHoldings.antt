-- Why kept checkpoints hold what they held.
use Rattle.std.proofs.Common.{◌≡◌, ℕ, [], ◌∷◌, ◌++◌, Some, ap, sym, ◌∙◌, subst}
use Rattle.nl_layout.specs.Root.{root_of}
use Rattle.nl_tree.specs.Held.{Holding}
use Rattle.nl_files.specs.CheckpointTrees.{HoldsTree}
use Rattle.nl_files.specs.Facts.Holdings.{roots-hold_one}
use Rattle.nl_cpfile.specs.Tables.{kept_at, checkpoint_root}
use Rattle.nl_cpfile.specs.declared.checkpoint.Checkpoint.{Checkpoint}
use Rattle.nl_commit.specs.Commits.{IsHistory, applied, shown_after}
use Rattle.nl_commit.specs.Shown.{Shown, mounted_on, pages_shown}
use Rattle.nl_commit.specs.declared.commit.Commit.{Commit}
use Rattle.nl_commit.specs.declared.commit.Commit.TheVariants as commit
use Rattle.nl_commit.specs.declared.mounts.Mounted.{Mounted}
use Rattle.nl_publish.specs.Histories.{IsBegun}
use Rattle.nl_publish.specs.KeptHoldings.{HoldsOn, KeptHoldingsStay, MountsHold}
use Rattle.nl_publish.specs.Facts.CachedPages.{Shows, begun_on, kept_low, shows_on}
use Rattle.nl_publish.specs.Facts.Growing.{begun_more}
use Rattle.nl_publish.specs.Facts.Staying.{found_pushed, history_state, new_mount}

-- a kept checkpoint holds one thing
one_held : (x : Shown) (n : ℕ) (c : Checkpoint) (held now : Holding) → HoldsOn x n held
    → kept_at n x.table ≡ Some c → HoldsTree (pages_shown x) (root_of (checkpoint_root c)) now → now ≡ held
one_held x n c held now at kept holds =
    let was = at.kept in
    let same : c ≡ at.checkpoint = cc (kept, was) in
    let here : HoldsTree (pages_shown x) (root_of (checkpoint_root at.checkpoint)) now =
    subst (λ (d : Checkpoint). HoldsTree (pages_shown x) (root_of (checkpoint_root d)) now) same holds in
    roots-hold_one (pages_shown x) (root_of (checkpoint_root at.checkpoint)) now held here.stores
    at.holds.stores

pub kept_holdings_stay : KeptHoldingsStay
kept_holdings_stay log later n held now history begun prefix was at =
    let table = (shown_after log).table in
    let shows : Shows n (λ h. h ≡ held) (shown_after log) = record {
      given =
          kept_low table.earlier table.latest (history_state log history).table.rising n was.checkpoint
          was.kept;
      held = λ c h kept holds. one_held (shown_after log) n c held h was kept holds;
    } in
    (shows_on n (λ h. h ≡ held) log later history (begun_on log later begun prefix history) prefix shows).held
    at.checkpoint now at.kept at.holds

-- ---- of a mount

pub mounts_hold : MountsHold
mounts_hold m claim begun =
    let mount : Mounted = record { number = m.number; checkpoint = m.checkpoint } in
    let c : Commit = commit.Mounted mount in
    let ends : IsHistory (claim.0 ++ c ∷ []) =
    begun_more claim.0 c (subst IsBegun claim.1 begun) in
    let history : IsHistory m.told.commits = subst IsHistory (sym claim.1) ends in
    let new = new_mount claim.0 m.number m.checkpoint ends in
    let shown : shown_after m.told.commits ≡ applied (shown_after claim.0) c = ap shown_after claim.1 ∙ new.grown in
    let mounted : mounted_on (shown_after m.told.commits) m.number ≡ Some m.checkpoint =
    ap (λ (x : Shown). mounted_on x m.number) shown
    ∙ found_pushed m.number m.checkpoint (shown_after claim.0).mounts new.none in
    let state = history_state m.told.commits history in
    let kept = state.mounted m.number m.checkpoint mounted in
    let tree = state.trees m.checkpoint kept.0 kept.1 in (
      history,
      (tree.means.held, record { checkpoint = kept.0; kept = kept.1; holds = tree.means.holds }),
    )
