-- The copies that a told port's next mount shows.
use Rattle.std.proofs.Common.{◌≡◌, ◌≢◌, List, [], ◌∷◌, ◌++◌, Bool, true, false, Some, Ok, ap, sym, ◌∙◌, subst, MatchBool}
use mathlib.Core.List.{IsPrefix}
use Rattle.nl_types.specs.declared.event.Event.{Event}
use Rattle.nl_types.specs.declared.reply.Answer.{Answer}
use Rattle.nl_commit.specs.Commits.{IsHistory, shown_after}
use Rattle.nl_commit.specs.Shown.{Shown, mounted_on}
use Rattle.nl_commit.specs.declared.commit.Commit.{Commit}
use Rattle.nl_commit.specs.declared.commit.Commit.TheVariants as commit
use Rattle.nl_publish.specs.Facts.Growing.{begun_more}
use Rattle.nl_publish.specs.Facts.Staying.{found_pushed, new_mount}
use Rattle.nl_publish.specs.Histories.{IsBegun, Known}
use Rattle.nl_publish.specs.Locks.{HeldPen, told_by}
use Rattle.nl_publish.specs.Mounts.{Claim, IsClaim}
use Rattle.nl_publish.specs.Told.{HistoriesShowStates, KeptTreesStay, PublishedWorldsAreShown, TreeOn}
use Rattle.nl_mounts.specs.declared.shared.ToldReply.{ToldReply}
use Rattle.nl_mounts.specs.InOrder.{MountsShowWhatWasTold}
use Rattle.nl_mounts.specs.Sharing.Tells.{Apart, Came}
use Rattle.nl_mounts.specs.Sharing.{Tells}

-- all of the history is published behind the event, and the port has seen it
record IsAllTold (new : HeldPen) (seen : Known) : Type 0 where
  all : new.published ≡ new.history
  seen_is : seen ≡ told_by new

published_where : (b : Bool) (new : HeldPen) → b ≡ true
    → MatchBool b (new.published ≡ new.history) (new.published ≢ new.history) → new.published ≡ new.history
published_where true new is all = all
published_where false new is apart = absurd cc

all_told : (old new : HeldPen) (port seen : Known) (event : Event) (told : ToldReply) (answer : Answer)
    → told.reply ≡ Ok answer → told.is_told ≡ true → Tells old port event told new seen → IsAllTold new seen
all_told old new port seen event told answer replied is (Came known ran all same) =
    record { all = published_where told.is_told new is all; seen_is = same }
all_told old new port seen event told answer replied is (Apart other refused none still same) =
    absurd (cc (replied, refused))

-- the history that a mount was told of is one, and shows the mount
record IsShownMount (m : Claim) : Type 0 where
  history : IsHistory m.told.commits
  mounted : mounted_on (shown_after m.told.commits) m.number ≡ Some m.checkpoint

shown_mount : (m : Claim) → IsClaim m → IsBegun m.told.commits → IsShownMount m
shown_mount m claim begun =
    let last : Commit = commit.Mounted (record { number = m.number; checkpoint = m.checkpoint }) in
    let whole : IsHistory (claim.0 ++ last ∷ []) =
    begun_more claim.0 last (subst IsBegun claim.1 begun) in
    let new = new_mount claim.0 m.number m.checkpoint whole in
    record {
      history = subst IsHistory (sym claim.1) whole;
      mounted =
          ap (λ (log : List Commit). mounted_on (shown_after log) m.number) claim.1
          ∙ (ap (λ (x : Shown). mounted_on x m.number) new.grown
          ∙ found_pushed m.number m.checkpoint (shown_after claim.0).mounts new.none);
    }

pub mounts_show : PublishedWorldsAreShown → KeptTreesStay → HistoriesShowStates → MountsShowWhatWasTold
mounts_show worlds stay states port seen event told answer m w copy done replied is means found claim begun later =
    let new = done.new in
    let here = all_told done.old new port seen event told answer replied is done.tells in
    let log : List Commit = new.published in
    let history : IsHistory log = subst IsHistory (sym here.all) done.left.told.history in
    let tree : TreeOn (shown_after log) m.checkpoint copy.tree =
    worlds new w done.left.told here.all means m.checkpoint copy found in
    let prefix : IsPrefix log m.told.commits =
    subst (λ (k : Known). IsPrefix k.commits m.told.commits) here.seen_is later.commits in
    let at = shown_mount m claim begun in
    let kept = (states m.told.commits at.history).mounted m.number m.checkpoint at.mounted in
    stay log m.told.commits m.checkpoint copy.tree kept.0 history begun prefix tree kept.1
