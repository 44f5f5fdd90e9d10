use Rattle.std.proofs.Common.{◌≡◌, Some, None, sym, subst}
use Rattle.nl_layout.specs.Root.{root_of}
use Rattle.nl_files.specs.CheckpointTrees.{HoldsTree}
use Rattle.nl_cpfile.specs.Tables.{checkpoint_root}
use Rattle.nl_cpfile.specs.declared.checkpoint.Checkpoint.{Checkpoint}
use Rattle.nl_commit.specs.Shown.{pages_shown}
use Rattle.nl_mounts.proofs.visits.read_kept.Goals as goal

pub returns-in-Some : goal.returns-in-Some
returns-in-Some c =
    let kept = c.in-Some.ensures in
    record {
      lacks = λ none. absurd (cc (none, kept));
      reads = λ t on.
          let was = on.kept in
          let same : on.checkpoint ≡ c.in-Some.checkpoint.now = cc (kept, was) in
          c.answer.ensures on.means.held t
          (c.new.ensures on.means.held
          (subst (λ (d : Checkpoint).
          HoldsTree (pages_shown c.args.state.now.tables) (root_of (checkpoint_root d)) on.means.held) same
          on.means.holds))
          on.means.means;
    }
