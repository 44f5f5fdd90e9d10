-- Sessions beside worlds.
use Rattle.std.proofs.Common.{[], Option, ap, refl, sym, subst}
use Rattle.nl_types.specs.declared.event.Event.{Event}
use Rattle.nl_types.specs.Plain.Worlds.{Reply, World}
use Rattle.nl_commit.specs.Layout.{Layout, MeansWorld, layout_of}
use Rattle.nl_commit.specs.Volume.{without_mounts}
use Rattle.nl_cleaner.specs.Job.{JobView}
use Rattle.nl_cleaner.specs.Rounds.{cleaning_habits}
use Rattle.nl_script.specs.Scripts.{AreLinesDone}
use Rattle.nl_script.specs.Facts.Simulations.{lines_simulated}
use Rattle.nlvol.specs.SharedVolumes.{Sharing, shared_does, shared_habits, shared_steps}
use Rattle.nlvol.specs.SessionLaws.{DoesBeside, IsVolumeBeside, RunsFollowWorlds, SessionsFollowWorlds, SharedVolumesFollowWorlds, StepsBeside, VolumeAndWorld, with_world, world_habits}
use Rattle.nlvol.proofs.SharedWorlds.{Laws}
use Rattle.nlvol.proofs.SharedWorldsEvents.{events_follow, steps_follow, unused_beside}

-- ---- events and steps

-- a next state of the pair, of which this is true
abbrev Goes : Sharing → (VolumeAndWorld → Type 0) → Type 0
Goes new IsSo = (u : VolumeAndWorld) × IsVolumeBeside new u × IsSo u

module _ (laws : Laws) (old new : Sharing) (s : VolumeAndWorld) (is : IsVolumeBeside old s) where
  does_so : (event : Event) (reply : Reply) → shared_does old event reply new
      → Goes new (DoesBeside s event reply)
  does_so event reply does =
      let so = events_follow laws s.world old new event reply is.beside does in (
        with_world new so.0,
        record { volume_is = refl; beside = so.1 },
        subst (λ (v : Sharing). DoesBeside (with_world v s.world) event reply (with_world new so.0))
            (sym is.volume_is) (record { does = does; told = so.2; beside = so.1 }),
      )

  steps_so : (job next : JobView) (reply : Option Reply)
      → shared_steps cleaning_habits old job reply new next
      → Goes new (λ u. StepsBeside s job reply u next)
  steps_so job next reply steps =
      let so = steps_follow laws s.world old new job next reply is.beside steps in (
        with_world new so.0,
        record { volume_is = refl; beside = so.1 },
        subst (λ (v : Sharing). StepsBeside (with_world v s.world) job reply (with_world new so.0) next)
            (sym is.volume_is) (record { steps = steps; told = so.2; beside = so.1 }),
      )

pub volumes_follow : Laws → SharedVolumesFollowWorlds
volumes_follow laws = record {
  does = λ old new s event reply is does. does_so laws old new s is event reply does;
  steps = λ old new s job next reply is steps. steps_so laws old new s is job next reply steps;
  views = λ v s is. ap (λ (x : Sharing). x.held.layout) (sym is.volume_is);
  plans = λ l config moment job planned. planned;
}

-- ---- lines

pub sessions_follow : SharedVolumesFollowWorlds → SessionsFollowWorlds
sessions_follow follow config count moment lines old new ends w before done =
    let so =
    lines_simulated (shared_habits cleaning_habits) world_habits IsVolumeBeside follow config count moment
    lines old new ends (with_world old w) (record { volume_is = refl; beside = before }) done in (
      so.0.world,
      so.1.beside,
      subst
          (λ (v : Sharing). AreLinesDone world_habits config count moment lines (with_world old w)
          (with_world v so.0.world) ends)
          so.1.volume_is so.2,
    )

-- ---- runs

-- a pen without its mounts means the world without them
means_unmounted : (l : Layout) (w : World) → MeansWorld l w
    → MeansWorld (layout_of (without_mounts l.lists) l.store) (record w { mounts = [] })
means_unmounted l w means = record {
  world = record {
    tree = means.world.tree;
    trees = means.world.trees;
    clean = means.world.clean;
    numbers_rise = means.world.numbers_rise;
    latest_kept = means.world.latest_kept;
    numbers_fit = means.world.numbers_fit;
    stamps_rise = means.world.stamps_rise;
    mounts_rise = refl;
    mounts_given = refl;
    given_fits = means.world.given_fits;
    mounted = λ m n at. cc;
  };
  tree = means.tree;
  dirty = means.dirty;
  copies = means.copies;
  mounts = refl;
  given = means.given;
}

pub runs_follow : {O : Type 0} → SessionsFollowWorlds → RunsFollowWorlds O
runs_follow sessions pen left config p done run w means =
    let script = run.runs in
    let before =
    unused_beside w run.old run.unused
    (subst (λ (l : Layout). MeansWorld l w) (sym run.of_pen) means) in
    let so = sessions config 0 0 script.lines run.old run.new script.ends w before script.are_done in
    record {
      after = so.0;
      beside = so.1;
      runs = record {
        lines = script.lines;
        ends = script.ends;
        are_done = so.2;
        moment_is = script.moment_is;
        misread_is = script.misread_is;
        refused_is = script.refused_is;
        written = script.written;
        read = script.read;
      };
      left_means = subst (λ (l : Layout). MeansWorld l (record so.0 { mounts = [] })) (sym run.left_is)
          (means_unmounted run.new.held.layout so.0 so.1.means);
    }
