-- A pen whose mounts are all given back.
use Rattle.std.proofs.Common.{[], refl}
use Rattle.nl_types.specs.Plain.Worlds.{World}
use Rattle.nl_commit.specs.Layout.{IsPen, Layout, MeansWorld, layout_of}
use Rattle.nl_commit.specs.Volume.{without_mounts}

abbrev pub given_back : Layout → Layout
given_back l = layout_of (without_mounts l.lists) l.store

-- it means the world without mounts
pub means-given_back : (l : Layout) (w : World) → MeansWorld l w
    → MeansWorld (given_back l) (record w { mounts = [] })
means-given_back l w means = record {
  world = record {
    tree = means.world.tree;
    trees = means.world.trees;
    clean = means.world.clean;
    numbers_rise = means.world.numbers_rise;
    latest_kept = means.world.latest_kept;
    numbers_fit = means.world.numbers_fit;
    stamps_rise = means.world.stamps_rise;
    mounts_rise = refl;
    mounts_given = refl;
    given_fits = means.world.given_fits;
    mounted = λ m n at. cc;
  };
  tree = means.tree;
  dirty = means.dirty;
  copies = means.copies;
  mounts = refl;
  given = means.given;
}

pub pen-given_back : (l : Layout) → IsPen l → IsPen (given_back l)
pen-given_back l pen = record {
  world = (record pen.world.0 { mounts = [] }, means-given_back l pen.world.0 pen.world.1);
  sound = record {
    ledger = pen.sound.ledger;
    trees_sound = pen.sound.trees_sound;
    latest = pen.sound.latest;
    last = pen.sound.last;
    store = pen.sound.store;
  };
}
