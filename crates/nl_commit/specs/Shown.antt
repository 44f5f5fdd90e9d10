-- What readers see of a volume. A page goes by its virtual block number; nothing is seen of where it stands.
use Rattle.std.specs.Prelude.{ℕ, List, [], map, slice_index_or, Option, None}
use Rattle.std.specs.Option.{option_map}
use Rattle.std.specs.Ordering.{nat_cmp}
use Rattle.std.specs.FinMap.{find}
use Rattle.nl_types.specs.declared.period.Period.{Period}
use Rattle.nl_types.specs.Blocks.PartialMaps.{Partial}
use Rattle.nl_types.specs.Blocks.Roots.{Pages}
use Rattle.nl_vstore.specs.Periods.{Periods}
use Rattle.nl_cpfile.specs.Tables.{Table}
use Rattle.nl_commit.specs.MountTables.{AreGiven}
use Rattle.nl_commit.specs.Tables.{blank_checkpoint}
use Rattle.nl_commit.specs.Volume.{mount_of}
use Rattle.nl_commit.specs.declared.commit.ShownPage.{ShownPage}
use Rattle.nl_commit.specs.declared.commit.Whole.{Whole}
use Rattle.nl_commit.specs.declared.mounts.Mounted.{Mounted}

pub record Shown : Type 0 where
  -- by virtual block number
  pub numbers : List (Option ShownPage)
  -- the kept checkpoints
  pub table : Table
  pub mounts : List Mounted
  -- how many mount numbers were given
  pub given : ℕ

-- before anything is shown
abbrev pub nothing : Shown
nothing = record {
  numbers = [];
  table = record { earlier = []; latest = blank_checkpoint };
  mounts = [];
  given = 0;
}

abbrev pub whole_of : Whole → Shown
whole_of w = record {
  numbers = w.numbers;
  table = record { earlier = w.earlier; latest = w.latest };
  mounts = w.mounts;
  given = w.given;
}

-- mounts ascend by their numbers, none of which is above the last one that was given
abbrev pub MountsRise : Shown → Type 0
MountsRise x = AreGiven x.given x.mounts

-- ---- as it is read

abbrev pub page_of : ShownPage → List ℕ
page_of p = p.page

abbrev pub period_of : ShownPage → Period
period_of p = p.period

abbrev pub shown_at : List (Option ShownPage) → Partial ShownPage
shown_at numbers v = slice_index_or numbers v None

-- the page under each number in use
abbrev pub pages_shown : Shown → Pages
pages_shown x v = option_map page_of (shown_at x.numbers v)

-- the checkpoints that each number in use belongs to
abbrev pub periods_shown : Shown → Periods
periods_shown x v = option_map period_of (shown_at x.numbers v)

-- the checkpoint that a mount shows, while it lasts
abbrev pub mounted_on : Shown → ℕ → Option ℕ
mounted_on x m = find nat_cmp m (map mount_of x.mounts)
