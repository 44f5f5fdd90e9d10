use Rattle.std.proofs.Common.{◌≡◌}
use Rattle.std.specs.Prelude.{option_copied}
use Rattle.nl_types.specs.Blocks.Roots.{Pages, Root, page_at}
use Rattle.nl_check.specs.Private.ChangedFiles.{ListsPlaces}
use Rattle.nl_check.proofs.differing.list_block.Given as goal

abbrev pub invariant-loop-place : goal.invariant-loop-place
invariant-loop-place l = (pages : Pages) (old new : Root) → page_at pages old l.index ≡ option_copied l.before
    → page_at pages new l.index ≡ option_copied l.now
    → ListsPlaces pages old new l.index l.place l.initial.files.items l.files.items
