use Rattle.std.proofs.Common.{◌≡◌, ◌≤◌, ◌+◌, ◌-◌, ◌*◌, ℕ}
use Rattle.nl_types.specs.Blocks.Roots.{Tree, place_at}
use Rattle.nl_check.specs.Private.ChangedFiles.{ListsUnder}
use Rattle.nl_check.proofs.differing.+list_below.Given as goal

abbrev pub decreases-list_below : goal.decreases-list_below
decreases-list_below g l = l.level

abbrev pub invariant-loop-slot : goal.invariant-loop-slot
invariant-loop-slot g l =
    let pages = g.V.VRead.pages l.store in
    (height top other : ℕ) → l.level ≤ height
    → place_at pages (Tree height top) l.level l.offset ≡ l.fn.before
    → place_at pages (Tree height other) l.level l.offset ≡ l.fn.now
    → ListsUnder pages (Tree height top) (Tree height other) (l.level - 1) (128 * l.offset)
    (128 * l.offset + l.slot) l.initial.files.items l.files.items
