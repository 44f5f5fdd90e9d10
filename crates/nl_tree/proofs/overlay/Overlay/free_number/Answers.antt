use Rattle.std.proofs.Common.{◌<◌, ℕ, arith, Option, sym, subst}
use Rattle.std.specs.Prelude.{MatchOption}
use Rattle.std.proofs.lemmas.Grind.{common_steps}
use Rattle.nl_types.specs.Inodes.{AreInUseFrom, IsLowestFreeInode}
use Rattle.nl_tree.specs.Numbers.{IsNumberFreed}
use Rattle.nl_tree.specs.Overlays.{holding_now}
use Rattle.nl_tree.proofs.Lowest.{free_is, freed_below}
use Rattle.nl_tree.proofs.overlay.Overlay.free_number.Goals as goal

pub returns-in-Some : goal.returns-in-Some
returns-in-Some g c = λ b holds counts.
    let below : c.in-Some.freed < c.args.self.now.mark = grind (arith, common_steps) in
    rw c.in-Some.is (freed_below (IsNumberFreed c.args.self.now) c.args.self.now.mark
    (holding_now c.args.self.now b) b counts c.in-Some.freed c.in-Some.ensures.0 c.in-Some.ensures.1
    below)

pub returns-in_default : goal.returns-in_default
returns-in_default g c = λ b holds counts.
    subst (λ (o : Option ℕ).
    MatchOption o (AreInUseFrom (holding_now c.args.self.now b) 11 524288)
    (IsLowestFreeInode (holding_now c.args.self.now b) 11))
    (sym c.lesser.ensures)
    (free_is (IsNumberFreed c.args.self.now) c.args.self.now.mark
    (holding_now c.args.self.now b) b counts c.first_freed-first.result c.free_from.result
    c.first_freed-first.ensures
    (c.free_from.ensures b holds))
