use Rattle.std.proofs.Common.{◌≡◌, ◌++◌, drop, map, max, not}
use Rattle.std.specs.List.{filter}
use Rattle.nl_pins.specs.declared.rules.Dated.{Dated}
use Rattle.nl_pins.specs.Retention.{Descend, expired, stays}
use Rattle.nl_pins.proofs.Kept.{FollowAll}
use Rattle.nl_pins.proofs.Last.{FollowLast}
use Rattle.nl_pins.proofs.expiring.expired.Given as goal

abbrev pub invariant-loop-dated : goal.invariant-loop-dated
invariant-loop-dated l = record {
  descend : Descend (drop l.dated-index l.fn.rows);
  follow : FollowAll l.fn.rules l.fn.rows l.counts (drop l.dated-index l.fn.rows);
  last : FollowLast (max 1 l.fn.rules.last) l.fn.rows l.left (drop l.dated-index l.fn.rows);
  gone : l.gone.items
      ++ map (λ (d : Dated). d.number)
      (filter (λ d. not (stays l.fn.rules l.fn.rows d)) (drop l.dated-index l.fn.rows))
      ≡ expired l.fn.rules l.fn.rows;
}
