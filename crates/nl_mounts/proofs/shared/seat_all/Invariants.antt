use Rattle.std.proofs.Common.{◌≡◌, ◌+◌, ◌++◌, length}
use Rattle.std.specs.Vec.Iter.{into_iter_items}
use Rattle.std.specs.Prelude.{◌≤◌, map}
use Rattle.nl_mounts.specs.Ports.{fresh}
use Rattle.nl_mounts.proofs.shared.seat_all.Given as goal

-- there is room for the seats that are left, and with their ports the list is what is promised
abbrev pub invariant-loop-seat : goal.invariant-loop-seat
invariant-loop-seat g l = record {
  next : (goal.iterator-loop-seat g).can_next l.seat-iterator;
  ends : (goal.iterator-loop-seat g).is_finite l.seat-iterator;
  room : length l.ports.items + length (into_iter_items l.seat-iterator) ≤ l.ports.cap;
  ports : l.ports.items ++ map (λ s. fresh s.front) (into_iter_items l.seat-iterator)
      ≡ l.fn.ports.items ++ map (λ s. fresh s.front) l.fn.seats.items;
}
