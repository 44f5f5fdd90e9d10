use Rattle.std.specs.Prelude.{◌≡◌, All, drop, length}
use Rattle.nl_publish.proofs.opening.take_seats.Given as goal

abbrev pub invariant-loop : goal.invariant-loop
invariant-loop g l = record {
  count : length l.seats.items ≡ l.counter;
  fronts : All (λ s. s.front ≡ l.front) l.seats.items;
  shown : l.named.writer.desk.shown ≡ l.fn.named.writer.desk.shown;
  unseen : drop l.named.writer.behind l.named.writer.log.items
      ≡ drop l.fn.named.writer.behind l.fn.named.writer.log.items;
}
