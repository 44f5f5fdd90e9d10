use Rattle.std.proofs.Common.{◌≡◌, ◌*◌, List, Option, take, length}
use Rattle.std.specs.List.{All, flat_map}
use Rattle.nl_dat.specs.declared.entries.DatEntry.{DatEntry}
use Rattle.nl_dat.specs.EntryBytes.{HasSpelling, number_bytes}
use Rattle.nl_dat.specs.Images.{AreEntriesOf, IsSoundNumber}
use Rattle.nl_dat.proofs.images.read_entries.Given as goal

abbrev pub invariant-loop-i : goal.invariant-loop-i
invariant-loop-i l = record {
  read : take (24 * l.i) l.bytes ≡ flat_map number_bytes l.numbers.items;
  count : length l.numbers.items ≡ l.i;
  fit : All HasSpelling l.numbers.items;
  sound : All (IsSoundNumber l.segments l.latest) l.numbers.items;
  only : (numbers : List (Option DatEntry)) → AreEntriesOf l.segments l.latest l.bytes numbers
      → l.numbers.items ≡ take l.i numbers;
}
