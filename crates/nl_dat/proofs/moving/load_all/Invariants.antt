use Rattle.std.proofs.Common.{◌≡◌, map, take, Some}
use Rattle.nl_device.specs.Failures.{CountsReads}
use Rattle.nl_vstore.specs.Batches.{births_of}
use Rattle.nl_dat.specs.Table.{entry_in, stored_at}
use Rattle.nl_dat.specs.Inside.{births_in}
use Rattle.nl_dat.proofs.moving.load_all.Given as goal

-- what was loaded so far is what is stored for the numbers so far, and the space is as it was
abbrev pub invariant-loop-number : goal.invariant-loop-number
invariant-loop-number g l =
    let space = g.S.Space in
    record {
      loaded : map (stored_at (entry_in l.table) (births_in (space.content l.fn.space)))
          (take l.number-index l.numbers)
          ≡ map Some (births_of l.payload.items);
      same : space.content l.space ≡ space.content l.fn.space;
      failures : CountsReads (space.failed l.fn.space) (space.failed l.space);
    }
