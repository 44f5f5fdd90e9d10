-- Where nothing is written, moved or read, a store is as it was.
use Rattle.std.proofs.Common.{◌≡◌, ℕ, Bool, true, false, [], refl, ap, arith}
use Rattle.std.proofs.lemmas.List.Elements.{All-nil}
use Rattle.nl_types.specs.Blocks.Entries.{Content}
use Rattle.nl_vstore.specs.Appended.{IsAppended}
use Rattle.nl_vstore.specs.Batches.{CanBeTaken}
use Rattle.nl_vstore.specs.Stores.{IsMoved, IsWritten, KeepsStored, Store, address_in, is_inside, space_in}
use Rattle.nl_reclaim.specs.Laws.{no_changes}

-- a store keeps what it stores where it is the same
pub keeps-same : (old new : Store) → new ≡ old → KeepsStored old new
keeps-same old new same = record {
  numbers = ap (λ (s : Store). s.numbers) same;
  segments = ap (λ (s : Store). s.segments) same;
  device = ap (λ (s : Store). s.device) same;
  payload = ap (λ (s : Store). s.payload) same;
  writes = ap (λ (s : Store). s.failed.writes) same;
}

nothing-appended : (s : Store) (reserve : Bool) (stamp checkpoint : ℕ)
    → IsAppended (space_in s) (space_in s) reserve stamp checkpoint [] []
nothing-appended s reserve stamp checkpoint = record {
  logs = [];
  fits = record { each = tt; total = refl; filled = tt; in_row = tt; taken = tt };
  segments = refl;
  logs_stand = tt;
  at = refl;
  unused_before = record { count = refl; inside = tt; unused = tt; distinct = tt };
  used_now = tt;
  held = tt;
  stored = tt;
  others = λ b outside. (refl, refl);
}

pub nothing-moved : (segment checkpoint stamp : ℕ) (s : Store) → IsMoved segment checkpoint stamp [] s s
nothing-moved segment checkpoint stamp s = record {
  content = refl;
  payload = [];
  theirs = refl;
  at = [];
  appended = nothing-appended s false stamp checkpoint;
  address = refl;
  out = All-nil (λ v. is_inside s.segments segment (address_in s v) ≡ false);
  writes = refl;
}

pub nothing-written : (checkpoint stamp : ℕ) (s : Store) → IsWritten checkpoint stamp no_changes s s
nothing-written checkpoint stamp s = record {
  content = refl;
  at = [];
  appended = nothing-appended s true stamp checkpoint;
  address = refl;
  unfailed = refl;
}

pub nothing-fits : (capacity : ℕ) (content : Content) → CanBeTaken capacity content no_changes
nothing-fits capacity content = record {
  inside = omega arith;
  once = tt;
  taken = λ v some low. absurd (omega (arith, some, low));
  unused = λ v born. cc;
  from_one = λ v born. cc;
  upto_last = λ v born. cc;
  live = λ v ended. cc;
}
