use Rattle.std.proofs.Common.{◌≡◌, ℕ, ◌+◌, ◌-◌, ◌/◌, ◌<◌, ◌≤◌, length, slice_index}
use Rattle.std.specs.Prelude.{◌%◌}
use Rattle.nl_tree.specs.Bytes.{byte_over}
use Rattle.nl_tree.specs.Overlays.{new_page_at}
use Rattle.nl_tree.proofs.copying.copy_new_pages.Given as goal

-- the bytes so far are copied over, and those behind stay
abbrev pub invariant-loop-done : goal.invariant-loop-done
invariant-loop-done l = record {
  within : l.done ≤ length l.into;
  copied : (k : ℕ) → k < l.done → slice_index l.into k ≡
      byte_over (new_page_at l.file ((l.offset + k) / 1024)) ((l.offset + k) % 1024)
      (slice_index l.initial.into k);
  behind : (k : ℕ) → l.done ≤ k → slice_index l.into k ≡ slice_index l.initial.into k;
}

abbrev pub decreases-loop-done : goal.decreases-loop-done
decreases-loop-done l = length l.initial.into - l.done
