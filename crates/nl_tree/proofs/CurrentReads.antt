-- What is read of the current tree by its maps is what its lists have.
use Rattle.std.proofs.Common.{◌≡◌, ℕ, ◌<◌, ◌≤◌, ◌^◌, true, List, Option, Some, None, length, refl, sym, ap, ◌∙◌, arith}
use Rattle.nl_tree.specs.declared.overlay.Overlay.{Overlay}
use Rattle.nl_tree.specs.declared.overlay.Slot.{Slot}
use Rattle.nl_tree.specs.Became.{Current, holding_over}
use Rattle.std.specs.Prelude.{cond}
use Rattle.std.specs.Ordering.{nat_cmp}
use Rattle.std.specs.BTreeMap as map
use Rattle.nl_dirs.specs.declared.record.Record.{Record}
use Rattle.nl_tree.specs.Held.{Held, Holding, IsHolding, Listed, Stored, held_count}
use Rattle.nl_tree.specs.Overlays.{IsOrderly, current_of, holding_now, over_changed, over_if_slot}
use Rattle.nl_tree.proofs.OneHolding.{one_holding}

-- the maps hold what the lists do
pub holding_listed : (o : Overlay) (now : Current) (base : Holding) → IsOrderly o → current_of o ≡ now
    → holding_now o base ≡ holding_over now.became base
holding_listed o now base orderly view =
    sym (one_holding o base orderly) ∙ ap (λ (c : Current). holding_over c.became base) view

-- a live place shows what it has
pub shown_live : (o : Overlay) (base : Holding) (i : ℕ) (slot : Slot)
    → map.get nat_cmp o.changed i ≡ Some slot → slot.live ≡ true
    → holding_now o base i ≡ over_changed slot.what (base i)
shown_live o base i slot place live =
    ap (λ (p : Option Slot). over_if_slot p (base i)) place
    ∙ ap (λ b. cond b (over_changed slot.what (base i)) (base i)) live

count_few : (held : Option Held)
    → ((records : List Record) → held ≡ Some (Listed records) → length records ≤ 524277)
    → held_count held < 2 ^ 64
count_few None few = omega arith
count_few (Some (Stored size blocks)) few = omega arith
count_few (Some (Listed records)) few = omega (arith, few records refl)

-- the names of a directory can be counted
pub names_countable : (held : Holding) → IsHolding held → (dir : ℕ) → held_count (held dir) < 2 ^ 64
names_countable held sound dir =
    count_few (held dir) (λ records is. (sound.each dir (Listed records) is).count)
