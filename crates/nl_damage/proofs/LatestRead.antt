-- What is told of the last entry of a table of checkpoints where that can't be read.
use Rattle.std.proofs.Common.{◌≡◌, ℕ, None, Some, subst, sym}
use Rattle.nl_layout.specs.declared.checkpoint_entry.CheckpointEntry.{CheckpointEntry}
use Rattle.nl_damage.specs.declared.sections.Sections.{Sections}
use Rattle.nl_damage.specs.Sections.{IsEntryAt, IsLatest, last_place}

-- no entry stands there
abbrev pub IsUnread : Sections → (place : ℕ) → Type 0
IsUnread x place = (e : CheckpointEntry) → IsEntryAt x place e → None ≡ Some e

none-some : (e : CheckpointEntry) → None ≡ Some e → ⊥
none-some e lacks = cc

none-there : (x : Sections) (place : ℕ) → place ≡ last_place x → IsUnread x place → (e : CheckpointEntry)
    → IsEntryAt x (last_place x) e → ⊥
none-there x place is unread e at = none-some e (unread e (subst (λ (n : ℕ). IsEntryAt x n e) (sym is) at))

pub is_latest : (x : Sections) (place n : ℕ) → place ≡ last_place x → IsUnread x place → n ≡ 0 → IsLatest x n
is_latest x place n is unread zero = record {
  read = λ e at. absurd (none-there x place is unread e at);
  unread = λ none. zero;
}

pub only_latest : (x : Sections) (place m : ℕ) → place ≡ last_place x → IsUnread x place → IsLatest x m → m ≡ 0
only_latest x place m is unread latest = latest.unread (none-there x place is unread)
