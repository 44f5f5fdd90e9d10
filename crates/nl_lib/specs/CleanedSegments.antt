-- Segments that are cleaned, one after another.
use Rattle.std.specs.Prelude.{◌≡◌, ◌+◌, ℕ, zero, suc, Bool, true, false, List, [], ◌∷◌, MatchResult, Some, None, Ok}
use Rattle.nl_types.specs.declared.error.VolError.{VolError}
use Rattle.nl_types.specs.declared.event.Event.{Event}
use Rattle.nl_types.specs.declared.event.Event.TheVariants.{Move}
use Rattle.nl_types.specs.Plain.Worlds.{Reply}
use Rattle.nl_commit.specs.CleanerViews.{cleaning_event}
use Rattle.nl_commit.specs.Layout.{Does, Layout, unshared}
use Rattle.nl_lib.specs.declared.cleaning.Cleaned.{Cleaned}

-- what cleans the segment next is done or refused
pub record Cleans (segment now : ℕ) (old : Layout) (event : Event) (reply : Reply)
    (new : Layout) : Type 0 where
  pub next : event ≡ cleaning_event old segment now
  pub does : Does unshared old event reply new

-- a move was done, so there is more to do for the segment
abbrev pub is_moved : Event → Reply → Bool
is_moved (Move segment limit now) (Ok answer) = true
is_moved event reply = false

-- so many moves were done
abbrev pub AreMoved : (segment now moves : ℕ) → Layout → Layout → Type 0
AreMoved segment now zero old new = new ≡ old
AreMoved segment now (suc n) old new =
    (mid : Layout) × (event : Event) × (reply : Reply)
    × AreMoved segment now n old mid × Cleans segment now mid event reply new × (is_moved event reply ≡ true)

-- moves are done until a retirement comes, or one is refused; the reply is the last one
pub record CleansSegment (segment now : ℕ) (old : Layout) (reply : Reply) (new : Layout) : Type 0 where
  pub moves : ℕ
  pub mid : Layout
  pub moved : AreMoved segment now moves old mid
  pub event : Event
  pub last : Cleans segment now mid event reply new
  pub ends : is_moved event reply ≡ false

abbrev pub one_more : Cleaned → Cleaned
one_more c = record c { retired = c.retired + 1 }

abbrev pub none_cleaned : Cleaned
none_cleaned = record { retired = 0; refusal = None }

abbrev pub refused_by : VolError → Cleaned
refused_by e = record { retired = 0; refusal = Some e }

-- the segments are cleaned in their order, up to the first refusal
abbrev pub CleansSegments : (now : ℕ) → List ℕ → Layout → Cleaned → Layout → Type 0
CleansSegments now [] old result new = (new ≡ old) × (result ≡ none_cleaned)
CleansSegments now (segment ∷ rest) old result new =
    (reply : Reply) × (mid : Layout) × CleansSegment segment now old reply mid
    × MatchResult reply
    (λ _. (more : Cleaned) × CleansSegments now rest mid more new × (result ≡ one_more more))
    (λ e. (new ≡ mid) × (result ≡ refused_by e))
