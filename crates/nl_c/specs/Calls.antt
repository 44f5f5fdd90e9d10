-- What a call does to what a handle leads to: one event of its volume, or none.
use Rattle.std.specs.Prelude.{◌≡◌, ◌⊎◌, ℕ, List, length, Option, None, Some, Result, Ok, Err}
use Rattle.nl_types.specs.declared.event.Event.{Event}
use Rattle.nl_types.specs.declared.reply.Answer.{Answer}
use Rattle.nl_types.specs.declared.reply.Named.{Named}
use Rattle.nl_types.specs.Plain.Worlds.{Reply}
use Rattle.nl_commit.specs.Layout.{Does, Layout, unshared}
use Rattle.nl_c.specs.Statuses.{closed, done, memory, status_of, told_of}
use Rattle.nl_c.specs.declared.held.Held.{Held}

abbrev pub with_pen : Layout → Held → Held
with_pen l h = record h { pen = l }

-- a handle that leads nowhere is told so, and stays so
abbrev pub IsClosed : ℕ → Option Held → Type 0
IsClosed status after = (status ≡ closed) × (after ≡ None)

-- A closed handle gives nothing, and stays so. Any other does the event, and keeps all else that it leads to.
abbrev pub Applies : Option Held → Event → Option Reply → Option Held → Type 0
Applies None event result after = (result ≡ None) × (after ≡ None)
Applies (Some h) event result after =
    (reply : Reply) × (new : Layout) × Does unshared h.pen event reply new
    × (result ≡ Some reply) × (after ≡ Some (with_pen new h))

-- the event's answer, or the number of its refusal
abbrev pub Answers : Option Held → Event → Result Answer ℕ → Option Held → Type 0
Answers None event told after = (told ≡ Err closed) × (after ≡ None)
Answers (Some h) event told after =
    (reply : Reply) × (new : Layout) × Does unshared h.pen event reply new
    × (told ≡ told_of reply) × (after ≡ Some (with_pen new h))

-- the same, where the status alone is told
abbrev pub IsDone : Option Held → Event → ℕ → Option Held → Type 0
IsDone None event status after = IsClosed status after
IsDone (Some h) event status after =
    (reply : Reply) × (new : Layout) × Does unshared h.pen event reply new
    × (status ≡ status_of reply) × (after ≡ Some (with_pen new h))

-- so it is, or there is no memory for the event itself, and nothing is done
abbrev pub IsDoneUnlessMemory : Option Held → Event → ℕ → Option Held → Type 0
IsDoneUnlessMemory was event status after =
    ((status ≡ memory) × (after ≡ was)) ⊎ IsDone was event status after
