-- What a volume means, and what its calls do beside a world that it means.
use Rattle.std.specs.Prelude.{◌≡◌, ℕ}
use Rattle.nl_types.specs.declared.event.Ask.{Ask}
use Rattle.nl_types.specs.declared.event.Event.{Event}
use Rattle.nl_types.specs.Plain.Calls.{and_then, reply_to}
use Rattle.nl_types.specs.Plain.Runs.{AllowedRefusals, Step, unshared_refusals}
use Rattle.nl_types.specs.Plain.Worlds.{World, Reply, kept_copy}

-- which worlds a volume means
abbrev pub Meaning : Type 1
Meaning = World → Type 0

-- beside each world that was meant, one is meant that comes of it so
abbrev pub LeadsTo : (World → World → Type 0) → Meaning → Meaning → Type 0
LeadsTo Comes Old New = (w : World) → Old w → (after : World) × New after × Comes w after

-- the world is as it was
abbrev pub Stays : World → World → Type 0
Stays old new = new ≡ old

-- where an event writes, space may lack and the device may fail, and where it takes memory, that may lack
abbrev pub volume_refusals : AllowedRefusals
volume_refusals = unshared_refusals (λ event. Unit {0}) (λ event. Unit {0})

-- the event is done whole, or it is refused so and keeps the world
abbrev pub Follows : Event → Reply → World → World → Type 0
Follows event reply old new = (cleaned : Reply) × Step volume_refusals cleaned old event reply new

-- what the tree of a checkpoint answers, where that is kept
abbrev pub reply_at : World → ℕ → Ask → Reply
reply_at w n ask = and_then (kept_copy w n) (λ copy. reply_to copy.tree ask)
