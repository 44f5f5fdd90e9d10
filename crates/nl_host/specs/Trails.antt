-- Folders from a first one down.
use Rattle.std.specs.Prelude.{ℕ, ◌-◌, List, length, map, take, string_bytes, slice_get}
use Rattle.std.specs.declared.option.Option.{Option}
use Rattle.std.specs.declared.option.Option.TheVariants.{None, Some}
use Rattle.nl_host.specs.declared.identity.Identity.{Identity}
use Rattle.nl_host.specs.declared.trail.Trail.{Trail}
use Rattle.nl_host.specs.declared.trail.Step.{Step}

-- the names of those below the first one
abbrev pub names : Trail → List (List ℕ)
names trail = map (λ (s : Step). string_bytes s.name) trail.steps.items

-- all but the last
abbrev pub but_last : List (List ℕ) → List (List ℕ)
but_last names = take (length names - 1) names

abbrev pub reached : (first : Identity) → Option Step → Identity
reached first None = first
reached first (Some step) = step.identity

-- what tells the last one from others: the first one, where there are no others
abbrev pub ours : Trail → Identity
ours trail = reached trail.first (slice_get trail.steps.items (length trail.steps.items - 1))
