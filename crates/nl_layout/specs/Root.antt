-- What a root of the code stands for, and how it is spelled.
use Rattle.std.specs.Prelude.{ℕ, zero, suc, ◌==◌, ◌&&◌, nat_le, if◌then◌else◌, Option, None, Some}
use Rattle.nl_types.specs.Blocks.Roots as roots
use Rattle.nl_layout.specs.declared.root.Root.{Root}
use Rattle.nl_layout.specs.declared.root.Root.TheVariants.{Empty, Chain, Tree}
use Rattle.nl_layout.specs.declared.root.RootFields.{RootFields}

abbrev pub root_of : Root → roots.Root
root_of Empty = roots.Empty
root_of (Chain top) = roots.Chain top
root_of (Tree height top) = roots.Tree height top

-- an empty root has no number, and neither it nor a chain has a height
abbrev pub fields_of : Root → RootFields
fields_of Empty = record { kind = 0; height = 0; number = 0 }
fields_of (Chain top) = record { kind = 1; height = 0; number = top }
fields_of (Tree height top) = record { kind = 2; height = height; number = top }

-- the root that the fields spell, if they spell one
abbrev pub root_told_by : (kind height number : ℕ) → Option Root
root_told_by zero height number = if height == 0 && number == 0 then Some Empty else None
root_told_by (suc zero) height number = if height == 0 then Some (Chain number) else None
root_told_by (suc (suc zero)) height number = if nat_le height 3 then Some (Tree height number) else None
root_told_by (suc (suc (suc kind))) height number = None

abbrev pub root_told : RootFields → Option Root
root_told fields = root_told_by fields.kind fields.height fields.number
