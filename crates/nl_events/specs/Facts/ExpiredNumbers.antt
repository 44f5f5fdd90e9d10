-- Where the removal of all numbers below a boundary is refused, none goes.
use Rattle.std.proofs.Common.{◌≡◌, ℕ, true, false, cond, List, [], ◌∷◌, refl, sym, ap}
use Rattle.std.specs.Prelude.{IfOk, Result, Ok, Err}
use Rattle.std.specs.List.{filter}
use Rattle.nl_types.specs.declared.error.VolError.{VolError}
use Rattle.nl_types.specs.declared.error.VolError.TheVariants.{Memory}
use Rattle.nl_cpfile.specs.Tables.{Table, is_kept_without, without}
use Rattle.nl_cpfile.specs.declared.checkpoint.Checkpoint.{Checkpoint}
use Rattle.nl_commit.specs.Volume.{is_memory}

all-left : (kept : List Checkpoint) → filter (is_kept_without []) kept ≡ kept
all-left [] = refl
all-left (c ∷ kept) = ap (λ rest. c ∷ rest) (all-left kept)

-- the table without none is the table
pub without-none : (t : Table) → without [] t ≡ t
without-none t = ap (λ (kept : List Checkpoint). record t { earlier = kept }) (all-left t.earlier)

-- what goes where a removal was refused
abbrev pub none : VolError → Result (List ℕ) VolError
none e = cond (is_memory e) (Err Memory) (Ok [])

pub none-removed : (e : VolError) (t : Table) → IfOk (none e) (λ gone. t ≡ without gone t)
none-removed e t =
    elim (is_memory e) as (λ b. IfOk (cond b (Err Memory) (Ok [])) (λ gone. t ≡ without gone t)) [
      | true ↦ tt
      | false ↦ sym (without-none t)
    ]
