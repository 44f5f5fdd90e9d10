-- A pen is a volume.
use Rattle.std.proofs.Common.{inl, inr}
use Rattle.nl_types.specs.declared.error.VolError.{VolError}
use Rattle.nl_types.specs.declared.error.VolError.TheVariants.{Fault, Memory, NoSpace}
use Rattle.nl_types.specs.declared.event.Event.{Event}
use Rattle.nl_types.specs.Plain.Runs.{Step, unshared_refusals}
use Rattle.nl_types.specs.Plain.Worlds.{World, Reply}
use Rattle.nl_keep.specs.Volumes.{volume_refusals}

allowed_too : (lacks fails : Event → Type 0) (event : Event) (e : VolError) → unshared_refusals lacks fails event e
    → volume_refusals event e
allowed_too lacks fails event NoSpace may = (may.0, tt)
allowed_too lacks fails event Fault may = (may.0, tt)
allowed_too lacks fails event Memory may = may
allowed_too lacks fails event _ may = absurd may

-- a step of a pen is one of a volume
pub volume_step : (lacks fails : Event → Type 0) (cleaned : Reply) (old : World) (event : Event) (reply : Reply)
    (new : World) → Step (unshared_refusals lacks fails) cleaned old event reply new
    → Step volume_refusals cleaned old event reply new
volume_step lacks fails cleaned old event reply new step = elim step [
  | inl done ↦ inl done
  | inr refused ↦ inr (record {
    error = refused.error;
    reply_is = refused.reply_is;
    may_be = allowed_too lacks fails event refused.error refused.may_be;
    unchanged = refused.unchanged;
  })
]
