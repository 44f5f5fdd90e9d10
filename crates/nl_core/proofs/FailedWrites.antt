-- What the answer of an event tells of the writes that failed during it.
use Rattle.std.proofs.Common.{◌≡◌, ap, inl, inr, refl}
use Rattle.std.specs.Prelude.{Ok, Err}
use Rattle.nl_types.specs.declared.error.VolError.TheVariants as error
use Rattle.nl_types.specs.declared.event.Event.{Event}
use Rattle.nl_types.specs.declared.event.Event.TheVariants as event
use Rattle.nl_types.specs.declared.reply.Answer.{Answer}
use Rattle.nl_device.specs.Failures.{Failures}
use Rattle.nl_vstore.specs.Stores.{Store}
use Rattle.nl_commit.specs.Laws.{FailedWritesAreTold, IsAsBefore, TellsOfWrites}
use Rattle.nl_commit.specs.Layout.{AllowedBetween, HasDone, Layout}
use Rattle.nl_core.specs.Facts.Refusals.{refusals_keep_pens}

-- as many writes have failed as before
abbrev FailsNoWrite : Layout → Layout → Type 0
FailsNoWrite old new = new.store.failed.writes ≡ old.store.failed.writes

same-failures : (old new : Layout) → new.store.failed ≡ old.store.failed → FailsNoWrite old new
same-failures old new same = ap (λ (failed : Failures). failed.writes) same

same-store : (old new : Layout) → new.store ≡ old.store → FailsNoWrite old new
same-store old new same = ap (λ (s : Store). s.failed.writes) same

same-layout : (old new : Layout) → new ≡ old → FailsNoWrite old new
same-layout old new same = ap (λ (l : Layout). l.store.failed.writes) same

done : (event : Event) (a : Answer) (old new : Layout) → TellsOfWrites event → HasDone old event a new
    → FailsNoWrite old new
done (event.Checkpoint mode moment) a old new tells is = same-failures old new is.writes.written.unfailed
done (event.Move segment limit moment) a old new tells is = is.1.moved.moved.writes
done (event.Resize segments) a old new tells is = same-failures old new is.1.grown.unfailed
done (event.Retire segment) a old new tells is = absurd tells
done (event.Apply change) a old new tells is = ap (λ (l : Layout). l.store.failed.writes) is.0
done (event.ChangeMode n mode) a old new tells is = ap (λ (l : Layout). l.store.failed.writes) is
done (event.Remove n) a old new tells is = same-store old new is.1
done (event.RemoveRange first last) a old new tells is = same-store old new is.1
done (event.Expire now period) a old new tells is = same-store old new is.1
done (event.Mount n) a old new tells is = ap (λ (l : Layout). l.store.failed.writes) is
done (event.Unmount m) a old new tells is = ap (λ (l : Layout). l.store.failed.writes) is
done event a old new tells is = same-layout old new is

-- what is refused but for a fault is as it was
as-before : (event : Event) (old new : Layout) → IsAsBefore event old new → FailsNoWrite old new
as-before (event.Move segment limit moment) old new is = is.1.writes
as-before event old new is = same-layout old new is

pub failed_writes_are_told : (allowed : AllowedBetween) → FailedWritesAreTold allowed
failed_writes_are_told allowed old new event (Ok a) tells does = inr (done event a old new tells does.becomes)
failed_writes_are_told allowed old new event (Err error.Fault) tells does = inl refl
failed_writes_are_told allowed old new event (Err e) tells does =
    inr (as-before event old new (refusals_keep_pens allowed old new event e does (λ same. cc)))
