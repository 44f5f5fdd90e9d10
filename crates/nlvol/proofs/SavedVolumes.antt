-- Volumes that are saved and opened again.
use Rattle.std.proofs.Common.{◌≡◌, ◌∙◌, ℕ, Bool, true, false, inl, inr, subst, sym}
use Rattle.std.specs.Prelude.{if◌then◌else◌}
use Rattle.nl_types.specs.declared.event.Mode.TheVariants.{Plain}
use Rattle.nl_types.specs.Plain.Worlds.{Outcome, World, checkpoint}
use Rattle.nl_image.specs.Laws.{PresentMarkStays}
use Rattle.nl_commit.specs.Layout.{Layout, MeansWorld}
use Rattle.nl_core.specs.Opened.{IsAtRest}
use Rattle.nl_core.specs.PenImages.{CanBeClosed, ImagesMeanOneWorld, IsPenImage}
use Rattle.nl_commit.specs.Volume.{Lists, kept_by}
use Rattle.nlvol.specs.Endings.{IsSettled}
use Rattle.nlvol.specs.Laws.{SavedRunsComeBack, SavedVolumesComeBack, settled}

-- a pen at rest could be closed at once
rests : (l : Lists) → IsAtRest l → CanBeClosed l
rests l rest = record { clean = rest.clean; unmounted = rest.unmounted }

-- no number was given in the world of an opened pen
none_given : (l : Layout) (v : World) → IsAtRest l.lists → MeansWorld l v → v ≡ record v { given = 0 }
none_given l v rest means = λ i. record v { given = (means.given ∙ rest.none_given) i }

pub come_back : PresentMarkStays → ImagesMeanOneWorld → SavedVolumesComeBack
come_back stays one moment left opened image saves w v kept saved means =
    let same = stays saves.closed.store (kept_by saves.closed.lists) image saves.image_is in
    none_given opened v kept.rest means
    ∙ one opened saves.closed image v w kept.pen saves.pen
    (subst (IsPenImage opened) same kept.image_is) saves.image_is
    (rests opened.lists kept.rest) saves.can_be means saved

-- ---- what runs leave

-- what is opened means the world that was left, settled
settles : (moment : ℕ) (dirty : Bool) (left closed : Layout) (w : World) → MeansWorld left w → w.dirty ≡ dirty
    → IsSettled dirty moment left closed → MeansWorld closed (settled moment w)
settles moment false left closed w means clean same =
    subst (λ (b : Bool). MeansWorld closed (if b then (checkpoint w Plain moment).1 else w)) (sym clean)
    (subst (λ (l : Layout). MeansWorld l w) (sym same) means)
settles moment true left closed w means dirty (answer, does) =
    let leads = does.follows w means in
    subst (λ (b : Bool). MeansWorld closed (if b then (checkpoint w Plain moment).1 else w)) (sym dirty)
    (elim leads.step [
      | inl is ↦ subst (λ (done : Outcome). MeansWorld closed done.1) (sym is) leads.means
      | inr refused ↦ absurd (cc refused.reply_is)
    ])

pub runs_come_back : SavedVolumesComeBack → SavedRunsComeBack
runs_come_back back moment left opened image w v saves kept left_means means =
    back moment left opened image saves (settled moment w) v kept
    (settles moment left.lists.dirty left saves.closed w left_means left_means.dirty saves.settled) means
