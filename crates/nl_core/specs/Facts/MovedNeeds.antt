-- Whatever a move makes of the kept checkpoints, the same numbers are needed.
use Rattle.std.proofs.Common.{◌≡◌, ℕ, Bool, true, false, List, [], Ok, refl, ap, ◌∙◌}
use Rattle.std.specs.Prelude.{map}
use Rattle.std.proofs.lemmas.Bool.{cond-false, cond-true}
use Rattle.nl_types.specs.declared.event.Event.TheVariants.{Move}
use Rattle.nl_types.specs.declared.reply.Answer.{Answer}
use Rattle.nl_types.specs.Blocks.Entries.{is_needed}
use Rattle.nl_types.specs.Plain.Worlds.{is_moving}
use Rattle.nl_types.specs.Facts.Needs.{checkpoints-keep}
use Rattle.nl_vstore.specs.Stores.{content_in}
use Rattle.nl_reclaim.specs.Moves.{KeepsNeeds}
use Rattle.nl_events.specs.CleanedPens.{kept_store, kept_number}
use Rattle.nl_commit.specs.Layout.{AllowedBetween, Does, IsPen, Layout}
use Rattle.nl_commit.specs.Volume.{Lists, kept_by, with_minor}
use Rattle.nl_events.specs.Facts.CountedPens.{kept-minor, latest-of}

pub moved-needs : {allowed : AllowedBetween} (old new : Layout) (segment limit now : ℕ) (answer : Answer)
    → IsPen old
    → Does allowed old (Move segment limit now) (Ok answer) new → KeepsNeeds (kept_store old) (kept_store new)
moved-needs old new segment limit now answer pen does v e is = by (is_moving (Ok answer)) refl
  where
    kept : Lists → List ℕ
    kept l = map kept_number (kept_by l)

    by : (b : Bool) → is_moving (Ok answer) ≡ b → is_needed (kept new.lists) e ≡ is_needed (kept old.lists) e
    by false idle =
        ap (λ (l : Lists). is_needed (kept l) e)
        (does.becomes.0 ∙ cond-false (is_moving (Ok answer)) (with_minor now old.lists) old.lists idle)
    by true moving =
        let latest = latest-of old pen.sound in
        ap (λ (l : Lists). is_needed (kept l) e)
        (does.becomes.0 ∙ cond-true (is_moving (Ok answer)) (with_minor now old.lists) old.lists moving)
        ∙ ap (λ (ns : List ℕ). is_needed ns e) (kept-minor now old.lists)
        ∙ checkpoints-keep [] [] (kept old.lists) old.lists.table.latest.number v
        (content_in old.store) e e tt latest.bounded latest.there
        (λ w g one has. cc) refl is is
