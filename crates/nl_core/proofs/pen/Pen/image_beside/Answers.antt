use Rattle.std.proofs.Common.{◌≡◌, false, refl, subst, sym}
use Rattle.std.specs.Prelude.{IfOk, Result, Ok, Err}
use Rattle.nl_types.specs.declared.error.VolError.{VolError}
use Rattle.nl_commit.specs.Layout.{Layout}
use Rattle.nl_core.specs.PenImages.{IsImageBeside, IsPenImage}
use Rattle.nl_events.specs.Facts.GivenBack.{means-given_back, pen-given_back}
use Rattle.nl_core.proofs.pen.Pen.image_beside.Goals as goal

if-ok : {A : Type 0} (P Q : A → Type 0) (r : Result A VolError) → ((a : A) → P a → Q a) → IfOk r P → IfOk r Q
if-ok P Q (Ok a) more is = more a is
if-ok P Q (Err e) more is = tt

pub returns-clause-image : goal.returns-clause-image
returns-clause-image g c =
    let l : Layout = c.self.inside.parts in
    let clean : l.lists.dirty ≡ false = subst (λ (m : Layout). m.lists.dirty ≡ false) (sym c.self.view_is) c.requires in
    rw (← c.self.view_is)
    (if-ok (λ bytes. IsPenImage l bytes.items) (λ bytes. IsImageBeside l bytes.items) c.image_of.result
    (λ bytes image. record {
      pen = pen-given_back l c.means_a_world.ensures;
      can_be = record { clean = clean; unmounted = refl };
      means = means-given_back l;
      image = image;
    })
    c.image_of.ensures.image)
