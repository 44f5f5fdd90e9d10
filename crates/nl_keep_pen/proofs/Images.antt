-- What is made of an image and read of it.
use Rattle.std.proofs.Common.{◌≡◌, ◌⊎◌, inl, inr, ℕ, List, [], ◌∷◌, false, map, Option, None, Some, refl, sym, ap, ◌∙◌, subst}
use Rattle.std.specs.Option.{option_map}
use Rattle.std.proofs.lemmas.Option.{same_Some}
use Rattle.nl_types.specs.declared.error.VolError.{VolError}
use Rattle.nl_types.specs.declared.error.VolError.TheVariants as error
use Rattle.nl_types.specs.Plain.Trees.{Tree}
use Rattle.nl_types.specs.Plain.Worlds.{World, Copy, copy_at, formatted, latest}
use Rattle.nl_image.specs.Parts.{with_present_mark}
use Rattle.nl_commit.specs.Layout.{IsPen, Layout, MeansWorld}
use Rattle.nl_core.specs.Opened.{IsAtRest}
use Rattle.nl_core.specs.PenImages.{CanBeClosed, ImagesMeanOneWorld, IsPenImage}
use Rattle.nl_folders.specs.declared.folder.FolderError.{FolderError}
use Rattle.nl_folders.specs.declared.folder.FolderError.TheVariants as folder
use Rattle.nl_folders.specs.Refusals.{RefusesTree}
use Rattle.nl_keep.specs.declared.storing.KeepError.{KeepError}
use Rattle.nl_keep.specs.declared.storing.KeepError.TheVariants.{Refused}
use Rattle.nl_keep.specs.Facts.Refusals.{current_refused}
use Rattle.nl_keep.specs.Facts.Tidied.{tidies_itself}
use Rattle.nl_keep.specs.Forgotten.{Forgets, MakesAllPlain}
use Rattle.nl_keep.specs.Lasting.{ForgetsChangeCopiesAlone, OnlyTidies}
use Rattle.nl_keep.specs.Refusals.{RefusesSnapshot, RefusesStore, passed_on}
use Rattle.nl_keep.specs.Stored.{KeepsTree, StoresOver}
use Rattle.nl_keep.specs.Volumes.{LeadsTo, Stays}
use Rattle.nl_keep_pen.specs.Facts.Closing.{same_world}
use Rattle.nl_keep_pen.specs.Images.{ForgetsAndTidies, HasCurrent, ImageMeans, ReadsFromImage, SameBut, StoresPrepared}
use Rattle.nl_keep_pen.specs.Opened.{IsOpenedOf, RefusesPrepared, RefusesToRead}
use Rattle.nl_keep_pen.specs.Pins.{HasPins, pins_of}

-- ---- pens that can be closed

none_mapped : {A B : Type 0} (f : A → B) (xs : List A) → map f xs ≡ [] → xs ≡ []
none_mapped f [] is = refl
none_mapped f (x ∷ xs) is = cc

-- a pen that means a world in which nothing is dirty or mounted
closable : (l : Layout) (w : World) → MeansWorld l w → w.dirty ≡ false → w.mounts ≡ [] → CanBeClosed l.lists
closable l w means clean unmounted = record {
  clean = sym means.dirty ∙ clean;
  unmounted = none_mapped _ l.lists.mounts (sym means.mounts ∙ unmounted);
}

pub at_rest : (l : Layout) → IsAtRest l.lists → CanBeClosed l.lists
at_rest l rest = record { clean = rest.clean; unmounted = rest.unmounted }

-- in the world of a pen that can be closed nothing is mounted
none_mounted : (l : Layout) (w : World) → CanBeClosed l.lists → MeansWorld l w → w.mounts ≡ []
none_mounted l w rest means = means.mounts ∙ ap (map _) rest.unmounted

pub format_closes : (l : Layout) (moment : ℕ) → MeansWorld l (formatted moment) → CanBeClosed l.lists
format_closes l moment means = closable l (formatted moment) means refl refl

-- a pen's image means its world
pub image_means : (l : Layout) (image : List ℕ) (w : World) → MeansWorld l w → IsPen l → CanBeClosed l.lists
    → IsPenImage l image → ImageMeans image w
image_means l image w means pen closed is_image = record {
  layout = l;
  pen = pen;
  is_image = is_image;
  closed = closed;
  means = means;
}

-- ---- changes

-- a tree is stored over the current one, which was read before room was made
pub prepared : (moment n : ℕ) (earlier tree : Tree) (opened read ready left : Layout)
    → ((w : World) → MeansWorld opened w → earlier ≡ w.tree)
    → LeadsTo Stays (MeansWorld opened) (MeansWorld read)
    → LeadsTo (OnlyTidies moment) (MeansWorld read) (MeansWorld ready)
    → LeadsTo (StoresOver moment n earlier tree) (MeansWorld ready) (MeansWorld left)
    → LeadsTo (StoresPrepared moment n tree) (MeansWorld opened) (MeansWorld left)
prepared moment n earlier tree opened read ready left reads stays tidies over w means =
    let a = stays w means in
    let b = tidies a.0 a.1 in
    let c = over b.0 b.1 in (
      c.0,
      c.1,
      record {
        ready = b.0;
        tidies = subst (λ (x : World). OnlyTidies moment x b.0) a.2 b.2;
        stores = c.2 (b.2.tree ∙ ap (λ (x : World). x.tree) a.2 ∙ sym (reads w means));
      },
    )

-- what a store leaves of a pen that can be closed can be closed
store_closes : (moment n : ℕ) (tree : Tree) (opened left : Layout) (w v : World) → CanBeClosed opened.lists
    → MeansWorld opened w → MeansWorld left v → StoresPrepared moment n tree w v → CanBeClosed left.lists
store_closes moment n tree opened left w v rest before means done =
    closable left v means (ap (λ (x : World). x.dirty) done.stores.world)
    (ap (λ (x : World). x.mounts) done.stores.world ∙ done.tidies.mounts ∙ none_mounted opened w rest before)

pub stored_closes : (moment n : ℕ) (tree : Tree) (opened left : Layout) → IsPen opened
    → CanBeClosed opened.lists → LeadsTo (StoresPrepared moment n tree) (MeansWorld opened) (MeansWorld left)
    → CanBeClosed left.lists
stored_closes moment n tree opened left pen rest stores =
    let d = stores pen.world.0 pen.world.1 in
    store_closes moment n tree opened left pen.world.0 d.0 rest pen.world.1 d.1 d.2

-- checkpoints are forgotten, and what they leave is tidied
pub forgets_and_tidies : (moment : ℕ) (numbers : List ℕ) (opened left tidied : Layout)
    → LeadsTo (Forgets numbers) (MeansWorld opened) (MeansWorld left)
    → LeadsTo (OnlyTidies moment) (MeansWorld left) (MeansWorld tidied)
    → LeadsTo (ForgetsAndTidies moment numbers) (MeansWorld opened) (MeansWorld tidied)
forgets_and_tidies moment numbers opened left tidied forgets tidies w means =
    let a = forgets w means in
    let b = tidies a.0 a.1 in
    (b.0, b.1, record { left = a.0; forgets = a.2; tidies = b.2 })

-- and so can what that leaves
forget_closes : ForgetsChangeCopiesAlone → (moment : ℕ) (numbers : List ℕ) (opened left : Layout) (w v : World)
    → CanBeClosed opened.lists → MeansWorld opened w → MeansWorld left v → ForgetsAndTidies moment numbers w v
    → CanBeClosed left.lists
forget_closes alone moment numbers opened left w v rest before means done =
    let same = alone numbers w done.left done.forgets in
    closable left v means (done.tidies.dirty ∙ same.dirty ∙ before.dirty ∙ rest.clean)
    (done.tidies.mounts ∙ same.mounts ∙ none_mounted opened w rest before)

pub forgotten_closes : ForgetsChangeCopiesAlone → (moment : ℕ) (numbers : List ℕ) (opened left : Layout)
    → IsPen opened → CanBeClosed opened.lists
    → LeadsTo (ForgetsAndTidies moment numbers) (MeansWorld opened) (MeansWorld left) → CanBeClosed left.lists
forgotten_closes alone moment numbers opened left pen rest forgets =
    let d = forgets pen.world.0 pen.world.1 in
    forget_closes alone moment numbers opened left pen.world.0 d.0 rest pen.world.1 d.1 d.2

-- a volume of which checkpoints are made plain
plain-dirty : (numbers : List ℕ) (old new : World) → MakesAllPlain numbers old new → new.dirty ≡ old.dirty
plain-dirty [] old new same = ap (λ (x : World). x.dirty) same
plain-dirty (n ∷ numbers) old new done =
    plain-dirty numbers done.0 new done.2 ∙ ap (λ (x : World). x.dirty) done.1.1

plain-mounts : (numbers : List ℕ) (old new : World) → MakesAllPlain numbers old new → new.mounts ≡ old.mounts
plain-mounts [] old new same = ap (λ (x : World). x.mounts) same
plain-mounts (n ∷ numbers) old new done =
    plain-mounts numbers done.0 new done.2 ∙ ap (λ (x : World). x.mounts) done.1.1

plain_closes : (numbers : List ℕ) (opened left : Layout) (w v : World) → CanBeClosed opened.lists
    → MeansWorld opened w → MeansWorld left v → MakesAllPlain numbers w v → CanBeClosed left.lists
plain_closes numbers opened left w v rest before means done =
    closable left v means (plain-dirty numbers w v done ∙ before.dirty ∙ rest.clean)
    (plain-mounts numbers w v done ∙ none_mounted opened w rest before)

pub plained_closes : (numbers : List ℕ) (opened left : Layout) → IsPen opened → CanBeClosed opened.lists
    → LeadsTo (MakesAllPlain numbers) (MeansWorld opened) (MeansWorld left) → CanBeClosed left.lists
plained_closes numbers opened left pen rest plains =
    let d = plains pen.world.0 pen.world.1 in
    plain_closes numbers opened left pen.world.0 d.0 rest pen.world.1 d.1 d.2

-- ---- pins

-- where nothing is dirty, the pins of the latest checkpoint are those of the current tree
pub of_latest : (pins : Option (List ℕ)) (tree : Tree) (copy : Option Copy)
    → option_map (λ (c : Copy). c.tree) copy ≡ Some tree
    → ((c : Copy) → copy ≡ Some c → pins ≡ pins_of c.tree) → pins ≡ pins_of tree
of_latest pins tree None is reads = let no : ◌≡◌ {A = Option Tree} None (Some tree) = is in cc
of_latest pins tree (Some c) is reads = reads c refl ∙ ap pins_of (same_Some c.tree tree is)

-- ---- of whatever world the image was made

-- what is opened of an image means its world
module _ (one : ImagesMeanOneWorld) (image : List ℕ) (opened : Layout) (of : IsOpenedOf image opened) where
  abbrev v : World
  v = of.pen.world.0

  abbrev same : (w : World) → ImageMeans (with_present_mark image) w → SameBut w v
  same = same_world one image opened of

  pub has_current : (tree : Tree) → ((w : World) → MeansWorld opened w → tree ≡ w.tree) → HasCurrent tree image
  has_current tree reads w from =
      reads v of.pen.world.1 ∙ sym (ap (λ (x : World). x.tree) (same w from))

  pub reads_from_image : (n : ℕ) (tree : Tree) → ((w : World) → MeansWorld opened w → KeepsTree n tree w)
      → ReadsFromImage n tree image
  reads_from_image n tree reads w from =
      let keeps = reads v of.pen.world.1 in
      record {
        copy = keeps.copy;
        kept = ap (λ (x : World). copy_at x n) (same w from) ∙ keeps.kept;
        has = keeps.has;
      }

  pub reads_there : (n : ℕ) (copy : Copy) → copy_at v n ≡ Some copy → ReadsFromImage n copy.tree image
  reads_there n copy kept w from = record {
    copy = copy;
    kept = ap (λ (x : World). copy_at x n) (same w from) ∙ kept;
    has = refl;
  }

  pub has_pins : (number : ℕ) (pins : Option (List ℕ)) → ((w : World) → MeansWorld opened w → number ≡ latest w)
      → ((w : World) (copy : Copy) → MeansWorld opened w → copy_at w number ≡ Some copy
      → pins ≡ pins_of copy.tree)
      → HasPins pins image
  has_pins number pins is_latest reads w from =
      let means = of.pen.world.1 in
      of_latest pins v.tree (copy_at v (latest v)) (means.world.clean (means.dirty ∙ of.closed.clean))
      (λ c kept. reads v c means (ap (λ (n : ℕ). copy_at v n) (is_latest v means) ∙ kept))
      ∙ ap pins_of (sym (ap (λ (x : World). x.tree) (same w from)))

-- ---- refusals

-- the tree of a checkpoint isn't read
pub read_refused : (n : ℕ) (w : World) (f : FolderError) (e : KeepError) → e ≡ passed_on f
    → (copy_at w n ≡ None → (f ≡ folder.Refused error.Memory) ⊎ (f ≡ folder.Refused error.NoCheckpoint))
    → ((copy : Copy) → copy_at w n ≡ Some copy → RefusesTree copy.tree f) → RefusesToRead n w e
read_refused n w f e is missing refused = by (copy_at w n) refl
  where
    none : copy_at w n ≡ None → (f ≡ folder.Refused error.Memory) ⊎ (f ≡ folder.Refused error.NoCheckpoint)
        → RefusesToRead n w e
    none at (inl memory) = inl (is ∙ ap passed_on memory)
    none at (inr missed) = inr (inl (is ∙ ap passed_on missed, at))

    by : (o : Option Copy) → copy_at w n ≡ o → RefusesToRead n w e
    by None at = none at (missing at)
    by (Some copy) at = inr (inr (copy, at, (f, is, refused copy at)))

-- the device fails, or memory lacks
pub failed : (moment : ℕ) (wanted : Tree) (w : World) (f : VolError) (e : KeepError) → e ≡ Refused f
    → (f ≡ error.Fault) ⊎ (f ≡ error.Memory) → RefusesPrepared moment wanted w e
failed moment wanted w f e is why = record {
  ready = w;
  tidies = tidies_itself moment w;
  refuses = inr (inr (subst (RefusesSnapshot (latest w)) (sym is) (by why)));
}
  where
    by : (f ≡ error.Fault) ⊎ (f ≡ error.Memory) → RefusesSnapshot (latest w) (Refused f)
    by (inl fault) = subst (λ (x : VolError). RefusesSnapshot (latest w) (Refused x)) (sym fault) tt
    by (inr memory) = subst (λ (x : VolError). RefusesSnapshot (latest w) (Refused x)) (sym memory) tt

-- the current tree isn't read
pub unread : (moment : ℕ) (wanted : Tree) (w : World) (f : FolderError) (e : KeepError) → e ≡ passed_on f
    → RefusesTree w.tree f → RefusesPrepared moment wanted w e
unread moment wanted w f e is why = record {
  ready = w;
  tidies = tidies_itself moment w;
  refuses = current_refused wanted w f e why is;
}

-- behind what was prepared nothing is stored
pub prepared_refused : (moment : ℕ) (earlier wanted : Tree) (e : KeepError) (opened read ready : Layout)
    → ((w : World) → MeansWorld opened w → earlier ≡ w.tree)
    → LeadsTo Stays (MeansWorld opened) (MeansWorld read)
    → LeadsTo (OnlyTidies moment) (MeansWorld read) (MeansWorld ready)
    → ((w : World) → MeansWorld ready w → w.tree ≡ earlier → RefusesStore wanted w e)
    → (w : World) → MeansWorld opened w → RefusesPrepared moment wanted w e
prepared_refused moment earlier wanted e opened read ready reads stays tidies refused w means =
    let a = stays w means in
    let b = tidies a.0 a.1 in
    record {
      ready = b.0;
      tidies = subst (λ (x : World). OnlyTidies moment x b.0) a.2 b.2;
      refuses = refused b.0 b.1 (b.2.tree ∙ ap (λ (x : World). x.tree) a.2 ∙ sym (reads w means));
    }
