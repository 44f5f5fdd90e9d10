-- An image is sound exactly if its verdict finds no fault.
use Rattle.std.proofs.Common.{◌≡◌, ℕ, zero, suc, List, [], ◌∷◌, Option, None, Some, length, refl, subst}
use Rattle.std.specs.Prelude.{◌↔◌}
use Rattle.nl_image.specs.Conditions.{AreImage, Condition, FirstFails, HoldFirst, conditions}
use Rattle.nl_image.specs.Parts.{Parts}
use Rattle.nl_backups.specs.declared.checking.Verdict.{Verdict}
use Rattle.nl_backups.specs.declared.summed.SumFile.{SumFile}
use Rattle.nl_backups.specs.Checking.{HasFailing, IsSound, NoneDifferFromFile, TellsSound, differing_beside}
use Rattle.nl_backups.specs.Hosts.{Image}

-- where all conditions hold, so do as many as one counts
all-hold : (n : ℕ) (cs : List Condition) (bytes : List ℕ) (p : Parts) → HoldFirst (length cs) cs bytes p
    → HoldFirst n cs bytes p
all-hold zero cs bytes p h = tt
all-hold (suc n) [] bytes p h = tt
all-hold (suc n) (c ∷ cs) bytes p h = (h.0, all-hold n cs bytes p h.1)

no-fault : (image : Image) (n : ℕ) → AreImage image → FirstFails n image → ⊥
no-fault image n is fails = fails.fails is.0 (all-hold n conditions image is.0 is.1)

none-fails : (image : Image) (failing : Option ℕ) → AreImage image → HasFailing image failing → failing ≡ None
none-fails image None is has = refl
none-fails image (Some n) is has = absurd (no-fault image n is has)

pub tells_sound : (image : Image) (file : SumFile) (v : Verdict) → HasFailing image v.failing
    → ((differing_beside v.beside ≡ []) ↔ NoneDifferFromFile image file)
    → TellsSound v ↔ IsSound image file
tells_sound image file v failing exact = (to, back)
  where
    to : TellsSound v → IsSound image file
    to tells = record {
      is_image = subst (λ (o : Option ℕ). HasFailing image o) tells.none_fails failing;
      none_differ = exact.0 tells.none_differ;
    }

    back : IsSound image file → TellsSound v
    back sound = record {
      none_fails = none-fails image v.failing sound.is_image failing;
      none_differ = exact.1 sound.none_differ;
    }
