-- The counts of a new volume's needed blocks.
use Rattle.std.proofs.Common.{◌≡◌, ℕ, ◌+◌, eqb, List, [], ◌∷◌, ◌++◌, length, replicate, inl, inr, ap, sym, subst, ◌∙◌, arith}
use Rattle.std.specs.Prelude.{◌||◌}
use Rattle.std.proofs.lemmas.Bool.{cases_Bool, eq-eqb, eqb-true, or_left, or_right}
use Rattle.nl_types.specs.declared.event.Mode.TheVariants.{Plain}
use Rattle.nl_types.specs.declared.geometry.Geometry.{Geometry}
use Rattle.nl_types.specs.Blocks.NeedLaws.{AreGone}
use Rattle.nl_types.specs.Plain.NumberLists.{is_one_of}
use Rattle.nl_types.specs.Plain.Trees.{root_alone}
use Rattle.nl_device.specs.Failures.{Failures}
use Rattle.nl_device.specs.Pages.{DevicePages}
use Rattle.nl_vstore.specs.Batches.{Changes}
use Rattle.nl_vstore.specs.Stores.{IsStore, Store}
use Rattle.nl_reclaim.specs.Counted.{Counted, IsCounted}
use Rattle.nl_reclaim.specs.Events.{IsNextWritten}
use Rattle.nl_reclaim.specs.Laws.{UnusedStoresAreCounted}
use Rattle.nl_tree.specs.FirstTree.{nothing_held}
use Rattle.nl_commit.specs.CleaningEvents.{kept_numbers}
use Rattle.nl_commit.specs.Layout.{Layout, blank_layout}
use Rattle.nl_events.specs.NeededBlocks.{HasWrittenBatch}
use Rattle.nl_commit.specs.Volume.{Lists, latest_alone}
use Rattle.nl_events.specs.Facts.CountedPens.{written-over}
use Rattle.nl_events.specs.Facts.Checkpoints.{number-next}
use Rattle.nl_events.proofs.Formats.{none-in-use, sound-before, stands-before}

module _ (geometry : Geometry) (device : DevicePages) (failures : Failures) (old new : Layout) (now : ℕ)
    (batch : Changes)
    (is-blank : old ≡ blank_layout geometry device failures)
    (has : HasWrittenBatch Plain now batch old new) where
  -- before it nothing is counted, whatever room is made
  pub blank-counted : UnusedStoresAreCounted → (c d : Counted) → IsStore old.store
      → c.counts ≡ replicate (length old.store.segments.each) 0 → c.ends ≡ []
      → ((s : Store) (kept : List ℕ) → IsCounted s kept c → IsCounted s kept d)
      → IsCounted old.store (0 ∷ []) d
  blank-counted unused c d old_store none no_ends room =
      room old.store (0 ∷ [])
      (unused old.store (0 ∷ []) c old_store
      (none-in-use geometry device failures old is-blank) none no_ends)

  -- the first checkpoint comes next to the blank one
  pub first-written : IsStore old.store → (number : ℕ) → number ≡ new.lists.table.latest.number
      → IsNextWritten number batch (0 ∷ []) old.store new.store
  first-written old_store number is =
      subst (λ (n : ℕ). IsNextWritten n batch (0 ∷ []) old.store new.store) (sym is)
      (subst (λ (l : Layout). IsNextWritten new.lists.table.latest.number batch (0 ∷ []) l.store new.store)
      (sym is-blank)
      (written-over (blank_layout geometry device failures) new Plain now batch
      (subst (λ (l : Layout). HasWrittenBatch Plain now batch l new) is-blank has)
      (sound-before geometry device failures (subst (λ (l : Layout). IsStore l.store) is-blank old_store))
      nothing_held root_alone (stands-before geometry device failures)))

  first-number : new.lists.table.latest.number ≡ 1
  first-number =
      number-next old new Plain now has.writes ∙ ap (λ (l : Layout). l.lists.table.latest.number + 1) is-blank

  -- and then the blank one goes
  pub blank-gone : (left : Lists) (first next number : ℕ) → left ≡ latest_alone new.lists → first ≡ 0
      → next ≡ 1 → number ≡ new.lists.table.latest.number
      → AreGone first next ((0 ∷ []) ++ number ∷ []) (kept_numbers left)
  blank-gone left first next number is from to same =
      subst (λ (m : ℕ). AreGone first next (0 ∷ m ∷ []) (kept_numbers left)) (sym same)
      (subst (λ (l : Lists). AreGone first next (0 ∷ n ∷ []) (kept_numbers l)) (sym is) (record {
        next_stays = or_left (eqb next n) _ (eq-eqb next n (to ∙ sym first-number));
        gone = λ c among. elim (cases_Bool (eqb c 0)) [
          | inl here ↦ inr (omega (arith, from), omega (arith, to, eqb-true c 0 here))
          | inr other ↦ inl (sym (ap (λ b. b || is_one_of (n ∷ []) c) other) ∙ among)
        ];
        fewer = λ c among. or_right (eqb c 0) (is_one_of (n ∷ []) c) among;
      }))
    where
      n : ℕ
      n = new.lists.table.latest.number
