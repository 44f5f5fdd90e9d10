-- What a move that took blocks leaves.
use Rattle.std.proofs.Common.{◌≡◌, ◌≢◌, ℕ, ◌+◌, true, false, cond, ◌∷◌, [], ◌++◌, Option, Some, None, Ok, Err, refl, sym, ap, ◌∙◌, subst, true≢false, is_some, arith, leb, eqb-true}
use Rattle.std.specs.Prelude.{IfOk}
use Rattle.std.specs.Option.{option_map, option_map_or}
use Rattle.std.specs.Ordering.{nat_cmp, eq_by_cmp}
use Rattle.std.specs.Cmp.{unsigned_tied}
use Rattle.std.specs.FinMap.{find}
use Rattle.nl_types.specs.declared.error.VolError.TheVariants as error
use Rattle.nl_types.specs.Plain.Limits.{checkpoint_number_limit}
use Rattle.nl_types.specs.Plain.Worlds.{World, Copy, IsWorld, Outcome, Reply, copy_at, latest, minor_copy, refused_if, with_minor}
use Rattle.nl_types.specs.Plain.CheckpointLaws.{IdleMovesStay, MakesMinor, MovesMakeMinors}
use Rattle.nl_types.specs.Facts.NumberedLists.{AllBelow-top, find-push, find-push_same}
use Rattle.nl_types.specs.Facts.EventCases.{refused_if_gives}

module _ (w : World) (now : ℕ) (world : IsWorld w) where
  made : (copy : Copy) → copy_at w (latest w) ≡ Some copy
      → MakesMinor now w (record w { copies = w.copies ++ (latest w + 1, minor_copy w now copy) ∷ [] })
  made copy kept =
      let n = latest w + 1 in
      let below = AllBelow-top w.copies n (omega arith) in
      record {
        made =
            find-push_same w.copies n (minor_copy w now copy) below
            ∙ sym (ap (option_map (minor_copy w now)) kept);
        others = λ k other. find-push w.copies n (minor_copy w now copy) k below ∙ apart k other;
        tree = refl;
        dirty = refl;
        mounts = refl;
        given = refl;
      }
    where
      apart : (k : ℕ) → k ≢ latest w + 1
          → cond (eq_by_cmp nat_cmp k (latest w + 1)) (Some (minor_copy w now copy)) (find nat_cmp k w.copies)
          ≡ find nat_cmp k w.copies
      apart k other =
          elim (eq_by_cmp nat_cmp k (latest w + 1)) as (λ b. eq_by_cmp nat_cmp k (latest w + 1) ≡ b
          → cond b (Some (minor_copy w now copy)) (find nat_cmp k w.copies) ≡ find nat_cmp k w.copies) [
            | true ↦
                λ same.
                absurd (other (eqb-true k (latest w + 1) (sym (unsigned_tied k (latest w + 1)) ∙ same)))
            | false ↦ λ _. refl
          ] refl

  makes-minor : MakesMinor now w (with_minor w now)
  makes-minor = by (copy_at w (latest w)) refl
    where
      from : Option Copy → World
      from o = record w {
        copies = w.copies ++ option_map_or (λ copy. (latest w + 1, minor_copy w now copy) ∷ []) o [];
      }

      by : (o : Option Copy) → copy_at w (latest w) ≡ o → MakesMinor now w (from o)
      by None none = absurd (true≢false (sym world.latest_kept ∙ ap is_some none))
      by (Some copy) kept = made copy kept

-- where an outcome is known, its reply doesn't matter
where-ok : (r : Reply) {X : Type 0} → X → IfOk r (λ _. X)
where-ok (Ok a) x = x
where-ok (Err e) x = tt

pub moves_make_minors : MovesMakeMinors
moves_make_minors cleaned old new segment limit now answer world moving is =
    subst Makes is (subst (λ b. Makes (cond b spent (cleaned, old))) (sym moving) done)
  where
    Makes : Outcome → Type 0
    Makes o = IfOk o.0 (λ _. MakesMinor now old o.1)

    spent : Outcome
    spent =
        refused_if (leb checkpoint_number_limit (latest old + 1)) error.NumbersSpent old
        (cleaned, with_minor old now)

    done : Makes spent
    done =
        refused_if_gives Makes (leb checkpoint_number_limit (latest old + 1)) error.NumbersSpent old
        (cleaned, with_minor old now) (λ _. tt)
        (λ _. where-ok cleaned (makes-minor old now world))

pub idle_moves_stay : IdleMovesStay
idle_moves_stay cleaned reply old new segment limit now idle is =
    subst Stays is (subst (λ b. Stays (cond b spent (cleaned, old))) (sym idle) refl)
  where
    Stays : Outcome → Type 0
    Stays o = o.1 ≡ old

    spent : Outcome
    spent =
        refused_if (leb checkpoint_number_limit (latest old + 1)) error.NumbersSpent old
        (cleaned, with_minor old now)
