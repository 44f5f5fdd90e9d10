-- What cleans a segment next, by how many numbers are needed there.
use Rattle.std.proofs.Common.{◌≡◌, ◌≢◌, ℕ, Bool, true, false, cond, eqb, sym, ap, ◌∙◌}
use Rattle.std.proofs.lemmas.Bool.{eq-eqb, ne_eqb}
use Rattle.nl_types.specs.declared.event.Event.{Event}
use Rattle.nl_types.specs.declared.event.Event.TheVariants.{Move, Retire}
use Rattle.nl_vstore.specs.Located.{needed_count}
use Rattle.nl_commit.specs.CleanerViews.{cleaning_event}
use Rattle.nl_commit.specs.CleaningEvents.{needed_by}
use Rattle.nl_commit.specs.Layout.{Layout}

module _ (l : Layout) (segment now n : ℕ) (is : n ≡ needed_count l.store (needed_by l.lists) segment) where
  counted : needed_count l.store (needed_by l.lists) segment ≡ n
  counted = sym is

  by-test : (t : Bool) → eqb n 0 ≡ t
      → cleaning_event l segment now ≡ cond {A = Event} t (Retire segment) (Move segment 30 now)
  by-test t h =
      ap (λ (k : ℕ). cond {A = Event} (eqb k 0) (Retire segment) (Move segment 30 now)) counted
      ∙ ap (λ (b : Bool). cond {A = Event} b (Retire segment) (Move segment 30 now)) h

  pub retire-next : n ≡ 0 → Retire segment ≡ cleaning_event l segment now
  retire-next none = sym (by-test true (eq-eqb n 0 none))

  pub move-next : n ≢ 0 → Move segment 30 now ≡ cleaning_event l segment now
  move-next some = sym (by-test false (ne_eqb n 0 some))
