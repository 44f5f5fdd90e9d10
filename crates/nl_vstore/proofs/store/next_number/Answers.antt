use Rattle.std.proofs.Common.{◌≡◌, ℕ, ◌+◌, ◌<◌, ◌≤◌, true, false, Option, Some, None, inl, inr, refl, ap, ◌∙◌, is_some, max, arith}
use Rattle.std.specs.Prelude.{Bool, ◌||◌}
use Rattle.std.specs.Option.{option_map}
use Rattle.std.proofs.lemmas.Bool.{cases_Bool, cases_lt}
use Rattle.nl_vstore.specs.Batches.{Changes, CanBeTaken, IsLowestFree, is_born, is_taken, last_number}
use Rattle.nl_vstore.specs.Stores.{Numbered, Store, IsStore, block_now, entry_now, numbered_in, content_in, capacity}
use Rattle.nl_vstore.proofs.store.next_number.Goals as goal

nothing_above : (s : Store) (v : ℕ) → IsStore s → capacity s < v → is_some (content_in s v) ≡ false
nothing_above s v is above = of (numbered_in s v) refl
  where
    of : (o : Option Numbered) → numbered_in s v ≡ o → is_some (option_map entry_now o) ≡ false
    of None e = refl
    of (Some n) e =
        absurd (let k = is.numbers v n.block (ap (option_map block_now) e) in omega (arith, k.1, above))

lowest_above : (s : Store) (changes : Changes) → IsStore s → CanBeTaken (capacity s) (content_in s) changes
    → ((v : ℕ) → 1 ≤ v → v ≤ capacity s → is_taken (content_in s) changes.births v ≡ true)
    → IsLowestFree (content_in s) changes.births (max (capacity s) (last_number changes.births) + 1)
lowest_above s changes is fits taken = record {
  positive = omega arith;
  free = ap (λ (t : Bool). t || is_born changes.births top) (nothing_above s top is (omega arith)) ∙ unborn;
  lowest = λ w low high. elim (cases_lt (capacity s) w) [
    | inl above ↦ fits.taken w low (omega (arith, above, high))
    | inr below ↦ taken w low below
  ];
}
  where
    top : ℕ
    top = max (capacity s) (last_number changes.births) + 1

    unborn : is_born changes.births top ≡ false
    unborn = elim (cases_Bool (is_born changes.births top)) [
      | inl born ↦ absurd (let k = fits.upto_last top born in omega (arith, k))
      | inr e ↦ e
    ]

pub returns-in-Err-clause-lowest : goal.returns-in-Err-clause-lowest
returns-in-Err-clause-lowest g c =
    rw (c.above_all.ensures, c.capacity.ensures.count)
    (lowest_above (g.V.Vstore.store c.args.store.now) c.args.batch.now
    (g.met.V.Vstore.is_store c.args.store.now) c.requires c.in-Err.ensures.all_taken)
