-- The list of what became of inodes, as a function.
use Rattle.std.proofs.Common.{◌≡◌, ℕ, Bool, true, false, List, [], ◌∷◌, Option, Some, None, Less, refl, sym, ap, subst, ◌∙◌}
use Rattle.std.specs.List.{AllByRecursion}
use Rattle.std.specs.List.Sorted.{IsStrictlySortedBy}
use Rattle.std.specs.Option.{option_and_then}
use Rattle.std.specs.Ordering.{nat_cmp}
use Rattle.std.specs.FinMap.{find}
use Rattle.std.specs.Map.{lookup, keys_of}
use Rattle.std.specs.BTreeMap.{is_at}
use Rattle.std.proofs.lemmas.Bool.{eqb-true}
use Rattle.std.proofs.lemmas.Map.Keys.{sorted_head, sorted_tail}
use Rattle.nl_dirs.specs.declared.record.Record.{Record}
use Rattle.nl_tree.specs.declared.overlay.Changed.{Changed}
use Rattle.nl_tree.specs.declared.overlay.Changed.TheVariants.{Gone, File, Dir}
use Rattle.nl_tree.specs.declared.overlay.Slot.{Slot}
use Rattle.nl_tree.specs.Became.{over_if_became}
use Rattle.nl_tree.specs.Held.{Held, Listed}
use Rattle.nl_tree.specs.Overlays.{over_if_slot, over_slot, slot_shows}
use Rattle.nl_tree.specs.Shown.{pair, shown_entries}
use Rattle.nl_tree.specs.Facts.Places.{tied}

nothing_behind : {V : Type 0} (i : ℕ) (es : List (ℕ × V))
    → AllByRecursion (λ k. nat_cmp i k ≡ Less) (keys_of es) → lookup (is_at (nat_cmp i)) es ≡ None
nothing_behind i [] h = refl
nothing_behind i (e ∷ es) h = rw (h.0) (nothing_behind i es h.1)

-- what a list of the entries that show something has at a key
pub shown_at : {V X : Type 0} (show : V → Option X) (es : List (ℕ × V))
    → IsStrictlySortedBy nat_cmp (keys_of es) → (i : ℕ) →
    find nat_cmp i (shown_entries pair show es) ≡ option_and_then show (lookup (is_at (nat_cmp i)) es)
shown_at show [] sorted i = refl
shown_at {V} {X} show (e ∷ es) sorted i =
    by_test (is_at (nat_cmp i) e.0) refl (show e.1) refl (shown_at show es (sorted_tail _ _ _ sorted) i)
  where
    by_test : (b : Bool) → is_at (nat_cmp i) e.0 ≡ b → (x : Option X) → show e.1 ≡ x
        → find nat_cmp i (shown_entries pair show es) ≡ option_and_then show (lookup (is_at (nat_cmp i)) es) →
        find nat_cmp i (shown_entries pair show (e ∷ es))
        ≡ option_and_then show (lookup (is_at (nat_cmp i)) (e ∷ es))
    by_test true t None s rest =
        let same : e.0 ≡ i = eqb-true e.0 i (sym (tied i e.0) ∙ t) in
        let gone : lookup (is_at (nat_cmp i)) es ≡ None =
        nothing_behind i es
        (subst (λ (n : ℕ). AllByRecursion (λ k. nat_cmp n k ≡ Less) (keys_of es)) same
        (sorted_head _ _ _ sorted)) in
        rw (s, t) (rw s (rest ∙ ap (option_and_then show) gone))
    by_test true t (Some x) s rest = rw (s, t) (sym s)
    by_test false t None s rest = rw (s, t) rest
    by_test false t (Some x) s rest = rw (s, t) rest

names_over : (place : Option Slot) (base : Option Held) (all : List Record)
    → over_if_became (option_and_then slot_shows place) base ≡ Some (Listed all)
    → over_if_slot place base ≡ Some (Listed all)
names_over None base all is = is
names_over (Some slot) base all is = by_what slot.what slot.live is
  where
    by_what : (what : Changed) (b : Bool)
        → over_if_became (slot_shows (record { live = b; what = what })) base ≡ Some (Listed all)
        → over_slot (record { live = b; what = what }) base ≡ Some (Listed all)
    by_what what false e = e
    by_what Gone true e = e
    by_what (File file) true e = cc
    by_what (Dir listing) true e = e

pub names_at : (es : List (ℕ × Slot)) (base : Option Held) (all : List Record) (i : ℕ)
    → IsStrictlySortedBy nat_cmp (keys_of es)
    → over_if_became (find nat_cmp i (shown_entries pair slot_shows es)) base ≡ Some (Listed all) →
    over_if_slot (lookup (is_at (nat_cmp i)) es) base ≡ Some (Listed all)
names_at es base all i sorted is =
    names_over (lookup (is_at (nat_cmp i)) es) base all
    (ap (λ c. over_if_became c base) (sym (shown_at slot_shows es sorted i)) ∙ is)
