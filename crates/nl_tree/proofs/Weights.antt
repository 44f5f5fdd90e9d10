-- What an overlay counts: what shows weighs no more than what has places, and what a write to one place makes of
-- the sum of all.
use Rattle.std.proofs.Common.{◌≡◌, ℕ, ◌+◌, ◌≤◌, Bool, true, false, List, [], ◌∷◌, length, Option, Some, None, Ordering, Less, Equal, Greater, refl, sym, ap, arith}
use Rattle.std.specs.Prelude.{cond}
use Rattle.std.specs.BTreeMap.{insert_entry}
use Rattle.std.specs.List.{cons_option}
use Rattle.std.specs.Map.{lookup, set_value}
use Rattle.std.specs.Option.{option_map, unwrap_or}
use Rattle.nl_tree.specs.declared.overlay.Changed.{Changed}
use Rattle.nl_tree.specs.declared.overlay.Changed.TheVariants.{Gone, File, Dir}
use Rattle.nl_tree.specs.declared.overlay.Slot.{Slot}
use Rattle.nl_tree.specs.Overlays.{became_of, slot_shows}
use Rattle.nl_tree.specs.Places.{all_places, places_of}
use Rattle.nl_tree.specs.Records.{record_named}
use Rattle.nl_tree.specs.Shown.{itself, pair, shown_entries}
use Rattle.nl_tree.specs.Weights.{total_weight, weight_of}

-- no more entries show than there are
shown-few : {K V X R : Type 0} (made : K → X → R) (show : V → Option X) (es : List (K × V))
    → length (shown_entries made show es) ≤ length es
shown-few made show [] = omega arith
shown-few made show (e ∷ es) = by (show e.1) (shown-few made show es)
  where
    by : (o : Option _) → length (shown_entries made show es) ≤ length es
        → length (cons_option (option_map (λ x. made e.0 x) o) (shown_entries made show es)) ≤ length (e ∷ es)
    by None few = omega (arith, few)
    by (Some x) few = omega (arith, few)

-- what shows of an inode weighs no more than its places
one-shown : (what : Changed) → weight_of (became_of what) ≤ places_of what
one-shown Gone = omega arith
one-shown (File file) = let few = shown-few pair itself file.pages.entries in omega (arith, few)
one-shown (Dir listing) =
    let few = shown-few (record_named (λ k. k.items)) itself listing.map.entries in omega (arith, few)

-- what shows weighs no more than all places
pub all-shown : (es : List (ℕ × Slot)) → total_weight (shown_entries pair slot_shows es) ≤ all_places es
all-shown [] = omega arith
all-shown (e ∷ es) = by e.1.live (one-shown e.1.what) (all-shown es)
  where
    by : (live : Bool) → weight_of (became_of e.1.what) ≤ places_of e.1.what
        → total_weight (shown_entries pair slot_shows es) ≤ all_places es
        → total_weight (cons_option (option_map (λ x. pair e.0 x) (cond live (Some (became_of e.1.what)) None))
        (shown_entries pair slot_shows es))
        ≤ places_of e.1.what + all_places es
    by true one rest = omega (arith, one, rest)
    by false one rest = omega (arith, one, rest)

-- the places of all but one are the same before it is written and after
pub record OthersStay (es : List (ℕ × Slot)) (test : ℕ → Bool) (old new : Slot) : Type 0 where
  pub rest : ℕ
  pub before : all_places es ≡ places_of old.what + rest
  pub after : all_places (set_value test es new) ≡ places_of new.what + rest

pub others-stay : (es : List (ℕ × Slot)) (test : ℕ → Bool) (old new : Slot) → Some old ≡ lookup test es
    → OthersStay es test old new
others-stay [] test old new there = absurd cc
others-stay (e ∷ es) test old new there = by (test e.0) refl there (λ found. others-stay es test old new found)
  where
    by : (b : Bool) → test e.0 ≡ b → Some old ≡ cond b (Some e.1) (lookup test es)
        → (Some old ≡ lookup test es → OthersStay es test old new) → OthersStay (e ∷ es) test old new
    by true is found others = record {
      rest = all_places es;
      before = ap (λ (s : Slot). places_of s.what + all_places es)
          (sym (ap (λ (o : Option Slot). unwrap_or o e.1) found));
      after = rw is refl;
    }
    by false is found others =
        let stay = others found in
        let before : all_places es ≡ places_of old.what + stay.rest = stay.before in
        let after : all_places (set_value test es new) ≡ places_of new.what + stay.rest = stay.after in
        record {
          rest = places_of e.1.what + stay.rest;
          before = omega (arith, before);
          after = rw is (omega (arith, after));
        }

-- a slot that is put in adds no more than its places
pub inserted-few : (cmp : ℕ → ℕ → Ordering) (k : ℕ) (v : Slot) (es : List (ℕ × Slot))
    → all_places (insert_entry cmp es k v) ≤ all_places es + places_of v.what
inserted-few cmp k v [] = omega arith
inserted-few cmp k v (e ∷ es) = by (cmp k e.0) refl (inserted-few cmp k v es)
  where
    by : (r : Ordering) → cmp k e.0 ≡ r
        → all_places (insert_entry cmp es k v) ≤ all_places es + places_of v.what
        → all_places (insert_entry cmp (e ∷ es) k v) ≤ all_places (e ∷ es) + places_of v.what
    by Less is rest = rw is (omega arith)
    by Equal is rest = rw is (omega arith)
    by Greater is rest = rw is (omega (arith, rest))
