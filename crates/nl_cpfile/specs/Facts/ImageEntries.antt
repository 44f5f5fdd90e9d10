-- The entries of the checkpoints in an image.
use Rattle.std.proofs.Common.{◌≡◌, ℕ, false, zero, suc, ◌+◌, ◌-◌, ◌*◌, ◌<◌, List, [], ◌∷◌, ◌++◌, length, get_or, take, drop, Some, refl, ap, sym, ◌∙◌, subst, arith}
use Rattle.std.specs.List.{All, AllAdjacentBelow, AllByRecursion, AllPairs, AllZip, flat_map}
use Rattle.std.proofs.lemmas.List.{take_more}
use Rattle.nl_types.specs.declared.event.Mode.TheVariants.{Plain}
use Rattle.nl_types.specs.Facts.EqualPieces.{HaveWidth, length-pieces, piece_at}
use Rattle.nl_layout.specs.declared.checkpoint_entry.CheckpointEntry.{CheckpointEntry}
use Rattle.nl_layout.specs.Checkpoints.{HasSpelling, Spells, checkpoint_bytes}
use Rattle.nl_cpfile.specs.declared.checkpoint.Checkpoint.{Checkpoint}
use Rattle.nl_cpfile.specs.Images.{AreRising, HasNumber, IsEntryOf, Precedes}
use Rattle.nl_cpfile.specs.Tables as tables
use Rattle.nl_cpfile.specs.Tables.{IsRising, IsTable}

pub entry_width : HaveWidth checkpoint_bytes 160
entry_width c = refl

-- as many as there are bytes for
pub count_told : (bytes : List ℕ) (kept : List CheckpointEntry) → bytes ≡ flat_map checkpoint_bytes kept
    → length bytes ≡ 160 * length kept
count_told bytes kept spelled = ap length spelled ∙ length-pieces checkpoint_bytes 160 entry_width kept

-- an entry for places where there is none
abbrev pub blank : CheckpointEntry
blank = record {
  number = 0;
  mode = Plain;
  minor = false;
  stamp = 0;
  inodes = 0;
  root = record { kind = 0; height = 0; number = 0 };
  size = 0;
}

-- each entry stands in its place
pub entry_in_place : (bytes : List ℕ) (kept : List CheckpointEntry) (i : ℕ) (d : CheckpointEntry)
    → bytes ≡ flat_map checkpoint_bytes kept → All HasSpelling kept → i < length kept
    → Spells (take 160 (drop (160 * i) bytes)) (get_or kept i d)
entry_in_place bytes kept i d spelled fit within = record {
  fits = fit i d within;
  spelling =
      ap (λ (xs : List ℕ). take 160 (drop (160 * i) xs)) spelled
      ∙ piece_at checkpoint_bytes 160 entry_width kept i d within;
}

-- the entries that were read are the first of all, and so they are with one more
pub one_more : (kept : List CheckpointEntry) (i : ℕ) (first : List CheckpointEntry)
    (entry d : CheckpointEntry)
    → i < length kept → first ≡ take i kept → Some entry ≡ Some (get_or kept i d)
    → first ++ entry ∷ [] ≡ take (i + 1) kept
one_more kept i first entry d within before next =
    let more = take_more kept i d within in rw (before, some_is next) (sym more)
  where
    some_is : {A : Type 0} {a b : A} → Some a ≡ Some b → a ≡ b
    some_is e = cc

-- ---- they rise

-- the first ones do
pub record AreRisingBelow (kept : List CheckpointEntry) (n : ℕ) : Type 0 where
  pub adjacent : AllAdjacentBelow Precedes kept n
  pub numbers : (k : ℕ) (d : CheckpointEntry) → k < n → HasNumber (get_or kept k d)

Precedes-trans : (a b c : CheckpointEntry) → Precedes a b → Precedes b c → Precedes a c
Precedes-trans a b c p q =
    record { number = omega (arith, p.number, q.number); stamp = omega (arith, p.stamp, q.stamp) }

-- each precedes all that come so much later
later : (kept : List CheckpointEntry) → AllAdjacentBelow Precedes kept (length kept)
    → (gap i : ℕ) (d : CheckpointEntry) → i + suc gap < length kept
    → Precedes (get_or kept i d) (get_or kept (i + suc gap) d)
later kept adjacent zero i d within = adjacent i d within
later kept adjacent (suc gap) i d within =
    let before = later kept adjacent gap i d (omega arith) in
    let next : Precedes (get_or kept (i + suc gap) d) (get_or kept (i + suc gap + 1) d) =
    adjacent (i + suc gap) d (omega arith) in
    let same : i + suc gap + 1 ≡ i + suc (suc gap) = omega arith in
    subst (λ (j : ℕ). Precedes (get_or kept i d) (get_or kept j d)) same (Precedes-trans _ _ _ before next)

pub all_rise : (kept : List CheckpointEntry) → AreRisingBelow kept (length kept) → AreRising kept
all_rise kept below = record {
  rising = λ i j d before within.
      let same : i + suc (j - i - 1) ≡ j = omega arith in
      subst (λ (k : ℕ). Precedes (get_or kept i d) (get_or kept k d)) same
      (later kept below.adjacent (j - i - 1) i d (omega arith));
  numbers = below.numbers;
}

-- ---- the table

pub zip_push : {A B : Type 0} (R : A → B → Type 0) (xs : List A) (ys : List B) (x : A) (y : B)
    → AllZip R xs ys → R x y → AllZip R (xs ++ x ∷ []) (ys ++ y ∷ [])
zip_push R [] [] x y each last = (last, tt)
zip_push R [] (b ∷ ys) x y each last = absurd each
zip_push R (a ∷ xs) [] x y each last = absurd each
zip_push R (a ∷ xs) (b ∷ ys) x y each last = (each.0, zip_push R xs ys x y each.1 last)

-- a checkpoint precedes others as its entry does theirs
precedes_all : (c : Checkpoint) (e : CheckpointEntry) (kept : List Checkpoint)
    (entries : List CheckpointEntry)
    → IsEntryOf c e → AllZip IsEntryOf kept entries → AllPairs Precedes (e ∷ entries)
    → AllByRecursion (tables.Precedes c) kept
precedes_all c e [] entries is each rise = tt
precedes_all c e (d ∷ kept) [] is each rise = absurd each
precedes_all c e (d ∷ kept) (f ∷ entries) is each rise =
    let first = rise 0 1 f (omega arith) (omega arith) in
    let of_d = each.0 in (
      record {
        number = omega (arith, first.number, is.number, of_d.number);
        stamp = omega (arith, first.stamp, is.stamp, of_d.stamp);
      },
      precedes_all c e kept entries is each.1 (skip rise),
    )
  where
    skip : AllPairs Precedes (e ∷ f ∷ entries) → AllPairs Precedes (e ∷ entries)
    skip h zero zero d before within = absurd (omega arith)
    skip h zero (suc j) d before within = h 0 (suc (suc j)) d (omega arith) (omega arith)
    skip h (suc i) zero d before within = absurd (omega arith)
    skip h (suc i) (suc j) d before within = h (suc (suc i)) (suc (suc j)) d (omega arith) (omega arith)

checkpoints_rise : (kept : List Checkpoint) (entries : List CheckpointEntry) → AllZip IsEntryOf kept entries
    → AllPairs Precedes entries → IsRising kept
checkpoints_rise [] entries each rise = tt
checkpoints_rise (c ∷ kept) [] each rise = absurd each
checkpoints_rise (c ∷ kept) (e ∷ entries) each rise = (
  precedes_all c e kept entries each.0 each.1 rise,
  checkpoints_rise kept entries each.1
      (λ i j d before within. rise (suc i) (suc j) d (omega arith) (omega arith)),
)

pub last_of : {A : Type 0} (P : A → Type 0) (front : List A) (last : A) → All P (front ++ last ∷ []) → P last
last_of P [] last each = each 0 last (omega arith)
last_of P (a ∷ front) last each = last_of P front last (λ i d within. each (suc i) d (omega arith))

-- the table of the checkpoints that rising entries tell
pub told_table : (kept : List CheckpointEntry) (earlier : List Checkpoint) (latest : Checkpoint)
    (rest : List CheckpointEntry) (last : CheckpointEntry)
    → kept ≡ rest ++ last ∷ [] → AreRising kept → AllZip IsEntryOf earlier rest → IsEntryOf latest last
    → IsTable (record { earlier = earlier; latest = latest }) × AllZip IsEntryOf (earlier ++ latest ∷ []) kept
told_table kept earlier latest rest last all rise each is =
    let zipped : AllZip IsEntryOf (earlier ++ latest ∷ []) kept =
    rw all (zip_push IsEntryOf earlier rest latest last each is) in
    let number : HasNumber last = last_of HasNumber rest last (rw all at rise.numbers) in (
      record {
        rising = checkpoints_rise (earlier ++ latest ∷ []) kept zipped rise.rising;
        limit = omega (arith, number.limit, is.number);
      },
      zipped,
    )
