-- Files with new pages over what the checkpoint has.
use Rattle.std.proofs.Common.{◌≡◌, ◌==◌, ◌+◌, ◌≤◌, ◌<◌, ℕ, Bool, true, false, List, [], ◌∷◌, Option, Some, None, IsSome, arith, refl, sym, ap, ◌∙◌, true≢false, inl, inr, ◌⊎◌}
use Rattle.std.specs.Prelude.{MatchOption, cond, is_some, nat_lt}
use Rattle.std.specs.Option.{option_or}
use Rattle.std.specs.Ordering.{nat_cmp}
use Rattle.std.specs.BTreeMap as map
use Rattle.std.specs.BTreeMap.{BTreeMap, WritesThrough}
use Rattle.std.proofs.lemmas.Bool.{cases_lt, eqb-true, lt-ltb, le-ltb}
use Rattle.std.proofs.lemmas.Map.Keys.{ge_from_not_lt}
use Rattle.nl_types.specs.Blocks.Roots.{Blocks}
use Rattle.nl_tree.specs.declared.overlay.FileBlocks.{FileBlocks}
use Rattle.nl_tree.specs.declared.overlay.Changed.{Changed}
use Rattle.nl_tree.specs.declared.overlay.Changed.TheVariants.{Gone, File, Dir}
use Rattle.nl_tree.specs.declared.overlay.Slot.{Slot}
use Rattle.nl_tree.specs.Private.Files.{ShowsFile, ShowsFileWith}
use Rattle.nl_tree.specs.Held.{Held, Holding, Stored, held_block, held_size}
use Rattle.nl_tree.specs.Overlays.{block_over, is_shown, new_page_at, over_changed, over_if_slot, over_slot}
use Rattle.nl_tree.specs.Private.Pages.{IsSameFile, blocks_below, put_from}
use Rattle.nl_tree.specs.Steps.{with_held}
use Rattle.nl_tree.specs.Facts.Places.{tied}

-- pages put over blocks are pages put over what the file shows
or_put : (pages : List (List ℕ)) (first : ℕ) (f rest : Blocks) (b : ℕ) →
    option_or (put_from first pages f b) (rest b) ≡ put_from first pages (λ c. option_or (f c) (rest c)) b
or_put [] first f rest b = refl
or_put (page ∷ pages) first f rest b =
    or_put pages (first + 1) (λ c. cond (c == first) (Some page) (f c)) rest b
    ∙ ap (λ (g : Blocks). put_from (first + 1) pages g b) (λ j. λ c. by_test (c == first) (f c) (rest c) j)
  where
    by_test : (t : Bool) (x y : Option (List ℕ))
        → option_or (cond t (Some page) x) y ≡ cond t (Some page) (option_or x y)
    by_test true x y = refl
    by_test false x y = refl

pub put_over : (file new : FileBlocks) (base : Option Held) (blocks : Blocks) (first size : ℕ)
    (pages : List (List ℕ))
    →
    new.cut ≡ file.cut → new.size ≡ size
    → ((b : ℕ) → new_page_at new b ≡ put_from first pages (new_page_at file) b) →
    ((b : ℕ) → block_over file base b ≡ blocks b) →
    over_changed (File new) base ≡ Some (Stored size (put_from first pages blocks))
put_over file new base blocks first size pages cut sized put shows =
    λ j. Some (Stored (sized j) (λ b. each b j))
  where
    each : (b : ℕ) → block_over new base b ≡ put_from first pages blocks b
    each b =
        ap (λ (page : Option (List ℕ)). option_or page (cond (nat_lt b new.cut) (held_block base b) None))
        (put b)
        ∙ ap (λ (c : ℕ).
        option_or (put_from first pages (new_page_at file) b) (cond (nat_lt b c) (held_block base b) None))
        cut
        ∙ or_put pages first (new_page_at file) (λ c. cond (nat_lt c file.cut) (held_block base c) None) b
        ∙ ap (λ (g : Blocks). put_from first pages g b) (λ j. λ c. shows c j)

-- the same file shows the same
pub same_over : (file new : FileBlocks) (base : Option Held) → IsSameFile file new → (b : ℕ)
    → block_over new base b ≡ block_over file base b
same_over file new base same b =
    ap (λ (page : Option (List ℕ)). option_or page (cond (nat_lt b new.cut) (held_block base b) None))
    (same.blocks b)
    ∙ ap (λ (c : ℕ). option_or (new_page_at file b) (cond (nat_lt b c) (held_block base b) None)) same.cut

pub same_held : (file new : FileBlocks) (base : Option Held) → IsSameFile file new
    → over_changed (File new) base ≡ over_changed (File file) base
same_held file new base same = λ j. Some (Stored (same.size j) (λ b. same_over file new base same b j))

-- ---- opening

-- a place that shows a file has it
pub live_file : (place : Option Slot) (base : Option Held) (size : ℕ) (blocks : Blocks)
    → is_shown place ≡ true →
    over_if_slot place base ≡ Some (Stored size blocks)
    → (slot : Slot) × (place ≡ Some slot) × ShowsFile slot.what base size blocks
live_file None base size blocks live is = absurd (true≢false (sym live))
live_file (Some slot) base size blocks live is = (slot, refl, by_what slot.what slot.live live is)
  where
    by_what : (what : Changed) (b : Bool) → b ≡ true
        → over_slot (record { live = b; what = what }) base ≡ Some (Stored size blocks) →
        ShowsFile what base size blocks
    by_what what false b h = absurd (true≢false (sym b))
    by_what Gone true b h = let clash : ◌≡◌ {A = Option Held} None (Some (Stored size blocks)) = h in cc
    by_what (Dir listing) true b h = cc
    by_what (File file) true b h =
        (file, refl, ap held_size h, λ k. ap (λ (held : Option Held). held_block held k) h)

-- the checkpoint's file shows where nothing is new
pub opened_file : (file : FileBlocks) (base : Option Held) (size : ℕ) (blocks : Blocks)
    → base ≡ Some (Stored size blocks) →
    ((b : ℕ) → 65536 ≤ b → blocks b ≡ None) → file.size ≡ held_size base → file.cut ≡ 65536 →
    ((b : ℕ) → new_page_at file b ≡ None) → ShowsFile (File file) base size blocks
opened_file file base size blocks is past sized cut none = (file, refl, sized ∙ ap held_size is, each)
  where
    each : (b : ℕ) → block_over file base b ≡ blocks b
    each b =
        ap (λ (page : Option (List ℕ)). option_or page (cond (nat_lt b file.cut) (held_block base b) None))
        (none b)
        ∙ ap (λ (c : ℕ). cond (nat_lt b c) (held_block base b) None) cut
        ∙ ap (λ (held : Option Held). cond (nat_lt b 65536) (held_block held b) None) is
        ∙ by_place (cases_lt b 65536)
      where
        by_place : (b < 65536) ⊎ (65536 ≤ b) → cond (nat_lt b 65536) (blocks b) None ≡ blocks b
        by_place (inl l) = ap (λ (t : Bool). cond t (blocks b) None) (lt-ltb b 65536 l)
        by_place (inr l) = ap (λ (t : Bool). cond t (blocks b) None) (le-ltb b 65536 l) ∙ sym (past b l)

-- ---- writing

-- one place is written, and shows this over the checkpoint's inode
pub written_at : (m n : BTreeMap ℕ Slot) (j : ℕ) (w : Slot) (held : Option Held) (base : Holding) →
    WritesThrough nat_cmp (nat_cmp j) m w n → IsSome (map.get nat_cmp m j) → over_slot w (base j) ≡ held →
    (i : ℕ)
    → over_if_slot (map.get nat_cmp n i) (base i)
    ≡ cond (i == j) held (over_if_slot (map.get nat_cmp m i) (base i))
written_at m n j w held base writes there shows i =
    ap (λ (p : Option Slot). over_if_slot p (base i))
    ((writes.3 there).0 i ∙ ap (λ (t : Bool). cond t (Some w) (map.get nat_cmp m i)) (tied j i))
    ∙ pick (i == j) refl
  where
    pick : (t : Bool) → (i == j) ≡ t
        → over_if_slot (cond t (Some w) (map.get nat_cmp m i)) (base i)
        ≡ cond t held (over_if_slot (map.get nat_cmp m i) (base i))
    pick true t = ap (λ (k : ℕ). over_slot w (base k)) (eqb-true i j t) ∙ shows
    pick false t = refl

-- a file of an overlay is one
pub one_file : (file other : FileBlocks) (what : Changed) → what ≡ File file → what ≡ File other
    → other ≡ file
one_file file other what a b = ap (λ (w : Changed). file_of w) (sym b ∙ a)
  where
    file_of : Changed → FileBlocks
    file_of Gone = file
    file_of (Dir listing) = file
    file_of (File f) = f

-- the blocks are written to the file, and others show as before
pub wrote : (what : Changed) (file new : FileBlocks) (base : Option Held) (was first end size : ℕ)
    (blocks : Blocks) (pages : List (List ℕ))
    →
    what ≡ File file → new.cut ≡ file.cut → new.size ≡ size →
    ((b : ℕ) → new_page_at new b ≡ put_from first pages (new_page_at file) b)
    → ShowsFileWith what base was blocks first end →
    over_changed (File new) base ≡ Some (Stored size (put_from first pages blocks))
wrote what file new base was first end size blocks pages is cut sized put shows =
    put_over file new base blocks first size pages cut sized put
    (λ b.
    ap (λ (f : FileBlocks). block_over f base b) (sym (one_file file shows.0 what is shows.1)) ∙ shows.3 b)

-- the file that is written shows the blocks
pub wrote_file : (what : Changed) (file new : FileBlocks) (base : Option Held) (was first end size : ℕ)
    (blocks : Blocks) (pages : List (List ℕ))
    →
    what ≡ File file → new.cut ≡ file.cut → new.size ≡ size →
    ((b : ℕ) → new_page_at new b ≡ put_from first pages (new_page_at file) b)
    → ShowsFileWith what base was blocks first end →
    ShowsFile (File new) base size (put_from first pages blocks)
wrote_file what file new base was first end size blocks pages is cut sized put shows = (
  new,
  refl,
  sized,
  λ b. ap (λ (held : Option Held). held_block held b)
      (wrote what file new base was first end size blocks pages is cut sized put shows),
)

-- ---- cutting

pub past_last : (m : BTreeMap ℕ (Option (List ℕ))) (last : ℕ) → map.IsUpperBound nat_cmp m last → (b : ℕ)
    → last < b → map.get nat_cmp m b ≡ None
past_last m last upper b past = by_place (map.get nat_cmp m b) refl
  where
    by_place : (o : Option (Option (List ℕ))) → map.get nat_cmp m b ≡ o → map.get nat_cmp m b ≡ None
    by_place None is = is
    by_place (Some x) is =
        absurd (let below : b ≤ last = ge_from_not_lt last b (upper b (ap is_some is)) in
        omega (arith, below, past))

-- a map without a last index has no entry
pub none_past : (m : BTreeMap ℕ (Option (List ℕ))) (o : Option ℕ) → ((x : ℕ) → o ≡ Some x → ⊥) →
    MatchOption o ((b : ℕ) → map.get nat_cmp m b ≡ None)
    (λ last. (b : ℕ) → last < b → map.get nat_cmp m b ≡ None)
    →
    (b : ℕ) → map.get nat_cmp m b ≡ None
none_past m None not bound b = bound b
none_past m (Some x) not bound b = absurd (not x refl)

-- what agrees below an index, and is nothing from there on
pub is_below : (count : ℕ) (f g : Blocks) → ((b : ℕ) → b < count → f b ≡ g b)
    → ((b : ℕ) → count ≤ b → f b ≡ None) →
    (b : ℕ) → f b ≡ blocks_below count g b
is_below count f g low high b = by_place (cases_lt b count)
  where
    by_place : (b < count) ⊎ (count ≤ b) → f b ≡ blocks_below count g b
    by_place (inl l) = low b l ∙ sym (ap (λ (t : Bool). cond t (g b) None) (lt-ltb b count l))
    by_place (inr l) = high b l ∙ sym (ap (λ (t : Bool). cond t (g b) None) (le-ltb b count l))

pub cut_over : (file new : FileBlocks) (base : Option Held) (count : ℕ) →
    ((b : ℕ) → b < count → nat_lt b new.cut ≡ nat_lt b file.cut)
    → ((b : ℕ) → count ≤ b → nat_lt b new.cut ≡ false) →
    ((b : ℕ) → new_page_at new b ≡ blocks_below count (new_page_at file) b) →
    (b : ℕ) → block_over new base b ≡ blocks_below count (block_over file base) b
cut_over file new base count low high pages =
    is_below count (block_over new base) (block_over file base) below past
  where
    below : (b : ℕ) → b < count → block_over new base b ≡ block_over file base b
    below b l =
        ap (λ (page : Option (List ℕ)). option_or page (cond (nat_lt b new.cut) (held_block base b) None))
        (pages b ∙ ap (λ (t : Bool). cond t (new_page_at file b) None) (lt-ltb b count l))
        ∙ ap (λ (t : Bool). option_or (new_page_at file b) (cond t (held_block base b) None)) (low b l)

    past : (b : ℕ) → count ≤ b → block_over new base b ≡ None
    past b l =
        ap (λ (page : Option (List ℕ)). option_or page (cond (nat_lt b new.cut) (held_block base b) None))
        (pages b ∙ ap (λ (t : Bool). cond t (new_page_at file b) None) (le-ltb b count l))
        ∙ ap (λ (t : Bool). cond t (held_block base b) None) (high b l)

-- the cut is the lesser of the two
pub cut_lower : (cut count : ℕ) → count < cut
    → ((b : ℕ) → b < count → nat_lt b count ≡ nat_lt b cut) × ((b : ℕ) → count ≤ b → nat_lt b count ≡ false)
cut_lower cut count l =
    (λ b m. lt-ltb b count m ∙ sym (lt-ltb b cut (omega (arith, l, m))), λ b m. le-ltb b count m)

pub cut_stays : (cut count : ℕ) → cut ≤ count → (b : ℕ) → count ≤ b → nat_lt b cut ≡ false
cut_stays cut count l b m = le-ltb b cut (omega (arith, l, m))

pub cut_shows : (what : Changed) (file new : FileBlocks) (base : Option Held) (count size : ℕ)
    (blocks : Blocks)
    → what ≡ File file → new.size ≡ file.size →
    ((b : ℕ) → block_over new base b ≡ blocks_below count (block_over file base) b)
    → ShowsFile what base size blocks →
    over_changed (File new) base ≡ Some (Stored size (blocks_below count blocks))
cut_shows what file new base count size blocks is sized cut shows =
    let same = one_file file shows.0 what is shows.1 in
    λ j. Some (Stored ((sized ∙ sym (ap (λ (f : FileBlocks). f.size) same) ∙ shows.2) j)
    (λ b. (cut b ∙ ap (λ (page : Option (List ℕ)). cond (nat_lt b count) page None)
    (ap (λ (f : FileBlocks). block_over f base b) (sym same) ∙ shows.3 b)) j))

-- what is written twice to an inode is written once
pub held_twice : (k : ℕ) (what other : Option Held) (held : Holding) (i : ℕ)
    → with_held k what (with_held k other held) i ≡ with_held k what held i
held_twice k what other held i = by_test (i == k)
  where
    by_test : (t : Bool) → cond t what (cond t other (held i)) ≡ cond t what (held i)
    by_test true = refl
    by_test false = refl
