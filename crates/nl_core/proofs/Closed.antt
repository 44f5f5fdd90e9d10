-- The image of a pen: sizes of its checkpoints, and spellings of its numbers.
use Rattle.std.proofs.Common.{◌≡◌, ℕ, suc, ◌+◌, ◌<◌, ◌≤◌, List, [], ◌∷◌, ◌++◌, get_or, map, drop, Option, Some, None, refl, ap, sym, ◌∙◌, arith}
use Rattle.std.specs.Prelude.{All, IsSome}
use Rattle.std.specs.List.{slice_index_or}
use Rattle.std.specs.Option.{option_map}
use Rattle.std.proofs.lemmas.List.Elements.{All-cons, All-nil, All-pop}
use Rattle.nl_types.specs.Blocks.Entries.{Entry}
use Rattle.nl_types.specs.Blocks.Lifetimes.{IsBounded}
use Rattle.nl_types.specs.Plain.Limits.{checkpoint_number_limit}
use Rattle.nl_types.specs.Blocks.Roots.{Pages, Root, pages_of}
use Rattle.nl_types.specs.Facts.UsedParts.{used_inside}
use Rattle.nl_layout.specs.Root.{root_of}
use Rattle.nl_layout.specs.declared.checkpoint_entry.CheckpointEntry.{CheckpointEntry}
use Rattle.nl_vstore.specs.Stores.{IsStore, KeepsStored, Numbered, Store, block_now, capacity, content_in, entry_now, numbered_in}
use Rattle.nl_dat.specs.EntryBytes.{NumberHasSpelling, HasSpelling}
use Rattle.nl_dat.specs.Table.{dat_entry_of, numbers_shown}
use Rattle.nl_check.specs.Shapes.{At, IsShaped, Itself}
use Rattle.nl_blocktree.specs.FileShapes.{StandsAlone}
use Rattle.nl_check.specs.Facts.Checkpoints.{sound_checkpoints_are_shaped}
use Rattle.nl_image.specs.StoreImages.{IsSizedEntry}
use Rattle.nl_cpfile.specs.Tables.{Table, all, checkpoint_root}
use Rattle.nl_cpfile.specs.Facts.ImageEntries.{zip_push}
use Rattle.nl_cpfile.specs.declared.checkpoint.Checkpoint.{Checkpoint}
use Rattle.nl_core.specs.Private.Closed.{AreSized, HasSize, HaveSizes}
use Rattle.nl_commit.specs.Layout.{IsPen, Layout, layout_of, layout_pages, reached_by}
use Rattle.nl_commit.specs.CleaningEvents.{kept_numbers}
use Rattle.nl_commit.specs.Volume.{Lists, kept_by}
use Rattle.nl_reclaim.specs.Counted.{Counted}
use Rattle.nl_reclaim.specs.Laws.{ReadsKeepCounts}
use Rattle.nl_events.specs.NeededBlocks.{IsCountedPen}
use Rattle.nl_events.specs.Facts.CleanedPens.{all-held, content-of, same-content}
use Rattle.nl_events.specs.Facts.KeptNumbers.{found-own}

-- ---- sizes

-- the file of inodes of a shaped checkpoint, by itself
stands-alone : (pages : Pages) (root : Root) → IsShaped pages root → StandsAlone pages root
stands-alone pages root s = record {
  shape = s.files Itself;
  once = λ a b v h k.
      let e =
      s.once (record { owner = Itself; level = a.0; offset = a.1 })
      (record { owner = Itself; level = b.0; offset = b.1 }) v h k in
      ap (λ (x : At). (x.level, x.offset)) e;
}

-- so each kept checkpoint of a pen has a size
pub have-sizes : (l : Layout) → IsPen l → HaveSizes (layout_pages l) (kept_by l.lists)
have-sizes l pen i d low =
    let c : Checkpoint = get_or (kept_by l.lists) i d in
    let means = pen.world.1 in
    let holds = all-held l (kept_by l.lists) pen.world.0.copies means.copies i d low in
    let at =
    found-own (layout_pages l)
    (kept_by l.lists) pen.world.0.copies means.copies means.world.numbers_rise i d low in
    stands-alone (layout_pages l) (root_of (checkpoint_root c))
    (sound_checkpoints_are_shaped (content_in l.store) c.number (root_of (checkpoint_root c)) holds.0
    (pen.sound.trees_sound i d low) holds.1
    (pen.sound.ledger.exact c.number (reached_by (layout_pages l) c)
    (ap (option_map (reached_by (layout_pages l))) at)))

-- those before the latest checkpoint have sizes, and it has one
pub table-sizes : (pages : Pages) (t : Table) (earlier : List Checkpoint) (latest : Checkpoint)
    → earlier ≡ t.earlier
    → latest ≡ t.latest → HaveSizes pages (all t) → HaveSizes pages earlier × HasSize pages latest
table-sizes pages t earlier latest before last sizes =
    rw (before, last) (All-pop (HasSize pages) (all t) t.earlier (Some t.latest) refl sizes)

-- and their entries are those of all
pub table-sized : (pages : Pages) (t : Table) (earlier : List Checkpoint) (latest : Checkpoint)
    (entries : List CheckpointEntry) (entry : CheckpointEntry) → earlier ≡ t.earlier → latest ≡ t.latest
    → AreSized pages earlier entries → IsSizedEntry pages latest entry
    → AreSized pages (all t) (entries ++ entry ∷ [])
table-sized pages t earlier latest entries entry before last each is =
    rw (sym before, sym last) (zip_push (IsSizedEntry pages) earlier entries latest entry each is)

-- the numbers in use are among those that there are
pub within-capacity : (s : Store) → IsStore s → (v : ℕ) → IsSome (pages_of (content_in s) v) → v ≤ capacity s
within-capacity s is v some = by (numbered_in s v) refl some
  where
    by : (o : Option Numbered) → numbered_in s v ≡ o
        → IsSome (option_map (λ (e : Entry). e.page) (option_map entry_now o)) → v ≤ capacity s
    by None at h = cc
    by (Some n) at h = (is.numbers v n.block (ap (option_map block_now) at)).1

-- ---- numbers

module _ (s : Store) (latest : ℕ) (is : IsStore s) (bounded : IsBounded (content_in s) latest)
    (low : latest < checkpoint_number_limit) where
  entry-fits : (v : ℕ) (n : Numbered) → numbered_in s v ≡ Some n → NumberHasSpelling (dat_entry_of n)
  entry-fits v n at =
      let entry : content_in s v ≡ Some n.entry = ap (option_map entry_now) at in
      let inside =
      used_inside s.segments n.block is.limits.tidy (is.used v n.block (ap (option_map block_now) at)) in
      let most = is.limits.geometry.most in
      record {
        block = omega (arith, inside, most);
        begins = bounded.begins v n.entry entry;
        start = let start = bounded.starts v n.entry entry in omega (arith, start, low);
        end = λ c is_end. let end = bounded.ends v n.entry c entry is_end in omega (arith, end, low);
      }

  number-fits : (v : ℕ) (o : Option Numbered) → numbered_in s v ≡ o → HasSpelling (option_map dat_entry_of o)
  number-fits v None at = tt
  number-fits v (Some n) at = entry-fits v n at

  -- those from a number on
  rest-fits : (first : ℕ) (rest : List (Option Numbered))
      → ((i : ℕ) → numbered_in s (first + i) ≡ slice_index_or rest i None)
      → All HasSpelling (map (option_map dat_entry_of) rest)
  rest-fits first [] each = All-nil HasSpelling
  rest-fits first (o ∷ rest) each =
      let here : first + 0 ≡ first = omega arith in
      All-cons HasSpelling (option_map dat_entry_of o) (map (option_map dat_entry_of) rest)
      (number-fits first o (ap (numbered_in s) (sym here) ∙ each 0))
      (rest-fits (suc first) rest
      (λ i.
      let next : suc first + i ≡ first + suc i = omega arith in ap (numbered_in s) next ∙ each (suc i)))

  all-fit : All HasSpelling (numbers_shown s)
  all-fit = by s.numbers refl
    where
      by : (numbers : List (Option Numbered)) → s.numbers ≡ numbers
          → All HasSpelling (map (option_map dat_entry_of) (drop 1 numbers))
      by [] at = All-nil HasSpelling
      by (o ∷ rest) at = rest-fits 1 rest (λ i.
          let next : 1 + i ≡ suc i = omega arith in
          ap (numbered_in s) next
          ∙ ap (λ (numbers : List (Option Numbered)). slice_index_or numbers (suc i) None) at)

-- all numbers of a pen have a spelling
pub numbers-fit : (l : Layout) → IsPen l → All HasSpelling (numbers_shown l.store)
numbers-fit l pen =
    all-fit l.store l.lists.table.latest.number pen.sound.store pen.sound.ledger.bounded pen.sound.last

-- ---- what was read leaves

-- a pen of which blocks were read alone is one still
pub pen-read : (lists : Lists) (old new : Store) → IsPen (layout_of lists old) → IsStore new
    → KeepsStored old new
    → IsPen (layout_of lists new)
pen-read lists old new pen is_store same =
    (same-content (layout_of lists old) (layout_of lists new) pen refl is_store
    (content-of old new same.numbers)).pen

-- and its counts are still those of the needed blocks
pub counted-read : ReadsKeepCounts → (lists : Lists) (old new : Store) (counted : Counted)
    → IsCountedPen (layout_of lists old) counted → IsStore new → KeepsStored old new
    → IsCountedPen (layout_of lists new) counted
counted-read keep lists old new counted is sound same = record {
  pen = pen-read lists old new is.pen sound same;
  counts = keep (kept_numbers lists) counted old new is.pen.sound.store sound same is.counts;
}
