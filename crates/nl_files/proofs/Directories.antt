-- The blocks of a directory, and the one that has a name.
use Rattle.std.proofs.Common.{◌≡◌, ℕ, ◌+◌, ◌<◌, ◌≤◌, true, false, List, Some, None, sym, ap, subst, ◌∙◌, arith}
use Rattle.std.specs.List.{slice_get}
use Rattle.std.specs.Option.{option_map}
use Rattle.std.specs.Ordering.{is_lt}
use Rattle.std.specs.declared.cmp.Ordering.{Ordering}
use Rattle.std.specs.declared.cmp.Ordering.TheVariants.{Less, Equal, Greater}
use Rattle.nl_types.specs.Plain.Paths.{Name, name_cmp}
use Rattle.nl_types.specs.Blocks.Roots.{Blocks}
use Rattle.nl_dirs.specs.declared.record.Record.{Record}
use Rattle.nl_dirs.specs.Records.{HoldsList, IsPageOf, entry_of, packed_block}
use Rattle.nl_dirs.specs.Listings.{HoldsRecords, first_name_of}
use Rattle.nl_dirs.specs.Laws.{IsBefore}
use Rattle.nl_dirs.specs.Facts.Spelling.{bytes_hold_one_list, packed_block-HoldsList}
use Rattle.nl_dirs.specs.Facts.Blocks.{earlier-absent, names-one_block}
use Rattle.nl_files.proofs.DirectoryBlocks.{blocks_of_records}
use Rattle.nl_files.specs.Private.Directories.{AreBlocksOf, BeginsBy, StandsInBlock, StartsBehind}

-- the records that a page of a directory holds
pub read_on_page : (page : List ℕ) (found block : List Record) → HoldsList page found
    → Some page ≡ Some (packed_block block) → IsPageOf (packed_block block) block → found ≡ block
read_on_page page found block holds e is =
    let same : page ≡ packed_block block = cc in
    bytes_hold_one_list page found block holds
    (subst (λ (bytes : List ℕ). HoldsList bytes block) (sym same) (packed_block-HoldsList block is.fit))

-- ---- the first name of a page

module _ (name : Name) (page : List ℕ) (found : List Record) (holds : HoldsList page found) where
  pub no_first_name : None ≡ first_name_of found → StartsBehind name (Some page) true
  no_first_name none block e is records first same here =
      let one : found ≡ records = read_on_page page found block holds e is ∙ cc in
      let other : first_name_of found ≡ Some first =
      subst (λ (rs : List Record). first_name_of rs ≡ Some first) (sym one) here in
      absurd cc

  pub first_name_compared : (first : Name) (o : Ordering) → Some first ≡ first_name_of found
      → name_cmp name first ≡ o → StartsBehind name (Some page) (is_lt o)
  first_name_compared first Less here order = λ block e is records other same its.
      let one : found ≡ records = read_on_page page found block holds e is ∙ cc in
      let same_name : first_name_of found ≡ Some other =
      subst (λ (rs : List Record). first_name_of rs ≡ Some other) (sym one) its in
      let eq : first ≡ other = cc in
      subst (λ (n : Name). name_cmp name n ≡ Less) eq order
  first_name_compared first Equal here order = λ block e is other its less.
      let same_name : first_name_of found ≡ Some other =
      subst (λ (rs : List Record). first_name_of rs ≡ Some other)
      (sym (read_on_page page found block holds e is)) its in
      let eq : first ≡ other = cc in
      absurd (clash (subst (λ (n : Name). name_cmp name n ≡ Equal) eq order) less)
    where
      clash : {o : Ordering} → o ≡ Equal → o ≡ Less → ⊥
      clash p q = cc
  first_name_compared first Greater here order = λ block e is other its less.
      let same_name : first_name_of found ≡ Some other =
      subst (λ (rs : List Record). first_name_of rs ≡ Some other)
      (sym (read_on_page page found block holds e is)) its in
      let eq : first ≡ other = cc in
      absurd (clash (subst (λ (n : Name). name_cmp name n ≡ Greater) eq order) less)
    where
      clash : {o : Ordering} → o ≡ Greater → o ≡ Less → ⊥
      clash p q = cc

-- ---- the search

-- blocks before `low` begin with no name behind this one, the block at `high` does, if there is one
pub record IsBetween (name : Name) (blocks : Blocks) (count low high : ℕ) : Type 0 where
  pub ordered : low ≤ high
  pub within : high ≤ count
  pub below : (packed : List (List Record)) → AreBlocksOf blocks count packed → (i : ℕ) → low ≡ i + 1
      → BeginsBy name packed i
  pub above : (packed : List (List Record)) → AreBlocksOf blocks count packed
      → IsBefore name (slice_get packed high)

pub between-init : (name : Name) (blocks : Blocks) (count : ℕ) → IsBetween name blocks count 0 count
between-init name blocks count = record {
  ordered = omega arith;
  within = omega arith;
  below = λ packed are i e. absurd (omega arith);
  above = λ packed are records first e here. let past = are.past in absurd cc;
}

module _ (name : Name) (blocks : Blocks) (count low high middle : ℕ)
    (was : IsBetween name blocks count low high) (from : low ≤ middle) (to : middle < high) where
  stored_here : (packed : List (List Record)) → (are : AreBlocksOf blocks count packed)
      → (block : List Record) × (slice_get packed middle ≡ Some block)
      × (blocks middle ≡ Some (packed_block block)) × IsPageOf (packed_block block) block
  stored_here packed are =
      let within : high ≤ count = was.within in
      let here : (block : List Record) × (slice_get packed middle ≡ Some block) =
      are.within middle (omega arith) in (
        here.0,
        here.1,
        are.stored middle ∙ ap (option_map packed_block) here.1,
        are.pages middle here.0 here.1,
      )

  pub between-lower : StartsBehind name (blocks middle) true → IsBetween name blocks count low middle
  between-lower behind = record {
    ordered = from;
    within = let within : high ≤ count = was.within in omega arith;
    below = was.below;
    above = λ packed are.
        let here = stored_here packed are in
        subst (IsBefore name) (sym here.1) (behind here.0 here.2 here.3);
  }

  pub between-higher : StartsBehind name (blocks middle) false → IsBetween name blocks count (middle + 1) high
  between-higher not_behind = record {
    ordered = omega arith;
    within = was.within;
    below = λ packed are i e.
        let here = stored_here packed are in
        let at : i ≡ middle = omega arith in
        record {
          block = here.0;
          is = ap (slice_get packed) at ∙ here.1;
          not_before = not_behind here.0 here.2 here.3;
        };
    above = was.above;
  }

-- the block below, where the search has come to an end
pub between-none : (name : Name) (blocks : Blocks) (count low high : ℕ) → IsBetween name blocks count low high
    → high ≤ low → low ≡ 0 → (packed : List (List Record)) → AreBlocksOf blocks count packed
    → StandsInBlock name packed None
between-none name blocks count low high was end none packed are =
    let ordered : low ≤ high = was.ordered in
    let at : high ≡ 0 = omega arith in
    subst (λ (i : ℕ). IsBefore name (slice_get packed i)) at (was.above packed are)

pub between-some : (name : Name) (blocks : Blocks) (count low high i : ℕ)
    → IsBetween name blocks count low high → high ≤ low → low ≡ i + 1 → (packed : List (List Record))
    → AreBlocksOf blocks count packed
    → StandsInBlock name packed (Some i)
between-some name blocks count low high i was end behind packed are =
    let ordered : low ≤ high = was.ordered in
    let at : high ≡ i + 1 = omega arith in (
      was.below packed are i behind,
      subst (λ (k : ℕ). IsBefore name (slice_get packed k)) at (was.above packed are),
    )

-- ---- what the directory has under a name

module _ (blocks : Blocks) (size : ℕ) (records : List Record) (name : Name)
    (holds : HoldsRecords blocks size records) where
  pub no_block : StandsInBlock name holds.packed None → None ≡ entry_of name records
  no_block before = sym (earlier-absent records holds.packed name holds.ascending holds.is_packed before)

  -- the block is there
  pub block_stored : (i : ℕ) → StandsInBlock name holds.packed (Some i) → blocks i ≡ None → ⊥
  block_stored i found none =
      let here = found.0.is in
      let stored = holds.stored i ∙ ap (option_map packed_block) here in
      cc

  pub found_in_block : (i : ℕ) (page : List ℕ) (read : List Record) → StandsInBlock name holds.packed (Some i)
      → Some page ≡ blocks i → HoldsList page read → entry_of name read ≡ entry_of name records
  found_in_block i page read found is reads =
      let block : List Record = found.0.block in
      let here : slice_get holds.packed i ≡ Some block = found.0.is in
      let stored : Some page ≡ Some (packed_block block) =
      is ∙ (holds.stored i ∙ ap (option_map packed_block) here) in
      let are = blocks_of_records blocks size records holds in
      ap (entry_of name) (read_on_page page read block reads stored (are.pages i block here))
      ∙ sym (names-one_block records holds.packed name i block holds.ascending holds.is_packed here
      found.0.not_before found.1)
