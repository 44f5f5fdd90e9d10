use Rattle.std.proofs.Common.{◌≡◌, ℕ, ◌<◌, ◌+◌, List, length, drop, get_or, sym, ap, ◌∙◌, subst, arith}
use Rattle.std.specs.List.{All}
use Rattle.std.proofs.lemmas.List.{get_or-map, length-map}
use Rattle.nl_types.specs.Blocks.PartialMaps.{put_each}
use Rattle.nl_types.specs.Blocks.Entries.{number_of}
use Rattle.nl_layout.specs.declared.tag.Tag.{Tag}
use Rattle.nl_vstore.specs.Batches.{birth_of_item, births_of}
use Rattle.nl_dat.specs.Table.{entry_in, new_entry}
use Rattle.nl_dat.proofs.Tables.{put_each_step, of_read}
use Rattle.nl_dat.proofs.entries.enter_births.Goals as goal

-- the birth of an item that was read
birth_at : (items : List (Tag × List ℕ)) (i : ℕ) (item : Tag × List ℕ) → i < length items
    → item ≡ get_or items i item → birth_of_item item ≡ get_or (births_of items) i (birth_of_item item)
birth_at items i item within is =
    ap birth_of_item is ∙ sym (get_or-map birth_of_item items i item (birth_of_item item) within)

-- its number is in the table
inside : (items : List (Tag × List ℕ)) (i size : ℕ) (item : Tag × List ℕ)
    → All (λ b. number_of b < size) (births_of items) → i < length items → item ≡ get_or items i item
    → number_of (birth_of_item item) < size
inside items i size item all within is =
    of_read (λ b. number_of b < size) (births_of items) i (birth_of_item item) all
    (subst (λ n. i < n) (sym (length-map items birth_of_item)) within) (birth_at items i item within is)

pub set_entry-requires : goal.set_entry-requires
set_entry-requires c =
    rw c.loop-i.invariant.size
    (inside c.args.births.now c.loop-i.i
    (length c.args.table.now) c.index-births-i.result c.requires.inside c.loop-i-test.true
    c.index-births-i.is)

pub loop-i-preserved : goal.loop-i-preserved
loop-i-preserved c =
    let items = c.args.births.now in
    let item = c.index-births-i.result in
    let birth = birth_of_item item in
    let block = c.index-blocks-i.result in
    let within : c.loop-i.i < length (births_of items) =
    subst (λ n. c.loop-i.i < n) (sym (length-map items birth_of_item)) c.loop-i-test.true in
    let step =
    put_each_step number_of (new_entry c.args.checkpoint)
    (births_of items) c.args.blocks.now c.loop-i.i birth block (entry_in c.loop-i.table) within
    (omega arith)
    (birth_at items c.loop-i.i item c.loop-i-test.true c.index-births-i.is) c.index-blocks-i.is in
    record {
      entries =
          ap (put_each number_of (new_entry c.args.checkpoint) (drop (c.loop-i.i + 1) (births_of items))
          (drop (c.loop-i.i + 1) c.args.blocks.now))
          c.set_entry.ensures.entries
          ∙ sym step ∙ c.loop-i.invariant.entries;
      size = c.set_entry.ensures.length ∙ c.loop-i.invariant.size;
    }
