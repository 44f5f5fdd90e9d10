-- Changes of blocks for changes of inodes, one block after the other.
use Rattle.std.proofs.Common.{◌≡◌, ◌≢◌, ℕ, ◌+◌, ◌-◌, ◌*◌, ◌/◌, ◌<◌, ◌≤◌, List, [], ◌∷◌, ◌++◌, take, drop, length, get_or, length-drop, Option, ap, sym, subst, ◌∙◌, arith, inl, inr, ◌⊎◌}
use Rattle.std.proofs.Math.Seq.{take-add}
use Rattle.std.specs.List.{All, Contains}
use Rattle.std.proofs.lemmas.Bool.{cases_eq}
use Rattle.std.proofs.lemmas.List.{get_or-drop, get_or-map, get_or-take, length-map, length-take, take_all}
use Rattle.std.proofs.lemmas.List.Elements.{All-append, All-push}
use Rattle.std.proofs.lemmas.List.Quantifiers.{all_pairs_push}
use Rattle.nl_layout.specs.Inode.{EntryHasSpelling}
use Rattle.nl_blocktree.specs.declared.change.BlockChange.{BlockChange}
use Rattle.nl_blocktree.specs.Changed.{blocks_with, indexes}
use Rattle.nl_blocktree.specs.Facts.HeldPages.{Sets}
use Rattle.nl_blocktree.specs.Facts.TreeData.{sets-one}
use Rattle.nl_ifile.specs.declared.change.InodeChange.{InodeChange}
use Rattle.nl_ifile.specs.Inodes.{InodeMap, block_for, entry_for, in_block}
use Rattle.nl_ifile.specs.Changing.{AreBlockChanges, AreFirstBlockChanges, NumbersAscend, inodes_with}
use Rattle.nl_ifile.proofs.BlockBytes.{block_for-cong}
use Rattle.nl_ifile.proofs.Changes.{inodes_with-absent, inodes_with-append, inodes_with-cong}

-- before the first block
pub block_changes-none : (pages : ℕ → Option (List ℕ)) (inodes : InodeMap) (changes : List InodeChange)
    → ((i : ℕ) → pages i ≡ block_for (in_block inodes i)) → AreFirstBlockChanges pages inodes changes 0 []
block_changes-none pages inodes changes file = record {
  within = omega arith;
  blocks_are = record {
    ascending = λ i j d l m. absurd (omega arith);
    in_range = λ k d l. absurd (omega arith);
    become = file;
    fits = λ k d l. absurd (omega arith);
  };
  lower = λ next l k d m. absurd (omega arith);
  apart = λ next l k d m. absurd (omega arith);
}

-- after the last
pub block_changes-all : (pages : ℕ → Option (List ℕ)) (inodes : InodeMap) (changes : List InodeChange)
    (count : ℕ) (blocks : List BlockChange)
    → AreFirstBlockChanges pages inodes changes count blocks →
    length changes ≤ count → AreBlockChanges pages inodes changes blocks
block_changes-all pages inodes changes count blocks h l =
    subst (λ (cs : List InodeChange). AreBlockChanges pages inodes cs blocks)
    (take_all count changes l) h.blocks_are

-- the changes from one place to another, of the inodes of a block
pub all-between : (changes : List InodeChange) (start end i : ℕ)
    → ((k : ℕ) (next : InodeChange) → start ≤ k → k < end → (get_or changes k next).number / 8 ≡ i) →
    All (λ c. c.number / 8 ≡ i) (take (end - start) (drop start changes))
all-between changes start end i h k d l =
    let near : k < end - start = omega (arith, length-take (end - start) (drop start changes)) in
    let here : get_or (take (end - start) (drop start changes)) k d ≡ get_or changes (start + k) d =
    get_or-take (end - start) (drop start changes) k d near ∙ get_or-drop start changes k d in
    ap (λ (c : InodeChange). c.number / 8) here ∙ h (start + k) d (omega arith) (omega arith)

pub ascending-between : (changes : List InodeChange) (start end : ℕ) → NumbersAscend changes
    → NumbersAscend (take (end - start) (drop start changes))
ascending-between changes start end h i j d l m =
    let these : List InodeChange = take (end - start) (drop start changes) in
    let near : j < end - start = omega (arith, length-take (end - start) (drop start changes)) in
    let within : start + j < length changes =
    omega (arith, length-take (end - start) (drop start changes), length-drop start changes) in
    let at : (k : ℕ) → k < end - start → get_or these k d ≡ get_or changes (start + k) d = λ k low.
    get_or-take (end - start) (drop start changes) k d low ∙ get_or-drop start changes k d in
    let less = h (start + i) (start + j) d (omega arith) within in
    omega (
      arith,
      less,
      ap (λ (c : InodeChange). c.number) (at i (omega arith)),
      ap (λ (c : InodeChange). c.number) (at j near),
    )

module _ (pages : ℕ → Option (List ℕ)) (inodes : InodeMap) (changes : List InodeChange) (start end : ℕ)
    (blocks : List BlockChange) (b : BlockChange) (i : ℕ)
    (before : AreFirstBlockChanges pages inodes changes start blocks) (low : start < end)
    (high : end ≤ length changes)
    (first : (next : InodeChange) → (get_or changes start next).number / 8 ≡ i)
    (in_range : i < 65536) (index : b.index ≡ i)
    (group : All (λ c. c.number / 8 ≡ i) (take (end - start) (drop start changes)))
    (page : b.page ≡ block_for (in_block (inodes_with (take (end - start) (drop start changes)) inodes) i))
    (fits : All (λ c. EntryHasSpelling (entry_for c.inode)) (take (end - start) (drop start changes)))
    (stop : (next : InodeChange) → end < length changes → i < (get_or changes end next).number / 8)
    (none : InodeChange) where
  these : List InodeChange
  these = take (end - start) (drop start changes)

  split : take end changes ≡ take start changes ++ these
  unfolding these
  split =
      let e : end ≡ start + (end - start) = omega arith in
      ap (λ (n : ℕ). take n changes) e ∙ take-add start (end - start) changes

  lower_blocks : (k : ℕ) (d : BlockChange) → k < length blocks → (get_or blocks k d).index < i
  lower_blocks k d l = let less = before.lower none (omega arith) k d l in omega (arith, less, first none)

  lower_changes : All (λ c. c.number / 8 < i) (take start changes)
  lower_changes k d l = let less = before.apart none (omega arith) k d l in omega (arith, less, first none)

  untold : Contains (indexes blocks) b.index → ⊥
  untold c =
      let l : c.0 < length blocks = omega (arith, c.1, length-map {A = BlockChange} {B = ℕ} blocks) in
      let less = lower_blocks c.0 b l in
      let same : (get_or blocks c.0 b).index ≡ get_or (indexes blocks) c.0 b.index =
      sym (get_or-map (λ (x : BlockChange). x.index) blocks c.0 b b.index l) in
      omega (arith, less, same, c.2, index)

  sets : Sets (blocks_with blocks pages) (blocks_with (blocks ++ b ∷ []) pages) b.index b.page
  sets = sets-one blocks b pages untold

  inside : (n : ℕ) → n / 8 ≡ i → inodes_with these inodes n ≡ inodes_with (take end changes) inodes n
  inside n e =
      sym (ap (λ (cs : List InodeChange). inodes_with cs inodes n) split
      ∙ (inodes_with-append (take start changes) these inodes n
      ∙ inodes_with-absent (take start changes) (inodes_with these inodes) n
      (λ k d l same.
      let less = lower_changes k d l in omega (arith, less, same, ap (λ (x : ℕ). x / 8) same))))

  outside : (n : ℕ) → n / 8 ≢ i
      → inodes_with (take start changes) inodes n ≡ inodes_with (take end changes) inodes n
  unfolding these
  outside n e =
      sym (ap (λ (cs : List InodeChange). inodes_with cs inodes n) split
      ∙ (inodes_with-append (take start changes) these inodes n
      ∙ inodes_with-cong (take start changes) (inodes_with these inodes) inodes n
      (inodes_with-absent these inodes n
      (λ k d l same. e (sym (ap (λ (x : ℕ). x / 8) same) ∙ group k d l)))))

  become : (j : ℕ) → (j ≡ b.index) ⊎ (j ≡ b.index → ⊥)
      → blocks_with (blocks ++ b ∷ []) pages j
      ≡ block_for (in_block (inodes_with (take end changes) inodes) j)
  unfolding these
  become j (inl e) =
      ap (blocks_with (blocks ++ b ∷ []) pages) e
      ∙ (sets.there
      ∙ (page
      ∙ (block_for-cong (in_block (inodes_with these inodes) i)
      (in_block (inodes_with (take end changes) inodes) i) (λ p l. inside (8 * i + p) (omega arith))
      ∙ ap (λ (n : ℕ). block_for (in_block (inodes_with (take end changes) inodes) n)) (sym (e ∙ index)))))
  become j (inr n) =
      sets.others j n
      ∙ (before.blocks_are.become j
      ∙ block_for-cong (in_block (inodes_with (take start changes) inodes) j)
      (in_block (inodes_with (take end changes) inodes) j)
      (λ p l. outside (8 * j + p) (λ e. n (omega (arith, e, index)))))

  -- one more block
  pub block_changes-more : AreFirstBlockChanges pages inodes changes end (blocks ++ b ∷ [])
  unfolding these
  block_changes-more = record {
    within = high;
    blocks_are = record {
      ascending =
          all_pairs_push (λ (x y : BlockChange). x.index < y.index) blocks b before.blocks_are.ascending
          (λ k d l. let less = lower_blocks k d l in omega (arith, less, index));
      in_range =
          All-push (λ (x : BlockChange). x.index < 262144) blocks b before.blocks_are.in_range
          (omega (arith, index));
      become = λ j. become j (cases_eq j b.index);
      fits =
          subst (λ (cs : List InodeChange). All (λ c. EntryHasSpelling (entry_for c.inode)) cs) (sym split)
          (All-append (λ (c : InodeChange). EntryHasSpelling (entry_for c.inode))
          (take start changes) these before.blocks_are.fits fits);
    };
    lower = λ next l.
        All-push (λ (x : BlockChange). x.index < (get_or changes end next).number / 8) blocks b
        (λ k d m. let less = lower_blocks k d m in omega (arith, less, stop next l))
        (omega (arith, index, stop next l));
    apart = λ next l.
        subst (λ (cs : List InodeChange). All (λ c. c.number / 8 < (get_or changes end next).number / 8) cs)
        (sym split)
        (All-append (λ (c : InodeChange). c.number / 8 < (get_or changes end next).number / 8)
        (take start changes) these
        (λ k d m. let less = lower_changes k d m in omega (arith, less, stop next l))
        (λ k d m. let same = group k d m in omega (arith, same, stop next l)));
  }
