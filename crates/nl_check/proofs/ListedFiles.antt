-- Files whose inodes changed, listed block by block.
use Rattle.std.proofs.Common.{◌≡◌, ◌⊎◌, ℕ, suc, ◌+◌, ◌*◌, ◌≤◌, List, [], ◌∷◌, Option, refl, ap, sym, subst, ◌∙◌, inl, inr, arith}
use Rattle.std.specs.List.{Contains}
use Rattle.std.proofs.lemmas.List.Elements.{Contains-append_left, Contains-push, Contains-push_cases}
use Rattle.nl_types.specs.Blocks.Roots.{Pages, Root, Tree, page_at, place_at}
use Rattle.nl_ifile.specs.Inodes.{inode_at}
use Rattle.nl_check.specs.Facts.Below.{below-more}
use Rattle.nl_check.specs.Private.ChangedFiles.{AreAllListed, IsBlockListed, IsChangedFile, IsOfInodes, IsSameOrListed, ListsAll, ListsBlock, ListsFile, ListsInode, ListsMore, ListsPlaces, ListsUnder}
use Rattle.nl_check.specs.declared.differing.ChangedFile.{ChangedFile}
use Rattle.nl_check.proofs.KnownInodes.{block-of}
use Rattle.nl_blocktree.specs.Facts.MetRanges.{range-none, range-step, whole-step}
use Rattle.nl_blocktree.specs.Facts.TreePlaces.{above-same, under-top}
use Rattle.nl_check.proofs.SamePlaces.{same-under}

module _ (pages : Pages) (old new : Root) where
  -- ---- lists that grow

  lists-none : (files : List ChangedFile) → ListsMore pages old new files files
  lists-none files = record { more = λ f c. c; right = λ all. all }

  lists-then : (before mid after : List ChangedFile) → ListsMore pages old new before mid
      → ListsMore pages old new mid after → ListsMore pages old new before after
  lists-then before mid after m k = record {
    more = λ f c. k.more f (m.more f c);
    right = λ all. k.right (m.right all);
  }

  still : (n : ℕ) (mid after : List ChangedFile) → ListsMore pages old new mid after
      → IsSameOrListed pages old new mid n → IsSameOrListed pages old new after n
  still n mid after k (inl one) = inl one
  still n mid after k (inr (f, c, number)) = inr (f, k.more f c, number)

  -- ---- one inode

  pub inode-listed : (f : ChangedFile) (before after : List ChangedFile)
      → ListsFile f before after → inode_at pages old f.number ≡ f.earlier
      → inode_at pages new f.number ≡ f.later
      → ListsInode pages old new f.number before after
  inode-listed f before after (inl (one, list)) a b =
      subst (ListsInode pages old new f.number before) (sym list)
      (record {
        lists = lists-none before;
        here = inl (a ∙ (one ∙ sym b));
      })
  inode-listed f before after (inr (can, list)) a b =
      subst (ListsInode pages old new f.number before) (sym list)
      (record {
        lists = record {
          more = λ g c. Contains-append_left before (f ∷ []) g c;
          right = λ all g c. elim (Contains-push_cases before f g c) [
            | inl earlier ↦ all g earlier
            | inr own ↦ subst (IsChangedFile pages old new) own (record { was = a; is = b; can = can })
          ];
        };
        here = inr (f, Contains-push before f, refl);
      })

  -- ---- a block

  pub places-start : (index : ℕ) (files : List ChangedFile) → ListsPlaces pages old new index 0 files files
  places-start index files = record { lists = lists-none files; each = λ p low. absurd (omega (arith, low)) }

  pub places-next : (index p : ℕ) (before mid after : List ChangedFile)
      → ListsPlaces pages old new index p before mid → ListsInode pages old new (8 * index + p) mid after
      → ListsPlaces pages old new index (p + 1) before after
  places-next index p before mid after m k = record {
    lists = lists-then before mid after m.lists k.lists;
    each =
        below-more (λ (q : ℕ). IsSameOrListed pages old new after (8 * index + q)) p
        (λ q low. still (8 * index + q) mid after k.lists (m.each q low)) k.here;
  }

  pub block-listed : (index : ℕ) (o : Option (List ℕ)) (before after : List ChangedFile)
      → page_at pages new index ≡ o → IsOfInodes o
      → ListsPlaces pages old new index 8 before after → ListsBlock pages old new index before after
  block-listed index o before after at is m = record {
    lists = m.lists;
    listed = record { block = block-of pages new index o at is; each = m.each };
  }

  block-still : (index : ℕ) (mid after : List ChangedFile) → ListsMore pages old new mid after
      → IsBlockListed pages old new mid index → IsBlockListed pages old new after index
  block-still index mid after k b = record {
    block = b.block;
    each = λ p low. still (8 * index + p) mid after k (b.each p low);
  }

  each-still : (i : ℕ) (mid after : List ChangedFile) → ListsMore pages old new mid after
      → (place_at pages old 0 i ≡ place_at pages new 0 i) ⊎ IsBlockListed pages old new mid i
      → (place_at pages old 0 i ≡ place_at pages new 0 i) ⊎ IsBlockListed pages old new after i
  each-still i mid after k (inl one) = inl one
  each-still i mid after k (inr b) = inr (block-still i mid after k b)

  -- ---- blocks under places of a level

  pub under-start : (level first : ℕ) (files : List ChangedFile)
      → ListsUnder pages old new level first first files files
  under-start level first files = record {
    lists = lists-none files;
    each = λ i u. absurd (range-none level first (0, i) u);
  }

  pub under-next : (below offset s : ℕ) (before mid after : List ChangedFile)
      → ListsUnder pages old new below (128 * offset) (128 * offset + s) before mid
      → ListsUnder pages old new below (128 * offset + s) (suc (128 * offset + s)) mid after
      → ListsUnder pages old new below (128 * offset) (128 * offset + (s + 1)) before after
  under-next below offset s before mid after m k =
      let next : 128 * offset + s + 1 ≡ 128 * offset + (s + 1) = omega arith in
      subst (λ (bound : ℕ). ListsUnder pages old new below (128 * offset) bound before after) next
      (record {
        lists = lists-then before mid after m.lists k.lists;
        each = λ i u. elim (range-step below (128 * offset) (128 * offset + s) (0, i) u) [
          | inl h ↦ each-still i mid after k.lists (m.each i h)
          | inr h ↦ k.each i h
        ];
      })

  pub under-node : (level below offset : ℕ) (before after : List ChangedFile) → level ≡ suc below
      → ListsUnder pages old new below (128 * offset) (128 * offset + 128) before after
      → ListsUnder pages old new level offset (suc offset) before after
  under-node level below offset before after e m = record {
    lists = m.lists;
    each = λ i u. elim (whole-step level below offset e (0, i) u) [
      | inl here ↦ absurd (let at = ap (λ (x : ℕ × ℕ). x.0) here in omega (arith, at, e))
      | inr h ↦ m.each i h
    ];
  }

  -- a block of inodes itself
  pub under-block : (level offset : ℕ) (before after : List ChangedFile) → level ≡ 0
      → ListsBlock pages old new offset before after
      → ListsUnder pages old new level offset (suc offset) before after
  under-block level offset before after zero_is b = record {
    lists = b.lists;
    each = λ i u.
        let over = above-same level 0 i (sym zero_is) in
        let from = u.from in
        let under = u.below in
        let here : offset ≡ i = omega (arith, over, from, under) in
        inr (subst (IsBlockListed pages old new after) here b.listed);
  }

-- what stands at one place of both is passed over
pub under-same : (pages : Pages) (height top other level offset : ℕ) (files : List ChangedFile)
    → level ≤ height
    → place_at pages (Tree height top) level offset ≡ place_at pages (Tree height other) level offset
    → ListsUnder pages (Tree height top) (Tree height other) level offset (suc offset) files files
under-same pages height top other level offset files low one = record {
  lists = lists-none pages (Tree height top) (Tree height other) files;
  each = λ i u.
      let from = u.from in
      let under = u.below in
      inl (same-under pages height top height other level offset 0 i low low (omega arith)
      (omega (arith, from, under)) one);
}

-- ---- all blocks

pub all-listed : (pages : Pages) (height top other : ℕ) (before after : List ChangedFile)
    → ListsUnder pages (Tree height top) (Tree height other) height 0 1 before after
    → ListsAll pages (Tree height top) (Tree height other) before after
all-listed pages height top other before after m = record {
  beside = (refl, refl, refl);
  lists = m.lists;
  each = λ i. elim (under-top pages height top (0, i)) [
    | inl u ↦ m.each i u
    | inr none ↦ elim (under-top pages height other (0, i)) [
      | inl u ↦ m.each i u
      | inr also ↦ inl (none ∙ sym also)
    ]
  ];
}

pub listed-from-none : (pages : Pages) (old new : Root) (before after : List ChangedFile) → before ≡ []
    → ListsAll pages old new before after → AreAllListed pages old new after
listed-from-none pages old new before after empty m = record {
  beside = m.beside;
  right = m.lists.right (λ f c.
      let none : Contains [] f = subst (λ (fs : List ChangedFile). Contains fs f) empty c in
      absurd (let low = none.1 in omega (arith, low)));
  each = m.each;
}
