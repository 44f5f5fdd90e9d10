-- Files of a checkpoint that are walked one after another.
use Rattle.std.proofs.Common.{◌≡◌, ◌⊎◌, ℕ, zero, suc, ◌+◌, ◌*◌, ◌/◌, ◌%◌, ◌<◌, ◌≤◌, Bool, true, false, List, Some, None, refl, ap, sym, subst, ◌∙◌, inl, inr, arith}
use Rattle.std.specs.Option.{option_and_then}
use Rattle.std.proofs.lemmas.Bool.{cases_lt}
use Rattle.nl_types.specs.Blocks.RootChanges.{places}
use Rattle.nl_types.specs.Blocks.Roots.{Empty, Pages, Root, page_at, place_at}
use Rattle.nl_files.specs.CheckpointRoots.{inode_root}
use Rattle.nl_ifile.specs.Inodes.{IsInodeFile, inode_at, inode_in}
use Rattle.nl_blocktree.specs.Facts.MetPlaces.{walked-empty}
use Rattle.nl_blocktree.specs.FileShapes.{HasShape}
use Rattle.nl_blocktree.specs.Walked.{CanBeMet, is_met, IsWalked}
use Rattle.nl_check.specs.Periods.{AreMetIn}
use Rattle.nl_check.specs.Shapes.{At, IsShaped, Itself, Of, Owner, met, root_for}
use Rattle.nl_check.specs.Private.Walks.{AreWalked, AreWhole, IsBelow}

same-at : (p q : At) → p.owner ≡ q.owner → p.level ≡ q.level → p.offset ≡ q.offset → p ≡ q
same-at p q a b c = λ i. record { owner = a i; level = b i; offset = c i }

at-of : Owner → ℕ × ℕ → At
at-of owner at = record { owner = owner; level = at.0; offset = at.1 }

pair-at : (p q : At) → p.owner ≡ q.owner → ◌≡◌ {A = ℕ × ℕ} (p.level, p.offset) (q.level, q.offset) → p ≡ q
pair-at p q a b = same-at p q a (ap (λ (x : ℕ × ℕ). x.0) b) (ap (λ (x : ℕ × ℕ). x.1) b)

-- ---- owners in their order

below-zero : (o : Owner) → IsBelow 0 o → o ≡ Itself
below-zero Itself low = refl
below-zero (Of i) low = absurd (omega (arith, low))

below-split : (n : ℕ) (o : Owner) → IsBelow (n + 1) o → IsBelow n o ⊎ (o ≡ Of n)
below-split n Itself low = inl low
below-split n (Of i) low = elim (cases_lt i n) [
  | inl less ↦ inl less
  | inr high ↦ (let e : i ≡ n = omega (arith, low, high) in inr (ap Of e))
]

below-more : (n m : ℕ) (o : Owner) → n ≤ m → IsBelow n o → IsBelow m o
below-more n m Itself le low = low
below-more n m (Of i) le low = omega (arith, le, low)

-- where the places of an owner end
end-of : Owner → ℕ
end-of Itself = 0
end-of (Of i) = i + 1

below-end : (n : ℕ) (o : Owner) → end-of o ≤ n → IsBelow n o
unfolding end-of
below-end n Itself le = tt
below-end n (Of i) le = omega (arith, le)

no-two : (b : Bool) → b ≡ true → b ≡ false → ⊥
no-two b p q = cc

module _ (pages : Pages) (root : Root) where
  met-by : (at : At) (o : Owner) (r : Root) → at.owner ≡ o → root_for pages root o ≡ r
      → met pages root at ≡ place_at pages r at.level at.offset
  met-by at o r is root_is =
      ap (λ (x : Owner). place_at pages (root_for pages root x) at.level at.offset) is
      ∙ ap (λ (x : Root). place_at pages x at.level at.offset) root_is

  pub walked-first : (old new : List Bool) (count : ℕ) → ((v : ℕ) → is_met old v ≡ false)
      → IsWalked pages root old new count → AreWalked pages root 0 new
  walked-first old new count none w = record {
    files = λ owner low.
        subst (λ (o : Owner). HasShape pages (root_for pages root o))
        (sym (below-zero owner low)) w.can.shape;
    once = λ p q v a b h k.
        pair-at p q (below-zero p.owner a ∙ sym (below-zero q.owner b))
        (w.met.once (p.level, p.offset) (q.level, q.offset) v tt tt (there p v a h) (there q v b k));
    whole = λ at v page a h is. w.met.whole (at.level, at.offset) v page tt (there at v a h) is;
    all = λ at v a h. w.met.added (at.level, at.offset) v tt (there at v a h);
    only = λ v is. elim (w.met.only v is) [
      | inl old_is ↦ absurd (no-two (is_met old v) old_is (none v))
      | inr x ↦ (record { owner = Itself; level = x.0.0; offset = x.0.1 }, tt, x.2)
    ];
  }
    where
      there : (at : At) (v : ℕ) → IsBelow 0 at.owner → met pages root at ≡ Some v
          → place_at pages root at.level at.offset ≡ Some v
      there at v low h = sym (met-by at Itself root (below-zero at.owner low) refl) ∙ h

  -- the file of one inode more
  pub walked-more : (n : ℕ) (r : Root) (old new : List Bool) (count : ℕ)
      → inode_root (inode_at pages root n) ≡ r → AreWalked pages root n old → IsWalked pages r old new count
      → AreWalked pages root (n + 1) new
  walked-more n r old new count root_is m w = record {
    files = λ owner low. elim (below-split n owner low) [
      | inl before ↦ m.files owner before
      | inr own ↦
          subst (λ (o : Owner). HasShape pages (root_for pages root o)) (sym own)
          (subst (HasShape pages) (sym root_is) w.can.shape)
    ];
    once = λ p q v a b h k. elim (below-split n p.owner a) [
      | inl before ↦ elim (below-split n q.owner b) [
        | inl also ↦ m.once p q v before also h k
        | inr own ↦ absurd (apart p q v before own h k)
      ]
      | inr own ↦ elim (below-split n q.owner b) [
        | inl before ↦ absurd (apart q p v before own k h)
        | inr also ↦
            pair-at p q (own ∙ sym also)
            (w.met.once (p.level, p.offset) (q.level, q.offset) v tt tt (there p v own h) (there q v also k))
      ]
    ];
    whole = λ at v page a h is. elim (below-split n at.owner a) [
      | inl before ↦ m.whole at v page before h is
      | inr own ↦ w.met.whole (at.level, at.offset) v page tt (there at v own h) is
    ];
    all = λ at v a h. elim (below-split n at.owner a) [
      | inl before ↦ w.met.met_stay v (m.all at v before h)
      | inr own ↦ w.met.added (at.level, at.offset) v tt (there at v own h)
    ];
    only = λ v is. elim (w.met.only v is) [
      | inl old_is ↦ (let o = m.only v old_is in (o.0, below-more n (n + 1) o.0.owner (omega arith) o.1, o.2))
      | inr x ↦ (
        record { owner = Of n; level = x.0.0; offset = x.0.1 },
        omega arith,
        ap (λ (y : Root). place_at pages y x.0.0 x.0.1) root_is ∙ x.2,
      )
    ];
  }
    where
      there : (at : At) (v : ℕ) → at.owner ≡ Of n → met pages root at ≡ Some v
          → place_at pages r at.level at.offset ≡ Some v
      there at v own h = sym (met-by at (Of n) r own root_is) ∙ h

      apart : (p q : At) (v : ℕ) → IsBelow n p.owner → q.owner ≡ Of n → met pages root p ≡ Some v
          → met pages root q ≡ Some v → ⊥
      apart p q v before own h k =
          no-two (is_met old v) (m.all p v before h) (w.met.fresh (q.level, q.offset) v tt (there q v own k))

  -- numbers of inodes that aren't in use
  pub walked-nones : (n m : ℕ) (now : List Bool)
      → ((i : ℕ) → n ≤ i → i < n + m → inode_at pages root i ≡ None) → AreWalked pages root n now
      → AreWalked pages root (n + m) now
  walked-nones n zero now free w =
      let e : n ≡ n + 0 = omega arith in subst (λ (k : ℕ). AreWalked pages root k now) e w
  walked-nones n (suc m) now free w =
      let e : (n + m) + 1 ≡ n + suc m = omega arith in
      subst (λ (k : ℕ). AreWalked pages root k now) e
      (walked-more (n + m) Empty now now 0 (ap inode_root (free (n + m) (omega arith) (omega arith)))
      (walked-nones n m now (λ i low high. free i low (omega (arith, high))) w) (walked-empty pages now))

  pub none-in : (b i : ℕ) → page_at pages root b ≡ None → i / 8 ≡ b → inode_at pages root i ≡ None
  none-in b i none is =
      ap (λ (k : ℕ). option_and_then (λ page. inode_in page (i % 8)) (page_at pages root k)) is
      ∙ ap (option_and_then (λ page. inode_in page (i % 8))) none

  -- a block of inodes that isn't there
  pub walked-hole : (b : ℕ) (now : List Bool) → page_at pages root b ≡ None → AreWalked pages root (8 * b) now
      → AreWalked pages root (8 * (b + 1)) now
  walked-hole b now none w =
      let e : 8 * b + 8 ≡ 8 * (b + 1) = omega arith in
      subst (λ (k : ℕ). AreWalked pages root k now) e
      (walked-nones (8 * b) 8 now (λ i low high. none-in b i none (omega (arith, low, high))) w)

  -- the inode of a place of a block that is there
  pub inode-there : (b p : ℕ) (page : List ℕ) → page_at pages root b ≡ Some page → p < 8
      → inode_at pages root (8 * b + p) ≡ inode_in page p
  inode-there b p page is low =
      let block : (8 * b + p) / 8 ≡ b = omega (arith, low) in
      let place : (8 * b + p) % 8 ≡ p = omega (arith, low) in
      ap (λ (k : ℕ). option_and_then (λ (x : List ℕ). inode_in x ((8 * b + p) % 8)) (page_at pages root k))
      block
      ∙ (ap (option_and_then (λ (x : List ℕ). inode_in x ((8 * b + p) % 8))) is ∙ ap (inode_in page) place)

  -- all blocks of inodes are walked
  module _ (count : ℕ) (now : List Bool) (past : (b : ℕ) → count ≤ b → page_at pages root b ≡ None)
      (w : AreWalked pages root (8 * count) now) where
    walked-on : (m : ℕ) → AreWalked pages root (8 * count + m) now
    walked-on m =
        walked-nones (8 * count) m now
        (λ i low high. none-in (i / 8) i (past (i / 8) (omega (arith, low))) refl) w

    pub walked-shaped : IsInodeFile pages root → IsShaped pages root
    walked-shaped inodes = record {
      files = λ owner.
          (walked-on (end-of owner)).files owner (below-end (8 * count + end-of owner) owner (omega arith));
      inodes = inodes;
      once = λ p q v h k.
          let all = walked-on (end-of p.owner + end-of q.owner) in
          all.once p q v (below-end (8 * count + (end-of p.owner + end-of q.owner)) p.owner (omega arith))
          (below-end (8 * count + (end-of p.owner + end-of q.owner)) q.owner (omega arith)) h k;
    }

    pub walked-met : AreMetIn pages root now
    walked-met = record {
      all = λ at v h.
          (walked-on (end-of at.owner)).all at v
          (below-end (8 * count + end-of at.owner) at.owner (omega arith)) h;
      only = λ v is. let o = w.only v is in (o.0, o.2);
    }

    pub walked-whole : AreWhole pages root
    walked-whole at v page h is =
        (walked-on (end-of at.owner)).whole at v page
        (below-end (8 * count + end-of at.owner) at.owner (omega arith)) h is

  -- ---- the other way round

  -- a checkpoint of the right shape can be met file by file
  pub first-can : (old : List Bool) → ((v : ℕ) → is_met old v ≡ false) → IsShaped pages root
      → CanBeMet pages root old
  first-can old none s = record {
    shape = s.files Itself;
    fresh = λ at v is. none v;
    once = λ a b v h k.
        let e =
        s.once (record { owner = Itself; level = a.0; offset = a.1 })
        (record { owner = Itself; level = b.0; offset = b.1 }) v h k in
        ap (λ (x : At). (x.level, x.offset)) e;
  }

  pub next-can : (n : ℕ) (r : Root) (now : List Bool) → inode_root (inode_at pages root n) ≡ r
      → AreWalked pages root n now → IsShaped pages root → CanBeMet pages r now
  next-can n r now root_is w s = subst (λ (x : Root). CanBeMet pages x now) root_is (record {
    shape = s.files (Of n);
    fresh = λ at v is. by at v is (is_met now v) refl;
    once = λ a b v h k.
        let e =
        s.once (record { owner = Of n; level = a.0; offset = a.1 })
        (record { owner = Of n; level = b.0; offset = b.1 }) v h k in
        ap (λ (x : At). (x.level, x.offset)) e;
  })
    where
      not-own : (o : Owner) → Of n ≡ o → IsBelow n o → ⊥
      not-own o is low = let itself : n < n = subst (IsBelow n) (sym is) low in omega (arith, itself)

      by : (at : ℕ × ℕ) (v : ℕ) → places pages (inode_root (inode_at pages root n)) at ≡ Some v → (b : Bool)
          → is_met now v ≡ b → is_met now v ≡ false
      by at v is false e = e
      by at v is true e =
          let o = w.only v e in
          let same = s.once (record { owner = Of n; level = at.0; offset = at.1 }) o.0 v is o.2 in
          absurd (not-own o.0.owner (ap (λ (x : At). x.owner) same) o.1)
