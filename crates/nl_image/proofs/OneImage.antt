-- A store, and checkpoints kept over it, have one image.
use Rattle.std.proofs.Common.{◌≡◌, ◌∙◌, ℕ, ◌<◌, Bool, true, false, cond, List, [], ◌∷◌, Option, None, Some, ap, arith, get_or, inl, inr, length, refl, subst, sym}
use Rattle.std.specs.Prelude.{map, nat_le}
use Rattle.std.specs.List.{AllZip}
use Rattle.std.specs.Option.{option_and_then, option_map}
use Rattle.std.proofs.lemmas.Bool.{cases_eq, cases_order}
use Rattle.std.proofs.lemmas.List.{ext_get_or}
use Rattle.std.proofs.lemmas.List.Elements.{All-head, All-tail}
use Rattle.std.proofs.lemmas.Option.{same_Some, slice_get-get_or}
use Rattle.nl_types.specs.Blocks.Roots.{Pages, Root, page_at, pages_of, place_at}
use Rattle.nl_types.specs.Blocks.Segments.{IsUsed}
use Rattle.nl_layout.specs.Root.{fields_of, root_of, root_told}
use Rattle.nl_layout.specs.declared.checkpoint_entry.CheckpointEntry.{CheckpointEntry}
use Rattle.nl_layout.specs.declared.root.Root as layout
use Rattle.nl_layout.specs.declared.root.Root.TheVariants.{Chain, Empty, Tree}
use Rattle.nl_vstore.specs.Content.{SpaceContent}
use Rattle.nl_vstore.specs.Images.{AreBlocksOf, IsPageOf, page_bytes}
use Rattle.nl_vstore.specs.Stores.{Store, content_in, space_in}
use Rattle.nl_cpfile.specs.declared.checkpoint.Checkpoint.{Checkpoint}
use Rattle.nl_check.specs.Conditions.{AreShaped, IsSoundShape}
use Rattle.nl_check.specs.Judging.{told}
use Rattle.nl_check.specs.Shapes.{Itself}
use Rattle.nl_blocktree.specs.FileShapes.{HasShape, IsSizeOf}
use Rattle.nl_check.specs.Facts.Below.{not-none, some-by}
use Rattle.nl_image.specs.Parts.{image_bytes}
use Rattle.nl_image.specs.StoreImages.{IsImageOf, IsSizedEntry, parts_of}

-- ---- blocks

-- Whether the block is used isn't known: where two bytes differ it would be neither.
same-page : (c : SpaceContent) (b : ℕ) (p q : List ℕ) → IsPageOf c b p → IsPageOf c b q → p ≡ q
same-page c b p q one other = ext_get_or 0 p q (one.whole ∙ sym other.whole) each
  where
    where-used : IsUsed c.segments b → p ≡ q
    where-used used = same_Some p q (sym (one.used used) ∙ other.used used)

    apart-nowhere : (i : ℕ) → (get_or p i 0 ≡ get_or q i 0 → ⊥) → ⊥
    apart-nowhere i apart =
        let at : p ≡ q → ⊥ = λ same. apart (ap (λ (page : List ℕ). get_or page i 0) same) in
        let unused : IsUsed c.segments b → ⊥ = λ used. at (where-used used) in
        at (one.unused unused ∙ sym (other.unused unused))

    each : (i : ℕ) → i < length p → get_or p i 0 ≡ get_or q i 0
    each i low = elim (cases_eq (get_or p i 0) (get_or q i 0)) [
      | inl same ↦ same
      | inr apart ↦ absurd (apart-nowhere i apart)
    ]

same-blocks : (c : SpaceContent) (bytes others : List ℕ) → AreBlocksOf c bytes → AreBlocksOf c others
    → bytes ≡ others
same-blocks c bytes others one other = one.spelled ∙ ap page_bytes pages ∙ sym other.spelled
  where
    count : length one.pages ≡ length other.pages
    count = one.count ∙ sym other.count

    each : (b : ℕ) → b < length one.pages → get_or one.pages b [] ≡ get_or other.pages b []
    each b low =
        let p : List ℕ = get_or one.pages b [] in
        let q : List ℕ = get_or other.pages b [] in
        let high : b < length other.pages = omega (arith, low, count) in
        same-page c b p q (one.each b p (slice_get-get_or one.pages b [] low))
        (other.each b q (slice_get-get_or other.pages b [] high))

    pages : one.pages ≡ other.pages
    pages = ext_get_or [] one.pages other.pages count each

-- ---- entries

-- where each number of a file has a page, no size is less than another
not-less : (pages : Pages) (root : Root) (a b : ℕ) → HasShape pages root
    → (s : IsSizeOf pages root a) → (t : IsSizeOf pages root b) → s.count < t.count → ⊥
not-less pages root a b shape s t less = elim t.last [
  | inl none ↦ omega (arith, none, less)
  | inr (i, is, has) ↦ (let v = some-by (place_at pages root 0 i) has in
      let p = some-by (pages v.0) (shape.stored 0 i v.0 v.1) in
      not-none (page_at pages root i) p.0 (s.none_past i (omega (arith, is, less)))
      (ap (option_and_then pages) v.1 ∙ p.1))
]

one-size : (pages : Pages) (root : Root) (a b : ℕ) → HasShape pages root → IsSizeOf pages root a
    → IsSizeOf pages root b → a ≡ b
one-size pages root a b shape s t = elim (cases_order s.count t.count) [
  | inl same ↦ (let x = s.is in let y = t.is in omega (arith, same, x, y))
  | inr (inl less) ↦ absurd (not-less pages root a b shape s t less)
  | inr (inr more) ↦ absurd (not-less pages root b a shape t s more)
]

-- the fields of a root tell no other
told-one : (r s : layout.Root) → root_told (fields_of r) ≡ Some s → r ≡ s
told-one Empty s is = same_Some Empty s is
told-one (Chain top) s is = same_Some (Chain top) s is
told-one (Tree height top) s is = by (nat_le height 3) is
  where
    by : (low : Bool) → cond low (Some (Tree height top)) None ≡ Some s → Tree height top ≡ s
    by true same = same_Some (Tree height top) s same
    by false same = cc

told-root : (c : Checkpoint) (e : CheckpointEntry) (root : Root) → e.root ≡ fields_of c.root
    → (told e).root ≡ Some root → root ≡ root_of c.root
told-root c e root is same = by (root_told e.root) refl same
  where
    by : (o : Option layout.Root) → root_told e.root ≡ o → option_map root_of o ≡ Some root
        → root ≡ root_of c.root
    by None found none = cc
    by (Some r) found some =
        same_Some root (root_of r) (sym some)
        ∙ sym (ap root_of (told-one c.root r (ap root_told (sym is) ∙ found)))

one-entry : (pages : Pages) (c : Checkpoint) (e f : CheckpointEntry)
    → IsSizedEntry pages c e → IsSizedEntry pages c f → IsSoundShape pages (told e) → e ≡ f
one-entry pages c e f one other shape = λ i. record {
  number = (one.entry.number ∙ sym other.entry.number) i;
  mode = (one.entry.mode ∙ sym other.entry.mode) i;
  minor = (one.entry.minor ∙ sym other.entry.minor) i;
  stamp = (one.entry.stamp ∙ sym other.entry.stamp) i;
  inodes = (one.entry.inodes ∙ sym other.entry.inodes) i;
  root = (one.entry.root ∙ sym other.entry.root) i;
  size = one-size pages (root_of c.root) e.size f.size has one.size other.size i;
}
  where
    has : HasShape pages (root_of c.root)
    has = subst (HasShape pages) (told-root c e shape.0 one.entry.root shape.1) (shape.2.files Itself)

same-entries : (pages : Pages) (kept : List Checkpoint) (es fs : List CheckpointEntry)
    → AllZip (IsSizedEntry pages) kept es → AllZip (IsSizedEntry pages) kept fs
    → AreShaped pages (map told es) → es ≡ fs
same-entries pages [] [] [] one other shaped = refl
same-entries pages [] [] (f ∷ fs) one other shaped = absurd other
same-entries pages [] (e ∷ es) fs one other shaped = absurd one
same-entries pages (c ∷ kept) [] fs one other shaped = absurd one
same-entries pages (c ∷ kept) (e ∷ es) [] one other shaped = absurd other
same-entries pages (c ∷ kept) (e ∷ es) (f ∷ fs) one other shaped =
    let first : e ≡ f =
    one-entry pages c e f one.0 other.0 (All-head (IsSoundShape pages) (told e) (map told es) shaped) in
    let rest : es ≡ fs =
    same-entries pages kept es fs one.1 other.1
    (All-tail (IsSoundShape pages) (told e) (map told es) shaped) in
    λ i. first i ∷ rest i

-- ---- the whole

-- The image is one where the roots of the kept checkpoints have their shape: of a root that names a number
-- without a page more
-- than one size is told.
pub one-image : (store : Store) (kept : List Checkpoint) (a b : List ℕ) → (image : IsImageOf store kept a)
    → AreShaped (pages_of (content_in store)) (map told image.entries)
    → IsImageOf store kept b → a ≡ b
one-image store kept a b image shaped other =
    image.spelled ∙ (λ i. image_bytes (parts_of (shape i) store (entries i)) (blocks i)) ∙ sym other.spelled
  where
    shape : image.shape ≡ other.shape
    shape = λ i. record {
      mark = (image.are.shape.mark ∙ sym other.are.shape.mark) i;
      segments = (image.are.shape.segments ∙ sym other.are.shape.segments) i;
      blocks = (image.are.shape.blocks ∙ sym other.are.shape.blocks) i;
      checkpoints = (image.are.count ∙ sym other.are.count) i;
    }

    entries : image.entries ≡ other.entries
    entries =
        same-entries (pages_of (content_in store)) kept image.entries other.entries image.are.sized
        other.are.sized shaped

    blocks : image.blocks ≡ other.blocks
    blocks = same-blocks (space_in store) image.blocks other.blocks image.blocks_are other.blocks_are
