-- The blocks of a store's image are those of its device, and zeros elsewhere.
use Rattle.std.proofs.Common.{◌≡◌, ◌∙◌, ℕ, zero, suc, ◌+◌, ◌*◌, ◌<◌, List, [], ◌∷◌, ◌++◌, Some, ap, arith, drop, get_or, length, length-append, refl, sym, take}
use Rattle.std.specs.Prelude.{slice_get}
use Rattle.std.proofs.Math.Nat.{mul-suc}
use Rattle.std.proofs.Math.Seq.{drop-append-add, take-append_seam}
use Rattle.std.proofs.lemmas.Option.{same_Some, slice_get-get_or}
use Rattle.nl_types.specs.Blocks.Segments.{AreTidy, IsUsed, total_blocks}
use Rattle.nl_types.specs.Facts.UsedParts.{used_inside}
use Rattle.nl_vstore.specs.Content.{SpaceContent}
use Rattle.nl_vstore.specs.Images.{AreBlocksOf, IsRestAt, IsRestZero, IsWhole, page_bytes, pages_of_bytes}
use Rattle.nl_vstore.specs.FactsOfSpace.ImageBlocks.{page_there, rest_zero}

-- ---- whole pages, one after the other

abbrev AreWhole : List (List ℕ) → Type 0
AreWhole pages = (b : ℕ) (page : List ℕ) → slice_get pages b ≡ Some page → IsWhole page

first-whole : (page : List ℕ) (pages : List (List ℕ)) → AreWhole (page ∷ pages) → length page ≡ 1024
first-whole page pages whole = whole 0 page refl

rest-whole : (page : List ℕ) (pages : List (List ℕ)) → AreWhole (page ∷ pages) → AreWhole pages
rest-whole page pages whole b other at = whole (suc b) other at

pages-long : (pages : List (List ℕ)) → AreWhole pages → length (page_bytes pages) ≡ 1024 * length pages
pages-long [] whole = omega arith
pages-long (page ∷ pages) whole =
    let more = pages-long pages (rest-whole page pages whole) in
    omega (
      arith,
      length-append page (page_bytes pages),
      first-whole page pages whole,
      more,
      mul-suc 1024 (length pages),
    )

page-at : (pages : List (List ℕ)) → AreWhole pages → (b : ℕ) (page : List ℕ) → slice_get pages b ≡ Some page
    → take 1024 (drop (1024 * b) (page_bytes pages)) ≡ page
page-at [] whole b page at = absurd (cc)
page-at (first ∷ pages) whole zero page at =
    ap (λ (n : ℕ). take n (first ++ page_bytes pages)) (sym (first-whole first pages whole))
    ∙ take-append_seam first (page_bytes pages) ∙ same_Some first page at
page-at (first ∷ pages) whole (suc b) page at =
    let on : 1024 * suc b ≡ length first + 1024 * b =
    omega (arith, first-whole first pages whole, mul-suc 1024 b) in
    ap (λ (n : ℕ). take 1024 (drop n (first ++ page_bytes pages))) on
    ∙ ap (take 1024) (drop-append-add first (page_bytes pages) (1024 * b))
    ∙ page-at pages (rest-whole first pages whole) b page at

-- ---- the blocks of a space

module _ (c : SpaceContent) (bytes : List ℕ) (are : AreBlocksOf c bytes) where
  whole : AreWhole are.pages
  whole b page at = (are.each b page at).whole

  pub blocks-long : length bytes ≡ 1024 * total_blocks c.segments
  blocks-long = ap length are.spelled ∙ pages-long are.pages whole ∙ ap (λ (n : ℕ). 1024 * n) are.count

  block-at : (b : ℕ) (page : List ℕ) → b < total_blocks c.segments → slice_get are.pages b ≡ Some page
      → pages_of_bytes bytes b ≡ Some page
  block-at b page low at =
      page_there bytes (total_blocks c.segments) b blocks-long low
      ∙ ap (λ (xs : List ℕ). Some (take 1024 (drop (1024 * b) xs))) are.spelled
      ∙ ap Some (page-at are.pages whole b page at)

  there : (b : ℕ) → b < total_blocks c.segments → slice_get are.pages b ≡ Some (get_or are.pages b [])
  there b low = slice_get-get_or are.pages b [] (omega (arith, low, are.count))

  -- a used block is what the space stores
  pub used-block : AreTidy c.segments → (b : ℕ) → IsUsed c.segments b → pages_of_bytes bytes b ≡ c.stored b
  used-block tidy b used =
      let low = used_inside c.segments b tidy used in
      let page : List ℕ = get_or are.pages b [] in
      block-at b page low (there b low) ∙ sym ((are.each b page (there b low)).used used)

  -- all other blocks are zero
  pub rest-zero : IsRestZero c.segments (pages_of_bytes bytes)
  rest-zero = rest_zero c.segments bytes (total_blocks c.segments) blocks-long each
    where
      each : (b : ℕ) → b < total_blocks c.segments → IsRestAt c.segments (pages_of_bytes bytes) b
      each b low page unused at =
          let stored : List ℕ = get_or are.pages b [] in
          same_Some page stored (sym at ∙ block-at b stored low (there b low))
          ∙ (are.each b stored (there b low)).unused unused
