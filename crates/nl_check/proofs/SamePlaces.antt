-- Where two files have the same number, they have the same below it.
use Rattle.std.proofs.Common.{◌≡◌, ℕ, zero, suc, ◌+◌, ◌-◌, ◌/◌, ◌%◌, ◌^◌, ◌≤◌, ap, sym, subst, ◌∙◌, arith}
use Rattle.std.proofs.Math.Nat.{div-one}
use Rattle.std.specs.Option.{option_and_then}
use Rattle.nl_types.specs.Blocks.Roots.{Pages, Root, Tree, child, place_at}
use Rattle.nl_ifile.specs.Inodes.{inode_at, inode_in}
use Rattle.nl_blocktree.specs.Facts.TreePlaces.{div-pow-in}
use Rattle.nl_blocktree.specs.Facts.TreeLevels.{tree_child}

-- ---- trees, be they of one height or not

pub same-down : (pages : Pages) (height top height_b top_b level offset d at q : ℕ)
    → level ≤ height → level ≤ height_b → at + d ≡ level → q / 128 ^ d ≡ offset
    → place_at pages (Tree height top) level offset ≡ place_at pages (Tree height_b top_b) level offset
    → place_at pages (Tree height top) at q ≡ place_at pages (Tree height_b top_b) at q
same-down pages height top height_b top_b level offset zero at q low low_b e over one =
    let same_level : level ≡ at = omega (arith, e) in
    let same : offset ≡ q = sym over ∙ div-one q in
    subst (λ (k : ℕ). place_at pages (Tree height top) k q ≡ place_at pages (Tree height_b top_b) k q)
    same_level
    (subst (λ (k : ℕ). place_at pages (Tree height top) level k ≡ place_at pages (Tree height_b top_b) level
    k)
    same one)
same-down pages height top height_b top_b level offset (suc d) at q low low_b e over one =
    tree_child pages height top at q (omega (arith, e, low))
    ∙ (ap (child pages (q % 128))
    (same-down pages height top height_b top_b level offset d (suc at) (q / 128) low low_b (omega (arith, e))
    (sym (div-pow-in q d) ∙ over) one)
    ∙ sym (tree_child pages height_b top_b at q (omega (arith, e, low_b))))

-- one number at a place of two trees, and one at each place under it
pub same-under : (pages : Pages) (height top height_b top_b level offset at q : ℕ)
    → level ≤ height → level ≤ height_b → at ≤ level → q / 128 ^ (level - at) ≡ offset
    → place_at pages (Tree height top) level offset ≡ place_at pages (Tree height_b top_b) level offset
    → place_at pages (Tree height top) at q ≡ place_at pages (Tree height_b top_b) at q
same-under pages height top height_b top_b level offset at q low low_b under over one =
    same-down pages height top height_b top_b level offset (level - at) at q low low_b (omega (arith, under))
    over
    one

-- ---- the file of inodes

-- where it has one number at an index, it has the inodes there
pub same-inode : (pages : Pages) (a b : Root) (n : ℕ)
    → place_at pages a 0 (n / 8) ≡ place_at pages b 0 (n / 8) → inode_at pages a n ≡ inode_at pages b n
same-inode pages a b n one =
    ap (option_and_then (λ page. inode_in page (n % 8))) (ap (option_and_then pages) one)
