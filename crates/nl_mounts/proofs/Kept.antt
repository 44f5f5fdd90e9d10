-- Pages that are kept, while blocks come to the front.
use Rattle.std.proofs.Common.{◌≡◌, ℕ, zero, suc, ◌+◌, ◌-◌, ◌/◌, ◌<◌, ◌≤◌, Bool, true, false, List, ◌∷◌, Contains, Option, Some, None, refl, sym, ap, ◌∙◌, subst, arith}
use Rattle.std.specs.Prelude.{◌%◌, is_some, min, slice_get}
use Rattle.std.specs.Map.{lookup, lookup_entry, remove_entry}
use Rattle.std.specs.Option.{option_map, option_map_or}
use Rattle.lru.proofs.CallerLemmas.{Contains-lookup_entry, Contains-promoted}
use Rattle.lru.proofs.Pairs.{lookup-lookup_entry}
use Rattle.nl_tree.specs.Held.{Holding, held_block}
use Rattle.nl_mounts.specs.declared.cache.CacheKey.{CacheKey}
use Rattle.nl_mounts.specs.Caching.{Cache, HasCachedBlocks, block_count, block_end, cached_at, is_key, key_of, touched, touched_one}
use Rattle.nl_mounts.proofs.Stored.{one_key}

-- ---- the front

abbrev page_of : Option (CacheKey × List ℕ) → Option (List ℕ)
page_of entry = option_map (λ (e : CacheKey × List ℕ). e.1) entry

module _ (test : CacheKey → Bool) (es : List (CacheKey × List ℕ)) where
  front_by : (o : Option (CacheKey × List ℕ)) → lookup_entry test es ≡ o → is_some (lookup test es) ≡ true
      → (e : CacheKey × List ℕ) × (slice_get (option_map_or (λ f. f ∷ remove_entry test es) o es) 0 ≡ Some e)
      × Contains es e × (test e.0 ≡ true)
  front_by None at is =
      let none : None ≡ lookup test es = ap page_of (sym at) ∙ lookup-lookup_entry test es in
      let never : false ≡ true = ap (λ (o : Option (List ℕ)). is_some o) none ∙ is in
      absurd (cc never)
  front_by (Some e) at is =
      let found = Contains-lookup_entry test es e at in
      (e, refl, found.0, found.1)

-- what came to the front stands there, and is the page of its block
pub page_first : (n i index : ℕ) (held : Holding) (key : CacheKey) (was now : Cache) → key ≡ key_of n i index
    → is_some (cached_at key was) ≡ true
    → now ≡ touched_one key was → HasCachedBlocks was n held
    → (e : CacheKey × List ℕ) × (slice_get now.entries 0 ≡ Some e) × (held_block (held i) index ≡ Some e.1)
page_first n i index held key was now key_is kept is cached =
    let first = front_by (is_key key) was.entries (lookup_entry (is_key key) was.entries) refl kept in
    let e = first.0 in
    let own : e.0 ≡ key_of n i index = sym (one_key key e.0 first.3) ∙ key_is in (
      e,
      ap (λ (c : Cache). slice_get c.entries 0) is ∙ first.1,
      cached i index e.1 (subst (λ (k : CacheKey). Contains was.entries (k, e.1)) own first.2),
    )

-- a block that comes to the front leaves what is kept
pub cached_still : (key : CacheKey) (was now : Cache) (n : ℕ) (held : Holding) → now ≡ touched_one key was
    → HasCachedBlocks was n held → HasCachedBlocks now n held
cached_still key was now n held is cached inode index page has =
    cached inode index page
    (Contains-promoted (is_key key) was.entries (key_of n inode index, page)
    (subst (λ (c : Cache). Contains c.entries (key_of n inode index, page)) is has))

-- ---- one block more

pub touched_begun : (offset n i : ℕ) (c : Cache) → c ≡ touched n i (offset / 1024) (block_count offset 0) c
touched_begun offset n i c =
    let none : 0 ≡ block_count offset 0 = omega arith in
    ap (λ (m : ℕ). touched n i (offset / 1024) m c) none

-- from one place to another lies what is left of a block
abbrev pub IsNextBlock : (offset seen len end : ℕ) → Type 0
IsNextBlock offset seen len end = end ≡ min len (seen + (1024 - (offset + seen) % 1024))

-- between the ends a block begins there
abbrev pub IsBlockEdge : (offset seen len : ℕ) → Type 0
IsBlockEdge offset seen len = 0 < seen → seen < len → (offset + seen) % 1024 ≡ 0

module _ (offset seen len end : ℕ) (low : seen < len) (next : IsNextBlock offset seen len end) where
  pub next_edge : IsBlockEdge offset end len
  next_edge some more = omega (arith, next, more)

  last_block : (e : ℕ) → e ≡ end → block_end offset e ≡ (offset + seen) / 1024 + 1
  last_block zero is = absurd (omega (arith, low, next, is))
  last_block (suc e) is = omega (arith, low, next, is)

  seen_blocks : (s : ℕ) → s ≡ seen → IsBlockEdge offset seen len → block_end offset s ≡ (offset + seen) / 1024
  seen_blocks zero is edge = omega (arith, is)
  seen_blocks (suc s) is edge =
      let at_edge = edge (omega (arith, is)) low in
      omega (arith, is, at_edge)

  -- so one block more comes to the front
  pub touched_next : IsBlockEdge offset seen len → (n i : ℕ) (start was now : Cache)
      → was ≡ touched n i (offset / 1024) (block_count offset seen) start
      → now ≡ touched_one (key_of n i ((offset + seen) / 1024)) was
      → now ≡ touched n i (offset / 1024) (block_count offset end) start
  touched_next edge n i start was now was_is now_is =
      let before : block_end offset seen ≡ (offset + seen) / 1024 = seen_blocks seen refl edge in
      let after : block_end offset end ≡ (offset + seen) / 1024 + 1 = last_block end refl in
      let low_first : offset / 1024 ≤ (offset + seen) / 1024 = omega arith in
      let count : block_count offset end ≡ suc (block_count offset seen) =
      omega (arith, before, after, low_first) in
      let index : (offset + seen) / 1024 ≡ offset / 1024 + block_count offset seen =
      omega (arith, before, low_first) in
      now_is
      ∙ (ap (λ (c : Cache). touched_one (key_of n i ((offset + seen) / 1024)) c) was_is
      ∙ (ap
      (λ (k : ℕ). touched_one (key_of n i k) (touched n i (offset / 1024) (block_count offset seen) start))
      index
      ∙ sym (ap (λ (m : ℕ). touched n i (offset / 1024) m start) count)))
