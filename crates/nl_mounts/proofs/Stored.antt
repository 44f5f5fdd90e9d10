-- Which entries there are after reads and warming.
use Rattle.std.proofs.Common.{◌≡◌, inl, inr, ℕ, zero, suc, ◌+◌, Bool, true, false, ◌/◌, Ok, List, Contains, Some, sym, ap, ◌∙◌, subst}
use Rattle.std.specs.Prelude.{◌==◌, ◌&&◌}
use Rattle.std.proofs.lemmas.Bool.{eqb-true}
use Rattle.lru.proofs.CallerLemmas.{Contains-promoted, Contains-put_entries}
use Rattle.nl_types.specs.Plain.Calls.{and_then}
use Rattle.nl_tree.specs.Held.{Holding, held_block}
use Rattle.nl_tree.specs.Reading.{as_file, link_at}
use Rattle.nl_mounts.specs.declared.cache.CacheKey.{CacheKey}
use Rattle.nl_mounts.specs.Caching.{Cache, block_count, is_key, key_of, put_one, touched, touched_one}
use Rattle.nl_mounts.specs.Warming.{HasTouched, IsStored, OfHeldFile, PutsNone, PutsStored}

-- ---- keys

same_keys : (a b : CacheKey) → a.checkpoint ≡ b.checkpoint → a.inode ≡ b.inode → a.index ≡ b.index → a ≡ b
same_keys a b p q r = λ j. record { checkpoint = p j; inode = q j; index = r j }

by_parts : (p q r : Bool) → (p && (q && r)) ≡ true → (p ≡ true) × (q ≡ true) × (r ≡ true)
by_parts true true true is = (is, is, is)
by_parts true true false is = absurd cc
by_parts true false r is = absurd cc
by_parts false q r is = absurd cc

-- keys that aren't told apart are one
pub one_key : (a b : CacheKey) → is_key a b ≡ true → a ≡ b
one_key a b is =
    let parts = by_parts (a.checkpoint == b.checkpoint) (a.inode == b.inode) (a.index == b.index) is in
    same_keys a b (eqb-true a.checkpoint b.checkpoint parts.0) (eqb-true a.inode b.inode parts.1)
    (eqb-true a.index b.index parts.2)

-- ---- what comes to the front was there

pub touched_none : (n i first count : ℕ) (c : Cache) → PutsNone c (touched n i first count c)
touched_none n i first zero c e has = has
touched_none n i first (suc count) c e has =
    touched_none n i first count c e
    (Contains-promoted (is_key (key_of n i (first + count))) (touched n i first count c).entries e has)

pub none_put : (old new : Cache) → PutsNone old new → (holds : Holding → Type 0) (n : ℕ)
    → PutsStored holds n old new
none_put old new none holds n e has = inl (none e has)

-- ---- a block that is put

pub touched_stored : (holds : Holding → Type 0) (n : ℕ) (key : CacheKey) (old new : Cache)
    → new ≡ touched_one key old → PutsStored holds n old new
touched_stored holds n key old new is e has =
    inl (Contains-promoted (is_key key) old.entries e (subst (λ (c : Cache). Contains c.entries e) is has))

module _ (holds : Holding → Type 0) (n i index : ℕ) (page : List ℕ)
    (stored : (held : Holding) → holds held → Some page ≡ held_block (held i) index) where
  is_stored : (e : CacheKey × List ℕ) → e.0 ≡ key_of n i index → e.1 ≡ page → IsStored holds n e
  is_stored e key is = record {
    checkpoint = ap (λ (k : CacheKey). k.checkpoint) key;
    block = λ held h.
        ap (λ (k : CacheKey). held_block (held k.inode) k.index) key
        ∙ (sym (stored held h) ∙ ap (λ (p : List ℕ). Some p) (sym is));
  }

  pub put_stored : (key : CacheKey) (old moved new : Cache) → key ≡ key_of n i index → moved ≡ old
      → new ≡ put_one key page moved → PutsStored holds n old new
  put_stored key old moved new key_is same is e has =
      elim (Contains-put_entries is_key moved key page e
      (subst (λ (c : Cache). Contains c.entries e) is has)) [
        | inl was ↦ inl (subst (λ (c : Cache). Contains c.entries e) same was)
        | inr put ↦ inr (is_stored e (elim put.1 [
          | inl k ↦ k ∙ key_is
          | inr like ↦ sym (one_key key e.0 like.2) ∙ key_is
        ]) put.0)
      ]

-- one after another
pub stored_more : (holds : Holding → Type 0) (n : ℕ) (start was now : Cache) → PutsStored holds n start was
    → PutsStored holds n was now → PutsStored holds n start now
stored_more holds n start was now before after e has = elim (after e has) [
  | inl old ↦ before e old
  | inr new ↦ inr new
]

-- ---- reads

pub touched_by_file : (holds : Holding → Type 0) (n : ℕ) (path : List ℕ) (offset count i : ℕ)
    (old new : Cache)
    → ((held : Holding) → holds held → Ok i ≡ and_then (link_at held path) as_file)
    → new ≡ touched n i (offset / 1024) (block_count offset count) old
    → HasTouched (OfHeldFile holds n path) offset old (Ok count) new
touched_by_file holds n path offset count i old new found is = record {
  touched_is = λ held j h at.
      let found_at = found held h in
      let same : i ≡ j = cc (found_at, at) in
      subst (λ (k : ℕ). new ≡ touched n k (offset / 1024) (block_count offset count) old) same is;
  none =
      subst (λ (c : Cache). PutsNone old c) (sym is)
      (touched_none n i (offset / 1024) (block_count offset count) old);
  same = tt;
}
