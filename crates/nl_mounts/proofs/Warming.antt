-- What is put and brought to the front.
use Rattle.std.proofs.Common.{◌≡◌, ℕ, suc, ◌+◌, ◌-◌, ◌≤◌, Bool, true, false, cond, not, List, [], ◌∷◌, Option, Some, None, refl, sym, ap, subst, ◌∙◌, ◌&&◌, arith}
use Rattle.std.specs.Prelude.{IfErr, IfOk, IsOkUnless, MatchResult, Result, Ok, Err, is_some}
use Rattle.std.specs.Map.{lookup, lookup_entry, remove_entry}
use Rattle.std.specs.Option.{option_map_or}
use Rattle.lru.specs.LruCache.{lru_cache}
use Rattle.nl_types.specs.declared.error.VolError.{VolError}
use Rattle.nl_types.specs.declared.error.VolError.TheVariants.{Memory}
use Rattle.nl_types.specs.declared.reply.Answer.{Answer}
use Rattle.nl_types.specs.Plain.Calls.{and_then}
use Rattle.nl_types.specs.Blocks.Roots.{Blocks}
use Rattle.nl_types.specs.Plain.Trees.{Tree}
use Rattle.nl_tree.specs.Held.{Holding}
use Rattle.nl_tree.specs.Reading.{HoldingMeans, as_file, link_at}
use Rattle.nl_tree.specs.Facts.ReadingCalls.{read_bytes}
use Rattle.nl_mounts.specs.declared.cache.CacheKey.{CacheKey}
use Rattle.nl_mounts.specs.Caching.{Cache, cached_at, is_key, key_of, put_by, put_count, put_one, touched_one, warmed, warmed_one}
use Rattle.nl_mounts.specs.Warming.{HasBegunToWarm, HasWarmed, IsWarmingOf, OfHeldFile, Warms}
use Rattle.nl_mounts.specs.Warming.Warms.{Part, Whole}

-- ---- one block

-- at most one is put
pub put_once : (key : CacheKey) (stored : Option (List ℕ)) (c : Cache) → put_by key stored c ≤ 1
put_once key stored c = elim (not (is_some (cached_at key c)) && is_some stored) as (λ b. cond b 1 0 ≤ 1) [
  | true ↦ omega arith
  | false ↦ omega arith
]

entry_none : (test : CacheKey → Bool) (es : List (CacheKey × List ℕ)) → is_some (lookup test es) ≡ false
    → lookup_entry test es ≡ None
entry_none test [] none = refl
entry_none test (e ∷ es) none = by (test e.0) none (entry_none test es)
  where
    by : (b : Bool) → is_some (cond b (Some e.1) (lookup test es)) ≡ false
        → (is_some (lookup test es) ≡ false → lookup_entry test es ≡ None)
        → cond b (Some e) (lookup_entry test es) ≡ None
    by true is rest = absurd cc
    by false is rest = rest is

-- what isn't there can't come to the front
untouched : (key : CacheKey) (c : Cache) → is_some (cached_at key c) ≡ false → touched_one key c ≡ c
untouched key c none =
    ap (λ (o : Option (CacheKey × List ℕ)).
    lru_cache (option_map_or (λ e. e ∷ remove_entry (is_key key) c.entries) o c.entries) c.cap)
    (entry_none (is_key key) c.entries none)

module _ (key : CacheKey) (c moved : Cache) (none : is_some (cached_at key c) ≡ false)
    (moved_is : moved ≡ touched_one key c) where
  pub not_there : moved ≡ c
  not_there = moved_is ∙ untouched key c none

  pub left : (stored : Option (List ℕ)) → None ≡ stored
      → (moved ≡ warmed_one key stored c) × (0 ≡ put_by key stored c)
  left stored is =
      subst (λ (s : Option (List ℕ)). (moved ≡ warmed_one key s c) × (0 ≡ put_by key s c)) is
      (rw none (not_there, refl))

  pub put : (stored : Option (List ℕ)) (page : List ℕ) (new : Cache) → Some page ≡ stored
      → new ≡ put_one key page moved
      → (new ≡ warmed_one key stored c) × (1 ≡ put_by key stored c)
  put stored page new is put_is =
      subst (λ (s : Option (List ℕ)). (new ≡ warmed_one key s c) × (1 ≡ put_by key s c)) is
      (rw none (put_is ∙ ap (λ (d : Cache). put_one key page d) not_there, refl))

-- ---- one block more

module _ (first index : ℕ) (le : first ≤ index) where
  more : index + 1 - first ≡ suc (index - first)
  more = omega (arith, le)

  at : index ≡ first + (index - first)
  at = omega (arith, le)

  pub warmed_more : (blocks : Blocks) (n i : ℕ) (start was now : Cache)
      → was ≡ warmed blocks n i first (index - first) start
      → now ≡ warmed_one (key_of n i index) (blocks index) was
      → now ≡ warmed blocks n i first (index + 1 - first) start
  warmed_more blocks n i start was now was_is now_is =
      now_is ∙ (ap (λ (c : Cache). warmed_one (key_of n i index) (blocks index) c) was_is
      ∙ (ap
      (λ (k : ℕ). warmed_one (key_of n i k) (blocks k) (warmed blocks n i first (index - first) start)) at
      ∙ sym (ap (λ (count : ℕ). warmed blocks n i first count start) more)))

  pub put_more : (blocks : Blocks) (n i : ℕ) (start was : Cache) (count put : ℕ)
      → was ≡ warmed blocks n i first (index - first) start
      → count ≡ put_count blocks n i first (index - first) start
      → put ≡ put_by (key_of n i index) (blocks index) was
      → count + put ≡ put_count blocks n i first (index + 1 - first) start
  put_more blocks n i start was count put was_is count_is put_is =
      ap (λ (m : ℕ). m + put) count_is
      ∙ (ap (λ (m : ℕ). put_count blocks n i first (index - first) start + m)
      (put_is ∙ (ap (λ (c : Cache). put_by (key_of n i index) (blocks index) c) was_is
      ∙ ap (λ (k : ℕ). put_by (key_of n i k) (blocks k) (warmed blocks n i first (index - first) start)) at))
      ∙ sym (ap (λ (m : ℕ). put_count blocks n i first m start) more))

-- ---- a file at a path

pub warming_refused : (expected : Result Answer VolError) (result : Result ℕ VolError) (x : VolError)
    → expected ≡ Err x → result ≡ Err x
    → MatchResult expected (λ _. IsOkUnless result Memory) (λ e. result ≡ Err e)
warming_refused expected result x is same =
    subst
    (λ (r : Result Answer VolError). MatchResult r (λ _. IsOkUnless result Memory) (λ e. result ≡ Err e))
    (sym is) same

judged_found : (found : Result ℕ VolError) (i : ℕ) (answer : ℕ → Answer) (result : Result ℕ VolError)
    → Ok i ≡ found → IsOkUnless result Memory
    → MatchResult (and_then found (λ j. Ok (answer j))) (λ _. IsOkUnless result Memory) (λ e. result ≡ Err e)
judged_found found i answer result is memory =
    subst (λ (f : Result ℕ VolError).
    MatchResult (and_then f (λ j. Ok (answer j))) (λ _. IsOkUnless result Memory) (λ e. result ≡ Err e))
    is memory

pub warming_found : (held : Holding) (shown : Tree) → HoldingMeans held shown
    → (path : List ℕ) (i : ℕ) (result : Result ℕ VolError)
    → Ok i ≡ and_then (link_at held path) as_file → IsOkUnless result Memory → IsWarmingOf shown path result
warming_found held shown means path i result found memory =
    subst
    (λ (r : Result Answer VolError). MatchResult r (λ _. IsOkUnless result Memory) (λ e. result ≡ Err e))
    (sym (read_bytes held shown means 0 0 path))
    (judged_found (and_then (link_at held path) as_file) i _ result found memory)

module _ (holds : Holding → Type 0) (n : ℕ) (path : List ℕ) (offset len : ℕ) (old new : Cache) (i : ℕ) where
  pub warms : (result : Result ℕ VolError)
      → ((held : Holding) → holds held → Ok i ≡ and_then (link_at held path) as_file)
      → ((held : Holding) → holds held → IfOk result (λ count. HasWarmed offset len count old new n held i))
      → ((held : Holding) → holds held → IfErr result (λ _. HasBegunToWarm offset len old new n held i))
      → IfErr result (λ e. e ≡ Memory) → Warms (OfHeldFile holds n path) offset len old result new
  warms (Ok count) found all part memory = Whole count refl (λ held j h at.
      let found_at = found held h in
      let same : i ≡ j = cc (found_at, at) in
      subst (λ (k : ℕ). HasWarmed offset len count old new n held k) same (all held h))
  warms (Err e) found all part memory = Part (ap Err memory) (λ held j h at.
      let found_at = found held h in
      let same : i ≡ j = cc (found_at, at) in
      subst (λ (k : ℕ). HasBegunToWarm offset len old new n held k) same (part held h))
