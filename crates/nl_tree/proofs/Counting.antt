-- Numbers in use after one is taken, and after one is free again.
use Rattle.std.proofs.Common.{◌≡◌, ℕ, ◌+◌, ◌<◌, ◌≤◌, ◌==◌, ◌⊎◌, inl, inr, arith, Bool, true, false, List, Option, Some, None, IsSome, refl, sym, ap, ◌∙◌}
use Rattle.std.specs.Prelude.{cond, nat_le, is_some, if◌then◌else◌}
use Rattle.std.proofs.lemmas.Bool.{cases_lt, eqb-true, eqb-false, eq-eqb, ne_eqb, leb-true, leb-false}
use Rattle.nl_types.specs.Plain.Paths.{Name}
use Rattle.nl_types.specs.Inodes.{IsLowestFreeInode}
use Rattle.nl_dirs.specs.declared.record.Record.{Record}
use Rattle.nl_tree.specs.Held.{Held, Holding, Listed}
use Rattle.nl_tree.specs.Numbers.{CountsNumbers}
use Rattle.nl_tree.specs.Steps.{with_held, with_link_moved}

none_is : (h : Option Held) → is_some h ≡ false → h ≡ None
none_is None e = refl
none_is (Some x) e = cc

-- one inode holds something else
pub held_here : (old new : Holding) (k : ℕ) (what : Option Held) → ((i : ℕ) → new i ≡ with_held k what old i)
    → new k ≡ what
held_here old new k what shows = let same : (k == k) ≡ true = eq-eqb k k refl in shows k ∙ rw same refl

pub held_others : (old new : Holding) (k : ℕ) (what : Option Held)
    → ((i : ℕ) → new i ≡ with_held k what old i) →
    (m : ℕ) → (m ≡ k → ⊥) → new m ≡ old m
held_others old new k what shows m ne =
    let other : (m == k) ≡ false = ne_eqb m k ne in shows m ∙ rw other refl

-- an inode that is in use holds something else
pub held_kept : (old new : Holding) (k : ℕ) (was now : Held) → old k ≡ Some was
    → ((i : ℕ) → new i ≡ with_held k (Some now) old i) →
    (m : ℕ) → is_some (new m) ≡ is_some (old m)
held_kept old new k was now is shows m = ap is_some (shows m) ∙ by_test (m == k) refl
  where
    by_test : (t : Bool) → (m == k) ≡ t → is_some (cond t (Some now) (old m)) ≡ is_some (old m)
    by_test true t = sym (ap is_some (ap old (eqb-true m k t) ∙ is))
    by_test false t = refl

-- one inode holds something else, and the records of a directory are others
module _ (old new : Holding) (k dir : ℕ) (what : Option Held) (all after : List Record)
    (there : old dir ≡ Some (Listed all))
    (shows : (i : ℕ) → new i ≡ with_held k what (with_held dir (Some (Listed after)) old) i) where
  pub here : new k ≡ what
  here = let same : (k == k) ≡ true = eq-eqb k k refl in shows k ∙ rw same refl

  pub as_before : (m : ℕ) → (m ≡ k → ⊥) → is_some (new m) ≡ is_some (old m)
  as_before m ne =
      let other : (m == k) ≡ false = ne_eqb m k ne in
      ap is_some (shows m ∙ rw other refl) ∙ by_dir (m == dir) refl
    where
      by_dir : (t : Bool) → (m == dir) ≡ t → is_some (cond t (Some (Listed after)) (old m)) ≡ is_some (old m)
      by_dir true t = sym (ap is_some (ap old (eqb-true m dir t) ∙ there))
      by_dir false t = refl

  module _ (IsFree IsFreeNow : ℕ → Type 0) (freed_new : (m : ℕ) → (m ≡ k → ⊥) → IsFree m → IsFreeNow m) where
    pub filled_others : (m : ℕ) → (m ≡ k → ⊥) → IsSome (old m) ⊎ IsFree m → IsSome (new m) ⊎ IsFreeNow m
    filled_others m ne (inl s) = inl (as_before m ne ∙ s)
    filled_others m ne (inr f) = inr (freed_new m ne f)

    pub beyond_others : (m : ℕ) → (m ≡ k → ⊥) → (base : Option Held)
        → IsFree m ⊎ (is_some (old m) ≡ is_some base) → IsFreeNow m ⊎ (is_some (new m) ≡ is_some base)
    beyond_others m ne base (inl f) = inl (freed_new m ne f)
    beyond_others m ne base (inr same) = inr (as_before m ne ∙ same)

-- the lowest free number is taken
module _ (IsFree IsFreeNow : ℕ → Type 0) (mark now : ℕ) (old new base : Holding)
    (counts : CountsNumbers IsFree mark old base)
    (k dir : ℕ) (held : Held) (all after : List Record) (is : IsLowestFreeInode old 11 k)
    (there : old dir ≡ Some (Listed all))
    (shows : (i : ℕ) → new i ≡ with_held k (Some held) (with_held dir (Some (Listed after)) old) i)
    (freed_old : (m : ℕ) → IsFreeNow m → (m ≡ k → ⊥) × IsFree m)
    (freed_new : (m : ℕ) → (m ≡ k → ⊥) → IsFree m → IsFreeNow m)
    (moved : now ≡ (if nat_le mark k then k + 1 else mark)) where
  marks : (now ≤ 524288) × (mark ≤ now) × (k < now) × ((m : ℕ) → m < now → (m ≡ k → ⊥) → (m < mark) ⊎ (m < k))
  marks = by_test (nat_le mark k) refl
    where
      by_test : (t : Bool) → nat_le mark k ≡ t
          → (now ≤ 524288) × (mark ≤ now) × (k < now)
          × ((m : ℕ) → m < now → (m ≡ k → ⊥) → (m < mark) ⊎ (m < k))
      by_test true t =
          let past : now ≡ k + 1 = moved ∙ rw t refl in
          let below : mark ≤ k = leb-true mark k t in
          let high : k ≤ 524287 = is.last in (
            omega (arith, past, high),
            omega (arith, past, below),
            omega (arith, past),
            λ m h ne. inr (less m h ne past (cases_lt m k)),
          )
        where
          less : (m : ℕ) → m < now → (m ≡ k → ⊥) → now ≡ k + 1 → (m < k) ⊎ (k ≤ m) → m < k
          less m h ne past (inl l) = l
          less m h ne past (inr l) = absurd (ne (omega (arith, h, past, l)))
      by_test false t =
          let stays : now ≡ mark = moved ∙ rw t refl in
          let above : k < mark = leb-false mark k t in
          let last : mark ≤ 524288 = counts.last in (
            omega (arith, stays, last),
            omega (arith, stays),
            omega (arith, stays, above),
            λ m h ne. inl (omega (arith, stays, h)),
          )

  pub counts_taken : CountsNumbers IsFreeNow now new base
  counts_taken = record {
    first =
        let first : 11 ≤ mark = counts.first in let more : mark ≤ now = marks.1 in omega (arith, first, more);
    last = marks.0;
    freed = λ m f.
        let was = freed_old m f in
        let free = counts.freed m was.1 in (
          free.0,
          free.1,
          none_is (new m)
              (as_before old new k dir (Some held) all after there shows m was.0 ∙ ap is_some free.2),
        );
    filled = λ m low below. by_test m low below (m == k) refl;
    beyond = λ m past.
        let ne : m ≡ k → ⊥ = λ e. (let over : k < now = marks.2 in absurd (omega (arith, e, over, past))) in
        beyond_others old new k dir (Some held) all after there shows IsFree IsFreeNow freed_new m ne (base m)
        (counts.beyond m (let more : mark ≤ now = marks.1 in omega (arith, more, past)));
  }
    where
      by_place : (m : ℕ) → 11 ≤ m → (m ≡ k → ⊥) → (m < mark) ⊎ (m < k) → IsSome (new m) ⊎ IsFreeNow m
      by_place m low ne (inl h) =
          filled_others old new k dir (Some held) all after there shows IsFree IsFreeNow freed_new m ne
          (counts.filled m low h)
      by_place m low ne (inr h) =
          inl (as_before old new k dir (Some held) all after there shows m ne ∙ is.lowest m low h)

      by_test : (m : ℕ) → 11 ≤ m → m < now → (t : Bool) → (m == k) ≡ t → IsSome (new m) ⊎ IsFreeNow m
      by_test m low below true t =
          inl (ap is_some (ap new (eqb-true m k t) ∙ here old new k dir (Some held) all after there shows))
      by_test m low below false t = by_place m low (eqb-false m k t) (marks.3 m below (eqb-false m k t))

-- a number is free, and is to be given first
module _ (IsFree IsFreeNow : ℕ → Type 0) (mark : ℕ) (old new base : Holding)
    (counts : CountsNumbers IsFree mark old base)
    (k : ℕ) (low : 11 ≤ k) (high : k ≤ 524287) (gone : new k ≡ None)
    (others : (m : ℕ) → (m ≡ k → ⊥) → is_some (new m) ≡ is_some (old m))
    (freed : IsFreeNow k) (freed_old : (m : ℕ) → (m ≡ k → ⊥) → IsFreeNow m → IsFree m)
    (freed_new : (m : ℕ) → (m ≡ k → ⊥) → IsFree m → IsFreeNow m) where
  pub counts_given : CountsNumbers IsFreeNow mark new base
  counts_given = record {
    first = counts.first;
    last = counts.last;
    freed = λ m f. by_freed m f (m == k) refl;
    filled = λ m low below. by_filled m (counts.filled m low below) (m == k) refl;
    beyond = λ m past. by_beyond m (counts.beyond m past) (m == k) refl;
  }
    where
      by_freed : (m : ℕ) → IsFreeNow m → (t : Bool) → (m == k) ≡ t → (11 ≤ m) × (m ≤ 524287) × (new m ≡ None)
      by_freed m f true t =
          let e = eqb-true m k t in (omega (arith, e, low), omega (arith, e, high), ap new e ∙ gone)
      by_freed m f false t =
          let ne = eqb-false m k t in
          let free = counts.freed m (freed_old m ne f) in
          (free.0, free.1, none_is (new m) (others m ne ∙ ap is_some free.2))

      by_filled : (m : ℕ) → IsSome (old m) ⊎ IsFree m → (t : Bool) → (m == k) ≡ t
          → IsSome (new m) ⊎ IsFreeNow m
      by_filled m h true t = inr (rw (eqb-true m k t) freed)
      by_filled m (inl s) false t = inl (others m (eqb-false m k t) ∙ s)
      by_filled m (inr f) false t = inr (freed_new m (eqb-false m k t) f)

      by_beyond : (m : ℕ) → IsFree m ⊎ (is_some (old m) ≡ is_some (base m)) → (t : Bool) → (m == k) ≡ t
          → IsFreeNow m ⊎ (is_some (new m) ≡ is_some (base m))
      by_beyond m h true t = inl (rw (eqb-true m k t) freed)
      by_beyond m (inl f) false t = inl (freed_new m (eqb-false m k t) f)
      by_beyond m (inr s) false t = inr (others m (eqb-false m k t) ∙ s)

-- the same numbers are in use, and to be given first
pub counts_kept : (IsFree IsFreeNow : ℕ → Type 0) (mark : ℕ) (old new base : Holding)
    → ((m : ℕ) → IsFree m → IsFreeNow m) →
    ((m : ℕ) → IsFreeNow m → IsFree m) → ((m : ℕ) → is_some (new m) ≡ is_some (old m)) →
    CountsNumbers IsFree mark old base → CountsNumbers IsFreeNow mark new base
counts_kept IsFree IsFreeNow mark old new base to from same counts = record {
  first = counts.first;
  last = counts.last;
  freed = λ m f.
      let free = counts.freed m (from m f) in (free.0, free.1, none_is (new m) (same m ∙ ap is_some free.2));
  filled = λ m low below. either m (counts.filled m low below);
  beyond = λ m past. other m (counts.beyond m past);
}
  where
    either : (m : ℕ) → IsSome (old m) ⊎ IsFree m → IsSome (new m) ⊎ IsFreeNow m
    either m (inl s) = inl (same m ∙ s)
    either m (inr f) = inr (to m f)

    other : (m : ℕ) → IsFree m ⊎ (is_some (old m) ≡ is_some (base m))
        → IsFreeNow m ⊎ (is_some (new m) ≡ is_some (base m))
    other m (inl f) = inl (to m f)
    other m (inr s) = inr (same m ∙ s)

-- a record's move keeps which inodes are in use
pub moved_kept : (held : Holding) (from to : ℕ) (all others : List Record) (name : Name) (r : Record) →
    held from ≡ Some (Listed all) → held to ≡ Some (Listed others) →
    (m : ℕ) → is_some (with_link_moved from all name to others r held m) ≡ is_some (held m)
moved_kept held from to all others name r is there m = by_test (m == to) refl (m == from) refl
  where
    by_test : (t : Bool) → (m == to) ≡ t → (f : Bool) → (m == from) ≡ f
        → is_some (with_link_moved from all name to others r held m) ≡ is_some (held m)
    by_test true t f e = rw t (sym (ap is_some (ap held (eqb-true m to t) ∙ there)))
    by_test false t true e = rw (t, e) (sym (ap is_some (ap held (eqb-true m from e) ∙ is)))
    by_test false t false e = rw (t, e) refl

-- ---- entries of the map of free numbers

no_number : ◌≡◌ {A = Option Bool} None (Some true) → ⊥
no_number e = cc

-- one is taken out
pub taken_old : (get now : ℕ → Option Bool) (k : ℕ) → ((m : ℕ) → now m ≡ cond (m == k) None (get m)) →
    (m : ℕ) → now m ≡ Some true → (m ≡ k → ⊥) × (get m ≡ Some true)
taken_old get now k is m f = by_test (m == k) refl
  where
    by_test : (t : Bool) → (m == k) ≡ t → (m ≡ k → ⊥) × (get m ≡ Some true)
    by_test true t = absurd (no_number (ap (λ (c : Bool). cond c None (get m)) (sym t) ∙ sym (is m) ∙ f))
    by_test false t = (eqb-false m k t, ap (λ (c : Bool). cond c None (get m)) (sym t) ∙ sym (is m) ∙ f)

pub taken_new : (get now : ℕ → Option Bool) (k : ℕ) → ((m : ℕ) → now m ≡ cond (m == k) None (get m)) →
    (m : ℕ) → (m ≡ k → ⊥) → get m ≡ Some true → now m ≡ Some true
taken_new get now k is m ne f = let other : (m == k) ≡ false = ne_eqb m k ne in is m ∙ rw other f

-- one is put in, where others stay
pub given_new : (get mid now : ℕ → Option Bool) (k : ℕ)
    → ((m : ℕ) → now m ≡ cond (m == k) (Some true) (mid m)) →
    ((m : ℕ) → (m ≡ k → ⊥) → mid m ≡ get m) → (m : ℕ) → (m ≡ k → ⊥) → now m ≡ get m
given_new get mid now k is rest m ne =
    let other : (m == k) ≡ false = ne_eqb m k ne in is m ∙ rw other (rest m ne)

pub given_here : (mid now : ℕ → Option Bool) (k : ℕ) → ((m : ℕ) → now m ≡ cond (m == k) (Some true) (mid m))
    → now k ≡ Some true
given_here mid now k is = let same : (k == k) ≡ true = eq-eqb k k refl in is k ∙ rw same refl
