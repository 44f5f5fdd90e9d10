-- The lowest free number.
use Rattle.std.proofs.Common.{◌≡◌, ℕ, ◌<◌, ◌≤◌, ◌⊎◌, inl, inr, arith, Bool, true, false, Option, Some, None, IsSome, refl, ap, ◌∙◌}
use Rattle.std.specs.Prelude.{cond, nat_lt, is_some, MatchOption}
use Rattle.std.proofs.lemmas.Bool.{cases_lt, ltb-true, ltb-false}
use Rattle.nl_types.specs.Inodes.{AreInUseFrom, IsLowestFreeInode}
use Rattle.nl_tree.specs.Held.{Held, Holding}
use Rattle.nl_tree.specs.Numbers.{CountsNumbers, lesser_option}

none_left : (h : Option Held) → is_some h ≡ false → h ≡ None
none_left None e = refl
none_left (Some x) e = cc

module _ (IsFree : ℕ → Type 0) (mark : ℕ) (held b : Holding) (counts : CountsNumbers IsFree mark held b) where
  used_below : (k : ℕ) → ((m : ℕ) → IsFree m → k ≤ m) → AreInUseFrom b mark k → AreInUseFrom held 11 k
  used_below k freed used n low below = by_mark (cases_lt n mark)
    where
      not_freed : IsFree n → IsSome (held n)
      not_freed f = let above : k ≤ n = freed n f in absurd (omega (arith, above, below))

      before : IsSome (held n) ⊎ IsFree n → IsSome (held n)
      before (inl s) = s
      before (inr f) = not_freed f

      behind : mark ≤ n → IsFree n ⊎ (is_some (held n) ≡ is_some (b n)) → IsSome (held n)
      behind h (inl f) = not_freed f
      behind h (inr same) = same ∙ used n h below

      by_mark : (n < mark) ⊎ (mark ≤ n) → IsSome (held n)
      by_mark (inl h) = before (counts.filled n low h)
      by_mark (inr h) = behind h (counts.beyond n h)

  free_here : (m : ℕ) → IsLowestFreeInode b mark m → held m ≡ None
  free_here m is = by_mark (counts.beyond m is.first)
    where
      by_mark : IsFree m ⊎ (is_some (held m) ≡ is_some (b m)) → held m ≡ None
      by_mark (inl f) = (counts.freed m f).2
      by_mark (inr same) = none_left (held m) (same ∙ ap is_some is.free)

  from_mark : (m : ℕ) → IsLowestFreeInode b mark m → ((n : ℕ) → IsFree n → m ≤ n)
      → IsLowestFreeInode held 11 m
  from_mark m is freed = record {
    first =
        let first : 11 ≤ mark = counts.first in let low : mark ≤ m = is.first in omega (arith, first, low);
    last = is.last;
    free = free_here m is;
    lowest = used_below m freed is.lowest;
  }

  from_freed : (n : ℕ) → IsFree n → ((m : ℕ) → IsFree m → n ≤ m) → AreInUseFrom b mark n
      → IsLowestFreeInode held 11 n
  from_freed n f least used = let is = counts.freed n f in record {
    first = is.0;
    last = is.1;
    free = is.2;
    lowest = used_below n least used;
  }

  -- the first number that is freed, where it lies below the mark
  pub freed_below : (n : ℕ) → IsFree n → ((m : ℕ) → IsFree m → n ≤ m) → n < mark → IsLowestFreeInode held 11 n
  freed_below n f least below = from_freed n f least (λ k low high. absurd (omega (arith, below, low, high)))

  pub free_is : (first next : Option ℕ)
      → MatchOption first ((n : ℕ) → IsFree n → ⊥) (λ n. IsFree n × ((m : ℕ) → IsFree m → n ≤ m)) →
      MatchOption next (AreInUseFrom b mark 524288) (IsLowestFreeInode b mark) →
      MatchOption (lesser_option first next) (AreInUseFrom held 11 524288) (IsLowestFreeInode held 11)
  free_is None None none used = used_below 524288 (λ m f. absurd (none m f)) used
  free_is None (Some m) none is = from_mark m is (λ n f. absurd (none n f))
  free_is (Some n) None first used =
      from_freed n first.0 first.1
      (λ k low below.
      used k low (let most : n ≤ 524287 = (counts.freed n first.0).1 in omega (arith, most, below)))
  free_is (Some n) (Some m) first is = by_test (nat_lt m n) refl
    where
      by_test : (t : Bool) → nat_lt m n ≡ t → IsLowestFreeInode held 11 (cond t m n)
      by_test true t =
          let less : m < n = ltb-true m n t in
          from_mark m is (λ k f. let least : n ≤ k = first.1 k f in omega (arith, less, least))
      by_test false t =
          let most : n ≤ m = ltb-false m n t in
          from_freed n first.0 first.1 (λ k low below. is.lowest k low (omega (arith, most, below)))
