-- Pages that are put one behind the other into a file's blocks, and what a write makes of these.
use Rattle.std.proofs.Common.{◌≡◌, ◌==◌, ℕ, zero, suc, ◌+◌, ◌-◌, ◌*◌, ◌/◌, ◌<◌, ◌≤◌, ◌⊎◌, Bool, cond, List, [], ◌∷◌, ◌++◌, length, get_or, true, false, Option, Some, None, refl, sym, ap, ◌∙◌, subst, inl, inr, arith}
use Rattle.std.specs.Prelude.{◌||◌, ◌%◌, is_some, max}
use Rattle.std.specs.List.{slice_get}
use Rattle.std.proofs.lemmas.Bool.{and_from, and_left, and_right, cases_lt, cond-false, cond-true, eq-eqb, le-ltb, lt-ltb, ne_eqb}
use Rattle.std.proofs.Math.Seq.{get_or-append_seam}
use Rattle.std.proofs.lemmas.List.{get_or_append_left, length-append}
use Rattle.std.proofs.lemmas.Option.{get_or_from_slice_get, slice_get-get_or, slice_get_within}
use Rattle.nl_types.specs.Blocks.Roots.{Blocks}
use Rattle.nl_tree.specs.Contents.{byte_in}
use Rattle.nl_tree.specs.Held.{byte_stored, IsFileHeld}
use Rattle.nl_tree.specs.Bytes.{ArePagesWritten, IsPageWritten, Overwrites, byte_written, end_of_blocks, is_touched}
use Rattle.nl_tree.specs.Private.Pages.{put_from}
use Rattle.nl_tree.specs.Facts.PageBytes.{touches, written_above, written_below}
use Rattle.nl_tree.proofs.StoredBytes.{overwrites-end}

-- ---- pages, by index

pub put-before : (pages : List (List ℕ)) (first : ℕ) (blocks : Blocks) (b : ℕ) → b < first
    → put_from first pages blocks b ≡ blocks b
put-before [] first blocks b low = refl
put-before (page ∷ pages) first blocks b low =
    put-before pages (first + 1) (λ c. cond (c == first) (Some page) (blocks c)) b (omega arith)
    ∙ cond-false (b == first) (Some page) (blocks b) (ne_eqb b first (λ e. omega (arith, e)))

pub put-behind : (pages : List (List ℕ)) (first : ℕ) (blocks : Blocks) (b : ℕ) → first + length pages ≤ b
    → put_from first pages blocks b ≡ blocks b
put-behind [] first blocks b high = refl
put-behind (page ∷ pages) first blocks b high =
    put-behind pages (first + 1) (λ c. cond (c == first) (Some page) (blocks c)) b (omega arith)
    ∙ cond-false (b == first) (Some page) (blocks b) (ne_eqb b first (λ e. omega (arith, e)))

pub put-at : (pages : List (List ℕ)) (first : ℕ) (blocks : Blocks) (k : ℕ) (page : List ℕ)
    → slice_get pages k ≡ Some page → put_from first pages blocks (first + k) ≡ Some page
put-at [] first blocks k page e = absurd cc
put-at (x ∷ pages) first blocks zero page e =
    put-before pages (first + 1) (λ c. cond (c == first) (Some x) (blocks c)) (first + 0) (omega arith)
    ∙ cond-true (first + 0 == first) (Some x) (blocks (first + 0)) (eq-eqb (first + 0) first (omega arith))
    ∙ e
put-at (x ∷ pages) first blocks (suc k) page e =
    let same : first + suc k ≡ first + 1 + k = omega arith in
    ap (put_from (first + 1) pages (λ c. cond (c == first) (Some x) (blocks c))) same
    ∙ put-at pages (first + 1) (λ c. cond (c == first) (Some x) (blocks c)) k page e

-- what a block is once pages are put: as it was, before and behind them, or the page at its place
pub data BlockPut (first : ℕ) (pages : List (List ℕ)) (old new : Option (List ℕ)) (b : ℕ) : Type 0 where
  kept : (b < first) ⊎ (first + length pages ≤ b) → new ≡ old → BlockPut first pages old new b
  put : (k : ℕ) (page : List ℕ) → slice_get pages k ≡ Some page → first + k ≡ b → new ≡ Some page
      → BlockPut first pages old new b

pub block-put : (first : ℕ) (pages : List (List ℕ)) (blocks : Blocks) (b : ℕ)
    → BlockPut first pages (blocks b) (put_from first pages blocks b) b
block-put first pages blocks b = by_place (cases_lt b first)
  where
    by_end : first ≤ b → (b < first + length pages) ⊎ (first + length pages ≤ b)
        → BlockPut first pages (blocks b) (put_from first pages blocks b) b
    by_end from (inl within) =
        let same : first + (b - first) ≡ b = omega arith in
        let there = slice_get-get_or pages (b - first) [] (omega arith) in
        put (b - first) (get_or pages (b - first) []) there same
        (ap (put_from first pages blocks) (sym same)
        ∙ put-at pages first blocks (b - first) (get_or pages (b - first) []) there)
    by_end from (inr high) = kept (inr high) (put-behind pages first blocks b high)

    by_place : (b < first) ⊎ (first ≤ b) → BlockPut first pages (blocks b) (put_from first pages blocks b) b
    by_place (inl low) = kept (inl low) (put-before pages first blocks b low)
    by_place (inr from) = by_end from (cases_lt b (first + length pages))

-- ---- a write

-- the page of one block more
pub pages_written-more : (blocks : Blocks) (first offset : ℕ) (bytes : List ℕ) (pages : List (List ℕ))
    (page : List ℕ)
    → ArePagesWritten blocks first offset bytes pages
    → IsPageWritten (blocks (first + length pages)) (1024 * (first + length pages)) offset bytes page
    → ArePagesWritten blocks first offset bytes (pages ++ page ∷ [])
pages_written-more blocks first offset bytes pages page are is k one e = by_place (cases_lt k (length pages))
  where
    here : get_or (pages ++ page ∷ []) k [] ≡ one
    here = get_or_from_slice_get (pages ++ page ∷ []) k one [] e

    by_place : (k < length pages) ⊎ (length pages ≤ k)
        → IsPageWritten (blocks (first + k)) (1024 * (first + k)) offset bytes one
    by_place (inl low) =
        are k one (slice_get-get_or pages k [] low
        ∙ ap (λ (p : List ℕ). Some p) (sym (get_or_append_left pages (page ∷ []) [] k low) ∙ here))
    by_place (inr high) =
        let last : length pages ≡ k =
        omega
        (arith, high, length-append pages (page ∷ []), slice_get_within (pages ++ page ∷ []) k one e) in
        let same : page ≡ one =
        sym (get_or-append_seam pages page [] [])
        ∙ (ap (λ (n : ℕ). get_or (pages ++ page ∷ []) n []) last ∙ here) in
        subst (λ (n : ℕ). IsPageWritten (blocks (first + n)) (1024 * (first + n)) offset bytes one) last
        (subst (λ (p : List ℕ).
        IsPageWritten (blocks (first + length pages)) (1024 * (first + length pages)) offset bytes p)
        same is)

end_is : (offset n : ℕ) → 0 < n → end_of_blocks offset n ≡ (offset + n - 1) / 1024 + 1
end_is offset zero more = absurd (omega (arith, more))
end_is offset (suc n) more =
    let same : offset + n ≡ offset + suc n - 1 = omega arith in ap (λ (m : ℕ). m / 1024 + 1) same

-- what a block is once bytes are written: as it was where none of them lies in it, or a page with those that
-- do
pub data BlockWritten (offset : ℕ) (bytes : List ℕ) (old new : Option (List ℕ)) (b : ℕ) : Type 0 where
  untouched : (1024 * b + 1024 ≤ offset) ⊎ (offset + length bytes ≤ 1024 * b) → new ≡ old
      → BlockWritten offset bytes old new b
  touched : (page : List ℕ) → (offset < 1024 * b + 1024) × (1024 * b < offset + length bytes)
      → new ≡ Some page → IsPageWritten old (1024 * b) offset bytes page
      → BlockWritten offset bytes old new b

is_touched-inside : (offset count b : ℕ) → (offset < 1024 * b + 1024) × (1024 * b < offset + count)
    → is_touched offset count b ≡ true
is_touched-inside offset count b (low, high) =
    and_from _ _ (lt-ltb offset (1024 * b + 1024) low) (lt-ltb (1024 * b) (offset + count) high)

is_touched-outside : (offset count b : ℕ) → (1024 * b + 1024 ≤ offset) ⊎ (offset + count ≤ 1024 * b)
    → is_touched offset count b ≡ false
is_touched-outside offset count b (inl below) = and_left _ _ (le-ltb offset (1024 * b + 1024) below)
is_touched-outside offset count b (inr above) = and_right _ _ (le-ltb (1024 * b) (offset + count) above)

module _ (blocks : Blocks) (offset : ℕ) (bytes : List ℕ) (pages : List (List ℕ)) (more : 0 < length bytes)
    (count : offset / 1024 + length pages ≡ end_of_blocks offset (length bytes))
    (written : ArePagesWritten blocks (offset / 1024) offset bytes pages) where
  abbrev now : Blocks
  now = put_from (offset / 1024) pages blocks

  block-written : (b : ℕ) → BlockWritten offset bytes (blocks b) (now b) b
  block-written b = by_place (block-put (offset / 1024) pages blocks b)
    where
      by_place : BlockPut (offset / 1024) pages (blocks b) (now b) b
          → BlockWritten offset bytes (blocks b) (now b) b
      by_place (kept (inl low) e) = untouched (inl (omega (arith, low))) e
      by_place (kept (inr high) e) =
          untouched (inr (omega (arith, high, count, end_is offset (length bytes) more))) e
      by_place (put k page there same e) =
          touched page (touches offset (length bytes) b (omega (arith, same))
          (omega (arith, same, count, slice_get_within pages k page there)))
          e
          (subst (λ (c : ℕ). IsPageWritten (blocks c) (1024 * c) offset bytes page) same
          (written k page there))

  stored_by : (b : ℕ) → BlockWritten offset bytes (blocks b) (now b) b
      → is_some (now b) ≡ (is_touched offset (length bytes) b || is_some (blocks b))
  stored_by b (untouched outside e) =
      ap (λ (o : Option (List ℕ)). is_some o) e
      ∙ sym (ap (λ (t : Bool). t || is_some (blocks b)) (is_touched-outside offset (length bytes) b outside))
  stored_by b (touched page inside e is) =
      ap (λ (o : Option (List ℕ)). is_some o) e
      ∙ sym (ap (λ (t : Bool). t || is_some (blocks b)) (is_touched-inside offset (length bytes) b inside))

  byte_by : (k : ℕ) → BlockWritten offset bytes (blocks (k / 1024)) (now (k / 1024)) (k / 1024)
      → byte_stored now k ≡ byte_written bytes offset k (byte_stored blocks k)
  byte_by k (untouched (inl below) e) =
      ap (λ (o : Option (List ℕ)). byte_in o (k % 1024)) e
      ∙ sym (written_below bytes offset k (byte_stored blocks k) (omega (arith, below)))
  byte_by k (untouched (inr above) e) =
      ap (λ (o : Option (List ℕ)). byte_in o (k % 1024)) e
      ∙ sym (written_above bytes offset k (byte_stored blocks k) (omega (arith, above)))
  byte_by k (touched page inside e is) =
      let same : 1024 * (k / 1024) + k % 1024 ≡ k = omega arith in
      ap (λ (o : Option (List ℕ)). byte_in o (k % 1024)) e
      ∙ is.bytes_at (k % 1024) (omega arith)
      ∙ ap (λ (n : ℕ). byte_written bytes offset n (byte_stored blocks k)) same

  pub put-overwrites : Overwrites blocks now offset bytes
  put-overwrites = record {
    stored = λ b. stored_by b (block-written b);
    bytes_at = λ k. byte_by k (block-written (k / 1024));
  }

  pub put-held : (size : ℕ) → IsFileHeld size blocks → offset + length bytes ≤ 67108864
      → IsFileHeld (max size (offset + length bytes)) now
  put-held size is fits = record {
    small = omega (arith, is.small, fits);
    none_past = λ b past. none b past (block-written b);
    zeros = overwrites-end blocks now size offset bytes is.zeros put-overwrites;
    whole = λ b page e. whole_by b page e (block-written b);
  }
    where
      none : (b : ℕ) → max size (offset + length bytes) ≤ 1024 * b
          → BlockWritten offset bytes (blocks b) (now b) b → now b ≡ None
      none b past (untouched outside e) = e ∙ is.none_past b (omega (arith, past))
      none b past (touched page inside e w) = absurd (omega (arith, past, inside.1))

      whole_by : (b : ℕ) (page : List ℕ) → now b ≡ Some page → BlockWritten offset bytes (blocks b) (now b) b
          → length page ≡ 1024
      whole_by b page e (untouched outside same) = is.whole b page (sym same ∙ e)
      whole_by b page e (touched made inside same w) =
          let one : made ≡ page = cc (sym same ∙ e) in ap length (sym one) ∙ w.whole
