-- Bytes of an open file, read part by part.
use Rattle.std.proofs.Common.{◌≡◌, ℕ, zero, suc, ◌+◌, ◌-◌, ◌<◌, ◌≤◌, min, List, [], ◌∷◌, ◌++◌, length, take, drop, None, Result, Ok, Err, inl, inr, refl, ap, sym, ◌∙◌, subst, arith, append_assoc}
use Rattle.std.proofs.lemmas.List.{drop-drop, drop_at, length-drop, length-take, take-append-drop, take_at}
use borrow.Rule.Slice.PartMut.{put_mid}
use Rattle.std.specs.Prelude.{IfOk}
use Rattle.nl_types.specs.declared.error.VolError.{VolError}
use Rattle.nl_types.specs.Plain.Trees.{Tree}
use Rattle.nl_commit.specs.Commits.{shown_after}
use Rattle.nl_publish.specs.Mounts.{Claim}
use Rattle.nl_publish.specs.Told.{TreeOn}
use Rattle.nl_publish.specs.Histories.{Known}
use Rattle.nl_publish.specs.FactsOfLanes.Later.{later_on}
use Rattle.nl_publish.specs.Reading.{IsLater, Told}
use Rattle.nl_mounts.specs.OpenFiles.{ArePartsRead, HasReadMore, IsFileRead, IsPartRefused, IsReadUpTo, bytes_at}
use Rattle.nl_mounts.specs.Ports.{IsNotRead}

take_both : (xs : List ℕ) (a b : ℕ) → take a xs ++ take b (drop a xs) ≡ take (a + b) xs
take_both xs zero b = let same : b ≡ 0 + b = omega arith in ap (λ (n : ℕ). take n xs) same
take_both [] (suc a) zero = let same : suc a ≡ suc a + 0 = omega arith in ap (λ (n : ℕ). take n []) same
take_both [] (suc a) (suc b) =
    let same : suc (a + suc b) ≡ suc a + suc b = omega arith in ap (λ (n : ℕ). take n []) same
take_both (x ∷ xs) (suc a) b =
    let same : suc (a + b) ≡ suc a + b = omega arith in
    ap (λ (l : List ℕ). x ∷ l) (take_both xs a b) ∙ ap (λ (n : ℕ). take n (x ∷ xs)) same

-- the rest of a part, and what is behind it
drop_part : (xs : List ℕ) (c n : ℕ) → c ≤ n → drop c (take n xs) ++ drop n xs ≡ drop c xs
drop_part xs zero n low = take-append-drop n xs
drop_part xs (suc c) zero low = absurd (omega (arith, low))
drop_part [] (suc c) (suc n) low = refl
drop_part (x ∷ xs) (suc c) (suc n) low = drop_part xs c n (omega (arith, low))

module _ (bytes was into part : List ℕ) (offset count len more : ℕ) where
  abbrev rest : List ℕ
  rest = drop offset bytes

  module _ (within : count ≤ length bytes - offset) (front : into ≡ take count rest ++ drop count was)
      (room : count + len ≤ length into)
      (all : more ≡ min (length (take len (drop count into))) (length bytes - (offset + count)))
      (read : part ≡ take more (drop (offset + count) bytes) ++ drop more (take len (drop count into))) where
    long : length (take count rest) ≡ count
    long = omega (arith, within, length-take count rest, length-drop offset bytes)

    taken : take count into ≡ take count rest
    taken = ap (take count) front ∙ take_at (take count rest) (drop count was) count long

    dropped : drop count into ≡ drop count was
    dropped = ap (drop count) front ∙ drop_at (take count rest) (drop count was) count long

    asked : length (take len (drop count into)) ≡ len
    asked = omega (arith, room, length-take len (drop count into), length-drop count into)

    few : more ≤ len
    few = omega (arith, all, asked)

    -- the part, and what is behind it
    behind : part ++ drop len (drop count into) ≡ take more (drop count rest) ++ drop (count + more) was
    behind =
        ap (λ (l : List ℕ). l ++ drop len (drop count into)) read
        ∙ (append_assoc (take more (drop (offset + count) bytes)) (drop more (take len (drop count into)))
        (drop len (drop count into))
        ∙ (ap (λ (l : List ℕ). take more l ++ (drop more (take len (drop count into)) ++ drop len (drop count into)))
        (sym (drop-drop count offset bytes))
        ∙ ap (λ (l : List ℕ). take more (drop count rest) ++ l)
        (drop_part (drop count into) more len few
        ∙ (ap (drop more) dropped ∙ drop-drop more count was))))

    joined : put_mid count len into part ≡ take (count + more) rest ++ drop (count + more) was
    joined =
        ap (λ (l : List ℕ). l ++ (part ++ drop len (drop count into))) taken
        ∙ (ap (λ (l : List ℕ). take count rest ++ l) behind
        ∙ (sym (append_assoc (take count rest) (take more (drop count rest)) (drop (count + more) was))
        ∙ ap (λ (l : List ℕ). l ++ drop (count + more) was) (take_both rest count more)))

    grown : count + more ≤ length bytes - offset
    grown = omega (arith, within, all)

    pub all_more : more ≡ min len (length bytes - (offset + count))
    all_more = omega (arith, all, asked)

pub more_parts : (t : Tree) (path : List ℕ) (offset : ℕ) (was : List ℕ) (count len more : ℕ)
    (into part : List ℕ)
    → IsReadUpTo t path offset was count into → count + len ≤ length into
    → IsFileRead t path (offset + count) (take len (drop count into)) (Ok more) part
    → HasReadMore t path offset was count len more (put_mid count len into part)
more_parts t path offset was count len more into part before room read =
    let same : read.count ≡ more = cc (read.answer) in
    let one : read.bytes ≡ before.bytes = let f = read.file in let g = before.file in cc (f, g) in
    let all : more ≡ min (length (take len (drop count into))) (length before.bytes - (offset + count)) =
    subst (λ (b : List ℕ). more ≡ min (length (take len (drop count into))) (length b - (offset + count))) one
    (sym same ∙ read.all) in
    let is : part ≡ take more (drop (offset + count) before.bytes) ++ drop more (take len (drop count into)) =
    subst (λ (b : List ℕ). part ≡ take more (drop (offset + count) b) ++ drop more (take len (drop count into)))
    one
    (subst (λ (n : ℕ).
    part ≡ take n (drop (offset + count) read.bytes) ++ drop n (take len (drop count into))) same read.front) in
    record {
      reads = record {
        bytes = before.bytes;
        file = before.file;
        within = grown before.bytes was into part offset count len more before.within before.front room all is;
        front = joined before.bytes was into part offset count len more before.within before.front room all is;
      };
      all = all_more before.bytes was into part offset count len more before.within before.front room all is;
    }

-- ---- the loop

pub none_read : (t : Tree) (path : List ℕ) (offset : ℕ) (was : List ℕ)
    → (bytes : List ℕ) × (bytes_at t path ≡ Ok bytes) → IsReadUpTo t path offset was 0 was
none_read t path offset was found =
    record { bytes = found.0; file = found.1; within = omega arith; front = refl }

-- what was read of the file, where it was read at all
pub was_read : (m : Claim) (t : Tree) (path : List ℕ) (offset more : ℕ) (was now : List ℕ)
    → Told m (IsNotRead (Ok more) was now) (λ t. IsFileRead t path offset was (Ok more) now)
    → TreeOn (shown_after m.told.commits) m.checkpoint t
    → IsFileRead t path offset was (Ok more) now
was_read m t path offset more was now told on = elim (told t on) [
  | inl none ↦ absurd (cc none.refused)
  | inr read ↦ read
]

-- all parts were read up to the end of the file
pub at_end : (t : Tree) (path : List ℕ) (offset : ℕ) (was : List ℕ) (count len more : ℕ) (now : List ℕ)
    → HasReadMore t path offset was count len more now → more < len → count + len ≤ length was
    → ArePartsRead t path offset was (record { count = count + more; refusal = None }) now
at_end t path offset was count len more now read short room =
    let all = read.all in let within = read.reads.within in
    record { reads = read.reads; all = omega (arith, all, short, room, within) }

-- and up to the end of the slice
pub at_room : (t : Tree) (path : List ℕ) (offset : ℕ) (was : List ℕ) (count : ℕ) (now : List ℕ)
    → IsReadUpTo t path offset was count now → count ≡ length was
    → ArePartsRead t path offset was (record { count = count; refusal = None }) now
at_room t path offset was count now read full =
    let within = read.within in record { reads = read; all = omega (arith, full, within) }

-- one part more, where it was read at all
pub part_more : (m : Claim) (path : List ℕ) (offset count len k : ℕ) (into part : List ℕ)
    (result : Result ℕ VolError)
    → k ≡ len → count + len ≤ length into
    → Told m (IsNotRead result (take k (drop count into)) part)
    (λ t. IsFileRead t path (offset + count) (take k (drop count into)) result part)
    → IfOk result (λ more. (t : Tree) (was : List ℕ) → TreeOn (shown_after m.told.commits) m.checkpoint t
    → IsReadUpTo t path offset was count into
    → HasReadMore t path offset was count len more (put_mid count k into part))
part_more m path offset count len k into part (Err e) same room told = tt
part_more m path offset count len k into part (Ok more) same room told = λ t was on before.
    let read = was_read m t path (offset + count) more (take k (drop count into)) part told on in
    subst (λ (n : ℕ). HasReadMore t path offset was count n more (put_mid count k into part)) same
    (more_parts t path offset was count k more into part before (omega (arith, same, room)) read)

-- a part that is refused behind others
pub part_on : (m : Claim) (old mid new : Known) (Ungiven : Known → Type 0) (e : VolError) → IsLater old mid
    → IsPartRefused m mid new Ungiven e → IsPartRefused m old new Ungiven e
part_on m old mid new Ungiven e later refused = record {
  is = refused.is;
  seen = refused.seen;
  later = later_on old mid refused.seen later refused.later;
  stands = refused.stands;
  unmounted = refused.unmounted;
  why = refused.why;
}
