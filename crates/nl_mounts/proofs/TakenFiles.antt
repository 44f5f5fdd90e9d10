-- Bytes of an open file, copied of pages that were taken out of a state.
use Rattle.std.proofs.Common.{◌≡◌, inl, inr, ℕ, ◌+◌, ◌-◌, ◌/◌, ◌*◌, ◌<◌, ◌≤◌, min, List, [], ◌∷◌, ◌++◌, length, take, drop, Option, None, Some, Result, Ok, Err, refl, ap, sym, ◌∙◌, subst, arith, get_or}
use Rattle.std.specs.Prelude.{◌%◌, IfErr, IfOk, IfSome, map, slice_index}
use Rattle.std.specs.List.{range_with_len}
use Rattle.std.specs.Result.{result_ok}
use Rattle.std.proofs.lemmas.List.{length-take, length-drop}
use Rattle.std.proofs.lemmas.List.FromFn.{get_or-map-range_with_len, length-map-range_with_len, map-range_with_len_more}
use Rattle.nl_types.specs.declared.error.VolError.{VolError}
use Rattle.nl_types.specs.declared.error.VolError.TheVariants.{BadMount}
use Rattle.nl_types.specs.Plain.Calls.{and_then}
use Rattle.nl_types.specs.Blocks.Roots.{Blocks, Pages}
use Rattle.nl_types.specs.Plain.Trees.{Tree}
use Rattle.nl_tree.specs.Contents.{byte_in}
use Rattle.nl_tree.specs.Held.{Holding, byte_stored, bytes_stored, held_block, held_size}
use Rattle.nl_tree.specs.Reading.{AreBytesFrom, HoldingMeans, as_file, link_at}
use Rattle.nl_tree.specs.Facts.ReadingCalls.{are_bytes_from, read_file}
use Rattle.nl_publish.specs.Histories.{Known}
use Rattle.nl_publish.specs.Mounts.{Claim}
use Rattle.nl_publish.specs.Reading.{IsLater, Told}
use Rattle.nl_mounts.specs.declared.looks.MountedTree.{MountedTree}
use Rattle.nl_mounts.specs.OpenFiles.{HasTaken, IsFileRead, IsPartRefused, IsTakenOf, bytes_at}
use Rattle.nl_mounts.specs.Ports.{IsNotRead, IsOfTree}
use Rattle.nl_mounts.specs.Taking.{AreTaken, TakenView, blocks_of}
use Rattle.nl_mounts.proofs.FileParts.{part_on}
use Rattle.nl_mounts.proofs.OpenFiles.{read_is, take_less}

-- ---- what pages have

pub one_page_more : (blocks : Blocks) (first index : ℕ) (were now : List (Option (List ℕ)))
    (page : Option (List ℕ))
    → first ≤ index → now ≡ were ++ page ∷ [] → were ≡ map blocks (range_with_len first (index - first))
    → page ≡ blocks index
    → now ≡ map blocks (range_with_len first (index + 1 - first))
one_page_more blocks first index were now page begun added so_far is =
    let more : index + 1 - first ≡ (index - first) + 1 = omega (arith, begun) in
    let at : map blocks (range_with_len first ((index - first) + 1))
    ≡ map blocks (range_with_len first (index - first)) ++ blocks index ∷ [] =
    map-range_with_len_more blocks first (index - first) index (omega (arith, begun)) in
    added
    ∙ (ap (λ (l : List (Option (List ℕ))). l ++ page ∷ []) so_far
    ∙ (ap (λ (p : Option (List ℕ)). map blocks (range_with_len first (index - first)) ++ p ∷ []) is
    ∙ sym (ap (λ (n : ℕ). map blocks (range_with_len first n)) more ∙ at)))

-- a byte of the pages is that of the file
module _ (blocks : Blocks) (offset : ℕ) (taken : TakenView) (start_is : taken.start ≡ offset % 1024)
    (cover : taken.start + taken.count ≤ 1024 * length taken.pages)
    (pages : taken.pages ≡ map blocks (range_with_len (offset / 1024) (length taken.pages))) where
  pub byte_is : (k : ℕ) → k < taken.count
      → byte_stored (blocks_of taken.pages) (taken.start + k) ≡ byte_stored blocks (offset + k)
  byte_is k low =
      let b = (taken.start + k) / 1024 in
      let inside : b < length taken.pages = omega (arith, cover, low) in
      let block : offset / 1024 + b ≡ (offset + k) / 1024 = omega (arith, start_is) in
      let place : (taken.start + k) % 1024 ≡ (offset + k) % 1024 = omega (arith, start_is) in
      let at : get_or taken.pages b None ≡ blocks ((offset + k) / 1024) =
      ap (λ (ps : List (Option (List ℕ))). get_or ps b None) pages
      ∙ get_or-map-range_with_len blocks (offset / 1024) (length taken.pages) b ((offset + k) / 1024) None inside
      block in
      ap (λ (p : Option (List ℕ)). byte_in p ((taken.start + k) % 1024)) at
      ∙ ap (λ (n : ℕ). byte_in (blocks ((offset + k) / 1024)) n) place

pub file_taken : (held : Holding) (t : Tree) → HoldingMeans held t
    → (path : List ℕ) (i offset len : ℕ) (taken : TakenView) → Ok i ≡ and_then (link_at held path) as_file
    → AreTaken (held i) offset len taken
    → HasTaken t path offset len taken
file_taken held t means path i offset len taken link are = record {
  bytes = bytes;
  file = file;
  all = all;
  copied = λ part long copied.
      let is = some part (long ∙ are.all) (λ k low.
      copied k low ∙ byte_is (held_block (held i)) offset taken are.start are.cover are.pages k
      (omega (arith, low, long))) in
      let one : is.0 ≡ bytes = let f = is.1 in cc (f, file) in
      is.2 ∙ (ap (λ (b : List ℕ). take len (drop offset b)) one
      ∙ take_less len (drop offset bytes) taken.count (omega (arith, all, length-drop offset bytes)));
}
  where
    some : (part : List ℕ) → length part ≡ min len (held_size (held i) - offset)
        → ((k : ℕ) → k < length part → slice_index part k ≡ byte_stored (held_block (held i)) (offset + k))
        → (bytes : List ℕ) × (bytes_at t path ≡ Ok bytes) × (part ≡ take len (drop offset bytes))
    some part long copied =
        read_is t path offset len part (read_file held t means offset len path i part link
        (are_bytes_from (held i) offset len part long copied))

    stored : List ℕ
    stored = take len (drop offset (bytes_stored (held_block (held i)) (held_size (held i))))

    first : (bytes : List ℕ) × (bytes_at t path ≡ Ok bytes) × (stored ≡ take len (drop offset bytes))
    first = read_is t path offset len stored (read_file held t means offset len path i stored link refl)

    bytes : List ℕ
    bytes = first.0

    file : bytes_at t path ≡ Ok bytes
    file = first.1

    all : taken.count ≡ min len (length bytes - offset)
    all =
        omega (
          arith,
          are.all,
          ap (λ (l : List ℕ). length l) first.2,
          length-take len (drop offset bytes),
          length-drop offset bytes,
          length-take len (drop offset (bytes_stored (held_block (held i)) (held_size (held i)))),
          length-drop offset (bytes_stored (held_block (held i)) (held_size (held i))),
          length-map-range_with_len (byte_stored (held_block (held i))) 0 (held_size (held i)),
        )

-- or a page couldn't be shared
pub taken_if : {E : Type 0} (held : Holding) (t : Tree) → HoldingMeans held t
    → (path : List ℕ) (i offset len : ℕ) (found : Result TakenView E) (result : Option TakenView)
    → result ≡ result_ok found → Ok i ≡ and_then (link_at held path) as_file
    → IfOk found (AreTaken (held i) offset len)
    → IsTakenOf t path offset len (Ok result)
taken_if held t means path i offset len (Ok taken) result is link are =
    subst (λ (o : Option TakenView). IsTakenOf t path offset len (Ok o)) (sym is)
    (file_taken held t means path i offset len taken link are)
taken_if held t means path i offset len (Err e) result is link are =
    subst (λ (o : Option TakenView). IsTakenOf t path offset len (Ok o)) (sym is) tt

-- ---- what is copied

pub read_taken : (t : Tree) (path : List ℕ) (offset : ℕ) (was : List ℕ) (taken : TakenView) (part : List ℕ)
    → HasTaken t path offset (length was) taken → length part ≡ taken.count
    → AreBytesFrom (blocks_of taken.pages) taken.start part
    → IsFileRead t path offset was (Ok taken.count) (part ++ drop taken.count was)
read_taken t path offset was taken part has long are = record {
  bytes = has.bytes;
  file = has.file;
  count = taken.count;
  answer = refl;
  all = has.all;
  front = ap (λ (l : List ℕ). l ++ drop taken.count was) (has.copied part long are);
}

-- it is told as the pages were
pub told_taken : {R : Type 0} (m : Claim) (path : List ℕ) (offset : ℕ) (was : List ℕ)
    (found : Option TakenView) (taken : TakenView) (part : List ℕ)
    → Told m R (λ t. IsTakenOf t path offset (length was) (Ok found)) → (R → ⊥) → found ≡ Some taken
    → length part ≡ taken.count → AreBytesFrom (blocks_of taken.pages) taken.start part
    → Told m (IsNotRead (Ok taken.count) was (part ++ drop taken.count was))
    (λ t. IsFileRead t path offset was (Ok taken.count) (part ++ drop taken.count was))
told_taken m path offset was found taken part told not is long are = λ t on. elim (told t on) [
  | inl none ↦ absurd (not none)
  | inr has ↦
      inr (read_taken t path offset was taken part
      (subst (λ (o : Option TakenView). IfSome o (HasTaken t path offset (length was))) is has) long are)
]

-- ---- what is refused

as_bad : {A : Type 0} (result : Result A VolError) (e : VolError) → result ≡ Err e → result ≡ Err BadMount
    → e ≡ BadMount
as_bad result e is bad = cc (is, bad)

pub not_taken : {A : Type 0} (pages : Pages) (tree : Option MountedTree) (result : Result A VolError)
    (Answers : Tree → Type 0)
    → IsOfTree pages tree (result ≡ Err BadMount) Answers → (IfErr result (λ e. tree ≡ None))
    → IfErr result (λ e. e ≡ BadMount)
not_taken pages tree (Ok a) Answers taken none = tt
not_taken {A} pages tree (Err e) Answers taken none =
    as_bad (Err e) e refl (untold (Err e) none taken)
  where
    untold : (result : Result A VolError) → tree ≡ None
        → IsOfTree pages tree (result ≡ Err BadMount) Answers → result ≡ Err BadMount
    untold result none taken =
        subst (λ (o : Option MountedTree). IsOfTree pages o (result ≡ Err BadMount) Answers) none taken

pub refused_on : (m : Claim) (old mid new : Known) (Ungiven : Known → Type 0) (result : Result ℕ VolError)
    → IsLater old mid → IfErr result (IsPartRefused m mid new Ungiven)
    → IfErr result (IsPartRefused m old new Ungiven)
refused_on m old mid new Ungiven (Ok count) later refused = tt
refused_on m old mid new Ungiven (Err e) later refused = part_on m old mid new Ungiven e later refused
