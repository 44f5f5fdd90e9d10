-- What is judged of files.
use Rattle.std.proofs.Common.{◌≡◌, ℕ, ◌+◌, ◌*◌, ◌/◌, ◌%◌, ◌<◌, ◌≤◌, List, slice_index, Option, Some, None, ap, sym, ◌∙◌, inl, inr, arith}
use Rattle.std.proofs.lemmas.Bool.{cases_lt}
use Rattle.nl_types.specs.Blocks.Roots.{Blocks, Pages, Root, page_at}
use Rattle.nl_tree.specs.Contents.{byte_in}
use Rattle.nl_tree.specs.Held.{byte_stored}
use Rattle.nl_check.specs.Private.SoundFiles.{IsSoundFile}
use Rattle.nl_check.specs.Private.SoundInodes.{IsMeasured}

-- the bytes behind the end are zero, in the block of the end
abbrev pub HasZerosBehind : Blocks → ℕ → Type 0
HasZerosBehind blocks size = (k : ℕ) → size ≤ k → k / 1024 ≡ size / 1024 → byte_stored blocks k ≡ 0

pub zeros-behind : (blocks : Blocks) (size : ℕ) (page : List ℕ) → Some page ≡ blocks (size / 1024)
    → ((k : ℕ) → size % 1024 ≤ k → k < 1024 → slice_index page k ≡ 0) → HasZerosBehind blocks size
zeros-behind blocks size page is h k low same =
    ap (λ (q : ℕ). byte_in (blocks q) (k % 1024)) same
    ∙ (ap (λ (o : Option (List ℕ)). byte_in o (k % 1024)) (sym is)
    ∙ h (k % 1024) (omega (arith, low, same)) (omega arith))

pub zeros-here : (blocks : Blocks) (size : ℕ) (page : List ℕ) → Some page ≡ blocks (size / 1024)
    → HasZerosBehind blocks size → (k : ℕ) → size % 1024 ≤ k → k < 1024 → slice_index page k ≡ 0
zeros-here blocks size page is h k low small =
    let at : ℕ = 1024 * (size / 1024) + k in
    let block : (1024 * (size / 1024) + k) / 1024 ≡ size / 1024 = omega (arith, small) in
    let place : (1024 * (size / 1024) + k) % 1024 ≡ k = omega (arith, small) in
    let here : byte_stored blocks (1024 * (size / 1024) + k) ≡ 0 =
    h (1024 * (size / 1024) + k) (omega (arith, low)) block in
    sym (ap (λ (q : ℕ). byte_in (blocks q) ((1024 * (size / 1024) + k) % 1024)) block
    ∙ (ap (λ (o : Option (List ℕ)). byte_in o ((1024 * (size / 1024) + k) % 1024)) (sym is)
    ∙ ap (slice_index page) place))
    ∙ here

module _ (pages : Pages) (root : Root) (count size : ℕ) (m : IsMeasured pages root count)
    (blocks : ℕ) (enough : size ≤ 1024 * blocks) (least : 1024 * blocks < size + 1024) where
  pub sound-file : size ≤ 67108864 → count ≤ blocks → HasZerosBehind (page_at pages root) size
      → IsSoundFile (page_at pages root) size
  sound-file most few zeros = record { most = most; none_past = past; zeros = behind }
    where
      past : (b : ℕ) → size ≤ 1024 * b → page_at pages root b ≡ None
      past b high = m.sized.none_past b (let same = m.sized.is in omega (arith, same, few, least, high))

      behind : (k : ℕ) → size ≤ k → byte_stored (page_at pages root) k ≡ 0
      behind k low = elim (cases_lt (size / 1024) (k / 1024)) [
        | inl later ↦
            ap (λ (o : Option (List ℕ)). byte_in o (k % 1024)) (past (k / 1024) (omega (arith, later)))
        | inr same ↦ zeros k low (omega (arith, low, same))
      ]
