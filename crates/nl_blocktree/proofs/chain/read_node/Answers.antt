use Rattle.std.proofs.Common.{◌≡◌, ◌∙◌, ◌+◌, ◌<◌, ◌++◌, ◌∷◌, [], ℕ, List, Option, Some, inl, inr, length, get_or, arith, ap}
use Rattle.std.proofs.lemmas.Bool.{cases_lt}
use Rattle.std.proofs.lemmas.List.{get_or_append_left, get_or_push, length_push}
use Rattle.std.specs.Option.{option_and_then}
use Rattle.nl_types.specs.Blocks.Roots.{child, slot}
use Rattle.nl_blocktree.specs.Private.Chains.{raw}
use Rattle.nl_blocktree.proofs.chain.read_node.Goals as goal

-- one slot more is added behind the others
module _ (first now after : List ℕ) (at x : ℕ) (added : after ≡ now ++ x ∷ [])
    (len : length now ≡ length first + at) where
  longer : length after ≡ length first + (at + 1)
  longer = let count = ap length added in let more = length_push now x in omega (arith, len, count, more)

  same_below : ((i : ℕ) → i < length first → get_or now i 0 ≡ get_or first i 0) → (i : ℕ)
      → i < length first → get_or after i 0 ≡ get_or first i 0
  same_below same i l =
      ap (λ (xs : List ℕ). get_or xs i 0) added
      ∙ (get_or_append_left now (x ∷ []) 0 i (omega (arith, len, l)) ∙ same i l)

  more_named : (named : ℕ → ℕ) → x ≡ named at
      → ((s : ℕ) → s < at → get_or now (length first + s) 0 ≡ named s) → (s : ℕ) → s < at + 1
      → get_or after (length first + s) 0 ≡ named s
  more_named named here before s l =
      ap (λ (xs : List ℕ). get_or xs (length first + s) 0) added ∙ elim (cases_lt s at) [
        | inl b ↦ get_or_append_left now (x ∷ []) 0 (length first + s) (omega (arith, len, b)) ∙ before s b
        | inr a ↦
            let same : at ≡ s = omega (arith, a, l) in
            get_or_push now x 0 (length first + s) (len ∙ ap (λ (n : ℕ). length first + n) same)
            ∙ (here ∙ ap named same)
      ]

pub loop-at-preserved : goal.loop-at-preserved
loop-at-preserved g c =
    let pages = g.V.VRead.pages c.args.store.now in
    let first = c.args.slots.now.items in
    let now = c.loop-at.slots.items in
    let at = c.loop-at.at in
    let x = c.number_in.result in
    let after = c.push.new.self.items in
    let added = c.in_ok-push.ensures.items in
    let len = c.loop-at.invariant.len in
    let here : x ≡ raw (child pages at (Some c.args.node)) =
    c.number_in.ensures
    ∙ ap raw (c.slot_of.ensures
    ∙ ap (λ (o : Option (List ℕ)). option_and_then (λ bytes. slot at bytes) o) c.page-page.ensures) in
    record {
      len = longer first now after at x added len;
      kept = same_below first now after at x added len c.loop-at.invariant.kept;
      added =
          more_named first now after at x added len (λ s. raw (child pages s (Some c.args.node))) here
          c.loop-at.invariant.added;
    }
