use Rattle.std.proofs.Common.{◌≡◌, ◌∙◌, sym, true, false, inl, inr, ℕ, List, Option, Some, ap}
use Rattle.nl_blocktree.proofs.TreeHeights.{last_is}
use Rattle.nl_blocktree.proofs.height.lone_child.Goals as goal

pub returns-else-is_last_birth-clause-lone : goal.returns-else-is_last_birth-clause-lone
returns-else-is_last_birth-clause-lone g c = λ page at n r. elim at [
  | inl t ↦
      let told = c.is_last_birth.ensures.1 (t.3, last_is _ t.0 t.1 _ t.2 t.4) in
      let not : c.is_last_birth.result ≡ false = c.if-is_last_birth.false in
      absurd (let clash : true ≡ false = sym told ∙ not in cc)
  | inr t ↦ c.only_first-else-is_last_birth.ensures.lone page n (c.page.ensures ∙ t.1) r
]

pub returns-else-is_last_birth-clause-more : goal.returns-else-is_last_birth-clause-more
returns-else-is_last_birth-clause-more g c = λ page at r. elim at [
  | inl t ↦
      let told = c.is_last_birth.ensures.1 (t.3, last_is _ t.0 t.1 _ t.2 t.4) in
      let not : c.is_last_birth.result ≡ false = c.if-is_last_birth.false in
      absurd (let clash : true ≡ false = sym told ∙ not in cc)
  | inr t ↦ c.only_first-else-is_last_birth.ensures.more page (c.page.ensures ∙ t.1) r
]

pub returns-then-is_last_birth-clause-lone : goal.returns-then-is_last_birth-clause-lone
returns-then-is_last_birth-clause-lone g c = λ page at n r. elim at [
  | inl t ↦
      c.only_first.ensures.lone page n
      (c.last_page.ensures t.0 t.1 t.2 ∙ ap (λ (x : List ℕ). let o : Option (List ℕ) = Some x in o) t.5) r
  | inr t ↦ absurd (t.0 (c.is_last_birth.ensures.0 c.if-is_last_birth.true))
]

pub returns-then-is_last_birth-clause-more : goal.returns-then-is_last_birth-clause-more
returns-then-is_last_birth-clause-more g c = λ page at r. elim at [
  | inl t ↦
      c.only_first.ensures.more page
      (c.last_page.ensures t.0 t.1 t.2 ∙ ap (λ (x : List ℕ). let o : Option (List ℕ) = Some x in o) t.5) r
  | inr t ↦ absurd (t.0 (c.is_last_birth.ensures.0 c.if-is_last_birth.true))
]
