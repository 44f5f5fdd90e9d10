use Rattle.std.proofs.Common.{◌≡◌, ◌∙◌, ◌++◌, ◌∷◌, [], ℕ, List, zero, suc, get_or, length, arith, ap, refl, ◌+◌}
use Rattle.std.proofs.lemmas.List.{length_push}
use Rattle.nl_blocktree.proofs.slots.make_room.Goals as goal

-- a hole at the end changes no slot
pushed_hole : (slots : List ℕ) (i : ℕ) → get_or (slots ++ 0 ∷ []) i 0 ≡ get_or slots i 0
pushed_hole [] zero = refl
pushed_hole [] (suc i) = refl
pushed_hole (slot ∷ slots) zero = refl
pushed_hole (slot ∷ slots) (suc i) = pushed_hole slots i

pub loop-count-preserved : goal.loop-count-preserved
loop-count-preserved c =
    let slots = c.loop-count.slots.items in
    let added : c.push.new.self.items ≡ slots ++ 0 ∷ [] =
    c.in_ok-push.ensures.items ∙ ap (λ (hole : ℕ). slots ++ hole ∷ []) c.new.ensures in
    let long : length c.push.new.self.items ≡ length slots + 1 = ap length added ∙ length_push slots 0 in
    record {
      same = λ i.
          ap (λ (xs : List ℕ). get_or xs i 0) added ∙ (pushed_hole slots i ∙ c.loop-count.invariant.same i);
      len = long ∙ ap (λ (n : ℕ). n + 1) c.loop-count.invariant.len;
      below = λ n room first. omega (arith, long, c.loop-count.invariant.len);
    }

pub returns-clause-len : goal.returns-clause-len
returns-clause-len c = c.loop-count.invariant.below
