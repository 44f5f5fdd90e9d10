use Rattle.std.proofs.Common.{◌≡◌, ◌<◌, ◌-◌, ℕ, List, Some, length, take, get_or, arith, sym, ap, subst, ◌∙◌}
use Rattle.std.specs.List.{slice_get}
use Rattle.std.proofs.lemmas.List.{length-take}
use Rattle.std.proofs.lemmas.Option.{slice_get_within}
use Rattle.nl_blocktree.proofs.Kept.{trimmed}
use Rattle.nl_blocktree.proofs.slots.trim.Goals as goal

pub loop-last-preserved : goal.loop-last-preserved
loop-last-preserved c =
    let xs = c.loop-last.slots.items in
    let last : Some c.in-Some.last.now ≡ slice_get xs (length xs - 1) =
    subst (λ (ys : List ℕ). Some c.in-Some.last.now ≡ slice_get ys (length ys - 1)) c.deref.ensures.value
    c.in-Some.ensures.value in
    let within : length xs - 1 < length xs =
    slice_get_within xs (length xs - 1) c.in-Some.last.now (sym last) in
    let rest : c.pop.new.self.items ≡ take (length xs - 1) xs =
    c.pop.ensures.rest ∙ ap (λ (n : ℕ). take (n - 1) xs) c.loop-last.slots.ok.0 in
    let short = c.loop-last.invariant.shorter in
    record {
      same = λ i.
          ap (λ (ys : List ℕ). get_or ys i 0) rest
          ∙ (trimmed xs (length xs - 1) c.in-Some.last.now (omega arith) last
          (sym c.get.ensures ∙ c.if-get-ne0.false) i
          ∙ c.loop-last.invariant.same i);
      shorter = omega (arith, ap length rest, length-take (length xs - 1) xs);
    }
