use Rattle.std.proofs.Common.{◌≡◌, ℕ, eqb, false, ◌+◌, ◌<◌, ◌≤◌, ◌∙◌, List, [], ◌∷◌, ◌++◌, arith, ap, sym, subst, length, take}
use Rattle.std.proofs.lemmas.Bool.{eqb-false, eqb-true, leb-false}
use Rattle.std.proofs.lemmas.List.{take_all, take_more}
use Rattle.nl_dirs.specs.declared.packing.Filling.{Filling}
use Rattle.nl_dirs.specs.declared.record.Record.{Record}
use Rattle.nl_dirs.specs.Records.{RecordHasSpelling, size_of}
use Rattle.nl_dirs.specs.Packing.{IsFilled, Packs}
use Rattle.nl_dirs.proofs.Packings.{IsPackedSoFar, so_far-added, so_far-begun, so_far-closed, so_far-ends, so_far-ends_with, so_far-same}
use Rattle.nl_dirs.proofs.packing.pack.Goals as goal
use Rattle.nl_dirs.proofs.packing.pack.Goals.{else-not-has_room, else-not-is_empty, then-not-has_room+in_ok-push, then-not-is_empty+in_ok-push-2}

pub loop-record-init : goal.loop-record-init
loop-record-init c =
    rw c.new-blocks.ensures.items
    (so_far-begun c.new-filling.result.bytes c.new-filling.result.used c.new-filling.ensures)

pub loop-record-preserved : goal.loop-record-preserved
loop-record-preserved c =
    let within : c.loop-record.record-index < length c.args.records.now = omega arith in
    let more : take (c.loop-record.record-index + 1) c.args.records.now
    ≡ take c.loop-record.record-index c.args.records.now ++ c.record-item.result ∷ [] =
    take_more c.args.records.now c.loop-record.record-index c.record-item.result within
    ∙ ap (λ (r : Record). take c.loop-record.record-index c.args.records.now ++ r ∷ [])
    (sym c.record-item.is) in
    let fits : RecordHasSpelling c.record-item.result =
    subst RecordHasSpelling (sym c.record-item.is)
    (c.requires c.loop-record.record-index c.record-item.result within) in
    let most : length c.record-item.result.name ≤ 255 = fits.most in
    elim c.if-not-has_room.branch [
      | then-not-has_room+in_ok-push w ↦
          let full : 1024 < c.loop-record.filling.used + size_of c.record-item.result =
          leb-false _ _ (sym c.has_room.ensures ∙ w.if-not-has_room.true) in
          let add =
          subst (λ (f : Filling).
          (rs : List Record) → IsFilled f.bytes f.used rs
          → IsFilled c.add.new.self.bytes c.add.new.self.used (rs ++ c.record-item.result ∷ []))
          w.filling-is c.add.ensures in
          let pushed =
          ap (λ b. b.items) w.blocks-is
          ∙ (w.in_ok-push.ensures.items
          ∙ ap (λ page. c.loop-record.blocks.items ++ page ∷ []) w.take.ensures.block) in
          so_far-same _ _ _ _ _ _ more pushed
          (so_far-closed _ _ _ w.take.new.self.bytes _ _ w.take.new.self.used _ c.record-item.result
          c.loop-record.invariant full
          (omega arith) w.take.ensures.empty add)
      | else-not-has_room w ↦
          let add =
          subst (λ (f : Filling).
          (rs : List Record) → IsFilled f.bytes f.used rs
          → IsFilled c.add.new.self.bytes c.add.new.self.used (rs ++ c.record-item.result ∷ []))
          w.filling-is c.add.ensures in
          so_far-same _ _ _ _ _ _ more (ap (λ b. b.items) w.blocks-is)
          (so_far-added _ _ _ _ _ _ c.record-item.result c.loop-record.invariant add)
    ]

-- what isn't 0 is above it
positive : (n : ℕ) → eqb n 0 ≡ false → 0 < n
positive n h = omega (arith, eqb-false n 0 h)

pub returns-clause-ok : goal.returns-clause-ok
returns-clause-ok c =
    let whole : take c.loop-record.record-index c.args.records.now ≡ c.args.records.now =
    take_all c.loop-record.record-index c.args.records.now (omega arith) in
    let so_far =
    subst (λ (rs : List Record).
    IsPackedSoFar rs c.loop-record.blocks.items c.loop-record.filling.bytes c.loop-record.filling.used)
    whole c.loop-record.invariant in
    elim c.if-not-is_empty.branch [
      | then-not-is_empty+in_ok-push-2 w ↦
          let some : 0 < c.loop-record.filling.used =
          positive c.loop-record.filling.used (sym c.is_empty.ensures ∙ w.if-not-is_empty.true) in
          let pushed =
          ap (λ b. b.items) w.blocks-is
          ∙ (w.in_ok-push-2.ensures.items
          ∙ ap
          (λ page. c.loop-record.blocks.items ++ page ∷ []) w.take-then-not-is_empty.ensures.block) in
          subst (λ blocks. Packs c.args.records.now blocks) (sym pushed)
          (so_far-ends_with _ _ _ _ so_far some)
      | else-not-is_empty w ↦
          let none : c.loop-record.filling.used ≡ 0 =
          eqb-true _ _ (sym c.is_empty.ensures ∙ w.if-not-is_empty.false) in
          subst (λ blocks. Packs c.args.records.now blocks) (sym (ap (λ b. b.items) w.blocks-is))
          (so_far-ends _ _ _ _ so_far none)
    ]
