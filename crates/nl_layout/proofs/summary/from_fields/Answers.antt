use Rattle.std.proofs.Common.{◌≡◌, ℕ, ◌<◌, ◌≤◌, ◌∙◌, arith, drop, length, length-set, subst, sym, take}
use Rattle.std.proofs.lemmas.List.{take_more_set}
use Rattle.std.proofs.lemmas.List.Elements.{All-push}
use Rattle.nl_layout.specs.declared.tag.Tag.{Tag}
use Rattle.nl_layout.specs.Summary.{HaveLevels, tags_at}
use Rattle.nl_layout.specs.Facts.Reading.{level_at, read_fields, read_tag}
use Rattle.nl_layout.proofs.summary.from_fields.Goals as goal

pub returns-in_err-tags : goal.returns-in_err-tags
returns-in_err-tags c =
    rw c.from_residual.ensures
    (λ levels.
    c.in_err-tags.ensures (level_at c.args.count c.loop-k.k c.args.bytes.now c.loop-k-test.true levels))

pub loop-k-preserved : goal.loop-k-preserved
loop-k-preserved c =
    let within : c.loop-k.k < length c.loop-k.tags = omega (arith, c.loop-k.invariant.room) in
    let level : c.in_ok-tags.field-0.level ≤ 3 =
    subst (λ (tag : Tag). tag.level ≤ 3) (sym c.in_ok-tags.ensures.1) c.in_ok-tags.ensures.0 in
    record {
      read =
          read_tag c.loop-k.tags c.loop-k.k c.args.bytes.now c.in_ok-tags.field-0 within
          c.loop-k.invariant.read c.in_ok-tags.ensures.1;
      levels =
          subst HaveLevels (sym (take_more_set c.loop-k.tags c.loop-k.k c.in_ok-tags.field-0 within))
          (All-push (λ tag. tag.level ≤ 3)
          (take c.loop-k.k c.loop-k.tags) c.in_ok-tags.field-0 c.loop-k.invariant.levels level);
      room = simp length-set c.loop-k.invariant.room;
    }

pub returns : goal.returns
returns c =
    let done : c.loop-k.k ≡ c.args.count = omega (arith, c.loop-k-test.false, c.loop-k.auto.k-end) in
    let read : take c.args.count c.loop-k.tags ≡ tags_at c.args.count (drop 64 c.args.bytes.now) =
    subst
    (λ (k : ℕ). take k c.loop-k.tags ≡ tags_at k (drop 64 c.args.bytes.now)) done c.loop-k.invariant.read in
    let levels : HaveLevels (take c.args.count c.loop-k.tags) =
    subst (λ (k : ℕ). HaveLevels (take k c.loop-k.tags)) done c.loop-k.invariant.levels in (
      subst HaveLevels read levels,
      read_fields c.loop-k.tags c.args.count _ _ c.args.bytes.now read c.read_u64.ensures
          (c.new.ensures ∙ c.read_u64-2.ensures),
    )
