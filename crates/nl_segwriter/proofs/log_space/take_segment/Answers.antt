use Rattle.std.proofs.Common.{◌≡◌, ℕ, ◌∙◌, Some, ap, length, subst, rules, Option}
use Rattle.std.proofs.lemmas.List.{length-set}
use Rattle.std.specs.Option.{IfSome}
use Rattle.nl_types.specs.Blocks.Segments.{Segments, lowest_clean, none_active, with_active}
use Rattle.nl_types.specs.Facts.SegmentChanges.{length-none_active}
use Rattle.nl_segwriter.proofs.TakenSegment.{active_again, error_again, active_or_lowest, lowest_has}
use Rattle.nl_segwriter.proofs.log_space.take_segment.Goals as goal

-- the table after the lowest clean segment was taken
taken_is : (old new : Segments) (result : Option ℕ) (segment : ℕ) → result ≡ lowest_clean old
    → lowest_clean old ≡ Some segment → IfSome result (λ k. new ≡ with_active old k 0 0)
    → new ≡ with_active old segment 0 0
taken_is old new result segment a b taken =
    subst (λ (o : Option ℕ). IfSome o (λ k. new ≡ with_active old k 0 0)) (a ∙ b) taken

pub returns-then-ne : goal.returns-then-ne
returns-then-ne c =
    let s : Segments = c.args.table.now in
    let k : ℕ = c.args.start.segment in
    let lowest : lowest_clean s ≡ Some k = active_or_lowest s c.args.start c.requires.limits.tidy
    (λ e. let h = rw (c.active_place.ensures, e) at (c.if-ne.ensures) in absurd (search rules))
    c.requires.place in
    let taken =
    taken_is s c.take_clean.new.self c.take_clean.result k c.take_clean.ensures.lowest lowest
    c.take_clean.ensures.taken in
    record {
      logged = λ stamp used. rw taken (active_again s k 0 0 stamp used);
      failed =
          rw taken (error_again s k c.requires.limits.tidy (lowest_has s k c.requires.limits.tidy lowest));
      blocks = ap (λ (t : Segments). t.blocks) taken;
      count =
          ap (λ (t : Segments). length t.each) taken ∙ length-set (none_active s.each) k _
          ∙ length-none_active s.each;
    }
