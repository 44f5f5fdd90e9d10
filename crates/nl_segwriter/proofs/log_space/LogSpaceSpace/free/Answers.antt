use Rattle.std.proofs.Common.{◌≡◌, ℕ, ◌*◌, length, List, Option, ap, sym, ◌∙◌, subst}
use Rattle.std.proofs.lemmas.List.{length-set}
use Rattle.nl_types.specs.declared.geometry.Geometry.{Geometry}
use Rattle.nl_types.specs.Blocks.Segments.{HaveLogs, Segments, clean_info, with_clean}
use Rattle.nl_vstore.specs.Content.{SpaceContent, Payload, HoldsOnlyUsed, IsEmptied, IsFreed}
use Rattle.nl_vstore.specs.Logs.{AreWholeLogs}
use Rattle.nl_segwriter.specs.Writing.{space_content, held_in}
use Rattle.nl_segwriter.specs.Facts.WholeLogs.{whole_with_clean, logs_with_clean, held_with_clean, is_freed, cleared}
use Rattle.nl_segwriter.proofs.log_space.LogSpaceSpace.free.Goals as goal

pub invariant_of-self : goal.invariant_of-self
invariant_of-self g c =
    let s : Segments = c.args.self.now.table in
    let k : ℕ = c.args.segment in
    let table : List (Option Payload) = c.drop_row.new.table in
    let stored = g.D.Device.pages c.clear.new.self in
    let old : SpaceContent =
    space_content s c.args.self.now.payload (g.D.Device.pages c.args.self.now.device) in
    let is : c.mark_clean.new.self ≡ with_clean s k = c.mark_clean.ensures.clean in
    let shape : g.D.Device.shape c.args.self.now.device ≡ g.D.Device.shape c.clear.new.self =
    sym c.clear.ensures.shape in
    let held : IsEmptied (k * s.blocks) s.blocks old.held (held_in table) =
    rw (c.get.ensures, c.blocks-blocks.ensures.blocks) at c.drop_row.ensures.emptied in
    let pages : IsEmptied (k * s.blocks) s.blocks old.stored stored =
    cleared k s.blocks _ old.stored stored c.args.self.now.segment_size c.clear.ensures.cleared in
    let freed : IsFreed k old (space_content (with_clean s k) table stored) =
    is_freed old k (held_in table) stored c.args.self.now.limits.tidy c.requires held pages in
    record {
      segment_size =
          ap (λ (t : Segments). t.blocks) is ∙ c.args.self.now.segment_size
          ∙ ap (λ (x : Geometry). x.blocks) shape;
      segment_count =
          ap (λ (t : Segments). length t.each) is ∙ length-set s.each k clean_info
          ∙ c.args.self.now.segment_count ∙ ap (λ (x : Geometry). x.segments) shape;
      limits = c.mark_clean.ensures.limits;
      sized =
          c.drop_row.ensures.size ∙ c.args.self.now.sized
          ∙ ap (λ (x : Geometry). x.segments * x.blocks) shape;
      unheld =
          subst (λ (t : Segments). HoldsOnlyUsed (space_content t table stored)) (sym is)
          (held_with_clean old k
          (held_in table) stored c.args.self.now.limits.tidy c.args.self.now.unheld held);
      logged = subst HaveLogs (sym is) (logs_with_clean s k c.requires c.args.self.now.logged);
      whole =
          subst (λ (t : Segments). AreWholeLogs (space_content t table stored)) (sym is)
          (whole_with_clean old k (held_in table) stored c.requires c.args.self.now.whole freed.used_stay);
    }

pub returns-clause-freed : goal.returns-clause-freed
returns-clause-freed g c =
    let s : Segments = c.args.self.now.table in
    let k : ℕ = c.args.segment in
    let table : List (Option Payload) = c.drop_row.new.table in
    let stored = g.D.Device.pages c.clear.new.self in
    let old : SpaceContent =
    space_content s c.args.self.now.payload (g.D.Device.pages c.args.self.now.device) in
    let held : IsEmptied (k * s.blocks) s.blocks old.held (held_in table) =
    rw (c.get.ensures, c.blocks-blocks.ensures.blocks) at c.drop_row.ensures.emptied in
    let pages : IsEmptied (k * s.blocks) s.blocks old.stored stored =
    cleared k s.blocks _ old.stored stored c.args.self.now.segment_size c.clear.ensures.cleared in
    subst (λ (t : Segments). IsFreed k old (space_content t table stored)) (sym c.mark_clean.ensures.clean)
    (is_freed old k (held_in table) stored c.args.self.now.limits.tidy c.requires held pages)
