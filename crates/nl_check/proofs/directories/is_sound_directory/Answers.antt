use Rattle.std.proofs.Common.{◌≡◌, ◌∙◌, ◌*◌, ℕ, sym, subst, arith}
use Rattle.std.specs.Prelude.{IfSome, MatchOption}
use Rattle.nl_types.specs.Blocks.Roots.{page_at}
use Rattle.nl_layout.specs.Root.{root_of}
use Rattle.nl_dirs.specs.Listings.{HoldsRecords}
use Rattle.nl_check.specs.Private.SoundFiles.{AreSoundRecords}
use Rattle.nl_check.proofs.directories.is_sound_directory.Goals as goal

pub returns-in-Some-clause-is : goal.returns-in-Some-clause-is
returns-in-Some-clause-is g c =
    let blocks = page_at (g.V.VRead.pages c.args.store.now) (root_of c.args.inode.now.root) in
    let size : c.args.inode.now.size ≡ 1024 * c.args.count =
    omega (arith, c.if-inode-ne0.false, c.if-inode-count.false) in
    let holds : HoldsRecords blocks (1024 * c.args.count) c.in-Some.all.items =
    subst (λ o. IfSome o (λ list. HoldsRecords blocks (1024 * c.args.count) list.items)) c.in-Some.is
    c.in_ok-all.ensures.found in (
      λ t. record {
        records = c.in-Some.all.items;
        holds = subst (λ (s : ℕ). HoldsRecords blocks s c.in-Some.all.items) (sym size) holds;
        sound = subst AreSoundRecords c.as_slice.ensures.value (c.are_sound_records.ensures.0 t);
      },
      λ d.
          let same : c.in-Some.all.items ≡ d.records =
          subst (λ o. MatchOption o ⊥ (λ records. records.items ≡ d.records)) c.in-Some.is
          (c.in_ok-all.ensures.only d.records
          (subst (λ (s : ℕ). HoldsRecords blocks s d.records) size d.holds)) in
          c.are_sound_records.ensures.1
          (subst AreSoundRecords (sym (c.as_slice.ensures.value ∙ same)) d.sound),
    )

pub returns-in-None-clause-is : goal.returns-in-None-clause-is
returns-in-None-clause-is g c =
    let blocks = page_at (g.V.VRead.pages c.args.store.now) (root_of c.args.inode.now.root) in
    let size : c.args.inode.now.size ≡ 1024 * c.args.count =
    omega (arith, c.if-inode-ne0.false, c.if-inode-count.false) in (
      λ t. cc,
      λ d. absurd (subst (λ o. MatchOption o ⊥ (λ records. records.items ≡ d.records)) c.in-None.is
          (c.in_ok-all.ensures.only d.records
          (subst (λ (s : ℕ). HoldsRecords blocks s d.records) size d.holds))),
    )
