use Rattle.std.proofs.Common.{◌≡◌, ◌∙◌, ◌<◌, ◌+◌, arith}
use Rattle.std.proofs.lemmas.Result.{IfOk-weaker}
use Rattle.nl_types.specs.Blocks.Roots.{pages_of}
use Rattle.nl_layout.specs.Root.{root_of}
use Rattle.nl_vstore.specs.Stores.{content_in}
use Rattle.nl_blocktree.specs.Private.Edits.{top_edits}
use Rattle.nl_blocktree.specs.Private.TreeLevels.{kept_levels}
use Rattle.nl_blocktree.proofs.TreeAbove.{know_same}
use Rattle.nl_blocktree.proofs.TreeClimbing.{at_top, climb_up, small_of, told_ascends, told_narrow, told_some, told_told}
use Rattle.nl_blocktree.proofs.Kept.{goes_on-more}
use Rattle.nl_blocktree.proofs.levels.+climb.Goals as goal

pub returns-then-below-height-clause-ok : goal.returns-then-below-height-clause-ok
returns-then-below-height-clause-ok g t c =
    at_top c.args.below c.args.height c.index-edits-0.result c.requires.edits.kept.sound c.requires.climb.one
    c.requires.climb.whole c.if-below-height.true c.requires.edits.some c.requires.edits.ascending c.requires.climb.narrow

pub put_level-requires-clause-small : goal.put_level-requires-clause-small
put_level-requires-clause-small g t c =
    small_of c.args.below c.args.height c.args.edits.now c.requires.climb.high c.requires.climb.narrow

pub put_level-requires-clause-told : goal.put_level-requires-clause-told
put_level-requires-clause-told g t c = λ h. c.requires.climb.told h (omega arith)

pub climb-requires : goal.climb-requires
climb-requires g t c κs within =
    let pages = pages_of (content_in (g.V.Vstore.store c.args.file.now.store.now)) in
    let root = root_of c.args.file.now.root in
    let now : c.deref.result.now ≡ c.in_ok-told.told.items = c.deref.ensures.value in
    let ups = c.in_ok-told.ensures.ok in
    let is : c.deref.result.now ≡ top_edits root (c.args.below + 1) c.args.height ups.0 = now ∙ ups.1 in
    let low : c.args.below < c.args.height = omega arith in (
      omega (arith, c.decreases),
      (
        within,
        (
          record {
            fits = c.in_ok-told.ensures.fits;
            kept = c.requires.edits.kept;
            some =
                told_some root (c.args.below + 1) c.args.height c.deref.result.now ups.2
                c.requires.edits.some is;
            ascending = told_ascends root (c.args.below + 1) c.args.height c.deref.result.now ups.2 is;
            above = know_same (kept_levels pages root) (c.args.below + 1) now c.in_ok-told.ensures.above;
          },
          record {
            low = omega arith;
            one = c.requires.climb.one;
            high = c.requires.climb.high;
            whole = c.requires.climb.whole;
            narrow =
                told_narrow root c.args.below c.args.height c.deref.result.now ups.2 low
                c.requires.climb.narrow is;
            told = told_told pages root c.args.below c.args.height ups.0 c.deref.result.now is;
          },
        ),
      ),
    )

pub returns-clause-ok : goal.returns-clause-ok
returns-clause-ok g t c =
    let now : c.deref.result.now ≡ c.in_ok-told.told.items = c.deref.ensures.value in
    let ups = c.in_ok-told.ensures.ok in
    let is : c.deref.result.now ≡ top_edits (root_of c.args.file.now.root) (c.args.below + 1) c.args.height ups.0 =
    now ∙ ups.1 in
    let low : c.args.below < c.args.height = omega arith in
    IfOk-weaker c.climb.result _ _
    (λ top on.
    climb_up c.args.below c.args.height top c.deref.result.now c.requires.edits.kept.sound low c.requires.climb.told
    ups.2 is on)
    c.climb.ensures.ok

pub returns-clause-kept : goal.returns-clause-kept
returns-clause-kept g t c =
    goes_on-more c.args.batch.now c.put_level.new.batch c.climb.new.batch c.in_ok-told.ensures.kept
    c.climb.ensures.kept
