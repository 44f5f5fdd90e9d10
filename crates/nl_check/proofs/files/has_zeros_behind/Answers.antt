use Rattle.nl_types.specs.Blocks.Roots.{page_at}
use Rattle.nl_layout.specs.Root.{root_of}
use Rattle.nl_check.proofs.SoundFiles.{zeros-behind, zeros-here}
use Rattle.nl_check.proofs.files.has_zeros_behind.Goals as goal

pub returns-in-Some : goal.returns-in-Some
returns-in-Some g c =
    let blocks = page_at (g.V.VRead.pages c.args.store.now) (root_of c.args.inode.now.root) in (
      λ t.
          zeros-behind blocks c.args.inode.now.size c.in-Some.page.now c.in-Some.ensures
          (c.has_zeros_from.ensures.0 t),
      λ h.
          c.has_zeros_from.ensures.1
          (zeros-here blocks c.args.inode.now.size c.in-Some.page.now c.in-Some.ensures h),
    )
