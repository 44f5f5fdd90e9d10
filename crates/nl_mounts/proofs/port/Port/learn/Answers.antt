use Rattle.std.proofs.Common.{rules, sym, ◌∙◌, subst}
use mathlib.Core.List.{IsPrefix}
use Rattle.nl_publish.specs.Histories.{IsBegun, Known}
use Rattle.nl_mounts.specs.Caching.{AreCachedPages}
use Rattle.nl_mounts.proofs.PortPages.{learned_pages}
use Rattle.nl_mounts.proofs.port.Port.learn.Goals as goal

pub invariant_of-self : goal.invariant_of-self
invariant_of-self g c =
    let old = c.self.inside.front in let told = c.args.mount.now.told in
    let begun = subst (λ (k : Known). IsBegun k.commits) c.told.ensures.told c.volume.ensures.begun in
    let prefix =
    subst
    (λ (k : Known). IsPrefix old.commits k.commits) c.told-2.ensures.told c.if-not-covers.ensures.0 in
    let new = c.again.ensures ∙ c.told-then-not-covers.ensures.told in (
      search rules,
      subst (λ (k : Known). AreCachedPages k.commits c.self.inside.cache) (sym new)
          (learned_pages old told c.self.inside.cache begun prefix c.self.invariant.1),
    )
