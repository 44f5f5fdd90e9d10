use Rattle.std.proofs.Common.{ap, ◌≡◌, ℕ, sym, ◌∙◌, subst, Ok}
use Rattle.nl_commit.specs.Commits.{shown_after}
use Rattle.nl_commit.specs.declared.commit.Commit.TheVariants as commit
use Rattle.nl_publish.specs.Histories.{EndsWith, Known}
use Rattle.nl_publish.specs.Locks.{MountReply, MountRan}
use Rattle.nl_publish.specs.Mounts.{Claim}
use Rattle.nl_publish.specs.Told.{ShowsCopy}
use Rattle.nl_publish.proofs.Copies.{shows_copy}
use Rattle.nl_publish.proofs.Running.{has_mounted}
use Rattle.nl_publish.proofs.locked.Locked.mount.Goals as goal

pub returns-in-Ok-clause-ran : goal.returns-in-Ok-clause-ran
returns-in-Ok-clause-ran g c =
    let same : c.new.result.number ≡ c.in-Ok.number = ap (λ (m : Claim). m.number) c.new.ensures in
    subst (λ (r : MountReply). MountRan c.args.self.now c.args.checkpoint r c.publish_mount.new.self)
    (c.in-Ok.is ∙ ap (λ (n : ℕ). Ok n) (sym same)) c.publish_mount.ensures

pub new-requires : goal.new-requires
new-requires g c =
    let mounted =
    has_mounted c.args.self.now c.publish_mount.new.self c.args.checkpoint c.in-Ok.number
    c.publish_mount.result c.in-Ok.is c.publish_mount.ensures in
    subst (λ (k : Known).
    EndsWith k.commits
    (commit.Mounted (record { number = c.in-Ok.number; checkpoint = c.args.checkpoint })))
    (sym c.told.ensures) mounted.ends

pub returns-in-Ok-clause-copy : goal.returns-in-Ok-clause-copy
returns-in-Ok-clause-copy g c w means =
    let mounted =
    has_mounted c.args.self.now c.publish_mount.new.self c.args.checkpoint c.in-Ok.number
    c.publish_mount.result c.in-Ok.is c.publish_mount.ensures in
    let here =
    shows_copy c.publish_mount.new.self c.in-Ok.number c.args.checkpoint w c.is_told.ensures mounted
    means in
    subst (λ (m : Claim). ShowsCopy (shown_after m.told.commits) m.checkpoint w) (sym c.new.ensures)
    (subst (λ (k : Known). ShowsCopy (shown_after k.commits) c.args.checkpoint w) (sym c.told.ensures) here)
