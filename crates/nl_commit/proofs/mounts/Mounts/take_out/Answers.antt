use Rattle.std.proofs.Common.{List, ap, ◌∙◌, rules, subst, sym}
use Rattle.std.specs.List.{filter}
use Rattle.std.proofs.lemmas.Fn.{filter_same}
use Rattle.nl_commit.specs.MountTables.{AreGiven, MountTable}
use Rattle.nl_commit.specs.Volume.{is_other_mount}
use Rattle.nl_commit.specs.declared.mounts.Mounted.{Mounted}
use Rattle.nl_commit.proofs.MountTables.{given-without}
use Rattle.nl_commit.proofs.mounts.Mounts.take_out.Goals as goal

pub invariant_of-self : goal.invariant_of-self
invariant_of-self c =
    let s = c.self.inside in
    let left =
    filter_same _ (is_other_mount c.args.number) _
    (λ x b f' k. search rules) _ _ c.retain.ensures.filtered in
    subst (AreGiven s.given) (sym left) (given-without s.given c.args.number s.each.items c.self.invariant)

pub returns : goal.returns
returns c =
    let other = is_other_mount c.args.number in
    let left = filter_same _ other _ (λ x b f' k. search rules) _ _ c.retain.ensures.filtered in
    ap (λ (mounts : List Mounted).
    (let t : MountTable = record { mounts = mounts; given = c.self.inside.given } in t))
    left
    ∙ ap (λ (t : MountTable). (let u : MountTable = record t { mounts = filter other t.mounts } in u))
    c.self.view_is
