use Rattle.std.proofs.Common.{◌≡◌, ℕ, List, [], ◌∷◌, ◌++◌, ap, arith, subst, sym}
use Rattle.nl_commit.specs.MountTables.{AreGiven, MountTable}
use Rattle.nl_commit.specs.declared.mounts.Mounted.{Mounted}
use Rattle.nl_commit.proofs.MountTables.{given-more}
use Rattle.nl_commit.proofs.mounts.Mounts.add.Goals as goal

pub invariant_of-self-2 : goal.invariant_of-self-2
invariant_of-self-2 c =
    let s = c.self.inside in
    let mounts : List Mounted = s.each.items ++ c.args.mount ∷ [] in
    let given : s.given ≡ c.args.self.now.given = ap (λ (t : MountTable). t.given) c.self.view_is in
    let more =
    given-more s.given s.each.items c.args.mount (omega (arith, given, c.requires)) c.self.invariant in
    subst (AreGiven c.get-given.result) (sym c.in_ok-push.ensures.items)
    (subst (λ (n : ℕ). AreGiven n mounts) (sym c.get-given.ensures) more)
