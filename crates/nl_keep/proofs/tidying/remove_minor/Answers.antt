use Rattle.std.proofs.Common.{◌≡◌, ℕ, ◌-◌, List, length, take, ap, subst, ◌∙◌}
use Rattle.std.proofs.lemmas.Result.{IfErr-weaker, on_ok_weaker}
use Rattle.nl_types.specs.declared.row.Row.{Row}
use Rattle.nl_keep.specs.Forgotten.{TellsFrom}
use Rattle.nl_keep.specs.MinorOnes.{TakesOutAll, minor_ones}
use Rattle.nl_keep.specs.Volumes.{LeadsTo}
use Rattle.nl_keep.specs.Private.Refused.{RefusesMinorOnes}
use Rattle.nl_keep.proofs.ForgetRefusals.{minor_stays}
use Rattle.nl_keep.proofs.MinorRemovals.{removes_minor}
use Rattle.nl_keep.proofs.tidying.remove_minor.Goals as goal

pub returns-clause-removed : goal.returns-clause-removed
returns-clause-removed g c =
    let told = c.in_ok-rows.rows in
    let old = g.V.Volume.means c.args.volume.now in
    let mid = g.V.Volume.means c.rows_from.new.volume in
    let new = g.V.Volume.means c.remove_each.new.volume in
    let count : c.saturating_sub-count.result ≡ length told - 1 =
    c.saturating_sub-count.ensures ∙ ap (λ (k : ℕ). k - 1) c.len.ensures in
    on_ok_weaker c.remove_each.result (λ takes.
    removes_minor told old mid new (g.met.V.Volume.sound c.args.volume.now)
    (subst (λ (n : ℕ). LeadsTo (TellsFrom n told) old mid) c.new.ensures c.in_ok-rows.ensures.rows)
    (subst (λ (rs : List Row). LeadsTo (TakesOutAll (minor_ones (take (length told - 1) rs))) mid new)
    c.as_slice.ensures
    (subst (λ (k : ℕ). LeadsTo (TakesOutAll (minor_ones (take k c.as_slice.result.now))) mid new) count takes)))
    c.remove_each.ensures.taken

pub returns-clause-refused : goal.returns-clause-refused
returns-clause-refused g c =
    let told = c.in_ok-rows.rows in
    let old = g.V.Volume.means c.args.volume.now in
    let mid = g.V.Volume.means c.rows_from.new.volume in
    let count : c.saturating_sub-count.result ≡ length told - 1 =
    c.saturating_sub-count.ensures ∙ ap (λ (k : ℕ). k - 1) c.len.ensures in
    IfErr-weaker c.remove_each.result _ _ (λ e refused.
    minor_stays told e old mid (g.met.V.Volume.sound c.args.volume.now)
    (subst (λ (n : ℕ). LeadsTo (TellsFrom n told) old mid) c.new.ensures c.in_ok-rows.ensures.rows)
    (λ w means.
    subst (λ (rs : List Row). RefusesMinorOnes (take (length told - 1) rs) w e) c.as_slice.ensures
    (subst (λ (k : ℕ). RefusesMinorOnes (take k c.as_slice.result.now) w e) count (refused w means))))
    c.remove_each.ensures.refused
