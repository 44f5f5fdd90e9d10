use Rattle.std.proofs.Common.{◌≡◌, ◌≢◌, ◌∙◌, ◌++◌, ◌∷◌, [], ap, length, subst, sym, vec_len}
use Rattle.nl_types.specs.Plain.Paths.{Path}
use Rattle.nl_host.specs.Trails.{but_last}
use Rattle.std.proofs.Common.{◌&&◌}
use Rattle.std.proofs.lemmas.Result.{on_ok_weaker}
use Rattle.nl_manifests.specs.HostTrees.{HostTree}
use Rattle.nl_host.specs.HostPaths.{is_host_name}
use Rattle.nl_host.specs.Puts.{Asked, leads_to_text, made_if}
use Rattle.nl_host.proofs.Orders.{Asked-here, comes_at, elsewhere, inside_at, parted, path_here, root_due, root_is}
use Rattle.nl_host.proofs.putting.Putting.lay.Goals as goal

pub returns-in_default-clause-stands : goal.returns-in_default-clause-stands
returns-in_default-clause-stands g c =
    let stands = c.requires.stands in
    let root : c.args.entry.now.0 ≡ [] = root_is _ _ c.as_slice-path.ensures c.in_default.len_below in
    record {
      here_is = stands.here_is;
      depth = stands.depth;
      named = stands.named;
      first_due = root_due c.args.self.now.tree.now c.args.entry.now c.requires.entry root;
      due_below = stands.due_below;
    }

pub returns-then-self-folder-clause-order : goal.returns-then-self-folder-clause-order
returns-then-self-folder-clause-order g c =
    let path = c.args.entry.now.0 in
    let left = c.in_ok-leave_up_to.ensures in
    let parts : path ≡ but_last path ++ c.name-item.result ∷ [] =
    parted path c.as_slice-path.result.now c.name-item.result c.as_slice-path.ensures c.in-len1-up.len_at_least c.name-item.is in
    let comes = comes_at path c.as_slice-path.result.now _ _ c.as_slice-path.ensures left.above left.keeps in
    let other : length c.leave_up_to.new.self.here.now ≢ length (but_last path) =
    λ deep. c.if-self-folder.true (deep ∙ sym (ap (λ (p : Path). length (but_last p)) c.as_slice-path.ensures)) in
    λ same. elsewhere c.args.self.now.tree.now c.args.entry.now (but_last path) c.name-item.result _ _ _ _ parts
    comes.leads comes.keeps other left.asked

pub lay_here-requires-clause-path : goal.lay_here-requires-clause-path
lay_here-requires-clause-path g c =
    path_here c.as_slice-path.result.now c.name-item.result c.as_slice.result.now c.leave_up_to.new.self.here.now
    c.in-len1-up.len_at_least c.name-item.is c.as_slice.ensures c.in_ok-leave_up_to.ensures.above c.if-self-folder.false

pub returns-clause-asked : goal.returns-clause-asked
returns-clause-asked g c =
    let left = c.in_ok-leave_up_to.ensures in
    let object = c.args.entry.now.1.object in
    let is_made = is_host_name c.as_slice.result.now && leads_to_text object in (
      made_if is_made (c.as_slice-path.result.now, c.args.entry.now.1),
      Asked-here _ _ _ _ _ _ left.tree left.asked c.lay_here.ensures.asked,
    )

pub returns-clause-order : goal.returns-clause-order
returns-clause-order g c =
    let left = c.in_ok-leave_up_to.ensures in
    let tree = c.args.self.now.tree.now in
    let path = c.as_slice-path.result.now in
    let name = c.as_slice.result.now in
    let here = c.leave_up_to.new.self.here.now in
    let object = c.args.entry.now.1.object in
    let made = made_if (is_host_name name && leads_to_text object) (path, c.args.entry.now.1) in
    let parts : path ≡ here ++ name ∷ [] =
    path_here path c.name-item.result name here c.in-len1-up.len_at_least c.name-item.is c.as_slice.ensures left.above
    c.if-self-folder.false in
    let asked =
    subst (λ (t : HostTree). Asked t made (g.L.Laying.asked c.leave_up_to.new.site) (g.L.Laying.asked c.lay_here.new.site)) left.tree
    c.lay_here.ensures.asked in
    on_ok_weaker c.lay_here.result
    (λ goes same. inside_at tree c.args.entry.now path name _ _ _ _ here _ c.as_slice-path.ensures parts left.stands.named
    left.asked asked (goes (same ∙ sym (ap vec_len left.refused)))) c.lay_here.ensures.here
