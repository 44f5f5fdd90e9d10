use Rattle.std.proofs.Common.{ap, arith, sym, subst, ◌∙◌}
use Rattle.nl_types.specs.Blocks.Roots.{page_at}
use Rattle.nl_layout.specs.Root.{root_of}
use Rattle.nl_dirs.specs.Listings.{HoldsRecords}
use Rattle.nl_tree.specs.Held.{Listed, held_count}
use Rattle.nl_files.proofs.read_tree.ReadTreeTreeRead.name_count.Goals as goal

-- a directory that may be held has fewer names than a u64 counts
pub returns-in-Some : goal.returns-in-Some
returns-in-Some g c = λ held h.
    let directory = c.in-Some.directory in
    let stands = c.in-Some.ensures.stands (held c.args.dir) (h.stores c.args.dir) in
    let few = (h.sound.each c.args.dir (Listed stands.0) stands.2).count in
    let holds =
    subst (λ store.
    HoldsRecords (page_at (g.V.VRead.pages store) (root_of directory.root)) directory.size stands.0)
    (sym c.in-Some.ensures.store) stands.1 in
    c.count.ensures stands.0 holds (omega (arith, few)) ∙ sym (ap held_count stands.2)
