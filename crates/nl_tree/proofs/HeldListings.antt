-- A directory has no more names than its tree has paths.
use Rattle.std.proofs.Common.{◌≡◌, ℕ, ◌+◌, ◌≤◌, List, [], ◌∷◌, length, map, Option, Some, None, refl, ap, ◌∙◌, arith}
use Rattle.std.specs.Prelude.{reverse}
use Rattle.std.specs.List.{cons_option}
use Rattle.std.specs.Option.{option_map}
use Rattle.std.proofs.lemmas.List.{length-map}
use Rattle.nl_types.specs.declared.kind.Kind.{Kind}
use Rattle.nl_types.specs.declared.reply.Object.{Object}
use Rattle.nl_types.specs.declared.reply.Object.TheVariants.{Dir}
use Rattle.nl_types.specs.Plain.Paths.{Name, Path}
use Rattle.nl_types.specs.Plain.Trees.{Tree, lookup, children, name_below, object_kind}
use Rattle.nl_types.specs.Inodes.{Records, MeansTree}
use Rattle.nl_types.specs.InodeChanges.{HasRecords}
use Rattle.nl_types.specs.InodeLaws.{with_kind}
use Rattle.nl_types.specs.Facts.Inodes.Walks.{reached-pairs}
use Rattle.nl_types.specs.Facts.Inodes.ChildRecords.{children_are_records}
use Rattle.nl_dirs.specs.declared.record.Record.{Record}
use Rattle.nl_dirs.specs.Records.{NamesAscend, entry_of}
use Rattle.nl_tree.specs.Held.{Holding, Listed, inode_content, inodes_of_holding}
use Rattle.nl_tree.specs.Naming.{listed_record}
use Rattle.nl_tree.specs.Facts.HeldContents.{lists_records}

-- ---- how many names there are

abbrev child : Path → Path × Object → Option (Name × Kind)
child dir e = option_map (λ name. (name, object_kind e.1)) (name_below dir e.0)

children-fewer : (tree : Tree) (dir : Path) → length (children tree dir) ≤ length tree
children-fewer [] dir = omega arith
children-fewer (e ∷ tree) dir = choose (child dir e) refl (children-fewer tree dir)
  where
    choose : (o : Option (Name × Kind)) → child dir e ≡ o → length (children tree dir) ≤ length tree
        → length (cons_option (child dir e) (children tree dir)) ≤ length (e ∷ tree)
    choose None is rest = rw is (omega (arith, rest))
    choose (Some x) is rest = rw is (omega (arith, rest))

-- the root is nobody's child
root_below : (dir : Path) → name_below dir [] ≡ None
root_below [] = refl
root_below (n ∷ dir) = refl

pub children-few : (tree : Tree) (dir : Path) → lookup tree [] ≡ Some Dir
    → length (children tree dir) + 1 ≤ length tree
children-few [] dir root = cc
children-few (([], x) ∷ tree) dir root =
    let none : child dir ([], x) ≡ None = ap (option_map (λ name. (name, object_kind x))) (root_below dir) in
    rw none (omega (arith, children-fewer tree dir))
children-few ((n ∷ p, x) ∷ tree) dir root = choose (child dir (n ∷ p, x)) refl (children-few tree dir root)
  where
    choose : (o : Option (Name × Kind)) → child dir (n ∷ p, x) ≡ o
        → length (children tree dir) + 1 ≤ length tree
        → length (cons_option (child dir (n ∷ p, x)) (children tree dir)) + 1 ≤ length ((n ∷ p, x) ∷ tree)
    choose None is rest = rw is (omega (arith, rest))
    choose (Some y) is rest = rw is (omega (arith, rest))

-- a directory has no more names than the tree has paths beside the root
pub records-few : (holding : Holding) (tree : Tree) (i : ℕ) (records : List Record)
    → MeansTree (inodes_of_holding holding) tree → holding i ≡ Some (Listed records) → NamesAscend records
    → length records + 1 ≤ length tree
records-few holding tree i records means here ascend =
    let holds : inodes_of_holding holding i ≡ Some (Records (λ name. entry_of name records)) =
    ap (option_map inode_content) here in
    let at = means.pairs.all i (Records (λ name. entry_of name records)) holds in
    let there : HasRecords (inodes_of_holding holding) at.0 = record {
      inode = i;
      records = λ name. entry_of name records;
      is_reached = reached-pairs means.rooted means.pairs at.0 ∙ at.1;
      holds = holds;
    } in
    let are =
    children_are_records (inodes_of_holding holding) tree at.0 (map listed_record records) means there
    (lists_records records ascend) in
    let count : length (children tree (reverse at.0)) ≡ length records =
    ap length are ∙ length-map (map listed_record records) with_kind ∙ length-map records listed_record in
    let few = children-few tree (reverse at.0) means.rooted.root in
    omega (arith, count, few)
