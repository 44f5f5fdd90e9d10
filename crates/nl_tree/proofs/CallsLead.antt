-- What calls do to what inodes hold is what they do to the tree.
use Rattle.std.proofs.Common.{◌≡◌, ℕ, false, true, ◌+◌, ◌-◌, ◌<◌, ◌≤◌, List, [], ◌∷◌, ◌++◌, length, Option, Some, None, sym, ap, ◌∙◌, subst, arith}
use Rattle.std.specs.Prelude.{Ok, max}
use Rattle.std.specs.Option.{option_map}
use Rattle.nl_types.specs.declared.kind.Kind.{Kind}
use Rattle.nl_types.specs.declared.kind.Kind.TheVariants as kind
use Rattle.nl_types.specs.declared.reply.Answer.{Answer}
use Rattle.nl_types.specs.declared.reply.Answer.TheVariants as answer
use Rattle.nl_types.specs.Plain.Limits.{file_limit}
use Rattle.nl_types.specs.Plain.Paths.{Name, Path}
use Rattle.nl_types.specs.Plain.Trees.{Tree}
use Rattle.nl_types.specs.Blocks.Roots.{Blocks}
use Rattle.nl_types.specs.Plain.Calls.{Changed, create, write, truncate, unlink, rmdir, rename, overwritten, resized}
use Rattle.nl_types.specs.Inodes.{Link, Inodes, MeansTree}
use Rattle.nl_types.specs.declared.reply.Object.TheVariants.{Dir}
use Rattle.nl_types.specs.InodeChanges.{Refills}
use Rattle.nl_types.specs.Judging.{Listing, IsListing, bytes_of, has_any, judge_create, judge_rename}
use Rattle.nl_types.specs.Resolving.{IsNamed, resolve}
use Rattle.nl_types.specs.InodeCallLaws.{LeadsTo}
use Rattle.nl_types.specs.Facts.Inodes.CallsDone.{creates_lead, writes_lead, truncates_lead, unlinks_lead, rmdirs_lead, renames_lead, renames_onto_lead}
use Rattle.nl_dirs.specs.declared.record.Record.{Record}
use Rattle.nl_dirs.specs.Records.{NamesAscend}
use Rattle.nl_tree.specs.Held.{Held, Holding, Stored, Listed, bytes_stored, inode_content, inodes_of_holding, new_object}
use Rattle.nl_tree.specs.Steps.{with_held, with_link, with_new_inode, without_inode, without_link}
use Rattle.nl_tree.specs.Bytes.{Overwrites, Resizes}
use Rattle.nl_tree.specs.TreeMeaning.{StandsForTree, MakesTree}
use Rattle.nl_tree.proofs.InodeSteps.{adds, drops, moves, moves_onto, refills}
use Rattle.nl_tree.proofs.StoredBytes.{EndsIn0, overwritten-stored, resized-stored}

makes : (called : Changed) (given : Answer) (new : Holding) (names paths : ℕ) → paths ≡ names + 1
    → LeadsTo called given (inodes_of_holding new) paths → MakesTree called given new names
makes called given new names paths e leads = record {
  tree = leads.tree;
  called_is = leads.is;
  stands = record { means = leads.means; count = leads.count ∙ e };
}

-- a tree has the root
pub some_paths : (inodes : Inodes) (tree : Tree) → MeansTree inodes tree → 1 ≤ length tree
some_paths inodes [] means = let no_root : None ≡ Some Dir = means.rooted.root in cc
some_paths inodes (x ∷ tree) means = omega arith

module _ (holding : Holding) (tree : Tree) (names : ℕ) (stands : StandsForTree holding tree names) where
  pub created_makes : (k : Kind) (dir : Path) (name : Name) (parent inode : ℕ) (records : List Record)
      → judge_create (inodes_of_holding holding) (length tree) dir name ≡ Ok parent
      → holding parent ≡ Some (Listed records) → holding inode ≡ None
      → MakesTree (create tree (new_object k) (dir ++ name ∷ [])) answer.Done
      (with_new_inode parent records name k inode holding) (names + 1)
  created_makes k dir name parent inode records judged here free =
      makes (create tree (new_object k) (dir ++ name ∷ [])) answer.Done
      (with_new_inode parent records name k inode holding) (names + 1) (length tree + 1)
      (ap (λ (n : ℕ). n + 1) stands.count)
      (creates_lead (inodes_of_holding holding)
      (inodes_of_holding (with_new_inode parent records name k inode holding)) tree
      (new_object k) dir name parent inode stands.means judged
      (adds holding parent records here (record { name = name; inode = inode; kind = k }) free))

  -- a file's inode has its bytes
  file_bytes : (i size : ℕ) (blocks : Blocks) → holding i ≡ Some (Stored size blocks)
      → bytes_of (inodes_of_holding holding i) ≡ bytes_stored blocks size
  file_bytes i size blocks e = ap (λ (o : Option Held). bytes_of (option_map inode_content o)) e

  pub written_makes : (path : Path) (i size offset : ℕ) (bytes : List ℕ) (blocks new : Blocks)
      → resolve (inodes_of_holding holding) path ≡ Ok (i, kind.File) → holding i ≡ Some (Stored size blocks)
      → EndsIn0 blocks size
      → 0 < length bytes → offset + length bytes ≤ file_limit → Overwrites blocks new offset bytes
      → MakesTree (write tree offset bytes path) (answer.Written (length bytes))
      (with_held i (Some (Stored (max size (offset + length bytes)) new)) holding) names
  written_makes path i size offset bytes blocks new found here ends some fits is =
      let now : Holding = with_held i (Some (Stored (max size (offset + length bytes)) new)) holding in
      let same : overwritten (bytes_of (inodes_of_holding holding i)) offset bytes
      ≡ bytes_stored new (max size (offset + length bytes)) =
      ap (λ (b : List ℕ). overwritten b offset bytes) (file_bytes i size blocks here)
      ∙ overwritten-stored blocks new size offset bytes ends is in
      makes (write tree offset bytes path) (answer.Written (length bytes)) now names
      (length tree) stands.count
      (writes_lead (inodes_of_holding holding)
      (inodes_of_holding now) tree offset bytes path i stands.means found some fits
      (subst (λ (b : List ℕ). Refills (inodes_of_holding holding) (inodes_of_holding now) i b) (sym same)
      (refills holding i (max size (offset + length bytes)) new)))

  pub truncated_makes : (path : Path) (i old size : ℕ) (blocks new : Blocks)
      → resolve (inodes_of_holding holding) path ≡ Ok (i, kind.File) → holding i ≡ Some (Stored old blocks)
      → EndsIn0 blocks old
      → size ≤ file_limit → Resizes blocks new size
      → MakesTree (truncate tree size path) answer.Done (with_held i (Some (Stored size new)) holding) names
  truncated_makes path i old size blocks new found here ends fits is =
      let now : Holding = with_held i (Some (Stored size new)) holding in
      let same : resized (bytes_of (inodes_of_holding holding i)) size ≡ bytes_stored new size =
      ap (λ (b : List ℕ). resized b size) (file_bytes i old blocks here)
      ∙ resized-stored blocks new old size ends is in
      makes (truncate tree size path) answer.Done now names (length tree) stands.count
      (truncates_lead (inodes_of_holding holding)
      (inodes_of_holding now) tree size path i stands.means found fits
      (subst (λ (b : List ℕ). Refills (inodes_of_holding holding) (inodes_of_holding now) i b) (sym same)
      (refills holding i size new)))

  -- one path less; the root is left
  fewer_paths : (called : Changed) (given : Answer) (new : Holding)
      → LeadsTo called given (inodes_of_holding new) (length tree - 1)
      → MakesTree called given new (names - 1)
  fewer_paths called given new leads =
      let root = some_paths (inodes_of_holding new) leads.tree leads.means in
      let count = leads.count in
      let all = stands.count in
      makes called given new (names - 1) (length tree - 1) (omega (arith, root, count, all)) leads

  pub unlinked_makes : (dir : Path) (name : Name) (parent inode : ℕ) (records : List Record)
      → IsNamed (inodes_of_holding holding) dir name parent (Some (inode, kind.File))
      → holding parent ≡ Some (Listed records) → NamesAscend records
      → MakesTree (unlink tree (dir ++ name ∷ [])) answer.Done
      (without_inode parent records name inode holding) (names - 1)
  unlinked_makes dir name parent inode records named here ascend =
      fewer_paths (unlink tree (dir ++ name ∷ [])) answer.Done
      (without_inode parent records name inode holding)
      (unlinks_lead (inodes_of_holding holding)
      (inodes_of_holding (without_inode parent records name inode holding)) tree dir name parent inode
      stands.means named
      (drops holding parent records here name inode ascend))

  pub rmdired_makes : (listing : Listing) (dir : Path) (name : Name) (parent inode : ℕ)
      (records : List Record)
      → IsListing (inodes_of_holding holding) listing
      → IsNamed (inodes_of_holding holding) dir name parent (Some (inode, kind.Directory))
      → has_any listing inode ≡ false → holding parent ≡ Some (Listed records) → NamesAscend records
      → MakesTree (rmdir tree (dir ++ name ∷ [])) answer.Done
      (without_inode parent records name inode holding) (names - 1)
  rmdired_makes listing dir name parent inode records lists named bare here ascend =
      fewer_paths (rmdir tree (dir ++ name ∷ [])) answer.Done
      (without_inode parent records name inode holding)
      (rmdirs_lead (inodes_of_holding holding)
      (inodes_of_holding (without_inode parent records name inode holding)) tree listing dir name parent
      inode stands.means lists named bare
      (drops holding parent records here name inode ascend))

  -- what a directory of a rename has, once the record is taken out of the other, maybe the same
  abbrev pub HoldsWithout : ℕ → List Record → Name → ℕ → List Record → Type 0
  HoldsWithout from left name to records = without_link from left name holding to ≡ Some (Listed records)

  pub renamed_makes : (listing : Listing) (from_dir : Path) (from_name : Name) (to_dir : Path)
      (to_name : Name) (from to : ℕ) (link : Link) (left records : List Record)
      → IsListing (inodes_of_holding holding) listing
      → judge_rename (inodes_of_holding holding) listing (from_dir ++ from_name ∷ []) to_dir to_name ≡ Ok true
      → IsNamed (inodes_of_holding holding) from_dir from_name from (Some link)
      → IsNamed (inodes_of_holding holding) to_dir to_name to None
      → holding from ≡ Some (Listed left) → NamesAscend left → HoldsWithout from left from_name to records
      → MakesTree (rename tree (from_dir ++ from_name ∷ []) (to_dir ++ to_name ∷ [])) answer.Done
      (with_link to records (record { name = to_name; inode = link.0; kind = link.1 })
      (without_link from left from_name holding))
      names
  renamed_makes listing from_dir from_name to_dir to_name from to link left records lists judged source absent
      here ascend there =
      let new : Holding =
      with_link to records (record { name = to_name; inode = link.0; kind = link.1 })
      (without_link from left from_name holding) in
      makes (rename tree (from_dir ++ from_name ∷ []) (to_dir ++ to_name ∷ [])) answer.Done new names
      (length tree) stands.count
      (renames_lead (inodes_of_holding holding)
      (inodes_of_holding new) tree listing from_dir from_name to_dir to_name from to link stands.means lists
      judged source absent
      (moves holding from left from_name to records
      (record { name = to_name; inode = link.0; kind = link.1 }) here ascend there))

  pub renamed_onto_makes : (listing : Listing) (from_dir : Path) (from_name : Name) (to_dir : Path)
      (to_name : Name) (from to : ℕ) (link target : Link) (left records : List Record)
      → IsListing (inodes_of_holding holding) listing
      → judge_rename (inodes_of_holding holding) listing (from_dir ++ from_name ∷ []) to_dir to_name ≡ Ok true
      → IsNamed (inodes_of_holding holding) from_dir from_name from (Some link)
      → IsNamed (inodes_of_holding holding) to_dir to_name to (Some target)
      → holding from ≡ Some (Listed left) → NamesAscend left → HoldsWithout from left from_name to records
      → MakesTree (rename tree (from_dir ++ from_name ∷ []) (to_dir ++ to_name ∷ [])) answer.Done
      (with_held target.0 None
      (with_link to records (record { name = to_name; inode = link.0; kind = link.1 })
      (without_link from left from_name holding)))
      (names - 1)
  renamed_onto_makes listing from_dir from_name to_dir to_name from to link target left records lists judged
      source there_is here ascend there =
      let new : Holding =
      with_held target.0 None
      (with_link to records (record { name = to_name; inode = link.0; kind = link.1 })
      (without_link from left from_name holding)) in
      fewer_paths (rename tree (from_dir ++ from_name ∷ []) (to_dir ++ to_name ∷ [])) answer.Done new
      (renames_onto_lead (inodes_of_holding holding)
      (inodes_of_holding new) tree listing from_dir from_name to_dir to_name from to link target
      stands.means lists judged source there_is
      (moves_onto holding from left from_name to records
      (record { name = to_name; inode = link.0; kind = link.1 }) target.0 here ascend there))
