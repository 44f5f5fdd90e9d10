-- Each change of inodes: the tree that they stand for after it, and how many paths it has.
use Rattle.std.specs.Prelude.{◌≡◌, ℕ, ◌+◌, ◌-◌, true, not, ◌∷◌, ◌++◌, length, reverse, drop, None}
use Rattle.std.specs.FinMap.Entries.{is_sorted-where_key}
use Rattle.std.proofs.Common.{sym, ◌∙◌, ap, arith}
use Rattle.std.proofs.lemmas.List.{reverse-reverse}
use Rattle.nl_types.specs.declared.reply.Object.TheVariants.{File}
use Rattle.nl_types.specs.Plain.Paths.{Path, path_cmp, same_path, is_within}
use Rattle.nl_types.specs.Plain.Trees.{Tree, lookup, move_subtree, remove}
use Rattle.nl_types.specs.Inodes.{Bytes, upward}
use Rattle.nl_types.specs.InodeLaws.{CreatesInsert, RewritesInsert, RemovesRemove, RenamesMove, ReplacesMove}
use Rattle.nl_types.specs.Facts.Inodes.Recording.{absent_below}
use Rattle.nl_types.specs.Facts.Inodes.Standing.{object_there, child_there, child_absent, records_are, inode_there, dir_there}
use Rattle.nl_types.specs.Facts.Inodes.Means.{created, rewritten, removed, renamed, replaced, upward_within, not_above, rename_past_removal, replaced_not_above, replaced_free}
use Rattle.nl_types.specs.Facts.Inodes.TreeCounts.{length-insert_new, length-insert_old, length-remove, length-move_subtree}
use Rattle.nl_types.specs.Facts.Booleans.{holds}

pub creates_insert : CreatesInsert
creates_insert old new tree dir name object inode m w = record {
  means = created old new tree dir name object inode m w;
  count =
      length-insert_new tree (reverse (name ∷ dir)) object (holds _ m.ordered)
      (child_absent m.rooted m.pairs dir w.parent name w.absent);
}

pub rewrites_insert : RewritesInsert
rewrites_insert old new tree path bytes m w = record {
  means = rewritten old new tree path bytes m w;
  count =
      length-insert_old tree (reverse path) (File bytes) (File w.held) (holds _ m.ordered)
      (object_there m.rooted m.pairs path w.inode (Bytes w.held) w.is_reached w.was);
}

one_less : (a b : ℕ) → a + 1 ≡ b → a ≡ b - 1
one_less a b e = omega (arith, e)

pub removes_remove : RemovesRemove
removes_remove old new tree dir name m w =
    let there = child_there m.rooted m.pairs dir w.parent name w.link w.is_there in
    record {
      means = removed old new tree dir name m w;
      count = one_less _ _ (length-remove tree (reverse (name ∷ dir)) there.1 (holds _ m.ordered) there.2);
    }

-- what is free has nothing below it
free_below : (tree : Tree) (p : Path) → ((r : Path) → upward tree (r ++ p) ≡ None) → (q : Path)
    → is_within (reverse p) q ≡ true → lookup tree q ≡ None
free_below tree p none q inside =
    let turned : is_within (reverse p) (reverse (reverse q)) ≡ true =
    ap (is_within (reverse p)) (reverse-reverse q) ∙ inside in
    let rest = reverse (drop (length (reverse p)) (reverse (reverse q))) in
    let here : reverse q ≡ rest ++ p =
    upward_within (reverse p) (reverse q) turned ∙ ap (λ (s : Path). rest ++ s) (reverse-reverse p) in
    ap (lookup tree) (sym (reverse-reverse q)) ∙ ap (upward tree) here ∙ none rest

pub renames_move : RenamesMove
renames_move old new tree fp fn tp tn m w =
    let t = m.rooted in
    let free = child_absent t m.pairs tp w.to tn w.absent in
    let down = not_above old new tree m.inode_of t m.pairs fn fp tn tp w.from.inode w.to.inode w.link
    (inode_there t m.pairs fp w.from.inode w.from.is_reached)
    (inode_there t m.pairs tp w.to.inode w.to.is_reached)
    (dir_there t m.pairs tp w.to) free
    (sym (records_are t m.pairs fp w.from fn) ∙ w.is_there)
    w.outside w.moves in
    record {
      means = renamed old new tree fp fn tp tn m w;
      count =
          length-move_subtree (reverse (fn ∷ fp)) (reverse (tn ∷ tp)) w.outside down tree (holds _ m.ordered)
          (free_below tree (tn ∷ tp) (λ r. absent_below (upward tree) t (tn ∷ tp) r free));
    }

pub replaces_move : ReplacesMove
replaces_move old new tree fp fn tp tn m w =
    let from = reverse (fn ∷ fp) in
    let to = reverse (tn ∷ tp) in
    let ordered = holds _ m.ordered in
    let there = child_there m.rooted m.pairs tp w.to tn w.target w.was_there in
    let less = length-remove tree to there.1 ordered there.2 in
    let same : length (move_subtree (remove tree to) from to) ≡ length (remove tree to) =
    length-move_subtree from to w.outside (replaced_not_above old new tree fp fn tp tn m w) (remove tree to)
    (is_sorted-where_key path_cmp (λ x. not (same_path to x)) tree ordered)
    (free_below (remove tree to) (tn ∷ tp) (replaced_free old new tree fp fn tp tn m w)) in
    record {
      means = replaced old new tree fp fn tp tn m w;
      count =
          one_less _ _ (ap (λ (x : Tree). length x + 1) (rename_past_removal tree from to)
          ∙ ap (λ n. n + 1) same ∙ less);
    }
