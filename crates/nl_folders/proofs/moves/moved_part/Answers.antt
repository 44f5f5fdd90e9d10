use Rattle.std.proofs.Common.{◌≡◌, ◌+◌, ◌-◌, ℕ, is_some, length, map, take, drop, ap, sym, subst, ◌∙◌, arith, option_copied, refl}
use Rattle.nl_types.specs.Plain.Paths.{Path}
use Rattle.nl_types.specs.Plain.Trees.{lookup}
use Rattle.nl_folders.proofs.EntryParts.{mapped_some, parts_alike}
use Rattle.nl_folders.proofs.PlanSteps.{none_left}
use Rattle.nl_folders.proofs.SortedTrees.{found_at_place, path_read}
use Rattle.nl_folders.specs.Private.Moved.{cut}
use Rattle.nl_folders.specs.Private.Sides.{IsPart, path_at}
use Rattle.nl_folders.proofs.moves.moved_part.Goals as goal

pub returns : goal.returns
returns c =
    let present = c.args.present.now in
    let wanted = c.args.wanted.now in
    let from = c.args.from in
    let to = c.args.to in
    let old_end = c.part_end-old_end.result in
    let new_end = c.part_end-new_end.result in
    let old = c.part_end-old_end.ensures in
    let new = c.part_end-new_end.ensures in
    let alike = c.if-not-are_same_below.ensures in
    let ends : to + (old_end - from) ≡ new_end =
    omega (arith, alike.long refl, old.some, old.within, new.some, new.within) in
    let old_path : c.as_slice-old_path.result.now ≡ path_at present from =
    c.as_slice-old_path.ensures ∙ sym (path_read present from c.index-present-from.result c.requires.from) in
    let new_path : c.as_slice-new_path.result.now ≡ path_at wanted to =
    c.as_slice-new_path.ensures ∙ sym (path_read wanted to c.index-wanted-to.result c.requires.to) in
    let old_part = take (old_end - from) (drop from present) in
    let new_part = take (new_end - to) (drop to wanted) in
    let same : map (cut (length c.as_slice-old_path.result.now)) old_part
    ≡ map (cut (length c.as_slice-new_path.result.now)) new_part = alike.alike refl in
    let parts : map (cut (length (path_at present from))) old_part
    ≡ map (cut (length (path_at wanted to))) new_part =
    ap (λ (path : Path). map (cut (length path)) old_part) (sym old_path)
    ∙ same
    ∙ ap (λ (path : Path). map (cut (length path)) new_part) new_path in
    record {
      from = omega (arith, old.some, old.within);
      to = omega (arith, ends, new.within);
      some = omega (arith, old.some);
      movable = λ sorted sought.
          let part_gone = old.part sorted in
          let part_come = new.part sought in
          record {
            is_step = (
              record {
                there = ap is_some (found_at_place present from c.requires.from sorted);
                lacks =
                    ap (lookup wanted) (sym old_path)
                    ∙ sym (c.find_in.ensures sought)
                    ∙ none_left (option_copied c.find_in.result) (mapped_some (λ x. x.now) c.find_in.result ∙ sym c.is_some.ensures ∙ c.if-is_some.false);
              },
              record {
                there = ap is_some (found_at_place wanted to c.requires.to sought);
                lacks =
                    ap (lookup present) (sym new_path)
                    ∙ sym (c.find_in-else-is_some.ensures sorted)
                    ∙ none_left (option_copied c.find_in-else-is_some.result)
                    (mapped_some (λ x. x.now) c.find_in-else-is_some.result ∙ sym c.is_some-else-is_some.ensures ∙ c.if-is_some-2.false);
              },
            );
            part_gone =
                subst (λ (end : ℕ). IsPart present from end) (omega (arith, old.some)) part_gone;
            part_come = subst (λ (end : ℕ). IsPart wanted to end) (sym ends) part_come;
            alike =
                parts_alike present wanted from old_end to new_end old.some new.some part_gone part_come parts;
          };
    }
