use Rattle.std.proofs.Common.{ℕ, sym, ap, subst, ◌∙◌, IfOk}
use Rattle.std.proofs.lemmas.Result.{IfOk-weaker}
use Rattle.nl_tree.specs.Became.{MayBecome}
use Rattle.nl_tree.specs.Overlays.{became_of, new_pages}
use Rattle.nl_tree.specs.Records.{records_of}
use Rattle.nl_tree.specs.declared.overlay.Changed.{Changed}
use Rattle.nl_files.specs.Private.Planned.{IsPlanned, file_cut, merged, packed_over, removals}
use Rattle.nl_files.proofs.Planning.{directory-planned, directory-rises, file-planned, file-rises, ok-both, removal-planned, removal-rises}
use Rattle.nl_files.proofs.plan.plan_changes.Goals as goal

pub returns-in-Gone-clause-planned : goal.returns-in-Gone-clause-planned
returns-in-Gone-clause-planned c =
    subst (λ (w : Changed). IfOk c.plan_removal.result (IsPlanned c.args.old.now (became_of w)))
    (sym c.in-Gone.is)
    (ok-both c.plan_removal.result _ _ _
    (λ plan items shape.
    removal-planned c.args.old.now plan (items ∙ ap (removals 0) c.block_count-count.ensures) shape)
    c.plan_removal.ensures.changes c.plan_removal.ensures.shape)

pub returns-in-Gone-clause-range : goal.returns-in-Gone-clause-range
returns-in-Gone-clause-range c =
    IfOk-weaker c.plan_removal.result _ _
    (λ plan items.
    removal-rises c.args.old.now plan c.requires.sized
    (items ∙ ap (removals 0) c.block_count-count.ensures))
    c.plan_removal.ensures.changes

pub returns-in-File-clause-planned : goal.returns-in-File-clause-planned
returns-in-File-clause-planned c =
    let old = c.args.old.now in
    let file = c.in-File.file in
    let change = subst (λ (w : Changed). MayBecome (became_of w)) c.in-File.is c.requires.change in
    subst (λ (w : Changed). IfOk c.plan_file.result (IsPlanned old (became_of w))) (sym c.in-File.is)
    (ok-both c.plan_file.result _ _ _ (λ plan items shape.
    file-planned old file.size file.cut (new_pages file) plan change
    (items
    ∙ (ap (λ (n : ℕ). merged n c.block_count-count.result (new_pages file)) c.cut_for.ensures
    ∙ ap (λ (n : ℕ). merged (file_cut old file.cut) n (new_pages file)) c.block_count-count.ensures))
    shape)
    c.plan_file.ensures.changes c.plan_file.ensures.shape)

pub returns-in-File-clause-range : goal.returns-in-File-clause-range
returns-in-File-clause-range c =
    let old = c.args.old.now in
    let file = c.in-File.file in
    let change = subst (λ (w : Changed). MayBecome (became_of w)) c.in-File.is c.requires.change in
    IfOk-weaker c.plan_file.result _ _ (λ plan items.
    file-rises old file.cut (new_pages file) plan c.requires.sized change
    (items
    ∙ (ap (λ (n : ℕ). merged n c.block_count-count.result (new_pages file)) c.cut_for.ensures
    ∙ ap (λ (n : ℕ). merged (file_cut old file.cut) n (new_pages file)) c.block_count-count.ensures)))
    c.plan_file.ensures.changes

pub returns-in-Dir-clause-planned : goal.returns-in-Dir-clause-planned
returns-in-Dir-clause-planned c =
    let old = c.args.old.now in
    let listing = c.in-Dir.listing in
    let change = subst (λ (w : Changed). MayBecome (became_of w)) c.in-Dir.is c.requires.change in
    subst (λ (w : Changed). IfOk c.plan_directory.result (IsPlanned old (became_of w))) (sym c.in-Dir.is)
    (IfOk-weaker c.plan_directory.result _ _ (λ plan p.
    directory-planned old (records_of listing) plan change
    (p.0, p.1, p.2 ∙ ap (λ (n : ℕ). packed_over n p.0) c.block_count-count.ensures, p.3))
    c.plan_directory.ensures.ok)

pub returns-in-Dir-clause-range : goal.returns-in-Dir-clause-range
returns-in-Dir-clause-range c =
    let old = c.args.old.now in
    let listing = c.in-Dir.listing in
    let change = subst (λ (w : Changed). MayBecome (became_of w)) c.in-Dir.is c.requires.change in
    IfOk-weaker c.plan_directory.result _ _ (λ plan p.
    directory-rises old (records_of listing) plan c.requires.sized change
    (p.0, p.1, p.2 ∙ ap (λ (n : ℕ). packed_over n p.0) c.block_count-count.ensures, p.3))
    c.plan_directory.ensures.ok
