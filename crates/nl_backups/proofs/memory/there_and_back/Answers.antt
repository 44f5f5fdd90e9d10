use Rattle.std.proofs.Common.{Option, Some, subst}
use Rattle.std.proofs.lemmas.Result.{IfOk-weaker}
use Rattle.nl_manifests.specs.HostTrees.{HostTree}
use Rattle.nl_backups.specs.Commands.{BacksUpAs}
use Rattle.nl_backups.proofs.Again.{laid_again}
use Rattle.nl_backups.proofs.memory.there_and_back.Goals as goal

pub returns : goal.returns
returns c =
    let moment = c.args.terms.moment in
    IfOk-weaker c.laid_of.result _ _ (λ laid restores.
    laid_again c.images_have_the_present_mark.ensures c.effects_keep_checkpoints.ensures
    c.folders_come_back.ensures c.roots_have_all.ensures moment moment moment
    c.in_ok-number.number c.in_ok-keep.field-0 c.args.folder c.args.other laid c.in_ok-place.place.image
    c.keep.new.place.image c.keep-2.new.place.image c.in_ok-place.ensures
    (subst (λ (t : Option HostTree). BacksUpAs moment c.in_ok-number.number t (Some c.in_ok-place.place.image)
    (Some c.keep.new.place.image)) c.new.ensures c.in_ok-number.ensures)
    (subst (λ (t : Option HostTree). BacksUpAs moment c.in_ok-keep.field-0 t (Some c.keep.new.place.image)
    (Some c.keep-2.new.place.image)) c.new-2.ensures c.in_ok-keep.ensures)
    restores)
    c.laid_of.ensures
