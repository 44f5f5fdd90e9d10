-- What calls of one thread come to, one behind the other.
use Rattle.std.specs.Prelude.{◌≡◌, true, Some, Ok}
use Rattle.nl_types.specs.declared.event.Event.{Event}
use Rattle.nl_types.specs.declared.reply.Answer.{Answer}
use Rattle.nl_types.specs.Plain.Worlds.{Copy, World, copy_at}
use Rattle.nl_commit.specs.Commits.{shown_after}
use Rattle.nl_commit.specs.Layout.{MeansWorld}
use Rattle.nl_publish.specs.Histories.{IsBegun, Known}
use Rattle.nl_publish.specs.Mounts.{Claim, IsClaim}
use Rattle.nl_publish.specs.Told.{TreeOn}
use Rattle.nl_publish.specs.Reading.{IsLater}
use Rattle.nl_mounts.specs.declared.shared.ToldReply.{ToldReply}
use Rattle.nl_mounts.specs.Sharing.{HasTold}

-- An event was done, the port was told of all of its history, and a mount was told of all that the port had seen:
-- the copy that a world of the pen had behind the event, under the number of the mount's checkpoint, is what the
-- mount shows. By `Told` that is what is read through it.
abbrev pub MountsShowWhatWasTold : Type 0
MountsShowWhatWasTold = (port seen : Known) (event : Event) (told : ToldReply) (answer : Answer) (m : Claim)
    (w : World) (copy : Copy) (done : HasTold port event told seen)
    → told.reply ≡ Ok answer → told.is_told ≡ true → MeansWorld done.new.layout w
    → copy_at w m.checkpoint ≡ Some copy → IsClaim m → IsBegun m.told.commits → IsLater seen m.told
    → TreeOn (shown_after m.told.commits) m.checkpoint copy.tree
