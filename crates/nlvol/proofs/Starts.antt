-- What a session begins with.
use Rattle.std.proofs.Common.{◌≡◌, inl, inr}
use Rattle.nl_types.specs.declared.error.VolError.{VolError}
use Rattle.nl_types.specs.declared.error.VolError.TheVariants.{Memory}
use Rattle.nl_commit.specs.Layout.{Layout}
use Rattle.nl_commands.specs.declared.arguments.Arguments.{Arguments}
use Rattle.nl_script.specs.declared.texts.refusals.StartStep.TheVariants as step
use Rattle.nlvol.specs.Beginnings.{AsksToBegin, Beginning, IsBegunBy, IsGeometryJudged, IsStartFault, Kept, New}
use Rattle.nlvol.specs.declared.starting.StartFault.TheVariants.{Refused}

-- a volume that is begun was judged
judged_by : (arguments : Arguments) (beginning : Beginning) → AsksToBegin arguments beginning
    → IsGeometryJudged arguments
judged_by arguments (New geometry) asked = inr asked.within
judged_by arguments (Kept image) asked = inl asked

judged : (arguments : Arguments) (l : Layout) → IsBegunBy arguments l → IsGeometryJudged arguments
judged arguments l begun = judged_by arguments begun.beginning begun.asked

-- what is refused then is refused to the start
pub no_memory : (arguments : Arguments) (l : Layout) (error : VolError) → IsBegunBy arguments l
    → error ≡ Memory
    → IsStartFault arguments (Refused step.Start error)
no_memory arguments l error begun is = (judged arguments l begun, inl is)
