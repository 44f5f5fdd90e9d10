use Rattle.std.proofs.Common.{ap, inl, inr, refl, subst}
use Rattle.nl_types.specs.declared.error.VolError.{VolError}
use Rattle.nl_commit.specs.Layout.{Layout}
use Rattle.nl_script.specs.RefusalTexts.{start_text}
use Rattle.nl_script.specs.declared.texts.refusals.StartStep.TheVariants.{Start}
use Rattle.nlvol.specs.Telling.{Tells, errors_of}
use Rattle.nlvol.proofs.sessions.run_begun.Goals as goal

pub end-requires : goal.end-requires
end-requires g c = ap (λ (l : Layout). l.lists.mounts) c.in-Ok.ensures.run.left_is

pub returns-in-Ok : goal.returns-in-Ok
returns-in-Ok g c = inl (record {
  left = c.in-Ok.pen;
  done = c.in-Ok.done;
  runs = c.in-Ok.ensures.run;
  ends = c.end.ensures;
})

pub returns-in-Err : goal.returns-in-Err
returns-in-Err g c = inr (record {
  no_line = c.in-Err.ensures.unprinted;
  status_is = refl;
  tells =
      subst
      (λ (e : VolError). Tells (start_text Start e)
      (errors_of g.E.Write.contents c.args.errors.now c.tell_refusal.new.errors) c.tell_refusal.result)
      c.in-Err.ensures.refused c.tell_refusal.ensures;
})
