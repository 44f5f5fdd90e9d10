use Rattle.std.proofs.Common.{◌++◌, refl}
use Rattle.std.proofs.KnownBytes.{Appends-trans}
use Rattle.nlvol.specs.Endings.{Saved, Unsaved}
use Rattle.nlvol.specs.Telling.{failure_text}
use Rattle.nlvol.proofs.ending.end.Goals as goal

pub returns-in-Ok : goal.returns-in-Ok
returns-in-Ok g c =
    let saved = c.in-Ok.ensures.saved refl in
    rw c.in-Some.is
    (record {
      text = failure_text c.args.done.failed;
      ends =
          Saved saved.0 (λ none. cc) saved.1
          (record {
            status_is = c.exit_status-in-Ok.ensures;
            text_is = refl;
            silent = c.tell_stream-told.ensures.silent;
          });
      tells = c.tell_stream-told.ensures.told;
    })

pub returns : goal.returns
returns g c =
    let why = c.unsaved.ensures.told in
    let contents = g.E.Write.contents in
    rw c.in-Some.is
    (record {
      text = failure_text c.args.done.failed ++ why.0;
      ends =
          Unsaved c.in-Some.place.path.now why.0 refl
          (record { fault = c.in-Err.fault; is_fault = c.in-Err.ensures.refused; is_text = why.1 }) refl
          c.unsaved.ensures.status;
      tells =
          λ all.
          let both = why.2 all in
          Appends-trans (contents c.args.errors.now) (contents c.tell_stream-told.new.errors)
          (contents c.unsaved.new.errors)
          (failure_text c.args.done.failed) why.0 (c.tell_stream-told.ensures.told both.0) both.1;
    })
