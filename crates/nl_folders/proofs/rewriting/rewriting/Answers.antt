use Rattle.std.proofs.Common.{◌≡◌, ◌++◌, ◌∷◌, [], List, length, max, ap, sym, subst, ◌∙◌, arith}
use Rattle.nl_types.specs.declared.event.Change.{Change}
use Rattle.nl_types.specs.declared.event.Change.TheVariants.{Truncate}
use Rattle.nl_folders.proofs.FileBytes.{IsWritten, written_more, written_resized, written_whole}
use Rattle.nl_folders.specs.Private.Rewriting.{RewritesFile, place_of, write_of}
use Rattle.nl_folders.specs.Spelled.{spelling}
use Rattle.nl_folders.proofs.rewriting.rewriting.Goals as goal
use Rattle.nl_folders.proofs.rewriting.rewriting.Goals.{then-size-new+in_ok-truncation+in_ok-push-2, else-size-new}

pub loop-run-preserved : goal.loop-run-preserved
loop-run-preserved c =
    let path = c.args.path.now in
    let old = c.args.old.now in
    let new = c.args.new.now in
    let run = c.in-Some.run' in
    let next = c.in-Some.ensures.found in
    let calls : c.push.new.self ≡ c.loop-run.calls ++ write_of path new run ∷ [] =
    let p = c.in_ok-push.ensures.ok in
    let w = c.in_ok-write_of.ensures in cc in (
      next.within,
      subst (λ (x : List Change). IsWritten path old new x run.end) (sym calls)
          (written_more path old new c.loop-run.calls c.loop-run.done run c.loop-run.invariant.1 next),
    )

pub returns : goal.returns
returns c =
    let path = c.args.path.now in
    let old = c.args.old.now in
    let new = c.args.new.now in
    let size : c.max-size.result ≡ max (length old) (place_of (length new) c.loop-run.done) =
    c.max-size.ensures ∙ ap (max (length old)) c.place_of.ensures in
    elim c.if-size-new.branch [
      | then-size-new+in_ok-truncation+in_ok-push-2 w ↦
          let calls : c.if-size-new.calls ≡ c.loop-run.calls ++ Truncate (spelling path) (length new) ∷ [] =
          w.calls-is
          ∙ w.in_ok-push-2.ensures.ok
          ∙ ap (λ (call : Change). c.loop-run.calls ++ call ∷ []) w.in_ok-truncation.ensures in
          subst (RewritesFile path old new) (sym calls)
          (written_resized path old new c.loop-run.calls c.loop-run.done c.loop-run.invariant.1
          c.in_default.ensures.none (λ even. w.if-size-new.true (size ∙ even)))
      | else-size-new w ↦
          subst (RewritesFile path old new) (sym w.calls-is)
          (written_whole path old new c.loop-run.calls c.loop-run.done c.loop-run.invariant.1
          c.in_default.ensures.none (omega (arith, size, w.if-size-new.false)))
    ]
