use Rattle.std.proofs.Common.{◌≡◌, ℕ, List, [], ◌∷◌, length, arith, ap, sym, ◌∙◌, subst, refl}
use Rattle.std.specs.List.{AllByRecursion}
use Rattle.std.specs.Vec.Iter.{into_iter_items}
use Rattle.std.proofs.lemmas.Result.{err_from_is_err_and}
use Rattle.nl_types.specs.Blocks.Segments.{Segments, StaysUsed, AreTidy}
use Rattle.nl_types.specs.Blocks.Placing.{AreNextLogs, IsNextLog, first_block, with_log, with_logs}
use Rattle.nl_types.specs.Facts.NextLogs.{tidy_with_log}
use Rattle.nl_types.specs.Facts.UsedParts.{stays_with_log, stays_with_error}
use Rattle.nl_device.specs.Failures.{CountsWrites, FailsToWrite, Failures}
use Rattle.nl_vstore.specs.Content.{SpaceContent, KeepsUsed, IsSameAt}
use Rattle.nl_vstore.specs.Logs.{StandsFrom}
use Rattle.nl_vstore.specs.Appended.{IsOutside}
use Rattle.nl_segwriter.specs.declared.staging.Staged.{Staged}
use Rattle.nl_segwriter.specs.Private.Staging.{IsReady, logs_of, whole_of}
use Rattle.nl_segwriter.specs.Writing.{space_content, LogsStand, BreaksOff}
use Rattle.nl_segwriter.proofs.LogsWritten.{same_outside, log_keeps, keeps_on, stays_on, log_stays, breaks_here, breaks_on}
use Rattle.nl_segwriter.proofs.log_space.LogSpace.write_logs.Goals as goal

no_items : (xs : List Staged) → length xs ≡ 0 → xs ≡ []
no_items [] e = refl
no_items (x ∷ xs) e = absurd (omega (arith, e))

pub returns-in_err-write_log-clause-used_stay : goal.returns-in_err-write_log-clause-used_stay
returns-in_err-write_log-clause-used_stay g c =
    let inv = c.loop-staged.invariant in
    let s : Segments = c.loop-staged.self.table in
    let next =
    subst
    (λ (r : List Staged). AreNextLogs s c.args.now (logs_of r)) c.in-Some.ensures.steps.0 inv.next in
    let device = g.D.Device in
    let before : SpaceContent =
    space_content c.args.self.now.table c.args.self.now.payload (device.pages c.args.self.now.device) in
    let then : SpaceContent =
    space_content s c.loop-staged.self.payload (device.pages c.loop-staged.self.device) in
    let now : SpaceContent =
    space_content c.write_log.new.self.table c.write_log.new.self.payload
    (device.pages c.write_log.new.self.device) in
    keeps_on c.args.self.now.table s before
    then now inv.used_stay inv.stays
    (log_keeps s c.in-Some.staged.log then now inv.tidy next.0 c.in_err-write_log.ensures.others)

pub returns-in_err-write_log-clause-broken : goal.returns-in_err-write_log-clause-broken
returns-in_err-write_log-clause-broken g c =
    let inv = c.loop-staged.invariant in
    let s : Segments = c.loop-staged.self.table in
    let next =
    subst
    (λ (r : List Staged). AreNextLogs s c.args.now (logs_of r)) c.in-Some.ensures.steps.0 inv.next in
    let device = g.D.Device in
    let before : SpaceContent =
    space_content c.args.self.now.table c.args.self.now.payload (device.pages c.args.self.now.device) in
    let then : SpaceContent =
    space_content s c.loop-staged.self.payload (device.pages c.loop-staged.self.device) in
    let now : SpaceContent =
    space_content c.write_log.new.self.table c.write_log.new.self.payload
    (device.pages c.write_log.new.self.device) in
    let p = err_from_is_err_and c.from_residual.result c.from_residual.ensures.1 in
    rw p.1 (inv.broken now
    (log_keeps s c.in-Some.staged.log then now inv.tidy next.0 c.in_err-write_log.ensures.others)
    (subst (λ (r : List Staged). BreaksOff c.args.now r then now) (sym c.in-Some.ensures.steps.0)
    (breaks_here c.args.now c.in-Some.staged (into_iter_items c.next.new.self)
    then now c.in_err-write_log.ensures.broken c.in_err-write_log.ensures.others)))

pub returns-in_err-write_log-clause-stays : goal.returns-in_err-write_log-clause-stays
returns-in_err-write_log-clause-stays g c =
    let inv = c.loop-staged.invariant in
    let s : Segments = c.loop-staged.self.table in
    let next =
    subst
    (λ (r : List Staged). AreNextLogs s c.args.now (logs_of r)) c.in-Some.ensures.steps.0 inv.next in
    stays_on c.args.self.now.table s c.write_log.new.self.table inv.stays
    (subst (StaysUsed s) (sym c.in_err-write_log.ensures.broken)
    (stays_with_error s c.in-Some.staged.log.segment next.0.segment))

pub returns-clause-stand : goal.returns-clause-stand
returns-clause-stand g c =
    let inv = c.loop-staged.invariant in
    let start : Segments = c.args.self.now.table in
    let now : SpaceContent =
    space_content c.loop-staged.self.table c.loop-staged.self.payload
    (g.D.Device.pages c.loop-staged.self.device) in
    let none : into_iter_items c.loop-staged.staged-iterator ≡ [] =
    no_items (into_iter_items c.loop-staged.staged-iterator) (sym inv.long ∙ c.in-None.ensures.steps.0) in
    inv.stand now (λ b used. (refl, refl))
    (subst (λ (r : List Staged). LogsStand start.blocks r now.held now.stored) (sym none) tt)

pub returns-in_err-write_log-clause-failed : goal.returns-in_err-write_log-clause-failed
returns-in_err-write_log-clause-failed g c =
    let p = err_from_is_err_and c.from_residual.result c.from_residual.ensures.1 in
    let after : Failures = g.D.Device.failed c.write_log.new.self.device in
    rw p.1 (subst (λ (before : Failures). FailsToWrite before after) c.loop-staged.invariant.unfailed
    c.in_err-write_log.ensures.failed)

pub returns-in_err-write_log-clause-counted : goal.returns-in_err-write_log-clause-counted
returns-in_err-write_log-clause-counted g c =
    let after : Failures = g.D.Device.failed c.write_log.new.self.device in
    subst (λ (before : Failures). CountsWrites before after) c.loop-staged.invariant.unfailed
    c.in_err-write_log.ensures.counted

pub returns-in_err-write_log-clause-others : goal.returns-in_err-write_log-clause-others
returns-in_err-write_log-clause-others g c =
    let inv = c.loop-staged.invariant in
    let s : Segments = c.loop-staged.self.table in
    let x : Staged = c.in-Some.staged in
    let blocks : ℕ = c.args.self.now.table.blocks in
    let device = g.D.Device in
    let then : SpaceContent =
    space_content s c.loop-staged.self.payload (device.pages c.loop-staged.self.device) in
    let now : SpaceContent =
    space_content c.write_log.new.self.table c.write_log.new.self.payload
    (device.pages c.write_log.new.self.device) in
    λ b outside.
    let o = inv.others b outside in
    let split : IsOutside blocks b x.log
    × AllByRecursion (IsOutside blocks b) (logs_of (into_iter_items c.next.new.self)) =
    subst (λ (r : List Staged). AllByRecursion (IsOutside blocks b) (logs_of r)) c.in-Some.ensures.steps.0
    o.0 in
    let here : IsSameAt then now b =
    same_outside s.blocks x.log
    then now b c.in_err-write_log.ensures.others
    (subst (λ (n : ℕ). IsOutside n b x.log) (sym inv.size) split.0) in
    (here.0 ∙ o.1.0, here.1 ∙ o.1.1)

pub returns-clause-table : goal.returns-clause-table
returns-clause-table g c =
    let inv = c.loop-staged.invariant in
    let start : Segments = c.args.self.now.table in
    let none : into_iter_items c.loop-staged.staged-iterator ≡ [] =
    no_items (into_iter_items c.loop-staged.staged-iterator) (sym inv.long ∙ c.in-None.ensures.steps.0) in
    subst (λ (r : List Staged).
    with_logs c.loop-staged.self.table (logs_of r) c.args.now
    ≡ with_logs start (logs_of c.args.all.items) c.args.now)
    none inv.table

pub returns-clause-others : goal.returns-clause-others
returns-clause-others g c = λ b outside. (c.loop-staged.invariant.others b outside).1

pub returns-clause-used_stay : goal.returns-clause-used_stay
returns-clause-used_stay g c = c.loop-staged.invariant.used_stay

pub returns-clause-stays : goal.returns-clause-stays
returns-clause-stays g c = c.loop-staged.invariant.stays

pub loop-staged-preserved : goal.loop-staged-preserved
loop-staged-preserved g c =
    let inv = c.loop-staged.invariant in
    let device = g.D.Device in
    let s : Segments = c.loop-staged.self.table in
    let t : Segments = c.write_log.new.self.table in
    let x : Staged = c.in-Some.staged in
    let rest : List Staged = into_iter_items c.next.new.self in
    let stamp : ℕ = c.args.now in
    let start : Segments = c.args.self.now.table in
    let blocks : ℕ = start.blocks in
    let before : SpaceContent =
    space_content start c.args.self.now.payload (device.pages c.args.self.now.device) in
    let then : SpaceContent =
    space_content s c.loop-staged.self.payload (device.pages c.loop-staged.self.device) in
    let now : SpaceContent =
    space_content t c.write_log.new.self.payload (device.pages c.write_log.new.self.device) in
    let first : into_iter_items c.loop-staged.staged-iterator ≡ x ∷ rest = c.in-Some.ensures.steps.0 in
    let next : IsNextLog s x.log × AreNextLogs (with_log s x.log stamp) stamp (logs_of rest) =
    subst (λ (r : List Staged). AreNextLogs s stamp (logs_of r)) first inv.next in
    let ready : IsReady x × AllByRecursion IsReady rest =
    subst (λ (r : List Staged). AllByRecursion IsReady r) first inv.ready in
    let stamps : (x.stamp ≡ stamp) × AllByRecursion (λ y. y.stamp ≡ stamp) rest =
    subst (λ (r : List Staged). AllByRecursion (λ y. y.stamp ≡ stamp) r) first inv.stamps in
    let table : t ≡ with_log s x.log stamp =
    c.in_ok-write_log.ensures.table ∙ ap (λ (n : ℕ). with_log s x.log n) stamps.0 in
    let stays : StaysUsed s t = subst (StaysUsed s) (sym table) (stays_with_log s x.log stamp next.0) in
    let kept : KeepsUsed s then now =
    log_keeps s x.log then now inv.tidy next.0 c.in_ok-write_log.ensures.others in
    let tables =
    subst (λ (r : List Staged).
    with_logs s (logs_of r) stamp ≡ with_logs start (logs_of c.args.all.items) stamp)
    first inv.table in
    record {
      can = tt;
      finite = tt;
      goes = tt;
      long = (let l = ap length first in omega (arith, inv.long, l, c.in-Some.ensures.steps.1));
      size = ap (λ (u : Segments). u.blocks) table ∙ inv.size;
      tidy = subst AreTidy (sym table) (tidy_with_log s x.log stamp inv.tidy next.0.is_log.inside);
      next = subst (λ (u : Segments). AreNextLogs u stamp (logs_of rest)) (sym table) next.1;
      ready = ready.1;
      stamps = stamps.1;
      table = ap (λ (u : Segments). with_logs u (logs_of rest) stamp) table ∙ tables;
      broken = λ later keeps h.
          inv.broken later (keeps_on s t then now later kept stays keeps)
          (subst (λ (r : List Staged). BreaksOff stamp r then later) (sym first)
          (breaks_on stamp x rest
          then now later next.0 table ready.0.count c.in_ok-write_log.ensures.stands
          c.in_ok-write_log.ensures.others keeps h));
      unfailed = c.in_ok-write_log.ensures.unfailed ∙ inv.unfailed;
      used_stay = keeps_on start s before then now inv.used_stay inv.stays kept;
      stays = stays_on start s t inv.stays stays;
      others = λ b outside.
          let o = inv.others b outside in
          let split : IsOutside blocks b x.log × AllByRecursion (IsOutside blocks b) (logs_of rest) =
          subst (λ (r : List Staged). AllByRecursion (IsOutside blocks b) (logs_of r)) first o.0 in
          let here : IsSameAt then now b =
          same_outside s.blocks x.log
          then now b c.in_ok-write_log.ensures.others
          (subst (λ (n : ℕ). IsOutside n b x.log) (sym inv.size) split.0) in
          (split.1, (here.0 ∙ o.1.0, here.1 ∙ o.1.1));
      stand = λ later keeps more.
          let stands : StandsFrom (first_block s.blocks x.log) (whole_of x) later.held later.stored =
          log_stays s t x.log stamp
          (whole_of x) now later next.0 table ready.0.count c.in_ok-write_log.ensures.stands keeps in
          inv.stand later (keeps_on s t then now later kept stays keeps)
          (subst (λ (r : List Staged). LogsStand blocks r later.held later.stored) (sym first) (
            subst (λ (n : ℕ). StandsFrom (first_block n x.log) (whole_of x) later.held later.stored) inv.size
                stands,
            more,
          ));
    }
