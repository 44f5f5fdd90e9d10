use Rattle.std.specs.List.{filter}
use Rattle.nl_pins.specs.declared.counts.Counts.{Counts}
use Rattle.std.proofs.Common.{◌≡◌, ◌+◌, ◌||◌, nat_lt, ℕ, map, Vec, Bool, List, [], ◌∷◌, ◌++◌, drop, max, not, sym, ap, ◌∙◌, subst}
use Rattle.std.proofs.lemmas.List.{drop_more}
use Rattle.nl_pins.specs.declared.rules.Dated.{Dated}
use Rattle.nl_pins.specs.Counts.{is_kept_by_one}
use Rattle.nl_pins.specs.Retention.{Descend, expired, stays}
use Rattle.nl_pins.proofs.Going.{gone_on, less_is, some_left, where_false, where_true}
use Rattle.nl_pins.proofs.Kept.{FollowAll, follow_on, stays_is}
use Rattle.nl_pins.proofs.Last.{FollowLast, last_is, last_on}
use Rattle.nl_pins.proofs.expiring.expired.Goals as goal
use Rattle.nl_pins.proofs.expiring.expired.Goals.{then-not-stays+in_ok-push, else-not-stays}

pub loop-dated-preserved : goal.loop-dated-preserved
loop-dated-preserved c =
    let rules = c.args.rules.now in let rows = c.args.rows.now in let i = c.loop-dated.dated-index in
    let d = c.dated-item.result in let rest : List Dated = drop (i + 1) rows in
    let was = c.loop-dated.invariant in let counts = c.loop-dated.counts in let left = c.loop-dated.left in
    let split : drop i rows ≡ d ∷ rest =
    drop_more rows i d c.loop-dated-test.true ∙ ap (λ (e : Dated). e ∷ rest) (sym c.dated-item.is) in
    let order = subst (λ (l : List Dated). Descend l) split was.descend in
    let follow = subst (λ (l : List Dated). FollowAll rules rows counts l) split was.follow in
    let last = subst (λ (l : List Dated). FollowLast (max 1 rules.last) rows left l) split was.last in
    let still : stays rules rows d ≡ c.stays.result =
    stays_is rules rows counts d rest order.0 follow
    ∙ (ap (λ (b : Bool). d.is_pinned || (b || is_kept_by_one counts d))
    (last_is (max 1 rules.last) rows left d rest last ∙ sym (some_left left))
    ∙ (ap (λ (b : Bool). d.is_pinned || (nat_lt 0 left || b)) (sym c.keep-is_kept.ensures.kept)
    ∙ sym c.stays.ensures)) in
    record {
      descend = order.1;
      follow =
          subst (λ (k : Counts). FollowAll rules rows k rest) (sym c.keep-is_kept.ensures.counted)
          (follow_on rules rows counts d rest order.0 follow);
      last =
          subst (λ (n : ℕ). FollowLast (max 1 rules.last) rows n rest)
          (sym (c.saturating_sub-left.ensures ∙ less_is left))
          (last_on (max 1 rules.last) rows left d rest order.0 last);
      gone =
          gone_on (λ (e : Dated). e.number) (λ e. not (stays rules rows e)) d rest c.loop-dated.gone.items
          c.if-not-stays.gone.items _ (not c.stays.result) (ap not still)
          (elim c.if-not-stays.branch [
            | then-not-stays+in_ok-push w ↦
                where_true (not c.stays.result) (c.loop-dated.gone.items ++ d.number ∷ []) c.loop-dated.gone.items
                c.if-not-stays.gone.items (ap not w.if-not-stays.true)
                (ap (λ (v : Vec _ _). v.items) w.gone-is ∙ w.in_ok-push.ensures.items)
            | else-not-stays w ↦
                where_false (not c.stays.result) (c.loop-dated.gone.items ++ d.number ∷ []) c.loop-dated.gone.items
                c.if-not-stays.gone.items (ap not w.if-not-stays.false) (ap (λ (v : Vec _ _). v.items) w.gone-is)
          ])
          (subst (λ (l : List Dated). c.loop-dated.gone.items ++ map (λ (e : Dated). e.number) (filter (λ e. not (stays rules rows e)) l) ≡ expired rules rows) split was.gone);
    }
