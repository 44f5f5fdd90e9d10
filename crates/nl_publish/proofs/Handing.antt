-- How commits are handed over, and shown.
use Rattle.std.proofs.Common.{◌≡◌, ℕ, ◌+◌, ◌<◌, ◌≤◌, ◌==◌, not, Bool, true, false, Option, None, Some, List, [], ◌∷◌, ◌++◌, length, fold, refl, ap, sym, ◌∙◌, subst, arith, append_assoc, MatchBool}
use Rattle.std.proofs.lemmas.List.{append-nil}
use Rattle.std.proofs.lemmas.Bool.{eqb-false, eqb-true}
use Rattle.logbook.specs.Pages.{Book}
use Rattle.nl_commit.specs.declared.commit.Commit.{Commit}
use Rattle.nl_commit.specs.Layout.{Layout}
use Rattle.nl_commit.specs.Shown.{Shown}
use Rattle.nl_publish.specs.declared.reader_state.ReaderState.{ReaderState}
use Rattle.nl_publish.specs.declared.reader_state.Entry.{Entry}
use Rattle.nl_publish.specs.Histories.{Known}
use Rattle.nl_publish.specs.States.{HasShown, absorbed}
use Rattle.nl_publish.specs.Locks.{HeldPen, IsHeld, StaysHeld, listed}
use Rattle.nl_publish.specs.Noting.{EntryComes, Noted, WasLeft}
use Rattle.nl_publish.specs.Refusals.{HasRefused}
use Rattle.nl_publish.proofs.Counting.{refused_left}
use Rattle.nl_publish.proofs.Holding.{notes}
use Rattle.nl_publish.proofs.Running.{keeps_noted}

-- what is seen of what lies under a lock
abbrev pub held_view : ReaderState → Known → Option Entry → List Commit → Option ℕ → Layout → ℕ → HeldPen
held_view state noted unsent waiting lost layout refusals = record {
  volume = noted.volume;
  published = state.seen.log;
  history = noted.commits ++ waiting;
  unsent = length (listed unsent) + length waiting;
  lost = lost;
  layout = layout;
  refusals = refusals;
}

-- ---- one entry

module _ (book : ℕ → Book) (unsent : Option Entry) (noted noted' : Known) (waiting waiting' : List Commit)
    (e : Entry) where
  comes_volume : EntryComes book unsent noted waiting noted' waiting' e → noted'.volume ≡ noted.volume
  comes_volume (WasLeft is same all) = ap (λ (k : Known). k.volume) same
  comes_volume (Noted none at) = at.volume

  comes_history : EntryComes book unsent noted waiting noted' waiting' e
      → noted'.commits ++ waiting' ≡ noted.commits ++ waiting
  comes_history (WasLeft is same all) =
      ap (λ (k : Known). k.commits ++ waiting') same ∙ ap (λ (l : List Commit). noted.commits ++ l) all
  comes_history (Noted none at) =
      ap (λ (l : List Commit). l ++ waiting') at.commits
      ∙ (append_assoc noted.commits (e.commit ∷ []) waiting'
      ∙ ap (λ (l : List Commit). noted.commits ++ l) (sym at.first))

  -- one commit less is left
  pub fewer : (after : Option Entry) → EntryComes book unsent noted waiting noted' waiting' e → after ≡ None
      → length (listed after) + length waiting' < length (listed unsent) + length waiting
  fewer after (WasLeft is same all) none = rw (none, is, all) (omega arith)
  fewer after (Noted was at) none = rw (none, was, at.first) (omega arith)

  -- the entry is behind those of the writer
  pub comes_held : (log : ℕ) (p : ReaderState) (us : List Entry) (pen : Shown)
      → EntryComes book unsent noted waiting noted' waiting' e
      → IsHeld book log p (us ++ listed unsent) noted waiting pen
      → IsHeld book log p (us ++ e ∷ []) noted' waiting' pen
  comes_held log p us pen (WasLeft is same all) h =
      subst (λ (k : Known). IsHeld book log p (us ++ e ∷ []) k waiting' pen) (sym same)
      (subst (λ (l : List Commit). IsHeld book log p (us ++ e ∷ []) noted l pen) (sym all)
      (subst (λ (o : Option Entry). IsHeld book log p (us ++ listed o) noted waiting pen) is h))
  comes_held log p us pen (Noted none at) h =
      let here : IsHeld book log p us noted (e.commit ∷ waiting') pen =
      subst (λ (l : List Commit). IsHeld book log p us noted l pen) at.first
      (subst (λ (l : List Entry). IsHeld book log p l noted waiting pen) (append-nil us)
      (subst (λ (o : Option Entry). IsHeld book log p (us ++ listed o) noted waiting pen) none h)) in
      notes book log p us noted e.commit waiting' pen noted' e at.volume at.commits refl at.count at.log
      at.book_is here

  pub comes_keeps : (p p' : ReaderState) (after : Option Entry) (was : Option ℕ) (layout : Layout) (n n' : ℕ)
      → EntryComes book unsent noted waiting noted' waiting' e → p' ≡ p → n ≤ n'
      → StaysHeld (held_view p noted unsent waiting was layout n) (held_view p' noted' after waiting' was layout n')
  comes_keeps p p' after was layout n n' comes state less =
      subst (λ (q : ReaderState).
      StaysHeld (held_view p noted unsent waiting was layout n) (held_view q noted' after waiting' was layout n'))
      (sym state)
      (keeps_noted (held_view p noted unsent waiting was layout n) noted'.volume (noted'.commits ++ waiting')
      (length (listed after) + length waiting') n' (comes_volume comes) (comes_history comes) less)

-- nothing came, and all is as it was
module _ (book : ℕ → Book) (log log' : ℕ) (unsent unsent' : Option Entry) (noted noted' : Known)
    (waiting waiting' : List Commit) (own : log' ≡ log) (none : unsent ≡ None) (out : unsent' ≡ None)
    (left : noted' ≡ noted) (waits : waiting' ≡ waiting) where
  pub nothing_held : (p : ReaderState) (us : List Entry) (pen : Shown)
      → IsHeld book log p (us ++ listed unsent) noted waiting pen
      → IsHeld book log' p (us ++ listed unsent') noted' waiting' pen
  nothing_held p us pen h =
      subst (λ (n : ℕ). IsHeld book n p (us ++ listed unsent') noted' waiting' pen) (sym own)
      (subst (λ (o : Option Entry). IsHeld book log p (us ++ listed o) noted' waiting' pen) (none ∙ sym out)
      (subst (λ (k : Known). IsHeld book log p (us ++ listed unsent) k waiting' pen) (sym left)
      (subst (λ (l : List Commit). IsHeld book log p (us ++ listed unsent) noted l pen) (sym waits) h)))

  pub nothing_keeps : (p : ReaderState) (was : Option ℕ) (layout : Layout) (n n' : ℕ) → n ≤ n'
      → StaysHeld (held_view p noted unsent waiting was layout n) (held_view p noted' unsent' waiting' was layout n')
  nothing_keeps p was layout n n' less =
      keeps_noted (held_view p noted unsent waiting was layout n) noted'.volume (noted'.commits ++ waiting')
      (length (listed unsent') + length waiting') n' (ap (λ (k : Known). k.volume) left)
      (ap (λ (k : Known). k.commits ++ waiting') left ∙ ap (λ (l : List Commit). noted.commits ++ l) waits)
      less

-- the writer took it
pub taken_in : (us us' : List Entry) (after : Option Entry) (e : Entry) → us' ≡ us ++ e ∷ [] → after ≡ None
    → us' ++ listed after ≡ us ++ e ∷ []
taken_in us us' after e pushed none =
    ap (λ (l : List Entry). l ++ listed after) pushed
    ∙ (ap (λ (o : Option Entry). (us ++ e ∷ []) ++ listed o) none ∙ append-nil (us ++ e ∷ []))

-- or it is left
pub left_over : (us us' : List Entry) (after : Option Entry) (e f : Entry) → us' ≡ us → after ≡ Some f → f ≡ e
    → us' ++ listed after ≡ us ++ e ∷ []
left_over us us' after e f same is back =
    ap (λ (l : List Entry). l ++ listed after) same
    ∙ (ap (λ (o : Option Entry). us ++ listed o) is ∙ ap (λ (x : Entry). us ++ x ∷ []) back)

-- ---- whether a commit is left

pub entry_left : (o : Option Entry) (waiting : List Commit) (e : Entry) → o ≡ Some e
    → 0 < length (listed o) + length waiting
entry_left o waiting e is = rw is (omega arith)

waits_by : (waiting : List Commit) (b : Bool) → (length waiting == 0) ≡ b
    → MatchBool (not b) (0 < 0 + length waiting) (0 + length waiting ≡ 0)
waits_by waiting true is = let none = eqb-true (length waiting) 0 is in omega (arith, none)
waits_by waiting false is = let some = eqb-false (length waiting) 0 is in omega (arith, some)

pub commit_left : (o : Option Entry) (waiting : List Commit) (b : Bool) → o ≡ None → b ≡ (length waiting == 0)
    → MatchBool (not b) (0 < length (listed o) + length waiting) (length (listed o) + length waiting ≡ 0)
commit_left o waiting b none is =
    subst (λ (e : Option Entry).
    MatchBool (not b) (0 < length (listed e) + length waiting) (length (listed e) + length waiting ≡ 0))
    (sym none) (waits_by waiting b (sym is))

-- ---- what is shown

none_listed : (o : Option Entry) (waiting : List Commit) → length (listed o) + length waiting ≡ 0
    → (listed o ≡ []) × (waiting ≡ [])
none_listed None [] none = (refl, refl)
none_listed None (c ∷ waiting) none = absurd (omega (arith, none))
none_listed (Some e) waiting none = absurd (omega (arith, none))

module _ (book : ℕ → Book) (log : ℕ) (p p' : ReaderState) (us us' : List Entry) (unsent : Option Entry) (noted : Known)
    (waiting : List Commit) (pen : Shown) where
  all_shown : p' ≡ fold absorbed p us → IsHeld book log p (us ++ listed unsent) noted waiting pen
      → length (listed unsent) + length waiting ≡ 0 → p'.seen.log ≡ noted.commits ++ waiting
  all_shown is h none =
      let empty = none_listed unsent waiting none in
      let last : noted.commits ≡ (fold absorbed p us).seen.log =
      h.last
      ∙ ap (λ (l : List Entry). (fold absorbed p l).seen.log)
      (ap (λ (l : List Entry). us ++ l) empty.0 ∙ append-nil us) in
      ap (λ (q : ReaderState). q.seen.log) is
      ∙ (sym last
      ∙ (sym (append-nil noted.commits) ∙ ap (λ (l : List Commit). noted.commits ++ l) (sym empty.1)))

  -- where all was handed over, all is published, or that was refused
  pub shown_so : (n n' r : ℕ) (b : Bool) → HasShown b p us p' us' → MatchBool b (n' ≡ n) (HasRefused n n')
      → IsHeld book log p (us ++ listed unsent) noted waiting pen
      → MatchBool b (length (listed unsent) + length waiting ≡ 0 → p'.seen.log ≡ noted.commits ++ waiting)
      (HasRefused (n + r) (n' + r))
  shown_so n n' r true is counted h = all_shown is.0 h
  shown_so n n' r false is counted h = refused_left n n' r counted
