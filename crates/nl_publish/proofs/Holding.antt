-- What the steps of the locked state keep.
use Rattle.std.proofs.Common.{◌≡◌, ◌≢◌, ◌<◌, ℕ, eqb, Bool, true, false, Option, List, [], ◌∷◌, ◌++◌, length, fold, refl, ap, sym, ◌∙◌, subst, arith, append_assoc, length-append, ◌==◌, get_or, remove, MatchBool}
use Rattle.std.proofs.lemmas.List.{append-nil}
use Rattle.std.proofs.lemmas.Bool.{eqb-false, eqb-true}
use Rattle.std.proofs.lemmas.Bool.Decides.{nat_tests}
use mathlib.Core.List.{IsPrefix}
use Rattle.logbook.specs.Pages.{Book}
use Rattle.nl_types.specs.declared.event.Event.{Event}
use Rattle.nl_types.specs.Plain.Worlds.{Reply}
use Rattle.nl_commit.specs.declared.commit.Commit.{Commit}
use Rattle.nl_commit.specs.Shown.{Shown, nothing}
use Rattle.nl_commit.specs.Commits.{AllNext, IsHistory, applied, shown_after}
use Rattle.nl_commit.specs.Layout.{Layout}
use Rattle.nl_commit.specs.Notes.{shown_of}
use Rattle.nl_publish.specs.declared.reader_state.ReaderState.{ReaderState}
use Rattle.nl_publish.specs.declared.reader_state.Entry.{Entry}
use Rattle.nl_publish.specs.Histories.{IsBegun, Known}
use Rattle.nl_publish.specs.States.{IsNextEntry, AreNext, absorbed}
use Rattle.nl_publish.specs.Locks.{IsHeld, IsHeldPen, NotedStep}
use Rattle.nl_publish.proofs.Fronts.{prefix_self, prefix_length, prefix_trans, prefix_whole}
use Rattle.nl_publish.specs.Facts.Growing.{begun_more, fold-grows, history_more, history_start}
use Rattle.nl_publish.proofs.Keeping.{fold_whole, fold_book, fold_prefix}

-- ---- entries that follow one another

pub next_start : (i : ReaderState) (es fs : List Entry) → AreNext i (es ++ fs) → AreNext i es
next_start i [] fs h = tt
next_start i (e ∷ es) fs h = (h.0, next_start (absorbed i e) es fs h.1)

next_rest : (i : ReaderState) (es fs : List Entry) → AreNext i (es ++ fs) → AreNext (fold absorbed i es) fs
next_rest i [] fs h = h
next_rest i (e ∷ es) fs h = next_rest (absorbed i e) es fs h.1

fold_append : (i : ReaderState) (es fs : List Entry)
    → fold absorbed i (es ++ fs) ≡ fold absorbed (fold absorbed i es) fs
fold_append i [] fs = refl
fold_append i (e ∷ es) fs = fold_append (absorbed i e) es fs

next_more : (i : ReaderState) (es : List Entry) (e : Entry) → AreNext i es → IsNextEntry (fold absorbed i es) e
    → AreNext i (es ++ e ∷ [])
next_more i [] e h n = (n, tt)
next_more i (x ∷ es) e h n = (h.0, next_more (absorbed i x) es e h.1 n)

-- ---- the steps

module _ (book : ℕ → Book) (log : ℕ) where
  module _ (p p' : ReaderState) (us us' ls : List Entry) (noted : Known) (waiting : List Commit) (pen : Shown) where
    -- publishing keeps the equation
    pub shows : (b : Bool) → MatchBool b ((p' ≡ fold absorbed p us) × (us' ≡ [])) ((p' ≡ p) × (us' ≡ us))
        → IsHeld book log p (us ++ ls) noted waiting pen → IsHeld book log p' (us' ++ ls) noted waiting pen
    shows true is h =
        subst (λ (q : ReaderState). IsHeld book log q (us' ++ ls) noted waiting pen) (sym is.0)
        (subst (λ (l : List Entry). IsHeld book log (fold absorbed p us) (l ++ ls) noted waiting pen)
        (sym is.1) (record {
          volume = h.volume;
          book_is = fold_book p us (next_start p us ls h.next) ∙ h.book_is;
          whole = fold_whole p us h.whole (next_start p us ls h.next);
          next = next_rest p us ls h.next;
          last = h.last ∙ ap (λ (q : ReaderState). q.seen.log) (fold_append p us ls);
          history = h.history;
          shown_is = h.shown_is;
        }))
    shows false is h =
        subst (λ (q : ReaderState). IsHeld book log q (us' ++ ls) noted waiting pen) (sym is.0)
        (subst (λ (l : List Entry). IsHeld book log p (l ++ ls) noted waiting pen) (sym is.1) h)

    pub shows_more : (b : Bool) → MatchBool b ((p' ≡ fold absorbed p us) × (us' ≡ [])) ((p' ≡ p) × (us' ≡ us))
        → IsHeld book log p (us ++ ls) noted waiting pen → IsPrefix p.seen.log p'.seen.log
    shows_more true is h =
        subst (λ (q : ReaderState). IsPrefix p.seen.log q.seen.log) (sym is.0)
        (fold_prefix p us (next_start p us ls h.next))
    shows_more false is h =
        subst (λ (q : ReaderState). IsPrefix p.seen.log q.seen.log) (sym is.0) (prefix_self p.seen.log)

  module _ (p : ReaderState) (es : List Entry) (noted : Known) where
    -- an event's commits wait, and the pen is where they lead
    pub runs : (waiting waiting' : List Commit) (old new : Layout) (event : Event) (r : Reply)
        → NotedStep (old, waiting) event r (new, waiting') → IsHeld book log p es noted waiting (shown_of old)
        → IsHeld book log p es noted waiting' (shown_of new)
    runs waiting waiting' old new event r is h =
        let log_is : noted.commits ++ waiting' ≡ (noted.commits ++ waiting) ++ is.more =
        ap (λ l. noted.commits ++ l) is.behind ∙ sym (append_assoc noted.commits waiting is.more) in
        record {
          volume = h.volume;
          book_is = h.book_is;
          whole = h.whole;
          next = h.next;
          last = h.last;
          history =
              subst IsHistory (sym log_is)
              (history_more (noted.commits ++ waiting) is.more h.history
              (subst (λ (x : Shown). AllNext x is.more) h.shown_is is.noted.next));
          shown_is =
              is.noted.state
              ∙ (ap (λ (x : Shown). fold applied x is.more) h.shown_is
              ∙ (sym (fold-grows nothing (noted.commits ++ waiting) is.more) ∙ ap shown_after (sym log_is)));
        }

    -- the first commit that waits is noted
    pub notes : (c : Commit) (rest : List Commit) (pen : Shown) (noted' : Known) (e : Entry)
        → noted'.volume ≡ noted.volume → noted'.commits ≡ noted.commits ++ c ∷ []
        → e.commit ≡ c → e.count ≡ length noted'.commits → e.seen.log ≡ noted'.commits
        → e.seen.book ≡ book noted'.volume
        → IsHeld book log p es noted (c ∷ rest) pen → IsHeld book log p (es ++ e ∷ []) noted' rest pen
    notes c rest pen noted' e volume commits commit count log_is book_is h =
        let all : noted.commits ++ (c ∷ rest) ≡ noted'.commits ++ rest =
        sym (append_assoc noted.commits (c ∷ []) rest) ∙ ap (λ l. l ++ rest) (sym commits) in
        let history : IsHistory (noted'.commits ++ rest) = subst IsHistory all h.history in
        let one : IsNextEntry (fold absorbed p es) e = record {
          book = book_is ∙ (ap book (volume ∙ sym h.volume) ∙ (sym h.book_is ∙ sym (fold_book p es h.next)));
          log =
              log_is
              ∙ (commits
              ∙ (ap (λ l. l ++ c ∷ []) h.last
              ∙ ap (λ (k : Commit). (fold absorbed p es).seen.log ++ k ∷ []) (sym commit)));
          count = count ∙ ap length (sym log_is);
          history =
              subst IsHistory (sym (log_is ∙ commits))
              (begun_more noted.commits c
              (subst IsBegun commits (history_start noted'.commits rest history)));
        } in
        record {
          volume = h.volume ∙ sym volume;
          book_is = h.book_is;
          whole = h.whole;
          next = next_more p es e h.next one;
          last = sym log_is ∙ ap (λ (q : ReaderState). q.seen.log) (sym (fold_append p es (e ∷ [])));
          history = history;
          shown_is = h.shown_is ∙ ap shown_after all;
        }

    -- where nothing waits, a published history as long as the noted one is all
    pub settles : (pen : Shown) → IsHeld book log p es noted [] pen → p.count ≡ length noted.commits
        → p.seen.log ≡ noted.commits ++ []
    settles pen h same =
        let pre : IsPrefix p.seen.log noted.commits =
        subst (IsPrefix p.seen.log) (sym h.last) (fold_prefix p es h.next) in
        prefix_whole p.seen.log noted.commits pre (omega (arith, h.whole.count, same))
        ∙ sym (append-nil noted.commits)

    -- where nothing waits, the counts tell whether all is published
    pub settled : (pen : Shown) (b : Bool) → eqb p.count (length noted.commits) ≡ b
        → IsHeld book log p es noted [] pen
        → MatchBool b (p.seen.log ≡ noted.commits ++ []) (p.seen.log ≢ noted.commits ++ [])
    settled pen true is h = settles pen h (eqb-true _ _ is)
    settled pen false is h = λ same.
        absurd (eqb-false p.count (length noted.commits) is
        (h.whole.count ∙ (ap length same ∙ ap length (append-nil noted.commits))))

    -- where something waits, it is not all
    pub pending : (waiting : List Commit) (pen : Shown) → IsHeld book log p es noted waiting pen
        → length waiting ≢ 0
        → p.seen.log ≢ noted.commits ++ waiting
    pending waiting pen h some same =
        let pre : IsPrefix p.seen.log noted.commits =
        subst (IsPrefix p.seen.log) (sym h.last) (fold_prefix p es h.next) in
        let none : length waiting ≡ 0 =
        omega (
          arith,
          prefix_length p.seen.log noted.commits pre,
          ap length same,
          length-append noted.commits waiting,
        ) in
        absurd (some none)

    -- a beginning of the history is published
    pub told : (waiting : List Commit) (layout : Layout) (volume unsent refusals : ℕ) (lost : Option ℕ)
        → IsHeld book log p es noted waiting (shown_of layout)
        → IsHeldPen (record {
          volume = volume;
          published = p.seen.log;
          history = noted.commits ++ waiting;
          unsent = unsent;
          lost = lost;
          layout = layout;
          refusals = refusals;
        })
    told waiting layout volume unsent refusals lost h = record {
      history = h.history;
      shown = h.shown_is;
      published = prefix_trans p.seen.log noted.commits (noted.commits ++ waiting)
          (subst (IsPrefix p.seen.log) (sym h.last) (fold_prefix p es h.next)) (waiting, refl);
    }

is_empty : {A : Type 0} (xs : List A) → (length xs == 0) ≡ true → xs ≡ []
is_empty [] is = refl
is_empty (x ∷ xs) is = absurd (grind (arith, nat_tests))

pub empty_where : {A : Type 0} (xs : List A) (b : Bool) → b ≡ (length xs == 0) → b ≡ true → xs ≡ []
empty_where xs b is so = is_empty xs (sym is ∙ so)

pub headed : {A : Type 0} (xs : List A) (x : A) → 0 < length xs → x ≡ get_or xs 0 x → xs ≡ x ∷ remove xs 0
headed [] x some at = absurd (omega (arith, some))
headed (y ∷ ys) x some at = ap (λ z. z ∷ ys) (sym at)

pub same_head : {A : Type 0} (xs : List A) (x y : A) → 0 < length xs → x ≡ get_or xs 0 x → y ≡ get_or xs 0 y
    → x ≡ y
same_head [] x y some at bt = absurd (omega (arith, some))
same_head (z ∷ zs) x y some at bt = at ∙ sym bt

-- the same state and the same entries
pub held_at : (book : ℕ → Book) (log : ℕ) (p p' : ReaderState) (es es' : List Entry) (noted : Known)
    (waiting : List Commit) (pen : Shown)
    → p' ≡ p → es' ≡ es
    → IsHeld book log p es noted waiting pen → IsHeld book log p' es' noted waiting pen
held_at book log p p' es es' noted waiting pen state entries h =
    subst (λ (q : ReaderState). IsHeld book log q es' noted waiting pen) (sym state)
    (subst (λ (l : List Entry). IsHeld book log p l noted waiting pen) (sym entries) h)

-- a step that is noted behind what waits is noted behind the whole history
pub noted_of : (before waiting waiting' : List Commit) (old new : Layout) (event : Event) (r : Reply)
    → NotedStep (old, waiting) event r (new, waiting')
    → NotedStep (old, before ++ waiting) event r (new, before ++ waiting')
noted_of before waiting waiting' old new event r is = record {
  does = is.does;
  more = is.more;
  noted = is.noted;
  behind = ap (λ l. before ++ l) is.behind ∙ sym (append_assoc before waiting is.more);
}
