-- The steps keep the rule of published states.
use Rattle.std.proofs.Common.{◌≡◌, ℕ, zero, suc, ◌≢◌, List, [], ◌∷◌, fold, set, refl, subst, ap, sym, ◌∙◌, ⊎_elim, inl, inr}
use mathlib.Core.Option.{some}
use mathlib.Core.List.{IsPrefix}
use lib.ListN.{get_elem?}
use Rattle.left_right.specs.Register.{Admits, TurnsAt, Forks, Merges}
use Rattle.atomic_table.proofs.Lists.{at_set, at_snoc}
use Rattle.logbook.specs.Pages.{Book}
use Rattle.nl_publish.specs.declared.reader_state.ReaderState.{ReaderState}
use Rattle.nl_publish.specs.declared.reader_state.Entry.{Entry}
use Rattle.nl_commit.specs.Shown.{Shown}
use Rattle.nl_commit.specs.Commits.{applied}
use Rattle.nl_commit.specs.Commits.{shown_after}
use Rattle.nl_publish.specs.States.{Knows, Kept, Looks, Learns, IsWhole, IsNextEntry, AreNext, absorbed, name_of}
use Rattle.nl_publish.proofs.Fronts.{prefix_self, prefix_trans}
use Rattle.nl_publish.specs.Facts.Growing.{fold-grows}

-- ---- absorbing

pub absorbs_whole : (i : ReaderState) (e : Entry) → IsWhole i → IsNextEntry i e → IsWhole (absorbed i e)
absorbs_whole i e w n = record {
  shown =
      ap (λ (x : Shown). applied x e.commit) w.shown
      ∙ (sym (fold-grows _ i.seen.log (e.commit ∷ [])) ∙ ap shown_after (sym n.log));
  count = n.count;
  history = n.history;
}

pub fold_whole : (i : ReaderState) (es : List Entry) → IsWhole i → AreNext i es → IsWhole (fold absorbed i es)
fold_whole i [] w next = w
fold_whole i (e ∷ es) w next = fold_whole (absorbed i e) es (absorbs_whole i e w next.0) next.1

pub fold_book : (i : ReaderState) (es : List Entry) → AreNext i es → (fold absorbed i es).seen.book ≡ i.seen.book
fold_book i [] next = refl
fold_book i (e ∷ es) next = fold_book (absorbed i e) es next.1 ∙ next.0.book

pub fold_prefix : (i : ReaderState) (es : List Entry) → AreNext i es
    → IsPrefix i.seen.log (fold absorbed i es).seen.log
fold_prefix i [] next = prefix_self i.seen.log
fold_prefix i (e ∷ es) next =
    prefix_trans i.seen.log e.seen.log (fold absorbed (absorbed i e) es).seen.log
    (e.commit ∷ [], sym next.0.log) (fold_prefix (absorbed i e) es next.1)

-- ---- the rule

pub admits : Admits Kept []
admits i views h = record {
  whole = h.whole;
  known = λ seat v at. ⊎_elim (h.known seat v) (λ (e : [] ≡ v). inl (sym e)) (at_snoc views [] v seat at);
}

knows_on : (x y : ReaderState) → y.seen.book ≡ x.seen.book → (v : List ℕ) → Knows v x → Knows v y
knows_on x y same v (inl e) = inl e
knows_on x y same v (inr e) = inr (e ∙ ap name_of (sym same))

set_keeps : (i : ReaderState) (views : List (List ℕ)) (seat : ℕ) (v : List ℕ) → Knows v i
    → ((j : ℕ) (u : List ℕ) → get_elem? views j ≡ some u → Knows u i) → (j : ℕ) (u : List ℕ)
    → get_elem? (set views seat v) j ≡ some u → Knows u i
set_keeps i views seat v known h j u e =
    ⊎_elim (λ (t : (j ≡ seat) × (v ≡ u)). subst (λ (z : List ℕ). Knows z i) t.1 known)
    (λ (t : (j ≢ seat) × (get_elem? views j ≡ some u)). h j u t.1) (at_set views seat j v u e)

pub turns : (seat : ℕ) (v : List ℕ) (x y : ReaderState) → y.seen.book ≡ x.seen.book → (IsWhole x → IsWhole y)
    → TurnsAt Kept seat v x y Looks
turns seat v x y same ok views h at =
    let known : Knows v y = knows_on x y same v (h.known seat v at) in (
      v,
      record {
        whole = ok h.whole;
        known = set_keeps y views seat v known (λ j u e. knows_on x y same u (h.known j u e));
      },
      (ok h.whole, known, refl),
    )

pub learns : (seat : ℕ) (v : List ℕ) (x y : ReaderState) → y.seen.book ≡ x.seen.book → (IsWhole x → IsWhole y)
    → TurnsAt Kept seat v x y Learns
learns seat v x y same ok views h at = (
  name_of y.seen.book,
  record {
    whole = ok h.whole;
    known =
        set_keeps y views seat (name_of y.seen.book) (inr refl)
        (λ j u e. knows_on x y same u (h.known j u e));
  },
  refl,
)

-- what a publication of entries that follow does
pub shows : (seat : ℕ) (v : List ℕ) (x next : ReaderState) (es : List Entry) → AreNext x es
    → next ≡ fold absorbed x es → TurnsAt Kept seat v x next Looks
shows seat v x next es are is =
    turns seat v x next (ap (λ (i : ReaderState). i.seen.book) is ∙ fold_book x es are)
    (λ w. subst IsWhole (sym is) (fold_whole x es w are))

pub names : (seat : ℕ) (v : List ℕ) (x next : ReaderState) (es : List Entry) → es ≡ [] → next ≡ fold absorbed x es
    → TurnsAt Kept seat v x next Learns
names seat v x next es none is =
    let same : next ≡ x = is ∙ ap (λ l. fold absorbed x l) none in
    learns seat v x next (ap (λ (i : ReaderState). i.seen.book) same) (λ w. subst IsWhole (sym same) w)

pub forks : (seat : ℕ) (v : List ℕ) → Forks Kept seat v v v
forks seat v x views h at = record {
  whole = h.whole;
  known = λ j u e.
      ⊎_elim (set_keeps x views seat v (h.known seat v at) h.known j u)
      (λ (same : v ≡ u). subst (λ (z : List ℕ). Knows z x) same (h.known seat v at))
      (at_snoc (set views seat v) v u j e);
}

pub merges : (seat : ℕ) (v : List ℕ) (other : ℕ) (w : List ℕ) → Merges Kept seat v other w w []
merges seat v other w x views h at apart there =
    let known : Knows w x =
    ⊎_elim (λ (t : (other ≡ seat) × (w ≡ w)). absurd (apart t.0))
    (λ (t : (other ≢ seat) × (get_elem? views other ≡ some w)). h.known other w t.1)
    (at_set views seat other w w there) in
    record {
      whole = h.whole;
      known = set_keeps x (set views seat w) other [] (inl refl) (set_keeps x views seat w known h.known);
    }

-- a seat that knows a book knows the state's
pub knows_book : (b : Book) (v : List ℕ) (i : ReaderState) → v ≡ name_of b → Knows v i → i.seen.book ≡ b
knows_book b v i is (inl e) = absurd (cc (is, e))
knows_book b v i is (inr e) =
    let all : name_of b ≡ name_of i.seen.book = sym is ∙ e in
    let one : i.seen.book.number ≡ b.number = cc all in
    let two : i.seen.book.log_name ≡ b.log_name = cc all in
    let three : i.seen.book.cells_name ≡ b.cells_name = cc all in
    λ k. record { number = one k; log_name = two k; cells_name = three k }

pub kept_first : (i : ReaderState) → IsWhole i → Kept i ([] ∷ [])
kept_first i w = record { whole = w; known = λ seat v at. inl (first_only seat v at) } where
  first_only : (seat : ℕ) (v : List ℕ) → get_elem? ([] ∷ []) seat ≡ some v → v ≡ []
  first_only zero v at = cc at
  first_only (suc n) v at = absurd (cc at)
