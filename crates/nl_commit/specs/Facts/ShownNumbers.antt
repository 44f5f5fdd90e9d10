-- What readers see of a store's numbers.
use Rattle.std.proofs.Common.{◌≡◌, ◌≢◌, ℕ, ◌+◌, ◌*◌, ◌<◌, Bool, true, false, cond, eqb, List, [], ◌∷◌, get_or, length, map, Option, Some, None, refl, ap, sym, ◌∙◌, inl, inr, arith}
use Rattle.std.proofs.Math.ListN.{get_or-map, set}
use Rattle.std.proofs.lemmas.Bool.{cases_eq, eq-eqb, ne_eqb}
use Rattle.std.proofs.lemmas.List.{ext_get_or, get_or-set_other, get_or-set_same, length-map, length-set}
use Rattle.std.specs.Option.{option_map}
use Rattle.std.specs.Prelude.{◌||◌}
use Rattle.nl_types.specs.Blocks.Entries.{Birth, Content, Entry, born_at, number_of, period_of}
use Rattle.nl_types.specs.Blocks.Entries as entries
use Rattle.nl_types.specs.Plain.NumberLists.{is_one_of}
use Rattle.nl_types.specs.Blocks.PartialMaps.{adjust, adjust_all, put, put_all}
use Rattle.nl_types.specs.Blocks.Segments.{clean_info, total_blocks}
use Rattle.nl_vstore.specs.Stores.{IsMoved, IsReclaimed, IsStore, IsWritten, Numbered, Store, address_in, content_in, entry_now, is_inside, numbered_in}
use Rattle.nl_vstore.specs.Batches.{Changes}
use Rattle.nl_dat.specs.Facts.BlockCounts.{total-with_logs}
use Rattle.nl_commit.specs.Commits.{begun_at, ended_at, with_births, with_ends, without_numbers}
use Rattle.nl_commit.specs.Layout.{Layout, layout_pages}
use Rattle.nl_commit.specs.Notes.{new_page, shown_of, shown_page}
use Rattle.nl_commit.specs.Shown.{page_of, pages_shown, shown_at}
use Rattle.nl_commit.specs.declared.commit.ShownPage.{ShownPage}

-- what readers see of what a number stands for
abbrev pub shown_entry : Entry → ShownPage
shown_entry e = record { page = e.page; period = period_of e }

-- a list has so many numbers, and shows what each stands for
pub record ShowsAll (n : ℕ) (numbers : List (Option ShownPage)) (content : Content) : Type 0 where
  pub size : length numbers ≡ n
  pub each : (v : ℕ) → v < n → shown_at numbers v ≡ option_map shown_entry (content v)

-- two lists that show the same are the same
pub same-shown : (n : ℕ) (xs ys : List (Option ShownPage)) (content other : Content) → ShowsAll n xs content
    → ShowsAll n ys other
    → ((v : ℕ) → content v ≡ other v) → xs ≡ ys
same-shown n xs ys content other one two same =
    ext_get_or None xs ys (one.size ∙ sym two.size) (λ v low.
    let within : v < n = omega (arith, low, one.size) in
    one.each v within ∙ ap (option_map shown_entry) (same v) ∙ sym (two.each v within))

-- ---- one number changes

-- another thing is shown at a number, which stands for that then
shows-set : (n k : ℕ) (p : Option ShownPage) (numbers : List (Option ShownPage)) (content other : Content)
    → ShowsAll n numbers content → (k < n → p ≡ option_map shown_entry (other k))
    → ((v : ℕ) → v ≢ k → other v ≡ content v)
    → ShowsAll n (set numbers k p) other
shows-set n k p numbers content other shows is others = record {
  size = length-set numbers k p ∙ shows.size;
  each = λ v low. elim (cases_eq v k) [
    | inl same ↦
        ap (λ j. get_or (set numbers k p) j None) same
        ∙ get_or-set_same numbers k p None (omega (arith, same, low, shows.size))
        ∙ is (omega (arith, same, low))
        ∙ ap (λ j. option_map shown_entry (other j)) (sym same)
    | inr apart ↦
        get_or-set_other numbers k v p None apart ∙ shows.each v low
        ∙ ap (option_map shown_entry) (sym (others v apart))
  ];
}

here : {A : Type 0} (k : ℕ) (x y : A) → cond (eqb k k) x y ≡ x
here k x y = ap (λ b. cond b x y) (eq-eqb k k refl)

there : {A : Type 0} (v k : ℕ) (x y : A) → v ≢ k → cond (eqb v k) x y ≡ y
there v k x y apart = ap (λ b. cond b x y) (ne_eqb v k apart)

shows-put : (n k : ℕ) (e : Entry) (numbers : List (Option ShownPage)) (content : Content)
    → ShowsAll n numbers content → ShowsAll n (set numbers k (Some (shown_entry e))) (put content k e)
shows-put n k e numbers content shows =
    shows-set n k (Some (shown_entry e)) numbers content (put content k e) shows
    (λ low. ap (option_map shown_entry) (sym (here k (Some e) (content k))))
    (λ v apart. there v k (Some e) (content v) apart)

ended-shown : (c : ℕ) (o : Option Entry)
    → option_map (ended_at c) (option_map shown_entry o)
    ≡ option_map shown_entry (option_map (entries.ended_at c) o)
ended-shown c None = refl
ended-shown c (Some e) = refl

shows-end : (n k c : ℕ) (numbers : List (Option ShownPage)) (content : Content) → ShowsAll n numbers content
    → ShowsAll n (set numbers k (option_map (ended_at c) (shown_at numbers k)))
    (adjust (entries.ended_at c) content k)
shows-end n k c numbers content shows =
    let ended = option_map (entries.ended_at c) (content k) in
    shows-set n k (option_map (ended_at c) (shown_at numbers k)) numbers content
    (adjust (entries.ended_at c) content k) shows
    (λ low. ap (option_map (ended_at c)) (shows.each k low) ∙ ended-shown c (content k)
    ∙ ap (option_map shown_entry) (sym (here k ended (content k))))
    (λ v apart. there v k (option_map (entries.ended_at c) (content v)) (content v) apart)

-- ---- many change

shows-births : (n c : ℕ) (births : List Birth) (numbers : List (Option ShownPage)) (content : Content)
    → ShowsAll n numbers content
    → ShowsAll n (with_births c (map new_page births) numbers) (put_all number_of (born_at c) births content)
shows-births n c [] numbers content shows = shows
shows-births n c (b ∷ births) numbers content shows =
    shows-births n c births (set numbers b.number (Some (begun_at c (new_page b))))
    (put content b.number (born_at c b))
    (shows-put n b.number (born_at c b) numbers content shows)

shows-ends : (n c : ℕ) (ends : List ℕ) (numbers : List (Option ShownPage)) (content : Content)
    → ShowsAll n numbers content
    → ShowsAll n (with_ends c ends numbers) (adjust_all (entries.ended_at c) ends content)
shows-ends n c [] numbers content shows = shows
shows-ends n c (v ∷ ends) numbers content shows =
    shows-ends n c ends (set numbers v (option_map (ended_at c) (shown_at numbers v)))
    (adjust (entries.ended_at c) content v)
    (shows-end n v c numbers content shows)

-- the content without these numbers
abbrev pub left_of : List ℕ → Content → Content
left_of gone content v = cond (is_one_of gone v) None (content v)

shows-same : (n : ℕ) (numbers : List (Option ShownPage)) (content other : Content)
    → ShowsAll n numbers content
    → ((v : ℕ) → content v ≡ other v) → ShowsAll n numbers other
shows-same n numbers content other shows same =
    record { size = shows.size; each = λ v low. shows.each v low ∙ ap (option_map shown_entry) (same v) }

without-either : {A : Type 0} (a b : Bool) (o : Option A) → cond b None (cond a None o) ≡ cond (a || b) None o
without-either true true o = refl
without-either true false o = refl
without-either false b o = refl

shows-left : (n : ℕ) (gone : List ℕ) (numbers : List (Option ShownPage)) (content : Content)
    → ShowsAll n numbers content
    → ShowsAll n (without_numbers gone numbers) (left_of gone content)
shows-left n [] numbers content shows = shows
shows-left n (k ∷ gone) numbers content shows =
    let one : Content = λ v. cond (eqb v k) None (content v) in
    shows-same n (without_numbers gone (set numbers k None)) (left_of gone one) (left_of (k ∷ gone) content)
    (shows-left n gone (set numbers k None) one
    (shows-set n k None numbers content one shows
    (λ low. ap (option_map shown_entry) (sym (here k None (content k))))
    (λ v apart. there v k None (content v) apart)))
    (λ v. without-either (eqb v k) (is_one_of gone v) (content v))

-- ---- a layout

stripped : (o : Option Numbered) → option_map shown_page o ≡ option_map shown_entry (option_map entry_now o)
stripped None = refl
stripped (Some n) = refl

-- what is shown of each number
pub shown-each : (l : Layout) (v : ℕ)
    → shown_at (shown_of l).numbers v ≡ option_map shown_entry (content_in l.store v)
shown-each l v =
    get_or-map (option_map shown_page) l.store.numbers v None ∙ stripped (get_or l.store.numbers v None)

pub shows-layout : (l : Layout) → ShowsAll (length l.store.numbers) (shown_of l).numbers (content_in l.store)
shows-layout l = record {
  size = length-map l.store.numbers (option_map shown_page);
  each = λ v low. shown-each l v;
}

page-shown : (o : Option Entry)
    → option_map page_of (option_map shown_entry o) ≡ option_map (λ (e : Entry). e.page) o
page-shown None = refl
page-shown (Some e) = refl

-- the pages that readers see are those of the layout
pub pages-shown : (l : Layout) → pages_shown (shown_of l) ≡ layout_pages l
pages-shown l i v = (ap (option_map page_of) (shown-each l v) ∙ page-shown (content_in l.store v)) i

-- ---- what calls of a store do to it

-- as many numbers as before
abbrev pub KeepsSize : Layout → Layout → Type 0
KeepsSize old new = length new.store.numbers ≡ length old.store.numbers

size-total : (old new : Store) → IsStore old → IsStore new
    → total_blocks new.segments ≡ total_blocks old.segments
    → length new.numbers ≡ length old.numbers
size-total old new one two total = two.full ∙ ap (λ n. n + 1) total ∙ sym one.full

-- where the content is what a list shows, so is what readers see
shown-is : (old new : Layout) (numbers : List (Option ShownPage)) (content : Content) → KeepsSize old new
    → ShowsAll (length old.store.numbers) numbers content → ((v : ℕ) → content_in new.store v ≡ content v)
    → (shown_of new).numbers ≡ numbers
shown-is old new numbers content size shows same =
    let layout = shows-layout new in
    let sized : ShowsAll (length old.store.numbers) (shown_of new).numbers (content_in new.store) =
    record { size = layout.size ∙ size; each = λ v low. shown-each new v } in
    same-shown (length old.store.numbers) (shown_of new).numbers numbers
    (content_in new.store) content sized shows same

module _ (old new : Layout) (before : IsStore old.store) (now : IsStore new.store) where
  -- the same content is shown the same
  pub numbers-same : total_blocks new.store.segments ≡ total_blocks old.store.segments
      → content_in new.store ≡ content_in old.store → (shown_of new).numbers ≡ (shown_of old).numbers
  numbers-same total same =
      shown-is old new (shown_of old).numbers (content_in old.store)
      (size-total old.store new.store before now total)
      (shows-layout old) (λ v i. same i v)

  -- moves show nothing
  pub numbers-moved : (segment checkpoint stamp : ℕ) (vs : List ℕ)
      → IsMoved segment checkpoint stamp vs old.store new.store
      → (shown_of new).numbers ≡ (shown_of old).numbers
  numbers-moved segment checkpoint stamp vs moved =
      numbers-same
      (ap total_blocks moved.appended.segments ∙ total-with_logs old.store.segments moved.appended.logs stamp)
      moved.content

  -- a batch shows its births and ends
  pub numbers-written : (checkpoint stamp : ℕ) (changes : Changes)
      → IsWritten checkpoint stamp changes old.store new.store
      → (shown_of new).numbers
      ≡ with_births checkpoint (map new_page changes.births)
      (with_ends checkpoint changes.ends (shown_of old).numbers)
  numbers-written checkpoint stamp changes written =
      let size = length old.store.numbers in
      let ended = with_ends checkpoint changes.ends (shown_of old).numbers in
      let content = adjust_all (entries.ended_at checkpoint) changes.ends (content_in old.store) in
      shown-is old new (with_births checkpoint (map new_page changes.births) ended)
      (put_all number_of (born_at checkpoint) changes.births content)
      (size-total old.store new.store before now
      (ap total_blocks written.appended.segments
      ∙ total-with_logs old.store.segments written.appended.logs stamp))
      (shows-births size checkpoint changes.births ended content
      (shows-ends size checkpoint changes.ends (shown_of old).numbers (content_in old.store)
      (shows-layout old)))
      (λ v i. written.content i v)

  -- a retirement shows that its numbers are out of use
  pub numbers-freed : (segment count : ℕ) (gone : List ℕ) → IsReclaimed segment count old.store new.store
      → ((v : ℕ) → is_one_of gone v ≡ is_inside old.store.segments segment (address_in old.store v))
      → (shown_of new).numbers ≡ without_numbers gone (shown_of old).numbers
  numbers-freed segment count gone reclaimed are =
      shown-is old new (without_numbers gone (shown_of old).numbers) (left_of gone (content_in old.store))
      (size-total old.store new.store before now
      (ap total_blocks reclaimed.freed.segments
      ∙ ap (λ n. n * old.store.segments.blocks) (length-set old.store.segments.each segment clean_info)))
      (shows-left (length old.store.numbers) gone (shown_of old).numbers (content_in old.store)
      (shows-layout old))
      (λ v. ap (option_map entry_now) (reclaimed.numbers v)
      ∙ left (is_inside old.store.segments segment (address_in old.store v)) (numbered_in old.store v)
      ∙ ap (λ b. cond b None (content_in old.store v)) (sym (are v)))
    where
      left : (b : Bool) (o : Option Numbered)
          → option_map entry_now (cond b None o) ≡ cond b None (option_map entry_now o)
      left true o = refl
      left false o = refl
