-- What is read of a store for readers.
use Rattle.std.proofs.Common.{◌≡◌, ℕ, ◌+◌, ◌<◌, List, [], ◌∷◌, ◌++◌, length, get_or, map, take, Option, Some, None, refl, sym, ap, ◌∙◌, arith}
use Rattle.std.proofs.Math.ListN.{get_or-map}
use Rattle.std.proofs.lemmas.List.{length-map, map_push, take_more}
use Rattle.std.specs.Option.{option_map}
use Rattle.nl_types.specs.declared.period.Period.{Period}
use Rattle.nl_types.specs.Blocks.Entries.{Birth, Entry, period_of}
use Rattle.nl_vstore.specs.Batches.{birth_of_item, births_of}
use Rattle.nl_vstore.specs.Content.{Payload}
use Rattle.nl_vstore.specs.Stores.{Numbered, Store, entry_now, numbered_in}
use Rattle.nl_commit.specs.Notes.{new_page, shown_page}
use Rattle.nl_commit.specs.declared.commit.NewPage.{NewPage}
use Rattle.nl_commit.specs.declared.commit.ShownPage.{ShownPage}

-- ---- one number

abbrev page_read : Option Numbered → Option (List ℕ)
page_read o = option_map (λ (e : Entry). e.page) (option_map entry_now o)

abbrev period_read : Option Numbered → Option Period
period_read o = option_map period_of (option_map entry_now o)

-- where no page or no period is read, nothing is shown
pub none-read : (o : Option Numbered) → None ≡ page_read o → None ≡ option_map shown_page o
none-read None is = refl
none-read (Some n) is = cc

pub no-period_read : (o : Option Numbered) → None ≡ period_read o → None ≡ option_map shown_page o
no-period_read None is = refl
no-period_read (Some n) is = cc

-- and else both are
pub both-read : (o : Option Numbered) (page : List ℕ) (period : Period) → Some page ≡ page_read o
    → Some period ≡ period_read o
    → Some (let p : ShownPage = record { page = page; period = period } in p) ≡ option_map shown_page o
both-read None page period one two = cc
both-read (Some n) page period one two =
    let p : page ≡ n.entry.page = cc in
    let q : period ≡ period_of n.entry = cc in
    λ i. Some (record { page = p i; period = q i })

-- ---- all of them

abbrev pub all_shown : Store → List (Option ShownPage)
all_shown s = map (option_map shown_page) s.numbers

-- one more
pub shown-more : (s : Store) (k : ℕ) (page : Option ShownPage) (before after : List (Option ShownPage))
    → k < length s.numbers
    → before ≡ take k (all_shown s) → page ≡ option_map shown_page (numbered_in s k)
    → after ≡ before ++ page ∷ []
    → after ≡ take (k + 1) (all_shown s)
shown-more s k page before after low front is pushed =
    pushed
    ∙ ap (λ (ps : List (Option ShownPage)). ps ++ page ∷ []) front
    ∙ ap (λ (p : Option ShownPage). take k (all_shown s) ++ p ∷ [])
    (is ∙ sym (get_or-map (option_map shown_page) s.numbers k None))
    ∙ sym (take_more (all_shown s) k None (omega (arith, low, length-map s.numbers (option_map shown_page))))

-- ---- births

-- one more page that is born
pub pages-more : (births : List Payload) (k : ℕ) (item : Payload) (before after : List NewPage)
    (page : NewPage)
    → k < length births
    → item ≡ get_or births k item → before ≡ map new_page (births_of (take k births))
    → page ≡ new_page (birth_of_item item)
    → after ≡ before ++ page ∷ [] → after ≡ map new_page (births_of (take (k + 1) births))
pages-more births k item before after page low at front is pushed =
    pushed
    ∙ (λ i. front i ++ is i ∷ [])
    ∙ ap (λ (b : Payload). map new_page (births_of (take k births)) ++ new_page (birth_of_item b) ∷ []) at
    ∙ sym (ap (λ (bs : List Payload). map new_page (births_of bs)) (take_more births k item low)
    ∙ ap (λ (bs : List Birth). map new_page bs)
    (map_push birth_of_item (take k births) (get_or births k item))
    ∙ map_push new_page (births_of (take k births)) (birth_of_item (get_or births k item)))
