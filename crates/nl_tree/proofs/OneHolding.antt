-- The overlay as a list and by its maps shows the same.
use Rattle.std.proofs.Common.{◌≡◌, ℕ, Bool, true, false, List, Option, Some, None, Result, OnOk, refl, sym, ap, subst, ◌∙◌}
use Rattle.std.specs.Prelude.{cond, is_some, nat_lt}
use Rattle.std.specs.Option.{option_and_then, option_flatten, option_or}
use Rattle.std.specs.Ordering.{nat_cmp}
use Rattle.std.specs.FinMap.{find}
use Rattle.std.specs.BTreeMap as map
use Rattle.std.proofs.lemmas.Result.{on_ok_weaker}
use Rattle.nl_types.specs.declared.error.VolError.{VolError}
use Rattle.nl_types.specs.declared.kind.Kind.{Kind}
use Rattle.nl_types.specs.Plain.Paths.{Name}
use Rattle.nl_dirs.specs.declared.record.Record.{Record}
use Rattle.nl_tree.specs.declared.overlay.FileBlocks.{FileBlocks}
use Rattle.nl_tree.specs.declared.overlay.Changed.{Changed}
use Rattle.nl_tree.specs.declared.overlay.Changed.TheVariants.{Gone, File, Dir}
use Rattle.nl_tree.specs.declared.overlay.Slot.{Slot}
use Rattle.nl_tree.specs.declared.overlay.Overlay.{Overlay}
use Rattle.nl_tree.specs.Became.{Current, holding_over, over_if_became}
use Rattle.nl_types.specs.Blocks.Roots.{Blocks}
use Rattle.nl_tree.specs.Private.Files.{IsFileOf}
use Rattle.nl_tree.specs.Held.{Held, Holding, Stored, held_block}
use Rattle.nl_tree.specs.Numbers.{CountsFree, CountsFreeNow, CountsNumbers, IsFreedIn, IsNumberFreed}
use Rattle.nl_tree.specs.Overlays.{IsDirectoryOf, IsOrderly, KeepsRest, current_of, became_in, became_of, holding_now, new_page_at, new_pages, over_changed, over_if_slot, slot_shows}
use Rattle.nl_tree.specs.Steps.{IsCreateRefused, IsCreated}
use Rattle.nl_tree.specs.Shown.{itself}
use Rattle.nl_tree.specs.Facts.AsList.{shown_at}
use Rattle.nl_tree.proofs.Counting.{counts_kept}
use Rattle.nl_tree.proofs.Freed.{freed_listed, listed_freed}

flat : {X : Type 0} (o : Option (Option X)) → option_and_then itself o ≡ option_flatten o
flat None = refl
flat (Some None) = refl
flat (Some (Some x)) = refl

what_over : (what : Changed) (base : Option Held)
    → ((file : FileBlocks) → what ≡ File file → map.IsOrdered nat_cmp file.pages)
    → over_if_became (Some (became_of what)) base ≡ over_changed what base
what_over Gone base h = refl
what_over (Dir listing) base h = refl
what_over (File file) base h =
    let page : (b : ℕ) → find nat_cmp b (new_pages file) ≡ new_page_at file b = λ b.
    shown_at itself file.pages.entries (h file refl) b ∙ flat (map.get nat_cmp file.pages b) in
    ap (λ (blocks : ℕ → Option (List ℕ)). Some (Stored file.size blocks))
    (λ k. λ b. option_or (page b k) (cond (nat_lt b file.cut) (held_block base b) None))

place_shows : (place : Option Slot) (base : Option Held)
    → ((slot : Slot) (file : FileBlocks) → place ≡ Some slot → slot.what ≡ File file
    → map.IsOrdered nat_cmp file.pages)
    →
    over_if_became (option_and_then slot_shows place) base ≡ over_if_slot place base
place_shows None base h = refl
place_shows (Some slot) base h = by_live slot.live refl
  where
    by_live : (b : Bool) → slot.live ≡ b
        → over_if_became (option_and_then slot_shows (Some slot)) base ≡ over_if_slot (Some slot) base
    by_live false is = rw is refl
    by_live true is = rw is (what_over slot.what base (λ file e. h slot file refl e))

pub one_holding : (o : Overlay) (base : Holding) → IsOrderly o
    → holding_over (became_in o) base ≡ holding_now o base
one_holding o base orderly = λ k. λ i.
    (ap (λ c. over_if_became c (base i)) (shown_at slot_shows o.changed.entries orderly.keys i)
    ∙ place_shows (map.get nat_cmp o.changed i) (base i)
    (λ slot file is what. orderly.files i slot file is what))
    k

-- a directory of the lists is one of the maps
pub directory_inside : (o : Overlay) (now : Current) (base : Holding) (dir : ℕ) (records : List Record) →
    IsOrderly o → current_of o ≡ now → IsDirectoryOf (holding_over now.became base) dir records →
    IsDirectoryOf (holding_now o base) dir records
directory_inside o now base dir records orderly view is = (
  ap (λ (held : Holding). held dir) (sym (one_holding o base orderly))
      ∙ ap (λ (c : Current). holding_over c.became base dir) view ∙ is.0,
  is.1,
)

-- a change of the maps is one of the lists
pub as_lists : {A E : Type 0} (o n : Overlay) (now : Current) (base : Holding) (change : Holding → Holding)
    (r : Result A E) → IsOrderly o → IsOrderly n → current_of o ≡ now →
    OnOk r ((i : ℕ) → holding_now n base i ≡ change (holding_now o base) i) →
    OnOk r ((i : ℕ) → holding_over (became_in n) base i ≡ change (holding_over now.became base) i)
as_lists o n now base change r before after view h =
    let old : holding_now o base ≡ holding_over now.became base =
    sym (one_holding o base before) ∙ ap (λ (c : Current). holding_over c.became base) view in
    on_ok_weaker r
    (λ is i. ap (λ (held : Holding). held i) (one_holding n base after) ∙ is i
    ∙ ap (λ (held : Holding). change held i) old) h

-- ---- free numbers

freed_in : (o : Overlay) (m : ℕ) → IsNumberFreed o m → IsFreedIn (current_of o) m
freed_in o m f = freed_listed o.freed.entries m f

freed_out : (o : Overlay) → IsOrderly o → (m : ℕ) → IsFreedIn (current_of o) m → IsNumberFreed o m
freed_out o orderly m f = listed_freed o.freed.entries m orderly.freed_numbers f

-- the maps count as the lists do
pub counts_inside : (o : Overlay) (now : Current) (base : Holding) → IsOrderly o → current_of o ≡ now →
    CountsFree now base → CountsFreeNow o base
counts_inside o now base orderly view counts =
    subst (λ (held : Holding). CountsNumbers (IsNumberFreed o) o.mark held base) (one_holding o base orderly)
    (counts_kept (IsFreedIn (current_of o)) (IsNumberFreed o) o.mark (holding_over (became_in o) base)
    (holding_over (became_in o) base) base
    (freed_out o orderly) (freed_in o) (λ m. refl)
    (subst (λ (c : Current). CountsFree c base) (sym view) counts))

pub counts_outside : (o : Overlay) (base : Holding) → IsOrderly o → CountsFreeNow o base
    → CountsFree (current_of o) base
counts_outside o base orderly counts =
    counts_kept (IsNumberFreed o) (IsFreedIn (current_of o)) o.mark (holding_over (became_in o) base)
    (holding_over (became_in o) base) base
    (freed_in o) (freed_out o orderly) (λ m. refl)
    (subst (λ (held : Holding). CountsNumbers (IsNumberFreed o) o.mark held base)
    (sym (one_holding o base orderly)) counts)

-- ---- what is made new

pub created_outside : (o n : Overlay) (now : Current) (base : Holding) (dir : ℕ) (records : List Record)
    (name : Name)
    (kind : Kind) (inode : ℕ) → IsOrderly o → IsOrderly n → current_of o ≡ now →
    IsCreated (holding_now o base) (holding_now n base) dir records name kind inode →
    IsCreated (holding_over now.became base) (holding_over (became_in n) base) dir records name kind inode
created_outside o n now base dir records name kind inode before after view is =
    let old : holding_now o base ≡ holding_over now.became base =
    sym (one_holding o base before) ∙ ap (λ (c : Current). holding_over c.became base) view in
    subst
    (λ (held : Holding). IsCreated held (holding_over (became_in n) base) dir records name kind inode) old
    (subst (λ (held : Holding). IsCreated (holding_now o base) held dir records name kind inode)
    (sym (one_holding n base after)) is)

pub refused_outside : (o : Overlay) (now : Current) (base : Holding) (e : VolError) → IsOrderly o
    → current_of o ≡ now →
    IsCreateRefused o.names (holding_now o base) e
    → IsCreateRefused now.names (holding_over now.became base) e
refused_outside o now base e before view is =
    subst (λ (c : Current). IsCreateRefused c.names (holding_over c.became base) e) view
    (subst (λ (held : Holding). IsCreateRefused o.names held e) (sym (one_holding o base before)) is)

-- what keeps numbers and inodes in use counts them as before
pub counts_still : (o n : Overlay) (base : Holding) → KeepsRest o n →
    ((m : ℕ) → is_some (holding_now n base m) ≡ is_some (holding_now o base m)) → CountsFreeNow o base
    → CountsFreeNow n base
counts_still o n base rest same counts =
    subst (λ (k : ℕ). CountsNumbers (IsNumberFreed n) k (holding_now n base) base) (sym rest.mark)
    (counts_kept (IsNumberFreed o) (IsNumberFreed n) o.mark (holding_now o base) (holding_now n base) base
    (λ m f. ap (λ fs. map.get nat_cmp fs m) rest.freed ∙ f)
    (λ m f. ap (λ fs. map.get nat_cmp fs m) (sym rest.freed) ∙ f) same counts)

-- a file of the lists is one of the maps
pub file_inside : (o : Overlay) (now : Current) (base : Holding) (i size : ℕ) (blocks : Blocks) →
    IsOrderly o → current_of o ≡ now → IsFileOf (holding_over now.became base) i size blocks →
    IsFileOf (holding_now o base) i size blocks
file_inside o now base i size blocks orderly view is = (
  ap (λ (held : Holding). held i) (sym (one_holding o base orderly))
      ∙ ap (λ (c : Current). holding_over c.became base i) view ∙ is.0,
  is.1,
)
