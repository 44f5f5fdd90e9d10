-- What is put together entry by entry is what is known of each path.
use Rattle.std.proofs.Common.{◌≡◌, ◌⊎◌, true, false, cond, List, [], ◌∷◌, ◌++◌, Option, Some, None, refl, sym, ap, ◌∙◌, subst, true≢false, is_some, inl, inr}
use Rattle.std.specs.List.{AllByRecursion, flat_map}
use Rattle.std.specs.Option.{option_map}
use Rattle.std.specs.FinMap.{find, put}
use Rattle.std.specs.FinMap.Entries.{find-put}
use Rattle.nl_types.specs.Plain.Paths.{Name, Path, path_cmp, same_path}
use Rattle.nl_types.specs.Facts.TreeLaws.{path_total, same_path-equal}
use Rattle.nl_manifests.specs.HostTrees.{parted}
use Rattle.nl_manifests.specs.Private.Places.{puts}

-- ---- lists one after another

module _ {X : Type 0} where
  pub found_left : (q : Path) (a b : List (Path × X)) → is_some (find path_cmp q a) ≡ true
      → is_some (find path_cmp q (a ++ b)) ≡ true
  found_left q [] b there = absurd (true≢false (sym there))
  found_left q (e ∷ a) b there =
      elim (same_path q e.0) as (λ t. is_some (cond t (Some e.1) (find path_cmp q a)) ≡ true
      → is_some (cond t (Some e.1) (find path_cmp q (a ++ b))) ≡ true)
      [ true ↦ λ _. refl | false ↦ λ left. found_left q a b left ] there

  pub found_right : (q : Path) (a b : List (Path × X)) → is_some (find path_cmp q b) ≡ true
      → is_some (find path_cmp q (a ++ b)) ≡ true
  found_right q [] b there = there
  found_right q (e ∷ a) b there =
      elim (same_path q e.0) as (λ t. is_some (cond t (Some e.1) (find path_cmp q (a ++ b))) ≡ true)
      [ true ↦ refl | false ↦ found_right q a b there ]

  -- what an entry adds is found among what all add
  pub found_among : {Y : Type 0} (part : Path × Y → List (Path × X)) (q p : Path) (y : Y) (es : List (Path
      × Y))
      → find path_cmp p es ≡ Some y → is_some (find path_cmp q (part (p, y))) ≡ true
      → is_some (find path_cmp q (flat_map part es)) ≡ true
  found_among part q p y [] is there = cc
  found_among {Y} part q p y (e ∷ es) is there =
      elim (same_path p e.0) as (λ t. same_path p e.0 ≡ t → cond t (Some e.1) (find path_cmp p es) ≡ Some y
      → is_some (find path_cmp q (part e ++ flat_map part es)) ≡ true) [
        | true ↦ λ same found.
            let keys : p ≡ e.0 = same_path-equal p e.0 same in
            let values : e.1 ≡ y = cc in
            let met : e ≡ (p, y) = λ i. (sym keys i, values i) in
            found_left q (part e) (flat_map part es)
            (subst (λ (x : Path × Y). is_some (find path_cmp q (part x)) ≡ true) (sym met) there)
        | false ↦ λ _ found. found_right q (part e) (flat_map part es) (found_among part q p y es found there)
      ] refl is

  -- ---- what is known of each entry

  -- each entry has what `shows` tells of its path
  abbrev pub Are : (Path → Option X) → List (Path × X) → Type 0
  Are shows es = AllByRecursion (λ e. shows e.0 ≡ Some e.1) es

  pub Are-append : (shows : Path → Option X) (a b : List (Path × X)) → Are shows a → Are shows b → Are
      shows (a ++ b)
  Are-append shows [] b first then = then
  Are-append shows (e ∷ a) b first then = (first.0, Are-append shows a b first.1 then)

  -- each path that is found has what `shows` tells
  abbrev pub Finds : (Path → Option X) → List (Path × X) → Type 0
  Finds shows es = (q : Path) (v : X) → find path_cmp q es ≡ Some v → shows q ≡ Some v

  module _ (shows : Path → Option X) where
    put_finds : (k : Path) (v : X) (es : List (Path × X)) → Finds shows es → shows k ≡ Some v
        → Finds shows (put path_cmp k v es)
    put_finds k v es finds is q w found =
        elim (same_path q k) as (λ t. same_path q k ≡ t → cond t (Some v) (find path_cmp q es) ≡ Some w
        → shows q ≡ Some w) [
          | true ↦ λ same here. ap shows (same_path-equal q k same) ∙ is ∙ here
          | false ↦ λ _ here. finds q w here
        ] refl (sym (find-put path_cmp path_total q k v es) ∙ found)

    pub puts_find : (es more : List (Path × X)) → Finds shows es → Are shows more → Finds shows (puts es more)
    puts_find es [] finds are = finds
    puts_find es (e ∷ more) finds are =
        puts_find (put path_cmp e.0 e.1 es) more (put_finds e.0 e.1 es finds are.0) are.1

  put_there : (q k : Path) (v : X) (es : List (Path × X)) → is_some (find path_cmp q es) ≡ true
      → is_some (find path_cmp q (put path_cmp k v es)) ≡ true
  put_there q k v es there =
      ap is_some (find-put path_cmp path_total q k v es)
      ∙ elim (same_path q k) as (λ t. is_some (cond t (Some v) (find path_cmp q es)) ≡ true)
      [ true ↦ refl | false ↦ there ]

  puts_keep : (q : Path) (es more : List (Path × X)) → is_some (find path_cmp q es) ≡ true
      → is_some (find path_cmp q (puts es more)) ≡ true
  puts_keep q es [] there = there
  puts_keep q es (e ∷ more) there = puts_keep q (put path_cmp e.0 e.1 es) more (put_there q e.0 e.1 es there)

  puts_cover : (q : Path) (es more : List (Path × X)) → is_some (find path_cmp q more) ≡ true
      → is_some (find path_cmp q (puts es more)) ≡ true
  puts_cover q es [] there = absurd (true≢false (sym there))
  puts_cover q es (e ∷ more) there =
      elim (same_path q e.0) as (λ t. same_path q e.0 ≡ t
      → is_some (cond t (Some e.1) (find path_cmp q more)) ≡ true
      → is_some (find path_cmp q (puts (put path_cmp e.0 e.1 es) more)) ≡ true) [
        | true ↦ λ same _. puts_keep q (put path_cmp e.0 e.1 es) more
            (ap is_some (find-put path_cmp path_total q e.0 e.1 es)
            ∙ ap (λ t. is_some (cond t (Some e.1) (find path_cmp q es))) same)
        | false ↦ λ _ left. puts_cover q (put path_cmp e.0 e.1 es) more left
      ] refl there

  -- where all that `shows` tells of is among the entries
  pub puts_are : (shows : Path → Option X) (more : List (Path × X)) → Are shows more
      → ((q : Path) (v : X) → shows q ≡ Some v → is_some (find path_cmp q more) ≡ true)
      → (q : Path) → find path_cmp q (puts [] more) ≡ shows q
  puts_are shows more are covers q = by (find path_cmp q (puts [] more)) refl (shows q) refl
    where
      none : Finds shows []
      none p v found = absurd (true≢false (sym (ap is_some found)))

      by : (o : Option X) → find path_cmp q (puts [] more) ≡ o → (s : Option X) → shows q ≡
          s → o ≡ s
      by (Some v) found s is = sym (puts_find shows [] more none are q v found) ∙ is
      by None found None is = refl
      by None found (Some v) is =
          absurd (true≢false (sym (puts_cover q [] more (covers q v is)) ∙ ap is_some found))

-- ---- paths

pub parted_ends : (dir : Path) (name : Name) → parted (dir ++ name ∷ []) ≡ Some (dir, name)
parted_ends [] name = refl
parted_ends (n ∷ []) name = refl
parted_ends (n ∷ m ∷ dir) name =
    ap (λ (o : Option (Path × Name)). option_map (λ p. (n ∷ p.0, p.1)) o) (parted_ends (m ∷ dir) name)

-- a path is the root or ends in a name
pub ending_of : (path : Path) → (path ≡ []) ⊎ ((dir : Path) × (name : Name) × (path ≡ dir ++ name ∷ []))
ending_of [] = inl refl
ending_of (n ∷ rest) = longer (ending_of rest)
  where
    longer : (rest ≡ []) ⊎ ((dir : Path) × (name : Name) × (rest ≡ dir ++ name ∷ []))
        → (n ∷ rest ≡ []) ⊎ ((dir : Path) × (name : Name) × (n ∷ rest ≡ dir ++ name ∷ []))
    longer (inl none) = inr ([], n, ap (λ (r : Path). n ∷ r) none)
    longer (inr some) = inr (n ∷ some.0, some.1, ap (λ (r : Path). n ∷ r) some.2)
