-- A tree into which a part of an earlier one comes back.
use Rattle.std.proofs.Common.{◌≡◌, ◌≢◌, ◌⊎◌, inl, inr, ℕ, zero, suc, ◌+◌, ◌-◌, ◌<◌, ◌≤◌, Bool, true, false, cond, not, ◌&&◌, [], ◌∷◌, take, length, Option, Some, None, is_some, refl, sym, ap, ◌∙◌, subst, true≢false, arith}
use Rattle.std.proofs.lemmas.Bool.{and_parts, and_from}
use Rattle.std.proofs.lemmas.List.{length-take-le}
use Rattle.std.proofs.lemmas.Option.{same_Some}
use Rattle.std.specs.declared.cmp.Ordering.{Ordering}
use Rattle.std.specs.declared.cmp.Ordering.TheVariants.{Less, Equal, Greater}
use Rattle.std.specs.Ordering.{is_lt}
use Rattle.std.specs.Cmp.{tied_itself}
use Rattle.std.specs.FinMap.{find, is_sorted}
use Rattle.std.specs.FinMap.Entries.{below_all}
use Rattle.nl_types.specs.Plain.Paths.{Path, path_cmp, same_name, same_path, is_within}
use Rattle.nl_types.specs.Facts.Booleans.{not_true}
use Rattle.nl_types.specs.Facts.Lookups.{same_name-equal, same_name-itself, same_path-itself}
use Rattle.nl_types.specs.Facts.TreeLaws.{path_total, paths_equal, same_path-equal}
use Rattle.nl_manifests.specs.declared.attributes.Attributes.{Attributes}
use Rattle.nl_manifests.specs.declared.host_tree.HostEntry.{HostEntry}
use Rattle.nl_manifests.specs.declared.host_tree.HostObject.{HostObject}
use Rattle.nl_manifests.specs.declared.host_tree.HostObject.TheVariants as host
use Rattle.nl_manifests.specs.HostTrees.{HostTree}
use Rattle.nl_manifests.specs.Sealed.{is_directory}
use Rattle.nl_shown.specs.declared.reverting.RevertError.{RevertError}
use Rattle.nl_shown.specs.declared.reverting.RevertError.TheVariants.{Memory, NoFolder, NothingThere}
use Rattle.nl_shown.specs.declared.reverting.Standing.TheVariants.{Folder, Nothing}
use Rattle.nl_shown.specs.declared.reverting.Standing.TheVariants as standing
use Rattle.nl_shown.specs.declared.reverting.Standing.{Standing}
use Rattle.nl_shown.specs.Parts.{folder_of}
use Rattle.nl_shown.specs.Reverted.{IsInOrder, IsInTheWay, IsReverted, RefusesRevert, attributes_above, attributes_of, folder_with, or_earlier, reverted_at}
use Rattle.nl_shown.specs.Private.Inserting.{FoldersAbove, IsAbove, IsWithoutPart, PutsFolder, RefusesFolder, RefusesFolders, attributes_or, inserted, inside, outside, standing_of, with_attributes, with_earlier}
use Rattle.nl_shown.proofs.Insertions.{Has, behind_all, found_in_part, found_in_tree, found_where, has_where, not_before, sorted-inserted, sorted_where, turned}

-- ---- a folder at a path

directory_is : (object : HostObject) → is_directory object ≡ true → object ≡ host.Directory
directory_is host.Directory is = refl
directory_is (host.File bytes) is = absurd (true≢false (sym is))
directory_is (host.Link target) is = absurd (true≢false (sym is))

folder_is : (d : HostEntry) → is_directory d.object ≡ true → d ≡ folder_with d.attributes
folder_is d is = λ i. record { object = directory_is d.object is i; attributes = d.attributes }

standing_by : (d : HostEntry) (b : Bool) → is_directory d.object ≡ b
    → cond b Folder standing.NoFolder ≡ Folder → is_directory d.object ≡ true
standing_by d true is was = is
standing_by d false is was = let no : ◌≡◌ {A = Standing} standing.NoFolder Folder = was in cc

no_folder_by : (d : HostEntry) (b : Bool) → is_directory d.object ≡ b
    → cond b Folder standing.NoFolder ≡ standing.NoFolder → is_directory d.object ≡ false
no_folder_by d true is was = let no : ◌≡◌ {A = Standing} Folder standing.NoFolder = was in cc
no_folder_by d false is was = is

stands : (o : Option HostEntry) (earlier : Option Attributes) → standing_of o ≡ Folder
    → o ≡ Some (folder_with (attributes_or o earlier))
stands None earlier is = let no : ◌≡◌ {A = Standing} Nothing Folder = is in cc
stands (Some d) earlier is =
    ap (λ (x : HostEntry). Some x) (folder_is d (standing_by d (is_directory d.object) refl is))

pub nothing_stands : (o : Option HostEntry) → standing_of o ≡ Nothing → o ≡ None
nothing_stands None is = refl
nothing_stands (Some d) is = by (is_directory d.object) is
  where
    by : (b : Bool) → cond b Folder standing.NoFolder ≡ Nothing → Some d ≡ None
    by true was = let no : ◌≡◌ {A = Standing} Folder Nothing = was in cc
    by false was = let no : ◌≡◌ {A = Standing} standing.NoFolder Nothing = was in cc

pub no_folder_stands : (o : Option HostEntry) → standing_of o ≡ standing.NoFolder
    → (d : HostEntry) × (o ≡ Some d) × (is_directory d.object ≡ false)
no_folder_stands None is = let no : ◌≡◌ {A = Standing} Nothing standing.NoFolder = is in cc
no_folder_stands (Some d) is = (d, refl, no_folder_by d (is_directory d.object) refl is)

pub folder_stays : (path : Path) (earlier : Option Attributes) (tree : HostTree) → IsInOrder tree
    → standing_of (find path_cmp path tree) ≡ Folder → PutsFolder path earlier tree tree
folder_stays path earlier tree sorted is = record {
  ordered = sorted;
  each = λ q. by q (same_path q path) refl;
}
  where
    by : (q : Path) (b : Bool) → same_path q path ≡ b → find path_cmp q tree
        ≡ cond b (Some (folder_with (attributes_or (find path_cmp path tree) earlier))) (find path_cmp q tree)
    by q true same =
        ap (λ p. find path_cmp p tree) (same_path-equal q path same)
        ∙ stands (find path_cmp path tree) earlier is
    by q false same = refl

pub folder_comes : (path : Path) (earlier : Option Attributes) (tree new : HostTree) → IsInOrder tree
    → find path_cmp path tree ≡ None → new ≡ inserted path ((path, folder_with earlier) ∷ []) tree
    → PutsFolder path earlier tree new
folder_comes path earlier tree new sorted none is = record {
  ordered = subst (λ (t : HostTree). IsInOrder t) (sym is) (sorted-inserted path part tree refl sorted low high);
  each = λ q. ap (λ (t : HostTree). find path_cmp q t) is ∙ by q (same_path q path) refl;
}
  where
    part : HostTree
    part = (path, folder_with earlier) ∷ []

    at_path : (k : Path) → Has part k → k ≡ path
    at_path k has = same_path-equal k path (only (same_path k path) has)
      where
        only : (b : Bool) → is_some (cond b (Some (folder_with earlier)) None) ≡ true → b ≡ true
        only true is = refl
        only false is = is

    low : (k : Path) → Has part k → is_lt (path_cmp k path) ≡ false
    low k has = ap (λ p. is_lt (path_cmp p path)) (at_path k has) ∙ ap is_lt (tied_itself path_total path)

    apart : (y : Path) → Has tree y → y ≢ path
    apart y has same =
        true≢false (sym has ∙ ap (λ p. is_some (find path_cmp p tree)) same ∙ ap is_some none)

    high : (k y : Path) → Has part k → Has tree y → is_lt (path_cmp y path) ≡ false → path_cmp k y ≡ Less
    high k y in_part has late =
        ap (λ p. path_cmp p y) (at_path k in_part) ∙ above (path_cmp y path) refl late
      where
        above : (o : Ordering) → path_cmp y path ≡ o → is_lt o ≡ false → path_cmp path y ≡ Less
        above Less is late_is = absurd (true≢false late_is)
        above Equal is late_is = absurd (apart y has (paths_equal y path is))
        above Greater is late_is = turned y path is

    by : (q : Path) (b : Bool) → same_path q path ≡ b → find path_cmp q (inserted path part tree)
        ≡ cond b (Some (folder_with (attributes_or (find path_cmp path tree) earlier))) (find path_cmp q tree)
    by q true same =
        found_in_part path part tree q
        (ap (λ p. find path_cmp p tree) (same_path-equal q path same) ∙ none)
        ∙ ap (λ b. cond b (Some (folder_with earlier)) None) same
        ∙ ap (λ o. Some (folder_with (attributes_or o earlier))) (sym none)
    by q false other =
        found_in_tree path part tree q (ap (λ b. cond b (Some (folder_with earlier)) None) other)

-- ---- folders above a path

differ : (P : Path → Bool) (q p : Path) → P q ≡ false → P p ≡ true → same_path q p ≡ false
differ P q p fails holds =
    not_true (same_path q p) (λ e. true≢false (sym holds ∙ sym (ap P (same_path-equal q p e)) ∙ fails))

taken_apart : (top : Path) (j k : ℕ) → j < length top → k ≤ length top → j ≢ k
    → same_path (take k top) (take j top) ≡ false
taken_apart top j k low within other =
    not_true (same_path (take k top) (take j top)) (λ e.
    other
    (sym (length-take-le j top (omega (arith, low)))
    ∙ sym (ap (λ (p : Path). length p) (same_path-equal (take k top) (take j top) e))
    ∙ length-take-le k top within))

pub folders_begin : (top : Path) (earlier old : HostTree) → IsInOrder old → FoldersAbove top 0 earlier old old
folders_begin top earlier old sorted = record {
  ordered = sorted;
  above = λ k low. absurd (omega (arith, low));
  others = λ q apart. refl;
}

-- the next of them stands as it did
next_stands : (top : Path) (depth : ℕ) (earlier old mid : HostTree) → depth < length top
    → FoldersAbove top depth earlier old mid
    → find path_cmp (take depth top) mid ≡ find path_cmp (take depth top) old
next_stands top depth earlier old mid within above =
    above.others (take depth top) (λ k low.
    taken_apart top k depth (omega (arith, low, within)) (omega (arith, within)) (λ e. omega (arith, e, low)))

nat_cases : (k n : ℕ) → k < n + 1 → (k ≡ n) ⊎ (k < n)
nat_cases zero zero low = inl refl
nat_cases zero (suc n) low = inr (omega arith)
nat_cases (suc k) zero low = absurd (omega (arith, low))
nat_cases (suc k) (suc n) low =
    elim (nat_cases k n (omega (arith, low)))
    [ inl is ↦ inl (ap suc is) | inr is ↦ inr (omega (arith, is)) ]

pub folders_on : (top : Path) (depth : ℕ) (earlier old mid new : HostTree) → depth < length top
    → FoldersAbove top depth earlier old mid
    → PutsFolder (take depth top) (attributes_of (find path_cmp (take depth top) earlier)) mid new
    → FoldersAbove top (depth + 1) earlier old new
folders_on top depth earlier old mid new within were puts = record {
  ordered = puts.ordered;
  above = λ k low. above k (nat_cases k depth low);
  others = λ q apart.
      puts.each q
      ∙ ap (λ b. cond b (told (take depth top) (find path_cmp (take depth top) mid)) (find path_cmp q mid))
      (apart depth (omega arith))
      ∙ were.others q (λ k low. apart k (omega (arith, low)));
}
  where
    told : Path → Option HostEntry → Option HostEntry
    told p o = Some (folder_with (attributes_or o (attributes_of (find path_cmp p earlier))))

    above : (k : ℕ) → (k ≡ depth) ⊎ (k < depth)
        → find path_cmp (take k top) new ≡ told (take k top) (find path_cmp (take k top) old)
    above k (inl is) = subst (λ (n : ℕ). find path_cmp (take n top) new
        ≡ told (take n top) (find path_cmp (take n top) old)) (sym is) last
      where
        last : find path_cmp (take depth top) new ≡ told (take depth top) (find path_cmp (take depth top) old)
        last =
            puts.each (take depth top)
            ∙ ap (λ b. cond b (told (take depth top) (find path_cmp (take depth top) mid))
            (find path_cmp (take depth top) mid)) (same_path-itself (take depth top))
            ∙ ap (told (take depth top)) (next_stands top depth earlier old mid within were)
    above k (inr low) =
        puts.each (take k top)
        ∙ ap (λ b. cond b (told (take depth top) (find path_cmp (take depth top) mid))
        (find path_cmp (take k top) mid))
        (taken_apart top depth k within (omega (arith, low, within)) (λ e. omega (arith, e, low)))
        ∙ were.above k low

pub folder_refused : (top : Path) (depth : ℕ) (earlier old mid : HostTree) (e : RevertError)
    → depth < length top → FoldersAbove top depth earlier old mid → RefusesFolder (take depth top) mid e
    → RefusesFolders top old e
folder_refused top depth earlier old mid Memory within were is = tt
folder_refused top depth earlier old mid NothingThere within were is = is
folder_refused top depth earlier old mid NoFolder within were is = record {
  depth = depth;
  above = within;
  entry = is.0;
  stands = sym (next_stands top depth earlier old mid within were) ∙ is.1;
  no_folder = is.2;
}

-- ---- attributes of an entry

abbrev with_at : Path → Option Attributes → Path → Option HostEntry → Option HostEntry
with_at path earlier q None = None
with_at path earlier q (Some e) = Some (cond (same_path q path) (with_earlier e earlier) e)

found-with : (path : Path) (earlier : Option Attributes) (es : HostTree) (q : Path)
    → find path_cmp q (with_attributes path earlier es) ≡ with_at path earlier q (find path_cmp q es)
found-with path earlier [] q = refl
found-with path earlier (e ∷ es) q =
    elim (same_path q e.0) as (λ b. same_path q e.0 ≡ b
    → cond b (Some (cond (same_path e.0 path) (with_earlier e.1 earlier) e.1))
    (find path_cmp q (with_attributes path earlier es))
    ≡ with_at path earlier q (cond b (Some e.1) (find path_cmp q es))) [
      | true ↦ λ same.
          ap (λ p. Some (cond (same_path p path) (with_earlier e.1 earlier) e.1))
          (sym (same_path-equal q e.0 same))
      | false ↦ λ _. found-with path earlier es q
    ] refl

below-with : (path : Path) (earlier : Option Attributes) (k : Path) (es : HostTree)
    → below_all path_cmp k (with_attributes path earlier es) ≡ below_all path_cmp k es
below-with path earlier k [] = refl
below-with path earlier k (e ∷ es) = ap (λ b. is_lt (path_cmp k e.0) && b) (below-with path earlier k es)

sorted-with : (path : Path) (earlier : Option Attributes) (es : HostTree)
    → is_sorted path_cmp (with_attributes path earlier es) ≡ is_sorted path_cmp es
sorted-with path earlier [] = refl
sorted-with path earlier (e ∷ es) =
    let one = below-with path earlier e.0 es in
    let other = sorted-with path earlier es in
    λ i. one i && other i

-- ---- without the part

taken_above : (top : Path) (k : ℕ) → is_within (take k top) top ≡ true
taken_above [] zero = refl
taken_above [] (suc k) = refl
taken_above (n ∷ top) zero = refl
taken_above (n ∷ top) (suc k) = and_from (same_name n n) (is_within (take k top) top) (same_name-itself n) (taken_above top k)

-- a path that begins with another one isn't shorter
not_shorter : (top q : Path) → is_within top q ≡ true → length top ≤ length q
not_shorter [] q is = omega arith
not_shorter (n ∷ top) [] is = absurd (true≢false (sym is))
not_shorter (n ∷ top) (m ∷ q) is =
    let rest = not_shorter top q (and_parts (same_name n m) (is_within top q) is).1 in omega (arith, rest)

not_below : (top : Path) (k : ℕ) → k < length top → is_within top (take k top) ≡ false
not_below top k low =
    not_true (is_within top (take k top)) (λ e.
    omega (arith, low, not_shorter top (take k top) e, length-take-le k top (omega (arith, low))))

-- what lies above a path is the first of its names
above_is : (q top : Path) → is_within q top ≡ true → q ≡ take (length q) top
above_is [] top is = refl
above_is (n ∷ q) [] is = absurd (true≢false (sym is))
above_is (n ∷ q) (m ∷ top) is =
    let parts = and_parts (same_name n m) (is_within q top) is in
    let first = same_name-equal n m parts.0 in
    let rest = above_is q top parts.1 in
    λ i. first i ∷ rest i

above_shorter : (q top : Path) → is_within q top ≡ true → is_within top q ≡ false → length q < length top
above_shorter [] [] is apart = absurd (true≢false apart)
above_shorter [] (m ∷ top) is apart = omega arith
above_shorter (n ∷ q) [] is apart = absurd (true≢false (sym is))
above_shorter (n ∷ q) (m ∷ top) is apart =
    let parts = and_parts (same_name n m) (is_within q top) is in
    let back : same_name m n ≡ true =
    ap (same_name m) (same_name-equal n m parts.0) ∙ same_name-itself m in
    let rest =
    above_shorter q top parts.1 (sym (ap (λ b. b && is_within top q) back) ∙ apart) in
    omega (arith, rest)

module _ (later earlier : HostTree) (top : Path) where
  abbrev pub folder : Path
  folder = folder_of top

  abbrev pub had : Option Attributes
  had = attributes_of (find path_cmp folder earlier)

  abbrev pub known : HostTree
  known = with_attributes folder had (outside top later)

  -- as steps make it
  pub known_is : (n : ℕ) (a : Option Attributes) (rest with : HostTree) → n ≡ length top - 1
      → a ≡ attributes_of (find path_cmp (take n top) earlier) → rest ≡ outside top later
      → with ≡ with_attributes (take n top) a rest → with ≡ known
  known_is n a rest with at told left is =
      is
      ∙ (λ i. with_attributes (take n top) (told i) (left i))
      ∙ ap (λ m. with_attributes (take m top) (attributes_of (find path_cmp (take m top) earlier))
      (outside top later)) at

  known_at : (q : Path) → find path_cmp q known
      ≡ with_at folder had q (cond (not (is_within top q)) (find path_cmp q later) None)
  known_at q =
      found-with folder had (outside top later) q
      ∙ ap (with_at folder had q) (found_where (λ p. not (is_within top p)) later q)

  known_inside : (q : Path) → is_within top q ≡ true → find path_cmp q known ≡ None
  known_inside q is =
      known_at q ∙ ap (λ b. with_at folder had q (cond (not b) (find path_cmp q later) None)) is

  known_outside : (q : Path) → is_within top q ≡ false
      → find path_cmp q known ≡ with_at folder had q (find path_cmp q later)
  known_outside q is =
      known_at q ∙ ap (λ b. with_at folder had q (cond (not b) (find path_cmp q later) None)) is

  pub known_sorted : IsInOrder later → IsInOrder known
  known_sorted sorted =
      sorted-with folder had (outside top later)
      ∙ sorted_where (λ p. not (is_within top p)) later sorted

  -- the attributes of a folder above
  told_above : (q : Path) (o : Option HostEntry)
      → attributes_or (with_at folder had q o) (attributes_of (find path_cmp q earlier))
      ≡ attributes_above (same_path q folder) o (find path_cmp q earlier)
  told_above q None = refl
  told_above q (Some d) = by (same_path q folder) refl
    where
      by : (b : Bool) → same_path q folder ≡ b
          → attributes_or (Some (cond b (with_earlier d had) d)) (attributes_of (find path_cmp q earlier))
          ≡ attributes_above b (Some d) (find path_cmp q earlier)
      by true same =
          ap (λ p. or_earlier d.attributes (attributes_of (find path_cmp p earlier)))
          (sym (same_path-equal q folder same))
      by false other = refl

  module _ (new : HostTree) (above : FoldersAbove top (length top) earlier known new) where
    new_inside : (q : Path) → is_within top q ≡ true → find path_cmp q new ≡ None
    new_inside q is =
        above.others q (λ k low. apart q (take k top) is (not_below top k low)) ∙ known_inside q is
      where
        apart : (q p : Path) → is_within top q ≡ true → is_within top p ≡ false → same_path q p ≡ false
        apart q p inside outside =
            differ (λ x. not (is_within top x)) q p (ap not inside) (ap not outside)

    new_above : (q : Path) → is_within q top ≡ true → is_within top q ≡ false → find path_cmp q new
        ≡ Some (folder_with (attributes_above (same_path q folder) (find path_cmp q later)
        (find path_cmp q earlier)))
    new_above q is apart =
        ap (λ p. find path_cmp p new) same
        ∙ above.above (length q) shorter
        ∙ ap (λ (p : Path). Some (folder_with (attributes_or (find path_cmp p known)
        (attributes_of (find path_cmp p earlier))))) (sym same)
        ∙ ap (λ o. Some (folder_with (attributes_or o (attributes_of (find path_cmp q earlier)))))
        (known_outside q apart)
        ∙ ap (λ a. Some (folder_with a)) (told_above q (find path_cmp q later))
      where
        same : q ≡ take (length q) top
        same = above_is q top is

        shorter : length q < length top
        shorter = above_shorter q top is apart

    new_elsewhere : (q : Path) → is_within q top ≡ false → is_within top q ≡ false
        → find path_cmp q new ≡ find path_cmp q later
    new_elsewhere q above_no apart =
        above.others q (λ k low. other (take k top) (taken_above top k))
        ∙ known_outside q apart
        ∙ as_is (find path_cmp q later)
      where
        other : (p : Path) → is_within p top ≡ true → same_path q p ≡ false
        other p is = differ (λ x. is_within x top) q p above_no is

        as_is : (o : Option HostEntry) → with_at folder had q o ≡ o
        as_is None = refl
        as_is (Some e) =
            ap (λ b. Some (cond b (with_earlier e had) e))
            (other folder (taken_above top (length top - 1)))

    pub without_part : IsWithoutPart later earlier top new
    without_part = record {
      ordered = above.ordered;
      inside = new_inside;
      outside = λ q apart.
          by q apart (is_within q top) refl
          ∙ ap (λ b. cond b (find path_cmp q earlier) (told q (is_within q top))) (sym apart);
    }
      where
        told : Path → Bool → Option HostEntry
        told q b = cond b (Some (folder_with (attributes_above (same_path q folder) (find path_cmp q later)
            (find path_cmp q earlier)))) (find path_cmp q later)

        by : (q : Path) → is_within top q ≡ false → (b : Bool) → is_within q top ≡ b
            → find path_cmp q new ≡ told q b
        by q apart true is = new_above q is apart
        by q apart false is = new_elsewhere q is apart

  in_the_way : IsAbove top known → IsInTheWay later top
  in_the_way is =
      let q = take is.depth top in
      let apart = not_below top is.depth is.above in
      by q (taken_above top is.depth) apart is.entry is.no_folder (find path_cmp q later) refl
      (sym (known_outside q apart) ∙ is.stands)
    where
      same_object : (q : Path) (d e : HostEntry) (b : Bool)
          → ◌≡◌ {A = Option HostEntry} (Some (cond b (with_earlier d had) d)) (Some e)
          → d.object ≡ e.object
      same_object q d e true is = ap (λ (x : HostEntry). x.object) (same_Some (with_earlier d had) e is)
      same_object q d e false is = ap (λ (x : HostEntry). x.object) (same_Some d e is)

      by : (q : Path) → is_within q top ≡ true → is_within top q ≡ false → (e : HostEntry)
          → is_directory e.object ≡ false → (o : Option HostEntry) → find path_cmp q later ≡ o
          → with_at folder had q o ≡ Some e → IsInTheWay later top
      by q above apart e none None found is = let no : ◌≡◌ {A = Option HostEntry} None (Some e) = is in cc
      by q above apart e none (Some d) found is = record {
        path = q;
        above = above;
        apart = apart;
        entry = d;
        stands = found;
        no_folder = ap is_directory (same_object q d e (same_path q folder) is) ∙ none;
      }

  pub part_refused : (e : RevertError) → RefusesFolders top known e → RefusesRevert later earlier top e
  part_refused Memory is = tt
  part_refused NothingThere is = absurd is
  part_refused NoFolder is = in_the_way is

  -- ---- with the part

  pub reverted : (rest tree : HostTree) → IsInOrder earlier → IsWithoutPart later earlier top rest
      → tree ≡ inserted top (inside top earlier) rest → IsReverted later earlier top tree
  reverted rest tree sorted without is = record {
    ordered = subst (λ (t : HostTree). IsInOrder t) (sym is)
        (sorted-inserted top part rest (sorted_where (is_within top) earlier sorted) without.ordered
        (λ k has. not_before top k (has_where (is_within top) earlier k has).0)
        (λ k y has there late. behind_all top k y (has_where (is_within top) earlier k has).0
        (not_inside y there) late));
    each = λ q. ap (λ (t : HostTree). find path_cmp q t) is ∙ by q (is_within top q) refl;
  }
    where
      part : HostTree
      part = inside top earlier

      not_inside : (y : Path) → Has rest y → is_within top y ≡ false
      not_inside y has =
          not_true (is_within top y) (λ e. true≢false (sym has ∙ ap is_some (without.inside y e)))

      in_part : (q : Path) → find path_cmp q part ≡ cond (is_within top q) (find path_cmp q earlier) None
      in_part q = found_where (is_within top) earlier q

      elsewhere : Path → Option HostEntry
      elsewhere q = cond (is_within q top) (Some (folder_with (attributes_above (same_path q folder)
          (find path_cmp q later) (find path_cmp q earlier)))) (find path_cmp q later)

      by : (q : Path) (b : Bool) → is_within top q ≡ b
          → find path_cmp q (inserted top part rest) ≡ reverted_at later earlier top q
      by q true is_in =
          found_in_part top part rest q (without.inside q is_in) ∙ in_part q
          ∙ ap (λ b. cond b (find path_cmp q earlier) None) is_in
          ∙ ap (λ b. cond b (find path_cmp q earlier) (elsewhere q)) (sym is_in)
      by q false apart =
          found_in_tree top part rest q
          (in_part q ∙ ap (λ b. cond b (find path_cmp q earlier) None) apart)
          ∙ without.outside q apart
