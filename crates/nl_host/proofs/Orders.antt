-- An entry of a tree in order: whether we come to its folder.
use Rattle.std.proofs.Common.{◌≡◌, ◌≢◌, ◌+◌, ◌-◌, ◌<◌, ◌≤◌, Bool, true, false, cond, ◌&&◌, List, [], ◌∷◌, ◌++◌, length, take, drop, get_or, refl, sym, ap, subst, ◌∙◌, append-nil, length-append, arith, Option, Some}
use Rattle.std.specs.Prelude.{Contains, nat_lt}
use Rattle.std.specs.List.{list_all}
use Rattle.std.proofs.lemmas.Bool.{and_from, and_parts, lt-ltb, ltb-true}
use Rattle.std.proofs.lemmas.List.{take_all, take_at, take_more}
use Rattle.std.proofs.lemmas.List.Folds.{list_all-append}
use Rattle.nl_types.specs.Plain.Paths.{Name, Path, is_within}
use Rattle.nl_types.specs.Facts.Lookups.{is_within-append, within_is}
use Rattle.nl_manifests.specs.declared.attributes.Attributes.{Attributes}
use Rattle.nl_manifests.specs.declared.host_tree.HostEntry.{HostEntry}
use Rattle.nl_manifests.specs.declared.host_tree.HostObject.{HostObject}
use Rattle.nl_manifests.specs.declared.host_tree.HostObject.TheVariants.{Directory, File, Link}
use Rattle.nl_manifests.specs.HostTrees.{HostTree}
use Rattle.nl_host.specs.HostPaths.{is_host_name}
use Rattle.nl_host.specs.Puts.{Asked, HasAttributes, Put, folder_at, leads_to_text, made_if, may_stand}
use Rattle.nl_host.specs.Standing.{IsFront, IsInFolder, KeepsAbove, LaysEntry, LaysInOrder, host_front, is_above}
use Rattle.nl_host.specs.Trails.{but_last}
use Rattle.nl_host.proofs.Askings.{Asked-more, Asked-none}
use Rattle.nl_host.proofs.Fronts.{but_last-push, front_append, front_itself, front_stops, front_whole, hosts-front, within_front, within_itself, within_longer, within_trans}

-- ---- whether an entry may stand on the host

and_true : (b : Bool) → (b && true) ≡ b
and_true true = refl
and_true false = refl

and_false : (b : Bool) → (b && false) ≡ false
and_false true = refl
and_false false = refl

is_below : (path above : Path) (name : Name) → path ≡ above ++ name ∷ [] → nat_lt 0 (length path) ≡ true
is_below path above name parts =
    let sizes : length path ≡ length above + 1 = ap length parts ∙ length-append above (name ∷ []) in
    lt-ltb 0 (length path) (omega arith)

named : (path above : Path) (name : Name) → path ≡ above ++ name ∷ []
    → list_all is_host_name path ≡ (list_all is_host_name above && is_host_name name)
named path above name parts =
    ap (λ (p : Path). list_all is_host_name p) parts ∙ list_all-append is_host_name above (name ∷ [])
    ∙ ap (λ b. list_all is_host_name above && b) (and_true (is_host_name name))

pub may_is : (e : Path × HostEntry) (above : Path) (name : Name) → e.0 ≡ above ++ name ∷ []
    → list_all is_host_name above ≡ true → may_stand e ≡ (is_host_name name && leads_to_text e.1.object)
may_is e above name parts all =
    let text = leads_to_text e.1.object in
    ap (λ b. (b && list_all is_host_name e.0) && text) (is_below e.0 above name parts)
    ∙ ap (λ b. b && text) (named e.0 above name parts)
    ∙ ap (λ b. (b && is_host_name name) && text) all

may_not : (e : Path × HostEntry) (above : Path) (name : Name) → e.0 ≡ above ++ name ∷ []
    → list_all is_host_name above ≡ false → may_stand e ≡ false
may_not e above name parts odd =
    let text = leads_to_text e.1.object in
    let begun = nat_lt 0 (length e.0) in
    ap (λ b. (begun && b) && text) (named e.0 above name parts ∙ ap (λ b. b && is_host_name name) odd)
    ∙ ap (λ b. b && text) (and_false begun)

-- ---- the first folder itself

pub root_due : (tree : HostTree) (e : Path × HostEntry) → Contains tree e → e.0 ≡ [] → (a : Attributes)
    → e.1.attributes ≡ Some a → HasAttributes tree [] a
root_due tree e has root a is =
    let whole : (e.0, e.1) ≡ ([], record { object = e.1.object; attributes = Some a }) =
    λ i. (root i, record { object = e.1.object; attributes = is i }) in
    (e.1.object, subst (λ (f : Path × HostEntry). Contains tree f) whole has)

pub root_order : (tree : HostTree) (e : Path × HostEntry) (old new : Option (List Put)) (before here : Path)
    → e.0 ≡ [] → new ≡ old → LaysInOrder tree e old new before here
root_order tree e old new before here root same folder in_folder below = record {
  asked =
      subst (λ b. Asked tree (made_if b e) old new)
      (sym (ap (λ (p : Path). (nat_lt 0 (length p) && list_all is_host_name p) && leads_to_text e.1.object) root))
      (Asked-none tree old new same);
  stands = subst (λ (p : Path). is_within (host_front p) here ≡ true) (sym (at e.1.object)) refl;
}
  where
    at : (object : HostObject) → folder_at object e.0 ≡ []
    at Directory = root
    at (File bytes) = ap but_last root
    at (Link target) = ap but_last root

-- ---- an entry whose folder we don't come to

kept_front : (path above : Path) (name : Name) (before here folder : Path) → path ≡ above ++ name ∷ []
    → KeepsAbove path before here → IsFront (host_front folder) before → is_within (but_last path) folder ≡ true
    → IsFront (host_front above) here
kept_front path above name before here folder parts keeps in_folder below =
    let front = host_front above in
    let within : is_within above folder ≡ true =
    subst (λ (p : Path). is_within p folder ≡ true) (ap but_last parts ∙ but_last-push above name) below in
    let ends = within_trans front above folder (front_itself above) within in
    let begins = within_front front folder ends (hosts-front above) in
    let in_path : is_within above path ≡ true =
    subst (λ (p : Path). is_within above p ≡ true) (sym parts) (is_within-append above (name ∷ [])) in
    let short = within_longer front above (front_itself above) in
    let sizes : length path ≡ length above + 1 = ap length parts ∙ length-append above (name ∷ []) in
    keeps front (within_trans front (host_front folder) before begins in_folder)
    (and_from (nat_lt (length front) (length path)) (is_within front path)
    (lt-ltb (length front) (length path) (omega arith)) (within_trans front above path (front_itself above) in_path))

pub elsewhere : (tree : HostTree) (e : Path × HostEntry) (above : Path) (name : Name) (old new : Option (List Put))
    (before here : Path) → e.0 ≡ above ++ name ∷ [] → is_above here e.0 ≡ true → KeepsAbove e.0 before here
    → length here ≢ length above → Asked tree [] old new → LaysInOrder tree e old new before here
elsewhere tree e above name old new before here parts leads keeps other asked folder in_folder below =
    by (list_all is_host_name above) refl
  where
    front : IsFront (host_front above) here
    front = kept_front e.0 above name before here folder parts keeps in_folder below

    there : host_front above ≡ above → ⊥
    there whole =
        let deep = within_longer above here (subst (λ (p : Path). is_within p here ≡ true) whole front) in
        let short = ltb-true (length here) (length e.0) (and_parts (nat_lt (length here) (length e.0)) (is_within here e.0) leads).0 in
        let sizes : length e.0 ≡ length above + 1 = ap length parts ∙ length-append above (name ∷ []) in
        other (omega arith)

    at : (object : HostObject) → list_all is_host_name above ≡ false → host_front (folder_at object e.0) ≡ host_front above
    at Directory odd = ap host_front parts ∙ front_stops above (name ∷ []) odd
    at (File bytes) odd = ap host_front (ap but_last parts ∙ but_last-push above name)
    at (Link target) odd = ap host_front (ap but_last parts ∙ but_last-push above name)

    by : (b : Bool) → list_all is_host_name above ≡ b → LaysEntry tree e old new here
    by true all = absurd (there (front_whole above all))
    by false odd = record {
      asked = subst (λ b. Asked tree (made_if b e) old new) (sym (may_not e above name parts odd)) asked;
      stands = subst (λ (p : Path). is_within p here ≡ true) (sym (at e.1.object odd)) front;
    }

-- ---- an entry of our folder

pub ours : (path above : Path) (name : Name) (here : Path) → path ≡ above ++ name ∷ [] → is_above here path ≡ true
    → length here ≡ length above → here ≡ above
ours path above name here parts leads same =
    let n = length here in
    let in_path = (and_parts (nat_lt n (length path)) (is_within here path) leads).1 in
    let front : Path → Path = λ (p : Path). take n p in
    sym (take_at here (drop n path) n refl) ∙ ap front (sym (within_is here path in_path))
    ∙ ap front parts ∙ take_at above (name ∷ []) n (sym same)

pub inside : (tree : HostTree) (e : Path × HostEntry) (above : Path) (name : Name) (old mid new : Option (List Put))
    (before here : Path) → e.0 ≡ above ++ name ∷ [] → list_all is_host_name above ≡ true → Asked tree [] old mid
    → Asked tree (made_if (is_host_name name && leads_to_text e.1.object) e) mid new
    → IsInFolder name e.1.object e.0 above here → LaysInOrder tree e old new before here
inside tree e above name old mid new before here parts all none asked is folder in_folder below = record {
  asked =
      subst (λ b. Asked tree (made_if b e) old new) (sym (may_is e above name parts all))
      (Asked-more tree [] (made_if (is_host_name name && leads_to_text e.1.object) e) old mid new none asked);
  stands = by (is_host_name name) refl;
}
  where
    last_front : is_within (host_front (but_last e.0)) above ≡ true
    last_front =
        subst (λ (p : Path). is_within (host_front p) above ≡ true)
        (sym (ap but_last parts ∙ but_last-push above name)) (front_itself above)

    odd_front : is_host_name name ≡ false → (object : HostObject)
        → is_within (host_front (folder_at object e.0)) above ≡ true
    odd_front odd Directory =
        let whole : host_front e.0 ≡ above =
        ap host_front parts ∙ front_append above (name ∷ []) all
        ∙ ap (λ b. above ++ cond b (name ∷ []) []) odd ∙ append-nil above in
        subst (λ (p : Path). is_within p above ≡ true) (sym whole) (within_itself above)
    odd_front odd (File bytes) = last_front
    odd_front odd (Link target) = last_front

    by : (b : Bool) → is_host_name name ≡ b → IsFront (host_front (folder_at e.1.object e.0)) here
    by true may =
        let itself = folder_at e.1.object e.0 in
        subst (λ (p : Path). is_within (host_front itself) p ≡ true)
        (sym (is ∙ ap (λ b. cond b itself above) may)) (front_itself itself)
    by false odd =
        let itself = folder_at e.1.object e.0 in
        subst (λ (p : Path). is_within (host_front itself) p ≡ true)
        (sym (is ∙ ap (λ b. cond b itself above) odd)) (odd_front odd e.1.object)

-- ---- by a path as it is taken apart

empty : (path : Path) → length path < 1 → path ≡ []
empty [] none = refl
empty (n ∷ path) none = absurd (omega arith)

pub root_is : (path path' : Path) → path' ≡ path → length path' < 1 → path ≡ []
root_is path path' same none = sym same ∙ empty path' none

pub parted : (path path' : Path) (name : Name) → path' ≡ path → 1 ≤ length path'
    → name ≡ get_or path' (length path' - 1) name → path ≡ but_last path ++ name ∷ []
parted path path' name same some is =
    sym same ∙ whole ∙ ap (λ (p : Path). but_last p ++ name ∷ []) same
  where
    whole : path' ≡ but_last path' ++ name ∷ []
    whole =
        let last = length path' - 1 in
        let up : last + 1 ≡ length path' = omega arith in
        sym (take_all (last + 1) path' (omega arith)) ∙ take_more path' last name (omega arith)
        ∙ ap (λ (n : Name). take last path' ++ n ∷ []) (sym is)

-- how far up we go for an entry
pub record Comes (path : Path) (before here : Path) : Type 0 where
  pub leads : is_above here path ≡ true
  pub keeps : KeepsAbove path before here

pub comes_at : (path path' before here : Path) → path' ≡ path → is_above here path' ≡ true → KeepsAbove path' before here
    → Comes path before here
comes_at path path' before here same leads keeps = record {
  leads = subst (λ (p : Path). is_above here p ≡ true) same leads;
  keeps = subst (λ (p : Path). KeepsAbove p before here) same keeps;
}

-- the path of an entry whose folder is ours
pub path_here : (path : Path) (name name' : Name) (here : Path) → 1 ≤ length path
    → name ≡ get_or path (length path - 1) name → name' ≡ name → is_above here path ≡ true
    → length here ≡ length (but_last path) → path ≡ here ++ name' ∷ []
path_here path name name' here some is same_name leads deep =
    let parts = parted path path name refl some is in
    parts ∙ ap (λ (p : Path). p ++ name ∷ []) (sym (ours path (but_last path) name here parts leads deep))
    ∙ ap (λ (n : Name). here ++ n ∷ []) (sym same_name)

pub Asked-here : (tree tree' made : HostTree) (old mid new : Option (List Put)) → tree' ≡ tree → Asked tree [] old mid
    → Asked tree' made mid new → Asked tree made old new
Asked-here tree tree' made old mid new same first second =
    Asked-more tree [] made old mid new first (subst (λ (t : HostTree). Asked t made mid new) same second)

pub inside_at : (tree : HostTree) (e : Path × HostEntry) (path : Path) (name : Name) (old mid new : Option (List Put))
    (before here after : Path) → path ≡ e.0 → path ≡ here ++ name ∷ [] → list_all is_host_name here ≡ true
    → Asked tree [] old mid
    → Asked tree (made_if (is_host_name name && leads_to_text e.1.object) (path, e.1)) mid new
    → IsInFolder name e.1.object path here after → LaysInOrder tree e old new before after
inside_at tree e path name old mid new before here after same parts named none asked folder =
    subst (λ (f : Path × HostEntry). LaysInOrder tree f old new before after) (λ i. (same i, e.1))
    (inside tree (path, e.1) here name old mid new before after parts named none asked folder)
