-- Where we stand: one folder further down, and one up.
use Rattle.std.proofs.Common.{◌≡◌, ℕ, ◌+◌, ◌-◌, ◌<◌, ◌≤◌, Bool, true, false, List, [], ◌∷◌, ◌++◌, length, take, get_or, refl, sym, ap, subst, ◌∙◌, length-append, arith, Option, None, Some, suc, zero}
use Rattle.std.specs.Prelude.{Contains, nat_lt}
use Rattle.std.specs.List.{list_all}
use Rattle.std.proofs.lemmas.Bool.{and_from, and_parts, ltb-false, ltb-true}
use Rattle.std.proofs.lemmas.List.{get_or-append-add, get_or_append_left, length-take-le, take-append-le, take-take, take_all}
use Rattle.std.proofs.lemmas.List.Folds.{list_all-append}
use Rattle.nl_types.specs.Plain.Paths.{Name, Path}
use Rattle.nl_manifests.specs.declared.attributes.Attributes.{Attributes}
use Rattle.nl_manifests.specs.declared.host_tree.HostObject.TheVariants.{Directory}
use Rattle.nl_manifests.specs.HostTrees.{HostTree}
use Rattle.nl_host.specs.HostPaths.{is_host_name}
use Rattle.nl_host.specs.Puts.{Asked, HasAttributes, Put, asked_also, directory, given_if}
use Rattle.nl_host.specs.Standing.{AreDue, Stands}
use Rattle.nl_host.specs.Trails.{but_last}
use Rattle.nl_host.proofs.Askings.{Asked-given}

-- what is due is due to a folder
abbrev pub IsDue : HostTree → Path → Option Attributes → Type 0
IsDue tree folder due = (a : Attributes) → due ≡ Some a → HasAttributes tree folder a

all_take : (k : ℕ) (path : Path) → list_all is_host_name path ≡ true → list_all is_host_name (take k path) ≡ true
all_take zero path all = refl
all_take (suc k) [] all = refl
all_take (suc k) (n ∷ path) all =
    let parts = and_parts (is_host_name n) (list_all is_host_name path) all in
    and_from (is_host_name n) (list_all is_host_name (take k path)) parts.0 (all_take k path parts.1)

-- ---- up

-- the last one of what is due, and the folder that it is due to
pub last_due : (tree : HostTree) (folder : Path) (first : Option Attributes) (due rest : List (Option Attributes))
    (last : Option Attributes) (trail : Path) → Stands tree folder first due trail → due ≡ rest ++ last ∷ []
    → (a : Attributes) → last ≡ Some a → HasAttributes tree folder a
last_due tree folder first due rest last trail stands parts a is =
    let sizes : length due ≡ length rest + 1 = ap length parts ∙ length-append rest (last ∷ []) in
    let depth = stands.depth in
    let same : length rest ≡ length rest + 0 = omega arith in
    let at : get_or due (length rest) None ≡ Some a =
    ap (λ (d : List (Option Attributes)). get_or d (length rest) None) parts
    ∙ ap (λ (k : ℕ). get_or (rest ++ last ∷ []) k None) same ∙ get_or-append-add rest (last ∷ []) 0 None ∙ is in
    let whole : take (length rest + 1) folder ≡ folder = take_all (length rest + 1) folder (omega arith) in
    subst (λ (f : Path). HasAttributes tree f a) whole (stands.due_below (length rest) a at)

within_some : (rest : List (Option Attributes)) (k : ℕ) (a : Attributes) → get_or rest k None ≡ Some a → k < length rest
within_some [] k a at = cc
within_some (x ∷ rest) zero a at = omega arith
within_some (x ∷ rest) (suc k) a at = let lt = within_some rest k a at in omega arith

pub one_up : (tree : HostTree) (folder : Path) (first : Option Attributes) (due rest : List (Option Attributes))
    (last : Option Attributes) (trail : Path) → Stands tree folder first due trail → due ≡ rest ++ last ∷ []
    → Stands tree (but_last folder) first rest (but_last folder)
one_up tree folder first due rest last trail stands parts = record {
  here_is = refl;
  depth = shorter;
  named = all_take (length folder - 1) folder stands.named;
  first_due = stands.first_due;
  due_below = below;
}
  where
    sizes : length due ≡ length rest + 1
    sizes = ap length parts ∙ length-append rest (last ∷ [])

    shorter : length rest ≡ length (but_last folder)
    shorter =
        let depth = stands.depth in
        let sized = sizes in
        let taken = length-take-le (length folder - 1) folder (omega arith) in
        omega arith

    below : AreDue tree (but_last folder) rest
    below k a at =
        let depth = stands.depth in
        let sized = sizes in
        let lt = within_some rest k a at in
        let same = take-take (k + 1) (length folder - 1) folder (omega arith) in
        let before : get_or due k None ≡ Some a =
        ap (λ (d : List (Option Attributes)). get_or d k None) parts
        ∙ get_or_append_left rest (last ∷ []) None k lt ∙ at in
        subst (λ (f : Path). HasAttributes tree f a) (sym same) (stands.due_below k a before)

-- by the values that are there
pub moved : (tree tree' : HostTree) (here here' : Path) (first first' : Option Attributes)
    (due due' : List (Option Attributes)) (trail trail' : Path) → Stands tree here first due trail
    → tree' ≡ tree → here' ≡ here → first' ≡ first → due' ≡ due → trail' ≡ trail
    → Stands tree' here' first' due' trail'
moved tree tree' here here' first first' due due' trail trail' stands a b c d e =
    subst (λ (x : HostTree). Stands x here' first' due' trail') (sym a)
    (subst (λ (x : Path). Stands tree x first' due' trail') (sym b)
    (subst (λ (x : Option Attributes). Stands tree here x due' trail') (sym c)
    (subst (λ (x : List (Option Attributes)). Stands tree here first x trail') (sym d)
    (subst (λ (x : Path). Stands tree here first due x) (sym e) stands))))

-- behind the call of the host that goes up
pub left_is : (tree tree' : HostTree) (here here' : Path) (first first' : Option Attributes)
    (due rest due' : List (Option Attributes)) (last : Option Attributes) (trail mid trail' : Path)
    → Stands tree here first due trail → due ≡ rest ++ last ∷ [] → tree' ≡ tree → here' ≡ but_last here
    → first' ≡ first → due' ≡ rest → mid ≡ trail → trail' ≡ take (length rest) mid
    → Stands tree' here' first' due' trail'
left_is tree tree' here here' first first' due rest due' last trail mid trail' stands parts a b c d same up =
    moved tree tree' (but_last here) here' first first' rest due' (but_last here) trail'
    (one_up tree here first due rest last trail stands parts) a b c d
    (up ∙ ap (λ (t : Path). take (length rest) t) (same ∙ stands.here_is) ∙ ap (λ (k : ℕ). take k here) shorter)
  where
    shorter : length rest ≡ length here - 1
    shorter =
        let depth = stands.depth in
        let sizes : length due ≡ length rest + 1 = ap length parts ∙ length-append rest (last ∷ []) in
        omega arith

-- ---- down

pub one_down : (tree : HostTree) (folder : Path) (first : Option Attributes) (due : List (Option Attributes))
    (name : Name) (last : Option Attributes) (trail : Path) → Stands tree folder first due trail → is_host_name name ≡ true
    → IsDue tree (folder ++ name ∷ []) last → Stands tree (folder ++ name ∷ []) first (due ++ last ∷ []) (folder ++ name ∷ [])
one_down tree folder first due name last trail stands may is_due = record {
  here_is = refl;
  depth = longer;
  named =
      list_all-append is_host_name folder (name ∷ [])
      ∙ and_from (list_all is_host_name folder) (list_all is_host_name (name ∷ [])) stands.named
      (and_from (is_host_name name) true may refl);
  first_due = stands.first_due;
  due_below = λ k a at. by k a at (nat_lt k (length due)) refl;
}
  where
    longer : length (due ++ last ∷ []) ≡ length (folder ++ name ∷ [])
    longer =
        let depth = stands.depth in
        let one = length-append due (last ∷ []) in
        let other = length-append folder (name ∷ []) in
        omega arith

    by : (k : ℕ) (a : Attributes) → get_or (due ++ last ∷ []) k None ≡ Some a → (b : Bool) → nat_lt k (length due) ≡ b
        → HasAttributes tree (take (k + 1) (folder ++ name ∷ [])) a
    by k a at true is =
        let depth = stands.depth in
        let lt : k < length due = ltb-true k (length due) is in
        let same = take-append-le (k + 1) folder (name ∷ []) (omega arith) in
        let before = sym (get_or_append_left due (last ∷ []) None k lt) ∙ at in
        subst (λ (f : Path). HasAttributes tree f a) (sym same) (stands.due_below k a before)
    by k a at false is =
        let depth = stands.depth in
        let past : length due ≤ k = ltb-false k (length due) is in
        let within = within_some (due ++ last ∷ []) k a at in
        let sized = length-append due (last ∷ []) in
        let other = length-append folder (name ∷ []) in
        let whole = take_all (k + 1) (folder ++ name ∷ []) (omega arith) in
        let here : k ≡ length due + 0 = omega arith in
        let is_last : last ≡ Some a =
        sym (get_or-append-add due (last ∷ []) 0 None)
        ∙ ap (λ (i : ℕ). get_or (due ++ last ∷ []) i None) (sym here) ∙ at in
        subst (λ (f : Path). HasAttributes tree f a) (sym whole) (is_due a is_last)

-- behind the calls of the host that make a folder and enter it
pub down_is : (tree : HostTree) (here : Path) (first : Option Attributes) (due due' : List (Option Attributes))
    (path : Path) (name : Name) (last : Option Attributes) (trail mid trail' : Path)
    → Stands tree here first due trail → path ≡ here ++ name ∷ [] → is_host_name name ≡ true
    → Contains tree (path, directory last) → due' ≡ due ++ last ∷ [] → mid ≡ trail → trail' ≡ mid ++ name ∷ []
    → Stands tree path first due' trail'
down_is tree here first due due' path name last trail mid trail' stands is may has pushed same down =
    moved tree tree (here ++ name ∷ []) path first first (due ++ last ∷ []) due' (here ++ name ∷ []) trail'
    (one_down tree here first due name last trail stands may due_there) refl is refl pushed
    (down ∙ ap (λ (p : Path). p ++ name ∷ []) (same ∙ stands.here_is))
  where
    due_there : IsDue tree (here ++ name ∷ []) last
    due_there a given =
        subst (λ (p : Path). HasAttributes tree p a) is
        (Directory, subst (λ (l : Option Attributes). Contains tree (path, directory l)) given has)

-- ---- in the first folder

pub shorter_by_one : (here here' : Path) → here' ≡ but_last here → length here' ≡ length here - 1
shorter_by_one here here' up =
    ap length up ∙ length-take-le (length here - 1) here (omega arith)

nothing : (path : Path) → length path ≡ 0 → path ≡ []
nothing [] none = refl
nothing (n ∷ path) none = absurd (omega arith)

pub first_asked : (tree : HostTree) (here : Path) (first : Option Attributes) (due : List (Option Attributes))
    (trail : Path) (old new : Option (List Put)) → Stands tree here first due trail → length here ≡ 0
    → new ≡ asked_also old (given_if trail first) → Asked tree [] old new
first_asked tree here first due trail old new stands none asked =
    let at : trail ≡ [] = stands.here_is ∙ nothing here none in
    Asked-given tree [] first old new (asked ∙ ap (λ (p : Path). asked_also old (given_if p first)) at) stands.first_due refl
