-- The entries of a tree, one after another.
use Rattle.std.proofs.Common.{◌≡◌, ℕ, ◌+◌, ◌<◌, true, List, [], ◌∷◌, ◌++◌, length, take, drop, get_or, sym, ap, subst, ◌∙◌, Option}
use Rattle.std.specs.Prelude.{Err, Ok, OnOk, Result}
use Rattle.std.specs.List.{filter}
use Rattle.std.proofs.lemmas.Bool.{and_parts}
use Rattle.std.proofs.lemmas.List.{drop_more}
use Rattle.std.proofs.lemmas.List.Elements.{filter_more}
use Rattle.nl_types.specs.Plain.Paths.{Path, is_within}
use Rattle.nl_manifests.specs.declared.host_tree.HostEntry.{HostEntry}
use Rattle.nl_manifests.specs.HostTrees.{HostTree}
use Rattle.nl_host.specs.Puts.{Asked, AsksAll, AsksOnly, Put, folder_at, is_walk, made_if, may_stand}
use Rattle.nl_host.specs.Standing.{LaysFirst, LaysInOrder}
use Rattle.nl_host.specs.Trails.{but_last}
use Rattle.nl_host.proofs.Askings.{Asked-more, Asked-next}

pub asks_on : (tree tree' : HostTree) (old mid new : Option (List Put)) → tree' ≡ tree → AsksOnly tree old mid
    → AsksOnly tree' mid new → AsksOnly tree old new
asks_on tree tree' old mid new same first second = (
  first.0 ++ second.0,
  Asked-more tree first.0 second.0 old mid new first.1
      (subst (λ (t : HostTree). Asked t second.0 mid new) same second.1),
)

pub first_more : (tree tree' : HostTree) (i : ℕ) (e : Path × HostEntry) (old mid new : Option (List Put))
    (before here : Path) → i < length tree → e ≡ get_or tree i e → tree' ≡ tree → LaysFirst tree i old mid before
    → LaysInOrder tree' e mid new before here → LaysFirst tree (i + 1) old new here
first_more tree tree' i e old mid new before here lt is same so_far next =
    let begun = filter may_stand (take i tree) in
    let at : drop i tree ≡ e ∷ drop (i + 1) tree =
    drop_more tree i e lt ∙ ap (λ (f : Path × HostEntry). f ∷ drop (i + 1) tree) (sym is) in
    let walks : is_walk so_far.folder (e ∷ drop (i + 1) tree) ≡ true =
    ap (λ (es : HostTree). is_walk so_far.folder es) (sym at) ∙ so_far.rest in
    let parts =
    and_parts (is_within (but_last e.0) so_far.folder) (is_walk (folder_at e.1.object e.0) (drop (i + 1) tree)) walks in
    let laid = next so_far.folder so_far.stands parts.0 in
    let made : filter may_stand (take (i + 1) tree) ≡ begun ++ made_if (may_stand e) e =
    filter_more may_stand tree i e lt
    ∙ ap (λ (f : Path × HostEntry). begun ++ made_if (may_stand f) f) (sym is) in
    record {
      asked =
          subst (λ (m : HostTree). Asked tree m old new) (sym made)
          (Asked-more tree begun (made_if (may_stand e) e) old mid new so_far.asked
          (subst (λ (t : HostTree). Asked t (made_if (may_stand e) e) mid new) same laid.asked));
      folder = folder_at e.1.object e.0;
      stands = laid.stands;
      rest = parts.1;
    }

-- ---- all of it, once the folders are left

pub only_behind : (entries first last : HostTree) (old mid new : Option (List Put)) → first ≡ entries → last ≡ first
    → AsksOnly first old mid → Asked last [] mid new → AsksOnly entries old new
only_behind entries first last old mid new is same asked left = (
  asked.0,
  Asked-next entries last asked.0 old mid new (same ∙ is)
      (subst (λ (t : HostTree). Asked t asked.0 old mid) is asked.1) left,
)

pub all_behind : (entries first last : HostTree) (old mid new : Option (List Put)) → first ≡ entries → last ≡ first
    → AsksAll first old mid → Asked last [] mid new → AsksAll entries old new
all_behind entries first last old mid new is same asked left =
    Asked-next entries last (filter may_stand entries) old mid new (same ∙ is)
    (subst (λ (t : HostTree). AsksAll t old mid) is asked) left

pub ok_anyway : {T E P : Type 0} (r : Result T E) → P → OnOk r P
ok_anyway (Ok x) holds = holds
ok_anyway (Err e) holds = tt
