-- What an entry adds to what is shown.
use Rattle.std.proofs.Common.{◌≡◌, ℕ, suc, ◌-◌, ◌≤◌, [], ◌∷◌, ◌++◌, Option, Some, None, refl, sym, ap, ◌∙◌, length, take, get_or, arith}
use Rattle.std.specs.Option.{option_map}
use Rattle.nl_types.specs.declared.reply.Object.{Object}
use Rattle.nl_types.specs.Plain.Paths.{Name, Path}
use Rattle.nl_types.specs.Plain.Trees.{Tree, lookup}
use Rattle.nl_manifests.specs.declared.manifest.Line.{Line}
use Rattle.nl_manifests.specs.declared.host_tree.HostEntry.{HostEntry}
use Rattle.nl_manifests.specs.HostTrees.{parted, shown_link}
use Rattle.nl_manifests.specs.Private.Opening.{entry_if, link_part, link_where}

-- a link where nothing stands
pub link_is : (tree : Tree) (dir : Path) (line : Line) (path seen : Path) (name : Name) (entry : Option
    HostEntry)
    → path ≡ dir ++ name ∷ [] → name ≡ line.name → seen ≡ path
    → ◌≡◌ {A = Option Object} None (lookup tree seen) → entry ≡ shown_link line.name (Some line)
    → entry_if path entry ≡ link_part tree dir line
link_is tree dir line path seen name entry below named same none is =
    let at : path ≡ dir ++ line.name ∷ [] = below ∙ ap (λ (n : Name). dir ++ n ∷ []) named in
    let free : lookup tree (dir ++ line.name ∷ []) ≡ None = sym (none ∙ ap (lookup tree) (same ∙ at)) in
    let entries : entry ≡ link_where (lookup tree (dir ++ line.name ∷ [])) line =
    is ∙ sym (ap (λ (o : Option Object). link_where o line) free) in
    λ i. entry_if (at i) (entries i)

-- a path and its last name
pub parted_last : (path : Path) (d : Name) → 1 ≤ length path
    → parted path ≡ Some (take (length path - 1) path, get_or path (length path - 1) d)
parted_last [] d some = absurd (omega arith)
parted_last (n ∷ []) d some = refl
parted_last (n ∷ m ∷ path) d some =
    let front : length (n ∷ m ∷ path) - 1 ≡ suc (length (m ∷ path) - 1) = omega arith in
    ap (λ (o : Option (Path × Name)). option_map (λ p. (n ∷ p.0, p.1)) o) (parted_last (m ∷ path) d (omega
    arith))
    ∙ ap (λ (k : ℕ). Some (take k (n ∷ m ∷ path), get_or (n ∷ m ∷ path) k d)) (sym front)
