-- Paths of the host, name by name.
use Rattle.std.proofs.Common.{◌≡◌, ℕ, ◌+◌, ◌<◌, true, cond, List, [], ◌∷◌, ◌++◌, length, take, drop, get_or, sym, ap, ◌∙◌, append_assoc, append-nil, arith}
use Rattle.std.proofs.lemmas.List.{at_drop_more, take_more}
use Rattle.nl_types.specs.Plain.Characters.{slash}
use Rattle.nl_types.specs.Plain.Paths.{Name, Path}
use Rattle.nl_folders.specs.Spelled.{joined}
use Rattle.nl_host.specs.HostPaths.{host_names, is_host_name}

pub joined-push : (names : Path) (name : Name) → joined (names ++ name ∷ []) ≡ joined names ++ slash ∷ name
joined-push [] name = append-nil (slash ∷ name)
joined-push (n ∷ names) name =
    ap (λ (rest : List ℕ). (slash ∷ n) ++ rest) (joined-push names name)
    ∙ sym (append_assoc (slash ∷ n) (joined names) (slash ∷ name))

-- ---- paths

-- one more name is behind a slash
pub path_more : (folder text mid new : List ℕ) (path : Path) (i : ℕ) (n name : Name) → i < length path
    → n ≡ get_or path i n → name ≡ n → text ≡ folder ++ joined (take i path) → mid ≡ text ++ slash ∷ []
    → new ≡ mid ++ name → new ≡ folder ++ joined (take (i + 1) path)
path_more folder text mid new path i n name lt is same so_far slashed named =
    let before = joined (take i path) in
    let more : joined (take (i + 1) path) ≡ before ++ slash ∷ n =
    ap joined (take_more path i n lt) ∙ ap (λ (m : Name). joined (take i path ++ m ∷ [])) (sym is)
    ∙ joined-push (take i path) n in
    let text_is : mid ≡ (folder ++ before) ++ slash ∷ [] =
    slashed ∙ ap (λ (t : List ℕ). t ++ slash ∷ []) so_far in
    named ∙ ap (λ (t : List ℕ). t ++ name) text_is
    ∙ ap (λ (m : Name). ((folder ++ before) ++ slash ∷ []) ++ m) same
    ∙ append_assoc (folder ++ before) (slash ∷ []) n ∙ append_assoc folder before (slash ∷ n)
    ∙ ap (λ (t : List ℕ). folder ++ t) (sym more)

pub names_more : (path : Path) (i : ℕ) (n : Name) → i < length path → n ≡ get_or path i n
    → is_host_name n ≡ true → host_names path ≡ i + host_names (drop i path)
    → host_names path ≡ i + 1 + host_names (drop (i + 1) path)
names_more path i n lt is may so_far =
    let rest = host_names (drop (i + 1) path) in
    let more : host_names (drop i path) ≡ rest + 1 =
    at_drop_more host_names path i n lt
    ∙ ap (λ (m : Name). host_names (m ∷ drop (i + 1) path)) (sym is)
    ∙ ap (λ b. cond b (rest + 1) 0) may in
    omega arith
