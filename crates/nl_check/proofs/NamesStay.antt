-- The names of a checkpoint are those of the one before it, where the inodes that changed are files.
use Rattle.std.proofs.Common.{◌≡◌, ◌⊎◌, ℕ, List, Option, Some, None, ap, sym, subst, ◌∙◌, inl, inr}
use Rattle.std.specs.Option.{option_map}
use Rattle.nl_types.specs.Plain.Paths.{Name}
use Rattle.nl_types.specs.Blocks.Roots.{Pages, Root, page_at}
use Rattle.nl_types.specs.Inodes.{Link, InodeContent, Bytes, Records}
use Rattle.nl_layout.specs.Root.{root_of}
use Rattle.nl_layout.specs.declared.inode.Inode.{Inode}
use Rattle.nl_layout.specs.declared.inode.InodeKind.{InodeKind}
use Rattle.nl_layout.specs.declared.inode.InodeKind.TheVariants.{File, Directory, InodeFile}
use Rattle.nl_dirs.specs.declared.record.Record.{Record}
use Rattle.nl_dirs.specs.Records.{entry_of}
use Rattle.nl_dirs.specs.Facts.Blocks.{directories-one}
use Rattle.nl_dirs.specs.Facts.Spelling.{blocks_hold_their_records, bytes_hold_one_list}
use Rattle.nl_files.specs.CheckpointRoots.{StandsAs, StandsFor, Stores}
use Rattle.nl_ifile.specs.Inodes.{inode_at}
use Rattle.nl_tree.specs.Held.{Held, Holding, bytes_stored, inode_content, inodes_of_holding}
use Rattle.nl_check.specs.InodeTrees.{FormTree}
use Rattle.nl_check.specs.Private.AlikeNames.{AreAlike, AreFiles, NamesAlike}
use Rattle.nl_check.proofs.AlikeTrees.{forms-alike}

-- ---- what two hold

both-bytes : (xs ys : List ℕ) (a b : Option InodeContent) → a ≡ Some (Bytes xs) → b ≡ Some (Bytes ys)
    → AreAlike a b
both-bytes xs ys None b s t = cc
both-bytes xs ys (Some (Bytes own)) b s t = (ys, t)
both-bytes xs ys (Some (Records own)) b s t = cc

both-records : (xs ys : Name → Option Link) (a b : Option InodeContent) → a ≡ Some (Records xs)
    → b ≡ Some (Records ys) → Some (Records ys) ≡ Some (Records xs) → AreAlike a b
both-records xs ys None b s t one = cc
both-records xs ys (Some (Bytes own)) b s t one = cc
both-records xs ys (Some (Records own)) b s t one = t ∙ (one ∙ sym s)

both-none : (a b : Option InodeContent) → a ≡ None → b ≡ None → AreAlike a b
both-none None b s t = t
both-none (Some x) b s t = cc

-- ---- one inode

-- it is the same
kinds-same : (pages : Pages) (inode : Inode) (kind : InodeKind) (a b : Option Held)
    → StandsAs (page_at pages (root_of inode.root)) kind inode.size a
    → StandsAs (page_at pages (root_of inode.root)) kind inode.size b
    → AreAlike (option_map inode_content a) (option_map inode_content b)
kinds-same pages inode File a b s t =
    let bytes = bytes_stored (page_at pages (root_of inode.root)) inode.size in
    both-bytes bytes bytes (option_map inode_content a) (option_map inode_content b)
    (ap (option_map inode_content) s) (ap (option_map inode_content) t)
kinds-same pages inode Directory a b (xs, held_xs, s) (ys, held_ys, t) =
    let one : ys ≡ xs =
    directories-one bytes_hold_one_list blocks_hold_their_records (page_at pages (root_of inode.root))
    inode.size
    inode.size ys xs held_ys held_xs in
    both-records (λ name. entry_of name xs) (λ name. entry_of name ys) (option_map inode_content a)
    (option_map inode_content b)
    (ap (option_map inode_content) s) (ap (option_map inode_content) t)
    (ap (λ (rs : List Record). Some (Records (λ name. entry_of name rs))) one)
kinds-same pages inode InodeFile a b s t = absurd s

same-content : (pages : Pages) (o : Option Inode) (a b : Option Held) → StandsFor pages o a
    → StandsFor pages o b → AreAlike (option_map inode_content a) (option_map inode_content b)
same-content pages None a b s t =
    both-none (option_map inode_content a) (option_map inode_content b) (ap (option_map inode_content) s)
    (ap (option_map inode_content) t)
same-content pages (Some inode) a b s t = kinds-same pages inode inode.kind a b s t

-- or both are files
file-content : (pages : Pages) (x y : Inode) (a b : Option Held) (k l : InodeKind)
    → k ≡ File → l ≡ File
    → StandsAs (page_at pages (root_of x.root)) k x.size a
    → StandsAs (page_at pages (root_of y.root)) l y.size b
    → AreAlike (option_map inode_content a) (option_map inode_content b)
file-content pages x y a b File File p q s t =
    both-bytes (bytes_stored (page_at pages (root_of x.root)) x.size)
    (bytes_stored (page_at pages (root_of y.root)) y.size) (option_map inode_content a)
    (option_map inode_content b)
    (ap (option_map inode_content) s) (ap (option_map inode_content) t)
file-content pages x y a b File Directory p q s t = cc
file-content pages x y a b File InodeFile p q s t = absurd t
file-content pages x y a b Directory l p q s t = cc
file-content pages x y a b InodeFile l p q s t = absurd s

-- ---- all of them

module _ (pages : Pages) (old new : Root) (a b : Holding) (stores : Stores pages old a)
    (stores_new : Stores pages new b)
    (each : (i : ℕ) → (inode_at pages old i ≡ inode_at pages new i)
    ⊎ AreFiles (inode_at pages old i) (inode_at pages new i)) where
  pub names-stay : NamesAlike (inodes_of_holding a) (inodes_of_holding b)
  names-stay i = elim (each i) [
    | inl same ↦
        same-content pages (inode_at pages new i) (a i) (b i)
        (subst (λ (o : Option Inode). StandsFor pages o (a i)) same (stores i)) (stores_new i)
    | inr f ↦
        file-content pages f.one f.other (a i) (b i) f.one.kind f.other.kind f.one_file f.other_file
        (subst (λ (o : Option Inode). StandsFor pages o (a i)) f.one_is (stores i))
        (subst (λ (o : Option Inode). StandsFor pages o (b i)) f.other_is (stores_new i))
  ]

  pub forms-stay : FormTree (inodes_of_holding a) → FormTree (inodes_of_holding b)
  forms-stay = forms-alike (inodes_of_holding a) (inodes_of_holding b) names-stay
