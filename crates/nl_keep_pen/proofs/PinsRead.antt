-- What is read of the file of pins.
use Rattle.std.proofs.Common.{◌≡◌, inl, inr, ℕ, ◌<◌, true, false, List, Option, None, Some, Result, Ok, Err, refl, sym, ap, ◌∙◌, subst, is_some, true≢false, arith}
use Rattle.std.specs.Prelude.{IfErr, IfOk}
use Rattle.std.specs.List.{list_all}
use Rattle.std.specs.Option.{ok_or, option_or}
use Rattle.nl_types.specs.declared.error.VolError.{VolError}
use Rattle.nl_types.specs.declared.error.VolError.TheVariants.{IsDir, Memory, NotFound}
use Rattle.nl_types.specs.declared.reply.Object.{Object}
use Rattle.nl_types.specs.declared.reply.Object.TheVariants.{Dir, File}
use Rattle.nl_types.specs.Plain.Calls.{and_then, file_at, file_in, ok_unless, stops_walk}
use Rattle.nl_types.specs.Plain.Paths.{Path, is_name}
use Rattle.nl_types.specs.Plain.Trees.{Tree, IsTree, lookup}
use Rattle.nl_types.specs.Plain.Worlds.{World, Copy, IsWorld, copy_at, latest}
use Rattle.nl_folders.specs.declared.folder.FolderError.{FolderError}
use Rattle.nl_folders.specs.declared.folder.FolderError.TheVariants.{Refused}
use Rattle.nl_folders.specs.Refusals.{RefusesPath}
use Rattle.nl_pins.specs.Trees.{pins_path}
use Rattle.nl_keep.specs.Refusals.{RefusesFile}
use Rattle.nl_keep_pen.specs.Pins.{Finds, answered, is_of_no_file, pins_of}

-- the path is short enough for each call
by_memory : (e : FolderError) → RefusesPath pins_path e → e ≡ Refused Memory
by_memory e (inl lacks) = lacks
by_memory e (inr long) = let no : 4095 < 13 = long.1 in absurd (omega arith)

-- a file that is there isn't refused as missing
not_missing : (e : FolderError) → RefusesPath pins_path e → is_of_no_file e ≡ true → ⊥
not_missing e refuses missing =
    let no : false ≡ true = sym (ap is_of_no_file (by_memory e refuses)) ∙ missing in true≢false (sym no)

-- in a tree the file isn't read only where nothing or a directory stands in its place
no_file : (tree : Tree) (x : VolError) → IsTree tree → file_at tree pins_path ≡ Err x
    → is_of_no_file (Refused x) ≡ true
no_file tree x is_tree missing = by (lookup tree pins_path) (sym (ap found is_tree.root) ∙ missing)
  where
    found : Option Object → Result (List ℕ) VolError
    found root =
        and_then (and_then (ok_unless (option_or (stops_walk root) None)) (λ _. ok_or (lookup tree pins_path) NotFound))
        file_in

    by : (o : Option Object) → and_then (ok_or o NotFound) file_in ≡ Err x → is_of_no_file (Refused x) ≡ true
    by None is = let same : NotFound ≡ x = cc in ap (λ (y : VolError). is_of_no_file (Refused y)) (sym same)
    by (Some Dir) is = let same : IsDir ≡ x = cc in ap (λ (y : VolError). is_of_no_file (Refused y)) (sym same)
    by (Some (File bytes)) is = let no : ◌≡◌ {A = Result (List ℕ) VolError} (Ok bytes) (Err x) = is in cc

-- of a tree that is shown, by whatever path that is the file's
module _ (S : Tree → Type 0) (tree : Tree) (shows : S tree) (is_tree : IsTree tree) (path : Path)
    (same : path ≡ pins_path) (read : Result (List ℕ) FolderError)
    (there : IfErr read (λ e. (t : Tree) (bytes : List ℕ) → S t → file_at t path ≡ Ok bytes
    → RefusesPath path e)) where
  refused_there : (e : FolderError) → read ≡ Err e → (bytes : List ℕ) → file_at tree pins_path ≡ Ok bytes
      → RefusesPath pins_path e
  refused_there e is bytes at =
      subst (λ (p : Path). RefusesPath p e) same
      (subst (λ (r : Result (List ℕ) FolderError).
      IfErr r (λ x. (t : Tree) (bytes : List ℕ) → S t → file_at t path ≡ Ok bytes → RefusesPath path x)) is there
      tree bytes shows (subst (λ (p : Path). file_at tree p ≡ Ok bytes) (sym same) at))

  none_there : (e : FolderError) → read ≡ Err e → is_of_no_file e ≡ true → None ≡ pins_of tree
  none_there e is missing = by (file_at tree pins_path) refl
    where
      by : (file : Result (List ℕ) VolError) → file_at tree pins_path ≡ file → None ≡ answered file
      by (Ok bytes) at = absurd (not_missing e (refused_there e is bytes at) missing)
      by (Err x) at = refl

  by_read : (r : Result (List ℕ) FolderError) → read ≡ r
      → IfOk r (λ bytes. (t : Tree) → S t → file_at t path ≡ Ok bytes) → (pins : Option (List ℕ))
      → Finds r pins → pins ≡ pins_of tree
  by_read (Ok bytes) is right pins finds =
      finds ∙ sym (ap answered (subst (λ (p : Path). file_at tree p ≡ Ok bytes) same (right tree shows)))
  by_read (Err e) is right pins finds = finds.0 ∙ none_there e is finds.1

  pub pins_read : IfOk read (λ bytes. (t : Tree) → S t → file_at t path ≡ Ok bytes) → (pins : Option (List ℕ))
      → Finds read pins → pins ≡ pins_of tree
  pins_read right pins finds = by_read read refl right pins finds

  -- what is refused, but where nothing or a directory stands there, is so for want of memory
  pub pins_refused : IfErr read (λ e. (t : Tree) (x : VolError) → S t → list_all is_name path ≡ true
      → file_at t path ≡ Err x → RefusesFile path x e)
      → (e : FolderError) → read ≡ Err e → is_of_no_file e ≡ false → e ≡ Refused Memory
  pins_refused missing e is other = by (file_at tree pins_path) refl
    where
      refuses : (x : VolError) → RefusesFile pins_path x e → file_at tree pins_path ≡ Err x → e ≡ Refused Memory
      refuses x (inl told) at =
          absurd (true≢false (sym (no_file tree x is_tree at) ∙ sym (ap is_of_no_file told) ∙ other))
      refuses x (inr path_refused) at = by_memory e path_refused

      by : (file : Result (List ℕ) VolError) → file_at tree pins_path ≡ file → e ≡ Refused Memory
      by (Ok bytes) at = by_memory e (refused_there e is bytes at)
      by (Err x) at =
          refuses x (subst (λ (p : Path). RefusesFile p x e) same
          (subst (λ (r : Result (List ℕ) FolderError).
          IfErr r (λ y. (t : Tree) (x : VolError) → S t → list_all is_name path ≡ true → file_at t path ≡ Err x
          → RefusesFile path x y)) is missing
          tree x shows (ap (list_all is_name) same) (subst (λ (p : Path). file_at tree p ≡ Err x) (sym same) at))) at

-- the latest checkpoint is kept
pub latest_is : (w : World) → IsWorld w → (number : ℕ) → number ≡ latest w
    → (copy : Copy) × (copy_at w number ≡ Some copy)
latest_is w world number same = by (copy_at w (latest w)) refl
  where
    by : (o : Option Copy) → copy_at w (latest w) ≡ o → (copy : Copy) × (copy_at w number ≡ Some copy)
    by None none = absurd (true≢false (sym world.latest_kept ∙ ap is_some none))
    by (Some copy) kept = (copy, ap (copy_at w) same ∙ kept)
