-- What calls that read a tree answer, by what the inodes hold.
use Rattle.std.proofs.Common.{◌≡◌, ◌≢◌, ◌⊎◌, inl, inr, ℕ, ◌+◌, ◌-◌, ◌<◌, min, List, [], ◌∷◌, ◌++◌, length, take, drop, slice_index, Option, Some, None, Result, Ok, Err, refl, sym, ap, ◌∙◌, arith, length-drop}
use Rattle.std.specs.Prelude.{IfErr, IfOk, map}
use Rattle.std.specs.Option.{option_map}
use Rattle.std.specs.Result.{IsErrAnd}
use Rattle.std.proofs.lemmas.List.{ext_get_or, get_or-take, get_or-drop, length-take, take_at}
use Rattle.std.proofs.lemmas.List.FromFn.{get_or-map-range_with_len, length-map-range_with_len}
use Rattle.nl_types.specs.declared.error.VolError.{VolError}
use Rattle.nl_types.specs.declared.error.VolError.TheVariants.{Memory}
use Rattle.nl_types.specs.declared.kind.Kind.TheVariants as kind
use Rattle.nl_types.specs.declared.reply.Answer.{Answer}
use Rattle.nl_types.specs.declared.reply.Answer.TheVariants as answer
use Rattle.nl_types.specs.declared.reply.Named.{Named}
use Rattle.nl_types.specs.declared.reply.Stat.TheVariants as status
use Rattle.nl_types.specs.Plain.Paths.{Name, Path, path_of}
use Rattle.nl_types.specs.Plain.Trees.{Tree}
use Rattle.nl_types.specs.Plain.Calls.{IsUnlessMemory, ShowsUnlessMemory, and_then, list, read, stat}
use Rattle.nl_types.specs.Inodes.{Inodes, Link, Records}
use Rattle.nl_types.specs.Judging.{bytes_in, bytes_of, shown, stat_in}
use Rattle.nl_types.specs.Resolving.{as_dir, resolve}
use Rattle.nl_types.specs.Facts.Inodes.Resolving.{directories_hold_records}
use Rattle.nl_types.specs.Facts.Inodes.Judging.{files_are_judged, lists_are_judged, stats_are_judged}
use Rattle.nl_dirs.specs.declared.record.Record.{Record}
use Rattle.nl_tree.specs.Held.{Held, Holding, Listed, Stored, byte_stored, bytes_stored, held_block, held_count, held_size, inode_content, inodes_of_holding}
use Rattle.nl_tree.specs.Reading.{ArePartOf, HoldingMeans, as_directory, as_file, link_at, named_of}
use Rattle.nl_tree.specs.Naming.{listed_record, listing_of, listing_of_held}
use Rattle.nl_tree.specs.Facts.HeldContents.{held_count-listing, held_size-content, listing_of-IsListing}

-- ---- parts of a file

-- the bytes of what an inode holds are those of its blocks
pub bytes_of-held : (held : Option Held)
    → bytes_of (option_map inode_content held) ≡ bytes_stored (held_block held) (held_size held)
bytes_of-held None = refl
bytes_of-held (Some (Stored size blocks)) = refl
bytes_of-held (Some (Listed records)) = refl

-- as many bytes from an offset on as there are, each of which is the one of its block
pub are_bytes_from : (held : Option Held) (offset len : ℕ) (part : List ℕ)
    → length part ≡ min len (held_size held - offset)
    → ((k : ℕ) → k < length part → slice_index part k ≡ byte_stored (held_block held) (offset + k))
    → ArePartOf held offset len part
are_bytes_from held offset len part long copied =
    ext_get_or 0 part (take len (drop offset stored)) lengths each
  where
    stored : List ℕ
    stored = bytes_stored (held_block held) (held_size held)

    lengths : length part ≡ length (take len (drop offset stored))
    lengths =
        omega (
          arith,
          long,
          length-take len (drop offset stored),
          length-drop offset stored,
          length-map-range_with_len (byte_stored (held_block held)) 0 (held_size held),
        )

    each : (i : ℕ) → i < length part → slice_index part i ≡ slice_index (take len (drop offset stored)) i
    each i within =
        copied i within
        ∙ sym (get_or-take len (drop offset stored) i 0 (omega arith)
        ∙ (get_or-drop offset stored i 0
        ∙ get_or-map-range_with_len (byte_stored (held_block held)) 0 (held_size held) (offset + i)
        (offset + i) 0 (omega arith) (omega arith)))

-- a refusal that is handed on
pub unless_memory : {A : Type 0} (result : Result A VolError) (x : VolError) (expected : Result A VolError)
    → IsErrAnd result (λ y. y ≡ x)
    → ((x ≡ Memory → ⊥) → expected ≡ Err x) → IsUnlessMemory result expected
unless_memory (Ok a) x expected is shows = λ other. absurd is
unless_memory (Err y) x expected is shows = λ other. ap Err is ∙ sym (shows (λ e. other (ap Err (is ∙ e))))

-- what a call has found is answered
pub answered : {A : Type 0} (view : A → Answer) (found : Result A VolError) (a : A) → found ≡ Ok a
    → Ok (view a) ≡ and_then found (λ a. Ok (view a))
answered {A = A} view found a is = sym (ap (λ (r : Result A VolError). and_then r (λ a. Ok (view a))) is)

-- and so is its refusal
pub not_answered : {A : Type 0} (view : A → Answer) (found : Result A VolError) (x : VolError) → found ≡ Err x
    → and_then found (λ a. Ok (view a)) ≡ Err x
not_answered {A = A} view found x is = ap (λ (r : Result A VolError). and_then r (λ a. Ok (view a))) is

-- ---- calls on trees

module _ (holding : Holding) (tree : Tree) (means : HoldingMeans holding tree) where
  abbrev inodes : Inodes
  inodes = inodes_of_holding holding

  read_found : (offset len : ℕ) (found : Result Link VolError)
      → and_then (and_then found (bytes_in inodes))
      (λ bytes. Ok (answer.Bytes (take len (drop offset bytes))))
      ≡ and_then (and_then found as_file)
      (λ i. Ok (answer.Bytes (take len (drop offset (bytes_of (inodes i))))))
  read_found offset len (Ok (i, kind.File)) = refl
  read_found offset len (Ok (i, kind.Directory)) = refl
  read_found offset len (Err x) = refl

  read_by : (offset len : ℕ) (path : Result Path VolError)
      → and_then path (read tree offset len)
      ≡ and_then (and_then (and_then path (resolve inodes)) as_file)
      (λ i. Ok (answer.Bytes (take len (drop offset (bytes_of (inodes i))))))
  read_by offset len (Ok path) =
      ap (λ file. and_then file (λ bytes. Ok (answer.Bytes (take len (drop offset bytes)))))
      (files_are_judged inodes tree means.means path)
      ∙ read_found offset len (resolve inodes path)
  read_by offset len (Err x) = refl

  pub read_bytes : (offset len : ℕ) (path : List ℕ)
      → and_then (path_of path) (read tree offset len)
      ≡ and_then (and_then (link_at holding path) as_file)
      (λ i. Ok (answer.Bytes (take len (drop offset (bytes_of (inodes_of_holding holding i))))))
  read_bytes offset len path = read_by offset len (path_of path)

  stat_by : (path : Result Path VolError)
      → and_then path (stat tree)
      ≡ and_then (and_then path (resolve inodes)) (λ at. Ok (stat_in inodes (listing_of holding) at))
  stat_by (Ok path) =
      stats_are_judged inodes tree (listing_of holding) means.means
      (listing_of-IsListing holding means.sound) path
  stat_by (Err x) = refl

  pub stat_path : (path : List ℕ)
      → and_then (path_of path) (stat tree)
      ≡ and_then (link_at holding path)
      (λ at. Ok (stat_in (inodes_of_holding holding) (listing_of holding) at))
  stat_path path = stat_by (path_of path)

  list_found : (found : Result Link VolError)
      → and_then found (λ at. and_then (as_dir at) (λ _. Ok (map shown (listing_of holding at.0))))
      ≡ and_then (and_then found as_directory) (λ i. Ok (map shown (listing_of holding i)))
  list_found (Ok (i, kind.File)) = refl
  list_found (Ok (i, kind.Directory)) = refl
  list_found (Err x) = refl

  list_by : (path : Result Path VolError)
      → and_then path (list tree)
      ≡ and_then (and_then (and_then path (resolve inodes)) as_directory)
      (λ i. Ok (map shown (listing_of holding i)))
  list_by (Ok path) =
      lists_are_judged inodes tree (listing_of holding) means.means
      (listing_of-IsListing holding means.sound) path
      ∙ list_found (resolve inodes path)
  list_by (Err x) = refl

  pub list_path : (path : List ℕ)
      → and_then (path_of path) (list tree)
      ≡ and_then (and_then (link_at holding path) as_directory) (λ i. Ok (map shown (listing_of holding i)))
  list_path path = list_by (path_of path)

  -- ---- as code meets them

  pub read_refused : (offset len : ℕ) (path : List ℕ) (x : VolError)
      → Err x ≡ and_then (link_at holding path) as_file
      → and_then (path_of path) (read tree offset len) ≡ Err x
  read_refused offset len path x e =
      read_bytes offset len path
      ∙ ap (λ (file : Result ℕ VolError).
      and_then file
      (λ i. Ok (answer.Bytes (take len (drop offset (bytes_of (inodes_of_holding holding i)))))))
      (sym e)

  pub read_file : (offset len : ℕ) (path : List ℕ) (i : ℕ) (part : List ℕ)
      → Ok i ≡ and_then (link_at holding path) as_file → ArePartOf (holding i) offset len part
      → and_then (path_of path) (read tree offset len) ≡ Ok (answer.Bytes part)
  read_file offset len path i part e are =
      read_bytes offset len path
      ∙ (ap (λ (file : Result ℕ VolError).
      and_then file
      (λ i. Ok (answer.Bytes (take len (drop offset (bytes_of (inodes_of_holding holding i)))))))
      (sym e)
      ∙ ap (λ (bytes : List ℕ). Ok (answer.Bytes bytes))
      (ap (λ (bytes : List ℕ). take len (drop offset bytes)) (bytes_of-held (holding i)) ∙ sym are))

  -- the same, where the bytes stand in front of others
  pub read_front : (offset len : ℕ) (path : List ℕ) (i n : ℕ) (part rest : List ℕ)
      → Ok i ≡ and_then (link_at holding path) as_file
      → n ≡ min len (held_size (holding i) - offset) → length part ≡ n
      → ((k : ℕ) → k < length part → slice_index part k ≡ byte_stored (held_block (holding i)) (offset + k))
      → and_then (path_of path) (read tree offset len) ≡ Ok (answer.Bytes (take n (part ++ rest)))
  read_front offset len path i n part rest e count long copied =
      read_file offset len path i part e (are_bytes_from (holding i) offset len part (long ∙ count) copied)
      ∙ ap (λ (bytes : List ℕ). Ok (answer.Bytes bytes)) (sym (take_at part rest n long))

  -- what memory may refuse
  pub read_shown : (offset len : ℕ) (path : List ℕ) (i : ℕ) (found : Result (List ℕ) VolError)
      → Ok i ≡ and_then (link_at holding path) as_file
      → IfOk found (ArePartOf (holding i) offset len) → IfErr found (λ x. x ≡ Memory)
      → ShowsUnlessMemory answer.Bytes found (and_then (path_of path) (read tree offset len))
  read_shown offset len path i (Ok part) e are memory = read_file offset len path i part e are
  read_shown offset len path i (Err x) e are memory = λ other. absurd (other memory)

  pub stat_refused : (path : List ℕ) (x : VolError) → Err x ≡ link_at holding path
      → Err x ≡ and_then (path_of path) (stat tree)
  stat_refused path x e =
      sym (stat_path path
      ∙ ap (λ (at : Result Link VolError).
      and_then at (λ at. Ok (stat_in (inodes_of_holding holding) (listing_of holding) at)))
      (sym e))

  stat_found : (path : List ℕ) (at : Link) → Ok at ≡ link_at holding path
      → Ok (stat_in (inodes_of_holding holding) (listing_of holding) at) ≡ and_then (path_of path) (stat tree)
  stat_found path at e =
      sym (stat_path path
      ∙ ap (λ (at : Result Link VolError).
      and_then at (λ at. Ok (stat_in (inodes_of_holding holding) (listing_of holding) at)))
      (sym e))

  pub stat_file : (path : List ℕ) (i size : ℕ) → Ok (i, kind.File) ≡ link_at holding path
      → size ≡ held_size (holding i) → Ok (status.File size) ≡ and_then (path_of path) (stat tree)
  stat_file path i size e is =
      ap (λ (n : ℕ). Ok (status.File n)) (is ∙ held_size-content (holding i))
      ∙ stat_found path (i, kind.File) e

  pub stat_directory : (path : List ℕ) (i count : ℕ) → Ok (i, kind.Directory) ≡ link_at holding path
      → count ≡ held_count (holding i) → Ok (status.Dir count) ≡ and_then (path_of path) (stat tree)
  stat_directory path i count e is =
      ap (λ (n : ℕ). Ok (status.Dir n)) (is ∙ held_count-listing (holding i))
      ∙ stat_found path (i, kind.Directory) e

  pub list_refused : (path : List ℕ) (x : VolError) → Err x ≡ and_then (link_at holding path) as_directory
      → and_then (path_of path) (list tree) ≡ Err x
  list_refused path x e =
      list_path path
      ∙ ap
      (λ (directory : Result ℕ VolError). and_then directory (λ i. Ok (map shown (listing_of holding i))))
      (sym e)

  -- a walk that comes to a directory comes to one that is listed
  directory_at : (found : Result Link VolError) (i : ℕ) → Ok i ≡ and_then found as_directory
      → found ≡ Ok (i, kind.Directory)
  directory_at (Ok (j, kind.Directory)) i e = cc
  directory_at (Ok (j, kind.File)) i e = absurd cc
  directory_at (Err x) i e = absurd cc

  listed_by : (held : Option Held) (records : Name → Option Link)
      → option_map inode_content held ≡ Some (Records records)
      → (list : List Record) × (held ≡ Some (Listed list))
  listed_by None records e = absurd cc
  listed_by (Some (Stored size blocks)) records e = absurd cc
  listed_by (Some (Listed list)) records e = (list, refl)

  pub directory_is_listed : (path : Result Path VolError) (i : ℕ)
      → Ok i ≡ and_then (and_then path (resolve inodes)) as_directory
      → (records : List Record) × (holding i ≡ Some (Listed records))
  directory_is_listed (Err x) i e = absurd cc
  directory_is_listed (Ok path) i e =
      let has =
      directories_hold_records inodes tree means.means path i (directory_at (resolve inodes path) i e) in
      listed_by (holding i) has.0.records (ap (inodes_of_holding holding) (sym has.1) ∙ has.0.holds)

  listed_shown : (records : List Record) → map shown (map listed_record records) ≡ map named_of records
  listed_shown [] = refl
  listed_shown (r ∷ records) = ap (λ (names : List Named). named_of r ∷ names) (listed_shown records)

  pub list_shown : (path : List ℕ) (i : ℕ) (found : Result (List Named) VolError)
      → Ok i ≡ and_then (link_at holding path) as_directory
      → ((records : List Record) → holding i ≡ Some (Listed records)
      → IfOk found (λ names. names ≡ map named_of records))
      → IfErr found (λ x. x ≡ Memory)
      → ShowsUnlessMemory (λ names. names) found (and_then (path_of path) (list tree))
  list_shown path i (Err x) e names memory = λ other. absurd (other memory)
  list_shown path i (Ok found) e names memory =
      let listed : (records : List Record) × (holding i ≡ Some (Listed records)) =
      directory_is_listed (path_of path) i e in
      list_path path
      ∙ (ap
      (λ (directory : Result ℕ VolError). and_then directory (λ i. Ok (map shown (listing_of holding i))))
      (sym e)
      ∙ ap (λ (names : List Named). Ok names)
      (ap (λ (held : Option Held). map shown (listing_of_held held)) listed.1
      ∙ (listed_shown listed.0 ∙ sym (names listed.0 listed.1))))

-- ---- replies

is_memory : (e : VolError) → (e ≡ Memory) ⊎ (e ≢ Memory)
is_memory Memory = inl refl
is_memory _ = inr (λ same. cc)

-- a reply of a read that may take memory
pub is_read_reply : (reply expected : Result Answer VolError) → IsUnlessMemory reply expected
    → (reply ≡ expected) ⊎ (Unit {0} × (reply ≡ Err Memory))
is_read_reply (Ok a) expected is = inl (is (λ same. cc))
is_read_reply (Err e) expected is =
    elim (is_memory e) [
      | inl same ↦ inr (tt, ap Err same)
      | inr other ↦ inl (is (λ same. other cc))
    ]
