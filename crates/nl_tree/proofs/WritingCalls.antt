-- What calls that change the bytes of a file answer, by what the inodes hold.
use Rattle.std.proofs.Common.{◌≡◌, ◌==◌, ℕ, ◌+◌, ◌/◌, ◌<◌, ◌≤◌, max, cond, List, [], ◌∷◌, length, Option, Some, None, Result, Ok, Err, refl, sym, ap, ◌∙◌, subst, arith}
use Rattle.std.specs.Prelude.{IfErr, OnOk, nat_lt}
use Rattle.std.specs.Option.{option_map}
use Rattle.std.proofs.lemmas.Bool.{cond-false, cond-true, eq-eqb, lt-ltb, ne_eqb}
use Rattle.nl_types.specs.declared.error.VolError.{VolError}
use Rattle.nl_types.specs.declared.error.VolError.TheVariants.{Memory, TooBig}
use Rattle.nl_types.specs.declared.kind.Kind.TheVariants as kind
use Rattle.nl_types.specs.declared.reply.Answer.{Answer}
use Rattle.nl_types.specs.declared.reply.Answer.TheVariants as answer
use Rattle.nl_types.specs.declared.reply.Object.TheVariants as object
use Rattle.nl_types.specs.Plain.Limits.{file_limit}
use Rattle.nl_types.specs.Plain.Paths.{Path, path_of}
use Rattle.nl_types.specs.Plain.Trees.{Tree, insert}
use Rattle.nl_types.specs.Blocks.Roots.{Blocks}
use Rattle.nl_types.specs.Plain.Calls.{Changed, and_then, file_at, overwritten, refuse_if, resized, truncate, write}
use Rattle.nl_types.specs.Inodes.{Bytes, Inodes, Link}
use Rattle.nl_types.specs.Judging.{bytes_in, bytes_of}
use Rattle.nl_types.specs.Resolving.{resolve}
use Rattle.nl_types.specs.Facts.Inodes.Judging.{files_are_judged}
use Rattle.nl_types.specs.Facts.Inodes.Resolving.{files_hold_bytes}
use Rattle.nl_tree.specs.Became.{Current, holding_over}
use Rattle.nl_tree.specs.Bytes.{ArePagesCut, ArePagesWritten, IsFileChanged, IsFileIn, IsFileResized, IsFileWritten, end_of_blocks}
use Rattle.nl_tree.specs.CurrentTrees.{AnswersCall, HasTruncated, HasOverwritten, HasOverwrittenAny, LeavesTree, StandsOver}
use Rattle.nl_tree.specs.Private.Files.{IsFileOf}
use Rattle.nl_tree.specs.Held.{Held, Holding, IsHolding, IsInodeNumber, Listed, Stored, held_block, held_size, inode_content, inodes_of_holding, IsFileHeld}
use Rattle.nl_tree.specs.Numbers.{CountsFree}
use Rattle.nl_tree.specs.Private.Pages.{blocks_below, blocks_for, put_from}
use Rattle.nl_tree.specs.Reading.{as_file, link_at}
use Rattle.nl_tree.specs.Steps.{with_held}
use Rattle.nl_tree.specs.TreeMeaning.{MakesTree, StandsForTree}
use Rattle.nl_tree.proofs.CallsLead.{truncated_makes, written_makes}
use Rattle.nl_tree.proofs.CutBlocks.{cut-held, cut-resizes}
use Rattle.nl_tree.proofs.HoldingSteps.{with_blocks-may}
use Rattle.nl_tree.proofs.WrittenBlocks.{put-held, put-overwrites}

-- ---- a file

pub file_held : (holding : Holding) (i size : ℕ) (blocks : Blocks) → IsFileIn holding i size blocks
    → IsFileHeld size blocks
file_held holding i size blocks is = is.sound.each i (Stored size blocks) is.here

pub file_of : (holding : Holding) (i size : ℕ) (blocks : Blocks) → IsFileIn holding i size blocks
    → IsFileOf holding i size blocks
file_of holding i size blocks is =
    let file = file_held holding i size blocks is in
    (is.here, λ b past. file.none_past b (omega (arith, past, file.small)))

pub file_number : (holding : Holding) (i size : ℕ) (blocks : Blocks) → IsFileIn holding i size blocks
    → IsInodeNumber i
file_number holding i size blocks is = is.sound.inode_numbers i (Stored size blocks) is.here

-- ---- what its blocks become

module _ (old new : Holding) (i was : ℕ) (blocks : Blocks) (is : IsFileIn old i was blocks) where
  pub is_written : (offset size : ℕ) (bytes : List ℕ) (pages : List (List ℕ)) → 0 < length bytes
      → offset + length bytes ≤ 67108864
      → offset / 1024 + length pages ≡ end_of_blocks offset (length bytes)
      → ArePagesWritten (held_block (old i)) (offset / 1024) offset bytes pages
      → size ≡ max (held_size (old i)) (offset + length bytes)
      → ((n : ℕ) → new n ≡ with_held i (Some (Stored size (put_from (offset / 1024) pages blocks))) old n)
      → IsFileWritten old new i was blocks offset bytes
  is_written offset size bytes pages more fits count written sized shows =
      let pages_are : ArePagesWritten blocks (offset / 1024) offset bytes pages =
      subst (λ (held : Option Held). ArePagesWritten (held_block held) (offset / 1024) offset bytes pages)
      is.here written in
      let total : size ≡ max was (offset + length bytes) =
      sized ∙ ap (λ (held : Option Held). max (held_size held) (offset + length bytes)) is.here in
      record {
        now = put_from (offset / 1024) pages blocks;
        overwrites = put-overwrites blocks offset bytes pages more count pages_are;
        changed = record {
          held =
              put-held blocks offset bytes pages more count pages_are was
              (file_held old i was blocks is) fits;
          each = λ n.
              shows n
              ∙ ap (λ (m : ℕ). with_held i (Some (Stored m (put_from (offset / 1024) pages blocks))) old n)
              total;
        };
      }

  pub is_resized : (size : ℕ) (pages : List (List ℕ)) → size ≤ 67108864
      → ArePagesCut (held_block (old i)) size pages
      → ((n : ℕ)
      → new n
      ≡ with_held i
      (Some (Stored size (blocks_below (blocks_for size) (put_from (size / 1024) pages blocks)))) old n)
      → IsFileResized old new i blocks size
  is_resized size pages fits cut shows =
      let pages_are : ArePagesCut blocks size pages =
      subst (λ (held : Option Held). ArePagesCut (held_block held) size pages) is.here cut in
      record {
        now = blocks_below (blocks_for size) (put_from (size / 1024) pages blocks);
        resizes = cut-resizes blocks size pages pages_are;
        changed = record {
          held = cut-held blocks size pages pages_are was (file_held old i was blocks is) fits;
          each = shows;
        };
      }

-- ---- where a path leads

-- a path leads to a file
pub record LeadsToFile (holding : Holding) (path : List ℕ) (i : ℕ) : Type 0 where
  pub names : Path
  pub is_path : path_of path ≡ Ok names
  pub found : resolve (inodes_of_holding holding) names ≡ Ok (i, kind.File)
  pub size : ℕ
  pub blocks : Blocks
  pub is : IsFileIn holding i size blocks

file_found : (found : Result Link VolError) (i : ℕ) → Ok i ≡ and_then found as_file
    → found ≡ Ok (i, kind.File)
file_found (Ok (j, kind.File)) i e = cc
file_found (Ok (j, kind.Directory)) i e = absurd cc
file_found (Err x) i e = absurd cc

stored_by : (held : Option Held) (bytes : List ℕ) → option_map inode_content held ≡ Some (Bytes bytes)
    → (size : ℕ) × (blocks : Blocks) × (held ≡ Some (Stored size blocks))
stored_by None bytes e = absurd cc
stored_by (Some (Stored size blocks)) bytes e = (size, blocks, refl)
stored_by (Some (Listed records)) bytes e = absurd cc

module _ (now : Current) (base : Holding) (tree : Tree) (stands : StandsOver now base tree) where
  abbrev held : Holding
  held = holding_over now.became base

  abbrev inodes : Inodes
  inodes = inodes_of_holding held

  pub find : (path : List ℕ) (i : ℕ) → Ok i ≡ and_then (link_at held path) as_file → LeadsToFile held path i
  find path i e = by_path (path_of path) refl e
    where
      by_path : (names : Result Path VolError) → path_of path ≡ names
          → Ok i ≡ and_then (and_then names (resolve inodes)) as_file → LeadsToFile held path i
      by_path (Err x) is f = absurd cc
      by_path (Ok names) is f =
          let found = file_found (resolve inodes names) i f in
          let has = files_hold_bytes inodes tree stands.stands.means names i found in
          let here = stored_by (held i) has.1 has.2 in
          record {
            names = names;
            is_path = is;
            found = found;
            size = here.0;
            blocks = here.1;
            is = record { sound = stands.sound; here = here.2 };
          }

  -- ---- calls that begin with the file at a path

  refused_in : (next : List ℕ → Changed) (found : Result Link VolError) (x : VolError)
      → Err x ≡ and_then found as_file → and_then (and_then found (bytes_in inodes)) next ≡ Err x
  refused_in next (Ok (i, kind.File)) x e = absurd cc
  refused_in next (Ok (i, kind.Directory)) x e = cc
  refused_in next (Err y) x e = cc

  refused_by : (next : Path → List ℕ → Changed) (path : Result Path VolError) (x : VolError)
      → Err x ≡ and_then (and_then path (resolve inodes)) as_file
      → and_then path (λ names. and_then (file_at tree names) (next names)) ≡ Err x
  refused_by next (Ok names) x e =
      ap (λ (file : Result (List ℕ) VolError). and_then file (next names))
      (files_are_judged inodes tree stands.stands.means names)
      ∙ refused_in (next names) (resolve inodes names) x e
  refused_by next (Err y) x e = cc

  goes_on : (next : Path → List ℕ → Changed) (path : List ℕ) (i : ℕ) (file : LeadsToFile held path i)
      → and_then (path_of path) (λ names. and_then (file_at tree names) (next names))
      ≡ next file.names (bytes_of (inodes i))
  goes_on next path i file =
      ap (λ (p : Result Path VolError). and_then p (λ names. and_then (file_at tree names) (next names)))
      file.is_path
      ∙ ap (λ (f : Result (List ℕ) VolError). and_then f (next file.names))
      (files_are_judged inodes tree stands.stands.means file.names
      ∙ ap (λ (at : Result Link VolError). and_then at (bytes_in inodes)) file.found)

  -- what a write and a truncation do with the file's bytes
  abbrev write_over : ℕ → List ℕ → Path → List ℕ → Changed
  write_over offset bytes names was =
      cond (length bytes == 0) (Ok (answer.Written 0, tree)) (
      refuse_if (nat_lt file_limit (offset + length bytes)) TooBig (
      Ok (answer.Written (length bytes), insert tree names (object.File (overwritten was offset bytes)))))

  abbrev resize : ℕ → Path → List ℕ → Changed
  resize size names was =
      refuse_if (nat_lt file_limit size) TooBig
      (Ok (answer.Done, insert tree names (object.File (resized was size))))

  pub write_refused : (offset : ℕ) (bytes path : List ℕ) (x : VolError)
      → Err x ≡ and_then (link_at held path) as_file
      → and_then (path_of path) (write tree offset bytes) ≡ Err x
  write_refused offset bytes path x e = refused_by (write_over offset bytes) (path_of path) x e

  pub truncate_refused : (size : ℕ) (path : List ℕ) (x : VolError)
      → Err x ≡ and_then (link_at held path) as_file → and_then (path_of path) (truncate tree size) ≡ Err x
  truncate_refused size path x e = refused_by (resize size) (path_of path) x e

  pub write_nothing : (offset : ℕ) (bytes path : List ℕ) (i : ℕ) → Ok i ≡ and_then (link_at held path) as_file
      → length bytes ≡ 0
      → LeavesTree (and_then (path_of path) (write tree offset bytes)) (answer.Written 0) now base
  write_nothing offset bytes path i e none =
      let file = find path i e in
      record {
        tree = tree;
        is =
            goes_on (write_over offset bytes) path i file
            ∙ cond-true (length bytes == 0) _ _ (eq-eqb (length bytes) 0 none);
        stands = stands;
      }

  pub write_too_big : (offset : ℕ) (bytes path : List ℕ) (i : ℕ) → Ok i ≡ and_then (link_at held path) as_file
      → 0 < length bytes → file_limit < offset + length bytes
      → and_then (path_of path) (write tree offset bytes) ≡ Err TooBig
  write_too_big offset bytes path i e more big =
      goes_on (write_over offset bytes) path i (find path i e)
      ∙ cond-false (length bytes == 0) _ _ (ne_eqb (length bytes) 0 (λ none. omega (arith, none)))
      ∙ cond-true (nat_lt file_limit (offset + length bytes)) _ _
      (lt-ltb file_limit (offset + length bytes) big)

  pub truncate_too_big : (size : ℕ) (path : List ℕ) (i : ℕ) → Ok i ≡ and_then (link_at held path) as_file
      → file_limit < size → and_then (path_of path) (truncate tree size) ≡ Err TooBig
  truncate_too_big size path i e big =
      goes_on (resize size) path i (find path i e)
      ∙ cond-true (nat_lt file_limit size) _ _ (lt-ltb file_limit size big)

  -- ---- the tree after a call

  module _ (new : Current) (names : new.names ≡ now.names) where
    -- a file changed, and the call on the tree is known
    leads : (called : Changed) (given : Answer) (i was size : ℕ) (blocks changed : Blocks)
        → IsFileIn held i was blocks → IsFileChanged held (holding_over new.became base) i size changed
        → CountsFree new base
        → MakesTree called given (with_held i (Some (Stored size changed)) held) now.names
        → LeavesTree called given new base
    leads called given i was size blocks changed is file counts made =
        let after : Holding = with_held i (Some (Stored size changed)) held in
        let same : after ≡ holding_over new.became base = λ j. λ n. sym (file.each n) j in
        let few : new.names ≤ 524277 = omega (arith, names, stands.few) in
        record {
          tree = made.tree;
          is = made.called_is;
          stands = record {
            sound =
                subst IsHolding same
                (with_blocks-may held stands.sound i size changed
                (file_number held i was blocks is) file.held);
            counts = counts;
            stands =
                subst (λ (h : Holding). StandsForTree h made.tree new.names) same
                (subst (λ (n : ℕ). StandsForTree after made.tree n) (sym names) made.stands);
            few = few;
          };
        }

    -- the call by the path is the call by its names
    by_names : (call : Path → Changed) (given : Answer) (path : List ℕ) (i : ℕ)
        (file : LeadsToFile held path i)
        → LeavesTree (call file.names) given new base
        → LeavesTree (and_then (path_of path) call) given new base
    by_names call given path i file l = record {
      tree = l.tree;
      is = ap (λ (p : Result Path VolError). and_then p call) file.is_path ∙ l.is;
      stands = l.stands;
    }

    pub write_leads : (offset : ℕ) (bytes path : List ℕ) (i : ℕ) (file : LeadsToFile held path i)
        → 0 < length bytes → offset + length bytes ≤ file_limit
        → IsFileWritten held (holding_over new.became base) i file.size file.blocks offset bytes
        → CountsFree new base
        → LeavesTree (and_then (path_of path) (write tree offset bytes))
        (answer.Written (length bytes)) new base
    write_leads offset bytes path i file more fits written counts =
        by_names (write tree offset bytes) (answer.Written (length bytes)) path i file
        (leads (write tree offset bytes file.names) (answer.Written (length bytes)) i file.size
        (max file.size (offset + length bytes)) file.blocks written.now file.is written.changed counts
        (written_makes held tree now.names stands.stands file.names i file.size offset bytes file.blocks
        written.now file.found file.is.here
        (file_held held i file.size file.blocks file.is).zeros more fits written.overwrites))

    pub truncate_leads : (size : ℕ) (path : List ℕ) (i : ℕ) (file : LeadsToFile held path i)
        → size ≤ file_limit
        → IsFileResized held (holding_over new.became base) i file.blocks size → CountsFree new base
        → LeavesTree (and_then (path_of path) (truncate tree size)) answer.Done new base
    truncate_leads size path i file fits cut counts =
        by_names (truncate tree size) answer.Done path i file
        (leads (truncate tree size file.names) answer.Done i file.size size file.blocks cut.now file.is
        cut.changed counts
        (truncated_makes held tree now.names stands.stands file.names i file.size size file.blocks cut.now
        file.found file.is.here
        (file_held held i file.size file.blocks file.is).zeros fits cut.resizes))

    -- so it is where memory alone may refuse
    pub truncate_calls : (size : ℕ) (path : List ℕ) (i : ℕ) (file : LeadsToFile held path i)
        → size ≤ file_limit → (result : Result (Unit {0}) VolError)
        → OnOk result (IsFileResized held (holding_over new.became base) i file.blocks size)
        → OnOk result (CountsFree new base) → IfErr result (λ e. e ≡ Memory)
        → AnswersCall (λ _. answer.Done) result new base (and_then (path_of path) (truncate tree size))
    truncate_calls size path i file fits (Ok u) cut counts memory =
        truncate_leads size path i file fits cut counts
    truncate_calls size path i file fits (Err e) cut counts memory = λ other. absurd (other memory)

  -- ---- which inodes change

  file_leads : (path : List ℕ) (i : ℕ) (file : LeadsToFile held path i)
      → link_at held path ≡ Ok (i, kind.File)
  file_leads path i file =
      ap (λ (p : Result Path VolError). and_then p (resolve inodes)) file.is_path ∙ file.found

  written_more : (new : Holding) (offset : ℕ) (bytes path : List ℕ) → 0 < length bytes
      → HasOverwritten path offset bytes held new → HasOverwrittenAny path offset bytes held new
  written_more new offset [] path more has = absurd (omega (arith, more))
  written_more new offset (b ∷ bytes) path more has = has

  pub has_written : (new : Holding) (offset : ℕ) (bytes path : List ℕ) (i : ℕ)
      (file : LeadsToFile held path i)
      → 0 < length bytes
      → IsFileWritten held new i file.size file.blocks offset bytes
      → HasOverwrittenAny path offset bytes held new
  has_written new offset bytes path i file more written = written_more new offset bytes path more (record {
    inode = i;
    leads = file_leads path i file;
    size = file.size;
    blocks = file.blocks;
    was = file.is.here;
    now = written.now;
    overwrites = written.overwrites;
    written = written.changed.each;
  })

  pub has_written_nothing : (offset : ℕ) (bytes path : List ℕ) → length bytes ≡ 0
      → HasOverwrittenAny path offset bytes held held
  has_written_nothing offset [] path none = λ i. refl
  has_written_nothing offset (b ∷ bytes) path none = absurd (omega (arith, none))

  pub has_truncated : (new : Holding) (size : ℕ) (path : List ℕ) (i : ℕ) (file : LeadsToFile held path i)
      → IsFileResized held new i file.blocks size → HasTruncated path size held new
  has_truncated new size path i file cut = record {
    inode = i;
    leads = file_leads path i file;
    size = file.size;
    blocks = file.blocks;
    was = file.is.here;
    now = cut.now;
    resizes = cut.resizes;
    truncated = cut.changed.each;
  }
