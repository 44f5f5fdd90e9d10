-- Descriptions of the payload blocks of a segment.
use Rattle.std.specs.Prelude.{ℕ, suc, ◌*◌, List, [], ◌∷◌, ◌++◌, Option, None, Some}
use Rattle.std.specs.Option.{option_map}
use Rattle.nl_types.specs.Blocks.PartialMaps.{Partial}
use Rattle.nl_layout.specs.declared.tag.Tag.{Tag}
use Rattle.nl_vstore.specs.Content.{Payload, payload_tag}
use Rattle.nl_dat.specs.declared.bdesc.Bdesc.{Bdesc}
use Rattle.nl_vstore.specs.Stores.{Store, address_in}

-- block b with this tag, where each number in use has its page at these addresses
abbrev pub desc_of : Partial ℕ → ℕ → Tag → Bdesc
desc_of addresses b tag =
    record {
      inode = tag.inode;
      offset = tag.offset;
      level = tag.level;
      old_block = b;
      block = addresses tag.number;
    }

-- the description of block b, if it has a tag
abbrev pub desc_at : Partial ℕ → ℕ → Option Tag → List Bdesc
desc_at addresses b None = []
desc_at addresses b (Some tag) = desc_of addresses b tag ∷ []

-- those of a row of blocks, the first of which is b
abbrev pub descs_from : Partial ℕ → ℕ → List (Option Payload) → List Bdesc
descs_from addresses b [] = []
descs_from addresses b (slot ∷ slots) =
    desc_at addresses b (option_map payload_tag slot) ++ descs_from addresses (suc b) slots

-- a description of each payload block of a segment, by position
abbrev pub descs_of : Store → ℕ → List (Option Payload) → List Bdesc
descs_of s segment slots = descs_from (address_in s) (segment * s.segments.blocks) slots
