-- What the store of a volume is before its first checkpoint.
use Rattle.std.proofs.Common.{◌≡◌, ◌∙◌}
use Rattle.nl_types.specs.declared.geometry.Geometry.{Geometry}
use Rattle.nl_device.specs.Failures.{Failures}
use Rattle.nl_device.specs.Pages.{DevicePages}
use Rattle.nl_vstore.specs.Content.{SpaceContent, new_content}
use Rattle.nl_vstore.specs.Stores.{Store, new_store}
use Rattle.nl_commit.specs.Layout.{blank_layout, layout_of}
use Rattle.nl_commit.specs.Tables.{blank_lists}

-- a blank volume is made of a clean space
pub blank-volume : (geometry : Geometry) (device : DevicePages) (failures : Failures) (store : Store)
    (space : SpaceContent) (count : Failures)
    → store ≡ new_store space count → space ≡ new_content geometry device → count ≡ failures
    → layout_of blank_lists store ≡ blank_layout geometry device failures
blank-volume geometry device failures store space count fresh clean same_count i =
    layout_of blank_lists ((fresh ∙ (λ j. new_store (clean j) (same_count j))) i)
