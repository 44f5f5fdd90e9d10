-- What the devices in memory hold.
use Rattle.std.specs.Prelude.{None, slice_index_or}
use Rattle.nl_device.specs.Pages.{DevicePages}
use Rattle.nl_device.specs.declared.memory.MemDevice.{MemDevice}

abbrev pub memory_pages : MemDevice → DevicePages
memory_pages d b = slice_index_or d.blocks.items b None
