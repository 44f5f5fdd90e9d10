-- A record as it stands in a block, as a record by itself.
use Rattle.nl_dirs.specs.declared.record.Record.{Record}
use Rattle.nl_dirs.specs.declared.record.StoredRecord.{StoredRecord}

abbrev pub stored : StoredRecord → Record
stored r = record { name = r.name.now; inode = r.inode; kind = r.kind }
