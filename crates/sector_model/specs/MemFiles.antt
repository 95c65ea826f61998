-- What a file in memory tells.
use Rattle.std.specs.Prelude.{vec_len, slice_index_or}
use Rattle.sector_model.specs.declared.mem_file.MemFile.{MemFile}
use Rattle.sector_model.specs.DeviceFiles.{Contents}

-- its bytes, and those that it had at its last sync
abbrev pub contents_in : MemFile → Contents
contents_in file = record { size = vec_len file.bytes; byte = λ p. slice_index_or file.bytes.items p 0; safe = λ p. slice_index_or file.safe.items p 0 }
