-- What files hold over which a bank is put, and that a run begins with it.
use Rattle.std.specs.Prelude.{◌<◌, ℕ, Bool, IfSome, IsTrue, List, Option, length, slice_index_or}
use Rattle.sector_model.specs.DeviceFiles.{Contents}
use Rattle.sector_model.specs.Files.{BeginsWith}
use Rattle.sector_model.specs.History.{History}
use Rattle.device_files.specs.DeviceFiles.{file_in}

-- a file that holds these bytes, of which a power cut leaves those
abbrev pub contents_of : (bytes left : List ℕ) → Contents
contents_of bytes left = record { size = length bytes; byte = λ p. slice_index_or bytes p 0; safe = λ p. slice_index_or left p 0 }

-- what a file holds, by the bytes that it tells and those that a power cut leaves of it
abbrev pub contents_by : {F : Type 0} → (told left : F → List ℕ) → F → Contents
contents_by told left file = contents_of (told file) (left file)

-- what the file of each of ten slots holds is safe, where there is one
abbrev pub AreAllSafe : {F : Type 0} → (IsSafe : F → Type 0) → List (Option F) → Type 0
AreAllSafe IsSafe files = (slot : ℕ) → slot < 10 → IfSome (file_in files slot) IsSafe

-- where files tell what they hold, a run begins with that
abbrev pub BeginsWithFiles : {F : Type 0} → (tells : Bool) (told left : F → List ℕ) → List (Option F) → History → Type 0
BeginsWithFiles tells told left files history = IsTrue tells → BeginsWith (contents_by told left) files history
