-- Devices are read, and no more: what was down stays down, and the superblocks are as they were.
use Rattle.std.proofs.Common.{◌==◌, List, ap}
use Rattle.std.proofs.lemmas.Bool.{or_right}
use Rattle.sector_model.specs.History.{Bytes, History, is_down, sector_of}
use Rattle.sector_model.specs.Moments.{Throughout}
use Rattle.sector_model.specs.Reads.{HasRead}
use Rattle.sector_model.proofs.Reading.{seen_read, throughout_read}
use Rattle.array_io.specs.Steps.CallSteps.{KeepsFront, StaysDown}

pub reads_run : {old new : History} → HasRead old new → Throughout (StaysDown old) old new
reads_run {old = old} read = throughout_read (StaysDown old) (λ h before. before)
    (λ h failure before device down. or_right (device == failure) (is_down h device) (before device down)) read (λ device down. down)

pub reads_front : {old new : History} → HasRead old new → KeepsFront old new
reads_front read device at below = ap (λ (disk : List Bytes). sector_of disk at) (seen_read read device)
