use Rattle.std.proofs.Common.{◌<◌, ◌≤◌, ◌⊎◌, ℕ}
use Rattle.device_files.specs.DeviceFiles.{IsLinkSynced, slot_path}
use Rattle.device_files.proofs.folders.sync_folders.Given as goal

abbrev pub invariant-loop-slot : goal.invariant-loop-slot
invariant-loop-slot g l = (k : ℕ) → k < l.slot → l.first ≤ k → IsLinkSynced (g.D.FolderSync.is_no_link l.disk) (g.D.FolderSync.leads_to l.disk)
    (λ folder. g.D.FolderSync.is_safe l.disk folder ⊎ g.D.FolderSync.is_never l.disk folder) (slot_path l.folder k)
