use Rattle.device_files.proofs.MadeSafe.{all_safe}
use Rattle.raidtool.proofs.tests.unsynced.served.Goals as goal

pub serve_over-requires-clause-safe : goal.serve_over-requires-clause-safe
serve_over-requires-clause-safe g c κs within = all_safe _ _ _ _ _ c.in-Ok.files.files.items c.in-Ok.files.unsynced c.in-Ok.files.barred c.in-Ok.ensures.safe
