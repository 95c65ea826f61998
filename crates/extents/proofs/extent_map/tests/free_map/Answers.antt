use Rattle.std.proofs.Common.{◌∙◌, ap}
use Rattle.extents.specs.ExtentMaps.{free_of}
use Rattle.extents.proofs.MapLemmas.{none_is_map, none_is_free}
use Rattle.extents.proofs.extent_map.tests.free_map.Goals as goal

pub new-requires : goal.new-requires
new-requires g c = none_is_map _ c.requires

pub returns : goal.returns
returns g c = ap free_of c.new.ensures ∙ none_is_free _
