use Rattle.layout_map.proofs.Places.{place_member_below, place_row_below, logical_is_one, data_or_parity}
use Rattle.layout_map.proofs.law.layout_law.Goals as goal

pub returns-clause-within : goal.returns-clause-within
returns-clause-within c = λ format members chunk stripes logical member row limits below place.
    (place_member_below limits place, place_row_below limits below place)

pub returns-clause-apart : goal.returns-clause-apart
returns-clause-apart c = λ format members chunk stripes first second member row limits one two. logical_is_one limits one two

pub returns-clause-covered : goal.returns-clause-covered
returns-clause-covered c = λ format members chunk stripes member row limits within below. data_or_parity limits within below
