use Rattle.parity.proofs.Laws.{length-xor_of, get_or-xor_of, sector_from_others, sound_from_others, sound_after_delta}
use Rattle.parity.proofs.laws_of_parity.Goals as goal

pub returns-clause-byte_by_byte : goal.returns-clause-byte_by_byte
returns-clause-byte_by_byte c = λ a b. (length-xor_of a b, get_or-xor_of a b)

pub returns-clause-any_one_from_the_others : goal.returns-clause-any_one_from_the_others
returns-clause-any_one_from_the_others c = sector_from_others

pub returns-clause-others_give_the_missing_one : goal.returns-clause-others_give_the_missing_one
returns-clause-others_give_the_missing_one c = sound_from_others

pub returns-clause-delta_keeps_rows_sound : goal.returns-clause-delta_keeps_rows_sound
returns-clause-delta_keeps_rows_sound c = sound_after_delta
