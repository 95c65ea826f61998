use Rattle.std.proofs.Common.{refl}
use Rattle.recovery.proofs.survey.missing_slots.Goals as goal

pub first_gone-requires : goal.first_gone-requires
first_gone-requires g c = c.requires

pub other_out-requires : goal.other_out-requires
other_out-requires g c = c.requires

pub returns-in-Some-other_out : goal.returns-in-Some-other_out
returns-in-Some-other_out g c = (
  c.in-Some-other_out.ensures.some.0,
  record { of_set = c.in-Some.ensures.some.of_set; out = λ honest full. c.in-Some.ensures.some.dead honest full.live },
  c.in-Some-other_out.ensures.some.1,
)

pub returns-in-None-other_out : goal.returns-in-None-other_out
returns-in-None-other_out g c = (c.in-Some.ensures.some, λ other below apart. c.in-None-other_out.ensures.none refl other below apart)

pub returns-in-None : goal.returns-in-None
returns-in-None g c = λ slot below counted. c.in-None.ensures.none refl slot below counted
