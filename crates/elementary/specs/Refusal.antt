-- The numbers of document 01's table of refusals.
use Rattle.std.specs.Prelude.{ℕ, Err, Ok}
use Rattle.std.specs.declared.result.Result.{Result}
use Rattle.elementary.specs.declared.error.Refusal.{Refusal}
use Rattle.elementary.specs.declared.error.Refusal.TheVariants.{Angle, Speed, Distance, Constraints, NoTrialClears, Time, AlongOwnTrack}
use Rattle.elementary.specs.declared.error.Refusal.TheVariants.{NotAhead, InsideDesired, NoOwnSpeed, NoOtherCourse, Config, NoSharedSide, TooManyContacts, Layout, UnknownCode, TooFewPlots, PlotTime}

abbrev pub number_of : Refusal → ℕ
number_of Angle = 1
number_of Speed = 2
number_of Distance = 3
number_of Constraints = 4
number_of NoTrialClears = 5
number_of Time = 6
number_of AlongOwnTrack = 7
number_of NotAhead = 8
number_of InsideDesired = 9
number_of NoOwnSpeed = 10
number_of NoOtherCourse = 11
number_of Config = 12
number_of NoSharedSide = 13
number_of TooManyContacts = 14
number_of Layout = 15
number_of UnknownCode = 16
number_of TooFewPlots = 17
number_of PlotTime = 18

-- the number of any answer, 0 where there is one
abbrev pub answer_number : {A : Type 0} → Result A Refusal → ℕ
answer_number (Ok a) = 0
answer_number (Err why) = number_of why
