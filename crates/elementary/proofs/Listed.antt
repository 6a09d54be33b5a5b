-- A refusal's number is one of document 01's, 1 to 18, and says which refusal it is.
use Prim.Native.Nat.{◌≤◌}
use native.Mathlib.Omega.{arith}
use Rattle.elementary.specs.Refusal.{number_of}
use Rattle.elementary.specs.declared.error.Refusal.{Refusal}
use Rattle.elementary.specs.declared.error.Refusal.TheVariants.{Angle, Speed, Distance, Constraints, NoTrialClears, Time, AlongOwnTrack}
use Rattle.elementary.specs.declared.error.Refusal.TheVariants.{NotAhead, InsideDesired, NoOwnSpeed, NoOtherCourse, Config, NoSharedSide, TooManyContacts, Layout, UnknownCode, TooFewPlots, PlotTime}

pub listed : (r : Refusal) → (1 ≤ number_of r) × (number_of r ≤ 18)
listed Angle = omega arith
listed Speed = omega arith
listed Distance = omega arith
listed Constraints = omega arith
listed NoTrialClears = omega arith
listed Time = omega arith
listed AlongOwnTrack = omega arith
listed NotAhead = omega arith
listed InsideDesired = omega arith
listed NoOwnSpeed = omega arith
listed NoOtherCourse = omega arith
listed Config = omega arith
listed NoSharedSide = omega arith
listed TooManyContacts = omega arith
listed Layout = omega arith
listed UnknownCode = omega arith
listed TooFewPlots = omega arith
listed PlotTime = omega arith
