-- The arguments of the C exports, read from a list of words: own craft and what is the same for
-- every contact in the first 20, then seven words for each contact. Floats are bit patterns,
-- categories and visibilities have the sheet's codes; what the list lacks reads as 0.
use Rattle.std.specs.Prelude.{cond, List, map, ℕ, ◌/◌, ◌%◌, ◌^◌, eqb, min, length, take, drop, get_or, replicate, Float, None, Some, Ok, Err}
use Rattle.std.specs.Float.{binary64}
use Rattle.std.specs.Float.Ieee.{of_bits}
use Rattle.std.specs.Int.{w64, cast_signed}
use Rattle.std.specs.Simd.{first_chunks}
use Rattle.std.specs.declared.option.Option.{Option}
use Rattle.std.specs.declared.result.Result.{Result}
use Rattle.elementary.specs.declared.error.Refusal.{Refusal}
use Rattle.math.specs.declared.duration.Duration.{Duration}
use Rattle.motion.specs.declared.units.Direction.{Direction}
use Rattle.motion.specs.declared.units.Distance.{Distance}
use Rattle.motion.specs.declared.vessel.Vessel.{Vessel}
use Rattle.motion.specs.declared.vessel.Contact.{Contact}
use Rattle.motion.specs.Capacity.{max_contacts}
use Rattle.track.specs.declared.window.Plot.{Plot}
use Rattle.situation.specs.declared.party.Party.{Party}
use Rattle.situation.specs.declared.party.Circumstances.{Circumstances}
use Rattle.situation.specs.declared.config.ColregsConfig.{ColregsConfig}
use Rattle.situation.specs.Codes.{category_of, visibility_of}
use Rattle.assessment.specs.declared.policy.CpaPolicy.{CpaPolicy}
use Rattle.assessment.specs.Policy.{policy_answer}
use Rattle.manoeuvre.specs.declared.constraints.PermittedSides.{PermittedSides}
use Rattle.manoeuvre.specs.declared.constraints.PermittedSides.TheVariants as Permitted
use Rattle.manoeuvre.specs.declared.constraints.ManoeuvreConstraints.{ManoeuvreConstraints}
use Rattle.manoeuvre.specs.Constraints.{constraints_answer, with_rate_of_turn}
use Rattle.clearance.specs.declared.traffic.Entry.{Entry}

-- word i as it stands, as the float of that bit pattern, and as a code of 32 bits
abbrev pub word : List ℕ → ℕ → ℕ
word ws i = get_or ws i 0

abbrev pub float : List ℕ → ℕ → Float
float ws i = of_bits binary64 (word ws i)

abbrev pub code : List ℕ → ℕ → ℕ
code ws i = word ws i % 2 ^ 32

-- ---- what words stand for
abbrev pub vessel : Float → Float → Vessel
vessel course speed = record { course = record { 0 = course }; speed = record { 0 = speed } }

abbrev pub contact : Float → Float → Contact
contact bearing range = record { bearing = record { 0 = bearing }; range = record { 0 = range } }

-- a direction that may be unknown, by whether it is known
abbrev pub optional : ℕ → Float → Option Direction
optional known degrees = cond (eqb known 0) None (Some (record { 0 = degrees }))

-- 0 own course, 1 speed, 2 category, 3 whether the heading is known, 4 heading
unfoldable pub own : List ℕ → Party
own ws = record { motion = vessel (float ws 0) (float ws 1); heading = optional (word ws 3) (float ws 4); category = category_of (code ws 2) }

-- 5 visibility, 6 whether the wind is known, 7 where it comes from
unfoldable pub around : List ℕ → Circumstances
around ws = record { own = own ws; visibility = visibility_of (code ws 5); wind_from = optional (word ws 6) (float ws 7) }

-- 8 the distance that is wanted
abbrev pub desired : List ℕ → Distance
desired ws = record { 0 = float ws 8 }

-- 9 least and 10 most alteration, 11 whether there is a rate of turn, 12 the rate, 13 the sides: 0
-- either, 1 starboard, else port
abbrev pub least : List ℕ → Float
least ws = float ws 9

abbrev pub most : List ℕ → Float
most ws = float ws 10

unfoldable pub sides : ℕ → PermittedSides
sides code = cond (eqb code 0) Permitted.Either (cond (eqb code 1) Permitted.Starboard Permitted.Port)

abbrev pub with_rate : Result ManoeuvreConstraints Refusal → Float → Result ManoeuvreConstraints Refusal
with_rate (Ok c) rate = with_rate_of_turn c (record { 0 = rate })
with_rate (Err why) rate = Err why

unfoldable pub constraints : List ℕ → Result ManoeuvreConstraints Refusal
constraints ws =
    let made = constraints_answer (sides (code ws 13)) (record { 0 = least ws }) (record { 0 = most ws }) in
    cond (eqb (word ws 11) 0) made (with_rate made (float ws 12))

-- 14 the limit of the closest approach, 15 and 16 that of the time to it, or the time between two
-- plots: seconds and nanoseconds
abbrev pub elapsed : List ℕ → Duration
elapsed ws = record { secs = word ws 15; nanos = code ws 16 }

abbrev pub policy : List ℕ → Result CpaPolicy Refusal
policy ws = policy_answer (record { 0 = float ws 14 }) (elapsed ws)

-- 17 how far abaft the beam overtaking begins, 18 the half-width of head-on
abbrev pub config : List ℕ → ColregsConfig
config ws = record { overtaking_abaft_beam = record { 0 = float ws 17 }; head_on_half_width = record { 0 = float ws 18 } }

-- 19 which trial of the list is asked for, counted from 0
abbrev pub which : List ℕ → ℕ
which ws = word ws 19

-- ---- the contacts: the whole sevens of words after the first 20
abbrev pub rest : List ℕ → List ℕ
rest ws = drop (min (length ws) 20) ws

unfoldable pub contacts : List ℕ → List (List ℕ)
contacts ws = first_chunks 7 (length (rest ws) / 7) (rest ws)

-- 0 bearing, 1 range, 2 course, 3 speed, 4 category, 5 whether the heading is known, 6 heading
unfoldable pub entry_of : List ℕ → Entry
entry_of c = record {
  contact = contact (float c 0) (float c 1);
  target = record { motion = vessel (float c 2) (float c 3); heading = optional (word c 5) (float c 6); category = category_of (code c 4) };
}

-- contact i, of zeros where there is none
abbrev pub entry : List ℕ → ℕ → Entry
entry ws i = entry_of (get_or (contacts ws) i (replicate 7 0))

-- as many as there is room for
abbrev pub entries : List ℕ → List Entry
entries ws = map entry_of (take max_contacts (contacts ws))

-- ---- the plots of a run, which have a list of words of their own: its whole threes, 0 north and 1
-- east offset, 2 the second, a signed number
unfoldable pub plot_words : List ℕ → List (List ℕ)
plot_words ws = first_chunks 3 (length ws / 3) ws

unfoldable pub plot_of : List ℕ → Plot
plot_of c = record { offset = record { north = float c 0; east = float c 1 }; seconds = cast_signed w64 (word c 2) }

abbrev pub plots : List ℕ → List Plot
plots ws = map plot_of (plot_words ws)
