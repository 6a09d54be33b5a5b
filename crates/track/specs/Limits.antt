-- How many plots a window holds, and the last second that one may have (document 02, R-5: 'a window
-- of the latest 8 plots', 'times to 2^31 − 1 seconds').
use Rattle.std.specs.Prelude.{ℕ, ◌-◌, ◌^◌}

-- `MAX_TRACK_HISTORY`
abbrev pub max_track_history : ℕ
max_track_history = 8

-- `LAST_SECOND`
abbrev pub last_second : ℕ
last_second = 2 ^ 31 - 1
