-- The ruled search's answer on a sheet, from what its arguments are read as.
use mathlib.Core.Path.{◌≡◌, refl}
use mathlib.Core.List.{List, map}
use lib.ListN.{length, length-map}
use lib.Ieee.{Float}
use Rattle.situation.specs.declared.party.Party.{Party}
use Rattle.std.specs.declared.option.Option.{Option}
use Rattle.std.specs.declared.result.Result.{Result}
use Rattle.elementary.specs.declared.error.Refusal.{Refusal}
use Rattle.motion.specs.declared.units.Direction.{Direction}
use Rattle.ruled_search.specs.declared.RuledManoeuvre.{RuledManoeuvre}
use Rattle.situation.specs.declared.party.Visibility.{Visibility}
use Rattle.manoeuvre.specs.declared.constraints.ManoeuvreConstraints.{ManoeuvreConstraints}
use Rattle.clearance.specs.declared.traffic.Entry.{Entry}
use Rattle.ruled_search.specs.Ruled.{ruled_answer}
use Rattle.sheet_record.specs.declared.Header.{Header}
use Rattle.sheet_record.specs.declared.Row.{Row}
use Rattle.sheet.specs.Values.{scaled, visibility_of, own_of, wind_from, entry_of}
use Rattle.report.specs.Report.{search_answer}

pub answered : (h : Header) (rs : List Row) (c : ManoeuvreConstraints) (own : Party) (es : List Entry) (visibility : Visibility) (wind : Option Direction) (x : Float) {r : Result RuledManoeuvre Refusal}
    → own ≡ own_of h → es ≡ map entry_of rs → visibility ≡ visibility_of h.visibility → wind ≡ wind_from h → x ≡ scaled h.desired
    → r ≡ ruled_answer own (length es) es visibility wind (record { 0 = x }) c → r ≡ search_answer h rs c
unfolding search_answer
answered h rs c own es visibility wind x eo ee ev ew ex er = rw (er, eo, ee, ev, ew, ex) (rw length-map refl)
