use mathlib.Core.Path.{◌≡◌, ap, ◌∙◌}
use mathlib.Core.List.{map}
use Rattle.situation.specs.declared.party.Circumstances.{Circumstances}
use Rattle.sheet.specs.Values.{entry_of, circumstances_of}
use Rattle.report.proofs.ReportCode.{answered}
use Rattle.report.proofs.search_answer.Goals as goal

-- the traffic has all rows
listed : (c : goal.After-ruled_search) → c.deref.result.now ≡ map entry_of c.args.rows.now.items
listed c = c.deref.ensures.0 ∙ c.traffic_of-t.ensures

pub returns : goal.returns
unfolding circumstances_of
returns c =
    answered _ _ _ _ _ _ _ _ (ap (λ (a : Circumstances). a.own) c.circumstances_of-around.ensures) (listed c) (ap (λ (a : Circumstances). a.visibility) c.circumstances_of-around.ensures) (ap (λ (a : Circumstances). a.wind_from) c.circumstances_of-around.ensures) c.scaled.ensures c.ruled_search.ensures.0
