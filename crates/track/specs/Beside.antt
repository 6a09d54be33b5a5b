-- The three sums of the fit side by side, as its code works them out (Fit.antt has each by itself).
use Rattle.std.specs.Prelude.{List}
use Rattle.laws.specs.Ops.{◌⊕◌, ◌⊖◌, ◌⊗◌}
use Rattle.track.specs.declared.fit.Coordinates.{Coordinates}
use Rattle.track.specs.declared.fit.Moments.{Moments}
use Rattle.track.specs.declared.window.Fix.{Fix}
use Rattle.track.specs.Fit.{hours, north, east, sum, mean, products}

abbrev pub local : Fix → Fix → Coordinates
local last f = record { t = hours last f; n = north last f; e = east last f }

abbrev pub plus : Coordinates → Coordinates → Coordinates
plus s l = record { t = s.t ⊕ l.t; n = s.n ⊕ l.n; e = s.e ⊕ l.e }

abbrev pub sums : Fix → List Fix → Coordinates
sums last fs = record { t = sum (hours last) fs; n = sum (north last) fs; e = sum (east last) fs }

abbrev pub means : Fix → List Fix → Coordinates
means last fs = record { t = mean (hours last) fs; n = mean (north last) fs; e = mean (east last) fs }

-- with the products of one more, by what it is off the means
abbrev pub with_products : Coordinates → Moments → Coordinates → Moments
with_products mean s l =
    let t = l.t ⊖ mean.t in
    record { tt = s.tt ⊕ t ⊗ t; tn = s.tn ⊕ t ⊗ (l.n ⊖ mean.n); te = s.te ⊕ t ⊗ (l.e ⊖ mean.e) }

abbrev pub moments : Fix → List Fix → Moments
moments last fs = record {
  tt = products (hours last) (hours last) fs;
  tn = products (hours last) (north last) fs;
  te = products (hours last) (east last) fs;
}
