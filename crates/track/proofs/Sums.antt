-- The three sums that the code works out side by side are each the sum of its own figure.
use mathlib.Core.Path.{◌≡◌, refl}
use mathlib.Core.List.{List, [], ◌∷◌}
use Rattle.laws.specs.Fold.{fold}
use Rattle.laws.specs.Ops.{◌⊕◌, ◌⊖◌, ◌⊗◌}
use Rattle.motion.specs.Check.{zero}
use Rattle.track.specs.declared.fit.Coordinates.{Coordinates}
use Rattle.track.specs.declared.fit.Moments.{Moments}
use Rattle.track.specs.declared.window.Fix.{Fix}
use Rattle.track.specs.Beside.{local, plus, sums, means, with_products, moments}
use Rattle.track.specs.Fit.{hours, north, east, sum, products}

abbrev pub summed : Fix → Coordinates → Fix → Coordinates
summed last s f = plus s (local last f)

abbrev pub no_sum : Coordinates
no_sum = record { t = zero; n = zero; e = zero }

-- side by side, from any sums so far
apart : (last : Fix) (s : Coordinates) (fs : List Fix) → fold (summed last) s fs
    ≡ record { t = fold (λ x f. x ⊕ hours last f) s.t fs; n = fold (λ x f. x ⊕ north last f) s.n fs; e = fold (λ x f. x ⊕ east last f) s.e fs }
unfolding fold
apart last s [] = refl
apart last s (f ∷ fs) = apart last (summed last s f) fs

pub sums_are : (last : Fix) (fs : List Fix) → fold (summed last) no_sum fs ≡ sums last fs
unfolding sum
sums_are last fs = apart last no_sum fs

-- ---- the products
abbrev pub multiplied : Fix → Coordinates → Moments → Fix → Moments
multiplied last mean s f = with_products mean s (local last f)

abbrev pub no_product : Moments
no_product = record { tt = zero; tn = zero; te = zero }

products_apart : (last : Fix) (m : Coordinates) (s : Moments) (fs : List Fix) → fold (multiplied last m) s fs
    ≡ record {
      tt = fold (λ x f. x ⊕ (hours last f ⊖ m.t) ⊗ (hours last f ⊖ m.t)) s.tt fs;
      tn = fold (λ x f. x ⊕ (hours last f ⊖ m.t) ⊗ (north last f ⊖ m.n)) s.tn fs;
      te = fold (λ x f. x ⊕ (hours last f ⊖ m.t) ⊗ (east last f ⊖ m.e)) s.te fs;
    }
unfolding fold
products_apart last m s [] = refl
products_apart last m s (f ∷ fs) = products_apart last m (multiplied last m s f) fs

pub moments_are : (last : Fix) (fs : List Fix) → fold (multiplied last (means last fs)) no_product fs ≡ moments last fs
unfolding sum products
moments_are last fs = products_apart last (means last fs) no_product fs
