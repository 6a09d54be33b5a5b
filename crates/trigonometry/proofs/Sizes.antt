-- Sizes: a sine or a cosine is at most 1.
use Rattle.std.proofs.Common.{◌*◌, ◌^◌, ◌≤◌, T, sym, subst, mul-one}
use lib.Ieee.{Float, binary64, fits}
use Rattle.laws.specs.Size.{Small}
use Rattle.laws.specs.Units.{units_of}
use Rattle.trigonometry.specs.Sine.{in_domain, sin, cos}
use Rattle.trigonometry.proofs.Bound.{sine_is, cosine_is}

pub sin-small : (x : Float) → T (fits binary64 x) → T (in_domain x) → Small 0 0 (sin x)
sin-small x t d = let w = (sine_is x t).inside d in record { held = w.held; number = w.number; most = subst (λ n. n ≤ 2 ^ 0 * 2 ^ 1074) (sym (mul-one (units_of (sin x)))) w.most }

pub cos-small : (x : Float) → T (fits binary64 x) → T (in_domain x) → Small 0 0 (cos x)
cos-small x t d = let w = (cosine_is x t).inside d in record { held = w.held; number = w.number; most = subst (λ n. n ≤ 2 ^ 0 * 2 ^ 1074) (sym (mul-one (units_of (cos x)))) w.most }
