-- The refusing functions: inside the domain the number, outside it refusal number 1.
use Rattle.std.specs.Prelude.{cond, ◌&&◌, Float, Err, Ok}
use Rattle.std.specs.Float.Ieee.{eq}
use Rattle.roots.specs.Hypot.{hypot, in_domain}
use Rattle.trigonometry.specs.Sine as Circular
use Rattle.inverse_trigonometry.specs.Asin as Asin
use Rattle.inverse_trigonometry.specs.Atan2 as Atan2
use Rattle.elementary.specs.declared.error.Refusal.TheVariants.{Angle}
use Rattle.std.specs.declared.result.Result.{Result}
use Rattle.elementary.specs.declared.error.Refusal.{Refusal}

-- a value, or refusal 1 in place of a NaN
unfoldable pub number_or_refused : Float → Result Float Refusal
number_or_refused x = cond (eq x x) (Ok x) (Err Angle)

unfoldable pub hypot_answer : Float → Float → Result Float Refusal
hypot_answer x y = cond (in_domain x && in_domain y) (Ok (hypot x y)) (Err Angle)

unfoldable pub sin_answer : Float → Result Float Refusal
sin_answer x = cond (Circular.in_domain x) (Ok (Circular.sin x)) (Err Angle)

unfoldable pub cos_answer : Float → Result Float Refusal
cos_answer x = cond (Circular.in_domain x) (Ok (Circular.cos x)) (Err Angle)

unfoldable pub asin_answer : Float → Result Float Refusal
asin_answer x = cond (Asin.in_domain x) (Ok (Asin.asin x)) (Err Angle)

unfoldable pub atan2_answer : Float → Float → Result Float Refusal
atan2_answer y x = cond (Atan2.both_finite y x) (Ok (Atan2.atan2 y x)) (Err Angle)
