-- The refusing functions: a NaN from the plain function says that an argument is outside the domain, since inside it the answer is finite.
use Rattle.std.specs.Prelude.{Err, Ok}
use mathlib.Core.Path.{◌≡◌, refl, ap, ◌∙◌, subst}
use mathlib.Core.Bool.{Bool, true, false, not, ◌&&◌, cond}
use lib.Dec.{T}
use lib.Ieee.{Float, nan, binary64, fits, eq, is_nan}
use lib.Ieee.Scale.{finite}
use Rattle.laws.proofs.Pattern.{no_nan_of_eq}
use Rattle.math.proofs.Sign.{nan_of_eq}
use Rattle.roots.specs.Hypot.{hypot, in_domain}
use Rattle.roots.proofs.HypotBound.{hypot_is}
use Rattle.trigonometry.specs.Sine as Circular
use Rattle.trigonometry.proofs.Bound.{sine_is, cosine_is}
use Rattle.inverse_trigonometry.specs.Asin as Asin
use Rattle.inverse_trigonometry.specs.Atan2 as Atan2
use Rattle.inverse_trigonometry.proofs.Arcsines.{arcsine_is}
use Rattle.inverse_trigonometry.proofs.Arctangents.{arctangent_is}
use Rattle.elementary.specs.Checked.{number_or_refused, hypot_answer, sin_answer, cos_answer, asin_answer, atan2_answer}
use Rattle.elementary.specs.declared.error.Refusal.TheVariants.{Angle}
use Rattle.std.specs.declared.result.Result.{Result}
use Rattle.elementary.specs.declared.error.Refusal.{Refusal}

-- a value is equal to itself just where it is no NaN
pub number_of : (x : Float) → is_nan x ≡ false → Ok x ≡ number_or_refused x
unfolding number_or_refused is_nan
number_of x h = go (eq x x) refl
  where
    go : (b : Bool) → eq x x ≡ b → Ok x ≡ cond b (Ok x) (Err Angle)
    go true e = refl
    go false e = absurd (let k = ap is_nan (nan_of_eq x e) in cc)

pub refused_for : (x : Float) → is_nan x ≡ true → Err Angle ≡ number_or_refused x
unfolding number_or_refused
refused_for x h = go (eq x x) refl
  where
    go : (b : Bool) → eq x x ≡ b → Err Angle ≡ cond b (Ok x) (Err Angle)
    go true e = absurd (subst (λ n. T (not n)) h (no_nan_of_eq x e))
    go false e = refl

-- v is NaN outside the domain d, and finite in it
answer : (d : Bool) (v : Float) → (T (not d) → v ≡ nan) → (T d → T (finite v)) → number_or_refused v ≡ cond d (Ok v) (Err Angle)
unfolding number_or_refused
answer false v out number = ap (λ x. cond (eq x x) (Ok x) (Err Angle)) (out tt) ∙ (unfold eq in refl)
answer true v out number = go (eq v v) refl
  where
    go : (b : Bool) → eq v v ≡ b → cond b (Ok v) (Err Angle) ≡ Ok v
    go true e = refl
    go false e = absurd (subst (λ x. T (finite x)) (nan_of_eq v e) (number tt))

pub hypot_answer_lem : (x y h : Float) (r : Result Float Refusal) → T (fits binary64 x) → T (fits binary64 y) → h ≡ hypot x y → r ≡ number_or_refused h → r ≡ hypot_answer x y
unfolding hypot_answer
hypot_answer_lem x y h r tx ty e f = let is = hypot_is x y tx ty in f ∙ ap number_or_refused e ∙ answer (in_domain x && in_domain y) (hypot x y) is.outside (λ d. (is.inside d).number)

pub sin_answer_lem : (x h : Float) (r : Result Float Refusal) → T (fits binary64 x) → h ≡ Circular.sin x → r ≡ number_or_refused h → r ≡ sin_answer x
unfolding sin_answer
sin_answer_lem x h r t e f = let is = sine_is x t in f ∙ ap number_or_refused e ∙ answer (Circular.in_domain x) (Circular.sin x) is.outside (λ d. (is.inside d).number)

pub cos_answer_lem : (x h : Float) (r : Result Float Refusal) → T (fits binary64 x) → h ≡ Circular.cos x → r ≡ number_or_refused h → r ≡ cos_answer x
unfolding cos_answer
cos_answer_lem x h r t e f = let is = cosine_is x t in f ∙ ap number_or_refused e ∙ answer (Circular.in_domain x) (Circular.cos x) is.outside (λ d. (is.inside d).number)

pub asin_answer_lem : (x h : Float) (r : Result Float Refusal) → T (fits binary64 x) → h ≡ Asin.asin x → r ≡ number_or_refused h → r ≡ asin_answer x
unfolding asin_answer
asin_answer_lem x h r t e f = let is = arcsine_is x t in f ∙ ap number_or_refused e ∙ answer (Asin.in_domain x) (Asin.asin x) is.outside (λ d. (is.inside d).number)

pub atan2_answer_lem : (y x h : Float) (r : Result Float Refusal) → T (fits binary64 y) → T (fits binary64 x) → h ≡ Atan2.atan2 y x → r ≡ number_or_refused h → r ≡ atan2_answer y x
unfolding atan2_answer
atan2_answer_lem y x h r ty tx e f = let is = arctangent_is y x ty tx in f ∙ ap number_or_refused e ∙ answer (Atan2.both_finite y x) (Atan2.atan2 y x) is.outside (λ d. (is.inside d).number)
