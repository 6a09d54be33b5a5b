-- What the code of the search owes: the values at a step, the checks of a step, and that a step that passes its check is the one that the definition names.
use mathlib.Core.Path.{◌≡◌, refl, sym, ap, ◌∙◌, subst, subst₂}
use mathlib.Core.Bool.{Bool, true, false, not}
use Prim.Native.Nat.{ℕ, ◌+◌, ◌*◌, ◌-◌, ◌^◌, ◌/◌, ◌≤◌, ◌<◌}
use native.Mathlib.Nat.{le_of_lt, le_refl, le_trans, lt_irrefl, div-le_self, sub-le}
use native.Mathlib.Omega.{arith}
use lib.Arith.{lt→nleb}
use lib.Dec.{T, leb, le→leb}
use lib.Ieee.Fits.{and_r}
use Rattle.std.specs.Prelude.{None, Some}
use Rattle.std.specs.Bool.{then_some}
use Rattle.std.specs.declared.option.Option.{Option}
use Rattle.trigonometry.specs.Taylor.{sine_divisors, cosine_divisors}
use Rattle.trigonometry.specs.Units.{horner, square, sine_units, cosine_units}
use Rattle.grid.specs.Search.{greatest, up_to, greatest_to, Found}
use Rattle.grid.specs.Grid.{last_step, sine_step, cosine_step}
use Rattle.grid.specs.Arcsine.{at_most, rest, rest_step, fits_in}
use Rattle.grid.specs.Arctangent.{not_above}
use Rattle.grid.proofs.Searching.{turn}
use Rattle.grid.proofs.Steps as steps
use Rattle.grid.proofs.Upper.{upper_is, upper_found}
use Rattle.grid.proofs.Upper as up
use Rattle.grid.proofs.Octant.{arctangent_is, arctangent_found}
use Rattle.grid.proofs.Octant as octant

-- ---- the values at a step
pub sine_is : (a r z q s : ℕ) → r ≡ 512 * a → z ≡ r * r / 2 ^ 58 → q ≡ horner (2 ^ 58) z 1 sine_divisors → s ≡ r * q / 2 ^ 58 → s ≡ sine_step a
unfolding sine_step sine_units square
sine_is a r z q s e f g h = cc

pub cosine_is : (a r z q t : ℕ) → r ≡ 512 * a → z ≡ r * r / 2 ^ 58 → q ≡ horner (2 ^ 58) z 1 cosine_divisors → t ≡ z * q / 2 ^ 58 → 2 ^ 58 - t / 2 ≡ cosine_step a
unfolding cosine_step cosine_units square
cosine_is a r z q t e f g h = let k = halved (z * q) in cc
  where
    halved : (x : ℕ) → x / 2 ^ 58 / 2 ≡ x / (2 ^ 58 * 2)
    halved x = omega arith

pub rest_is : (f a r z q t : ℕ) → r ≡ 512 * a → z ≡ r * r / 2 ^ 58 → q ≡ horner (2 ^ 58) (z / (f * f)) 1 cosine_divisors → t ≡ z * q / 2 ^ 58 → t ≡ rest_step f a
unfolding rest_step rest
rest_is f a r z q t e g h i = cc

pub under_is : (u w a s c g h : ℕ) → s ≡ sine_step a → c ≡ cosine_step a → g ≡ u * s / 2 ^ 58 → h ≡ w * c / 2 ^ 58 → leb g h ≡ not_above u w a
unfolding not_above
under_is u w a s c g h p q x y = cc

-- ---- the search by halves
pub begins : (p : ℕ → Bool) → greatest 49 (up_to last_step p) 0 ≡ greatest_to 49 last_step p
unfolding greatest_to
begins p = refl

pub kept : (p : ℕ → Bool) (i low half B : ℕ) (t : Bool) → i < 49 → half ≡ 2 ^ (49 - i) → greatest (49 - i) p low ≡ B → t ≡ p (low + half / 2) → t ≡ true → greatest (49 - (i + 1)) p (low + half / 2) ≡ B
kept p i low half B t h e b u v = rw v at (turn 49 i p low half B t h e b u)

pub passed_over : (p : ℕ → Bool) (i low half B : ℕ) (t : Bool) → i < 49 → half ≡ 2 ^ (49 - i) → greatest (49 - i) p low ≡ B → t ≡ p (low + half / 2) → t ≡ false → greatest (49 - (i + 1)) p low ≡ B
passed_over p i low half B t h e b u v = rw v at (turn 49 i p low half B t h e b u)

-- ---- the checks of a step: by the slope there, and of a step that passes by the next
pub sine_here : (x a z s : ℕ) → a < last_step → z ≡ 512 * a * (512 * a) / 2 ^ 58 → s ≡ sine_step a → s ≤ x → x - s + 10 ≤ (2 ^ 58 - z / 2) / 2 ^ 49 → Found last_step (at_most x) a
unfolding at_most
sine_here x a z s h e f p q = record { within = le_of_lt h; passes = le→leb (sine_step a) x (rw f at p); next = λ k. lt→nleb (sine_step (a + 1)) x (steps.certified a x z (le_of_lt h) e (rw f at p) (rw f at q)) }

pub sine_passes : (x a s : ℕ) → s ≡ sine_step a → s ≤ x → T (at_most x a)
unfolding at_most
sine_passes x a s f p = le→leb (sine_step a) x (rw f at p)

pub rest_here : (e f a z y t g : ℕ) → 0 < f → a < last_step → z ≡ 512 * a * (512 * a) / 2 ^ 58 → y ≡ z / (f * f) → y ≤ 2 ^ 58 → t ≡ rest_step f a → g ≡ 512 * a * (2 ^ 58 - y / 6) / 2 ^ 58 → t ≤ 2 * (e * (f * f)) → 2 * (e * (f * f)) + 9 ≤ t + g / 2 ^ 48 → Found last_step (fits_in e f) a
unfolding fits_in
rest_here e f a z y t g hf h ez ey ly et eg p q =
    record {
      within = le_of_lt h;
      passes = le→leb (rest_step f a) (2 * (e * (f * f))) (rw et at p);
      next = λ k. lt→nleb (rest_step f (a + 1)) (2 * (e * (f * f))) (up.certified f a (2 * (e * (f * f))) y hf (le_of_lt h) (ey ∙ ap (λ v. v / (f * f)) ez) ly (rw (et, eg) at q));
    }

pub rest_passes : (e f a t n : ℕ) → n ≡ 2 * (e * (f * f)) → t ≡ rest_step f a → t ≤ n → T (fits_in e f a)
unfolding fits_in
rest_passes e f a t n en et p = le→leb (rest_step f a) (2 * (e * (f * f))) (rw (et, en) at p)

pub tangent_here : (u w a z s c g h x y : ℕ) → u ≤ 2 ^ 58 → w ≤ 2 ^ 58 → a < last_step → z ≡ 512 * a * (512 * a) / 2 ^ 58 → z ≤ 2 ^ 58 → s ≡ sine_step a → c ≡ cosine_step a → g ≡ u * s / 2 ^ 58 → h ≡ w * c / 2 ^ 58 → x ≡ u * (2 ^ 58 - z / 2) / 2 ^ 58 → y ≡ w * (512 * a - 512 * a / 6) / 2 ^ 58
    → g ≤ h → h + 17 ≤ g + (x + y) / 2 ^ 49 → Found last_step (not_above u w) a
unfolding not_above
tangent_here u w a z s c g h x y hu hw ha ez lz es ec eg eh ex ey p q =
    let eg' : g ≡ u * sine_step a / 2 ^ 58 = eg ∙ ap (λ t. u * t / 2 ^ 58) es in
    let eh' : h ≡ w * cosine_step a / 2 ^ 58 = eh ∙ ap (λ t. w * t / 2 ^ 58) ec in
    record { within = le_of_lt ha; passes = le→leb _ _ (subst₂ (λ i j. i ≤ j) eg' eh' p); next = λ k. lt→nleb _ _ (octant.certified u w a z hu hw (le_of_lt ha) ez lz (rw (eg', eh', ex, ey) at q)) }

pub tangent_passes : (u w a s c g h : ℕ) → s ≡ sine_step a → c ≡ cosine_step a → g ≡ u * s / 2 ^ 58 → h ≡ w * c / 2 ^ 58 → g ≤ h → T (not_above u w a)
unfolding not_above
tangent_passes u w a s c g h es ec eg eh p = le→leb _ _ (subst₂ (λ i j. i ≤ j) (eg ∙ ap (λ t. u * t / 2 ^ 58) es) (eh ∙ ap (λ t. w * t / 2 ^ 58) ec) p)

pub next_fails : (p : ℕ → Bool) (a : ℕ) (t : Bool) → a < last_step → T (p a) → t ≡ p (a + 1) → not t ≡ true → Found last_step p a
next_fails p a t h q e n = record { within = le_of_lt h; passes = q; next = λ k. subst (λ b. T (not b)) e (subst T (sym n) tt) }

-- what is told where the slope settles it, and nothing else
pub told_by : {X : Type 0} (b : Bool) (o : Option Bool) → o ≡ then_some b true → (b ≡ true → X) → o ≡ Some true → X
told_by true o e f g = f refl
told_by false o e f g = absurd (other (sym e ∙ g))
  where
    other : None ≡ Some true → ⊥
    other h = cc

-- ---- the same from what the products and the series promise
-- what a product of units, a series for the sine and one for the cosine promise
abbrev Product : ℕ → ℕ → ℕ → Type 0
Product a b r = (a ≤ 2 ^ 58 → b ≤ 2 ^ 58 → r ≡ a * b / 2 ^ 58) × (2 ^ 58 < a → r ≡ 0) × (2 ^ 58 < b → r ≡ 0) × (r ≤ b)

abbrev SineSeries : ℕ → ℕ → Type 0
SineSeries z r = (z ≤ 2 ^ 58 → r ≡ horner (2 ^ 58) z 1 sine_divisors) × (2 ^ 58 < z → r ≡ 0) × (r ≤ 2 ^ 58)

abbrev CosineSeries : ℕ → ℕ → Type 0
CosineSeries z r = (z ≤ 2 ^ 58 → r ≡ horner (2 ^ 58) z 1 cosine_divisors) × (2 ^ 58 < z → r ≡ 0) × (r ≤ 2 ^ 58)

-- the angle of a step, and so its square, is at most one
angle_small : (a : ℕ) → a < last_step → 512 * a ≤ 2 ^ 58
angle_small a h = omega arith

module _ (a z : ℕ) (ha : a < last_step) (pz : Product (512 * a) (512 * a) z) where
  square_is : z ≡ 512 * a * (512 * a) / 2 ^ 58
  square_is = pz.0 (angle_small a ha) (angle_small a ha)

  square_within : z ≤ 2 ^ 58
  square_within = le_trans pz.3 (angle_small a ha)

  pub sine_of : (q s : ℕ) → SineSeries z q → Product (512 * a) q s → s ≡ sine_step a
  sine_of q s pq ps = sine_is a (512 * a) z q s refl square_is (pq.0 square_within) (ps.0 (angle_small a ha) pq.2)

  pub cosine_of : (k t : ℕ) → CosineSeries z k → Product z k t → 2 ^ 58 - t / 2 ≡ cosine_step a
  cosine_of k t pk pt = cosine_is a (512 * a) z k t refl square_is (pk.0 square_within) (pt.0 square_within pk.2)

  -- over a square of f, which is no less than one
  rest-small : (f : ℕ) → z / (f * f) ≤ 2 ^ 58
  rest-small f = le_trans (div-le_self z (f * f)) square_within

  pub rest-value : (f q t : ℕ) → CosineSeries (z / (f * f)) q → Product z q t → t ≡ rest_step f a
  rest-value f q t pq pt = rest_is f a (512 * a) z q t refl square_is (pq.0 (rest-small f)) (pt.0 square_within pq.2)

  pub sine_settled : (x q s : ℕ) → SineSeries z q → Product (512 * a) q s → s ≤ x → x - s + 10 ≤ (2 ^ 58 - z / 2) / 2 ^ 49 → Found last_step (at_most x) a
  sine_settled x q s pq ps p e = sine_here x a z s ha square_is (sine_of q s pq ps) p e

  pub rest_settled : (e f q t g n : ℕ) → 0 < f → n ≡ 2 * (e * (f * f)) → CosineSeries (z / (f * f)) q → Product z q t → Product (512 * a) (2 ^ 58 - z / (f * f) / 6) g → t ≤ n → n + 9 ≤ t + g / 2 ^ 48 → Found last_step (fits_in e f) a
  rest_settled e f q t g n hf en pq pt pg p h = rest_here e f a z (z / (f * f)) t g hf ha square_is refl (rest-small f) (rest-value f q t pq pt) (pg.0 (angle_small a ha) (sub-le (2 ^ 58) _)) (rw en at p) (rw en at h)

  module _ (u w q s k t g h : ℕ) (hu : u ≤ 2 ^ 58) (hw : w ≤ 2 ^ 58) (pq : SineSeries z q) (ps : Product (512 * a) q s) (pk : CosineSeries z k) (pt : Product z k t) (pg : Product u s g) (ph : Product w (2 ^ 58 - t / 2) h) (p : g ≤ h) where
    sine_within : s ≤ 2 ^ 58
    sine_within = le_trans ps.3 pq.2

    pub tangent_settled : (x y : ℕ) → Product u (2 ^ 58 - z / 2) x → Product w (512 * a - 512 * a / 6) y → h + 17 ≤ g + (x + y) / 2 ^ 49 → Found last_step (not_above u w) a
    tangent_settled x y px py e =
        tangent_here u w a z s (2 ^ 58 - t / 2) g h x y hu hw ha square_is square_within (sine_of q s pq ps) (cosine_of k t pk pt) (pg.0 hu sine_within) (ph.0 hw (sub-le (2 ^ 58) _)) (px.0 hu (sub-le (2 ^ 58) _)) (py.0 hw (le_trans (sub-le (512 * a) _) (angle_small a ha))) p e

    pub tangent_told : T (not_above u w a)
    tangent_told = tangent_passes u w a s (2 ^ 58 - t / 2) g h (sine_of q s pq ps) (cosine_of k t pk pt) (pg.0 hu sine_within) (ph.0 hw (sub-le (2 ^ 58) _)) p

-- the last step, where it passes
pub at_last : (p : ℕ → Bool) → T (p last_step) → Found last_step p last_step
at_last p t = record { within = le_refl last_step; passes = t; next = λ l. absurd (lt_irrefl last_step l) }

pub passes_last : (p : ℕ → Bool) (t : Bool) → t ≡ up_to last_step p last_step → t ≡ true → T (p last_step)
unfolding up_to
passes_last p t e h = and_r (leb last_step last_step) (p last_step) (subst T (sym h ∙ e) tt)
