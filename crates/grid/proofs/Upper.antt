-- The arcsine above a quarter pi: what is left to half pi.
use mathlib.Core.Path.{◌≡◌, refl, sym, ap, ◌∙◌, subst, subst₂}
use mathlib.Core.Bool.{Bool, true, false, not, cond}
use mathlib.Core.List.{List, [], ◌∷◌}
use mathlib.Core.Logic.{◌⊎◌, inl, inr}
use Prim.Native.Nat.{ℕ, zero, suc, ◌+◌, ◌*◌, ◌-◌, ◌^◌, ◌/◌, ◌≤◌, ◌<◌}
use native.Mathlib.Nat.{div-le_self, mul-le-mul, mul-le-mul_left, mul-le-mul_right, le_trans, div-mul-le_self, lt-div-mul-add, le_of_lt, le_of_mul-le-mul_left, le_of_mul-le-mul_right, div-le_of_le-mul, mul-pos, eq-or-lt_of_le, mul-one, one-mul, pow-succ'}
use native.Mathlib.Omega.{arith}
use lib.Dec.{T, T_not, leb, leb→le, nleb→lt, le→leb, lit<}
use Rattle.trigonometry.specs.Taylor.{num, den, cosine_divisors, cosine_num, cosine_den}
use Rattle.trigonometry.proofs.Near.{Near, near_mul}
use Rattle.trigonometry.proofs.Horner.{AtLeast, num-le-den, horner-le, horner_near, exact_le}
use Rattle.trigonometry.proofs.Values.{square-small, cosine_at_least}
use Rattle.trigonometry.proofs.Rise.{cosine_falls}
use Rattle.trigonometry.proofs.Slope.{climb_12_to, climb_sharp}
use Rattle.trigonometry.proofs.Reduced.{den_pos}
use Rattle.grid.specs.Search.{Found}
use Rattle.grid.specs.Grid.{last_step}
use Rattle.grid.specs.Arcsine.{rest, rest_step, fits_in, upper_steps, scale_from, scale}
use Rattle.grid.proofs.Searching.{found, found_is}
use Rattle.grid.proofs.Steps.{on_grid}

-- ---- the exact fraction at n / (e * f)
unfoldable pub rest_num : ℕ → ℕ → ℕ
rest_num n d = n * n * num (n * n) (d * d) cosine_divisors

unfoldable pub rest_den : ℕ → ℕ → ℕ
rest_den e d = e * e * den (d * d) cosine_divisors

-- a whole part of a whole part
near_again : (S Z N e f : ℕ) → 0 < f → Near S Z N (e * e) 0 1 → Near S (Z / (f * f)) N (e * f * (e * f)) 0 1
near_again S Z N e f hf x = record { over = o (Z / (f * f)) (div-mul-le_self Z (f * f)) x.over; under = n (Z / (f * f)) (lt-div-mul-add {a = Z} {b = f * f} (mul-pos hf hf)) x.under }
  where
    o : (Q : ℕ) → Q * (f * f) ≤ Z → Z * (e * e) ≤ N * S + 0 * (e * e) → Q * (e * f * (e * f)) ≤ N * S + 0 * (e * f * (e * f))
    o Q h k = omega (arith, mul-le-mul_right (e * e) h)

    n : (Q : ℕ) → Z < Q * (f * f) + f * f → N * S ≤ Z * (e * e) + 1 * (e * e) → N * S ≤ Q * (e * f * (e * f)) + 1 * (e * f * (e * f))
    n Q h k = omega (arith, mul-le-mul_right (e * e) h)

div-small : (Z f S : ℕ) → 3 * Z ≤ 2 * S → 3 * (Z / (f * f)) ≤ 2 * S
div-small Z f S h = go (Z / (f * f)) (div-le_self Z (f * f))
  where
    go : (Q : ℕ) → Q ≤ Z → 3 * Q ≤ 2 * S
    go Q k = omega arith

pub rest_near : (S R n e f : ℕ) → 0 < S → 0 < f → 5 * R ≤ 4 * S → 5 * n ≤ 4 * e → Near S R n e 0 0 → Near S (rest S f R) (rest_num n (e * f)) (rest_den e (e * f)) 3 5
unfolding rest rest_num rest_den
rest_near S R n e f hS hf hR hn x =
    simp (mul-one, one-mul) at
    (near_mul S 1 3 2 3 {o = 3} {u = 5} hS (omega arith) (omega arith) (square-small S R hS hR) (weak (num (n * n) (e * f * (e * f)) cosine_divisors) (den (e * f * (e * f)) cosine_divisors) (num-le-den (n * n) (e * f * (e * f)) cosine_divisors)) (omega arith) (omega arith) square
    (horner_near S (R * R / S / (f * f)) (n * n) (e * f * (e * f)) 0 1 4 1 cosine_divisors hS (div-small (R * R / S) f S (square-small S R hS hR)) n_le cosine_at_least (omega arith) (omega arith) (omega arith) (near_again S (R * R / S) (n * n) e f hf square)))
  where
    square : Near S (R * R / S) (n * n) (e * e) 0 1
    square = simp (mul-one, one-mul) at (near_mul S 1 5 4 4 {o = 0} {u = 1} hS (omega arith) (omega arith) hR hn (omega arith) (omega arith) x x)

    weak : (N D : ℕ) → N ≤ D → 3 * N ≤ 3 * (1 * D)
    weak N D h = omega arith

    e_le : n ≤ e * f
    e_le = omega (arith, mul-le-mul_left e hf)

    n_le : n * n ≤ e * f * (e * f)
    n_le = mul-le-mul e_le e_le

-- ---- its slope
cos_tail : AtLeast 2 (30 ∷ 56 ∷ 90 ∷ 132 ∷ 182 ∷ 240 ∷ 306 ∷ 380 ∷ [])
unfolding AtLeast
cos_tail = omega arith

abbrev Steep : (e m n M N D : ℕ) → Type 0
Steep e m n M N D = 6 * (e * e * M) + 5 * (n * n * D) ≤ 6 * (e * e * N) + 5 * (m * m * D)

steep : (e m n d : ℕ) → m ≤ n → n ≤ d → Steep e m n (rest_num m d) (rest_num n d) (rest_den e d)
unfolding rest_num rest_den cosine_divisors
steep e m n d h k = times (e * e) _ _ (n * n) (m * m) (den (d * d) cosine_divisors) (climb_12_to (d * d) (m * m) (n * n) (30 ∷ 56 ∷ 90 ∷ 132 ∷ 182 ∷ 240 ∷ 306 ∷ 380 ∷ []) (mul-le-mul h h) (mul-le-mul k k) cos_tail)
  where
    times : (z p q x y D : ℕ) → 6 * p + 5 * (x * D) ≤ 6 * q + 5 * (y * D) → 6 * (z * p) + 5 * (x * (z * D)) ≤ 6 * (z * q) + 5 * (y * (z * D))
    times z p q x y D h = omega (arith, mul-le-mul_left z h)

-- from one point to a higher one
climbs : (S e m n M N D P Q : ℕ) → 0 < D → Steep e m n M N D → P * D ≤ M * S + 3 * D → N * S ≤ Q * D + 5 * D → 6 * (e * e * P) + 5 * (n * n * S) ≤ 6 * (e * e * Q) + 5 * (m * m * S) + 48 * (e * e)
climbs S e m n M N D P Q hD s f g = le_of_mul-le-mul_right {k = D} (go (e * e) (n * n) (m * m) s) hD
  where
    go : (z x y : ℕ) → 6 * (z * M) + 5 * (x * D) ≤ 6 * (z * N) + 5 * (y * D) → (6 * (z * P) + 5 * (x * S)) * D ≤ (6 * (z * Q) + 5 * (y * S) + 48 * z) * D
    go z x y h = omega (arith, mul-le-mul_left S h, mul-le-mul_left z f, mul-le-mul_left z g)

lower : (S e m n M N D Q E : ℕ) → 0 < e → Steep e m n M N D → N * S ≤ Q * D + 5 * D → 30 * (e * e) + 5 * (m * m * S) ≤ 5 * (n * n * S) → Q ≤ E → M * S ≤ E * D
lower S e m n M N D Q E he s f r l = le_trans (le_of_mul-le-mul_left {k = e * e} (go (e * e) (n * n) (m * m) s r) (mul-pos he he)) (mul-le-mul_right D l)
  where
    go : (z x y : ℕ) → 6 * (z * M) + 5 * (x * D) ≤ 6 * (z * N) + 5 * (y * D) → 30 * z + 5 * (y * S) ≤ 5 * (x * S) → z * (M * S) ≤ z * (Q * D)
    go z x y h r = omega (arith, mul-le-mul_left S h, mul-le-mul_left z f, mul-le-mul_right D r)

upper : (S e m n M N D P E : ℕ) → 0 < e → Steep e m n M N D → P * D ≤ M * S + 3 * D → 18 * (e * e) + 5 * (m * m * S) ≤ 5 * (n * n * S) → E ≤ P → E * D ≤ N * S
upper S e m n M N D P E he s f r l = le_trans (mul-le-mul_right D l) (le_of_mul-le-mul_left {k = e * e} (go (e * e) (n * n) (m * m) s r) (mul-pos he he))
  where
    go : (z x y : ℕ) → 6 * (z * M) + 5 * (x * D) ≤ 6 * (z * N) + 5 * (y * D) → 18 * z + 5 * (y * S) ≤ 5 * (x * S) → z * (P * D) ≤ z * (N * S)
    go z x y h r = omega (arith, mul-le-mul_left S h, mul-le-mul_left z f, mul-le-mul_right D r)

pub rest_step_near : (f b : ℕ) → 0 < f → b ≤ last_step + 1 → Near (2 ^ 58) (rest_step f b) (rest_num (4 * b) (2 ^ 51 * f)) (rest_den (2 ^ 51) (2 ^ 51 * f)) 3 5
unfolding rest_step
rest_step_near f b hf h = rest_near (2 ^ 58) (512 * b) (4 * b) (2 ^ 51) f (lit< tt) hf (omega arith) (omega arith) (on_grid b)

wide : (f n : ℕ) → 0 < f → n ≤ 2 ^ 51 → n ≤ 2 ^ 51 * f
wide f n hf h = omega (arith, mul-le-mul_left (2 ^ 51) hf)

rest_proper : (f : ℕ) → 0 < f → 0 < rest_den (2 ^ 51) (2 ^ 51 * f)
unfolding rest_den
rest_proper f hf = mul-pos {m = 2 ^ 51 * 2 ^ 51} (lit< tt) (den_pos 6 _ cosine_divisors (lit< tt) (mul-pos (mul-pos {m = 2 ^ 51} (lit< tt) hf) (mul-pos {m = 2 ^ 51} (lit< tt) hf)) cosine_at_least)

rest_step_climbs : (f b : ℕ) → 0 < f → 2 ^ 47 ≤ b → b ≤ last_step → rest_step f b ≤ rest_step f (b + 1)
rest_step_climbs f b hf l h =
    go (rest_step f b) (rest_step f (b + 1))
    (climbs (2 ^ 58) (2 ^ 51) (4 * b) (4 * (b + 1)) _ _ _ _ _ (rest_proper f hf) (steep (2 ^ 51) (4 * b) (4 * (b + 1)) (2 ^ 51 * f) (omega arith) (wide f (4 * (b + 1)) hf (omega arith)))
    (rest_step_near f b hf (omega arith)).over (rest_step_near f (b + 1) hf (omega arith)).under)
  where
    go : (P Q : ℕ) → 6 * (2 ^ 51 * 2 ^ 51 * P) + 5 * (4 * (b + 1) * (4 * (b + 1)) * 2 ^ 58) ≤ 6 * (2 ^ 51 * 2 ^ 51 * Q) + 5 * (4 * b * (4 * b) * 2 ^ 58) + 48 * (2 ^ 51 * 2 ^ 51) → P ≤ Q
    go P Q k = omega arith

-- up to a quarter the test always passes
rest-small : (f b : ℕ) → b ≤ 2 ^ 47 → rest_step f b ≤ 2 ^ 54
unfolding rest_step rest
rest-small f b h = le_trans (div-le_of_le-mul (2 ^ 58) (le_trans (mul-le-mul_left (512 * b * (512 * b) / 2 ^ 58) (horner-le (2 ^ 58) (512 * b * (512 * b) / 2 ^ 58 / (f * f)) 1 cosine_divisors)) (omega arith))) (square (mul-le-mul h h))
  where
    square : b * b ≤ 2 ^ 47 * 2 ^ 47 → 512 * b * (512 * b) / 2 ^ 58 ≤ 2 ^ 54
    square k = omega arith

-- ---- the test passes below where it passes
fits-small : (E f b : ℕ) → 2 ^ 54 ≤ E * (f * f) → b ≤ 2 ^ 47 → T (fits_in E f b)
unfolding fits_in
fits-small E f b hE h = le→leb (rest_step f b) (2 * (E * (f * f))) (le_trans (rest-small f b h) (omega arith))

pub fits_falls : (E f : ℕ) → 0 < f → 2 ^ 54 ≤ E * (f * f) → (b : ℕ) → b < last_step → T (fits_in E f (b + 1)) → T (fits_in E f b)
unfolding fits_in
fits_falls E f hf hE b h t = go (leb b (2 ^ 47)) (leb→le b (2 ^ 47)) (nleb→lt b (2 ^ 47))
  where
    go : (u : Bool) → (T u → b ≤ 2 ^ 47) → (T (not u) → 2 ^ 47 < b) → T (fits_in E f b)
    go true l g = fits-small E f b hE (l tt)
    go false l g = le→leb (rest_step f b) (2 * (E * (f * f))) (le_trans (rest_step_climbs f b hf (le_of_lt (g tt)) (le_of_lt h)) (leb→le (rest_step f (b + 1)) (2 * (E * (f * f))) t))

pub upper_found : (E f : ℕ) → 2 ^ 54 ≤ E * (f * f) → Found last_step (fits_in E f) (upper_steps E f)
unfolding upper_steps
upper_found E f hE = found 49 last_step (fits_in E f) (fits-small E f 0 hE (omega arith)) (lit< tt)

pub upper_is : (E f : ℕ) → 0 < f → 2 ^ 54 ≤ E * (f * f) → (b : ℕ) → Found last_step (fits_in E f) b → b ≡ upper_steps E f
unfolding upper_steps
upper_is E f hf hE b r = found_is 49 last_step (fits_in E f) (fits_falls E f hf hE) (fits-small E f 0 hE (omega arith)) (lit< tt) b r

-- ---- the enclosure, for d = 2 ^ 51 * f: below 4 b / d the cosine is not below X / 2 ^ 58, and from (4 b + 5) / d it is not above
pub record Encloses (X f b : ℕ) : Type 0 where
  pub least : 2 ^ 47 ≤ b
  pub within : b ≤ last_step
  pub high : (n : ℕ) → n < 4 * b → X * cosine_den (2 ^ 51 * f) ≤ cosine_num n (2 ^ 51 * f) * 2 ^ 58
  pub low : b < last_step → (n : ℕ) → 4 * b + 5 ≤ n → n ≤ 2 ^ 51 * f → cosine_num n (2 ^ 51 * f) * 2 ^ 58 ≤ X * cosine_den (2 ^ 51 * f)

-- 1 - cos and cos
cos-sum : (n d : ℕ) → n ≤ d → cosine_num n d + rest_num n d ≡ cosine_den d
unfolding cosine_num cosine_den rest_num num den
cos-sum n d h = less (exact_le 2 (n * n) (d * d) (num (n * n) (d * d) cosine_divisors) (den (d * d) cosine_divisors) (omega arith) (mul-le-mul h h) (num-le-den (n * n) (d * d) cosine_divisors))
  where
    less : {a b : ℕ} → b ≤ a → a - b + b ≡ a
    less {a} {b} h = omega arith

scaled-den : (E e f : ℕ) → 2 * (E * (f * f)) * rest_den e (e * f) ≡ E * cosine_den (e * f)
unfolding rest_den cosine_den den
scaled-den E e f = omega arith

to_high : (S X E c r C : ℕ) → X + E ≡ S → c + r ≡ C → r * S ≤ E * C → X * C ≤ c * S
to_high S X E c r C h k l = omega (arith, ap (λ t. t * C) h, ap (λ t. t * S) k)

to_low : (S X E c r C : ℕ) → X + E ≡ S → c + r ≡ C → E * C ≤ r * S → c * S ≤ X * C
to_low S X E c r C h k l = omega (arith, ap (λ t. t * C) h, ap (λ t. t * S) k)

at_least : (E f b : ℕ) → 2 ^ 54 ≤ E * (f * f) → Found last_step (fits_in E f) b → 2 ^ 47 ≤ b
at_least E f b hE r = go (leb (2 ^ 47) b) (leb→le (2 ^ 47) b) (nleb→lt (2 ^ 47) b)
  where
    go : (u : Bool) → (T u → 2 ^ 47 ≤ b) → (T (not u) → b < 2 ^ 47) → 2 ^ 47 ≤ b
    go true l g = l tt
    go false l g = let h = g tt in absurd (T_not (fits_in E f (b + 1)) (r.next (omega arith)) (fits-small E f (b + 1) hE (omega arith)))

high_at : (X E f b : ℕ) → 0 < f → X + E ≡ 2 ^ 58 → 2 ^ 47 ≤ b → b ≤ last_step → rest_step f b ≤ 2 * (E * (f * f)) → X * cosine_den (2 ^ 51 * f) ≤ cosine_num (4 * b - 1) (2 ^ 51 * f) * 2 ^ 58
high_at X E f b hf e l h t =
    to_high (2 ^ 58) X E (cosine_num (4 * b - 1) (2 ^ 51 * f)) (rest_num (4 * b - 1) (2 ^ 51 * f)) (cosine_den (2 ^ 51 * f)) e (cos-sum (4 * b - 1) (2 ^ 51 * f) (wide f (4 * b - 1) hf (omega arith)))
    (subst (λ u. rest_num (4 * b - 1) (2 ^ 51 * f) * 2 ^ 58 ≤ u) (scaled-den E (2 ^ 51) f)
    (lower (2 ^ 58) (2 ^ 51) (4 * b - 1) (4 * b) _ _ _ (rest_step f b) (2 * (E * (f * f))) (lit< tt) (steep (2 ^ 51) (4 * b - 1) (4 * b) (2 ^ 51 * f) (omega arith) (wide f (4 * b) hf (omega arith))) (rest_step_near f b hf (omega arith)).under (room (4 * b - 1) (4 * b) (omega arith) (omega arith)) t))
  where
    room : (m n : ℕ) → m + 1 ≡ n → 2 ^ 49 ≤ n → 30 * (2 ^ 51 * 2 ^ 51) + 5 * (m * m * 2 ^ 58) ≤ 5 * (n * n * 2 ^ 58)
    room m n e h = omega (arith, ap (λ t. t * n) e, ap (λ t. t * m) e)

low_at : (X E f b : ℕ) → 0 < f → X + E ≡ 2 ^ 58 → 2 ^ 47 ≤ b → b < last_step → 2 * (E * (f * f)) ≤ rest_step f (b + 1) → cosine_num (4 * b + 5) (2 ^ 51 * f) * 2 ^ 58 ≤ X * cosine_den (2 ^ 51 * f)
low_at X E f b hf e l h t =
    to_low (2 ^ 58) X E (cosine_num (4 * b + 5) (2 ^ 51 * f)) (rest_num (4 * b + 5) (2 ^ 51 * f)) (cosine_den (2 ^ 51 * f)) e (cos-sum (4 * b + 5) (2 ^ 51 * f) (wide f (4 * b + 5) hf (omega arith)))
    (subst (λ u. u ≤ rest_num (4 * b + 5) (2 ^ 51 * f) * 2 ^ 58) (scaled-den E (2 ^ 51) f)
    (upper (2 ^ 58) (2 ^ 51) (4 * (b + 1)) (4 * b + 5) _ _ _ (rest_step f (b + 1)) (2 * (E * (f * f))) (lit< tt) (steep (2 ^ 51) (4 * (b + 1)) (4 * b + 5) (2 ^ 51 * f) (omega arith) (wide f (4 * b + 5) hf (omega arith))) (rest_step_near f (b + 1) hf (omega arith)).over (room (4 * (b + 1)) (4 * b + 5) (omega arith) (omega arith)) t))
  where
    room : (m n : ℕ) → m + 1 ≡ n → 2 ^ 49 ≤ n → 18 * (2 ^ 51 * 2 ^ 51) + 5 * (m * m * 2 ^ 58) ≤ 5 * (n * n * 2 ^ 58)
    room m n e h = omega (arith, ap (λ t. t * n) e, ap (λ t. t * m) e)

pub upper_encloses : (X E f : ℕ) → 0 < f → X + E ≡ 2 ^ 58 → 2 ^ 54 ≤ E * (f * f) → Encloses X f (upper_steps E f)
unfolding fits_in
upper_encloses X E f hf e hE = go (upper_steps E f) (upper_found E f hE)
  where
    go : (b : ℕ) → Found last_step (fits_in E f) b → Encloses X f b
    go b r =
        let l = at_least E f b hE r in
        record {
          least = l;
          within = r.within;
          high = λ n h. le_trans (high_at X E f b hf e l r.within (leb→le (rest_step f b) (2 * (E * (f * f))) r.passes)) (mul-le-mul_right (2 ^ 58) (cosine_falls n (4 * b - 1) (2 ^ 51 * f) (omega arith) (wide f (4 * b - 1) hf (omega (arith, r.within)))));
          low = λ h n k m. le_trans (mul-le-mul_right (2 ^ 58) (cosine_falls (4 * b + 5) n (2 ^ 51 * f) k m)) (low_at X E f b hf e l h (le_of_lt (nleb→lt (rest_step f (b + 1)) (2 * (E * (f * f))) (r.next h))));
        }

-- ---- where f is not 1 the last step of the grid is never reached
num-at_least : (zn zd : ℕ) (cs : List ℕ) → 3 * zn ≤ 2 * zd → 17 * den zd (12 ∷ cs) ≤ 18 * num zn zd (12 ∷ cs)
unfolding num den
num-at_least zn zd cs h = go (den zd cs) (num zn zd cs) (num-le-den zn zd cs)
  where
    go : (D N : ℕ) → N ≤ D → 17 * (12 * (zd * D)) ≤ 18 * (12 * (zd * D) - zn * N)
    go D N l = part (zn * N) (mul-le-mul_left zn l) (mul-le-mul_right D h)
      where
        part : (x : ℕ) → x ≤ zn * D → 3 * zn * D ≤ 2 * zd * D → 17 * (12 * (zd * D)) ≤ 18 * (12 * (zd * D) - x)
        part x j k = omega arith

rest-at_least : (n e d : ℕ) → 3 * (n * n) ≤ 2 * (d * d) → 17 * (n * n * rest_den e d) ≤ 18 * (e * e * rest_num n d)
unfolding rest_num rest_den cosine_divisors
rest-at_least n e d h = go (e * e) (n * n) _ _ (num-at_least (n * n) (d * d) (30 ∷ 56 ∷ 90 ∷ 132 ∷ 182 ∷ 240 ∷ 306 ∷ 380 ∷ []) h)
  where
    go : (z y D N : ℕ) → 17 * D ≤ 18 * N → 17 * (y * (z * D)) ≤ 18 * (z * (y * N))
    go z y D N k = omega (arith, mul-le-mul_left (z * y) k)

rest_top : (f : ℕ) → 0 < f → 2 ^ 57 < rest_step f last_step
rest_top f hf = go (rest_step f last_step) (le_of_mul-le-mul_right (sums (rest_num (4 * last_step) (2 ^ 51 * f)) (rest_den (2 ^ 51) (2 ^ 51 * f)) (rest_step f last_step) (rest-at_least (4 * last_step) (2 ^ 51) (2 ^ 51 * f) (squares (f * f) (mul-pos hf hf))) (rest_step_near f last_step hf (omega arith)).under) (rest_proper f hf))
  where
    squares : (y : ℕ) → 1 ≤ y → 3 * (4 * last_step * (4 * last_step)) ≤ 2 * (2 ^ 51 * f * (2 ^ 51 * f))
    squares y k = omega (arith, mul-pos hf hf)

    sums : (N D Q : ℕ) → 17 * (4 * last_step * (4 * last_step) * D) ≤ 18 * (2 ^ 51 * 2 ^ 51 * N) → N * 2 ^ 58 ≤ Q * D + 5 * D → 17 * (4 * last_step * (4 * last_step)) * D ≤ 18 * (2 ^ 44 * (Q + 5)) * D
    sums N D Q h k = omega arith

    go : (Q : ℕ) → 17 * (4 * last_step * (4 * last_step)) ≤ 18 * (2 ^ 44 * (Q + 5)) → 2 ^ 57 < Q
    go Q h = omega arith

pub upper_below_top : (E f : ℕ) → 0 < f → 2 ^ 54 ≤ E * (f * f) → E * (f * f) ≤ 2 ^ 56 → upper_steps E f < last_step
unfolding fits_in
upper_below_top E f hf hE l = go (upper_steps E f) (upper_found E f hE)
  where
    go : (b : ℕ) → Found last_step (fits_in E f) b → b < last_step
    go b r = less (eq-or-lt_of_le r.within) (leb→le (rest_step f b) (2 * (E * (f * f))) r.passes)
      where
        less : (b ≡ last_step) ⊎ (b < last_step) → rest_step f b ≤ 2 * (E * (f * f)) → b < last_step
        less (inl e) k = let t = rest_top f hf in let u = ap (rest_step f) e in omega arith
        less (inr h) k = h

pub record Scaled (E f : ℕ) : Type 0 where
  pub positive : 0 < f
  pub enough : 2 ^ 54 ≤ E * (f * f)
  pub tight : (f ≡ 1) ⊎ (E * (f * f) ≤ 2 ^ 56)

scaled_from : (k E f : ℕ) → 0 < f → 2 ^ 54 ≤ E * (f * f) * 4 ^ k → (f ≡ 1) ⊎ (E * (f * f) ≤ 2 ^ 56) → Scaled E (scale_from k E f)
unfolding scale_from
scaled_from zero E f hf h t = record { positive = hf; enough = omega arith; tight = t }
scaled_from (suc k) E f hf h t = go (leb (2 ^ 54) (E * (f * f))) (leb→le (2 ^ 54) (E * (f * f))) (nleb→lt (2 ^ 54) (E * (f * f))) (λ a b c. scaled_from k E (2 * f) a b c)
  where
    more : (p : ℕ) → 4 ^ suc k ≡ 4 * p → 2 ^ 54 ≤ E * (f * f) * 4 ^ suc k → 2 ^ 54 ≤ E * (2 * f * (2 * f)) * p
    more p e h = omega (arith, ap (λ u. E * (f * f) * u) e)

    go : (u : Bool) → (T u → 2 ^ 54 ≤ E * (f * f)) → (T (not u) → E * (f * f) < 2 ^ 54) → (0 < 2 * f → 2 ^ 54 ≤ E * (2 * f * (2 * f)) * 4 ^ k → (2 * f ≡ 1) ⊎ (E * (2 * f * (2 * f)) ≤ 2 ^ 56) → Scaled E (scale_from k E (2 * f))) → Scaled E (cond u f (scale_from k E (2 * f)))
    go true a b r = record { positive = hf; enough = a tt; tight = t }
    go false a b r = let l = b tt in r (omega arith) (more (4 ^ k) (pow-succ' 4 k) h) (inr (omega arith))

pub scaled : (E : ℕ) → 0 < E → Scaled E (scale E)
unfolding scale
scaled E h = scaled_from 27 E 1 (omega arith) (omega arith) (inl refl)

-- ---- the certificate by one evaluation: the slope is 2 b (1 - z / 6) but for 8 units
steep_sharp : (e m n w d : ℕ) → m * m + w ≡ n * n → n ≤ d
    → 12 * (d * d) * (e * e * rest_num m d) + 12 * (d * d) * (w * rest_den e d) ≤ 12 * (d * d) * (e * e * rest_num n d) + w * (m * m + n * n) * rest_den e d
unfolding rest_num rest_den cosine_divisors
steep_sharp e m n w d h k = times (e * e) (12 * (d * d)) _ _ w (m * m + n * n) (den (d * d) cosine_divisors) (climb_sharp (d * d) (m * m) (n * n) w (30 ∷ 56 ∷ 90 ∷ 132 ∷ 182 ∷ 240 ∷ 306 ∷ 380 ∷ []) h (mul-le-mul k k) cos_tail)
  where
    times : (z t p q w v D : ℕ) → t * p + t * (w * D) ≤ t * q + w * v * D → t * (z * p) + t * (w * (z * D)) ≤ t * (z * q) + w * v * (z * D)
    times z t p q w v D h = omega (arith, mul-le-mul_left z h)

-- P and Q are the values at m and at n, where s * N - s * M is at least (a - c) * D
climbs_sharp : (S s a c M N D P Q : ℕ) → 0 < D → s * M + a * D ≤ s * N + c * D → P * D ≤ M * S + 3 * D → N * S ≤ Q * D + 5 * D → s * P + a * S ≤ s * (Q + 8) + c * S
climbs_sharp S s a c M N D P Q hD h f g = le_of_mul-le-mul_right {k = D} (go h f g) hD
  where
    go : s * M + a * D ≤ s * N + c * D → P * D ≤ M * S + 3 * D → N * S ≤ Q * D + 5 * D → (s * P + a * S) * D ≤ (s * (Q + 8) + c * S) * D
    go h f g = omega (arith, mul-le-mul_left S h, mul-le-mul_left s f, mul-le-mul_left s g)

-- the powers of two taken out: e ^ 2 is q * S and 256 * r
shrink : (S K s a c₀ c h m v P Q : ℕ) → 0 < K → s ≡ K * (12 * c) → a * S ≡ K * (12 * (h * m)) → c₀ * S ≡ K * (m * v) → s * P + a * S ≤ s * (Q + 8) + c₀ * S → 12 * (c * P) + 12 * (h * m) ≤ 12 * (c * (Q + 8)) + m * v
shrink S K s a c₀ c h m v P Q hK e₁ e₂ e₃ k = le_of_mul-le-mul_left {k = K} (go (a * S) (c₀ * S) e₂ e₃ k) hK
  where
    go : (x y : ℕ) → x ≡ K * (12 * (h * m)) → y ≡ K * (m * v) → s * P + x ≤ s * (Q + 8) + y → K * (12 * (c * P) + 12 * (h * m)) ≤ K * (12 * (c * (Q + 8)) + m * v)
    go x y f g k = omega (arith, ap (λ t. t * P) e₁, ap (λ t. t * (Q + 8)) e₁)

scale_s : (S z F q r : ℕ) → z ≡ q * S → z ≡ 256 * r → 12 * (z * F) * z ≡ 256 * S * (12 * (r * F * q))
scale_s S z F q r h k = ap (λ t. 12 * (z * F) * t) h ∙ ap (λ t. 12 * (t * F) * (q * S)) k ∙ go
  where
    go : 12 * (256 * r * F) * (q * S) ≡ 256 * S * (12 * (r * F * q))
    go = omega arith

scale_a : (S z F r m : ℕ) → z ≡ 256 * r → 12 * (z * F) * (16 * m) * S ≡ 256 * S * (12 * (16 * (r * F) * m))
scale_a S z F r m k = ap (λ t. 12 * (t * F) * (16 * m) * S) k ∙ go
  where
    go : 12 * (256 * r * F) * (16 * m) * S ≡ 256 * S * (12 * (16 * (r * F) * m))
    go = omega arith

scale_c : (S b : ℕ) → 16 * (2 * b + 1) * (4 * b * (4 * b) + 4 * (b + 1) * (4 * (b + 1))) * S ≡ 256 * S * ((2 * b + 1) * (2 * (b * b) + 2 * b + 1))
scale_c S b = omega arith

-- at any scale S with steps of 4 / e
sharp_at : (S e f q r b P Q : ℕ) → 0 < S → 0 < rest_den e (e * f) → e * e ≡ q * S → e * e ≡ 256 * r → 4 * (b + 1) ≤ e * f
    → P * rest_den e (e * f) ≤ rest_num (4 * b) (e * f) * S + 3 * rest_den e (e * f) → rest_num (4 * (b + 1)) (e * f) * S ≤ Q * rest_den e (e * f) + 5 * rest_den e (e * f)
    → 12 * (r * (f * f) * q * P) + 12 * (16 * (r * (f * f)) * (2 * b + 1)) ≤ 12 * (r * (f * f) * q * (Q + 8)) + (2 * b + 1) * (2 * (b * b) + 2 * b + 1)
sharp_at S e f q r b P Q hS hD h k l x y =
    shrink S (256 * S) (12 * (e * e * (f * f)) * (e * e)) (12 * (e * e * (f * f)) * (16 * (2 * b + 1))) (16 * (2 * b + 1) * (4 * b * (4 * b) + 4 * (b + 1) * (4 * (b + 1)))) (r * (f * f) * q) (16 * (r * (f * f))) (2 * b + 1) (2 * (b * b) + 2 * b + 1) P Q (mul-pos {m = 256} (omega arith) hS)
    (scale_s S (e * e) (f * f) q r h k) (scale_a S (e * e) (f * f) r (2 * b + 1) k) (scale_c S b)
    (climbs_sharp S (12 * (e * e * (f * f)) * (e * e)) (12 * (e * e * (f * f)) * (16 * (2 * b + 1))) (16 * (2 * b + 1) * (4 * b * (4 * b) + 4 * (b + 1) * (4 * (b + 1)))) (rest_num (4 * b) (e * f)) (rest_num (4 * (b + 1)) (e * f)) (rest_den e (e * f)) P Q hD
    (shape (12 * (e * f * (e * f))) (12 * (e * e * (f * f))) (e * e) (16 * (2 * b + 1)) _ _ _ _ (omega arith) (steep_sharp e (4 * b) (4 * (b + 1)) (16 * (2 * b + 1)) (e * f) (omega arith) l)) x y)
  where
    shape : (t u z w v M N D : ℕ) → t ≡ u → t * (z * M) + t * (w * D) ≤ t * (z * N) + w * v * D → u * z * M + u * w * D ≤ u * z * N + w * v * D
    shape t u z w v M N D e h = turn (subst (λ t. t * (z * M) + t * (w * D) ≤ t * (z * N) + w * v * D) e h)
      where
        turn : u * (z * M) + u * (w * D) ≤ u * (z * N) + w * v * D → u * z * M + u * w * D ≤ u * z * N + w * v * D
        turn h = omega (arith, h)

-- y is 2 ^ 40 * f ^ 2
rest_step_sharp : (f b : ℕ) → 0 < f → b ≤ last_step → let y = 2 ^ 40 * (f * f) in
    12 * (2 ^ 98 * y * rest_step f b) + 12 * (2 ^ 58 * y * (2 * b + 1)) ≤ 12 * (2 ^ 98 * y * (rest_step f (b + 1) + 8)) + (2 * b + 1) * (2 * (b * b) + 2 * b + 1)
rest_step_sharp f b hf h =
    subst₂ (λ c h. 12 * (c * rest_step f b) + 12 * (h * (2 * b + 1)) ≤ 12 * (c * (rest_step f (b + 1) + 8)) + (2 * b + 1) * (2 * (b * b) + 2 * b + 1)) (apart (2 ^ 94) (f * f) (2 ^ 44) ∙ sym (together (2 ^ 98) (2 ^ 40) (f * f))) (together 16 (2 ^ 94) (f * f) ∙ sym (together (2 ^ 58) (2 ^ 40) (f * f)))
    (sharp_at (2 ^ 58) (2 ^ 51) f (2 ^ 44) (2 ^ 94) b (rest_step f b) (rest_step f (b + 1)) (lit< tt) (rest_proper f hf) refl refl (wide f (4 * (b + 1)) hf (omega arith)) (rest_step_near f b hf (omega arith)).over (rest_step_near f (b + 1) hf (omega arith)).under)
  where
    apart : (r F q : ℕ) → r * F * q ≡ F * (r * q)
    apart r F q = omega arith

    together : (p q F : ℕ) → p * (q * F) ≡ F * (p * q)
    together p q F = omega arith

square_low : (s Z' Z F : ℕ) → 0 < F → Z' ≡ 262144 * s / 2 ^ 58 → Z ≡ Z' / F → s ≤ 2 ^ 40 * F * Z + 2 ^ 40 * F
square_low s Z' Z F hF e f = go (Z' / F) f (lt-div-mul-add {a = Z'} {b = F} hF)
  where
    go : (Q : ℕ) → Z ≡ Q → Z' < Q * F + F → s ≤ 2 ^ 40 * F * Z + 2 ^ 40 * F
    go Q g h = omega (arith, ap (λ t. t * F) g)

slope_low : (y b K Z q : ℕ) → 2 ^ 97 * q ≤ b * K → 6 * K + Z ≤ 6 * 2 ^ 58 + 5 → b * b ≤ y * Z + y → 12 * (2 ^ 98 * (y * q)) + 4 * (b * (b * b)) ≤ 24 * (2 ^ 58 * (y * b)) + 24 * (y * b)
slope_low y b K Z q h k l = omega (arith, mul-le-mul_left (24 * y) h, mul-le-mul_left (4 * y * b) k, mul-le-mul_left (4 * b) l)

small_part : (y b : ℕ) → b ≤ 2 ^ 49 → 2 ^ 40 ≤ y → 24 * (y * b) + 6 * (b * b) + 4 * b + 1 ≤ 12 * (2 ^ 58 * y)
small_part y b h k = omega (arith, mul-le-mul_left y h, mul-le-mul h h)

weigh : (y b P Q q : ℕ) → 12 * (2 ^ 98 * y * P) + 12 * (2 ^ 58 * y * (2 * b + 1)) ≤ 12 * (2 ^ 98 * y * (Q + 8)) + (2 * b + 1) * (2 * (b * b) + 2 * b + 1) → 12 * (2 ^ 98 * (y * q)) + 4 * (b * (b * b)) ≤ 24 * (2 ^ 58 * (y * b)) + 24 * (y * b)
    → 24 * (y * b) + 6 * (b * b) + 4 * b + 1 ≤ 12 * (2 ^ 58 * y) → y * (P + q) ≤ y * (Q + 8)
weigh y b P Q q f g h = omega arith

-- where E is not nearer to the next step's value than 9 units by the slope at this one, it is below the next step's value
pub certified : (f b E Z : ℕ) → 0 < f → b ≤ last_step → Z ≡ 512 * b * (512 * b) / 2 ^ 58 / (f * f) → Z ≤ 2 ^ 58 → E + 9 ≤ rest_step f b + 512 * b * (2 ^ 58 - Z / 6) / 2 ^ 58 / 2 ^ 48 → E < rest_step f (b + 1)
certified f b E Z hf hb e hZ h =
    go (rest_step f b) (rest_step f (b + 1)) (512 * b * (2 ^ 58 - Z / 6) / 2 ^ 58 / 2 ^ 48)
    (le_of_mul-le-mul_left {k = y} (weigh y b (rest_step f b) (rest_step f (b + 1)) (512 * b * (2 ^ 58 - Z / 6) / 2 ^ 58 / 2 ^ 48) (rest_step_sharp f b hf hb)
    (slope_low y b (2 ^ 58 - Z / 6) Z _ (quotient (2 ^ 58 - Z / 6)) (omega arith) (square_low (b * b) (512 * b * (512 * b) / 2 ^ 58) Z (f * f) (mul-pos hf hf) (ap (λ t. t / 2 ^ 58) (squared b)) e))
    (small_part y b (omega arith) (mul-le-mul_left (2 ^ 40) (mul-pos hf hf)))) (mul-pos {m = 2 ^ 40} (lit< tt) (mul-pos hf hf))) h
  where
    y : ℕ
    y = 2 ^ 40 * (f * f)

    squared : (b : ℕ) → 512 * b * (512 * b) ≡ 262144 * (b * b)
    squared b = omega arith

    quotient : (K : ℕ) → 2 ^ 97 * (512 * b * K / 2 ^ 58 / 2 ^ 48) ≤ b * K
    quotient K = omega arith

    go : (P Q q : ℕ) → P + q ≤ Q + 8 → E + 9 ≤ P + q → E < Q
    go P Q q i j = omega arith
