-- The arctangent's first octant: the two angles around the greatest step, 4 A - 1 and 4 A + 5 over 2 ^ 51, have the sign's change between them.
use mathlib.Core.Path.{◌≡◌, refl, sym, subst}
use mathlib.Core.List.{◌∷◌}
use Prim.Native.Nat.{ℕ, zero, suc, ◌+◌, ◌*◌, ◌-◌, ◌^◌, ◌/◌, ◌≤◌, ◌<◌}
use native.Mathlib.Nat.{mul-le-mul, mul-le-mul_left, mul-le-mul_right, le_trans, div-mul-le_self, lt-div-mul-add, le_of_lt, le_of_mul-le-mul_left, le_of_mul-le-mul_right, div-le_of_le-mul, zero-mul}
use native.Mathlib.Omega.{arith}
use lib.Dec.{T, leb→le, nleb→lt, le→leb, lit<, lit≤}
use Rattle.trigonometry.specs.Taylor.{sine_divisors, cosine_divisors, sine_num, sine_den, cosine_num, cosine_den}
use Rattle.trigonometry.specs.Units.{horner, square, sine_units, cosine_units}
use Rattle.trigonometry.proofs.Horner.{num-le-den}
use Rattle.trigonometry.proofs.Rise.{cosine_falls, cosine_falls_by}
use Rattle.trigonometry.proofs.Reduced.{cosine_proper}
use Rattle.grid.specs.Search.{Found}
use Rattle.grid.specs.Grid.{last_step, sine_step, cosine_step}
use Rattle.grid.specs.Arctangent.{not_above, arctangent_steps}
use Rattle.grid.proofs.Searching.{found, found_is}
use Rattle.grid.proofs.Steps.{sine_at_zero, steep_at, sine_step_near, cosine_step_near, sine_step_climbs, sine_step_sharp}

-- ---- what the test says of the products
whole_le : (x y : ℕ) → x / 2 ^ 58 ≤ y / 2 ^ 58 → x ≤ y + 2 ^ 58
whole_le x y h = omega arith

whole-horner : (x y : ℕ) → x ≤ y → x / 2 ^ 58 ≤ y / 2 ^ 58
whole-horner x y h = omega arith

whole-lt : (x y : ℕ) → y / 2 ^ 58 < x / 2 ^ 58 → y ≤ x
whole-lt x y h = omega arith

-- ---- the cosine of a step is not more than 5 units above that of the step before
falls : (O M N E P Q : ℕ) → 0 < E → N ≤ M → M * O ≤ P * E + 2 * E → Q * E ≤ N * O + 3 * E → Q ≤ P + 5
falls O M N E P Q hE h f g = le_of_mul-le-mul_right {k = E} (go (mul-le-mul_right O h)) hE
  where
    go : N * O ≤ M * O → Q * E ≤ (P + 5) * E
    go i = omega arith

pub cosine_step_falls : (A : ℕ) → A ≤ last_step → cosine_step (A + 1) ≤ cosine_step A + 5
cosine_step_falls A h =
    falls (2 ^ 58) (cosine_num (4 * A) (2 ^ 51)) (cosine_num (4 * (A + 1)) (2 ^ 51)) (cosine_den (2 ^ 51)) _ _ (cosine_proper (2 ^ 51) (lit< tt)) (cosine_falls (4 * A) (4 * (A + 1)) (2 ^ 51) (omega arith) (omega arith))
    (cosine_step_near A (omega arith)).under (cosine_step_near (A + 1) (omega arith)).over

-- ---- the test passes below where it passes
pub not_above_falls : (U W : ℕ) → 2 ^ 57 ≤ U → W ≤ U → (A : ℕ) → A < last_step → T (not_above U W (A + 1)) → T (not_above U W A)
unfolding not_above
not_above_falls U W hU hW A h t =
    le→leb (U * sine_step A / 2 ^ 58) (W * cosine_step A / 2 ^ 58)
    (whole-horner _ _ (go (sine_step A) (sine_step (A + 1)) (cosine_step A) (cosine_step (A + 1)) (sine_step_climbs A (omega arith)) (cosine_step_falls A (omega arith)) (whole_le _ _ (leb→le (U * sine_step (A + 1) / 2 ^ 58) (W * cosine_step (A + 1) / 2 ^ 58) t))))
  where
    go : (s s' c c' : ℕ) → s + 247 ≤ s' → c' ≤ c + 5 → U * s' ≤ W * c' + 2 ^ 58 → U * s ≤ W * c
    go s s' c c' i j k = omega (arith, mul-le-mul_left U i, mul-le-mul_left W j)

not_above-zero : (U W : ℕ) → T (not_above U W 0)
unfolding not_above
not_above-zero U W = rw sine_at_zero (le→leb (U * 0 / 2 ^ 58) (W * cosine_step 0 / 2 ^ 58) (le_trans (whole-horner (U * 0) 0 (omega arith)) (omega arith)))

pub arctangent_found : (U W : ℕ) → Found last_step (not_above U W) (arctangent_steps U W)
unfolding arctangent_steps
arctangent_found U W = found 49 last_step (not_above U W) (not_above-zero U W) (lit< tt)

-- whatever step passes the check is the arctangent_steps
pub arctangent_is : (U W : ℕ) → 2 ^ 57 ≤ U → W ≤ U → (A : ℕ) → Found last_step (not_above U W) A → A ≡ arctangent_steps U W
unfolding arctangent_steps
arctangent_is U W hU hW A r = found_is 49 last_step (not_above U W) (not_above_falls U W hU hW) (not_above-zero U W) (lit< tt) A r

-- ---- the sign changes: for W the whole part of p / q, p / q * cos lo ≥ U * sin lo and p / q * cos hi ≤ U * sin hi, at angles of n / 2 ^ 51
chain_low : (x t y s r v c c' w : ℕ) → 2 * x + 128 * t ≤ 2 * y → y ≤ s + 5 * t → s ≤ r + v → r ≤ c + 3 * w → c ≤ c' → w ≤ t → v ≤ 2 * t → x ≤ c'
chain_low x t y s r v c c' w f₁ f₂ f₃ f₄ f₅ f₆ f₇ = omega arith

low : (O U W S C N M c c' D E : ℕ) → 0 < O → O ≤ 2 * U → W ≤ U → U * S ≤ W * C + O → 2 * (O * M) + 128 * D ≤ 2 * (O * N) → N * O ≤ S * D + 5 * D → C * E ≤ c * O + 3 * E → c ≤ c'
    → U * M * E ≤ W * c' * D
low O U W S C N M c c' D E hO hU hW i j k l h =
    le_of_mul-le-mul_left {k = O}
    (chain_low (O * (U * M * E)) (U * (D * E)) (O * (U * N * E)) (U * S * (D * E)) (W * C * (D * E)) (O * (D * E)) (O * (W * c * D)) (O * (W * c' * D)) (W * (D * E))
    (a₁ (mul-le-mul_left (U * E) j)) (a₂ (mul-le-mul_left (U * E) k)) (a₃ (mul-le-mul_right (D * E) i)) (a₄ (mul-le-mul_left (W * D) l)) (a₅ (mul-le-mul_left (O * W * D) h)) (mul-le-mul_right (D * E) hW) (a₇ (mul-le-mul_right (D * E) hU)))
    hO
  where
    a₁ : U * E * (2 * (O * M) + 128 * D) ≤ U * E * (2 * (O * N)) → 2 * (O * (U * M * E)) + 128 * (U * (D * E)) ≤ 2 * (O * (U * N * E))
    a₁ f = omega (arith, f)

    a₂ : U * E * (N * O) ≤ U * E * (S * D + 5 * D) → O * (U * N * E) ≤ U * S * (D * E) + 5 * (U * (D * E))
    a₂ f = omega (arith, f)

    a₃ : U * S * (D * E) ≤ (W * C + O) * (D * E) → U * S * (D * E) ≤ W * C * (D * E) + O * (D * E)
    a₃ f = omega (arith, f)

    a₄ : W * D * (C * E) ≤ W * D * (c * O + 3 * E) → W * C * (D * E) ≤ O * (W * c * D) + 3 * (W * (D * E))
    a₄ f = omega (arith, f)

    a₅ : O * W * D * c ≤ O * W * D * c' → O * (W * c * D) ≤ O * (W * c' * D)
    a₅ f = omega (arith, f)

    a₇ : O * (D * E) ≤ 2 * U * (D * E) → O * (D * E) ≤ 2 * (U * (D * E))
    a₇ f = omega (arith, f)

chain_high : (x t y s r v c c' w g : ℕ) → 2 * y + 128 * t ≤ 2 * x → s ≤ y + 4 * t → r ≤ s → c ≤ r + 2 * w → c' ≤ c → w ≤ t → v ≤ 2 * t → g ≤ v → c' + g ≤ x
chain_high x t y s r v c c' w g f₁ f₂ f₃ f₄ f₅ f₆ f₇ f₈ = omega arith

high : (O U W S C M N c c' D E : ℕ) → 0 < O → O ≤ 2 * U → W ≤ U → W * C ≤ U * S → 2 * (O * M) + 128 * D ≤ 2 * (O * N) → S * D ≤ M * O + 4 * D → c * O ≤ C * E + 2 * E → c' ≤ c → c' ≤ E
    → W * c' * D + c' * D ≤ U * N * E
high O U W S C M N c c' D E hO hU hW i j k l h m =
    le_of_mul-le-mul_left {k = O} (le_trans (omega arith)
    (chain_high (O * (U * N * E)) (U * (D * E)) (O * (U * M * E)) (U * S * (D * E)) (W * C * (D * E)) (O * (D * E)) (O * (W * c * D)) (O * (W * c' * D)) (W * (D * E)) (O * (c' * D))
    (a₁ (mul-le-mul_left (U * E) j)) (a₂ (mul-le-mul_left (U * E) k)) (mul-le-mul_right (D * E) i) (a₄ (mul-le-mul_left (W * D) l)) (a₅ (mul-le-mul_left (O * W * D) h)) (mul-le-mul_right (D * E) hW) (a₇ (mul-le-mul_right (D * E) hU)) (a₈ (mul-le-mul_left (O * D) m))))
    hO
  where
    a₁ : U * E * (2 * (O * M) + 128 * D) ≤ U * E * (2 * (O * N)) → 2 * (O * (U * M * E)) + 128 * (U * (D * E)) ≤ 2 * (O * (U * N * E))
    a₁ f = omega (arith, f)

    a₂ : U * E * (S * D) ≤ U * E * (M * O + 4 * D) → U * S * (D * E) ≤ O * (U * M * E) + 4 * (U * (D * E))
    a₂ f = omega (arith, f)

    a₄ : W * D * (c * O) ≤ W * D * (C * E + 2 * E) → O * (W * c * D) ≤ W * C * (D * E) + 2 * (W * (D * E))
    a₄ f = omega (arith, f)

    a₅ : O * W * D * c' ≤ O * W * D * c → O * (W * c' * D) ≤ O * (W * c * D)
    a₅ f = omega (arith, f)

    a₇ : O * (D * E) ≤ 2 * U * (D * E) → O * (D * E) ≤ 2 * (U * (D * E))
    a₇ f = omega (arith, f)

    a₈ : O * D * c' ≤ O * D * E → O * (c' * D) ≤ O * (D * E)
    a₈ f = omega (arith, f)

-- ---- at the grid's points
abbrev D : ℕ
D = sine_den (2 ^ 51)

abbrev E : ℕ
E = cosine_den (2 ^ 51)

next : (m M N D : ℕ) → 2 * (2 ^ 58 * M) + 128 * (m + 1) * D ≤ 2 * (2 ^ 58 * N) + 128 * m * D → 2 * (2 ^ 58 * M) + 128 * D ≤ 2 * (2 ^ 58 * N)
next m M N D h = omega arith

steep_next : (m : ℕ) → m + 1 ≤ 2 ^ 51 → 2 * (2 ^ 58 * sine_num m (2 ^ 51)) + 128 * sine_den (2 ^ 51) ≤ 2 * (2 ^ 58 * sine_num (m + 1) (2 ^ 51))
steep_next m h = next m (sine_num m (2 ^ 51)) (sine_num (m + 1) (2 ^ 51)) (sine_den (2 ^ 51)) (steep_at m (m + 1) (omega arith) h)

sine_num-zero : (d : ℕ) → sine_num 0 d ≡ 0
unfolding sine_num
sine_num-zero d = zero-mul _

cosine_num-le : (n d : ℕ) → cosine_num n d ≤ cosine_den d
unfolding cosine_num cosine_den
cosine_num-le n d = num-le-den (n * n) (d * d) (2 ∷ cosine_divisors)

-- p / q * cos is not below U * sin at n / 2 ^ 51
abbrev pub NotBelow : ℕ → ℕ → ℕ → ℕ → Type 0
NotBelow U p q n = U * q * sine_num n (2 ^ 51) * cosine_den (2 ^ 51) ≤ p * cosine_num n (2 ^ 51) * sine_den (2 ^ 51)

abbrev pub NotAbove : ℕ → ℕ → ℕ → ℕ → Type 0
NotAbove U p q n = p * cosine_num n (2 ^ 51) * sine_den (2 ^ 51) ≤ U * q * sine_num n (2 ^ 51) * cosine_den (2 ^ 51)

low_times : (U W p q M E c D : ℕ) → W * q ≤ p → U * M * E ≤ W * c * D → U * q * M * E ≤ p * c * D
low_times U W p q M E c D h k = go (mul-le-mul_right q k) (mul-le-mul_right (c * D) h)
  where
    go : U * M * E * q ≤ W * c * D * q → W * q * (c * D) ≤ p * (c * D) → U * q * M * E ≤ p * c * D
    go i j = omega arith

high_times : (U W p q N E c D : ℕ) → p ≤ W * q + q → W * c * D + c * D ≤ U * N * E → p * c * D ≤ U * q * N * E
high_times U W p q N E c D h k = go (mul-le-mul_right q k) (mul-le-mul_right (c * D) h)
  where
    go : (W * c * D + c * D) * q ≤ U * N * E * q → p * (c * D) ≤ (W * q + q) * (c * D) → p * c * D ≤ U * q * N * E
    go i j = omega arith

low_at : (U W p q : ℕ) → 2 ^ 57 ≤ U → W ≤ U → W * q ≤ p → (A : ℕ) → A ≤ last_step → U * sine_step A ≤ W * cosine_step A + 2 ^ 58 → NotBelow U p q (4 * A - 1)
low_at U W p q hU hW h zero k l = rw sine_num-zero (omega arith)
low_at U W p q hU hW h (suc B) k l =
    low_times U W p q _ _ _ _ h
    (low (2 ^ 58) U W (sine_step (suc B)) (cosine_step (suc B)) (sine_num (4 * suc B) (2 ^ 51)) (sine_num (4 * suc B - 1) (2 ^ 51)) (cosine_num (4 * suc B) (2 ^ 51)) (cosine_num (4 * suc B - 1) (2 ^ 51)) (sine_den (2 ^ 51)) (cosine_den (2 ^ 51)) (lit< tt) (omega arith) hW l
    (subst (λ t. 2 * (2 ^ 58 * sine_num (4 * suc B - 1) (2 ^ 51)) + 128 * sine_den (2 ^ 51) ≤ 2 * (2 ^ 58 * sine_num t (2 ^ 51))) (omega arith) (steep_next (4 * suc B - 1) (omega arith)))
    (sine_step_near (suc B) (omega arith)).under (cosine_step_near (suc B) (omega arith)).over (cosine_falls (4 * suc B - 1) (4 * suc B) (2 ^ 51) (omega arith) (omega arith)))

high_at : (U W p q : ℕ) → 2 ^ 57 ≤ U → W ≤ U → p ≤ W * q + q → (A : ℕ) → A < last_step → W * cosine_step (A + 1) ≤ U * sine_step (A + 1) → NotAbove U p q (4 * (A + 1) + 1)
high_at U W p q hU hW h A k l =
    high_times U W p q _ _ _ _ h
    (high (2 ^ 58) U W (sine_step (A + 1)) (cosine_step (A + 1)) (sine_num (4 * (A + 1)) (2 ^ 51)) (sine_num (4 * (A + 1) + 1) (2 ^ 51)) (cosine_num (4 * (A + 1)) (2 ^ 51)) (cosine_num (4 * (A + 1) + 1) (2 ^ 51)) (sine_den (2 ^ 51)) (cosine_den (2 ^ 51)) (lit< tt) (omega arith) hW l
    (steep_next (4 * (A + 1)) (omega arith))
    (sine_step_near (A + 1) (omega arith)).over (cosine_step_near (A + 1) (omega arith)).under (cosine_falls (4 * (A + 1)) (4 * (A + 1) + 1) (2 ^ 51) (omega arith) (omega arith)) (cosine_num-le (4 * (A + 1) + 1) (2 ^ 51)))

-- the sine at the last step is not above the cosine, so beyond it, measured back from half pi, the sign has changed too
top_values : sine_step last_step + 8 ≤ cosine_step last_step
unfolding sine_step cosine_step sine_units cosine_units square horner sine_divisors cosine_divisors
top_values = lit≤ tt

top_exact : sine_num (4 * last_step) (2 ^ 51) * cosine_den (2 ^ 51) ≤ cosine_num (4 * last_step) (2 ^ 51) * sine_den (2 ^ 51)
top_exact = go (sine_step last_step) (cosine_step last_step) (sine_num (4 * last_step) (2 ^ 51)) (sine_den (2 ^ 51)) (cosine_num (4 * last_step) (2 ^ 51)) (cosine_den (2 ^ 51)) top_values (sine_step_near last_step (omega arith)).under (cosine_step_near last_step (omega arith)).over
  where
    go : (s c N D n E : ℕ) → s + 8 ≤ c → N * 2 ^ 58 ≤ s * D + 5 * D → c * E ≤ n * 2 ^ 58 + 3 * E → N * E ≤ n * D
    go s c N D n E h f g = omega (arith, mul-le-mul_right E f, mul-le-mul_right D g, mul-le-mul_right (D * E) h)

pub record Changes (U p q A : ℕ) : Type 0 where
  pub within : A ≤ last_step
  pub low : NotBelow U p q (4 * A - 1)
  pub high : A < last_step → NotAbove U p q (4 * A + 5)
  pub top : A ≡ last_step → p * sine_num (4 * A) (2 ^ 51) * cosine_den (2 ^ 51) ≤ U * q * cosine_num (4 * A) (2 ^ 51) * sine_den (2 ^ 51)

pub arctangent_changes : (U p q : ℕ) → 0 < q → 2 ^ 57 ≤ U → p ≤ U * q → Changes U p q (arctangent_steps U (p / q))
unfolding not_above
arctangent_changes U p q hq hU hp =
    go (p / q) (arctangent_steps U (p / q)) (div-le_of_le-mul q (omega arith)) (div-mul-le_self p q) (le_of_lt (lt-div-mul-add {a = p} {b = q} hq)) (arctangent_found U (p / q))
  where
    go : (W A : ℕ) → W ≤ U → W * q ≤ p → p ≤ W * q + q → Found last_step (not_above U W) A → Changes U p q A
    go W A hW h k r =
        record {
          within = r.within;
          low = low_at U W p q hU hW h A r.within (whole_le _ _ (leb→le (U * sine_step A / 2 ^ 58) (W * cosine_step A / 2 ^ 58) r.passes));
          high = λ l. subst (λ t. NotAbove U p q t) (omega arith) (high_at U W p q hU hW k A l (whole-lt _ _ (nleb→lt (U * sine_step (A + 1) / 2 ^ 58) (W * cosine_step (A + 1) / 2 ^ 58) (r.next l))));
          top = λ e. subst (λ t. p * sine_num (4 * t) (2 ^ 51) * cosine_den (2 ^ 51) ≤ U * q * cosine_num (4 * t) (2 ^ 51) * sine_den (2 ^ 51)) (sym e) (at_top _ _ _ _ top_exact);
        }
      where
        at_top : (N E n D : ℕ) → N * E ≤ n * D → p * N * E ≤ U * q * n * D
        at_top N E n D f = omega (arith, mul-le-mul hp f)

-- ---- the certificate by one evaluation
drops : (O z x y M N E P Q : ℕ) → 0 < E → 12 * z * N + 5 * (y * E) ≤ 12 * z * M + 5 * (x * E) → M * O ≤ P * E + 2 * E → Q * E ≤ N * O + 3 * E → 12 * z * Q + 5 * (y * O) ≤ 12 * z * P + 5 * (x * O) + 60 * z
drops O z x y M N E P Q hE h f g = le_of_mul-le-mul_right {k = E} (go h f g) hE
  where
    go : 12 * z * N + 5 * (y * E) ≤ 12 * z * M + 5 * (x * E) → M * O ≤ P * E + 2 * E → Q * E ≤ N * O + 3 * E → (12 * z * Q + 5 * (y * O)) * E ≤ (12 * z * P + 5 * (x * O) + 60 * z) * E
    go h f g = omega (arith, mul-le-mul_left O h, mul-le-mul_left (12 * z) f, mul-le-mul_left (12 * z) g)

-- a step's cosine is below the one before by 5 / 6 of the step times the sine's argument, but for 5 units
cosine_step_drops : (A : ℕ) → A ≤ last_step → 6 * (2 ^ 40 * cosine_step (A + 1)) + 5 * A ≤ 6 * (2 ^ 40 * cosine_step A) + 30 * 2 ^ 40
cosine_step_drops A h =
    go (cosine_step A) (cosine_step (A + 1))
    (drops (2 ^ 58) (2 ^ 51 * 2 ^ 51) (4 * A * (4 * A)) (4 * (A + 1) * (4 * (A + 1))) (cosine_num (4 * A) (2 ^ 51)) (cosine_num (4 * (A + 1)) (2 ^ 51)) (cosine_den (2 ^ 51)) _ _ (cosine_proper (2 ^ 51) (lit< tt))
    (cosine_falls_by (4 * A) (4 * (A + 1)) (2 ^ 51) (omega arith) (omega arith)) (cosine_step_near A (omega arith)).under (cosine_step_near (A + 1) (omega arith)).over)
  where
    go : (P Q : ℕ) → 12 * (2 ^ 51 * 2 ^ 51) * Q + 5 * (4 * (A + 1) * (4 * (A + 1)) * 2 ^ 58) ≤ 12 * (2 ^ 51 * 2 ^ 51) * P + 5 * (4 * A * (4 * A) * 2 ^ 58) + 60 * (2 ^ 51 * 2 ^ 51) → 6 * (2 ^ 40 * Q) + 5 * A ≤ 6 * (2 ^ 40 * P) + 30 * 2 ^ 40
    go P Q k = omega arith

-- the sine's slope K = 1 - z / 2 and the cosine's r, 5 / 6 of the argument, as the code has them
sine_part : (A Z : ℕ) → A ≤ last_step → Z ≡ 512 * A * (512 * A) / 2 ^ 58 → Z ≤ 2 ^ 58 → 2 ^ 49 * sine_step A + (2 ^ 58 - Z / 2) ≤ 2 ^ 49 * sine_step (A + 1) + 9 * 2 ^ 49 + 2048
sine_part A Z h e l = go (sine_step A) (sine_step (A + 1)) (2 ^ 58 - Z / 2) (square (A * A) Z (omega (arith, e))) (sine_step_sharp A h) (omega arith)
  where
    square : (s Z : ℕ) → Z ≡ 262144 * s / 2 ^ 58 → s ≤ 2 ^ 40 * Z + 2 ^ 40
    square s Z e = omega arith

    go : (P Q K : ℕ) → A * A ≤ 2 ^ 40 * Z + 2 ^ 40 → 2 ^ 90 * (P + 512) ≤ 2 ^ 90 * (Q + 9) + (A + 1) * (A + 1) → 2 * K + Z ≤ 2 ^ 59 + 1 → 2 ^ 49 * P + K ≤ 2 ^ 49 * Q + 9 * 2 ^ 49 + 2048
    go P Q K i j k = omega arith

cosine_part : (A r : ℕ) → A ≤ last_step → r ≡ 512 * A - 512 * A / 6 → 2 ^ 49 * cosine_step (A + 1) + r ≤ 2 ^ 49 * cosine_step A + 5 * 2 ^ 49
cosine_part A r h e = go (cosine_step A) (cosine_step (A + 1)) (cosine_step_drops A h)
  where
    go : (P Q : ℕ) → 6 * (2 ^ 40 * Q) + 5 * A ≤ 6 * (2 ^ 40 * P) + 30 * 2 ^ 40 → 2 ^ 49 * Q + r ≤ 2 ^ 49 * P + 5 * 2 ^ 49
    go P Q k = omega arith

-- their sum, over U and W: with the margin 17 the next step fails the test
weigh : (U W S S' C C' K r g h q : ℕ) → U ≤ 2 ^ 58 → W ≤ 2 ^ 58 → 2 ^ 49 * S + K ≤ 2 ^ 49 * S' + 9 * 2 ^ 49 + 2048 → 2 ^ 49 * C' + r ≤ 2 ^ 49 * C + 5 * 2 ^ 49
    → g * 2 ^ 58 ≤ U * S → W * C ≤ h * 2 ^ 58 + 2 ^ 58 → 2 ^ 58 * (2 ^ 49 * q) ≤ U * K + W * r → h + 17 ≤ g + q → W * C' + 2 ^ 58 ≤ U * S'
weigh U W S S' C C' K r g h q hU hW s c a b d k = go (mul-le-mul_left U s) (mul-le-mul_left W c)
  where
    go : U * (2 ^ 49 * S + K) ≤ U * (2 ^ 49 * S' + 9 * 2 ^ 49 + 2048) → W * (2 ^ 49 * C' + r) ≤ W * (2 ^ 49 * C + 5 * 2 ^ 49) → W * C' + 2 ^ 58 ≤ U * S'
    go i j = omega arith

slopes : (a b q x y : ℕ) → a * 2 ^ 58 ≤ x → b * 2 ^ 58 ≤ y → q ≡ (a + b) / 2 ^ 49 → 2 ^ 58 * (2 ^ 49 * q) ≤ x + y
slopes a b q x y h k e = omega arith

far_apart : (x y : ℕ) → y + 2 ^ 58 ≤ x → y / 2 ^ 58 < x / 2 ^ 58
far_apart x y h = omega arith

pub certified : (U W A Z : ℕ) → U ≤ 2 ^ 58 → W ≤ 2 ^ 58 → A ≤ last_step → Z ≡ 512 * A * (512 * A) / 2 ^ 58 → Z ≤ 2 ^ 58
    → W * cosine_step A / 2 ^ 58 + 17 ≤ U * sine_step A / 2 ^ 58 + (U * (2 ^ 58 - Z / 2) / 2 ^ 58 + W * (512 * A - 512 * A / 6) / 2 ^ 58) / 2 ^ 49
    → W * cosine_step (A + 1) / 2 ^ 58 < U * sine_step (A + 1) / 2 ^ 58
certified U W A Z hU hW hA e hZ h =
    far_apart _ _
    (weigh U W (sine_step A) (sine_step (A + 1)) (cosine_step A) (cosine_step (A + 1)) (2 ^ 58 - Z / 2) (512 * A - 512 * A / 6) (U * sine_step A / 2 ^ 58) (W * cosine_step A / 2 ^ 58) _ hU hW (sine_part A Z hA e hZ) (cosine_part A _ hA refl)
    (div-mul-le_self (U * sine_step A) (2 ^ 58)) (le_of_lt (lt-div-mul-add {a = W * cosine_step A} {b = 2 ^ 58} (lit< tt)))
    (slopes (U * (2 ^ 58 - Z / 2) / 2 ^ 58) (W * (512 * A - 512 * A / 6) / 2 ^ 58) _ _ _ (div-mul-le_self (U * (2 ^ 58 - Z / 2)) (2 ^ 58)) (div-mul-le_self (W * (512 * A - 512 * A / 6)) (2 ^ 58)) refl) h)
