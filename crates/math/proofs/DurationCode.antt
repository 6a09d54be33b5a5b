-- The order of times is that of their numbers of nanoseconds.
use Rattle.std.proofs.Common.{◌≡◌, ◌+◌, ◌*◌, ◌<◌, Bool, true, false, cond, T, eqb, ltb, arith, eqb→eq, ltb→lt, lt→ltb}
use lib.Ieee.Fits.{eq→eqb}
use Rattle.laws.proofs.Bools.{same_test}
use Rattle.math.specs.declared.duration.Duration.{Duration}
use Rattle.math.specs.Clock.{is_before}

-- where both have fewer than 10 ^ 9
pub before_is : (a b : Duration) → a.nanos < 1000000000 → b.nanos < 1000000000 → is_before a b ≡ ltb (a.secs * 1000000000 + a.nanos) (b.secs * 1000000000 + b.nanos)
unfolding is_before
before_is a b p q = go (eqb a.secs b.secs) (eqb→eq a.secs b.secs) (λ e. eq→eqb e)
  where
    go : (c : Bool) → (T c → a.secs ≡ b.secs) → (a.secs ≡ b.secs → T c) → cond c (ltb a.nanos b.nanos) (ltb a.secs b.secs) ≡ ltb (a.secs * 1000000000 + a.nanos) (b.secs * 1000000000 + b.nanos)
    go true f g = same_test (ltb a.nanos b.nanos) (ltb (a.secs * 1000000000 + a.nanos) (b.secs * 1000000000 + b.nanos))
        (λ h. lt→ltb (a.secs * 1000000000 + a.nanos) (b.secs * 1000000000 + b.nanos) (omega (arith, f tt, ltb→lt a.nanos b.nanos h)))
        (λ h. lt→ltb a.nanos b.nanos (omega (arith, f tt, ltb→lt (a.secs * 1000000000 + a.nanos) (b.secs * 1000000000 + b.nanos) h)))
    go false f g = same_test (ltb a.secs b.secs) (ltb (a.secs * 1000000000 + a.nanos) (b.secs * 1000000000 + b.nanos))
        (λ h. lt→ltb (a.secs * 1000000000 + a.nanos) (b.secs * 1000000000 + b.nanos) (omega (arith, ltb→lt a.secs b.secs h)))
        (λ h. lt→ltb a.secs b.secs (omega (arith, g, ltb→lt (a.secs * 1000000000 + a.nanos) (b.secs * 1000000000 + b.nanos) h)))
