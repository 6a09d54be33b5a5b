use Rattle.motion.specs.Vessel.{from_velocity}
use Rattle.track.proofs.FitCode.{no_motion, too_fast, moving}
use Rattle.track.proofs.fit.at_speed.Goals as goal

pub returns-then-is_finite-speed : goal.returns-then-is_finite-speed
returns-then-is_finite-speed c =
    no_motion c.args.velocity c.size-speed.result c.is_finite.result c.size-speed.ensures c.is_finite.ensures c.if-is_finite-speed.true

pub returns-then-speed : goal.returns-then-speed
returns-then-speed c =
    too_fast c.args.velocity c.size-speed.result c.is_finite.result c.size-speed.ensures c.is_finite.ensures c.if-is_finite-speed.false c.if-speed.true

pub returns : goal.returns
unfolding from_velocity
returns c =
    rw (c.direction_of.ensures, c.size-speed.ensures)
    (moving c.args.velocity c.size-speed.result c.is_finite.result c.size-speed.ensures c.is_finite.ensures c.if-is_finite-speed.false c.if-speed.false)
