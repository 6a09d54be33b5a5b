-- What there is of each side of a vessel.
use Rattle.motion.specs.declared.side.BySide.{BySide}
use Rattle.motion.specs.declared.side.Side.{Side}
use Rattle.motion.specs.declared.side.Side.TheVariants.{Starboard, Port}

abbrev pub on : {A : Type 0} → BySide A → Side → A
on by Starboard = by.starboard
on by Port = by.port
