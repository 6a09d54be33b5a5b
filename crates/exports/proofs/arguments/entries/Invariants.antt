use Rattle.std.specs.Prelude.{◌≡◌}
use Rattle.motion.proofs.Made.{made}
use Rattle.exports.specs.Arguments.{entry_of}
use Rattle.exports.proofs.arguments.entries.Given as goal

abbrev pub invariant-loop-words : goal.invariant-loop-words
invariant-loop-words l = l.t.items ≡ made entry_of l.listed l.words-index
