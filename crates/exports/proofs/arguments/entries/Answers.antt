use mathlib.Core.Path.{ap, ◌∙◌}
use mathlib.Core.List.{map}
use native.Mathlib.Omega.{arith}
use lib.ListN.{length, take}
use Rattle.motion.specs.Capacity.{max_contacts}
use Rattle.std.proofs.Common.{lit<}
use Rattle.motion.proofs.Made.{made-length, one_more, all_made}
use Rattle.exports.specs.Arguments.{entry_of}
use Rattle.exports.proofs.arguments.entries.Goals as goal

pub loop-words-init : goal.loop-words-init
loop-words-init c = c.new-t.ensures

pub push-requires : goal.push-requires
push-requires c = (lit< tt, omega (arith, ap length c.loop-words.invariant, made-length entry_of c.first-listed.result.now c.loop-words.words-index c.loop-words.auto.words-index-end, c.loop-words-test.true, c.first-listed.ensures.fits))

pub loop-words-preserved : goal.loop-words-preserved
loop-words-preserved c = c.push.ensures.items ∙ one_more entry_of c.first-listed.result.now c.loop-words.t.items c.loop-words.words-index _ _ c.loop-words-test.true c.entry_of.ensures c.loop-words.invariant

pub returns : goal.returns
returns c = all_made entry_of c.first-listed.result.now _ c.loop-words.words-index (omega (arith, c.loop-words-test.false, c.loop-words.auto.words-index-end)) c.loop-words.invariant ∙ ap (map entry_of) (c.first-listed.ensures.value ∙ ap (take max_contacts) c.contacts.ensures)
