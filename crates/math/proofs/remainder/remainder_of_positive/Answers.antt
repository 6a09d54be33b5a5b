use mathlib.Core.Path.{sym, ◌∙◌}
use lib.Dec.{lit≤}
use lib.Ieee.{div, of_bits}
use Rattle.laws.proofs.Bools.{holds}
use Rattle.math.proofs.FullTurns.{full_is, 720_is, finite_under, itself, not_negative, from_one, from_highest, is_remainder, no_remainder}
use Rattle.math.proofs.remainder.remainder_of_positive.Goals as goal

pub returns-then-a : goal.returns-then-a
returns-then-a c =
    itself c.args.a c.requires (holds c.well_formed.0.1) (finite_under c.args.a c.requires _ _ full_is c.if-a.true) c.if-a.true

pub reduced-requires : goal.reduced-requires
reduced-requires c =
    let f = finite_under c.args.a c.requires _ _ 720_is c.if-a-2.true in
    (from_one c.args.a (holds c.well_formed.0.1) f (not_negative c.args.a c.requires (holds c.well_formed.0.1) f c.if-a.false) (holds c.if-a-2.true), lit≤ tt)

pub returns-then-a-2 : goal.returns-then-a-2
returns-then-a-2 c =
    let f = finite_under c.args.a c.requires _ _ 720_is c.if-a-2.true in
    is_remainder c.args.a (holds c.well_formed.0.1) f (not_negative c.args.a c.requires (holds c.well_formed.0.1) f c.if-a.false) _ c.reduced.ensures

pub reduced-requires-then-is_finite : goal.reduced-requires-then-is_finite
reduced-requires-then-is_finite c =
    let f = holds (sym c.is_finite.ensures ∙ c.if-is_finite.true) in
    (from_highest c.args.a (holds c.well_formed.0.1) f (not_negative c.args.a c.requires (holds c.well_formed.0.1) f c.if-a.false), lit≤ tt)

pub returns-then-is_finite : goal.returns-then-is_finite
returns-then-is_finite c =
    let f = holds (sym c.is_finite.ensures ∙ c.if-is_finite.true) in
    is_remainder c.args.a (holds c.well_formed.0.1) f (not_negative c.args.a c.requires (holds c.well_formed.0.1) f c.if-a.false) _ c.reduced-then-is_finite.ensures

pub returns : goal.returns
unfolding div of_bits
returns c = no_remainder c.args.a c.requires (sym c.is_finite.ensures ∙ c.if-is_finite.false)
