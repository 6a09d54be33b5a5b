-- Tables that are checked by computation: a row is a computed figure and what it must be.
use Rattle.std.specs.Prelude.{Bool, true, ◌&&◌, List, [], ◌∷◌, ℕ, eqb}

pub record Row : Type 0 where
  pub got : ℕ
  pub wanted : ℕ

abbrev pub row : ℕ → ℕ → Row
row got wanted = record { got = got; wanted = wanted }

abbrev pub every : List Row → Bool
every [] = true
every (r ∷ rs) = eqb r.got r.wanted && every rs
