-- The lines of document 01, 'Encounter sheet and its program': fields with a space between them,
-- and a line feed after the last one.
use Rattle.std.specs.Prelude.{List, [], ◌∷◌, ◌++◌, ℕ}
use Rattle.text.specs.Text.{bytes}

-- a field and the space that follows it
abbrev pub spaced : List ℕ → List ℕ
spaced field = field ++ bytes " "

abbrev pub line : List (List ℕ) → List ℕ
line [] = bytes "\n"
line (last ∷ []) = last ++ bytes "\n"
line (field ∷ next ∷ more) = spaced field ++ line (next ∷ more)
