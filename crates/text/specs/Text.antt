-- The text of document 01, 'Encounter sheet and its program', as it grows: a list of bytes within a
-- fixed room.
use Rattle.std.specs.Prelude.{List, [], ◌∷◌, ◌++◌, ℕ, take}
use Prim.Native.Char.{code}
use Prim.Native.String.{String, [] as nothing, ◌∷◌ as ◌before◌}

-- `ROOM`
abbrev pub room : ℕ
room = 8192

-- t with s after it, cut at the room
unfoldable pub appended : List ℕ → List ℕ → List ℕ
appended t s = take room (t ++ s)

-- the bytes of a quoted text, one to a character, as ASCII has them
unfoldable pub bytes : String → List ℕ
bytes nothing = []
bytes (c before s) = code c ∷ bytes s
