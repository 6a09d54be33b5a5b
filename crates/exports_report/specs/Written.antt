-- A text written to the start of a buffer that has room for all of it, and the buffer left as it
-- was where it has not.
use Rattle.std.specs.Prelude.{cond, List, ◌++◌, ℕ, leb, length, drop}

unfoldable pub written : List ℕ → List ℕ → List ℕ
written text out = cond (leb (length text) (length out)) (text ++ drop (length text) out) out

-- how many bytes were written, 0 where there is no room
unfoldable pub count : List ℕ → List ℕ → ℕ
count text out = cond (leb (length text) (length out)) (length text) 0
