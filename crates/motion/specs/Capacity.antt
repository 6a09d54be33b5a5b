-- The room for contacts (01, row 14 of the answers by number: the most contacts that are accepted).
use Rattle.std.specs.Prelude.{ℕ}

-- `MAX_CONTACTS`
abbrev pub max_contacts : ℕ
max_contacts = 32
