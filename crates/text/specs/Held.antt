-- How a text is held: what it says, and zeros after it. So what it says is all that there is of it.
use Rattle.std.specs.Prelude.{List, ◌++◌, ℕ, ◌-◌, ◌≤◌, ◌≡◌, length, take, drop, replicate}
use mathlib.Core.Path.{sym, ap, subst, ◌∙◌}
use Rattle.std.proofs.lemmas.List.{length-take-le, take-append-drop}
use Rattle.text.specs.declared.Text.TheInside.{Inside}
use Rattle.text.specs.Text.{room}

-- what a text says
abbrev pub said : Inside → List ℕ
said t = take t.len t.bytes

-- so many zeros
abbrev pub zeros : ℕ → List ℕ
zeros n = replicate n 0

pub record IsText (t : Inside) : Type 0 where
  pub full : length t.bytes ≡ room
  pub within : t.len ≤ room
  pub blank_after : drop t.len t.bytes ≡ zeros (room - t.len)

-- the text that says this
abbrev pub text_of : List ℕ → Inside
text_of s = record { bytes = s ++ zeros (room - length s); len = length s }

-- the text that says what a text says is that text
pub made_again : (t : Inside) → IsText t → text_of (said t) ≡ t
made_again t h =
    let inside : t.len ≤ length t.bytes = subst (λ n. t.len ≤ n) (sym h.full) h.within in
    let whole : said t ++ zeros (room - t.len) ≡ t.bytes =
    ap (λ z. said t ++ z) (sym h.blank_after) ∙ take-append-drop t.len t.bytes in
    ap (λ n. record { bytes = said t ++ zeros (room - n); len = n }) (length-take-le t.len t.bytes inside)
    ∙ ap (λ b. record { bytes = b; len = t.len }) whole
