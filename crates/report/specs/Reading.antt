-- What a reader until the end has, in words of the input's known bytes.
use Rattle.std.specs.Prelude.{◌≡◌, ℕ, ◌≤◌, List, length, take, IfSome}
use Rattle.std.specs.declared.option.Option.{Option}

-- n bytes of buf are read: the first of the input, all of them or as many as there is room for
pub record IsRead (known : Option (List ℕ)) (room n : ℕ) (buf : List ℕ) : Type 0 where
  pub within : n ≤ length buf
  pub first : IfSome known (λ s. take n buf ≡ take room s)
