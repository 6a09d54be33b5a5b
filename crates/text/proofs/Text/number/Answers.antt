use mathlib.Core.Path.{refl}
use native.Mathlib.Omega.{arith}
use Rattle.text.proofs.Digits.{decimal_is}
use Rattle.text.proofs.Text.number.Goals as goal

pub returns : goal.returns
returns c =
    let d = c.decimal-k in
    rw (c.put.ensures, d.ensures.digits, decimal_is d.result c.args.n (omega arith) d.ensures.len)
    refl
