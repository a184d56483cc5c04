-- `plain::rows::has` meets its contract. The word read is the row's own word of that number.
use Rattle.std.proofs.Common.{sym, ap, ℕ, ◌/◌, ◌%◌, arith, eqb}
use Rattle.laws.specs.Bits.{bit}
use Rattle.laws.proofs.Rows.{row_word}
use Rattle.plain.specs.Table.{row_words}
use Rattle.plain.proofs.rows.has.Goals as goal

pub returns : goal.returns
returns c =
    let given = c.args in
    ap (λ (w : ℕ). eqb (bit w (given.symbol % 64)) 1)
    (sym (row_word row_words given.table.now given.k (given.symbol / 64) (omega (arith, c.requires.narrow))))
