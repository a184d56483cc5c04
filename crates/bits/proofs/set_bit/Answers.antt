-- `bits::set_bit` meets its contract. The word with the bit set is the or with a power of 2.
use Rattle.std.proofs.Common.{ap, ℕ, ◌/◌, ◌%◌, arith, bit_or, get_or, set}
use Rattle.laws.proofs.Bits.{one_shifted}
use Rattle.bits.proofs.set_bit.Goals as goal

pub returns : goal.returns
returns c =
    let words = c.args.words.now in
    let i = c.args.i in
    ap (λ (p : ℕ). set words (i / 64) (bit_or (get_or words (i / 64) 0) p)) (one_shifted (i % 64) (omega arith))
