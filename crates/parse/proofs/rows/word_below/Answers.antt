-- `rows::word_below` meets its contract: a word is of symbols below, of symbols above, or has the first symbol above.
use native.Mathlib.Omega.{arith}
use Rattle.laws.proofs.Decides.{says-eqb}
use Rattle.parse.proofs.Below.{high_word, high_word_is, mid_word, mid_word_is}
use Rattle.parse.proofs.rows.word_below.Goals as goal

pub returns-then-i-symbols-2 : goal.returns-then-i-symbols-2
returns-then-i-symbols-2 c = says-eqb _ 0 (high_word _ _ _ c.if-i-symbols-2.true) (λ n h. n (high_word_is _ _ _ c.if-i-symbols-2.true c.ranges.word.fits h))

pub returns : goal.returns
returns c = says-eqb _ 0 (mid_word _ _ _ (omega arith)) (λ n h. n (mid_word_is _ _ _ (omega arith) c.ranges.word.fits h))
