-- `rows::row_below` meets its contract.
use Rattle.std.proofs.Common.{rules, tests, refl, ℕ, arith}
use Rattle.std.proofs.lemmas.Iterator.{cases_from_all, YieldsList-from_range}
use Rattle.bits.specs.Width.{row_words}
use Rattle.laws.proofs.Decides.{decides_map}
use Rattle.parse.proofs.Below.{WordIn, words-below, below-words}
use Rattle.parse.proofs.Searching.{all_decides}
use Rattle.parse.proofs.rows.row_below.Goals as goal

pub returns : goal.returns
returns c =
    let given = c.args in
    let below = λ (i : ℕ). WordIn row_words given.symbols given.rows.now given.k i in
    decides_map (λ h. words-below row_words given.symbols given.rows.now given.k (λ i l. h i (omega arith) l)) (λ h i low l. below-words row_words given.symbols given.rows.now given.k h i l)
    (all_decides below _ 0 row_words
    (cases_from_all _ _ _ below (λ i. below i → ⊥) c.all.ensures.ran (YieldsList-from_range 0 row_words _ refl refl) (λ x r k. search (rules, tests)) (λ x r k. search (rules, tests))))
