-- `rows::rows_below` meets its contract.
use Rattle.std.proofs.Common.{rules, tests, refl, ℕ, arith, ◌+◌}
use Rattle.std.proofs.lemmas.Iterator.{cases_from_all, YieldsList-from_range}
use Rattle.bits.specs.Width.{row_words}
use Rattle.laws.specs.Bits.{Below, row_of}
use Rattle.laws.proofs.Decides.{decides_map}
use Rattle.parse.proofs.Searching.{all_decides}
use Rattle.parse.proofs.rows.rows_below.Goals as goal

pub returns : goal.returns
returns c =
    let given = c.args in
    let below = λ (k : ℕ). Below given.symbols (row_of row_words given.rows.now k) in
    decides_map (λ h. record { each = λ k l. h k (omega arith) (omega arith) }) (λ h k low l. h.each k (omega arith))
    (all_decides below _ 0 (given.e + 1)
    (cases_from_all _ _ _ below (λ k. below k → ⊥) c.all.ensures.ran (YieldsList-from_range 0 (given.e + 1) _ refl refl) (λ x r k. search (rules, tests)) (λ x r k. search (rules, tests))))
