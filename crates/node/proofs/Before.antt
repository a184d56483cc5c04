-- Every factor of a Product in a store lies strictly before it: no node is its own factor, and none points forward.
use Rattle.std.proofs.Common.{ℕ, ◌<◌, ◌≡◌, true, List, Option, Some, None}
use Rattle.node.specs.Rows.{unfit, units_at}
use Rattle.node.specs.Answers.{answer, done, node, position}
use Rattle.node.specs.Writing.{usable, write_at}
use Rattle.node.specs.Reading.{head_from, stand, read_at}
use Rattle.node.specs.declared.Node.TheVariants.{Product}
use Rattle.node.proofs.Fit.{FitProduct, fit-product, fit-right}
use Rattle.node.proofs.Exact.{read_taken}
use Rattle.node.proofs.RoundTrip.{standing-fit, written_stands}

-- A right factor lies before q, where there is one.
abbrev pub RightBefore : ℕ → Option ℕ → Type 0
RightBefore q (Some factor) = factor < q
RightBefore q None = Unit

pub record FactorsBefore (q left : ℕ) (right : Option ℕ) : Type 0 where
  pub left-before : left < q
  pub right-before : RightBefore q right

fit-before : (q action left : ℕ) (right : Option ℕ) → FitProduct q action left right → FactorsBefore q left right
fit-before q action left (Some factor) fit = record { left-before = fit.left-before; right-before = (fit-right fit.right-fit).before }
fit-before q action left None fit = record { left-before = fit.left-before; right-before = tt }

standing-before :
    (s : List ℕ) (q action left : ℕ) (right : Option ℕ) → stand s q (units_at q (Product action left right)) ≡ true
    → FactorsBefore q left right
unfolding unfit
standing-before s q action left right st =
    fit-before q action left right (fit-product (standing-fit s q (Product action left right) st))

-- Of a Product that was written.
pub written-before :
    (s : List ℕ) (p action left : ℕ) (right : Option ℕ) (b : ℕ) (t : List ℕ)
    → write_at s p (Product action left right) ≡ record { answer = answer done (position b); store = t }
    → FactorsBefore p left right
written-before s p action left right b t e =
    standing-before (usable t) p action left right (written_stands s p (Product action left right) b t e)

-- Of a Product that was read: its head is the first unit from p on that is no filler.
pub read-before :
    (s : List ℕ) (p action left : ℕ) (right : Option ℕ) (b : ℕ) → read_at s p ≡ answer done (node (Product action left right) b)
    → FactorsBefore (head_from (usable s) p) left right
read-before s p action left right b e =
    standing-before (usable s) (head_from (usable s) p) action left right
    (read_taken (usable s) p (Product action left right) b e).taken.stands
