-- Left sides of the file, a mark for each symbol: which are left to be written, and which of them a rule names.
use Rattle.std.specs.Prelude.{◌≡◌, Bool, ◌&&◌, not, List, ℕ, ◌-◌, ◌<◌, length}
use Rattle.grammar.specs.Accepted.{max_symbols}
use Rattle.grammar.specs.Rules.{Rule}
use Rattle.written.specs.Order as order
use Rattle.written.specs.Translation.{up_from}
use Rattle.translation.specs.inner.Marks.{marked}

-- Whatever list of left sides the marks `left` say, `named` says which symbols a rule of one of them names.
pub record NamedBy (rules : List Rule) (left named : List Bool) : Type 0 where
  pub long : length named ≡ max_symbols
  pub right : (l : List ℕ) → ((x : ℕ) → order.has l x ≡ marked left x) → (b : ℕ) → b < max_symbols → marked named b ≡ order.named rules l b

-- Of the marked symbols those are kept that are named.
pub record KeptNamed (before named after : List Bool) : Type 0 where
  pub long : length after ≡ max_symbols
  pub right : (a : ℕ) → marked after a ≡ (marked before a && marked named a)

-- The symbols from `from` up to `to` that are marked; and those of them that are not named.
abbrev pub left_within : List Bool → ℕ → ℕ → List ℕ
left_within marks from to = order.passing (marked marks) (up_from from (to - from))

abbrev pub level_of : (left named : List Bool) → ℕ → ℕ → List ℕ
level_of left named from to = order.passing (λ (b : ℕ). not (marked named b)) (left_within left from to)
