-- The words of a parse as a chart: sets of items and rows of symbols.
use mathlib.Core.Path.{◌≡◌}
use mathlib.Core.List.{List}
use Prim.Native.Nat.{ℕ, ◌≤◌, ◌<◌}
use Rattle.laws.specs.Bits.{Holds, row_of}
use Rattle.bits.specs.Width.{row_words}
use Rattle.item.specs.Item.{origin_at, rule_at}
use Rattle.grammar.specs.Rules.{Grammar, none, rule_at as rule_at_g}
use Rattle.parse.specs.declared.State.{State}
use Rattle.parse.specs.Words.{Words}
use Rattle.parse.specs.WellFormed.{InSet}
use Rattle.completion.specs.Pass.{Pass}
use Rattle.earley.proofs.Charts.{Chart}
use Rattle.earley.proofs.Steps as steps
use Rattle.earley.proofs.Next.{Stored}
use Rattle.demands.specs.Steps.{completed}

-- Set `k` has the item of origin `o` and rule `r`: it stands at one of the set's places.
pub record Has (v : Words) (k o r : ℕ) : Type 0 where
  pub place : ℕ
  pub in_set : InSet v k place
  pub origin : origin_at v.items place ≡ o
  pub rule : rule_at v.items place ≡ r

abbrev pub chart_of : State → Words → Chart
chart_of s v = record { last = s.set; item = Has v; row = λ k x. Holds (row_of row_words v.rows k) x }

-- A pass has stored the item of origin `o` and rule `r`.
pub record New (s : State) (pass : Pass) (o r : ℕ) : Type 0 where
  pub place : ℕ
  pub behind : s.items ≤ place
  pub before : place < pass.at.items
  pub origin : origin_at pass.items place ≡ o
  pub rule : rule_at pass.items place ≡ r

-- What a completion pass that was not refused has done: it has completed what the rules of completion give, and nothing else, and the
-- items with a second symbol that it stored are those that completed pairs call for.
pub record Completed (g : Grammar) (s : State) (v : Words) (kinds : List ℕ) : Type 1 where
  pub done : ℕ → ℕ → Type 0
  pub pass : steps.Pass g (chart_of s v) kinds done
  pub stored : (o r : ℕ) → Stored g (chart_of s v) done o r → New s (completed g s v kinds) o r
  pub called : (o r : ℕ) → New s (completed g s v kinds) o r → ((rule_at_g g r).second ≡ none → ⊥) → Stored g (chart_of s v) done o r
