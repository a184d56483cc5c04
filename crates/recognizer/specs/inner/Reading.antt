-- How a run's positions are read one by one.
use Rattle.std.specs.Prelude.{◌≡◌, List, [], ◌∷◌, ℕ, Option, Some, None}
use Rattle.std.specs.Borrow.{Bor}
use Rattle.earley.specs.Positions.{Positions, plain}
use Rattle.demands.specs.Positions.{positions_in}
use Rattle.recognizer.specs.declared.positions.Tokens.{Tokens}
use Rattle.recognizer.specs.declared.positions.Counted.{Counted}

-- The first of those that were left, with the others left; `None` where there was none.
abbrev pub Nexts : Option (Bor (List ℕ)) → Positions → Positions → Type 0
Nexts (Some kinds) before after = before ≡ kinds.now ∷ after
Nexts None before after = before ≡ []

-- Each token alone.
abbrev pub tokens_left : Tokens → Positions
tokens_left t = plain t.0.now

-- The positions that words hold.
abbrev pub counted_left : Counted → Positions
counted_left c = positions_in c.0.now
