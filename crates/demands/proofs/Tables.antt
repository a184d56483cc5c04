-- What the rows of the prediction table hold, and unions of them.
use mathlib.Core.Path.{◌≡◌, refl, ap, ◌∙◌, subst}
use mathlib.Core.Logic.{⊎_elim}
use mathlib.Core.List.{List, [], ◌∷◌}
use Prim.Native.Nat.{ℕ, ◌/◌, ◌%◌, ◌<◌}
use native.Mathlib.Omega.{arith}
use lib.ListN.{get_or, replicate}
use Rattle.laws.specs.Bits.{word_bits, bit, Holds, Below}
use Rattle.laws.proofs.Bits.{union_one, union_left, union_right, zeros_hold, union-below}
use Rattle.bits.specs.Width.{row_words}
use Rattle.item.specs.Item.{Item}
use Rattle.grammar.specs.Rules.{Rule, Grammar}
use Rattle.grammar.specs.Accepted.{Accepted}
use Rattle.grammar.specs.Prediction.{Reaches, Predicts, row_at}
use Rattle.grammar.specs.Prediction.Reaches.{here, by_first}
use Rattle.grammar.proofs.Facts.{wrapper-first}
use Rattle.parse.specs.WellFormed.{second_of}
use Rattle.advance.specs.Advance.{predictions}
use Rattle.prediction.specs.inner.Tables.{Shape}
use Rattle.advance.proofs.Ordering.{Among}
use Rattle.laws.proofs.Lists.{zeros_word}

-- Rows of the same words hold the same symbols.
pub holds_same : (a b : List ℕ) (s : ℕ) → ((i : ℕ) → get_or a i 0 ≡ get_or b i 0) → Holds b s → Holds a s
holds_same a b s same held = record { is_set = ap (λ (w : ℕ). bit w (s % word_bits)) (same (s / word_bits)) ∙ held.is_set }

-- What is reached from a symbol is a symbol.
reached-symbol : {g : Grammar} {x y : ℕ} → Accepted g → Reaches g x y → x < g.symbols → y < g.symbols
reached-symbol acc here l = l
reached-symbol {g} acc (by_first {r = r} {b = b} s p) l =
    let low : b < g.symbols = omega (arith, wrapper-first g acc r s.there, s.first) in reached-symbol acc p low

module _ {g : Grammar} {table : List (List ℕ)} (accepted : Accepted g) (predicts : Predicts g row_words table) where
  -- No row of the table has a bit at N or above.
  pub table_below : (x : ℕ) → Below g.symbols (row_at table x)
  table_below x = record { none_above = λ y l h. omega (arith, reached-symbol accepted (predicts.reached x y h) (predicts.below x y h)) }

  -- The table has a row for each symbol.
  pub table_shape : Shape row_words table
  table_shape = record { rows = predicts.rows; row = predicts.row }

  -- Neither has a union of its rows.
  pub predictions-below : (is : List Item) → Below g.symbols (predictions g.rules table is)
  unfolding predictions
  predictions-below [] = record { none_above = λ s m held. zeros_hold (replicate row_words 0) s (zeros_word row_words) held }
  predictions-below (i ∷ is) = union-below g.symbols (predictions g.rules table is) (row_at table (second_of g.rules i)) (predictions-below is) (table_below (second_of g.rules i))

-- The row of an item's second holds a symbol.
pub record Leads (rs : List Rule) (table : List (List ℕ)) (is : List Item) (x : ℕ) : Type 0 where
  pub item : Item
  pub among : Among item is
  pub holds : Holds (row_at table (second_of rs item)) x

module _ (rs : List Rule) (table : List (List ℕ)) (x : ℕ) where
  -- A union of rows holds what one of them holds, and nothing else.
  pub predictions_lead : (is : List Item) → Holds (predictions rs table is) x → Leads rs table is x
  unfolding predictions
  predictions_lead [] held = absurd (zeros_hold (replicate row_words 0) x (zeros_word row_words) held)
  predictions_lead (i ∷ is) held =
      ⊎_elim
      (λ (before : Holds (predictions rs table is) x).
      let found : Leads rs table is x = predictions_lead is before in
      record { item = found.item; among = Among.there found.among; holds = found.holds })
      (λ (here : Holds (row_at table (second_of rs i)) x). record { item = i; among = Among.here refl; holds = here })
      (union_one (predictions rs table is) (row_at table (second_of rs i)) x held)

  pub lead_predictions : {i : Item} {is : List Item} → Among i is → Holds (row_at table (second_of rs i)) x → Holds (predictions rs table is) x
  unfolding predictions
  lead_predictions (Among.here {j} {is} e) held =
      union_right (predictions rs table is) (row_at table (second_of rs j)) x (subst (λ (k : Item). Holds (row_at table (second_of rs k)) x) e held)
  lead_predictions (Among.there {j} {is} m) held = union_left (predictions rs table is) (row_at table (second_of rs j)) x (lead_predictions m held)
