-- Step 2: complete set `k` and symbol `x`, whose node has the handle `link`.
use Rattle.std.specs.Prelude.{Bool, true, false, ◌&&◌, not, List, ℕ, ◌+◌, length, get_or, eqb}
use Rattle.laws.specs.Bits.{holds, row_of}
use Rattle.laws.specs.Turns.{over, between}
use Rattle.bits.specs.Width.{row_words}
use Rattle.item.specs.Item.{item_at}
use Rattle.node.specs.Rows.{all_ones}
use Rattle.grammar.specs.Rules.{Rule, none, no_rule}
use Rattle.parse.specs.WellFormed.{second_of}
use Rattle.completion.specs.Pass.{Pass, and_then, store, enqueue}

-- The symbol is predicted at set `k`.
abbrev pub predicted : List ℕ → ℕ → ℕ → Bool
predicted rows k symbol = holds (row_of row_words rows k) symbol

-- Each item of set `k` whose second is `x` is queued, with the link for its right factor.
unfoldable pub complete_medial : List Rule → ℕ → ℕ → ℕ → Pass → Pass
complete_medial rs x link p s = and_then s (λ s. elim (eqb (second_of rs (item_at s.items p)) x) [ true ↦ enqueue p link s | false ↦ s ])

unfoldable pub complete_medial_items : List Rule → List ℕ → ℕ → ℕ → ℕ → Pass → Pass
complete_medial_items rs starts k x link s = between (get_or starts k 0) (get_or starts (k + 1) 0) (complete_medial rs x link) s

-- Rule `r` begins with `x`, and its left side is predicted at set `k`.
abbrev pub waits : List Rule → List ℕ → ℕ → ℕ → ℕ → Bool
waits rs rows k x r = eqb (get_or rs r no_rule).first x && predicted rows k (get_or rs r no_rule).left

-- Each such rule A ::= x is stored as an item of origin `k` with the link for its handle, and queued without a right factor.
unfoldable pub complete_unary : List Rule → List ℕ → ℕ → ℕ → ℕ → ℕ → Pass → Pass
complete_unary rs rows k x link r s =
    and_then s
    (λ s.
    elim (eqb (get_or rs r no_rule).second none && waits rs rows k x r) [
      | true ↦ and_then (store k r link s) (enqueue s.at.items all_ones)
      | false ↦ s
    ])

unfoldable pub complete_unary_predictions : List Rule → List ℕ → ℕ → ℕ → ℕ → Pass → Pass
complete_unary_predictions rs rows k x link s = over (length rs) (complete_unary rs rows k x link) s

-- Each such rule A ::= x Y is stored as an item of origin `k` with the link for its handle, and not queued.
unfoldable pub complete_binary : List Rule → List ℕ → ℕ → ℕ → ℕ → ℕ → Pass → Pass
complete_binary rs rows k x link r s =
    and_then s
    (λ s. elim (not (eqb (get_or rs r no_rule).second none) && waits rs rows k x r) [ true ↦ store k r link s | false ↦ s ])

unfoldable pub complete_binary_predictions : List Rule → List ℕ → ℕ → ℕ → ℕ → Pass → Pass
complete_binary_predictions rs rows k x link s = over (length rs) (complete_binary rs rows k x link) s

-- Nothing if `x` is not predicted at set `k`; else the three in this order.
unfoldable pub complete : List Rule → List ℕ → List ℕ → ℕ → ℕ → ℕ → Pass → Pass
complete rs starts rows k x link s =
    elim (predicted rows k x) [
      | true ↦
          complete_binary_predictions rs rows k x link
          (complete_unary_predictions rs rows k x link (complete_medial_items rs starts k x link s))
      | false ↦ s
    ]
