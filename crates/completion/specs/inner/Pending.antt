-- What the sums of a pass rest on.
use Rattle.std.specs.Prelude.{◌≡◌, true, List, ℕ, ◌+◌, ◌≤◌, ◌<◌, length, get_or, take}
use Rattle.item.specs.Item.{item_at, origin_at}
use Rattle.binary_heap.specs.Entry.{entry_key}
use Rattle.binary_heap.specs.Heap.{Heap}
use Rattle.binary_heap.specs.Sift.{entry_at, parent}
use Rattle.grammar.specs.Rules.{Rule, none, no_rule}
use Rattle.completion.specs.Pass.{Pass}
use Rattle.completion.specs.Sums.{is_of}
use Rattle.completion.specs.inner.Ready.{RulesFit, Rowed, PassFits, Charted}

-- What no step changes: the rules of an accepted grammar, and a start for each row.
pub record Grounds (rs : List Rule) (starts rows : List ℕ) : Type 0 where
  pub rules_fit : RulesFit rs
  pub rowed : Rowed starts rows
  -- rules of one left side are adjacent
  pub adjacent :
      (q r s : ℕ) → q < r → r < s → s < length rs → (get_or rs q no_rule).left ≡ (get_or rs s no_rule).left → (get_or rs q no_rule).left ≡ (get_or rs r no_rule).left
  -- where A ::= B alone, every rule of B has a higher number
  pub unary_below :
      (r s : ℕ) → r < length rs → s < length rs → (get_or rs r no_rule).second ≡ none → (get_or rs s no_rule).left ≡ (get_or rs r no_rule).first → r < s

-- What each step keeps, of a pass with sums to come: sound and charted, each item of set `k` of an origin below `k`, the entries a heap.
pub record Pending (rs : List Rule) (starts : List ℕ) (s : Pass) : Type 0 where
  pub sound : PassFits s
  pub charted : Charted rs starts s
  pub earlier : (k p : ℕ) → get_or starts k 0 ≤ p → p < get_or starts (k + 1) 0 → origin_at s.items p < k
  pub heap : Heap (entry_key s.items) (take s.at.queued s.queue)

-- Each entry of origin `k` and left side `x` but the root has its parent among them.
pub record Rooted (rs : List Rule) (k x : ℕ) (s : Pass) : Type 0 where
  pub parents :
      (pos : ℕ) → 0 < pos → pos < s.at.queued → is_of rs k x (item_at s.items (entry_at s.queue pos).place) ≡ true
      → is_of rs k x (item_at s.items (entry_at s.queue (parent pos)).place) ≡ true
