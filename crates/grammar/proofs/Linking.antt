-- The chains of the rules from a place on.
use mathlib.Core.Path.{◌≡◌}
use mathlib.Core.List.{List}
use Prim.Native.Nat.{ℕ, ◌+◌, ◌≤◌, ◌<◌}
use lib.ListN.{length, get_or}
use Rattle.grammar.specs.Accepted.{max_symbols, max_rules}
use Rattle.grammar.specs.inner.Decoded.{first_in, nexts_at, all_words, next_in, head_in, Leads}

-- The rules from `m` on are linked.
pub record Linked (before : List ℕ) (count m : ℕ) (words : List ℕ) : Type 0 where
  pub few : m ≤ count
  pub long : length words ≡ all_words
  pub same : (i : ℕ) → i < nexts_at → get_or words i 0 ≡ get_or before i 0
  pub head : (x : ℕ) → x < max_symbols → Leads before count m x (head_in words x)
  pub next : (r : ℕ) → m ≤ r → r < count → Leads before count (r + 1) (first_in before r) (next_in words r)
  pub rest : (r : ℕ) → count ≤ r → r < max_rules → next_in words r ≡ 0
