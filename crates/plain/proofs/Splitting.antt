-- The search for a cut.
use Rattle.std.proofs.Common.{◌≡◌, List, ℕ, ◌+◌, ◌-◌, ◌*◌, ◌≤◌, ◌<◌, arith}
use Rattle.laws.specs.Bits.{word_bits}
use Rattle.plain.specs.Table.{row_words, Stretch, stretches_up_to, place}
use Rattle.plain.specs.inner.Filling.{Held, Room, BitThere}
use Rattle.plain.proofs.Standing.{place_inside, row_inside}

-- The bit of a low symbol in the row of a stretch is there.
pub bit-there : {n l i k x : ℕ} {table : List ℕ} → Room n table → Stretch n l i → k ≡ place n l i → x < word_bits * row_words → BitThere table k x
bit-there {n} {l} {i} room s is narrow = record { there = row_inside room (let inside : place n l i < stretches_up_to n n = place_inside n l i s in omega arith); narrow = narrow }

-- The parts of a cut are stretches.
pub first_part : {n l i k : ℕ} → Stretch n l i → 1 ≤ k → k < l → Stretch n k i
first_part s some less = record { some = omega arith; inside = omega (arith, s.inside) }

pub second-part : {n l i k : ℕ} → Stretch n l i → 1 ≤ k → k < l → Stretch n (l - k) (i + k)
second-part s some less = record { some = omega arith; inside = omega (arith, s.inside) }

-- No cut before `k` is one.
pub record Unsplit (table : List ℕ) (n l i b c k : ℕ) : Type 0 where
  pub some : 1 ≤ k
  pub up_to : k ≤ l
  pub passed : (m : ℕ) → m < k → 0 < m → Held table n m i b → Held table n (l - m) (i + m) c → ⊥
