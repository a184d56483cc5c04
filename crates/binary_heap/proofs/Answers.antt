-- What an answer of push or pop tells.
use Rattle.std.proofs.Common.{◌≡◌, ℕ, ◌+◌, ◌-◌, ◌≤◌, ◌<◌, List, Some, None, ap, arith, ltb, ltb-true, ltb-false}
use Rattle.laws.proofs.Tests.{either_way}
use Rattle.binary_heap.specs.Entry.{Entry}
use Rattle.binary_heap.specs.Heap.{top}
use Rattle.binary_heap.specs.Queue.{push_answer, pop_answer}

-- None: the queue has its capacity.
pub full-tells : (capacity n : ℕ) → push_answer capacity n ≡ None → capacity ≤ n
unfolding push_answer
full-tells capacity n full =
    either_way (ltb n capacity)
    (λ e.
    let answer : Some (n + 1) ≡ None = rw (push_answer, e) at full in
    let never : ◌≡◌ {A = ℕ} 0 1 = cc in
    absurd (omega arith))
    (λ e. ltb-false n capacity e)

-- A number: there was room, and there is one entry more.
pub count-tells : (capacity n m : ℕ) → push_answer capacity n ≡ Some m → (n < capacity) × (m ≡ n + 1)
unfolding push_answer
count-tells capacity n m count =
    either_way (ltb n capacity)
    (λ e.
    let answer : Some (n + 1) ≡ Some m = rw (push_answer, e) at count in
    (ltb-true n capacity e, cc))
    (λ e.
    let answer : None ≡ Some m = rw (push_answer, e) at count in
    let never : ◌≡◌ {A = ℕ} 0 1 = cc in
    absurd (omega arith))

-- None: there is no entry.
pub pop_empty_tells : (q : List Entry) (n : ℕ) → pop_answer q n ≡ None → n ≡ 0
unfolding pop_answer
pop_empty_tells q n empty =
    either_way (ltb 0 n)
    (λ e.
    let answer : Some (top q, n - 1) ≡ None = rw (pop_answer, e) at empty in
    let never : ◌≡◌ {A = ℕ} 0 1 = cc in
    absurd (omega arith))
    (λ e. omega (arith, ltb-false 0 n e))

-- An entry: it is the one at the root.
pub pop_entry_tells : (q : List Entry) (n : ℕ) (entry : Entry) (left : ℕ) → pop_answer q n ≡ Some (entry, left)
    → (0 < n) × (entry ≡ top q) × (left ≡ n - 1)
unfolding pop_answer
pop_entry_tells q n entry left there =
    either_way (ltb 0 n)
    (λ e.
    let answer : Some (top q, n - 1) ≡ Some (entry, left) = rw (pop_answer, e) at there in
    let same : (entry, left) ≡ (top q, n - 1) = cc in
    (ltb-true 0 n e, ap (λ (p : Entry × ℕ). p.0) same, ap (λ (p : Entry × ℕ). p.1) same))
    (λ e.
    let answer : None ≡ Some (entry, left) = rw (pop_answer, e) at there in
    let never : ◌≡◌ {A = ℕ} 0 1 = cc in
    absurd (omega arith))
