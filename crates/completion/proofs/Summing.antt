-- Taking the entries of one origin and left side off the queue, case by case.
use Rattle.std.proofs.Common.{◌≡◌, refl, sym, ap, ap₂, ◌∙◌, subst, Bool, true, false, ◌&&◌, ◌||◌, not, List, [], ◌∷◌, ℕ, suc, ◌+◌, ◌-◌, ◌≤◌, ◌<◌, add-one, arith, length, take, length-take, take-suc, eqb, eq-eqb, ne_eqb, Some}
use Rattle.laws.specs.Counts.{count, once}
use Rattle.laws.proofs.Counts.{count-append}
use Rattle.laws.specs.Turns.{until}
use Rattle.laws.proofs.Turns.{until_turns}
use Rattle.binary_heap.specs.Entry.{Entry, no_entry, entry_key}
use Rattle.binary_heap.specs.Queue.{pop_queue, pop_answer}
use Rattle.binary_heap.proofs.Answers.{pop_entry_tells}
use Rattle.grammar.specs.Rules.{Rule}
use Rattle.item.specs.Item.{Item, rule_at}
use Rattle.binary_heap.specs.Sift.{entry_at}
use Rattle.parse.specs.WellFormed.{left_of}
use Rattle.completion.specs.Pass.{Pass, pass_with}
use Rattle.completion.specs.inner.Ready.{PassFits, RulesRead}
use Rattle.completion.specs.Complete.{complete}
use Rattle.completion.proofs.Pushes.{append-stopped}
use Rattle.completion.proofs.Entries.{append-count, append-items, append_queued}
use Rattle.completion.specs.Sums.{greatest, is_of, product_node, sum_ends, pop_greatest, next_summand, summed, complete_sum}

-- An item of another origin is not of the pair; one of the origin is, where its left side is.
pub of_other : (rs : List Rule) (k x : ℕ) (i : Item) (o : ℕ) → o ≡ i.origin → (o ≡ k → ⊥) → false ≡ is_of rs k x i
of_other rs k x i o is other = sym (ap (λ (b : Bool). b && eqb (left_of rs i) x) (ne_eqb i.origin k (λ e. other (is ∙ e))))

pub of_left : (rs : List Rule) (k x : ℕ) (i : Item) (o l : ℕ) → o ≡ i.origin → o ≡ k → l ≡ left_of rs i → eqb l x ≡ is_of rs k x i
of_left rs k x i o l is same left =
    ap (λ (y : ℕ). eqb y x) left ∙ sym (ap (λ (b : Bool). b && eqb (left_of rs i) x) (eq-eqb i.origin k (sym is ∙ same)))

-- What is not 0 is above it.
pub nonzero : (n : ℕ) → (n ≡ 0 → ⊥) → 0 < n
nonzero n some = omega arith

module _ (rs : List Rule) (k x : ℕ) (s : Pass) where
  -- A sum ends at an empty queue.
  pub ends-empty : s.at.queued ≡ 0 → true ≡ sum_ends rs k x s
  ends-empty none = sym (ap (λ (b : Bool). b || not (eqb (greatest s).origin k && eqb (left_of rs (greatest s)) x)) (eq-eqb s.at.queued 0 none))

  module _ (some : s.at.queued ≡ 0 → ⊥) where
    -- Else its greatest entry decides.
    pub ends-greatest : not (is_of rs k x (greatest s)) ≡ sum_ends rs k x s
    ends-greatest = sym (ap (λ (b : Bool). b || not (is_of rs k x (greatest s))) (ne_eqb s.at.queued 0 some))

    -- It goes on at an entry of this origin and left side.
    pub ends_not : (greatest s).origin ≡ k → left_of rs (greatest s) ≡ x → false ≡ sum_ends rs k x s
    ends_not same left =
        sym (ap₂ (λ (a b : Bool). not (a && b)) (eq-eqb (greatest s).origin k same) (eq-eqb (left_of rs (greatest s)) x left)) ∙ ends-greatest

-- The greatest entry comes off.
pub popped_entry : (s : Pass) (entry : Entry) (left : ℕ) (queue : List Entry) → pop_answer s.queue s.at.queued ≡ Some (entry, left)
    → queue ≡ pop_queue (entry_key s.items) s.queue s.at.queued
    → pass_with (record { stopped = s.at.stopped; items = s.at.items; queued = left; used = s.at.used }) s.items queue s.units ≡ pop_greatest s
unfolding pop_greatest
popped_entry s entry left queue answer popped =
    ap₂ (λ (m : ℕ) (w : List Entry). pass_with (record { stopped = s.at.stopped; items = s.at.items; queued = m; used = s.at.used }) s.items w s.units)
    (pop_entry_tells s.queue s.at.queued entry left answer).2 popped

-- In a pass that was refused that is all: its Product is not written.
pub next_stopped : (s : Pass) (n : ℕ) (entry : Entry) (left : ℕ) (queue : List Entry) → n ≡ s.at.stopped → (n ≡ 0 → ⊥) → pop_answer s.queue s.at.queued ≡ Some (entry, left)
    → queue ≡ pop_queue (entry_key s.items) s.queue s.at.queued
    → pass_with (record { stopped = n; items = s.at.items; queued = left; used = s.at.used }) s.items queue s.units ≡ next_summand s
unfolding next_summand pop_greatest
next_stopped s n entry left queue is stopped answer popped =
    ap (λ (m : ℕ). pass_with (record { stopped = m; items = s.at.items; queued = left; used = s.at.used }) s.items queue s.units) is
    ∙ popped_entry s entry left queue answer popped
    ∙ sym (append-stopped (pop_greatest s) (product_node s.items (entry_at s.queue 0)) (λ e. stopped (is ∙ e)))

-- A summand is an entry fewer, and leaves the items.
pub next_queued : (s : Pass) → (next_summand s).at.queued ≡ s.at.queued - 1
unfolding next_summand pop_greatest
next_queued s = append_queued (product_node s.items (entry_at s.queue 0)) (pop_greatest s)

pub next-count : (s : Pass) → (next_summand s).at.items ≡ s.at.items
unfolding next_summand pop_greatest
next-count s = append-count (product_node s.items (entry_at s.queue 0)) (pop_greatest s)

pub next-items : (s : Pass) → (next_summand s).items ≡ s.items
unfolding next_summand pop_greatest
next-items s = append-items (product_node s.items (entry_at s.queue 0)) (pop_greatest s)

-- How many of the first entries pass a test: none of none, and one entry more.
pub counted_none : (test : Entry → Bool) (q : List Entry) → 0 ≡ count test (take 0 q)
unfolding count
counted_none test q = refl

pub counted_next : (test : Entry → Bool) (q : List Entry) (pos number : ℕ) → pos < length q → number ≡ count test (take pos q)
    → number + once (test (entry_at q pos)) ≡ count test (take (pos + 1) q)
unfolding count
counted_next test q pos number there before =
    let more : once (test (entry_at q pos)) + 0 ≡ once (test (entry_at q pos)) = omega arith in
    ap₂ (λ (n m : ℕ). n + m) before (sym more)
    ∙ sym (count-append test (take pos q) (entry_at q pos ∷ []))
    ∙ ap (count test) (sym (take-suc q pos no_entry there))
    ∙ ap (λ (n : ℕ). count test (take n q)) (sym (add-one pos))

-- No more than there are.
-- A test counts for one at the most.
pub at_most : (b : Bool) → once b ≤ 1
at_most true = omega arith
at_most false = omega arith

count-few : (test : Entry → Bool) (l : List Entry) → count test l ≤ length l
unfolding count
count-few test [] = omega arith
count-few test (e ∷ l) = omega (arith, count-few test l, at_most (test e))

pub counted-few : (test : Entry → Bool) (q : List Entry) (pos number : ℕ) → number ≡ count test (take pos q) → number ≤ pos
counted-few test q pos number is = omega (arith, count-few test (take pos q), length-take pos q)

-- One summand more, of those that are left.
pub sum-turn : (rs : List Rule) (k x : ℕ) (s next : Pass) → sum_ends rs k x s ≡ false → 0 < s.at.queued → next ≡ next_summand s
    → until next.at.queued (sum_ends rs k x) next_summand next ≡ until s.at.queued (sum_ends rs k x) next_summand s
sum-turn rs k x s next on some step =
    let fewer : suc (s.at.queued - 1) ≡ s.at.queued = omega arith in
    ap (λ (u : Pass). until u.at.queued (sum_ends rs k x) next_summand u) step
    ∙ ap (λ (n : ℕ). until n (sum_ends rs k x) next_summand (next_summand s)) (next_queued s)
    ∙ sym (until_turns (sum_ends rs k x) next_summand (s.at.queued - 1) s on)
    ∙ ap (λ (n : ℕ). until n (sum_ends rs k x) next_summand s) fewer

-- Rules are read as before: the items stay.
pub read_next : (rs : List Rule) (s : Pass) → RulesRead rs s → 0 < s.at.queued → PassFits (next_summand s) → RulesRead rs (next_summand s)
read_next rs s read some sound = record {
  sound = sound;
  few_rules = read.few_rules;
  rules = λ p there. subst (λ (w : List ℕ). rule_at w p < length rs) (sym (next-items s)) (read.rules p (omega (arith, next-count s)));
}

-- One sum, and then its pair, as the code goes about it.
pub sum_is : (rs : List Rule) (starts rows : List ℕ) (k x : ℕ) (s popped result : Pass) → k ≡ (greatest s).origin → x ≡ left_of rs (greatest s)
    → popped ≡ summed rs k x s → result ≡ complete rs starts rows k x s.at.used popped → result ≡ complete_sum rs starts rows s
unfolding complete_sum
sum_is rs starts rows k x s popped result set symbol pops completes =
    completes
    ∙ ap (λ (u : Pass). complete rs starts rows k x s.at.used u) pops
    ∙ ap₂ (λ (k x : ℕ). complete rs starts rows k x s.at.used (summed rs k x s)) set symbol
