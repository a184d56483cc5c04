-- What a sum pops: with what stays, it is what was queued; all of it is of the sum's pair, and none of that pair stays.
use Rattle.std.proofs.Common.{◌≡◌, refl, sym, ◌∙◌, ap, subst, Bool, true, false, not, ◌||◌, List, ℕ, zero, suc, ◌+◌, ◌<◌, arith, eqb, eqb-true}
use mathlib.Core.List.Memᴰ.{head as here}
use mathlib.Core.List.{Memᴰ as Member}
use Rattle.laws.specs.Counts.{count, once}
use Rattle.laws.proofs.Tests.{both_true}
use Rattle.item.specs.Item.{Item, item_at}
use Rattle.binary_heap.specs.Entry.{Entry, entry_key}
use Rattle.binary_heap.specs.Sift.{entry_at}
use Rattle.binary_heap.specs.Heap.{popped}
use Rattle.binary_heap.proofs.PopLaws.{popped-counts}
use Rattle.grammar.specs.Rules.{Rule}
use Rattle.parse.specs.WellFormed.{left_of}
use Rattle.node.specs.declared.Node.{Node}
use Rattle.node.specs.declared.Node.TheVariants.{Sum}
use Rattle.completion.specs.Pass.{Pass, append}
use Rattle.completion.specs.Sums.{greatest, is_of, summands, product_node, sum_ends, pop_greatest, next_summand, pop_sum, summed}
use Rattle.completion.specs.inner.Ready.{PassFits}
use Rattle.completion.proofs.Entries.{entries_of, popped_pass, append_cases, pop_is, entry_at_lem, some-entries, popped-entries, append-count, append-items, append_queued, append-queue}
use Rattle.completion.proofs.Summing.{next-count, next-items, ends_not}
use Rattle.completion.proofs.Turning.{sum_goes}
use Rattle.completion.proofs.Charting.{append-sound, next-sound}
use Rattle.forest.proofs.Counted.{Pops, pops_count}
use Rattle.forest.proofs.Loops.{popped_by, until_pops, popped-has}

-- The greatest entry.
abbrev pub top_of : Pass → Entry
top_of s = entry_at s.queue 0

-- What is popped for a pair, in the order of the pops; and for a Sum, once its own node was written.
abbrev pub popped_for : List Rule → ℕ → ℕ → Pass → List Entry
popped_for rs k x s = popped_by s.at.queued (sum_ends rs k x) next_summand top_of s

abbrev pub products_for : List Rule → ℕ → ℕ → Pass → List Entry
products_for rs k x s = popped_for rs k x (append (Sum (summands rs k x s) x) s)

-- Writing a node leaves the entries.
pub append-entries : (n : Node) (s : Pass) → entries_of (append n s) ≡ entries_of s
append-entries n s = append_cases (λ (t : Pass). entries_of t ≡ entries_of s) s n refl (λ us on is some room. refl) refl

-- Popping takes away the greatest entry, once.
pop_counts : (s : Pass) → PassFits s → 0 < s.at.queued → (t : Entry → Bool)
    → count t (entries_of s) ≡ count t (entries_of (pop_greatest s)) + once (t (top_of s))
pop_counts s sound some t =
    pop_is (λ u. count t (entries_of s) ≡ count t (entries_of u) + once (t (top_of s))) s some
    (let left : count t (entries_of (popped_pass s)) ≡ count t (popped (entry_key s.items) (entries_of s)) =
    ap (λ l. count t l) (popped-entries s sound.queued_fit some) in
    omega (
      arith,
      popped-counts (entry_key s.items) (entries_of s) (some-entries s sound.queued_fit some) t,
      ap (λ e. once (t e)) (entry_at_lem s sound.queued_fit 0 some),
    ))

next-counts : (s : Pass) → PassFits s → 0 < s.at.queued → (t : Entry → Bool)
    → count t (entries_of s) ≡ count t (entries_of (next_summand s)) + once (t (top_of s))
unfolding next_summand
next-counts s sound some t =
    pop_counts s sound some t
    ∙ ap (λ l. count t l + once (t (top_of s))) (sym (append-entries (product_node s.items (entry_at s.queue 0)) (pop_greatest s)))

-- So what is popped for a pair, with what stays, is what was there.
pop_pops : (rs : List Rule) (k x : ℕ) (s : Pass) → PassFits s → Pops (entries_of s) (popped_for rs k x s) (entries_of (pop_sum rs k x s))
unfolding pop_sum
pop_pops rs k x s sound =
    until_pops (sum_ends rs k x) next_summand top_of PassFits (λ u goes sound. next-sound u sound (sum_goes rs k x u goes)) entries_of
    (λ u goes sound. next-counts u sound (sum_goes rs k x u goes)) s.at.queued s sound

pub sum-counts : (rs : List Rule) (k x : ℕ) (s : Pass) → PassFits s → (t : Entry → Bool)
    → count t (entries_of s) ≡ count t (entries_of (summed rs k x s)) + count t (products_for rs k x s)
sum-counts rs k x s sound t =
    let n : Node = Sum (summands rs k x s) x in
    ap (λ l. count t l) (sym (append-entries n s)) ∙ pops_count (pop_pops rs k x (append n s) (append-sound n s sound)) t

-- An entry of an item of a pair.
pub record Owned (rs : List Rule) (s : Pass) (k x : ℕ) (e : Entry) : Type 0 where
  pub there : e.place < s.at.items
  pub origin : (item_at s.items e.place).origin ≡ k
  pub left : left_of rs (item_at s.items e.place) ≡ x

-- While a sum goes on its greatest entry is of its pair.
goes_owned : (rs : List Rule) (k x : ℕ) (s : Pass) → PassFits s → sum_ends rs k x s ≡ false → Owned rs s k x (top_of s)
goes_owned rs k x s sound goes =
    by (eqb s.at.queued 0) (is_of rs k x (greatest s)) refl goes
  where
    by : (a b : Bool) → is_of rs k x (greatest s) ≡ b → (a || not b) ≡ false → Owned rs s k x (top_of s)
    by true b e ends = absurd (let z : ◌≡◌ {A = ℕ} 0 1 = cc in omega arith)
    by false false e ends = absurd (let z : ◌≡◌ {A = ℕ} 0 1 = cc in omega arith)
    by false true e ends =
        let p = both_true (eqb (greatest s).origin k) (eqb (left_of rs (greatest s)) x) e in
        record {
          there = sound.entries 0 (sum_goes rs k x s goes);
          origin = eqb-true (greatest s).origin k p.0;
          left = eqb-true (left_of rs (greatest s)) x p.1;
        }

-- A pass with the items of another.
record Same (s u : Pass) : Type 0 where
  pub sound : PassFits u
  pub count : u.at.items ≡ s.at.items
  pub items : u.items ≡ s.items

owned_back : {rs : List Rule} {k x : ℕ} {s u : Pass} (e : Entry) → Same s u → Owned rs u k x e → Owned rs s k x e
owned_back {rs} {k} {x} {s} e same o =
    record {
      there = omega (arith, o.there, same.count);
      origin = subst (λ (w : List ℕ). (item_at w e.place).origin ≡ k) same.items o.origin;
      left = subst (λ (w : List ℕ). left_of rs (item_at w e.place) ≡ x) same.items o.left;
    }

-- So all that a sum pops is of its pair,
pub products_owned : (rs : List Rule) (k x : ℕ) (s : Pass) → PassFits s → (e : Entry) → Member e (products_for rs k x s) → Owned rs s k x e
products_owned rs k x s sound =
    let n : Node = Sum (summands rs k x s) x in
    popped-has (sum_ends rs k x) next_summand top_of (Same s)
    (λ u goes same.
    record {
      sound = next-sound u same.sound (sum_goes rs k x u goes);
      count = next-count u ∙ same.count;
      items = next-items u ∙ same.items;
    })
    (Owned rs s k x) (λ u goes same. owned_back (top_of u) same (goes_owned rs k x u same.sound goes)) (append n s).at.queued (append n s)
    (record { sound = append-sound n s sound; count = append-count n s; items = append-items n s })

-- and the greatest entry is the first of it.
first_popped : (rs : List Rule) (k x n : ℕ) (s : Pass) → 0 < n → sum_ends rs k x s ≡ false → Member (top_of s) (popped_by n (sum_ends rs k x) next_summand top_of s)
unfolding popped_by
first_popped rs k x zero s some goes = absurd (omega arith)
first_popped rs k x (suc n) s some goes = rw (popped_by, goes) (here refl)

pub products-some : (rs : List Rule) (s : Pass) → 0 < s.at.queued
    → Member (top_of s) (products_for rs (greatest s).origin (left_of rs (greatest s)) s)
products-some rs s some =
    let k : ℕ = (greatest s).origin in
    let x : ℕ = left_of rs (greatest s) in
    let n : Node = Sum (summands rs k x s) x in
    let top : top_of (append n s) ≡ top_of s = ap (λ q. entry_at q 0) (append-queue n s) in
    let same : greatest (append n s) ≡ greatest s =
    ap (λ (w : List ℕ). item_at w (top_of (append n s)).place) (append-items n s) ∙ ap (λ (e : Entry). item_at s.items e.place) top in
    subst (λ e. Member e (products_for rs (greatest s).origin (left_of rs (greatest s)) s)) top
    (first_popped rs (greatest s).origin (left_of rs (greatest s)) (append n s).at.queued (append n s) (omega (arith, append_queued n s))
    (sym
    (ends_not rs k x (append n s) (λ e. omega (arith, append_queued n s)) (ap (λ (i : Item). i.origin) same) (ap (left_of rs) same))))
