-- Counting the entries of one origin and left side: their places hang together from the root on.
use Rattle.std.proofs.Common.{◌≡◌, sym, ap, ◌∙◌, Bool, true, false, ◌&&◌, List, ℕ, zero, suc, ◌+◌, ◌-◌, ◌*◌, ◌≤◌, ◌<◌, min, arith, length, take, eqb, eq-eqb, eqb-true}
use native.Mathlib.Decide.{dec_lt, ℕ_discrete}
use Rattle.laws.specs.Counts.{count, once}
use Rattle.laws.proofs.Tests.{either_way, both_true}
use Rattle.item.specs.Item.{Item, item_at, key_of}
use Rattle.binary_heap.specs.Entry.{Entry, entry_key}
use Rattle.binary_heap.specs.Sift.{entry_at, parent}
use Rattle.grammar.specs.Rules.{Rule}
use Rattle.parse.specs.WellFormed.{left_of}
use Rattle.completion.specs.Pass.{Pass}
use Rattle.completion.specs.Sums.{greatest, is_of}
use Rattle.completion.specs.inner.Pending.{Grounds, Pending, Rooted}
use Rattle.completion.proofs.Entries.{entries-length, entry_at_lem, each_entry}
use Rattle.completion.proofs.Pending.{Lower, lower-other, lower_down, lower-adjacent, greatest_entry}
use Rattle.completion.proofs.Summing.{counted_none, counted_next}

-- The item of an entry is of origin `k` and left side `x`.
abbrev pub is_summand : List Rule → ℕ → ℕ → List ℕ → Entry → Bool
is_summand rs k x items e = is_of rs k x (item_at items e.place)

-- So far `number` of the entries before `pos` pass a test, and the children of each of them stand before `end`.
pub record Counting (test : Entry → Bool) (q : List Entry) (queued number end pos : ℕ) : Type 0 where
  pub some : 0 < end
  pub within : end ≤ queued
  pub up_to : pos ≤ end
  pub counted : number ≡ count test (take pos q)
  pub children : (i j : ℕ) → i < pos → test (entry_at q i) ≡ true → j ≤ 2 * i + 2 → j < queued → j < end

module _ (test : Entry → Bool) (q : List Entry) (queued : ℕ) (fit : queued ≤ length q) where
  -- None is counted at first, and the root is before `end`.
  pub counting_begins : 0 < queued → Counting test q queued 0 1 0
  counting_begins some =
      record { some = omega arith; within = omega arith; up_to = omega arith; counted = counted_none test q; children = λ i j before passes up there. absurd (omega arith) }

  module _ (number end pos : ℕ) (counting : Counting test q queued number end pos) (before : pos < end) where
    -- An entry that fails is passed over,
    pub counting_passed : false ≡ test (entry_at q pos) → Counting test q queued number end (pos + 1)
    counting_passed fails =
        record {
          some = counting.some;
          within = counting.within;
          up_to = omega arith;
          counted = (let same : number ≡ number + once false = omega arith in same)
              ∙ ap (λ (b : Bool). number + once b) fails
              ∙ counted_next test q pos number (omega (arith, counting.within)) counting.counted;
          children = λ i j up passes near there.
              elim (ℕ_discrete i pos) [
                | yes is ↦ absurd (omega (arith, ap once (fails ∙ ap (λ (n : ℕ). test (entry_at q n)) (sym is) ∙ passes)))
                | no differs ↦ counting.children i j (omega arith) passes near there
              ];
        }

    -- and one that passes is counted, and its children are to be looked at.
    pub counting_found : true ≡ test (entry_at q pos) → Counting test q queued (number + 1) (min (2 * (pos + 1) + 1) queued) (pos + 1)
    counting_found passes =
        record {
          some = omega (arith, counting.within);
          within = omega arith;
          up_to = omega (arith, counting.within);
          counted = ap (λ (b : Bool). number + once b) passes
              ∙ counted_next test q pos number (omega (arith, counting.within)) counting.counted;
          children = λ i j up passes near there. omega arith;
        }

  module _ (number end pos : ℕ) (counting : Counting test q queued number end pos) (all : end ≤ pos)
      (rooted : (j : ℕ) → 0 < j → j < queued → test (entry_at q j) ≡ true → test (entry_at q (parent j)) ≡ true) where
    -- No entry from `end` on passes: the places above it would, up to one whose children stand before `end`.
    none_behind : (bound j : ℕ) → j < bound → end ≤ j → j < queued → test (entry_at q j) ≡ true → ⊥
    none_behind zero j low from there passes = omega arith
    none_behind (suc bound) j low from there passes =
        let above : test (entry_at q (parent j)) ≡ true = rooted j (omega (arith, counting.some)) there passes in
        let further : parent j < bound → end ≤ parent j → parent j < queued → test (entry_at q (parent j)) ≡ true → ⊥ = none_behind bound (parent j) in
        elim (dec_lt (parent j) end) [
          | yes before ↦ (let near : j < end = counting.children (parent j) j (omega (arith, all)) above (omega (arith, counting.some)) there in omega arith)
          | no behind ↦ further (omega (arith, counting.some)) (omega arith) (omega arith) above
        ]

    -- So those behind add nothing.
    counted-behind : (more : ℕ) → end + more ≤ queued → number ≡ count test (take (end + more) q)
    counted-behind zero up =
        counting.counted ∙ ap (λ (n : ℕ). count test (take n q)) (let same : pos ≡ end + 0 = omega (arith, counting.up_to) in same)
    counted-behind (suc more) up =
        let before : number ≡ count test (take (end + more) q) = counted-behind more (omega arith) in
        let fails : test (entry_at q (end + more)) ≡ false =
        either_way (test (entry_at q (end + more))) (λ passes. absurd (none_behind (suc (end + more)) (end + more) (omega arith) (omega arith) (omega arith) passes)) (λ fails. fails) in
        (let same : number ≡ number + once false = omega arith in same)
        ∙ ap (λ (b : Bool). number + once b) (sym fails)
        ∙ counted_next test q (end + more) number (omega arith) before
        ∙ ap (λ (n : ℕ). count test (take n q)) (let next : end + more + 1 ≡ end + suc more = omega arith in next)

    -- All that pass are counted.
    pub counting_done : number ≡ count test (take queued q)
    counting_done =
        counted-behind (queued - end) (omega (arith, counting.within))
        ∙ ap (λ (n : ℕ). count test (take n q)) (let all : end + (queued - end) ≡ queued = omega (arith, counting.within) in all)

-- The entries of the greatest entry's pair are the greatest of the heap: the parent of one is none less, and rules of one left side are adjacent.
pub greatest_rooted : {rs : List Rule} {starts rows : List ℕ} → Grounds rs starts rows → (s : Pass) → Pending rs starts s → 0 < s.at.queued
    → Rooted rs (greatest s).origin (left_of rs (greatest s)) s
greatest_rooted {rs} {starts} {rows} grounds s pending some = record { parents = parents }
  where
    item_of : ℕ → Item
    item_of pos = item_at s.items (entry_at s.queue pos).place

    is_rule : (pos : ℕ) → pos < s.at.queued → (item_of pos).rule < length rs
    is_rule pos there = pending.charted.rules (entry_at s.queue pos).place (pending.sound.entries pos there)

    above : (pos : ℕ) → 0 < pos → pos < s.at.queued → key_of (item_of pos) ≤ key_of (item_of (parent pos))
    above pos low there =
        let up : parent pos < s.at.queued = omega arith in
        omega (
          arith,
          pending.heap.ordered pos low (omega (arith, entries-length s pending.sound.queued_fit)),
          ap (entry_key s.items) (entry_at_lem s pending.sound.queued_fit pos there),
          ap (entry_key s.items) (entry_at_lem s pending.sound.queued_fit (parent pos) up),
        )

    parents : (pos : ℕ) → 0 < pos → pos < s.at.queued → is_of rs (greatest s).origin (left_of rs (greatest s)) (item_of pos) ≡ true
        → is_of rs (greatest s).origin (left_of rs (greatest s)) (item_of (parent pos)) ≡ true
    parents pos low there of =
        let up : parent pos < s.at.queued = omega arith in
        let lower : Lower rs (greatest s).origin (left_of rs (greatest s)) (item_of (parent pos)) → Lower rs (greatest s).origin (left_of rs (greatest s)) (item_of pos) =
        λ lower. lower_down {j = item_of pos} grounds.rules_fit.few_rules (is_rule (parent pos) up) lower (above pos low there) in
        let both = both_true (eqb (item_of pos).origin (greatest s).origin) (eqb (left_of rs (item_of pos)) (left_of rs (greatest s))) of in
        either_way (is_of rs (greatest s).origin (left_of rs (greatest s)) (item_of (parent pos))) (λ is. is)
        (λ other.
        absurd (
        lower-other
        (lower
        (lower-adjacent grounds (greatest s) (item_of (parent pos)) (is_rule 0 some) (is_rule (parent pos) up)
        (each_entry s pending.sound.queued_fit (λ v. entry_key s.items v ≤ key_of (greatest s)) (greatest_entry s pending some) (parent pos) up)
        (not_of (item_of (parent pos)) other)))
        (is_rule pos there) (eqb-true (item_of pos).origin (greatest s).origin both.0) (eqb-true (left_of rs (item_of pos)) (left_of rs (greatest s)) both.1)))
      where
        not_of : (i : Item) → is_of rs (greatest s).origin (left_of rs (greatest s)) i ≡ false → i.origin ≡ (greatest s).origin → left_of rs i ≡ left_of rs (greatest s) → ⊥
        not_of i other origin left =
            omega (arith, ap once (sym other ∙ ap (λ (b : Bool). b && eqb (left_of rs i) (left_of rs (greatest s))) (eq-eqb i.origin (greatest s).origin origin) ∙ eq-eqb (left_of rs i) (left_of rs (greatest s)) left))
