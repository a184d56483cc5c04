-- Each pair of an origin and a left side is completed once at the most, after its last summand.
use Rattle.std.proofs.Common.{◌≡◌, refl, sym, ap, ◌∙◌, true, false, List, [], ◌∷◌, ℕ, zero, suc, ◌≤◌, ◌<◌, arith, length, get_or}
use native.Mathlib.Decide.{dec_lt, ℕ_discrete}
use Rattle.laws.specs.Turns.{until}
use Rattle.laws.proofs.Turns.{until-keeps}
use Rattle.laws.proofs.Tests.{either_way}
use Rattle.binary_heap.proofs.Each.{Every}
use Rattle.item.specs.Item.{Item, item_at, key_of}
use Rattle.binary_heap.specs.Entry.{entry_key}
use Rattle.grammar.specs.Rules.{Rule, no_rule}
use Rattle.parse.specs.WellFormed.{left_of}
use Rattle.completion.specs.Pass.{Pass}
use Rattle.completion.specs.Scan.{scan_all}
use Rattle.completion.specs.Sums.{greatest, complete_sum, rests}
use Rattle.completion.specs.inner.Ready.{IsSet}
use Rattle.completion.proofs.Turning.{not_resting}
use Rattle.completion.proofs.Entries.{entries_of, each_entry}
use Rattle.completion.proofs.Charting.{Charts, greatest_charts}
use Rattle.completion.proofs.Heaped.{Heaped}
use Rattle.completion.specs.inner.Pending.{Grounds, Pending}
use Rattle.completion.proofs.Pending.{Lower, lower_down, lower-other, pending_steady, pending_sum, sum-lower}
use Rattle.completion.proofs.Scanning.{Leaf, pending_scan_all, scan_all-lower}

-- A set and a symbol.
pub record Pair : Type 0 where
  pub set : ℕ
  pub symbol : ℕ

abbrev pub pair_of : List Rule → Item → Pair
pair_of rs i = record { set = i.origin; symbol = left_of rs i }

abbrev pub no_pair : Pair
no_pair = record { set = 0; symbol = 0 }

-- Each entry of the queue comes below a pair.
pub record AllLower (rs : List Rule) (k x : ℕ) (s : Pass) : Type 0 where
  pub all : Every (λ v. Lower rs k x (item_at s.items v.place)) (entries_of s)

pub heaped_all : {rs : List Rule} {starts : List ℕ} {k x : ℕ} {s t : Pass} → Heaped rs starts (Lower rs k x) s t → AllLower rs k x t
heaped_all heaped = record { all = heaped.ordered.each }

-- A symbol with a rule.
pub record HasRule (rs : List Rule) (x : ℕ) : Type 0 where
  pub rule : ℕ
  pub is_rule : rule < length rs
  pub left : (get_or rs rule no_rule).left ≡ x

-- Pair `b` comes below pair `a`: its set is not above, and at the same set every rule of its symbol is below every rule of the other.
pub record Beneath (rs : List Rule) (a b : Pair) : Type 0 where
  pub up_to : b.set ≤ a.set
  pub rules :
      b.set ≡ a.set → (q r : ℕ) → q < length rs → r < length rs → (get_or rs q no_rule).left ≡ b.symbol → (get_or rs r no_rule).left ≡ a.symbol → q < r
  pub ruled : HasRule rs b.symbol

-- So it is another pair.
pub beneath_other : {rs : List Rule} {a b : Pair} → Beneath rs a b → a ≡ b → ⊥
beneath_other {rs} {a} {b} beneath same =
    let set : a.set ≡ b.set = ap (λ (p : Pair). p.set) same in
    let symbol : a.symbol ≡ b.symbol = ap (λ (p : Pair). p.symbol) same in
    let r : ℕ = beneath.ruled.rule in
    let there : beneath.ruled.rule < length rs = beneath.ruled.is_rule in
    let less : r < r = beneath.rules (sym set) r r there there beneath.ruled.left (beneath.ruled.left ∙ sym symbol) in
    omega arith

module _ {rs : List Rule} {starts rows : List ℕ} (grounds : Grounds rs starts rows) where
  -- The pair of an item below a pair is beneath it: rules of one left side are adjacent.
  pub lower_beneath : (k x : ℕ) (i : Item) → i.rule < length rs → Lower rs k x i → Beneath rs (record { set = k; symbol = x }) (pair_of rs i)
  lower_beneath k x i rule lower =
      record {
        ruled = record { rule = i.rule; is_rule = rule; left = refl };
        up_to = lower.up_to;
        rules = λ same q r there-q there-r left-q left_r.
            let low : i.rule < r = omega (arith, lower.below r there-r left_r) in
            elim (dec_lt q r) [
              | yes less ↦ less
              | no above ↦
                  absurd (
                  elim (ℕ_discrete q r) [
                    | yes is ↦ lower-other lower rule same (sym left-q ∙ ap (λ (n : ℕ). (get_or rs n no_rule).left) is ∙ left_r)
                    | no differs ↦
                        lower-other lower rule same (grounds.adjacent i.rule r q low (omega arith) there-q (sym left-q) ∙ left_r)
                  ])
            ];
      }

  module _ (s : Pass) (pending : Pending rs starts s) (some : 0 < s.at.queued) where
    charted : Charts rs starts (greatest s)
    charted = greatest_charts rs starts s s some (pending_steady s pending)

    -- After a sum all entries are below its first summand.
    pub sum_below : Every (λ v. entry_key (complete_sum rs starts rows s).items v < key_of (greatest s)) (entries_of (complete_sum rs starts rows s))
    sum_below = record {
      each = λ i there. ((sum-lower grounds s pending some).ordered.each.each i there).below (greatest s).rule charted.is_rule refl;
    }

    -- What was above all entries before a sum is above all after it.
    pub sum-keeps-lower : (k x : ℕ) → Lower rs k x (greatest s) → AllLower rs k x (complete_sum rs starts rows s)
    sum-keeps-lower k x lower = record {
      all = record {
        each = λ i there.
            lower_down grounds.rules_fit.few_rules charted.is_rule lower (let less = sum_below.each i there in omega arith);
      };
    }

    pub greatest-lower : (k x : ℕ) → AllLower rs k x s → Lower rs k x (greatest s)
    greatest-lower k x lower =
        each_entry s pending.sound.queued_fit (λ v. Lower rs k x (item_at s.items v.place)) lower.all 0 some

  -- A pending pass with nothing above a pair.
  record Under (k x : ℕ) (s : Pass) : Type 0 where
    pub pending : Pending rs starts s
    pub lower : AllLower rs k x s

  under_sum : (k x : ℕ) (s : Pass) → rests s ≡ false → Under k x s → Under k x (complete_sum rs starts rows s)
  under_sum k x s goes under =
      let some : 0 < s.at.queued = (not_resting s goes).1 in
      record {
        pending = pending_sum grounds s under.pending some;
        lower = sum-keeps-lower s under.pending some k x (greatest-lower s under.pending some k x under.lower);
      }

  -- Once a pair was completed no entry of it comes any more, however many sums follow.
  pub never_again : (n : ℕ) (s : Pass) → Pending rs starts s → 0 < s.at.queued
      → AllLower rs (greatest s).origin (left_of rs (greatest s)) (until n rests (complete_sum rs starts rows) (complete_sum rs starts rows s))
  never_again n s pending some =
      (until-keeps rests (complete_sum rs starts rows) (Under (greatest s).origin (left_of rs (greatest s)))
      (under_sum (greatest s).origin (left_of rs (greatest s))) n (complete_sum rs starts rows s)
      (record { pending = pending_sum grounds s pending some; lower = heaped_all (sum-lower grounds s pending some) })).lower

-- The pairs that the sums of a pass complete, `n` at the most, in their order.
unfoldable pub pairs_completed : List Rule → List ℕ → List ℕ → ℕ → Pass → List Pair
pairs_completed rs starts rows zero s = []
pairs_completed rs starts rows (suc n) s =
    elim (rests s) [ true ↦ [] | false ↦ pair_of rs (greatest s) ∷ pairs_completed rs starts rows n (complete_sum rs starts rows s) ]

-- Of some pairs, each is beneath a given one.
pub record AllBeneath (rs : List Rule) (a : Pair) (pairs : List Pair) : Type 0 where
  pub beneath : (i : ℕ) → i < length pairs → Beneath rs a (get_or pairs i no_pair)

-- Pairs that fall: each is beneath those before it.
pub data Falling (rs : List Rule) : List Pair → Type 0 where
  done : Falling rs []
  then : {a : Pair} {pairs : List Pair} → AllBeneath rs a pairs → Falling rs pairs → Falling rs (a ∷ pairs)

-- In falling pairs each is beneath every one before it, and so no pair is there twice.
pub falling_at : {rs : List Rule} {pairs : List Pair} → Falling rs pairs → (i j : ℕ) → i < j → j < length pairs
    → Beneath rs (get_or pairs i no_pair) (get_or pairs j no_pair)
falling_at done i j before there = absurd (omega arith)
falling_at (then all falling) zero zero before there = absurd (omega arith)
falling_at (then all falling) zero (suc j) before there = all.beneath j (omega arith)
falling_at (then all falling) (suc i) zero before there = absurd (omega arith)
falling_at (then all falling) (suc i) (suc j) before there = falling_at falling i j (omega arith) (omega arith)

pub falling_once : {rs : List Rule} {pairs : List Pair} → Falling rs pairs → (i j : ℕ) → i < j → j < length pairs
    → get_or pairs i no_pair ≡ get_or pairs j no_pair → ⊥
falling_once falling i j before there = beneath_other (falling_at falling i j before there)

module _ {rs : List Rule} {starts rows : List ℕ} (grounds : Grounds rs starts rows) where
  -- The pairs completed from a pass whose entries are below a pair are beneath that pair.
  pairs_beneath : (n k x : ℕ) (s : Pass) → Pending rs starts s → AllLower rs k x s
      → AllBeneath rs (record { set = k; symbol = x }) (pairs_completed rs starts rows n s)
  unfolding pairs_completed
  pairs_beneath zero k x s pending lower = record { beneath = λ i there. absurd (omega arith) }
  pairs_beneath (suc n) k x s pending lower =
      let next : (some : 0 < s.at.queued) → AllBeneath rs (record { set = k; symbol = x }) (pairs_completed rs starts rows n (complete_sum rs starts rows s)) =
      λ some. pairs_beneath n k x (complete_sum rs starts rows s) (pending_sum grounds s pending some)
      (sum-keeps-lower grounds s pending some k x (greatest-lower grounds s pending some k x lower)) in
      either_way (rests s) (λ at_rest. rw (pairs_completed, at_rest) (record { beneath = λ i there. absurd (omega arith) }))
      (λ goes.
      let some : 0 < s.at.queued = (not_resting s goes).1 in
      let first : Beneath rs (record { set = k; symbol = x }) (pair_of rs (greatest s)) =
      lower_beneath grounds k x (greatest s) (charted grounds s pending some).is_rule (greatest-lower grounds s pending some k x lower) in
      rw (pairs_completed, goes) (record { beneath = by_place (pair_of rs (greatest s)) (pairs_completed rs starts rows n (complete_sum rs starts rows s)) first (next some) }))
    where
      by_place : (b : Pair) (pairs : List Pair) → Beneath rs (record { set = k; symbol = x }) b → AllBeneath rs (record { set = k; symbol = x }) pairs
          → (i : ℕ) → i < length (b ∷ pairs) → Beneath rs (record { set = k; symbol = x }) (get_or (b ∷ pairs) i no_pair)
      by_place b pairs first rest zero there = first
      by_place b pairs first rest (suc i) there = rest.beneath i (omega arith)

  -- The pairs that the sums complete fall strictly: each is completed once at the most.
  pub pairs_fall : (n : ℕ) (s : Pass) → Pending rs starts s → Falling rs (pairs_completed rs starts rows n s)
  unfolding pairs_completed
  pairs_fall zero s pending = done
  pairs_fall (suc n) s pending =
      let next : (some : 0 < s.at.queued) → Falling rs (pairs_completed rs starts rows n (complete_sum rs starts rows s)) =
      λ some. pairs_fall n (complete_sum rs starts rows s) (pending_sum grounds s pending some) in
      either_way (rests s) (λ at_rest. rw (pairs_completed, at_rest) done)
      (λ goes.
      let some : 0 < s.at.queued = (not_resting s goes).1 in
      rw (pairs_completed, goes)
      (then
      (pairs_beneath n (greatest s).origin (left_of rs (greatest s)) (complete_sum rs starts rows s) (pending_sum grounds s pending some)
      (heaped_all (sum-lower grounds s pending some)))
      (next some)))

  -- The pair of the latest set and a token, and those that the sums complete behind the scanning of a position, fall strictly.
  pub pass_falls : (n e : ℕ) (kinds : List ℕ) (s : Pass) → Pending rs starts s → s.at.queued ≡ 0 → IsSet starts e → (t : ℕ) → Leaf rs t
      → Falling rs (record { set = e; symbol = t } ∷ pairs_completed rs starts rows n (scan_all rs starts rows e kinds s))
  pass_falls n e kinds s pending none set t leaf =
      let after : Pending rs starts (scan_all rs starts rows e kinds s) = pending_scan_all grounds set kinds s pending in
      then (pairs_beneath n e t (scan_all rs starts rows e kinds s) after (heaped_all (scan_all-lower rows s pending e set kinds none t leaf)))
      (pairs_fall n (scan_all rs starts rows e kinds s) after)
