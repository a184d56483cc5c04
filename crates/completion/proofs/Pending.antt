-- Why the sums of a pass end: what is left in the queue after a sum is below that sum's pair.
use Rattle.std.proofs.Common.{◌≡◌, refl, sym, ap, ◌∙◌, subst, true, false, List, ℕ, suc, ◌+◌, ◌*◌, ◌≤◌, ◌<◌, mul-le-mul_right, suc-mul, arith, length, get_or, eqb, eq-eqb, ne_eqb}
use native.Mathlib.Decide.{dec_lt, ℕ_discrete}
use Rattle.laws.specs.Turns.{until}
use Rattle.laws.proofs.Turns.{until-keeps, until-rests, until_turns, until-ends, until-enough}
use Rattle.binary_heap.proofs.Each.{Every}
use Rattle.item.specs.Item.{Item, item_at, origin_at, key_of}
use Rattle.binary_heap.specs.Entry.{Entry, entry_key}
use Rattle.binary_heap.proofs.Top.{top-greatest}
use Rattle.grammar.specs.Rules.{Rule, none, no_rule}
use Rattle.grammar.specs.Accepted.{max_rules}
use Rattle.parse.specs.WellFormed.{left_of}
use Rattle.node.specs.declared.Node.{Node}
use Rattle.node.specs.declared.Node.TheVariants.{Sum}
use Rattle.completion.specs.Pass.{Pass, append}
use Rattle.completion.specs.Complete.{complete}
use Rattle.completion.specs.Sums.{greatest, summands, sum_ends, next_summand, pop_sum, summed, complete_sum, rests, complete_all_sums}
use Rattle.completion.specs.inner.Ready.{IsSet}
use Rattle.completion.specs.inner.Pending.{Grounds, Pending}
use Rattle.completion.proofs.Summing.{next_queued}
use Rattle.completion.proofs.Turning.{sum_goes, sum-ended, not_resting, goes}
use Rattle.completion.proofs.Entries.{entries_of, entries-length, entry_at_lem, each_entry}
use Rattle.completion.proofs.Through.{Begins}
use Rattle.completion.proofs.Charting.{Charts, Steady, steady_refl, steady_append, steady_next, greatest_charts}
use Rattle.completion.proofs.Heaped.{Heaped, heaped_append, heaped_pop, heaped_complete}

-- An item comes below the pair of set `k` and symbol `x`: its origin is not above `k`, and it is below every rule of `x` at `k`.
pub record Lower (rs : List Rule) (k x : ℕ) (i : Item) : Type 0 where
  pub up_to : i.origin ≤ k
  pub below : (r : ℕ) → r < length rs → (get_or rs r no_rule).left ≡ x → key_of i < 4294967296 * k + r

-- An item of origin `k` and left side `x` is not below that pair.
pub lower-other : {rs : List Rule} {k x : ℕ} {i : Item} → Lower rs k x i → i.rule < length rs → i.origin ≡ k → left_of rs i ≡ x → ⊥
lower-other {i = i} lower rule origin left = omega (arith, lower.below i.rule rule left)

-- What is below an item that is below a pair is below the pair.
pub lower_down : {rs : List Rule} {k x : ℕ} {i j : Item} → length rs ≤ max_rules → i.rule < length rs → Lower rs k x i → key_of j ≤ key_of i
    → Lower rs k x j
lower_down few rule lower less =
    record { up_to = omega (arith, lower.up_to); below = λ r there left. omega (arith, lower.below r there left) }

-- An item of an earlier origin is below a pair.
pub lower-earlier : {rs : List Rule} {k x : ℕ} {i : Item} → length rs ≤ max_rules → i.rule < length rs → i.origin < k → Lower rs k x i
lower-earlier few rule earlier = record { up_to = omega arith; below = λ r there left. omega arith }

module _ {rs : List Rule} {starts rows : List ℕ} (grounds : Grounds rs starts rows) where
  few : length rs ≤ max_rules
  few = grounds.rules_fit.few_rules

  -- A rule A ::= x of origin `k` is below the pair of `k` and `x`.
  pub lower-unary : {k x link r : ℕ} → Begins rs rows k x r → (get_or rs r no_rule).second ≡ none → Lower rs k x (record { origin = k; rule = r; handle = link })
  lower-unary {k} {x} {link} {r} begins one =
      record {
        up_to = omega arith;
        below = λ s there left. omega (arith, grounds.unary_below r s begins.is_rule there one (left ∙ sym begins.begins));
      }

  -- Rules of one left side are adjacent: an item that is not above `g`, and not of its origin and left side, is below that pair.
  pub lower-adjacent : (g i : Item) → g.rule < length rs → i.rule < length rs → key_of i ≤ key_of g
      → (i.origin ≡ g.origin → left_of rs i ≡ left_of rs g → ⊥) → Lower rs g.origin (left_of rs g) i
  lower-adjacent g i rule-g rule-i less other =
      elim (dec_lt i.origin g.origin) [
        | yes earlier ↦ lower-earlier few rule-i earlier
        | no same ↦
            (let origin : i.origin ≡ g.origin = omega (arith, few) in
            record {
              up_to = omega arith;
              below = λ s there left.
                  elim (dec_lt i.rule s) [
                    | yes less ↦ omega arith
                    | no above ↦ absurd (between s there left origin (omega (arith, few)) (omega arith))
                  ];
            })
      ]
    where
      between : (s : ℕ) → s < length rs → (get_or rs s no_rule).left ≡ left_of rs g → i.origin ≡ g.origin → i.rule ≤ g.rule → s ≤ i.rule → ⊥
      between s there left origin up from =
          elim (ℕ_discrete s i.rule) [
            | yes is ↦ other origin (ap (λ (r : ℕ). (get_or rs r no_rule).left) (sym is) ∙ left)
            | no differs ↦
                elim (ℕ_discrete i.rule g.rule) [
                  | yes is ↦ other origin (ap (λ (r : ℕ). (get_or rs r no_rule).left) is)
                  | no differs' ↦
                      other origin (sym (grounds.adjacent s i.rule g.rule (omega arith) (omega arith) rule-g left) ∙ left)
                ]
          ]

module _ {rs : List Rule} {starts : List ℕ} (s : Pass) (pending : Pending rs starts s) where
  pub pending_steady : Steady rs starts s s
  pending_steady = steady_refl rs starts s pending.sound pending.charted

  -- No entry is above the greatest.
  pub greatest_entry : 0 < s.at.queued → Every (λ v. entry_key s.items v ≤ key_of (greatest s)) (entries_of s)
  greatest_entry some =
      subst (λ (t : Entry). Every (λ v. entry_key s.items v ≤ entry_key s.items t) (entries_of s)) (entry_at_lem s pending.sound.queued_fit 0 some)
      (top-greatest (entry_key s.items) (entries_of s) pending.heap)

  -- What comes behind a pending pass, sound, charted and a heap, is pending.
  pub pending_onward : {Q : Item → Type 0} (t : Pass) → Heaped rs starts Q s t → Pending rs starts t
  pending_onward t heaped =
      record {
        sound = heaped.steady.sound;
        charted = heaped.steady.charted;
        earlier = λ k p from up_to.
            let same : origin_at t.items p ≡ origin_at s.items p =
            ap (λ (i : Item). i.origin) (heaped.steady.onward.same-items p (omega (arith, pending.charted.starts_fit (k + 1)))) in
            omega (arith, pending.earlier k p from up_to);
        heap = heaped.ordered.heap;
      }

  pending_heaped : Heaped rs starts (λ i. Unit {0}) s s
  pending_heaped =
      record { steady = pending_steady; ordered = record { heap = pending.heap; each = record { each = λ i there. tt } } }

  -- A node written leaves a pending pass pending,
  pub pending_append : (n : Node) → Pending rs starts (append n s)
  pending_append n = pending_onward (append n s) (heaped_append rs starts (λ i. Unit {0}) s n s pending_heaped)

  -- and so does a pair completed.
  pub pending_complete : (rows : List ℕ) (k x link : ℕ) → IsSet starts k → Pending rs starts (complete rs starts rows k x link s)
  pending_complete rows k x link set =
      pending_onward (complete rs starts rows k x link s)
      (heaped_complete rs starts (λ i. Unit {0}) s rows k x link set pending.charted (λ p inside second. tt) (λ r begins one. tt) s pending_heaped)

module _ {rs : List Rule} {starts rows : List ℕ} (grounds : Grounds rs starts rows) (s : Pass) (pending : Pending rs starts s) (k x link : ℕ)
    (set : IsSet starts k) where
  -- Completing a pair queues only what is below it.
  pub complete-lower : (t : Pass) → Heaped rs starts (Lower rs k x) s t → Heaped rs starts (Lower rs k x) s (complete rs starts rows k x link t)
  complete-lower =
      heaped_complete rs starts (Lower rs k x) s rows k x link set pending.charted
      (λ p inside second.
      lower-earlier grounds.rules_fit.few_rules
      (pending.charted.rules p (omega (arith, inside.up_to, pending.charted.starts_fit (k + 1)))) (pending.earlier k p inside.from inside.up_to))
      (λ r begins one. lower-unary grounds begins one)

module _ {rs : List Rule} {starts rows : List ℕ} (grounds : Grounds rs starts rows) (s : Pass) (pending : Pending rs starts s)
    (some : 0 < s.at.queued) where
  -- Popping a sum goes on until it ends.
  pop_ended : (k x : ℕ) (t : Pass) → Steady rs starts s t → sum_ends rs k x (pop_sum rs k x t) ≡ true
  unfolding pop_sum
  pop_ended k x t steady =
      until-ends (sum_ends rs k x) next_summand (Steady rs starts s) (λ u. u.at.queued)
      (λ u goes. steady_next rs starts s u (sum_goes rs k x u goes))
      (λ u goes steady. let more : 0 < u.at.queued = sum_goes rs k x u goes in omega (arith, next_queued u))
      t.at.queued t steady (omega arith)

  -- What is left after the sum is not above its first summand.
  pop_not_above : (k x : ℕ) → Heaped rs starts (λ i. key_of i ≤ key_of (greatest s)) s (summed rs k x s)
  pop_not_above k x =
      heaped_pop rs starts (λ i. key_of i ≤ key_of (greatest s)) s k x (append (Sum (summands rs k x s) x) s)
      (heaped_append rs starts (λ i. key_of i ≤ key_of (greatest s)) s (Sum (summands rs k x s) x) s
      (record { steady = pending_steady s pending; ordered = record { heap = pending.heap; each = greatest_entry s pending some } }))

  greatest-charted : Charts rs starts (greatest s)
  greatest-charted = greatest_charts rs starts s s some (pending_steady s pending)

  -- If anything is left, its greatest is below the sum's pair,
  top-lower : (t : Pass) → Heaped rs starts (λ i. key_of i ≤ key_of (greatest s)) s t
      → sum_ends rs (greatest s).origin (left_of rs (greatest s)) t ≡ true → 0 < t.at.queued
      → Lower rs (greatest s).origin (left_of rs (greatest s)) (greatest t)
  top-lower t heaped ended more =
      lower-adjacent grounds (greatest s) (greatest t) greatest-charted.is_rule (greatest_charts rs starts s t more heaped.steady).is_rule
      (each_entry t heaped.steady.sound.queued_fit (λ v. entry_key t.items v ≤ key_of (greatest s)) heaped.ordered.each 0 more)
      (sum-ended rs (greatest s).origin (left_of rs (greatest s)) t ended more)

  -- and so all that is left is.
  all-lower : (t : Pass) → Heaped rs starts (λ i. key_of i ≤ key_of (greatest s)) s t
      → sum_ends rs (greatest s).origin (left_of rs (greatest s)) t ≡ true
      → Heaped rs starts (Lower rs (greatest s).origin (left_of rs (greatest s))) s t
  all-lower t heaped ended = record {
    steady = heaped.steady;
    ordered = record {
      heap = heaped.ordered.heap;
      each = record {
        each = λ i there.
            let more : 0 < t.at.queued = omega (arith, entries-length t heaped.steady.sound.queued_fit) in
            lower_down grounds.rules_fit.few_rules (greatest_charts rs starts s t more heaped.steady).is_rule (top-lower t heaped ended more)
            ((greatest_entry t (pending_onward s pending t heaped) more).each i there);
      };
    };
  }

  -- After a sum was popped every entry left is below its pair.
  pub pop_lower : Heaped rs starts (Lower rs (greatest s).origin (left_of rs (greatest s))) s
      (summed rs (greatest s).origin (left_of rs (greatest s)) s)
  pop_lower =
      let k : ℕ = (greatest s).origin in
      let x : ℕ = left_of rs (greatest s) in
      all-lower (summed rs (greatest s).origin (left_of rs (greatest s)) s) (pop_not_above (greatest s).origin (left_of rs (greatest s)))
      (pop_ended k x (append (Sum (summands rs k x s) x) s) (steady_append rs starts s (Sum (summands rs k x s) x) s (pending_steady s pending)))

  -- After the pair was completed too.
  pub sum-lower : Heaped rs starts (Lower rs (greatest s).origin (left_of rs (greatest s))) s (complete_sum rs starts rows s)
  unfolding complete_sum
  sum-lower =
      complete-lower grounds s pending (greatest s).origin (left_of rs (greatest s)) s.at.used greatest-charted.is_set
      (summed rs (greatest s).origin (left_of rs (greatest s)) s) pop_lower

  -- A sum leaves a pending pass pending.
  pub pending_sum : Pending rs starts (complete_sum rs starts rows s)
  pending_sum = pending_onward s pending (complete_sum rs starts rows s) sum-lower

-- What is left of a pass: the rank of its greatest entry by origin and rule, from 1 on; 0 if there is none.
unfoldable pub left : List Rule → Pass → ℕ
left rs s = elim (eqb s.at.queued 0) [ true ↦ 0 | false ↦ (greatest s).origin * length rs + (greatest s).rule + 1 ]

module _ (rs : List Rule) (s : Pass) where
  pub left-some : 0 < s.at.queued → left rs s ≡ (greatest s).origin * length rs + (greatest s).rule + 1
  unfolding left
  left-some some = rw (left, ne_eqb s.at.queued 0 (λ e. omega arith)) refl

  pub left_none : s.at.queued ≡ 0 → left rs s ≡ 0
  unfolding left
  left_none none = rw (left, eq-eqb s.at.queued 0 none) refl

-- Ranks are below the number of pairs of a set and a rule.
rank_few : (sets rules o r : ℕ) → o + 1 < sets → r < rules → o * rules + r + 1 ≤ sets * rules
rank_few sets rules o r set rule =
    let more : suc o * rules ≤ sets * rules = mul-le-mul_right rules (omega arith) in
    omega (arith, suc-mul o rules)

-- Ranks are in the order of origins, then rules.
rank_falls : (rules o r o' r' : ℕ) → r' < rules → o' ≤ o → 4294967296 * o' + r' < 4294967296 * o + r → o' * rules + r' < o * rules + r
rank_falls rules o r o' r' rule up_to less =
    elim (dec_lt o' o) [
      | yes earlier ↦
          (let more : suc o' * rules ≤ o * rules = mul-le-mul_right rules (omega arith) in
          omega (arith, suc-mul o' rules))
      | no same ↦
          (let is : o' ≡ o = omega arith in
          let products : o' * rules ≡ o * rules = ap (λ (n : ℕ). n * rules) is in
          omega arith)
    ]

-- There is no more left than pairs of a set and a rule.
pub left-few : {rs : List Rule} {starts : List ℕ} (s : Pass) → Pending rs starts s → left rs s ≤ length starts * length rs
left-few {rs} {starts} s pending =
    elim (dec_lt 0 s.at.queued) [
      | yes some ↦
          (let charts : Charts rs starts (greatest s) = greatest_charts rs starts s s some (pending_steady s pending) in
          omega (arith, left-some rs s some, rank_few (length starts) (length rs) (greatest s).origin (greatest s).rule charts.is_set.there charts.is_rule))
      | no none ↦ omega (arith, left_none rs s (omega arith))
    ]

-- With each sum less is left.
pub left_falls : {rs : List Rule} {starts rows : List ℕ} (grounds : Grounds rs starts rows) (s : Pass) (pending : Pending rs starts s)
    (some : 0 < s.at.queued) → left rs (complete_sum rs starts rows s) < left rs s
left_falls {rs} {starts} {rows} grounds s pending some = by_count (complete_sum rs starts rows s) (sum-lower grounds s pending some)
  where
    by_count : (t : Pass) → Heaped rs starts (Lower rs (greatest s).origin (left_of rs (greatest s))) s t → left rs t < left rs s
    by_count t heaped =
        elim (dec_lt 0 t.at.queued) [
          | yes more ↦
              (let lower : Lower rs (greatest s).origin (left_of rs (greatest s)) (greatest t) =
              each_entry t heaped.steady.sound.queued_fit (λ v. Lower rs (greatest s).origin (left_of rs (greatest s)) (item_at t.items v.place))
              heaped.ordered.each 0 more in
              let charts : Charts rs starts (greatest s) = greatest_charts rs starts s s some (pending_steady s pending) in
              omega (
                arith,
                left-some rs s some,
                left-some rs t more,
                rank_falls (length rs) (greatest s).origin (greatest s).rule (greatest t).origin (greatest t).rule
                    (greatest_charts rs starts s t more heaped.steady).is_rule lower.up_to (lower.below (greatest s).rule charts.is_rule refl),
              ))
          | no none ↦ omega (arith, left_none rs t (omega arith), left-some rs s some)
        ]

module _ {rs : List Rule} {starts rows : List ℕ} (grounds : Grounds rs starts rows) where
  sum-keeps : (s : Pass) → rests s ≡ false → Pending rs starts s → Pending rs starts (complete_sum rs starts rows s)
  sum-keeps s goes pending = pending_sum grounds s pending (not_resting s goes).1

  sum_falls : (s : Pass) → rests s ≡ false → Pending rs starts s → left rs (complete_sum rs starts rows s) < left rs s
  sum_falls s goes pending = left_falls grounds s pending (not_resting s goes).1

  module _ (s : Pass) (pending : Pending rs starts s) where
    -- All sums end: at the end the queue is empty, or a push was refused.
    pub all-sums-rest : rests (complete_all_sums rs starts rows s) ≡ true
    unfolding complete_all_sums
    all-sums-rest =
        until-ends rests (complete_sum rs starts rows) (Pending rs starts) (left rs) sum-keeps sum_falls (length starts * length rs) s pending
        (left-few s pending)

    -- More turns than are left give no other result.
    pub all-sums-enough : (n : ℕ) → left rs s ≤ n → until n rests (complete_sum rs starts rows) s ≡ complete_all_sums rs starts rows s
    unfolding complete_all_sums
    all-sums-enough n enough =
        until-enough rests (complete_sum rs starts rows) (Pending rs starts) (left rs) sum-keeps sum_falls n (length starts * length rs) s pending enough
        (left-few s pending)

    -- Where the pass rests there is nothing to do; else one sum, and then the others.
    pub all_sums_done : rests s ≡ true → complete_all_sums rs starts rows s ≡ s
    unfolding complete_all_sums
    all_sums_done at_rest = until-rests rests (complete_sum rs starts rows) (length starts * length rs) s at_rest

    pub all-sums-turn : s.at.stopped ≡ 0 → 0 < s.at.queued
        → complete_all_sums rs starts rows (complete_sum rs starts rows s) ≡ complete_all_sums rs starts rows s
    unfolding complete_all_sums
    all-sums-turn going some =
        sym (until_turns rests (complete_sum rs starts rows) (length starts * length rs) s (goes s going some))
        ∙ all-sums-enough (suc (length starts * length rs)) (let few = left-few s pending in omega arith)

    -- And the pass is pending still.
    pub all_sums_pending : Pending rs starts (complete_all_sums rs starts rows s)
    unfolding complete_all_sums
    all_sums_pending = until-keeps rests (complete_sum rs starts rows) (Pending rs starts) sum-keeps (length starts * length rs) s pending
