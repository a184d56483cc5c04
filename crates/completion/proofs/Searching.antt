-- The items of a set whose second is a symbol stand together, and completing them is queueing them one after the other.
use Rattle.std.proofs.Common.{◌≡◌, refl, sym, ap, ◌∙◌, subst, List, ℕ, zero, suc, ◌+◌, ◌-◌, ◌≤◌, ◌<◌, le_refl, le_trans, arith, length, get_or, eq-eqb, ne_eqb}
use native.Mathlib.Decide.{dec_lt, ℕ_discrete}
use Rattle.laws.specs.Turns.{over}
use Rattle.laws.proofs.Turns.{over-same, over_still, over-keeps, over-split}
use Rattle.item.specs.Item.{item_at, rule_at}
use Rattle.grammar.specs.Rules.{Rule}
use Rattle.grammar.specs.inner.Decoded.{second_in, rules_in}
use Rattle.parse.specs.WellFormed.{second_of}
use Rattle.completion.specs.Pass.{Pass, and_then, enqueue}
use Rattle.completion.specs.Complete.{complete_medial, complete_medial_items}
use Rattle.completion.specs.inner.Search.{second_at, Searchable, FirstNotBelow, Found}
use Rattle.completion.specs.inner.Ready.{IsSet, PassFits, Charted}
use Rattle.completion.proofs.Soundness.{has-place, then-sound, enqueue-sound}
use Rattle.completion.proofs.Waiting.{rule-second}
use Rattle.completion.proofs.Pushes.{enqueue_done, enqueue-refused, goes_on, stays}

module _ (rs : List Rule) (items : List ℕ) (from to : ℕ) (search : Searchable rs items from to) where
  -- Seconds never fall from one place to a later one.
  later : (p n : ℕ) → from ≤ p → p + n < to → second_at rs items p ≤ second_at rs items (p + n)
  later p zero low high = subst (λ (q : ℕ). second_at rs items p ≤ second_at rs items q) (omega arith) (le_refl (second_at rs items p))
  later p (suc n) low high =
      subst (λ (q : ℕ). second_at rs items p ≤ second_at rs items q) (omega arith)
      (le_trans (later p n low (omega arith)) (search.ordered (p + n) (omega arith) (omega arith)))

  pub never_fall : (p q : ℕ) → from ≤ p → p ≤ q → q < to → second_at rs items p ≤ second_at rs items q
  never_fall p q low up high =
      subst (λ (m : ℕ). second_at rs items p ≤ second_at rs items m) (omega arith) (later p (q - p) low (omega arith))

  -- The first place not below a symbol, and the first behind it not below the next symbol, bound the items of the symbol.
  pub found : (x first end : ℕ) → FirstNotBelow rs items from to x first → FirstNotBelow rs items first to (x + 1) end → Found rs items from to x first (end - first)
  found x first end one two =
      record {
        from_on = one.from_on;
        up_to = omega (arith, two.from_on, two.up_to);
        before = one.below;
        there = λ p low high.
            let least : x ≤ second_at rs items first = one.not_below (omega (arith, two.up_to)) in
            let risen : second_at rs items first ≤ second_at rs items p = never_fall first p one.from_on low (omega (arith, two.up_to)) in
            let most : second_at rs items p < x + 1 = two.below p low (omega (arith, two.from_on)) in
            omega arith;
        behind = λ p low high.
            let least : x + 1 ≤ second_at rs items end = two.not_below (omega (arith, two.from_on)) in
            let risen : second_at rs items end ≤ second_at rs items p = never_fall end p (omega (arith, one.from_on, two.from_on)) (omega (arith, two.from_on)) high in
            omega arith;
      }

-- Queueing leaves the items.
enqueue-items : (place right : ℕ) (s : Pass) → (enqueue place right s).items ≡ s.items
enqueue-items place right s =
    elim (dec_lt s.at.queued (length s.queue)) [
      | yes free ↦ ap (λ (u : Pass). u.items) (enqueue_done s place right free)
      | no full ↦ ap (λ (u : Pass). u.items) (enqueue-refused s place right (omega arith))
    ]

-- Queueing leaves the number of items.
pub enqueue-count : (place right : ℕ) (s : Pass) → (enqueue place right s).at.items ≡ s.at.items
enqueue-count place right s =
    elim (dec_lt s.at.queued (length s.queue)) [
      | yes free ↦ ap (λ (u : Pass). u.at.items) (enqueue_done s place right free)
      | no full ↦ ap (λ (u : Pass). u.at.items) (enqueue-refused s place right (omega arith))
    ]

-- What goes on leaves the number of items, if it does so from there.
pub then-next-count : (s : Pass) (next : Pass → Pass) → (next s).at.items ≡ s.at.items → (and_then s next).at.items ≡ s.at.items
then-next-count s next same =
    elim (ℕ_discrete s.at.stopped 0) [
      | yes e ↦ ap (λ (u : Pass). u.at.items) (goes_on s next e) ∙ same
      | no ne ↦ ap (λ (u : Pass). u.at.items) (stays s next ne)
    ]

-- What goes on leaves the items, if it does so from there.
then-items : (s : Pass) (next : Pass → Pass) → (next s).items ≡ s.items → (and_then s next).items ≡ s.items
then-items s next same =
    elim (ℕ_discrete s.at.stopped 0) [
      | yes e ↦ ap (λ (u : Pass). u.items) (goes_on s next e) ∙ same
      | no ne ↦ ap (λ (u : Pass). u.items) (stays s next ne)
    ]

module _ (rs : List Rule) (x link : ℕ) where
  -- An item with another second is passed over.
  medial_other : (p : ℕ) (s : Pass) → (second_of rs (item_at s.items p) ≡ x → ⊥) → complete_medial rs x link p s ≡ s
  unfolding complete_medial
  medial_other p s other =
      elim (ℕ_discrete s.at.stopped 0) [
        | yes e ↦ goes_on s _ e ∙ rw (ne_eqb (second_of rs (item_at s.items p)) x other) refl
        | no ne ↦ stays s _ ne
      ]

  -- One with this second is queued.
  medial_same : (p : ℕ) (s : Pass) → second_of rs (item_at s.items p) ≡ x → complete_medial rs x link p s ≡ and_then s (enqueue p link)
  unfolding complete_medial
  medial_same p s same =
      elim (ℕ_discrete s.at.stopped 0) [
        | yes e ↦ goes_on s _ e ∙ rw (eq-eqb (second_of rs (item_at s.items p)) x same) refl ∙ sym (goes_on s (enqueue p link) e)
        | no ne ↦ stays s _ ne ∙ sym (stays s (enqueue p link) ne)
      ]

-- Each of `number` places from `first` on is queued.
abbrev pub queueing : ℕ → ℕ → ℕ → Pass → Pass
queueing link first i s = and_then s (enqueue (first + i) link)

-- A turn is one place more, in a pass that nothing stopped.
pub queueing_step : (link first i place : ℕ) (s last : Pass) → s.at.stopped ≡ 0 → place ≡ first + i → last ≡ enqueue place link s → last ≡ queueing link first i s
queueing_step link first i place s last going is step =
    step ∙ ap (λ (p : ℕ). enqueue p link s) is ∙ sym (goes_on s (enqueue (first + i) link) going)

module _ (rs : List Rule) (starts : List ℕ) (k x link first number : ℕ) (s : Pass)
    (found : Found rs s.items (get_or starts k 0) (get_or starts (k + 1) 0) x first number) where
  Same : Pass → Type 0
  Same u = u.items ≡ s.items

  second-same : (p : ℕ) (u : Pass) → Same u → second_of rs (item_at u.items p) ≡ second_at rs s.items p
  unfolding Same
  second-same p u same = ap (λ (w : List ℕ). second_of rs (item_at w p)) same

  -- Before those that were found, and behind them, nothing is done.
  passed_before : (p : ℕ) (u : Pass) → get_or starts k 0 ≤ p → p < first → Same u → complete_medial rs x link p u ≡ u
  passed_before p u low high same =
      medial_other rs x link p u (λ e. let less : second_at rs s.items p < x = found.before p low high in omega (arith, second-same p u same))

  passed_behind : (p : ℕ) (u : Pass) → first + number ≤ p → p < get_or starts (k + 1) 0 → Same u → complete_medial rs x link p u ≡ u
  passed_behind p u low high same =
      medial_other rs x link p u (λ e. let more : x < second_at rs s.items p = found.behind p low high in omega (arith, second-same p u same))

  -- Those that were found are queued.
  queued_there : (p i : ℕ) (u : Pass) → p ≡ first + i → i < number → Same u → complete_medial rs x link p u ≡ queueing link first i u
  queued_there p i u at few same =
      medial_same rs x link p u (second-same p u same ∙ found.there p (omega arith) (omega arith)) ∙ ap (λ (q : ℕ). and_then u (enqueue q link)) at

  queueing_same : (i : ℕ) (u : Pass) → Same u → Same (queueing link first i u)
  unfolding Same
  queueing_same i u same = then-items u (enqueue (first + i) link) (enqueue-items (first + i) link u) ∙ same

  -- Completing the items of a set is queueing those that were found.
  pub medial_found : complete_medial_items rs starts k x link s ≡ over number (queueing link first) s
  unfolding complete_medial_items Same
  medial_found =
      let from = get_or starts k 0 in
      let to = get_or starts (k + 1) 0 in
      let turn : ℕ → Pass → Pass = λ i. complete_medial rs x link (from + i) in
      let before : ℕ = first - from in
      let behind : ℕ = to - (first + number) in
      let all : to - from ≡ before + (number + behind) = omega (arith, found.from_on, found.up_to) in
      let queues : over number (λ i. turn (before + i)) s ≡ over number (queueing link first) s =
      over-same Same number (λ i. turn (before + i)) (queueing link first)
      (λ i u h same. subst Same (sym (queued_there (from + (before + i)) i u (omega (arith, found.from_on)) h same)) (queueing_same i u same))
      (λ i u h same. queued_there (from + (before + i)) i u (omega (arith, found.from_on)) h same) s refl in
      let kept : Same (over number (queueing link first) s) = over-keeps Same number (queueing link first) (λ i u h same. queueing_same i u same) s refl in
      ap (λ (n : ℕ). over n turn s) all
      ∙ over-split before (number + behind) turn s
      ∙ ap (λ (u : Pass). over (number + behind) (λ i. turn (before + i)) u)
      (over_still Same before turn (λ i u h same. passed_before (from + i) u (omega arith) (omega (arith, found.from_on)) same) s refl)
      ∙ over-split number behind (λ i. turn (before + i)) s
      ∙ over_still Same behind (λ i. turn (before + (number + i)))
      (λ i u h same. passed_behind (from + (before + (number + i))) u (omega (arith, found.from_on)) (omega (arith, found.from_on)) same)
      (over number (λ i. turn (before + i)) s) (subst Same (sym queues) kept)
      ∙ queues

-- What can be searched can be searched within.
pub searchable_within : (rs : List Rule) (items : List ℕ) (from to f t : ℕ) → Searchable rs items from to → from ≤ f → f ≤ t → t ≤ to → Searchable rs items f t
searchable_within rs items from to f t search low mid high =
    record {
      upwards = mid;
      there = λ p l h. search.there p (omega arith) (omega arith);
      rules = λ p l h. search.rules p (omega arith) (omega arith);
      ordered = λ p l h. search.ordered p (omega arith) (omega arith);
    }

-- The items of a set can be searched.
pub set_searchable : (rs : List Rule) (starts : List ℕ) (k : ℕ) (s : Pass) → IsSet starts k → PassFits s → Charted rs starts s
    → Searchable rs s.items (get_or starts k 0) (get_or starts (k + 1) 0)
set_searchable rs starts k s is sound chart =
    let end : get_or starts (k + 1) 0 ≤ s.at.items = chart.starts_fit (k + 1) in
    record {
      upwards = is.upwards;
      there = λ p l h. has-place s sound p (omega arith);
      rules = λ p l h. chart.rules p (omega arith);
      ordered = λ p l h. chart.ordered k p l h;
    }

-- The second of an item, as the code reads it.
pub second-read : (words : List ℕ) (count : ℕ) (items : List ℕ) (p r second : ℕ) → r ≡ rule_at items p → rule_at items p < count → second ≡ second_in words r
    → second ≡ second_at (rules_in words count) items p
second-read words count items p r second rule there read =
    read ∙ ap (λ (q : ℕ). second_in words q) rule ∙ rule-second words count (rule_at items p) there

-- Queueing places of items keeps a pass sound, and its items.
pub queueing_sound : (link first number n : ℕ) (s : Pass) → PassFits s → first + number ≤ s.at.items → n ≤ number → PassFits (over n (queueing link first) s) × ((over n (queueing link first) s).at.items ≡ s.at.items)
queueing_sound link first number n s sound there few =
    over-keeps (λ (u : Pass). PassFits u × (u.at.items ≡ s.at.items)) n (queueing link first)
    (λ i u h known. (then-sound u (enqueue (first + i) link) known.0 (λ on. enqueue-sound (first + i) link u known.0 (omega (arith, known.1))), then-next-count u (enqueue (first + i) link) (enqueue-count (first + i) link u) ∙ known.1)) s (sound, refl)

-- A search by halves: seconds below the symbol stand before `low`, and none from `high` on.
pub record Halving (rs : List Rule) (items : List ℕ) (from to x low high : ℕ) : Type 0 where
  pub from_on : from ≤ low
  pub upwards : low ≤ high
  pub up_to : high ≤ to
  pub below : (p : ℕ) → from ≤ p → p < low → second_at rs items p < x
  pub not_below : (p : ℕ) → high ≤ p → p < to → x ≤ second_at rs items p

module _ (rs : List Rule) (items : List ℕ) (from to x : ℕ) (search : Searchable rs items from to) where
  pub halving_starts : Halving rs items from to x from to
  halving_starts = record {
    from_on = omega arith;
    upwards = search.upwards;
    up_to = omega arith;
    below = λ p low high. absurd (omega arith);
    not_below = λ p low high. absurd (omega arith);
  }

  module _ (low high middle : ℕ) (h : Halving rs items from to x low high) (after : low ≤ middle) (before : middle < high) where
    -- The second in the middle is below: so are all before it.
    pub halving_up : second_at rs items middle < x → Halving rs items from to x (middle + 1) high
    halving_up l = record {
      from_on = omega (arith, h.from_on);
      upwards = omega arith;
      up_to = h.up_to;
      below = λ p a b. omega (arith, l, never_fall rs items from to search p middle a (omega arith) (omega (arith, h.up_to)));
      not_below = h.not_below;
    }

    -- It is not: so is none behind it.
    pub halving_down : x ≤ second_at rs items middle → Halving rs items from to x low middle
    halving_down l = record {
      from_on = h.from_on;
      upwards = after;
      up_to = omega (arith, h.up_to);
      below = h.below;
      not_below = λ p a b. omega (arith, l, never_fall rs items from to search middle p (omega (arith, h.from_on)) a b);
    }

  pub halving_ends : (low high : ℕ) → Halving rs items from to x low high → high ≤ low → FirstNotBelow rs items from to x low
  halving_ends low high h l = record {
    from_on = h.from_on;
    up_to = omega (arith, h.upwards, h.up_to);
    below = h.below;
    not_below = λ m. h.not_below low (omega arith) m;
  }

-- All seconds before `low` are below the symbol.
pub record Passed (rs : List Rule) (items : List ℕ) (from to x low : ℕ) : Type 0 where
  pub from_on : from ≤ low
  pub up_to : low ≤ to
  pub below : (p : ℕ) → from ≤ p → p < low → second_at rs items p < x

module _ (rs : List Rule) (items : List ℕ) (from to x : ℕ) (search : Searchable rs items from to) where
  pub passed_none : Passed rs items from to x from
  passed_none = record { from_on = omega arith; up_to = search.upwards; below = λ p low high. absurd (omega arith) }

  -- A second is below: so are all before it.
  pub passed_on : (p : ℕ) → from ≤ p → p < to → second_at rs items p < x → Passed rs items from to x (p + 1)
  passed_on p low high l = record {
    from_on = omega arith;
    up_to = omega arith;
    below = λ q a b. omega (arith, l, never_fall rs items from to search q p a (omega arith) high);
  }

  -- The first that is not below from there on is the first of all.
  pub first_passed : (low high r : ℕ) → Passed rs items from to x low → high ≤ to → (high < to → x ≤ second_at rs items high)
      → FirstNotBelow rs items low high x r → FirstNotBelow rs items from to x r
  first_passed low high r passed end stops first = record {
    from_on = omega (arith, passed.from_on, first.from_on);
    up_to = omega (arith, first.up_to);
    below = λ p a b. elim (dec_lt p low) [ yes l ↦ passed.below p a l | no m ↦ first.below p (omega arith) b ];
    not_below = λ m. elim (dec_lt r high) [
      | yes l ↦ first.not_below l
      | no n ↦
          let at_end : high ≡ r = omega (arith, first.up_to) in
          subst (λ (q : ℕ). x ≤ second_at rs items q) at_end (stops (omega arith))
    ];
  }

-- One stretch of places is found and no other, also where no item has the symbol behind its dot.
module _ {rs : List Rule} {items : List ℕ} {from to x first number first' number' : ℕ} (a : Found rs items from to x first number) (b : Found rs items from to x first' number') where
  not_later : first < first' → ⊥
  not_later l =
      let lower : second_at rs items first < x = b.before first a.from_on l in
      elim (dec_lt 0 number) [
        | yes some ↦ omega (arith, lower, a.there first (omega arith) (omega arith))
        | no none ↦ omega (arith, lower, a.behind first (omega arith) (omega (arith, b.up_to)))
      ]

  not_more : first ≡ first' → number < number' → ⊥
  not_more same l =
      let here : second_at rs items (first + number) ≡ x = b.there (first + number) (omega arith) (omega arith) in
      omega (arith, here, a.behind (first + number) (omega arith) (omega (arith, b.up_to)))

pub found_unique : {rs : List Rule} {items : List ℕ} {from to x first number first' number' : ℕ}
    → Found rs items from to x first number → Found rs items from to x first' number' → (first ≡ first') × (number ≡ number')
found_unique {first = first} {number} {first'} {number'} a b = (places, counts)
  where
    places : first ≡ first'
    places = elim (dec_lt first first') [
      | yes l ↦ absurd (not_later a b l)
      | no m ↦ elim (dec_lt first' first) [ yes l ↦ absurd (not_later b a l) | no n ↦ omega arith ]
    ]

    counts : number ≡ number'
    counts = elim (dec_lt number number') [
      | yes l ↦ absurd (not_more a b places l)
      | no m ↦ elim (dec_lt number' number) [ yes l ↦ absurd (not_more b a (sym places) l) | no n ↦ omega arith ]
    ]
