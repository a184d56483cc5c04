-- What completing the rules that begin with a symbol comes to, case by case.
use Rattle.std.proofs.Common.{◌≡◌, refl, sym, ap, ◌∙◌, subst, Bool, true, false, ◌&&◌, not, List, ℕ, ◌+◌, ◌-◌, ◌/◌, ◌<◌, arith, length, get_or, eqb, eq-eqb, ne_eqb}
use native.Mathlib.Decide.{dec_lt, ℕ_discrete}
use Rattle.laws.specs.Turns.{over}
use Rattle.laws.proofs.Turns.{over-keeps, over-next, over_none, over-split, over_still}
use Rattle.item.specs.Item.{Item, item_words}
use Rattle.grammar.specs.Rules.{Rule, none, no_rule}
use Rattle.grammar.specs.inner.Decoded.{left_in, first_in, second_in, rules_in, FirstFrom}
use Rattle.grammar.proofs.Decoding.{in_count, in_rule}
use Rattle.node.specs.Rows.{all_ones}
use Rattle.parse.specs.WellFormed.{left_of}
use Rattle.completion.specs.Pass.{Pass, and_then, store, enqueue}
use Rattle.completion.specs.Complete.{waits, predicted, complete_unary, complete_binary}
use Rattle.completion.specs.inner.Ready.{PassFits}
use Rattle.completion.proofs.Pushes.{store_done, store-refused, goes_on, stays}
use Rattle.completion.proofs.Soundness.{then-sound, store-sound, enqueue-sound}

-- The decoded rules, read as a list.
module _ (words : List ℕ) (count : ℕ) where
  pub rules-length : length (rules_in words count) ≡ count
  rules-length = in_count words 0 0 count

  module _ (r : ℕ) (there : r < count) where
    pub rule-left : left_in words r ≡ (get_or (rules_in words count) r no_rule).left
    rule-left = sym (ap (λ (i : Rule). i.left) (in_rule words 0 0 count r there))

    pub rule-first : first_in words r ≡ (get_or (rules_in words count) r no_rule).first
    rule-first = sym (ap (λ (i : Rule). i.first) (in_rule words 0 0 count r there))

    pub rule-second : second_in words r ≡ (get_or (rules_in words count) r no_rule).second
    rule-second = sym (ap (λ (i : Rule). i.second) (in_rule words 0 0 count r there))

  -- The left side of an item's rule, as the code reads it.
  pub item-left : (read item : Item) (left : ℕ) → read ≡ item → item.rule < count → left ≡ left_in words read.rule → left ≡ left_of (rules_in words count) item
  item-left read item left is there found = found ∙ ap (λ (i : Item). left_in words i.rule) is ∙ rule-left item.rule there

module _ (rs : List Rule) (rows : List ℕ) (k x r : ℕ) where
  -- A rule that begins with another symbol does not wait.
  pub waits-other : (f : ℕ) → f ≡ (get_or rs r no_rule).first → (f ≡ x → ⊥) → false ≡ waits rs rows k x r
  waits-other f is differs =
      sym (ap (λ (b : Bool). b && predicted rows k (get_or rs r no_rule).left) (ne_eqb (get_or rs r no_rule).first x (λ e. differs (is ∙ e))))

  -- A rule that begins with the symbol waits if its left side is predicted.
  pub waits-same : (f l : ℕ) (b : Bool) → f ≡ (get_or rs r no_rule).first → f ≡ x → l ≡ (get_or rs r no_rule).left → b ≡ predicted rows k l
      → b ≡ waits rs rows k x r
  waits-same f l b is same left told =
      told
      ∙ ap (λ (y : ℕ). predicted rows k y) left
      ∙ sym (ap (λ (t : Bool). t && predicted rows k (get_or rs r no_rule).left) (eq-eqb (get_or rs r no_rule).first x (sym is ∙ same)))

  module _ (link : ℕ) (s : Pass) (on : s.at.stopped ≡ 0) where
    -- A rule with two symbols is no unary rule.
    pub unary_two : (y : ℕ) → y ≡ (get_or rs r no_rule).second → (y ≡ none → ⊥) → complete_unary rs rows k x link r s ≡ s
    unfolding complete_unary
    unary_two y is two = goes_on s _ on ∙ rw (ne_eqb (get_or rs r no_rule).second none (λ e. two (is ∙ e))) refl

    -- A rule that does not wait is passed over.
    pub unary_passed : false ≡ waits rs rows k x r → complete_unary rs rows k x link r s ≡ s
    unfolding complete_unary
    unary_passed passed = goes_on s _ on ∙ by_second (eqb (get_or rs r no_rule).second none)
      where
        by_second : (b : Bool) → elim (b && waits rs rows k x r) [ true ↦ and_then (store k r link s) (enqueue s.at.items all_ones) | false ↦ s ] ≡ s
        by_second true = rw (← passed) refl
        by_second false = refl

    -- A rule that waits for the symbol alone is stored and queued.
    pub unary-waits : (y : ℕ) → y ≡ (get_or rs r no_rule).second → y ≡ none → true ≡ waits rs rows k x r
        → complete_unary rs rows k x link r s ≡ and_then (store k r link s) (enqueue s.at.items all_ones)
    unfolding complete_unary
    unary-waits y is one waiting = goes_on s _ on ∙ rw (eq-eqb (get_or rs r no_rule).second none (sym is ∙ one), ← waiting) refl

    -- A rule with one symbol is no binary rule.
    pub binary_one : (y : ℕ) → y ≡ (get_or rs r no_rule).second → y ≡ none → complete_binary rs rows k x link r s ≡ s
    unfolding complete_binary
    binary_one y is one = goes_on s _ on ∙ rw (eq-eqb (get_or rs r no_rule).second none (sym is ∙ one)) refl

    -- A rule that does not wait is passed over.
    pub binary_passed : false ≡ waits rs rows k x r → complete_binary rs rows k x link r s ≡ s
    unfolding complete_binary
    binary_passed passed = goes_on s _ on ∙ by_second (not (eqb (get_or rs r no_rule).second none))
      where
        by_second : (b : Bool) → elim (b && waits rs rows k x r) [ true ↦ store k r link s | false ↦ s ] ≡ s
        by_second true = rw (← passed) refl
        by_second false = refl

    -- A rule that waits for the symbol and another behind it is stored.
    pub binary-waits : (y : ℕ) → y ≡ (get_or rs r no_rule).second → (y ≡ none → ⊥) → true ≡ waits rs rows k x r
        → complete_binary rs rows k x link r s ≡ store k r link s
    unfolding complete_binary
    binary-waits y is two waiting = goes_on s _ on ∙ rw (ne_eqb (get_or rs r no_rule).second none (λ e. two (is ∙ e)), ← waiting) refl

  -- A pass that was refused stays as it is.
  pub unary-stopped : (link : ℕ) (s : Pass) → (s.at.stopped ≡ 0 → ⊥) → complete_unary rs rows k x link r s ≡ s
  unfolding complete_unary
  unary-stopped link s stopped = stays s _ stopped

  pub binary-stopped : (link : ℕ) (s : Pass) → (s.at.stopped ≡ 0 → ⊥) → complete_binary rs rows k x link r s ≡ s
  unfolding complete_binary
  binary-stopped link s stopped = stays s _ stopped

-- Items are more by one where storing was not refused.
pub store-place : (origin rule handle : ℕ) (s : Pass) → (store origin rule handle s).at.stopped ≡ 0 → s.at.items < (store origin rule handle s).at.items
store-place origin rule handle s on =
    elim (dec_lt s.at.items (length s.items / item_words)) [
      | yes place ↦ subst (λ (u : Pass). s.at.items < u.at.items) (sym (store_done s origin rule handle place)) (omega arith)
      | no full ↦
          let stopped : ◌≡◌ {A = ℕ} 7 0 = subst (λ (u : Pass). u.at.stopped ≡ 0) (store-refused s origin rule handle (omega arith)) on in
          absurd (omega arith)
    ]

module _ (rs : List Rule) (rows : List ℕ) (k x link r : ℕ) (s : Pass) (sound : PassFits s) where
  -- Completing a rule keeps a pass sound.
  pub unary-sound : PassFits (complete_unary rs rows k x link r s)
  unfolding complete_unary
  unary-sound =
      then-sound s _ sound (λ on. by_fit (eqb (get_or rs r no_rule).second none && waits rs rows k x r))
    where
      stored-sound : PassFits (store k r link s)
      stored-sound = store-sound k r link s sound

      by_fit : (b : Bool) → PassFits (elim b [ true ↦ and_then (store k r link s) (enqueue s.at.items all_ones) | false ↦ s ])
      by_fit true = then-sound (store k r link s) _ stored-sound (λ on. enqueue-sound s.at.items all_ones (store k r link s) stored-sound (store-place k r link s on))
      by_fit false = sound

  pub binary-sound : PassFits (complete_binary rs rows k x link r s)
  unfolding complete_binary
  binary-sound = then-sound s _ sound (λ on. by_fit (not (eqb (get_or rs r no_rule).second none) && waits rs rows k x r))
    where
      by_fit : (b : Bool) → PassFits (elim b [ true ↦ store k r link s | false ↦ s ])
      by_fit true = store-sound k r link s sound
      by_fit false = sound

-- A rule that begins with another symbol is passed over, whatever the pass.
module _ (words : List ℕ) (count : ℕ) (rows : List ℕ) (k x link r : ℕ) (s : Pass) (there : r < count) (differs : first_in words r ≡ x → ⊥) where
  passes : false ≡ waits (rules_in words count) rows k x r
  passes = waits-other (rules_in words count) rows k x r (first_in words r) (rule-first words count r there) differs

  pub unary-other : complete_unary (rules_in words count) rows k x link r s ≡ s
  unary-other =
      elim (ℕ_discrete s.at.stopped 0) [
        | yes on ↦ unary_passed (rules_in words count) rows k x r link s on passes
        | no stopped ↦ unary-stopped (rules_in words count) rows k x r link s stopped
      ]

  pub binary-other : complete_binary (rules_in words count) rows k x link r s ≡ s
  binary-other =
      elim (ℕ_discrete s.at.stopped 0) [
        | yes on ↦ binary_passed (rules_in words count) rows k x r link s on passes
        | no stopped ↦ binary-stopped (rules_in words count) rows k x r link s stopped
      ]

-- Where rules that begin with another symbol are passed over, a walk along a chain does what a walk over all rules does.
module _ (words : List ℕ) (count x : ℕ) (turn : ℕ → Pass → Pass)
    (others : (r : ℕ) (s : Pass) → r < count → (first_in words r ≡ x → ⊥) → turn r s ≡ s) where
  pub walk_on_lem : (from r : ℕ) (s : Pass) → FirstFrom words count from x r → over from turn s ≡ over r turn s
  walk_on_lem from r s first =
      sym (
      ap (λ (n : ℕ). over n turn s) (let all : r ≡ from + (r - from) = omega (arith, first.from_on) in all)
      ∙ over-split from (r - from) turn s
      ∙ over_still (λ (t : Pass). Unit {0}) (r - from) (λ i. turn (from + i))
      (λ i t before known. others (from + i) t (omega (arith, first.up_to)) (first.none_before (from + i) (omega arith) (omega arith))) (over from turn s) tt)

  -- It begins with the first rule of the symbol,
  pub walk_begins : (r : ℕ) (s : Pass) → FirstFrom words count 0 x r → s ≡ over r turn s
  walk_begins r s first = over_none turn s ∙ walk_on_lem 0 r s first

  -- and goes on with the next.
  pub walk-next : (r next : ℕ) (start now then : Pass) → first_in words r ≡ x → FirstFrom words count (r + 1) (first_in words r) next → now ≡ over r turn start → then ≡ turn r now
      → then ≡ over next turn start
  walk-next r next start now then begins first before step =
      over-next r turn start now then before step ∙ walk_on_lem (r + 1) next start (subst (λ (y : ℕ). FirstFrom words count (r + 1) y next) begins first)

-- Completing rule after rule keeps a pass sound.
pub unaries_sound : (rs : List Rule) (rows : List ℕ) (k x link n : ℕ) (s : Pass) → PassFits s → PassFits (over n (complete_unary rs rows k x link) s)
unaries_sound rs rows k x link n s sound = over-keeps PassFits n (complete_unary rs rows k x link) (λ r s h sound. unary-sound rs rows k x link r s sound) s sound
