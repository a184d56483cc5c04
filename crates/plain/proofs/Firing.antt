-- A rule fires, by what the table holds, exactly when its right side derives the stretch.
use Rattle.std.proofs.Common.{◌≡◌, sym, subst, ◌∙◌, List, Bool, true, false, ℕ, ◌+◌, ◌-◌, ◌*◌, ◌≤◌, ◌<◌, arith, length}
use Rattle.laws.specs.Bits.{word_bits, adding, row_of, with_row}
use Rattle.laws.specs.Decides.{Decides}
use Rattle.grammar.specs.Rules.{rule_count, rule_at}
use Rattle.grammar.specs.Accepted.{Accepted}
use Rattle.grammar.specs.Sentences.{Derives}
use Rattle.grammar.specs.inner.Decoded.{decoded, left_in, first_in, second_in}
use Rattle.grammar.proofs.Decoding.{in_count, in_left, in_first, in_second}
use Rattle.grammar.proofs.Facts.{wrapper-first, second-low, left-low}
use Rattle.grammar.specs.declared.Grammar as Held
use Rattle.plain.specs.Table.{row_words, Stretch, stretch, place}
use Rattle.plain.specs.inner.Filling.{Held, BitThere, Splits, Fires, Narrow, Filling, Given}
use Rattle.plain.proofs.Derivations.{Right, from_derives, alone-later}
use Rattle.plain.proofs.Marking.{Marked, is_marked}
use Rattle.plain.proofs.Splitting.{bit-there}
use Rattle.plain.proofs.Falling.{Falling, falling_starts, falling_passes, falling_marks, splits_derived, derived_splits}
use Rattle.plain.proofs.Keeping.{kept-room}

module _ (held : Held.Grammar) (accepted : Accepted (decoded held)) (r : ℕ) (there : r < held.rules.count) where
  -- Rule `r` is one of the grammar's, ..
  pub rule-there : r < rule_count (decoded held)
  rule-there = subst (λ (k : ℕ). r < k) (sym (in_count held.rules.words held.symbols held.tokens held.rules.count)) there

  first_is : (rule_at (decoded held) r).first ≡ first_in held.rules.words r
  first_is = in_first held.rules.words held.symbols held.tokens held.rules.count r there

  second_is : (rule_at (decoded held) r).second ≡ second_in held.rules.words r
  second_is = in_second held.rules.words held.symbols held.tokens held.rules.count r there

  pub left_is : (rule_at (decoded held) r).left ≡ left_in held.rules.words r
  left_is = in_left held.rules.words held.symbols held.tokens held.rules.count r there

  -- .. and its symbols have bits.
  pub rule-narrow : Narrow held.rules.words r
  rule-narrow = record {
    there = omega (arith, rule-there, accepted.few_rules);
    first = omega (arith, first_is, wrapper-first (decoded held) accepted r rule-there, accepted.few_symbols);
    second = λ two. omega (arith, second_is, second-low (decoded held) accepted r rule-there (λ z. two (sym second_is ∙ z)), accepted.few_symbols);
  }

  pub left-narrow : left_in held.rules.words r < word_bits * row_words
  left-narrow = omega (arith, left_is, left-low (decoded held) accepted r rule-there, accepted.few_symbols)

  module _ {ts before table : List ℕ} {l i : ℕ} (s : Stretch (length ts) l i) (h : Falling (decoded held) ts before table l i (r + 1)) where
    -- What fires derives, ..
    pub fires_right : Fires held.rules.words table (length ts) l i r → Right (decoded held) r (stretch ts l i)
    fires_right (Fires.alone e held) =
        Right.alone (second_is ∙ e) (from_derives ((h.here _).0 (subst (λ (b : ℕ). Held table (length ts) l i b) (sym first_is) held)))
    fires_right (Fires.two two q) =
        let d = splits_derived s h q in
        Right.two (λ z. two (sym second_is ∙ z))
        (subst (λ (b : ℕ). Derives (decoded held) b (stretch ts q.middle i)) (sym first_is) d.0)
        (subst (λ (b : ℕ). Derives (decoded held) b (stretch ts (l - q.middle) (i + q.middle))) (sym second_is) d.1)
        d.2

    -- .. and what derives fires. Of A ::= B alone all rules of B are done.
    pub right_fires : Right (decoded held) r (stretch ts l i) → Fires held.rules.words table (length ts) l i r
    right_fires (Right.alone e d) =
        Fires.alone (sym second_is ∙ e) (subst (λ (b : ℕ). Held table (length ts) l i b) first_is ((h.here _).1 (alone-later accepted rule-there e d)))
    right_fires (Right.two two d e is) =
        Fires.two (λ z. two (second_is ∙ z))
        (subst (λ (b : ℕ). Splits table (length ts) l i b (second_in held.rules.words r)) first_is
        (subst (λ (c : ℕ). Splits table (length ts) l i (rule_at (decoded held) r).first c) second_is (derived_splits s h d e is)))

-- A turn of the falling loop: the rules from `next` on are done, and then the one before it, as its test told.
module _ (held : Held.Grammar) {ts before table : List ℕ} {l i next r : ℕ} (given : Given (decoded held) ts before) (s : Stretch (length ts) l i)
    (h : Falling (decoded held) ts before table l i next) (few : next ≤ held.rules.count) (some : 0 < next) (is : r ≡ next - 1) where
  there : r < held.rules.count
  there = omega arith

  done : Falling (decoded held) ts before table l i (r + 1)
  done = let e : next ≡ r + 1 = omega arith in subst (λ (k : ℕ). Falling (decoded held) ts before table l i k) e h

  pub turn-narrow : Narrow held.rules.words r
  turn-narrow = rule-narrow held given.accepted r there

  pub turn_passes : {told : Bool} → Decides told (Fires held.rules.words table (length ts) l i r) → told ≡ false → Falling (decoded held) ts before table l i r
  turn_passes tells not_so = falling_passes s done (λ right. tells.if_no not_so (right_fires held given.accepted r there s done right))

  pub turn-bit : {k a : ℕ} → k ≡ place (length ts) l i → a ≡ left_in held.rules.words r → BitThere table k a
  turn-bit {k} {a} at ea =
      bit-there (kept-room given.room h.kept) s at (subst (λ (x : ℕ). x < word_bits * row_words) (sym ea) (left-narrow held given.accepted r there))

  pub turn-marks : {told : Bool} {k a : ℕ} {marked : List ℕ} → Decides told (Fires held.rules.words table (length ts) l i r) → told ≡ true → k ≡ place (length ts) l i → a ≡ left_in held.rules.words r
      → marked ≡ with_row row_words table k (adding (row_of row_words table k) a) → Falling (decoded held) ts before marked l i r
  turn-marks {told} {k} {a} {marked} tells so at ea e =
      falling_marks s (kept-room given.room h.kept) done (rule-there held given.accepted r there) (ea ∙ sym (left_is held given.accepted r there))
      (fires_right held given.accepted r there s done (tells.if_yes so))
      (subst (λ (j : ℕ). Marked table j a marked) at (is_marked table k a (turn-bit at ea) marked e))

-- Before the first turn no rule is done.
pub turns_start : (held : Held.Grammar) {ts before : List ℕ} {l i : ℕ} → Given (decoded held) ts before → Stretch (length ts) l i
    → Filling (decoded held) ts before (place (length ts) l i) → Falling (decoded held) ts before before l i held.rules.count
turns_start held given s h = falling_starts s given.ordinary (omega (arith, in_count held.rules.words held.symbols held.tokens held.rules.count)) h
