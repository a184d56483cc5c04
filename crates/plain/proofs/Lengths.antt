-- Length after length.
use Rattle.std.proofs.Common.{◌≡◌, refl, ap, subst, ◌∙◌, List, ℕ, ◌+◌, ◌-◌, ◌*◌, ◌≤◌, ◌<◌, arith, length}
use Rattle.laws.specs.Bits.{word_bits}
use Rattle.grammar.specs.Rules.{Grammar}
use Rattle.plain.specs.Table.{row_words, stretches_up_to, place, needed}
use Rattle.plain.specs.Calls.{Ordinary}
use Rattle.plain.specs.inner.Filling.{Cleared, Seeded, Filling, Given}
use Rattle.plain.proofs.Standing.{place-next}
use Rattle.plain.proofs.Seeding.{seeded_filling}

-- Settled up to a row is settled up to its equal.
pub filling_at : {g : Grammar} {ts table : List ℕ} {p q : ℕ} → Filling g ts table p → p ≡ q → Filling g ts table q
filling_at {g} {ts} {table} h e = subst (λ (k : ℕ). Filling g ts table k) e h

-- The row behind the last of a length is the first of the next.
pub length-ends : (n l i : ℕ) → 0 < l → l ≤ n → i ≤ n - l + 1 → n - l + 1 ≤ i → place n l i ≡ place n (l + 1) 0
length-ends n l i some few up_to_lem last =
    let e : i ≡ n - l + 1 = omega arith in
    ap (λ (j : ℕ). place n l j) e ∙ place-next n l some few

-- The tokens of an accepted grammar have bits.
pub tokens-narrow : {g : Grammar} {ts table : List ℕ} → Given g ts table → Ordinary (word_bits * row_words) ts
tokens-narrow given = record { below = λ i l. omega (arith, given.ordinary.below i l, given.accepted.room, given.accepted.few_symbols) }

-- As many words are cleared as the table has.
pub cleared_table : (n : ℕ) {k : ℕ} {before after : List ℕ} → k ≡ stretches_up_to n n → Cleared (row_words * k) before after → Cleared (needed n) before after
cleared_table n {k} {before} {after} e h = subst (λ (m : ℕ). Cleared (row_words * m) before after) e h

-- With the tokens seeded no length is done.
pub lengths_start : {g : Grammar} {ts table : List ℕ} → Seeded ts table (length ts) → Filling g ts table (stretches_up_to (length ts) 0)
unfolding stretches_up_to
lengths_start {g} {ts} {table} h = seeded_filling g ts table 0 refl h
