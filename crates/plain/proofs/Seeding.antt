-- The table cleared, and then each token in the row of its own stretch.
use Rattle.std.proofs.Common.{◌≡◌, sym, ap, subst, ◌∙◌, ⊎_elim, List, [], ◌∷◌, ℕ, ◌+◌, ◌-◌, ◌*◌, ◌^◌, ◌≤◌, ◌<◌, arith, length, get_or, take, drop, length-take, length-drop, drop-cons, get_or-take, get_or-drop, pow_pos}
use native.Mathlib.Decide.{ℕ_discrete, dec_lt}
use Rattle.laws.specs.Bits.{word_bits, Holds, adding, row_of, with_row}
use Rattle.laws.proofs.Bits.{zeros_hold}
use Rattle.laws.proofs.Rows.{row_words_lem}
use Rattle.grammar.specs.Rules.{Grammar}
use Rattle.plain.specs.Table.{row_words, Stretch, stretch, stretches_up_to, place, needed}
use Rattle.plain.specs.Calls.{Ordinary}
use Rattle.plain.specs.inner.Filling.{Room, BitThere, Cleared, Seeded, Filling, Held, Kept}
use Rattle.plain.proofs.Standing.{up_to_rises, up_to-next, place_inside, row_inside}
use Rattle.plain.proofs.Marking.{Marked, is_marked}
use Rattle.plain.proofs.Keeping.{kept_trans, kept-room}

-- A string of one token.
abbrev alone : ℕ → List ℕ
alone t = t ∷ []

-- A stretch is as long as it says, ..
pub stretch-long : (ts : List ℕ) (l i : ℕ) → Stretch (length ts) l i → length (stretch ts l i) ≡ l
stretch-long ts l i s = simp (length-take, length-drop) (omega (arith, s.inside))

-- .. its first token is the one behind the first `i`, ..
pub stretch-first : (ts : List ℕ) (l i x : ℕ) → Stretch (length ts) l i → stretch ts l i ≡ x ∷ [] → x ≡ get_or ts i 0
stretch-first ts l i x s e =
    let at : i + 0 ≡ i = omega arith in
    sym (ap (λ (w : List ℕ). get_or w 0 0) e) ∙ get_or-take l (drop i ts) 0 0 s.some ∙ get_or-drop i ts 0 0 ∙ ap (λ (j : ℕ). get_or ts j 0) at

-- .. and where it is its only one, it is the stretch.
stretch_one : (ts : List ℕ) (i : ℕ) → i < length ts → stretch ts 1 i ≡ get_or ts i 0 ∷ []
stretch_one ts i l = ap (take 1) (drop-cons ts i 0 l)

-- Cleared, the table holds nothing.
pub cleared_seeded : (ts before table : List ℕ) → Cleared (needed (length ts)) before table → Seeded ts table 0
cleared_seeded ts before table h = record {
  fits = λ j l. subst (λ (x : ℕ). x < 2 ^ word_bits) (sym (h.zero j l)) (pow_pos word_bits);
  only = λ j x l held. absurd (zeros_hold (row_of row_words table j) x (row_words_lem row_words table j [] (omega arith) (λ i m. h.zero (row_words * j + i) (omega arith))) held);
  all = λ j l. absurd (omega arith);
}

-- A token more.
pub seeded-more : (ts table marked : List ℕ) (k s : ℕ) → Room (length ts) table → Seeded ts table k → k < length ts → s ≡ get_or ts k 0 → k < stretches_up_to (length ts) (length ts) → Marked table k s marked
    → Seeded ts marked (k + 1)
seeded-more ts table marked k s room h l is inside m = record {
  fits = m.fits (needed (length ts)) (omega arith) h.fits;
  only = λ j x there held. elim (ℕ_discrete j k) [
    | yes e ↦ (
      omega arith,
      ⊎_elim (λ (q : x ≡ s). q ∙ is ∙ ap (λ (i : ℕ). get_or ts i 0) (sym e))
          (λ (old : Holds (row_of row_words table k) x). absurd (let both : (k < k) × (x ≡ get_or ts k 0) = h.only k x inside old in omega (arith, both.0)))
          (m.one x (subst (λ (i : ℕ). Holds (row_of row_words marked i) x) e held)),
    )
    | no n ↦ (let both : (j < k) × (x ≡ get_or ts j 0) = h.only j x there (subst (λ (r : List ℕ). Holds r x) (m.other j n (row_inside room there)) held) in (omega (arith, both.0), both.1))
  ];
  all = λ j less. elim (ℕ_discrete j k) [
    | yes e ↦ subst (λ (i : ℕ). Holds (row_of row_words marked i) (get_or ts i 0)) (sym e) (subst (λ (x : ℕ). Holds (row_of row_words marked k) x) is m.new)
    | no n ↦ subst (λ (r : List ℕ). Holds r (get_or ts j 0)) (sym (m.other j n (row_inside room (omega arith)))) (h.all j (omega arith))
  ];
}

-- The tokens are the first stretches.
pub token-inside : (n k : ℕ) → k < n → k < stretches_up_to n n
unfolding stretches_up_to
token-inside n k l = omega (arith, up_to_rises n 1 n (omega arith), up_to-next n 0)

-- The bit of a token in its row is there.
pub token-there : {ts table : List ℕ} {k s : ℕ} → Room (length ts) table → Ordinary (word_bits * row_words) ts → k < length ts → s ≡ get_or ts k 0 → BitThere table k s
token-there {ts} {k = k} room ordinary l is = record {
  there = row_inside room (token-inside (length ts) k l);
  narrow = subst (λ (x : ℕ). x < word_bits * row_words) (sym is) (ordinary.below k l);
}

-- A turn of the loop over the tokens.
pub seeding_more : {ts before table marked : List ℕ} {k s : ℕ} → Room (length ts) before → Ordinary (word_bits * row_words) ts → Kept (length ts) before table → Seeded ts table k → k < length ts
    → s ≡ get_or ts k 0 → marked ≡ with_row row_words table k (adding (row_of row_words table k) s) → Kept (length ts) before marked × Seeded ts marked (k + 1)
seeding_more {ts} {before} {table} {marked} {k} {s} room ordinary kept h l is e = (
  kept_trans kept (record { long = m.long; behind = λ j late. m.outside j (omega (arith, inside)) }),
  seeded-more ts table marked k s (kept-room room kept) h l is inside m,
)
  where
    inside : k < stretches_up_to (length ts) (length ts)
    inside = token-inside (length ts) k l

    m : Marked table k s marked
    m = is_marked table k s (token-there (kept-room room kept) ordinary l is) marked e

-- Where a stretch has more than one token its row stands behind the tokens.
long-behind : (n l i : ℕ) → 1 < l → n ≤ place n l i
unfolding stretches_up_to
long-behind n l i more = omega (arith, up_to_rises n 1 (l - 1) (omega arith), up_to-next n 0)

one_place : (n l i : ℕ) → l ≡ 1 → place n l i ≡ i
unfolding stretches_up_to
one_place n l i e =
    let z : l - 1 ≡ 0 = omega arith in
    let f : stretches_up_to n (l - 1) ≡ stretches_up_to n 0 = ap (stretches_up_to n) z in omega arith

-- With all tokens seeded no stretch is settled yet, and each row holds its token alone, where it has one token.
pub seeded_filling : (g : Grammar) (ts table : List ℕ) (p : ℕ) → p ≡ 0 → Seeded ts table (length ts) → Filling g ts table p
seeded_filling g ts table p none h = record {
  fits = h.fits;
  settled = λ l i x s less. absurd (omega arith);
  seeded = λ l i x s late. (to l i x s, from l i x s);
}
  where
    n : ℕ
    n = length ts

    to : (l i x : ℕ) → Stretch n l i → Held table n l i x → stretch ts l i ≡ x ∷ []
    to l i x s held = elim (dec_lt 1 l) [
      | yes more ↦ absurd (let early : place n l i < n = (h.only (place n l i) x (place_inside n l i s) held).0 in omega (arith, long-behind n l i more))
      | no few ↦ (let one : l ≡ 1 = omega (arith, s.some) in
          let is : x ≡ get_or ts (place n l i) 0 = (h.only (place n l i) x (place_inside n l i s) held).1 in
          ap (λ (k : ℕ). stretch ts k i) one ∙ stretch_one ts i (omega (arith, s.inside, s.some))
          ∙ ap alone (sym (is ∙ ap (λ (j : ℕ). get_or ts j 0) (one_place n l i one))))
    ]

    from : (l i x : ℕ) → Stretch n l i → stretch ts l i ≡ x ∷ [] → Held table n l i x
    from l i x s e =
        let one : l ≡ 1 = sym (stretch-long ts l i s) ∙ ap length e in
        let is : x ≡ get_or ts i 0 = stretch-first ts l i x s e in
        subst (λ (k : ℕ). Holds (row_of row_words table k) x) (sym (one_place n l i one))
        (subst (λ (t : ℕ). Holds (row_of row_words table i) t) (sym is) (h.all i (omega (arith, s.inside, s.some))))
