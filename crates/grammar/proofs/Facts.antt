-- Facts of accepted grammars and of derivations, in the form in which a proof uses them.
use mathlib.Core.Path.{◌≡◌, refl, sym, ap, ◌∙◌}
use mathlib.Core.Logic.{⊎_elim}
use mathlib.Core.List.{List, [], ◌∷◌}
use Prim.Native.Nat.{ℕ, zero, suc, ◌+◌, ◌-◌, ◌≤◌, ◌<◌}
use native.Mathlib.Decide.{ℕ_discrete, dec_lt}
use native.Mathlib.Omega.{arith}
use lib.ListN.{length, length-append}
use Rattle.grammar.specs.Rules.{Rule, Grammar, Says, none, rule_count, rule_at, wrapper, end_mark, start}
use Rattle.grammar.specs.Sentences.{Derives, Sentence}
use Rattle.grammar.specs.Sentences.Derives.{token, unary, binary}
use Rattle.grammar.specs.Accepted.{Accepted, Productive}

-- Every derived string has a token.
pub derives-some : {g : Grammar} {x : ℕ} {w : List ℕ} → Derives g x w → 0 < length w
derives-some (token l) = omega arith
derives-some (unary s d) = derives-some d
derives-some (binary {u = u} {v = v} s n d e) = simp length-append (let h : 0 < length u = derives-some d in omega arith)

-- No sentence is empty.
pub sentence-some : (g : Grammar) (w : List ℕ) → Sentence g w → 0 < length w
sentence-some g w d = derives-some d

-- A rule says what it holds.
pub rule-says : (g : Grammar) (r : ℕ) → r < rule_count g → Says g r (rule_at g r).left (rule_at g r).first (rule_at g r).second
rule-says g r l = record { there = l; left = refl; first = refl; second = refl }

-- The rules `from` to `to` are exactly those of the left side `a`.
pub record Block (g : Grammar) (a from to : ℕ) : Type 0 where
  pub order : from ≤ to
  pub there : to < rule_count g
  pub inside : (r : ℕ) → from ≤ r → r ≤ to → (rule_at g r).left ≡ a
  pub only : (r : ℕ) → r < rule_count g → (rule_at g r).left ≡ a → (from ≤ r) × (r ≤ to)

-- A left side with its block.
pub record HasBlock (g : Grammar) (a : ℕ) : Type 0 where
  pub from : ℕ
  pub to : ℕ
  pub block : Block g a from to

module _ (g : Grammar) (h : Accepted g) where
  -- The numbers of symbols.
  pub wrapper-next : wrapper g + 2 ≡ g.symbols
  wrapper-next = omega (arith, h.room)

  pub end-next : wrapper g + 1 ≡ end_mark g
  end-next = omega (arith, h.room)

  pub symbols_none : g.symbols < none
  symbols_none = omega (arith, h.few_symbols)

  pub tokens-wrapper : g.tokens < wrapper g
  tokens-wrapper = omega (arith, h.room)

  -- Rule 0.
  pub rule-zero : Says g 0 (wrapper g) (start g) (end_mark g)
  rule-zero = h.wraps

  -- W is the left side of rule 0 alone.
  pub wrapper-left : (r : ℕ) → r < rule_count g → (rule_at g r).left ≡ wrapper g → r ≡ 0
  wrapper-left zero l e = refl
  wrapper-left (suc r) l e = absurd (omega (arith, (h.lefts (suc r) (omega arith) l).no_wrapper))

  -- W stands on no right side.
  pub wrapper-first : (r : ℕ) → r < rule_count g → (rule_at g r).first < wrapper g
  wrapper-first zero l = h.starts.no_wrapper
  wrapper-first (suc r) l = h.firsts (suc r) (omega arith) l

  pub wrapper-second : (r : ℕ) → r < rule_count g → (rule_at g r).second ≡ wrapper g → ⊥
  wrapper-second zero l e = omega (arith, h.wraps.second, h.room)
  wrapper-second (suc r) l e =
      ⊎_elim (λ (x : (rule_at g (suc r)).second ≡ none). omega (arith, h.few_symbols))
      (λ (x : (rule_at g (suc r)).second < wrapper g). omega arith)
      (h.seconds (suc r) (omega arith) l)

  -- The end mark is the second symbol of rule 0, and stands nowhere else.
  pub end-left : (r : ℕ) → r < rule_count g → (rule_at g r).left ≡ end_mark g → ⊥
  end-left zero l e = omega (arith, h.wraps.left, h.room)
  end-left (suc r) l e = omega (arith, (h.lefts (suc r) (omega arith) l).no_wrapper)

  pub end-first : (r : ℕ) → r < rule_count g → (rule_at g r).first ≡ end_mark g → ⊥
  end-first r l e = omega (arith, wrapper-first r l)

  pub end-second : (r : ℕ) → r < rule_count g → (rule_at g r).second ≡ end_mark g → r ≡ 0
  end-second zero l e = refl
  end-second (suc r) l e = absurd
      (⊎_elim (λ (x : (rule_at g (suc r)).second ≡ none). omega (arith, h.few_symbols, h.room))
      (λ (x : (rule_at g (suc r)).second < wrapper g). omega arith)
      (h.seconds (suc r) (omega arith) l))

  -- Every symbol of a rule is one of the grammar's, and no left side is a token.
  pub left-low : (r : ℕ) → r < rule_count g → (rule_at g r).left < end_mark g
  left-low zero l = omega (arith, h.wraps.left, h.room)
  left-low (suc r) l = omega (arith, (h.lefts (suc r) (omega arith) l).no_wrapper)

  pub left-high : (r : ℕ) → r < rule_count g → g.tokens ≤ (rule_at g r).left
  left-high zero l = omega (arith, h.wraps.left, h.room)
  left-high (suc r) l = (h.lefts (suc r) (omega arith) l).no_token_lem

  pub second-low : (r : ℕ) → r < rule_count g → ((rule_at g r).second ≡ none → ⊥) → (rule_at g r).second < g.symbols
  second-low zero l n = omega (arith, h.wraps.second, h.room)
  second-low (suc r) l n =
      ⊎_elim (λ (x : (rule_at g (suc r)).second ≡ none). absurd (n x))
      (λ (x : (rule_at g (suc r)).second < wrapper g). omega arith)
      (h.seconds (suc r) (omega arith) l)

  -- Where a rule but rule 0 has a second symbol, it stands below W.
  pub second_inner : (r : ℕ) → 0 < r → r < rule_count g → ((rule_at g r).second ≡ none → ⊥) → (rule_at g r).second < wrapper g
  second_inner r z l n =
      ⊎_elim (λ (x : (rule_at g r).second ≡ none). absurd (n x)) (λ (x : (rule_at g r).second < wrapper g). x) (h.seconds r z l)

  -- Every symbol below W derives some string of tokens.
  pub all-productive : (x : ℕ) → x < wrapper g → Productive g x
  all-productive x l = elim (dec_lt x g.tokens) [
    | yes t ↦ record { string = x ∷ []; derives = token t }
    | no n ↦ h.productive x (record { no_token_lem = omega arith; no_wrapper = l })
  ]

  -- A rule is known by what it says.
  pub says_unique : (q r a b c : ℕ) → Says g q a b c → Says g r a b c → q ≡ r
  says_unique q r a b c p s = elim (dec_lt q r) [
    | yes l ↦ absurd (h.distinct q r l s.there (same q r p s))
    | no n ↦ elim (dec_lt r q) [ yes l ↦ absurd (h.distinct r q l p.there (same r q s p)) | no m ↦ omega arith ]
  ]
    where
      same : (i j : ℕ) → Says g i a b c → Says g j a b c → rule_at g i ≡ rule_at g j
      same i j x y = whole (rule_at g i) (rule_at g j) (x.left ∙ sym y.left) (x.first ∙ sym y.first) (x.second ∙ sym y.second)
        where
          whole : (u v : Rule) → u.left ≡ v.left → u.first ≡ v.first → u.second ≡ v.second → u ≡ v
          whole u v el ef es =
              ap (λ (k : ℕ). record { left = k; first = u.first; second = u.second }) el
              ∙ ap (λ (k : ℕ). record { left = v.left; first = k; second = u.second }) ef
              ∙ ap (λ (k : ℕ). record { left = v.left; first = v.first; second = k }) es

  -- Between two rules of one left side all are of that side.
  pub between : (q r s : ℕ) → q ≤ r → r ≤ s → s < rule_count g → (rule_at g q).left ≡ (rule_at g s).left → (rule_at g r).left ≡ (rule_at g q).left
  between q r s lq ls l e = elim (ℕ_discrete q r) [
    | yes x ↦ ap (λ (k : ℕ). (rule_at g k).left) (sym x)
    | no n ↦ elim (ℕ_discrete r s) [
      | yes x ↦ ap (λ (k : ℕ). (rule_at g k).left) x ∙ sym e
      | no m ↦ sym (h.adjacent q r s (omega arith) (omega arith) l e)
    ]
  ]

  -- The first rule of a left side up to rule `r`, and the last from rule `r` on.
  lowest : (a r : ℕ) → (rule_at g r).left ≡ a → (from : ℕ) × (from ≤ r) × ((rule_at g from).left ≡ a) × ((q : ℕ) → q < from → (rule_at g q).left ≡ a → q ≡ from - 1 → ⊥)
  lowest a zero e = (zero, omega arith, e, λ q l. absurd (omega arith))
  lowest a (suc r) e = elim (ℕ_discrete (rule_at g r).left a) [
    | yes x ↦ (let d : (from : ℕ) × (from ≤ r) × ((rule_at g from).left ≡ a) × ((q : ℕ) → q < from → (rule_at g q).left ≡ a → q ≡ from - 1 → ⊥) = lowest a r x in
        (d.0, omega (arith, d.1), d.2, d.3))
    | no n ↦ (suc r, omega arith, e, λ q l x p. n (ap (λ (k : ℕ). (rule_at g k).left) (sym (low q p)) ∙ x))
  ]
    where
      low : (q : ℕ) → q ≡ suc r - 1 → q ≡ r
      low q p = omega arith

  highest : (a d r : ℕ) → r + d ≡ rule_count g → 0 < d → (rule_at g r).left ≡ a → (to : ℕ) × (r ≤ to) × (to < rule_count g) × ((rule_at g to).left ≡ a) × ((to + 1 < rule_count g) → (rule_at g (to + 1)).left ≡ a → ⊥)
  highest a zero r e z x = absurd (omega arith)
  highest a (suc d) r e z x = elim (dec_lt (r + 1) (rule_count g)) [
    | no n ↦ (r, omega arith, omega arith, x, λ l. absurd (n l))
    | yes l ↦ elim (ℕ_discrete (rule_at g (r + 1)).left a) [
      | yes y ↦ (let k : (to : ℕ) × (r + 1 ≤ to) × (to < rule_count g) × ((rule_at g to).left ≡ a) × ((to + 1 < rule_count g) → (rule_at g (to + 1)).left ≡ a → ⊥) = highest a d (r + 1) (omega arith) (omega arith) y in
          (k.0, omega (arith, k.1), k.2, k.3, k.4))
      | no n ↦ (r, omega arith, omega arith, x, λ m. n)
    ]
  ]

  -- The rules of one left side form a block.
  pub has_block : (r : ℕ) → r < rule_count g → HasBlock g (rule_at g r).left
  has_block r l = make (lowest (rule_at g r).left r refl) (highest (rule_at g r).left (rule_count g - r) r (omega arith) (omega arith) refl)
    where
      make : (from : ℕ) × (from ≤ r) × ((rule_at g from).left ≡ (rule_at g r).left) × ((q : ℕ) → q < from → (rule_at g q).left ≡ (rule_at g r).left → q ≡ from - 1 → ⊥)
          → (to : ℕ) × (r ≤ to) × (to < rule_count g) × ((rule_at g to).left ≡ (rule_at g r).left) × ((to + 1 < rule_count g) → (rule_at g (to + 1)).left ≡ (rule_at g r).left → ⊥)
          → HasBlock g (rule_at g r).left
      make low high = record {
        from = low.0;
        to = high.0;
        block = record {
          order = omega (arith, low.1, high.1);
          there = high.2;
          inside = λ q lq uq. between low.0 q high.0 lq uq high.2 (low.2 ∙ sym high.3) ∙ low.2;
          only = λ q lq e. (below q lq e, above q lq e);
        };
      }
        where
          below : (q : ℕ) → q < rule_count g → (rule_at g q).left ≡ (rule_at g r).left → low.0 ≤ q
          below q lq e = elim (dec_lt q low.0) [
            | no n ↦ omega arith
            | yes m ↦ absurd (low.3 (low.0 - 1) (omega arith)
                (between q (low.0 - 1) low.0 (omega arith) (omega arith) (omega (arith, low.1)) (e ∙ sym low.2) ∙ e) refl)
          ]

          above : (q : ℕ) → q < rule_count g → (rule_at g q).left ≡ (rule_at g r).left → q ≤ high.0
          above q lq e = elim (dec_lt high.0 q) [
            | no n ↦ omega arith
            | yes m ↦ absurd (high.4 (omega arith)
                (between high.0 (high.0 + 1) q (omega arith) (omega arith) lq (high.3 ∙ sym e) ∙ high.3))
          ]

  -- A unary rule lies below the block of its right side.
  pub unary_below_block : (r a from to : ℕ) → r < rule_count g → (rule_at g r).second ≡ none → (rule_at g r).first ≡ a → Block g a from to → r < from
  unary_below_block r a from to l e x b =
      h.unary_below r from l (omega (arith, b.order, b.there)) e (b.inside from (omega arith) b.order ∙ sym x)
