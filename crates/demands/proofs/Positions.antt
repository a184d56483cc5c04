-- Positions: their kinds rise, each is a token, and some are predicted.
use mathlib.Core.Path.{◌≡◌, refl, sym, subst}
use mathlib.Core.Logic.{◌↔◌, ⊎_elim}
use mathlib.Core.Bool.{Bool, true, false, ◌||◌, false≢true}
use mathlib.Core.List.Memᴰ.{head as here}
use mathlib.Core.List.Memᴰ.{tail as behind}
use mathlib.Core.List.{List, [], ◌∷◌, Memᴰ as Member}
use mathlib.Core.List.Memᴰ.{cases_cons as first-or-later}
use mathlib.Core.List.Memᴰ.{eq_of_singleton as only}
use mathlib.Core.List.Memᴰ.{not-nil as no_member}
use Prim.Native.Nat.{ℕ, zero, suc, ◌*◌, ◌≤◌, ◌<◌}
use native.Mathlib.Omega.{arith}
use lib.ListN.{length, get_or}
use lib.Dec.{ltb}
use borrow.Author.Tests.{ltb-true, lt-ltb, le-ltb}
use Rattle.laws.specs.Bits.{word_bits, Holds, row_of}
use Rattle.laws.proofs.Bits.{holds_true, true_holds}
use Rattle.laws.proofs.Tests.{both_true, either_way}
use Rattle.bits.specs.Width.{row_words}
use Rattle.grammar.specs.Rules.{Grammar, rule_count, rule_at}
use Rattle.grammar.specs.Accepted.{Accepted}
use Rattle.parse.specs.declared.State.{State}
use Rattle.parse.specs.Words.{Words}
use Rattle.completion.specs.Complete.{predicted}
use Rattle.completion.specs.inner.Ready.{KindsFit}
use Rattle.completion.proofs.Scanning.{Scannable}
use Rattle.demands.specs.Positions.{is_position, any_predicted}

module _ (n : ℕ) where
  -- No kind is no position.
  pub no_position : is_position n [] ≡ true → ⊥
  unfolding is_position
  no_position e = false≢true e

  -- A position of one kind is a token.
  pub one_position : (t : ℕ) → (is_position n (t ∷ []) ≡ true) ↔ (t < n)
  unfolding is_position
  one_position t = (ltb-true t n, lt-ltb t n)

  -- T and above is none.
  pub past_position : (t : ℕ) → n ≤ t → is_position n (t ∷ []) ≡ false
  unfolding is_position
  past_position t large = le-ltb t n large

  -- Of two kinds or more the first is below the second, and the others are a position.
  pub position-more : (t u : ℕ) (kinds : List ℕ) → is_position n (t ∷ u ∷ kinds) ≡ true → (t < u) × (is_position n (u ∷ kinds) ≡ true)
  unfolding is_position
  position-more t u kinds e = let both = both_true (ltb t u) (is_position n (u ∷ kinds)) e in (ltb-true t u both.0, both.1)

  -- The first kind of a position is a token, and below the others.
  first-token : (t : ℕ) (kinds : List ℕ) → is_position n (t ∷ kinds) ≡ true → t < n
  first-token t [] e = (one_position t).0 e
  first-token t (u ∷ kinds) e = let more = position-more t u kinds e in omega (arith, more.0, first-token u kinds more.1)

  first_least : (t : ℕ) (kinds : List ℕ) → is_position n (t ∷ kinds) ≡ true → (i : ℕ) → i < length kinds → t < get_or kinds i 0
  first_least t [] e i l = absurd (omega arith)
  first_least t (u ∷ kinds) e zero l = (position-more t u kinds e).0
  first_least t (u ∷ kinds) e (suc i) l =
      let more = position-more t u kinds e in omega (arith, more.0, first_least u kinds more.1 i (omega arith))

  -- Every kind of a position is a token.
  pub position-below : (kinds : List ℕ) → is_position n kinds ≡ true → (t : ℕ) → Member t kinds → t < n
  position-below [] e t m = absurd (no_position e)
  position-below (u ∷ []) e t m = subst (λ (x : ℕ). x < n) (sym (only m)) (first-token u [] e)
  position-below (u ∷ v ∷ kinds) e t m =
      let later : Member t (v ∷ kinds) → t < n = position-below (v ∷ kinds) (position-more u v kinds e).1 t in
      ⊎_elim (λ is. subst (λ (x : ℕ). x < n) (sym is) (first-token u (v ∷ kinds) e)) later (first-or-later m)

  -- The kinds of a position rise.
  pub position_rises : (kinds : List ℕ) → is_position n kinds ≡ true → (i j : ℕ) → i < j → j < length kinds → get_or kinds i 0 < get_or kinds j 0
  position_rises [] e i j l there = absurd (omega arith)
  position_rises (t ∷ kinds) e i zero l there = absurd (omega arith)
  position_rises (t ∷ kinds) e zero (suc j) l there = first_least t kinds e j (omega arith)
  position_rises (t ∷ []) e (suc i) (suc j) l there = absurd (omega arith)
  position_rises (t ∷ u ∷ kinds) e (suc i) (suc j) l there =
      position_rises (u ∷ kinds) (position-more t u kinds e).1 i j (omega arith) (omega arith)

-- No rule of an accepted grammar has a token for its left side, and no kind of a position is there twice.
pub position_scannable : (g : Grammar) → Accepted g → (kinds : List ℕ) → is_position g.tokens kinds ≡ true → Scannable g.rules kinds
position_scannable g accepted kinds position = record {
  leaf = λ t m. record { none = λ r there is. no_left r there (subst (λ (x : ℕ). x < g.tokens) (sym is) (position-below g.tokens kinds position t m)) };
  once = λ i j l there same. omega (arith, position_rises g.tokens kinds position i j l there);
}
  where
    no_left : (r : ℕ) → r < rule_count g → (rule_at g r).left < g.tokens → ⊥
    no_left zero there small = omega (arith, accepted.wraps.left, accepted.room)
    no_left (suc r) there small = omega (arith, (accepted.lefts (suc r) (omega arith) there).no_token_lem)

-- What stands at a place of a list is in it.
pub place_member : (kinds : List ℕ) (i : ℕ) → i < length kinds → Member (get_or kinds i 0) kinds
place_member [] i l = absurd (omega arith)
place_member (t ∷ kinds) zero l = here refl
place_member (t ∷ kinds) (suc i) l = behind (place_member kinds i (omega arith))

-- The kinds of a position are symbols of a row.
pub position-fits : (n : ℕ) (kinds : List ℕ) → n ≤ word_bits * row_words → is_position n kinds ≡ true → KindsFit kinds
position-fits n kinds few e = record {
  each = λ i l. let token = position-below n kinds e (get_or kinds i 0) (place_member kinds i l) in omega arith;
}

-- Some kind is in the latest row.
pub record Predicted (s : State) (v : Words) (kinds : List ℕ) : Type 0 where
  pub kind : ℕ
  pub of : Member kind kinds
  pub held : Holds (row_of row_words v.rows s.set) kind

module _ (s : State) (v : Words) where
  -- And that is what the test says.
  pub any_predicted_lem : (kinds : List ℕ) → any_predicted v.rows s.set kinds ≡ true → Predicted s v kinds
  unfolding any_predicted
  any_predicted_lem [] e = absurd (false≢true e)
  any_predicted_lem (t ∷ kinds) e =
      let later : any_predicted v.rows s.set kinds ≡ true → Predicted s v kinds = any_predicted_lem kinds in
      either_way (predicted v.rows s.set t)
      (λ is. record { kind = t; of = here refl; held = holds_true (row_of row_words v.rows s.set) t is })
      (λ not.
      let some = later (rw not at e) in
      record { kind = some.kind; of = behind some.of; held = some.held })

  pub predicted-any : (kinds : List ℕ) → Predicted s v kinds → any_predicted v.rows s.set kinds ≡ true
  unfolding any_predicted
  predicted-any [] some = absurd (no_member some.of)
  predicted-any (t ∷ kinds) some =
      let later : Predicted s v kinds → any_predicted v.rows s.set kinds ≡ true = predicted-any kinds in
      ⊎_elim
      (λ is.
      let held : predicted v.rows s.set t ≡ true =
      true_holds (row_of row_words v.rows s.set) t (subst (Holds (row_of row_words v.rows s.set)) is some.held) in
      rw held refl)
      (λ m. by_later (predicted v.rows s.set t) (later (record { kind = some.kind; of = m; held = some.held })))
      (first-or-later some.of)
    where
      by_later : (a : Bool) → {b : Bool} → b ≡ true → (a || b) ≡ true
      by_later true e = refl
      by_later false e = e

  pub none_predicted : (kinds : List ℕ) → (Predicted s v kinds → ⊥) → any_predicted v.rows s.set kinds ≡ false
  none_predicted kinds n =
      either_way (any_predicted v.rows s.set kinds) (λ is. absurd (n (any_predicted_lem kinds is))) (λ is. is)
