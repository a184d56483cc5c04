-- From marks of all nonterminals to what is told of every one, and from one that is not marked to the refusal.
use Rattle.std.proofs.Common.{◌≡◌, subst, Bool, true, false, List, [], ◌∷◌, ◌⊎◌, inl, inr, ⊎_elim, ℕ, zero, suc, ◌+◌, ◌-◌, ◌≤◌, ◌<◌, arith}
use native.Mathlib.Decide.{dec_lt}
use Rattle.laws.specs.Decides.{Decides}
use Rattle.laws.proofs.Tests.{either_way}
use Rattle.laws.proofs.Decides.{false_true}
use Rattle.written.specs.Lists.{Each}
use Rattle.written.specs.Written.{Written, Becomes, Tokens, symbol_count, no_written}
use Rattle.written.specs.Written.Becomes.{stays, by_rule}
use Rattle.written.specs.Written.Tokens.{one_more}
use Rattle.written.specs.Form.{tokens_in, end_in, count_in, written_header, written_of}
use Rattle.written.specs.Refusals.{Nonterminal, Fruitful, Reachable}
use Rattle.written.proofs.Lists.{each_at}
use Rattle.translation.specs.Conditions.{SaysFruitful, SaysReachable}
use Rattle.translation.specs.inner.Marks.{most_symbols, marked, MarksAre, AllWithin}
use Rattle.translation.specs.inner.Symbols.{Narrow, LowRule}
use Rattle.translation.proofs.Reading.{rules-low, u16_low}

-- Where not all are marked, one is not.
record Unmarked (marks : List Bool) (from to : ℕ) : Type 0 where
  symbol : ℕ
  no_less : from ≤ symbol
  below : symbol < to
  is : marked marks symbol ≡ false

look : (marks : List Bool) (from n : ℕ) → AllWithin marks from (from + n) ⊎ Unmarked marks from (from + n)
look marks from zero = inl (record { all = λ a l h. absurd (omega arith) })
look marks from (suc n) = ⊎_elim
    (λ w. either_way (marked marks (from + n))
    (λ e. inl (record {
      all = λ a l h. elim (dec_lt a (from + n)) [
        | yes b ↦ w.all a l b
        | no g ↦ subst (λ (x : ℕ). marked marks x ≡ true) (last a h g) e
      ];
    }))
    (λ e. inr (record { symbol = from + n; no_less = omega arith; below = omega arith; is = e })))
    (λ u. inr (record { symbol = u.symbol; no_less = u.no_less; below = let b = u.below in omega arith; is = u.is }))
    (look marks from n)
  where
    last : (a : ℕ) → a < from + suc n → (a < from + n → ⊥) → from + n ≡ a
    last a h g = omega arith

one_unmarked : (marks : List Bool) (from to : ℕ) → (AllWithin marks from to → ⊥) → Unmarked marks from to
one_unmarked marks from to none = elim (dec_lt to from) [
  | yes l ↦ absurd (none (record { all = λ a x y. absurd (let p : from ≤ a = x in let q : a < to = y in omega arith) }))
  | no g ↦ by_length (omega arith)
]
  where
    by_length : from + (to - from) ≡ to → Unmarked marks from to
    by_length e = subst (Unmarked marks from) e (⊎_elim (λ w. absurd (none (subst (AllWithin marks from) e w))) (λ u. u) (look marks from (to - from)))

-- Of marks of the symbols for which `P` holds, and whether all nonterminals are marked.
module _ (w : Written) (P : ℕ → Type 0) (marks : List Bool) (exact : MarksAre P marks) (from to : ℕ) (low : from ≡ w.tokens) (high : to ≡ symbol_count w)
    (answer : Bool) (told : Decides answer (AllWithin marks from to)) where
  pub all_hold : answer ≡ true → (a : ℕ) → Nonterminal w a → P a
  all_hold y a n = (exact.right a).if_yes ((told.if_yes y).all a (let l = n.no_token_lem in omega arith) (let h = n.within in omega arith))

  pub record OneFails : Type 0 where
    pub symbol : ℕ
    pub nonterminal : Nonterminal w symbol
    pub never : P symbol → ⊥

  pub one_fails : answer ≡ false → OneFails
  one_fails y =
      let u = one_unmarked marks from to (told.if_no y) in
      record {
        symbol = u.symbol;
        nonterminal = record { no_token_lem = let l = u.no_less in omega arith; within = let h = u.below in omega arith };
        never = (exact.right u.symbol).if_no u.is;
      }

-- A nonterminal that two bytes cannot name has no rule.
no_rule_lem : (w : Written) → Each LowRule w.rules → w.tokens ≤ most_symbols → {u : List ℕ} → Becomes w (most_symbols ∷ []) u → Tokens w u → ⊥
no_rule_lem w low t (stays p) (one_more h k) = omega arith
no_rule_lem w low t (by_rule {r = r} h p q) k =
    let l : most_symbols < most_symbols = subst (λ (x : ℕ). x < most_symbols) h.left (each_at w.rules no_written r low h.there).left in
    omega arith

pub too_many : (bytes : List ℕ) → Narrow bytes → (all : ℕ) → all ≡ end_in bytes → most_symbols < all → SaysFruitful bytes false
too_many bytes narrow all e h = record {
  named = λ y. absurd (false_true y);
  all = λ y. absurd (false_true y);
  not = λ y. record {
    symbol = most_symbols;
    nonterminal = record { no_token_lem = omega (arith, u16_low narrow 1); within = omega arith };
    never = λ f. no_rule_lem (written_of bytes) (rules-low narrow written_header (count_in bytes)) (omega (arith, u16_low narrow 1)) f.gives.becomes f.gives.tokens;
  };
}

pub says-fruitful : (bytes : List ℕ) (marks : List Bool) → MarksAre (Fruitful (written_of bytes)) marks → (from to : ℕ) → from ≡ tokens_in bytes → to ≡ end_in bytes
    → to ≤ most_symbols → {answer : Bool} → Decides answer (AllWithin marks from to) → SaysFruitful bytes answer
says-fruitful bytes marks exact from to low high few {answer} told = record {
  named = λ y. omega arith;
  all = all_hold (written_of bytes) (Fruitful (written_of bytes)) marks exact from to low high answer told;
  not = λ y.
      let f = one_fails (written_of bytes) (Fruitful (written_of bytes)) marks exact from to low high answer told y in
      record { symbol = f.symbol; nonterminal = f.nonterminal; never = f.never };
}

pub says-reachable : (bytes : List ℕ) (marks : List Bool) → MarksAre (Reachable (written_of bytes)) marks → (from to : ℕ) → from ≡ tokens_in bytes → to ≡ end_in bytes
    → {answer : Bool} → Decides answer (AllWithin marks from to) → SaysReachable bytes answer
says-reachable bytes marks exact from to low high {answer} told = record {
  all = all_hold (written_of bytes) (Reachable (written_of bytes)) marks exact from to low high answer told;
  not = λ y.
      let f = one_fails (written_of bytes) (Reachable (written_of bytes)) marks exact from to low high answer told y in
      record { symbol = f.symbol; nonterminal = f.nonterminal; never = f.never };
}
