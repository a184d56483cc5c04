-- What stands beside the symbols that a symbol ends is what follows it.
use mathlib.Core.Path.{◌≡◌, refl, sym, subst, ◌∙◌}
use mathlib.Core.Bool.{Bool, true, false}
use mathlib.Core.Logic.{⊎_elim}
use mathlib.Core.List.{List, []}
use Prim.Native.Nat.{ℕ, zero, suc, ◌<◌}
use native.Mathlib.Decide.{ℕ_discrete}
use native.Mathlib.Omega.{arith}
use lib.Dec.{eqb}
use lib.Seq.{ext_get_or}
use borrow.Author.Tests.{eqb-true, eqb-false}
use Rattle.laws.proofs.Bits.{row_ext}
use Rattle.grammar.specs.Rules.{Grammar, Says, none}
use Rattle.grammar.specs.Accepted.{Accepted}
use Rattle.grammar.specs.Prediction.{Reaches, Predicts, row_at}
use Rattle.grammar.specs.Following.{Follows, Followers}
use Rattle.grammar.specs.inner.Decoded.{left_in, first_in, second_in, grammar_in}
use Rattle.grammar.specs.inner.Checking.{Last}
use Rattle.grammar.proofs.Decoding.{in_count, in_second, in_says, says_in_lem}
use Rattle.prediction.specs.inner.Tables.{Bit, Tells, AllWithin, last_in, Step, Seeded, Chain, Closed, Beside, Across}
use Rattle.prediction.specs.inner.Tables.Step.{own, rule}
use Rattle.prediction.specs.inner.Tables.Chain.{link, join}
use Rattle.prediction.specs.inner.Tables.Beside.{beside}
use Rattle.prediction.proofs.Reaching.{accepted-within}

-- The last symbol of a rule: with no second it is the first,
pub last-alone : (words : List ℕ) (r : ℕ) → second_in words r ≡ none → last_in words r ≡ first_in words r
last-alone words r e = at (eqb (second_in words r) none) refl
  where
    at : (b : Bool) → eqb (second_in words r) none ≡ b → elim b [ true ↦ first_in words r | false ↦ second_in words r ] ≡ first_in words r
    at true is = refl
    at false is = absurd (eqb-false _ _ is e)

-- else it is the second.
pub last-behind : (words : List ℕ) (r : ℕ) → (second_in words r ≡ none → ⊥) → last_in words r ≡ second_in words r
last-behind words r n = at (eqb (second_in words r) none) refl
  where
    at : (b : Bool) → eqb (second_in words r) none ≡ b → elim b [ true ↦ first_in words r | false ↦ second_in words r ] ≡ second_in words r
    at true is = absurd (n (eqb-true _ _ is))
    at false is = refl

pub last_is : (words : List ℕ) (r x : ℕ) → Last words r x → x ≡ last_in words r
last_is words r x h = elim (ℕ_discrete (second_in words r) none) [ yes e ↦ h.alone e ∙ sym (last-alone words r e) | no n ↦ h.behind n ∙ sym (last-behind words r n) ]

-- It is a symbol.
pub last-low : (words : List ℕ) (n count r : ℕ) → AllWithin words n count → r < count → last_in words r < n
last-low words n count r within l = elim (ℕ_discrete (second_in words r) none) [
  | yes e ↦ subst (λ (x : ℕ). x < n) (sym (last-alone words r e)) (within.within.first r l)
  | no k ↦ subst (λ (x : ℕ). x < n) (sym (last-behind words r k)) (within.second r l k)
]

module _ (words : List ℕ) (width n count : ℕ) (within : AllWithin words n count) (t : ℕ) where
  abbrev g : Grammar
  g = grammar_in words n t count

  module _ (seed ended begins behind table : List (List ℕ)) (ends : Seeded (last_in words) (left_in words) width n count seed) (closed : Closed width seed ended)
      (predicts : Predicts g width begins) (besides : Tells width (Beside words begins count) behind) (across : Tells width (Across ended behind n) table) where
    -- What follows a left side follows the symbol that its rule ends with.
    rule-follows : (r y : ℕ) → r < count → Follows g (left_in words r) y → Follows g (last_in words r) y
    rule-follows r y l f = elim (ℕ_discrete (second_in words r) none) [
      | yes e ↦ subst (λ (x : ℕ). Follows g x y) (sym (last-alone words r e))
          (Follows.only (subst (Says g r (left_in words r) (first_in words r)) e (in_says words n t count r l)) f)
      | no k ↦ subst (λ (x : ℕ). Follows g x y) (sym (last-behind words r k)) (Follows.last (in_says words n t count r l) k f)
    ]

    step_follows : {x m y : ℕ} → Step (last_in words) (left_in words) n count x m → Follows g m y → Follows g x y
    step_follows (own l) f = f
    step_follows {y = y} (rule {r = r} l) f = rule-follows r y l f

    chain_follows : {x m y : ℕ} → Chain seed x m → Follows g m y → Follows g x y
    chain_follows (link {x = x} {y = m} b) f = step_follows (ends.no_more x m b) f
    chain_follows (join p q) f = chain_follows p (chain_follows q f)

    -- What stands beside follows.
    beside-follows : {x y : ℕ} → Beside words begins count x y → Follows g x y
    beside-follows (beside {r = r} {y = y} l k b) = Follows.beside (in_says words n t count r l) k (predicts.reached (second_in words r) y b)

    -- A symbol whose rule ends with `x` leads on as `x` does.
    led : {x a y : ℕ} → x < n → Chain seed x a → Across ended behind n a y → Across ended behind n x y
    led {x} {a} low c w = record {
      low = low;
      middle = w.middle;
      middle_low = w.middle_low;
      first = closed.all x w.middle (join c (closed.no_more a w.middle w.first));
      second = w.second;
    }

    rule_led : {r a x y : ℕ} → r < count → left_in words r ≡ a → last_in words r ≡ x → (a < n → Across ended behind n a y) → Across ended behind n x y
    rule_led {r} {a} {x} {y} l left last on =
        let w : Across ended behind n (left_in words r) y = subst (λ (z : ℕ). Across ended behind n z y) (sym left) (on (subst (λ (z : ℕ). z < n) left (within.within.left r l))) in
        subst (λ (z : ℕ). Across ended behind n z y) last
        (led (last-low words n count r within l) (link (ends.all (last_in words r) (left_in words r) (rule l))) w)

    -- What follows is led to.
    follows_led : {x y : ℕ} → Follows g x y → x < n → Across ended behind n x y
    follows_led {y = y} (Follows.beside {r = r} {x = x} h k p) low =
        let s = says_in_lem words n t count h in
        let two : second_in words r ≡ none → ⊥ = λ e. k (sym s.second ∙ e) in
        let reached : Bit begins (second_in words r) y = predicts.all (second_in words r) y (within.second r s.there two) (subst (λ (z : ℕ). Reaches g z y) (sym s.second) p) in
        record {
          low = low;
          middle = x;
          middle_low = low;
          first = closed.all x x (link (ends.all x x (own low)));
          second = subst (λ (z : ℕ). Bit behind z y) s.first (besides.all (first_in words r) y (beside s.there two reached));
        }
    follows_led {y = y} (Follows.last {r = r} {a = a} {x = x} h k p) low =
        let s = says_in_lem words n t count h in
        let two : second_in words r ≡ none → ⊥ = λ e. k (sym s.second ∙ e) in
        rule_led s.there s.left (last-behind words r two ∙ s.second) (follows_led p)
    follows_led {y = y} (Follows.only {r = r} {a = a} {x = x} h p) low =
        let s = says_in_lem words n t count h in
        rule_led s.there s.left (last-alone words r s.second ∙ s.first) (follows_led p)

    -- THE TABLE IS THE FOLLOW TABLE.
    pub followers : Followers g width table
    followers = record {
      rows = across.shape.rows;
      row = across.shape.row;
      below = λ x y b. (across.no_more x y b).low;
      follows = λ x y b.
          let w = across.no_more x y b in
          chain_follows (closed.no_more x w.middle w.first) (beside-follows (besides.no_more w.middle y w.second));
      all = λ x y l f. across.all x y (follows_led f l);
    }

-- An accepted grammar's symbols are symbols.
pub accepted-all-within : (words : List ℕ) (n t count : ℕ) → Accepted (grammar_in words n t count) → AllWithin words n count
accepted-all-within words n t count h = record { within = accepted-within words n t count h; second = low }
  where
    low : (r : ℕ) → r < count → (second_in words r ≡ none → ⊥) → second_in words r < n
    low zero l k = omega (arith, sym (in_second words n t count 0 l) ∙ h.wraps.second, h.room)
    low (suc r) l k =
        let is = in_second words n t count (suc r) l in
        ⊎_elim (λ e. absurd (k (sym is ∙ e))) (λ b. omega arith) (h.seconds (suc r) (omega arith) (subst (λ (m : ℕ). suc r < m) (sym (in_count words n t count)) l))

-- Two follow tables of the same grammar are equal.
pub followers_unique : (g : Grammar) (width : ℕ) (a b : List (List ℕ)) → Followers g width a → Followers g width b → a ≡ b
followers_unique g width a b p q =
    ext_get_or [] a b (p.rows ∙ sym q.rows)
    (λ x l. row_ext width (row_at a x) (row_at b x) (p.row x (omega (arith, p.rows))) (q.row x (omega (arith, p.rows)))
    (λ y h. q.all x y (p.below x y h) (p.follows x y h))
    (λ y h. p.all x y (q.below x y h) (q.follows x y h)))
