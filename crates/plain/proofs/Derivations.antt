-- Derivations by their last rule. Where A ::= B alone, every rule of B has a higher number: so rules that fall miss nothing.
use Rattle.std.proofs.Common.{◌≡◌, refl, sym, subst, ◌∙◌, ◌⊎◌, inl, inr, List, [], ◌∷◌, ◌++◌, ℕ, ◌+◌, ◌≤◌, ◌<◌, arith}
use native.Mathlib.Decide.{ℕ_discrete}
use Rattle.grammar.specs.Rules.{Grammar, none, rule_count, rule_at}
use Rattle.grammar.specs.Accepted.{Accepted}
use Rattle.grammar.specs.Sentences.{Derives}

-- The right side of rule `r` derives `w`.
pub data Right (g : Grammar) (r : ℕ) (w : List ℕ) : Type 0 where
  alone : (rule_at g r).second ≡ none → Derives g (rule_at g r).first w → Right g r w
  two : {u v : List ℕ} → ((rule_at g r).second ≡ none → ⊥) → Derives g (rule_at g r).first u → Derives g (rule_at g r).second v → w ≡ u ++ v → Right g r w

-- `x` is the one token of `w`, or the right side of some rule of `x` from rule `r` on derives `w`.
pub data From (g : Grammar) (w : List ℕ) (r : ℕ) (x : ℕ) : Type 0 where
  itself : x < g.tokens → w ≡ x ∷ [] → From g w r x
  by_rule : (s : ℕ) → r ≤ s → s < rule_count g → (rule_at g s).left ≡ x → Right g s w → From g w r x

module _ {g : Grammar} {w : List ℕ} where
  -- What comes from some rule is derived, ..
  pub from_derives : {r x : ℕ} → From g w r x → Derives g x w
  from_derives {x = x} (From.itself l e) = subst (Derives g x) (sym e) (Derives.token l)
  from_derives (From.by_rule s a there ex (Right.alone e d)) = Derives.unary {r = s} (record { there = there; left = ex; first = refl; second = e }) d
  from_derives {x = x} (From.by_rule s a there ex (Right.two n d e is)) =
      subst (Derives g x) (sym is) (Derives.binary {r = s} (record { there = there; left = ex; first = refl; second = refl }) n d e)

  -- Before the first rule there are none but the token, ..
  pub from_none : {r x : ℕ} → rule_count g ≤ r → From g w r x → w ≡ x ∷ []
  from_none few (From.itself l e) = e
  from_none few (From.by_rule s a there ex right) = absurd (omega arith)

  -- .. and a rule more gives what its right side derives, and nothing else.
  pub from_more : {r x : ℕ} → From g w (r + 1) x → From g w r x
  from_more (From.itself l e) = From.itself l e
  from_more (From.by_rule s a there ex right) = From.by_rule s (omega arith) there ex right

  pub from_new : {r x : ℕ} → r < rule_count g → (rule_at g r).left ≡ x → Right g r w → From g w r x
  from_new {r} there ex right = From.by_rule r (omega arith) there ex right

  pub from_one : {r x : ℕ} → From g w r x → From g w (r + 1) x ⊎ (((rule_at g r).left ≡ x) × Right g r w)
  from_one (From.itself l e) = inl (From.itself l e)
  from_one {r} {x} (From.by_rule s a there ex right) = elim (ℕ_discrete s r) [
    | yes e ↦ inr (subst (λ (q : ℕ). (rule_at g q).left ≡ x) e ex, subst (λ (q : ℕ). Right g q w) e right)
    | no n ↦ inl (From.by_rule s (omega arith) there ex right)
  ]

-- .. and what is derived comes from some rule.
pub derives_from : {g : Grammar} {x : ℕ} {w : List ℕ} → Derives g x w → From g w 0 x
derives_from (Derives.token l) = From.itself l refl
derives_from {g} {w = w} (Derives.unary {r = r} s d) =
    From.by_rule r (omega arith) s.there s.left (Right.alone s.second (subst (λ (b : ℕ). Derives g b w) (sym s.first) d))
derives_from {g} (Derives.binary {r = r} {u = u} {v = v} s n d e) =
    From.by_rule r (omega arith) s.there s.left
    (Right.two (λ z. n (sym s.second ∙ z)) (subst (λ (b : ℕ). Derives g b u) (sym s.first) d) (subst (λ (c : ℕ). Derives g c v) (sym s.second) e) refl)

-- Where rule `r` is A ::= B alone, whatever B derives comes from the rules behind it.
pub alone-later : {g : Grammar} {w : List ℕ} {r : ℕ} → Accepted g → r < rule_count g → (rule_at g r).second ≡ none → Derives g (rule_at g r).first w
    → From g w (r + 1) (rule_at g r).first
alone-later {g} {w} {r} h l e d = later (derives_from d)
  where
    later : From g w 0 (rule_at g r).first → From g w (r + 1) (rule_at g r).first
    later (From.itself t is) = From.itself t is
    later (From.by_rule s a there ex right) = From.by_rule s (let above : r < s = h.unary_below r s l there e ex in omega arith) there ex right
