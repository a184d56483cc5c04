-- Symbols and rules in place, one after the other.
use Rattle.std.proofs.Common.{◌≡◌, refl, sym, ap, subst, Bool, List, [], ◌∷◌, ℕ, zero, suc, ◌+◌, ◌-◌, ◌*◌, ◌≤◌, ◌<◌, arith, length, eqb}
use Rattle.laws.specs.Decides.{Decides}
use Rattle.laws.proofs.Decides.{says-eqb, decides_map}
use Rattle.grammar.specs.File.{u16_at}
use Rattle.written.specs.Lists.{Each}
use Rattle.written.specs.Lists.Each.{end, and}
use Rattle.written.specs.Form.{rule_at, rules_at, symbols_at, rule_head, tokens_in, end_in, left_at, length_at, behind, longest, RuleStands, RulesStand}
use Rattle.written.specs.Form.RulesStand.{no_more, one_more}
use Rattle.translation.specs.inner.Symbols.{AllBelow, Narrow, LowRule}

-- A walk over the rules: where they stand from `from` on exactly when the rest stand from here on.
pub record Walked (bytes : List ℕ) (from count at left : ℕ) : Type 0 where
  pub inside : at ≤ length bytes
  pub back : RulesStand bytes at left → RulesStand bytes from count
  pub forth : RulesStand bytes from count → RulesStand bytes at left

pub rule-rest : {bytes : List ℕ} {at count left : ℕ} → RulesStand bytes at count → count ≡ suc left → RulesStand bytes (behind bytes at) left
rule-rest (no_more e) h = absurd (omega arith)
rule-rest {bytes} {at} (one_more s r) h = subst (RulesStand bytes (behind bytes at)) (omega arith) r

pub walk_on_lem : {bytes : List ℕ} {from count at left next : ℕ} (there : ℕ) → Walked bytes from count at left → left ≡ suc next → RuleStands bytes at → there ≡ behind bytes at
    → there ≤ length bytes → Walked bytes from count there next
walk_on_lem {bytes} {from} {count} {at} {left} {next} there w more s e inside = record {
  inside = inside;
  back = λ r. w.back (subst (RulesStand bytes at) (sym more) (one_more s (subst (λ (k : ℕ). RulesStand bytes k next) e r)));
  forth = λ r. subst (λ (k : ℕ). RulesStand bytes k next) (sym e) (rule-rest (w.forth r) more);
}

ends : {bytes : List ℕ} {at left : ℕ} → RulesStand bytes at left → left ≡ 0 → at ≡ length bytes
ends (no_more e) z = e
ends (one_more s r) z = absurd (omega arith)

pub walk_ends : {bytes : List ℕ} {from count at left : ℕ} → Walked bytes from count at left → left ≤ 0 → Decides (eqb at (length bytes)) (RulesStand bytes from count)
walk_ends {bytes} {at = at} {left = left} w h =
    let z : left ≡ 0 = omega arith in
    says-eqb at (length bytes) (λ e. w.back (subst (RulesStand bytes at) (sym z) (no_more e))) (λ n r. n (ends (w.forth r) z))

-- What is asked of a rule in place.
pub rule_decided : {r : Bool} (bytes : List ℕ) (at a n e : ℕ) → a ≡ left_at bytes at → n ≡ length_at bytes at → e ≡ end_in bytes → at + rule_head ≤ length bytes
    → tokens_in bytes ≤ a → a < e → n ≤ longest → at + rule_head + 2 * n ≤ length bytes → Decides r (AllBelow e bytes (at + rule_head) n) → Decides r (RuleStands bytes at)
rule_decided bytes at a n e ea en ee h low high few whole = decides_map
    (λ all. record {
      head = h;
      no_token_lem = omega arith;
      nonterminal = omega arith;
      few = omega arith;
      whole = omega arith;
      symbols = subst (λ (k : ℕ). Each (λ (x : ℕ). x < end_in bytes) (symbols_at bytes (at + rule_head) k)) en
          (subst (λ (l : ℕ). Each (λ (x : ℕ). x < l) (symbols_at bytes (at + rule_head) n)) ee all.below);
    })
    (λ s. record {
      below = subst (λ (l : ℕ). Each (λ (x : ℕ). x < l) (symbols_at bytes (at + rule_head) n)) (sym ee)
          (subst (λ (k : ℕ). Each (λ (x : ℕ). x < end_in bytes) (symbols_at bytes (at + rule_head) k)) (sym en) s.symbols);
    })

-- Two bytes name a symbol below 65,536: every symbol of the rules is.
pub u16_low : {bytes : List ℕ} → Narrow bytes → (at : ℕ) → u16_at bytes at < 65536
u16_low n at = let a = n.fits at in let b = n.fits (at + 1) in omega arith

symbols-low : {bytes : List ℕ} → Narrow bytes → (at n : ℕ) → Each (λ (x : ℕ). x < 65536) (symbols_at bytes at n)
unfolding symbols_at
symbols-low n at zero = end
symbols-low n at (suc k) = and (u16_low n at) (symbols-low n (at + 2) k)

pub rules-low : {bytes : List ℕ} → Narrow bytes → (at count : ℕ) → Each LowRule (rules_at bytes at count)
unfolding rules_at
rules-low n at zero = end
rules-low {bytes} n at (suc k) =
    and (record { left = u16_low n at; right = symbols-low n (at + rule_head) (length_at bytes at) }) (rules-low n (behind bytes at) k)

-- The first symbol and those behind it.
pub symbols-next : (bytes : List ℕ) (here left : ℕ) → 0 < left → symbols_at bytes here left ≡ u16_at bytes here ∷ symbols_at bytes (here + 2) (left - 1)
unfolding symbols_at
symbols-next bytes here zero h = absurd (omega arith)
symbols-next bytes here (suc left) h = let e : left ≡ suc left - 1 = omega arith in ap (λ (k : ℕ). u16_at bytes here ∷ symbols_at bytes (here + 2) k) e

pub symbols_none : (bytes : List ℕ) (here left : ℕ) → left ≤ 0 → symbols_at bytes here left ≡ []
unfolding symbols_at
symbols_none bytes here zero h = refl
symbols_none bytes here (suc left) h = absurd (omega arith)

-- The first rule and those behind it.
pub rules-next : (bytes : List ℕ) (at left : ℕ) → 0 < left → rules_at bytes at left ≡ rule_at bytes at ∷ rules_at bytes (behind bytes at) (left - 1)
unfolding rules_at
rules-next bytes at zero h = absurd (omega arith)
rules-next bytes at (suc left) h = let e : left ≡ suc left - 1 = omega arith in ap (λ (k : ℕ). rule_at bytes at ∷ rules_at bytes (behind bytes at) k) e

pub rules_none : (bytes : List ℕ) (at left : ℕ) → left ≤ 0 → rules_at bytes at left ≡ []
unfolding rules_at
rules_none bytes at zero h = refl
rules_none bytes at (suc left) h = absurd (omega arith)

-- There are as many symbols as were asked for.
pub length-symbols : (bytes : List ℕ) (at n : ℕ) → length (symbols_at bytes at n) ≡ n
unfolding symbols_at
length-symbols bytes at zero = refl
length-symbols bytes at (suc n) = ap suc (length-symbols bytes (at + 2) n)

pub length-rules : (bytes : List ℕ) (at n : ℕ) → length (rules_at bytes at n) ≡ n
unfolding rules_at
length-rules bytes at zero = refl
length-rules bytes at (suc n) = ap suc (length-rules bytes (behind bytes at) n)
