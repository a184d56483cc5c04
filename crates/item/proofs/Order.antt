-- The order of items by origin, then rule, is the order of one number, and so is total.
use Rattle.std.proofs.Common.{◌≡◌, ◌≤◌, ◌<◌, ◌⊎◌, inl, inr, arith, ltb}
use native.Mathlib.Decide.{dec_lt}
use Rattle.laws.proofs.Tests.{same_test}
use Rattle.item.specs.Item.{Item, key_of}

-- An item whose words are u32 words.
pub record Words (i : Item) : Type 0 where
  pub origin-fits : i.origin < 4294967296
  pub rule_fits : i.rule < 4294967296

-- Of two items of one origin the greater has the greater rule.
pub by_rule : (i j : Item) → i.origin ≡ j.origin → ltb i.rule j.rule ≡ ltb (key_of i) (key_of j)
by_rule i j same = same_test i.rule j.rule (key_of i) (key_of j) (λ h. omega arith) (λ h. omega arith)

-- Of two items of different origins the greater has the greater origin.
pub by_origin : (i j : Item) → i.rule < 4294967296 → j.rule < 4294967296 → (i.origin ≡ j.origin → ⊥)
    → ltb i.origin j.origin ≡ ltb (key_of i) (key_of j)
by_origin i j fi fj differ = same_test i.origin j.origin (key_of i) (key_of j) (λ h. omega arith) (λ h. omega arith)

-- Two items agree on what orders them.
pub record Alike (i j : Item) : Type 0 where
  pub origins : i.origin ≡ j.origin
  pub rules : i.rule ≡ j.rule

-- Items of u32 words with one key have one origin and one rule.
pub same_key : (i j : Item) → Words i → Words j → key_of i ≡ key_of j → Alike i j
same_key i j wi wj e = record { origins = omega arith; rules = omega arith }

-- The order by origin, then rule.
pub data Less (i j : Item) : Type 0 where
  lower-origin : i.origin < j.origin → Less i j
  same-origin : i.origin ≡ j.origin → i.rule < j.rule → Less i j

-- It is the order of keys.
pub less_key : (i j : Item) → Words i → Words j → Less i j → key_of i < key_of j
less_key i j wi wj (lower-origin h) = omega arith
less_key i j wi wj (same-origin e h) = omega arith

pub key_less : (i j : Item) → Words i → Words j → key_of i < key_of j → Less i j
key_less i j wi wj h =
    elim (dec_lt i.origin j.origin) [ yes l ↦ lower-origin l | no l ↦ same-origin (omega arith) (omega arith) ]

-- The order is total: of two items that differ in origin or rule one is less.
pub total : (i j : Item) → Words i → Words j → (Alike i j → ⊥) → Less i j ⊎ Less j i
total i j wi wj differ =
    let other : key_of i ≡ key_of j → ⊥ = λ e. differ (same_key i j wi wj e) in
    elim (dec_lt (key_of i) (key_of j)) [
      | yes l ↦ inl (key_less i j wi wj l)
      | no l ↦ inr (key_less j i wj wi (omega arith))
    ]

-- A key that is not greater has an origin that is not greater.
pub key_origin : (i j : Item) → Words i → Words j → key_of i ≤ key_of j → i.origin ≤ j.origin
key_origin i j wi wj h = omega arith
