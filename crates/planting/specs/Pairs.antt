-- The pairs of a set and a symbol that a position's step completes, and the summands of each.
use Rattle.std.specs.Prelude.{◌≡◌, ℕ}
use mathlib.Core.List.{List, Memᴰ as Member}
use Rattle.item.specs.Item.{item_at}
use Rattle.grammar.specs.Rules.{Grammar, Says, none}
use Rattle.parse.specs.declared.State.{State}
use Rattle.parse.specs.Words.{Words}
use Rattle.parse.specs.WellFormed.{InSet}
use Rattle.forest.specs.Forests.{Product, alone, paired}
use Rattle.planting.specs.Unrefused.{InRow}

-- Set `k` has the item of an origin, a rule and a handle.
pub record HasItem (v : Words) (k origin rule handle : ℕ) : Type 0 where
  pub place : ℕ
  pub in_set : InSet v k place
  pub is : item_at v.items place ≡ record { origin = origin; rule = rule; handle = handle }

-- What is completed: the latest set with each kind that its row has; and of a completed (k, y) with y in row k, (k, x) for a rule x ::= y with x in
-- row k, and (o, x) for an item of set k with the origin o and a rule x ::= _ y.
pub data Completes (g : Grammar) (s : State) (v : Words) (kinds : List ℕ) : ℕ → ℕ → Type 0 where
  scanned : {t : ℕ} → Member t kinds → InRow v s.set t → Completes g s v kinds s.set t
  unary : {k r x y : ℕ} → Says g r x y none → Completes g s v kinds k y → InRow v k y → InRow v k x → Completes g s v kinds k x
  closed : {k r x y z o a : ℕ} → Says g r x y z → Completes g s v kinds k z → InRow v k z → HasItem v k o r a → Completes g s v kinds o x

-- The summands of (k, x), where `NodeOf l y h` says that (l, y) was completed with the node at h. For a rule x ::= y, the Product of the node of
-- (k, y). For an item of set l with the origin k and a rule x ::= _ z, the Product of the item's handle and the node of (l, z).
pub data Summand (g : Grammar) (v : Words) (NodeOf : ℕ → ℕ → ℕ → Type 0) (k x : ℕ) : Product → Type 0 where
  unary : {r y a : ℕ} → Says g r x y none → NodeOf k y a → InRow v k y → InRow v k x → Summand g v NodeOf k x (alone r a)
  closed : {l r y z a b : ℕ} → Says g r x y z → NodeOf l z b → InRow v l z → HasItem v l k r a → Summand g v NodeOf k x (paired r a b)
