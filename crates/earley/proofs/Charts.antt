-- A chart of sets, as a parse holds it, and what it must have to do with the ideal chart.
use mathlib.Core.Path.{◌≡◌, refl, sym, subst}
use mathlib.Core.List.{[]}
use mathlib.Core.Logic.{◌↔◌}
use Prim.Native.Nat.{ℕ, ◌≤◌, ◌<◌}
use native.Mathlib.Decide.{dec_le}
use native.Mathlib.Omega.{arith}
use lib.ListN.{length}
use Rattle.grammar.specs.Rules.{Grammar, wrapper, rule_at}
use Rattle.grammar.specs.Prediction.{Reaches, here as itself}
use Rattle.earley.specs.Positions.{Positions}
use Rattle.earley.proofs.Spans.{span_forward, span_inside}
use Rattle.earley.proofs.Predictions.{Pred, Item, reaches_pred, reaches-first}
use Rattle.earley.proofs.Sieves.{Wanted, Any}

-- Sets 0..last, each with items (origin and rule) and a row of symbols.
pub record Chart : Type 1 where
  pub last : ℕ
  -- set, origin, rule
  pub item : ℕ → ℕ → ℕ → Type 0
  -- set, symbol
  pub row : ℕ → ℕ → Type 0

-- A set is live when the latest set leads back to it, from item to origin.
pub data Live (c : Chart) : ℕ → Type 0 where
  latest : Live c c.last
  origin : {s o r : ℕ} → Live c s → c.item s o r → Live c o

-- An item of the rule `r` in set `s` whose origin stands at `q`.
pub record Found (c : Chart) (pos : ℕ → ℕ) (s r q : ℕ) : Type 0 where
  pub origin : ℕ
  pub item : c.item s origin r
  pub stands : pos origin ≡ q

-- The invariant of a parse that has accepted the positions `a`. Sets stand at rising places, the latest at the end.
-- Nothing in a set is wrong, and nothing that is wanted there is missing in a set that is live. `waits` is what the latest set was made to
-- wait for.
pub record HoldsFor (g : Grammar) (a : Positions) (waits : ℕ → Type 0) (c : Chart) : Type 0 where
  pub pos : ℕ → ℕ
  pub rising : (s u : ℕ) → s < u → u ≤ c.last → pos s < pos u
  pub ends : pos c.last ≡ length a
  pub older : {s o r : ℕ} → s ≤ c.last → c.item s o r → o < s
  pub item_true : {s o r : ℕ} → s ≤ c.last → c.item s o r → Item g a r (pos o) (pos s)
  pub row_true : {s x : ℕ} → s ≤ c.last → c.row s x → Pred g a x (pos s)
  pub item_there : {s r q : ℕ} → Live c s → Item g a r q (pos s) → Wanted g a waits (rule_at g r).second (pos s) → Found c pos s r q
  pub row_there : {s x : ℕ} → Live c s → Pred g a x (pos s) → Wanted g a waits x (pos s) → c.row s x

-- With no hint the latest set waits for every symbol.
abbrev pub Holds : Grammar → Positions → Chart → Type 0
Holds g a c = HoldsFor g a Any c

-- A live set is one of the sets, where items lie behind their origins.
pub live_below : {c : Chart} {s : ℕ} → ((s o r : ℕ) → s ≤ c.last → c.item s o r → o < s) → Live c s → s ≤ c.last
live_below older Live.latest = omega arith
live_below older (Live.origin l i) =
    let k = live_below older l in
    let m = older _ _ _ k i in
    omega arith

pub live_set : {g : Grammar} {a : Positions} {waits : ℕ → Type 0} {c : Chart} {s : ℕ} → HoldsFor g a waits c → Live c s → s ≤ c.last
live_set h l = live_below (λ s o r m i. h.older m i) l

-- No set stands behind the last position.
pub set-inside : {g : Grammar} {a : Positions} {waits : ℕ → Type 0} {c : Chart} {s : ℕ} (h : HoldsFor g a waits c) → s ≤ c.last → h.pos s ≤ length a
set-inside {c = c} {s = s} h l = elim (dec_le c.last s) [
  | yes k ↦ (let e : s ≡ c.last = omega arith in let p = h.ends in rw e (omega arith))
  | no k ↦ (let p = h.ends in let q = h.rising s c.last (omega arith) (omega arith) in omega arith)
]

-- A fresh parse: one set, no items, and what W reaches in its row.
pub record Fresh (g : Grammar) (c : Chart) : Type 0 where
  pub last : c.last ≡ 0
  pub items : {o r : ℕ} → c.item 0 o r → ⊥
  pub row : {x : ℕ} → c.row 0 x ↔ Reaches g (wrapper g) x

-- Before the first position exactly what W reaches is predicted.
pred_nil : {g : Grammar} {x q : ℕ} → Pred g [] x q → Reaches g (wrapper g) x
pred_nil Pred.wrapped = itself
pred_nil (Pred.first h d) = reaches-first (pred_nil d) h
pred_nil (Pred.second h n d s) =
    let k = span_forward s in
    let m = span_inside s in
    absurd (omega arith)

-- THE INVARIANT BEGINS: a fresh parse holds for no positions.
pub begin : {g : Grammar} {c : Chart} → Fresh g c → Holds g [] c
begin {g} {c} f = record {
  pos = λ _. 0;
  rising = λ s u l m. let e = f.last in absurd (omega arith);
  ends = refl;
  older = λ l i. absurd (none l i);
  item_true = λ l i. absurd (none l i);
  row_true = λ {s} {x} l i. reaches_pred (f.row.0 (subst (λ n. c.row n x) (first l) i)) Pred.wrapped;
  item_there = λ l i w. let k = span_forward i.spans in absurd (omega arith);
  row_there = λ {s} {x} l d w.
      subst (λ n. c.row n x) (sym (first (live_below (λ n o r m i. absurd (none m i)) l))) (f.row.1 (pred_nil d));
}
  where
    first : {s : ℕ} → s ≤ c.last → s ≡ 0
    first l = let e = f.last in omega arith

    none : {s o r : ℕ} → s ≤ c.last → c.item s o r → ⊥
    none {s} {o} {r} l i = f.items (subst (λ n. c.item n o r) (first l) i)
