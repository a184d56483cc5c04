-- Dropping sets that are not live, and numbering the others anew, keeps the invariant.
use mathlib.Core.Path.{◌≡◌, refl, sym, ◌∙◌, ap, subst}
use mathlib.Core.Logic.{◌↔◌}
use Prim.Native.Nat.{ℕ, ◌≤◌, ◌<◌}
use native.Mathlib.Decide.{dec_le}
use native.Mathlib.Omega.{arith}
use Rattle.grammar.specs.Rules.{Grammar}
use Rattle.earley.specs.Positions.{Positions}
use Rattle.earley.proofs.Charts.{Chart, Live, HoldsFor, live_below}

-- The item of set `s` whose origin had the number `o`.
pub record Renamed (c' : Chart) (was : ℕ → ℕ) (s o r : ℕ) : Type 0 where
  pub origin : ℕ
  pub item : c'.item s origin r
  pub named : was origin ≡ o

-- Set `s` of `c'` was set `was s` of `c`: nothing was added, and nothing taken from a set that is live in `c'`.
pub record Dropped (c c' : Chart) (was : ℕ → ℕ) : Type 0 where
  pub last : was c'.last ≡ c.last
  pub rising : (s u : ℕ) → s < u → u ≤ c'.last → was s < was u
  pub older : {s o r : ℕ} → s ≤ c'.last → c'.item s o r → o < s
  pub item_true : {s o r : ℕ} → s ≤ c'.last → c'.item s o r → c.item (was s) (was o) r
  pub row_true : {s x : ℕ} → s ≤ c'.last → c'.row s x → c.row (was s) x
  pub item_there : {s o r : ℕ} → Live c' s → c.item (was s) o r → Renamed c' was s o r
  pub row_there : {s x : ℕ} → Live c' s → c.row (was s) x → c'.row s x

module _ {c c' : Chart} {was : ℕ → ℕ} (d : Dropped c c' was) where
  -- A set of the new chart was a set of the old one.
  was_set : (s : ℕ) → s ≤ c'.last → was s ≤ c.last
  was_set s l = elim (dec_le c'.last s) [
    | yes k ↦ (let e : s ≡ c'.last = omega arith in let f : was s ≡ c.last = ap was e ∙ d.last in omega arith)
    | no k ↦ (let m = d.rising s c'.last (omega arith) (omega arith) in let f = d.last in omega arith)
  ]

  -- A live set was live.
  was_live : {s : ℕ} → Live c' s → Live c (was s)
  was_live Live.latest = subst (Live c) (sym d.last) Live.latest
  was_live (Live.origin l i) = Live.origin (was_live l) (d.item_true (live_below (λ _ _ _ m j. d.older m j) l) i)

  -- THE INVARIANT OUTLIVES PRUNING.
  pub dropped : {g : Grammar} {a : Positions} {waits : ℕ → Type 0} → HoldsFor g a waits c → HoldsFor g a waits c'
  dropped h = record {
    pos = λ s. h.pos (was s);
    rising = λ s u l m. h.rising (was s) (was u) (d.rising s u l m) (was_set u m);
    ends = ap h.pos d.last ∙ h.ends;
    older = λ m i. d.older m i;
    item_true = λ {s} m i. h.item_true (was_set s m) (d.item_true m i);
    row_true = λ {s} m i. h.row_true (was_set s m) (d.row_true m i);
    item_there = λ l i w.
        let f = h.item_there (was_live l) i w in
        let n = d.item_there l f.item in
        record { origin = n.origin; item = n.item; stands = ap h.pos n.named ∙ f.stands };
    row_there = λ l i w. d.row_there l (h.row_there (was_live l) i w);
  }

-- Two charts with the same sets.
pub record Same (c c' : Chart) : Type 0 where
  pub last : c'.last ≡ c.last
  pub items : {s o r : ℕ} → s ≤ c.last → c'.item s o r ↔ c.item s o r
  pub rows : {s x : ℕ} → s ≤ c.last → c'.row s x ↔ c.row s x

-- What holds of a chart holds of every chart with the same sets.
pub same : {g : Grammar} {a : Positions} {waits : ℕ → Type 0} {c c' : Chart} → Same c c' → HoldsFor g a waits c → HoldsFor g a waits c'
same {c = c} {c' = c'} e h = dropped (record {
  last = e.last;
  rising = λ _ _ l _. l;
  older = λ l i. older (within l) i;
  item_true = λ l i. (e.items (within l)).0 i;
  row_true = λ l i. (e.rows (within l)).0 i;
  item_there = λ l i. record { origin = _; item = (e.items (live l)).1 i; named = refl };
  row_there = λ l i. (e.rows (live l)).1 i;
}) h
  where
    within : {s : ℕ} → s ≤ c'.last → s ≤ c.last
    within l = let k = e.last in omega arith

    older : {s o r : ℕ} → s ≤ c.last → c'.item s o r → o < s
    older l i = h.older l ((e.items l).0 i)

    live : {s : ℕ} → Live c' s → s ≤ c.last
    live l = within (live_below (λ _ _ _ m i. older (within m) i) l)
