-- The chart after a position, said of any pass of the steps: steps 2 to 6 as relations between two charts.
use mathlib.Core.Path.{◌≡◌}
use mathlib.Core.Logic.{◌≢◌, ◌↔◌, ◌⊎◌, ⊎_elim}
use Prim.Native.Nat.{ℕ, suc, ◌≤◌, ◌<◌}
use native.Mathlib.Decide.{dec_lt}
use native.Mathlib.Omega.{arith}
use Rattle.grammar.specs.Rules.{Grammar, none, rule_count, rule_at}
use Rattle.grammar.specs.Prediction.{Reaches}
use Rattle.earley.proofs.Sieves.{Any}
use Rattle.earley.proofs.Charts.{Chart}

-- A rule x ::= y z is stored with origin `o`: (o, y) is completed, row o has y and x, and z is waited for.
pub record StoredFor (g : Grammar) (c : Chart) (waits : ℕ → Type 0) (done : ℕ → ℕ → Type 0) (o r : ℕ) : Type 0 where
  pub there : r < rule_count g
  pub two : (rule_at g r).second ≢ none
  pub completed : done o (rule_at g r).first
  pub first : c.row o (rule_at g r).first
  pub left : c.row o (rule_at g r).left
  pub waited : waits (rule_at g r).second

-- `x` is reached from the second symbol of an item of set `s`.
pub record Led (g : Grammar) (c : Chart) (s x : ℕ) : Type 0 where
  pub origin : ℕ
  pub rule : ℕ
  pub item : c.item s origin rule
  pub reaches : Reaches g (rule_at g rule).second x

-- No set is dropped.
pub record Unpruned (c : Chart) (kept : ℕ) (c' : Chart) : Type 0 where
  pub all : kept ≡ c.last
  pub row : {x : ℕ} → c'.row kept x ↔ c.row kept x

-- The sets behind `kept` are dropped: every new item has an origin below `kept`, and the row of `kept` is cleared.
pub record PrunedFor (g : Grammar) (c : Chart) (waits : ℕ → Type 0) (done : ℕ → ℕ → Type 0) (kept : ℕ) (c' : Chart) : Type 0 where
  pub fewer : kept < c.last
  pub origins : {o r : ℕ} → StoredFor g c waits done o r → o < kept
  pub row : {x : ℕ} → c'.row kept x → ⊥

-- The chart after a position: the sets 0..kept stay, and one new set comes behind them, what is stored and the row that it leads to.
pub record NextFor (g : Grammar) (c : Chart) (waits : ℕ → Type 0) (done : ℕ → ℕ → Type 0) (kept : ℕ) (c' : Chart) : Type 0 where
  pub last : c'.last ≡ suc kept
  pub items : {s o r : ℕ} → s ≤ kept → c'.item s o r ↔ c.item s o r
  pub rows : {s x : ℕ} → s < kept → c'.row s x ↔ c.row s x
  pub pruning : Unpruned c kept c' ⊎ PrunedFor g c waits done kept c'
  pub new_items : {o r : ℕ} → c'.item (suc kept) o r ↔ StoredFor g c waits done o r
  pub new_row : {x : ℕ} → c'.row (suc kept) x ↔ Led g c' (suc kept) x

-- With no hint every second symbol is waited for.
abbrev pub Stored : Grammar → Chart → (ℕ → ℕ → Type 0) → ℕ → ℕ → Type 0
Stored g c done o r = StoredFor g c Any done o r

abbrev pub Pruned : Grammar → Chart → (ℕ → ℕ → Type 0) → ℕ → Chart → Type 0
Pruned g c done kept c' = PrunedFor g c Any done kept c'

abbrev pub Next : Grammar → Chart → (ℕ → ℕ → Type 0) → ℕ → Chart → Type 0
Next g c done kept c' = NextFor g c Any done kept c'

module _ {g : Grammar} {c c' : Chart} {kept : ℕ} {waits : ℕ → Type 0} {done : ℕ → ℕ → Type 0} (next : NextFor g c waits done kept c') where
  -- Only sets of the old chart stay.
  pub kept-within : kept ≤ c.last
  kept-within = ⊎_elim (λ u. let e = u.all in omega arith) (λ p. let l = p.fewer in omega arith) next.pruning

  -- Where sets are dropped, no new item begins at the last that stays.
  pub new-origins : {o r : ℕ} → kept < c.last → StoredFor g c waits done o r → o < kept
  new-origins l s = ⊎_elim (λ u. let e = u.all in absurd (omega arith)) (λ p. p.origins s) next.pruning

  -- A row that stays has nothing new.
  pub kept_row_true : {s x : ℕ} → s ≤ kept → c'.row s x → c.row s x
  kept_row_true {s} {x} l i = elim (dec_lt s kept) [ yes m ↦ (next.rows m).0 i | no m ↦ at_kept (omega arith) ]
    where
      at_kept : s ≡ kept → c.row s x
      at_kept e = rw e (⊎_elim (λ u. u.row.0 (rw e at i)) (λ p. absurd (p.row (rw e at i))) next.pruning)

  -- And it has all that it had, but where sets are dropped and it is the last.
  pub kept-row_there : {s x : ℕ} → s ≤ kept → (s < kept) ⊎ (kept ≡ c.last) → c.row s x → c'.row s x
  kept-row_there {s} {x} l whole i = elim (dec_lt s kept) [ yes m ↦ (next.rows m).1 i | no m ↦ at_kept (omega arith) ]
    where
      not_dropped : kept < c.last → s ≡ kept → ⊥
      not_dropped f e = ⊎_elim (λ m. omega arith) (λ m. omega arith) whole

      at_kept : s ≡ kept → c'.row s x
      at_kept e = rw e (⊎_elim (λ u. u.row.1 (rw e at i)) (λ p. absurd (not_dropped p.fewer e)) next.pruning)
