-- Held symbols: those are dropped that no held one leads to. Who derives itself is never dropped; and of those that are left when none can be
-- dropped one derives itself.
use Rattle.std.proofs.Common.{◌≡◌, refl, sym, ap, subst, ◌∙◌, Bool, true, false, List, [], ◌∷◌, ◌⊎◌, inl, inr, ⊎_elim, ℕ, zero, suc, ◌+◌, ◌≤◌, ◌<◌, arith, length, set, replicate, length-set, get_or-set_other}
use native.Mathlib.Decide.{dec_lt, ℕ_discrete}
use lib.ListN.{length-replicate, get_or-replicate, get_or-eq_default}
use Rattle.laws.specs.Counts.{once, count}
use Rattle.laws.specs.Decides.{Decides}
use Rattle.laws.proofs.Decides.{false_true, true_false}
use Rattle.written.specs.Lists.{In, Each}
use Rattle.written.specs.Written.{Written, MayBeEmpty, no_written}
use Rattle.written.specs.Refusals.{Circular}
use Rattle.written.specs.Order.{passing}
use Rattle.written.specs.Translation.{up_from}
use Rattle.written.proofs.Lists.{each_at}
use Rattle.written.proofs.Loops.{Led, has_loop}
use Rattle.written.proofs.Alone.{Leads, Chain, chain_on, chain_itself, itself_chain}
use Rattle.written.proofs.Ordering.{in_passing, passing_in}
use Rattle.written.proofs.Leading.{up_in}
use Rattle.translation.specs.inner.Marks.{most_symbols, marked, walk}
use Rattle.translation.specs.inner.Circles.{leads, held_in, Dropped, SomeHeld}
use Rattle.translation.specs.inner.Symbols.{LowRule}
use Rattle.translation.proofs.Circling.{led_from, from_led}

-- A dropped symbol makes them fewer.
fewer-held : (l : List Bool) (a : ℕ) → a < length l → marked l a ≡ true → held_in (set l a false) < held_in l
unfolding held_in count
fewer-held [] a h m = absurd (omega arith)
fewer-held (x ∷ l) zero h m = let e : once x ≡ 1 = ap once m in omega arith
fewer-held (x ∷ l) (suc a) h m = let r = fewer-held l a (omega arith) m in omega arith

-- The first `i` symbols looked at.
pub record Dropping (before led held : List Bool) (some : Bool) (i : ℕ) : Type 0 where
  pub few : i ≤ most_symbols
  pub long : length held ≡ most_symbols
  pub same : (a : ℕ) → i ≤ a → marked held a ≡ marked before a
  pub kept : (a : ℕ) → marked before a ≡ true → marked led a ≡ true → marked held a ≡ true
  pub no_more : held_in held ≤ held_in before
  pub fewer : some ≡ true → held_in held < held_in before
  pub none : some ≡ false → held ≡ before
  pub all : some ≡ false → (a : ℕ) → a < i → marked before a ≡ true → marked led a ≡ true

module _ (before led held : List Bool) (some : Bool) (i : ℕ) (d : Dropping before led held some i) (more : i < most_symbols) where
  -- One that is led to, or is not held, is passed.
  pass : (marked before i ≡ true → marked led i ≡ true) → Dropping before led held some (i + 1)
  pass h = record {
    few = omega arith;
    long = d.long;
    same = λ a l. d.same a (omega arith);
    kept = d.kept;
    no_more = d.no_more;
    fewer = d.fewer;
    none = d.none;
    all = λ e a l m. elim (ℕ_discrete a i) [
      | yes s ↦ subst (λ (x : ℕ). marked led x ≡ true) (sym s) (h (subst (λ (x : ℕ). marked before x ≡ true) s m))
      | no n ↦ d.all e a (lower a l n) m
    ];
  }
    where
      lower : (a : ℕ) → a < i + 1 → (a ≡ i → ⊥) → a < i
      lower a l n = omega arith

  pub pass_led : marked led i ≡ true → Dropping before led held some (i + 1)
  pass_led h = pass (λ m. h)

  pub pass_unheld : marked held i ≡ false → Dropping before led held some (i + 1)
  pass_unheld h = pass (λ m. absurd (true_false (sym m ∙ sym (d.same i (omega arith)) ∙ h)))

  -- Another is dropped.
  pub drops : marked led i ≡ false → marked held i ≡ true → Dropping before led (set held i false) true (i + 1)
  drops n h = record {
    few = omega arith;
    long = length-set held i false ∙ d.long;
    same = λ a l. get_or-set_other held i a false false (apart a l) ∙ d.same a (omega arith);
    kept = λ a m k. elim (ℕ_discrete a i) [
      | yes s ↦ absurd (true_false (sym k ∙ ap (marked led) s ∙ n))
      | no x ↦ get_or-set_other held i a false false x ∙ d.kept a m k
    ];
    no_more = omega (arith, less, d.no_more);
    fewer = λ e. omega (arith, less, d.no_more);
    none = λ e. absurd (true_false e);
    all = λ e. absurd (true_false e);
  }
    where
      apart : (a : ℕ) → i + 1 ≤ a → a ≡ i → ⊥
      apart a l e = omega arith

      less : held_in (set held i false) < held_in held
      less = fewer-held held i (omega (arith, d.long)) h

marked-below : (l : List Bool) (a : ℕ) → marked l a ≡ true → a < length l
marked-below l a m = elim (dec_lt a (length l)) [
  | yes h ↦ h
  | no g ↦ absurd (false_true (sym (get_or-eq_default l false {n = a} (omega arith)) ∙ m))
]

-- Who leads to itself is held.
pub record Holding (w : Written) (held : List Bool) : Type 0 where
  pub long : length held ≡ most_symbols
  pub round : (a : ℕ) → Chain w a a → marked held a ≡ true

module _ (w : Written) (low : Each LowRule w.rules) where
  left-low : {a b : ℕ} → Leads w a b → a < most_symbols
  left-low l = subst (λ (x : ℕ). x < most_symbols) l.writes.left (each_at w.rules no_written l.rule low l.writes.there).left

  chain_low : {a b : ℕ} → Chain w a b → a < most_symbols
  chain_low (Chain.last l) = left-low l
  chain_low (Chain.more l q) = left-low l

  pub holding_begins : Holding w (replicate most_symbols true)
  holding_begins = record { long = length-replicate {A = Bool} most_symbols true; round = λ a q. get_or-replicate most_symbols a true false (chain_low q) }

  -- The last step of a chain.
  record LastStep (a c : ℕ) : Type 0 where
    at : ℕ
    onto : (at ≡ a) ⊎ Chain w a at
    leads : Leads w at c

  last_step : {a c : ℕ} → Chain w a c → LastStep a c
  last_step {a} (Chain.last l) = record { at = a; onto = inl refl; leads = l }
  last_step {a} (Chain.more {b = b} l q) =
      let s = last_step q in
      record { at = s.at; onto = inr (⊎_elim (λ (e : s.at ≡ b). Chain.last (subst (Leads w a) (sym e) l)) (λ p. Chain.more l p) s.onto); leads = s.leads }

  -- Who leads to itself is led to by one that does.
  pub holding_on : (empty : ℕ → Bool) (exact : (a : ℕ) → Decides (empty a) (MayBeEmpty w a)) (held led after : List Bool) (some : Bool)
      → led ≡ walk (leads empty (marked held)) (replicate most_symbols false) w.rules → Dropped held led after some → Holding w held → Holding w after
  holding_on empty exact held led after some e d h = record {
    long = d.long;
    round = λ b q.
        let s = last_step q in
        let back : Chain w s.at s.at = ⊎_elim
        (λ (x : s.at ≡ b). subst (λ (y : ℕ). Chain w y y) (sym x) q)
        (λ p. chain_on (Chain.last s.leads) p)
        s.onto in
        d.kept b (h.round b q) (from_led w empty exact held led low e s.at b (h.round s.at back) s.leads);
  }

  -- Where none is dropped, each that is held is led to by one that is; so one leads to itself.
  held_list : List Bool → List ℕ
  held_list held = passing (marked held) (up_from 0 most_symbols)

  in_held : (held : List Bool) → length held ≡ most_symbols → (a : ℕ) → marked held a ≡ true → In a (held_list held)
  unfolding held_list
  in_held held long a m = in_passing (marked held) (up_in 0 most_symbols a (omega arith) (let b = marked-below held a m in omega arith)) m

  held_in_lem : (held : List Bool) (a : ℕ) → In a (held_list held) → marked held a ≡ true
  unfolding held_list
  held_in_lem held a i = (passing_in (marked held) (up_from 0 most_symbols) i).passes

  pub decides_circular : (empty : ℕ → Bool) (exact : (a : ℕ) → Decides (empty a) (MayBeEmpty w a)) (held led after : List Bool) (some : Bool) (answer : Bool)
      → led ≡ walk (leads empty (marked held)) (replicate most_symbols false) w.rules → Dropped held led after some → some ≡ false → Holding w held
      → Decides answer (SomeHeld after) → Decides answer (Circular w)
  decides_circular empty exact held led after some answer e d n h t = record {
    if_yes = λ y. circle (t.if_yes y);
    if_no = λ y c. t.if_no y (record { symbol = c.symbol; holds = ap (λ (k : List Bool). marked k c.symbol) (d.none n) ∙ h.round c.symbol (itself_chain c.itself) });
  }
    where
      led_to : (b : ℕ) → In b (held_list held) → Led (Chain w) (held_list held) b
      led_to b i =
          let l = led_from w empty exact held led low e b (d.all n b (held_in_lem held b i)) in
          record { from = l.from; within = in_held held h.long l.from l.holds; leads = Chain.last l.leads }

      circle : SomeHeld after → Circular w
      circle s =
          let held_one : marked held s.symbol ≡ true = sym (ap (λ (k : List Bool). marked k s.symbol) (d.none n)) ∙ s.holds in
          let l = has_loop (Chain w) (λ x y z. chain_on) (held_list held) s.symbol (in_held held h.long s.symbol held_one) led_to in
          record { symbol = l.at; itself = chain_itself l.loops }
