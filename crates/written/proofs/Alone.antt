-- Becoming one symbol alone.
use mathlib.Core.Path.{◌≡◌, refl, sym, ap, subst}
use mathlib.Core.List.{List, [], ◌∷◌, ◌++◌, append-nil, head-eq_of_cons-eq, tail-eq_of_cons-eq, nil≢cons}
use mathlib.Core.Logic.{◌⊎◌, inl, inr, ⊎_elim}
use Prim.Native.Nat.{ℕ}
use Rattle.written.specs.Written.{Written, Writes, Becomes}
use Rattle.written.specs.Refusals.{DerivesItself}
use Rattle.written.specs.Written.Becomes.{nothing, stays, by_rule}
use Rattle.written.proofs.Becoming.{becomes-same, becomes-join, becomes_on}

-- `α` holds `c` among symbols that become nothing.
pub record Among (g : Written) (α : List ℕ) (c : ℕ) : Type 0 where
  pub before : List ℕ
  pub after : List ℕ
  pub whole : α ≡ before ++ c ∷ after
  pub empty-before : Becomes g before []
  pub empty-after : Becomes g after []

-- One step to one symbol alone: a rule of `a` that holds `b` among symbols that become nothing.
pub record Leads (g : Written) (a b : ℕ) : Type 0 where
  pub rule : ℕ
  pub right : List ℕ
  pub writes : Writes g rule a right
  pub among : Among g right b

-- One or more such steps.
pub data Chain (g : Written) : ℕ → ℕ → Type 0 where
  last : {a b : ℕ} → Leads g a b → Chain g a b
  more : {a b c : ℕ} → Leads g a b → Chain g b c → Chain g a c

pub chain_on : {g : Written} {a b c : ℕ} → Chain g a b → Chain g b c → Chain g a c
chain_on (last l) q = more l q
chain_on (more l p) q = more l (chain_on p q)

-- What holds a symbol among others that become nothing becomes that symbol.
pub among_becomes : {g : Written} {α : List ℕ} {c : ℕ} → Among g α c → Becomes g α (c ∷ [])
among_becomes {g} {α} {c} h =
    subst (λ (l : List ℕ). Becomes g l (c ∷ [])) (sym h.whole) (becomes-join h.empty-before (stays h.empty-after))

-- A step, or a chain, is a derivation.
pub chain_rule : {g : Written} {a b : ℕ} → Chain g a b → (x : List ℕ) → Becomes g (b ∷ []) x → Becomes g (a ∷ []) x
chain_rule {g} {a} (last l) x p =
    subst (Becomes g (a ∷ [])) (append-nil x) (by_rule l.writes (becomes_on (among_becomes l.among) p) nothing)
chain_rule {g} {a} (more l q) x p =
    subst (Becomes g (a ∷ [])) (append-nil x) (by_rule l.writes (becomes_on (among_becomes l.among) (chain_rule q x p)) nothing)

pub chain_itself : {g : Written} {a : ℕ} → Chain g a a → DerivesItself g a
chain_itself (last l) = record { rule = l.rule; right = l.right; writes = l.writes; becomes = among_becomes l.among }
chain_itself {a} (more l q) = record {
  rule = l.rule;
  right = l.right;
  writes = l.writes;
  becomes = becomes_on (among_becomes l.among) (chain_rule q (a ∷ []) (becomes-same (a ∷ [])));
}

-- Two lists that join to one symbol: one is that symbol and the other is empty.
pub data Which (x : ℕ) (u v : List ℕ) : Type 0 where
  in_first : u ≡ x ∷ [] → v ≡ [] → Which x u v
  in_second : u ≡ [] → v ≡ x ∷ [] → Which x u v

which : (x : ℕ) (u v : List ℕ) → x ∷ [] ≡ u ++ v → Which x u v
which x [] v e = in_second refl (sym e)
which x (y ∷ []) v e = in_first (ap (λ (n : ℕ). n ∷ []) (sym (head-eq_of_cons-eq e))) (sym (tail-eq_of_cons-eq e))
which x (y ∷ z ∷ u) v e = absurd (nil≢cons (tail-eq_of_cons-eq e))

-- What becomes one symbol holds one that is it or leads to it, among others that become nothing.
pub record Single (g : Written) (α : List ℕ) (x : ℕ) : Type 0 where
  pub symbol : ℕ
  pub among : Among g α symbol
  pub leads : (symbol ≡ x) ⊎ Chain g symbol x

first_among : {g : Written} {α β : List ℕ} (x : ℕ) → Becomes g α β → β ≡ [] → Among g (x ∷ α) x
first_among {g} {α} x p e = record { before = []; after = α; whole = refl; empty-before = nothing; empty-after = subst (Becomes g α) e p }

later_among : {g : Written} {α : List ℕ} {c : ℕ} (y : ℕ) → Becomes g (y ∷ []) [] → Among g α c → Among g (y ∷ α) c
later_among y p h = record {
  before = y ∷ h.before;
  after = h.after;
  whole = ap (λ (l : List ℕ). y ∷ l) h.whole;
  empty-before = becomes-join p h.empty-before;
  empty-after = h.empty-after;
}

onward : {g : Written} {r a x : ℕ} {ω : List ℕ} → Writes g r a ω → Single g ω x → Chain g a x
onward {g} {r} {a} {x} {ω} w s =
    let l : Leads g a s.symbol = record { rule = r; right = ω; writes = w; among = s.among } in
    ⊎_elim (λ e. last (subst (Leads g a) e l)) (λ c. more l c) s.leads

pub single : {g : Written} {α β : List ℕ} (x : ℕ) → Becomes g α β → β ≡ x ∷ [] → Single g α x
single x nothing e = absurd (nil≢cons e)
single x (stays {x = y} p) e = record {
  symbol = y;
  among = first_among y p (tail-eq_of_cons-eq e);
  leads = inl (head-eq_of_cons-eq e);
}
single {g} x (by_rule {r = r} {a = a} {ω = ω} {γ = u} {α = α} {β = v} w p q) e = by (which x u v (sym e)) (λ f. single x p f) (λ f. single x q f)
  where
    by : Which x u v → (u ≡ x ∷ [] → Single g ω x) → (v ≡ x ∷ [] → Single g α x) → Single g (a ∷ α) x
    by (in_first f h) one two = record { symbol = a; among = first_among a q h; leads = inr (onward w (one f)) }
    by (in_second f h) one two =
        let s = two h in
        record { symbol = s.symbol; among = later_among a (by_rule w (subst (Becomes g ω) f p) nothing) s.among; leads = s.leads }

pub itself_chain : {g : Written} {a : ℕ} → DerivesItself g a → Chain g a a
itself_chain {a} d = onward d.writes (single a d.becomes refl)
