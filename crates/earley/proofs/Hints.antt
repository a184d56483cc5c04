-- What a hint promises: of a chart whose latest set was made under one.
use mathlib.Core.Path.{◌≡◌, ◌∙◌}
use mathlib.Core.List.{List, [], ◌∷◌, ◌++◌}
use mathlib.Core.Logic.{◌≢◌, ◌↔◌, ⊎_elim}
use Prim.Native.Nat.{ℕ, ◌<◌}
use native.Mathlib.Omega.{arith}
use Rattle.grammar.specs.Rules.{Grammar, none, rule_at, end_mark}
use Rattle.grammar.specs.Accepted.{Accepted}
use Rattle.grammar.specs.Prediction.{Reaches, here as itself, by_first as further}
use Rattle.earley.specs.Positions.{Positions, SpellSentence, SpellBeginning}
use Rattle.earley.proofs.Wrapper.{which}
use Rattle.earley.proofs.Predictions.{says}
use Rattle.earley.proofs.Sieves.{Sieve, any, hint_due}
use Rattle.earley.proofs.Charts.{Chart, HoldsFor}
use Rattle.earley.proofs.Steps.{DoneFor, Done}
use Rattle.earley.proofs.Next.{StoredFor, Stored}
use Rattle.earley.proofs.Plain.{one_kind}
use Rattle.earley.proofs.Answers.{InRow, Wrapped, row-due, ended-sentence}

-- What a chart waits for that was made under the hint `y`.
abbrev pub Hinted : Grammar → ℕ → ℕ → Type 0
Hinted g y x = Reaches g x y

-- THE HINTED TOKEN IS JUDGED AS UNHINTED.
pub hint_viable : {g : Grammar} {a : Positions} {c : Chart} {t : ℕ} → Accepted g → HoldsFor g a (Hinted g t) c → t < g.tokens
    → SpellBeginning g (a ++ (t ∷ []) ∷ []) ↔ InRow c (t ∷ [])
hint_viable {t = t} acc h l = row-due acc h (one_kind l) (hint_due t)

-- WHERE THE HINT WAS THE END, FINISHED IS RIGHT AT ONCE.
pub end-sentence : {g : Grammar} {a : Positions} {c : Chart} → Accepted g → HoldsFor g a (Hinted g (end_mark g)) c → Wrapped c ↔ SpellSentence g a
end-sentence acc h = ended-sentence acc h itself

-- The end mark reaches itself alone.
end-alone : {g : Grammar} {x y : ℕ} → Accepted g → Reaches g x y → x ≡ end_mark g → y ≡ end_mark g
end-alone acc itself e = e
end-alone acc (further h m) e =
    absurd (⊎_elim
    (λ o. let f = o.left in let k = acc.room in omega arith)
    (λ i. let f = i.left.no_wrapper in let k = acc.room in omega arith)
    (which acc h))

-- A TOKEN HINT NEVER FINISHES: rule 0 is not stored under it.
pub token_hint_unfinished : {g : Grammar} {c : Chart} {done : ℕ → ℕ → Type 0} {t o : ℕ} → Accepted g → t < g.tokens
    → StoredFor g c (Hinted g t) done o 0 → ⊥
token_hint_unfinished acc l s =
    let e = end-alone acc s.waited acc.wraps.second in
    let k = acc.room in
    omega arith

-- THE FOLLOW TABLE DECIDES ROOM ALONE: what passes is completed with the sieve as without it.
pub sieve_all : {g : Grammar} {c : Chart} {ks : List ℕ} {k x : ℕ} {passes waits : ℕ → Type 0} → Sieve g passes waits
    → ((s o r : ℕ) → c.item s o r → (rule_at g r).second ≢ none) → Done g c ks k x → passes x → DoneFor g c ks passes k x
sieve_all v two (DoneFor.scanned m r) p = DoneFor.scanned m r
sieve_all v two (DoneFor.unary h d y x m) p = DoneFor.unary h (sieve_all v two d (v.by_only h p)) y x p
sieve_all v two (DoneFor.closed h d z i m) p =
    DoneFor.closed h (sieve_all v two d (v.by_last h (λ e. two _ _ _ i (h.second ∙ e)) p)) z i p

-- A sieve only leaves out.
sieved_any : {g : Grammar} {c : Chart} {ks : List ℕ} {passes : ℕ → Type 0} {k x : ℕ} → DoneFor g c ks passes k x → Done g c ks k x
sieved_any (DoneFor.scanned m r) = DoneFor.scanned m r
sieved_any (DoneFor.unary h d y x p) = DoneFor.unary h (sieved_any d) y x any
sieved_any (DoneFor.closed h d z i p) = DoneFor.closed h (sieved_any d) z i any

-- THE NEW ITEMS ARE THE UNHINTED ONES WHOSE SECOND SYMBOL IS WAITED FOR, on every chart whose items have a second symbol.
pub sieved_items : {g : Grammar} {c : Chart} {ks : List ℕ} {o r : ℕ} {passes waits : ℕ → Type 0} → Sieve g passes waits
    → ((s o r : ℕ) → c.item s o r → (rule_at g r).second ≢ none)
    → StoredFor g c waits (DoneFor g c ks passes) o r ↔ (Stored g c (Done g c ks) o r × waits (rule_at g r).second)
sieved_items v two = (
  λ s. (record { there = s.there; two = s.two; completed = sieved_any s.completed; first = s.first; left = s.left; waited = any }, s.waited),
  λ p.
      let s = p.0 in
      record {
        there = s.there;
        two = s.two;
        completed = sieve_all v two s.completed (v.by_second (says s.there) s.two p.1);
        first = s.first;
        left = s.left;
        waited = p.1;
      },
)
