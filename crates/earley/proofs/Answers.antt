-- What a chart that holds tells of sentences that some choice of kinds spells: its latest row, and rule 0 in its latest set.
use mathlib.Core.Path.{◌≡◌, sym, ap, ◌∙◌, subst}
use mathlib.Core.List.{List, [], ◌∷◌, ◌++◌, append_assoc, Memᴰ as Member}
use mathlib.Core.Logic.{◌↔◌, ◌⊎◌, inl, inr, ⊎_elim}
use Prim.Native.Nat.{ℕ, ◌≤◌, ◌<◌}
use native.Mathlib.Decide.{dec_le}
use native.Mathlib.Omega.{arith}
use lib.ListN.{length, length-append}
use Rattle.grammar.specs.Rules.{Grammar, rule_at, end_mark}
use Rattle.grammar.specs.Sentences.{Sentence, Begins}
use Rattle.grammar.specs.Accepted.{Accepted}
use Rattle.earley.specs.Positions.{Positions, SpellSentence, SpellBeginning}
use Rattle.earley.proofs.Spelling.{Ended, spelt-last, spelt_on}
use Rattle.earley.proofs.Predictions.{Pred, Item, says}
use Rattle.earley.proofs.Wrapper.{which}
use Rattle.earley.proofs.Viable.{Goes, pred_viable, viable_pred, item_sentence, item_first}
use Rattle.earley.proofs.Sieves.{Wanted, Due, any, any-due, kind_meets}
use Rattle.earley.proofs.Charts.{Chart, Live, HoldsFor, Holds}
use Rattle.earley.proofs.Steps.{Kinds}

-- At the end that is wanted which the latest set waits for.
wanted_latest : {g : Grammar} {a : Positions} {waits : ℕ → Type 0} {c : Chart} {x : ℕ} (h : HoldsFor g a waits c) → waits x
    → Wanted g a waits x (h.pos c.last)
wanted_latest h w = record { inside = λ l. let e = h.ends in absurd (omega arith); behind = λ _. w }

-- EXACTLY THE VIABLE KINDS: of the kinds that it waits for, the latest row has those that some sentence goes on with.
pub row_viable : {g : Grammar} {a : Positions} {waits : ℕ → Type 0} {c : Chart} {t : ℕ} → Accepted g → HoldsFor g a waits c → t < g.tokens → waits t
    → c.row c.last t ↔ Goes g a (length a) (t ∷ [])
row_viable {g} {t = t} acc h l w = (
  λ i. pred_viable acc l (subst (Pred g _ t) h.ends (h.row_true (omega arith) i)),
  λ b. h.row_there Live.latest (subst (Pred g _ t) (sym h.ends) (viable_pred acc b)) (wanted_latest h w),
)

-- A kind of a position that some sentence goes on with.
pub record Viable (g : Grammar) (a : Positions) (ks : List ℕ) : Type 0 where
  pub kind : ℕ
  pub of : Member kind ks
  pub goes : Goes g a (length a) (kind ∷ [])

-- A sentence that begins with a word of positions and one behind them goes on with a kind of that one.
ended_viable : {g : Grammar} {a : Positions} {ks w : List ℕ} → Ended a ks 0 w → Begins g w → Viable g a ks
ended_viable {g} e b = record {
  kind = e.kind;
  of = e.of;
  goes = record {
    before = e.before;
    spelt = e.spelt;
    rest = b.rest;
    sentence = subst (Sentence g) (ap (λ (u : List ℕ). u ++ b.rest) e.is ∙ append_assoc e.before (e.kind ∷ []) b.rest) b.sentence;
  };
}

-- A sentence begins with positions and one behind them exactly when it goes on with some kind of that one.
pub begins-any : {g : Grammar} {a : Positions} {ks : List ℕ} → SpellBeginning g (a ++ (ks ∷ [])) ↔ Viable g a ks
begins-any {g} {a} {ks} = (
  λ b. ended_viable (spelt-last a ks b.spelt (omega arith) (omega (arith, length-append a (ks ∷ [])))) b.begins,
  λ v. record {
    word = v.goes.before ++ v.kind ∷ [];
    spelt = spelt_on v.goes.spelt v.of;
    begins = record {
      rest = v.goes.rest;
      sentence = subst (Sentence g) (sym (append_assoc v.goes.before (v.kind ∷ []) v.goes.rest)) v.goes.sentence;
    };
  },
)

-- A kind of a position that the latest row has.
pub record InRow (c : Chart) (ks : List ℕ) : Type 0 where
  pub kind : ℕ
  pub of : Member kind ks
  pub held : c.row c.last kind

-- EXACTLY THE VIABLE POSITIONS: of a position that may come, some kind is in the latest row where a sentence begins with the positions and it, and only there.
pub row-due : {g : Grammar} {a : Positions} {waits : ℕ → Type 0} {c : Chart} {ks : List ℕ} → Accepted g → HoldsFor g a waits c → Kinds g ks → Due g waits ks
    → SpellBeginning g (a ++ (ks ∷ [])) ↔ InRow c ks
row-due {g} {a} {waits} {c} {ks} acc h small due = (
  λ b. let v = begins-any.0 b in record { kind = v.kind; of = v.of; held = (viable v.kind v.of).1 v.goes },
  λ i. begins-any.1 (record { kind = i.kind; of = i.of; goes = (viable i.kind i.of).0 i.held }),
)
  where
    viable : (t : ℕ) → Member t ks → c.row c.last t ↔ Goes g a (length a) (t ∷ [])
    viable t m = row_viable acc h (small.tokens t m) (due.fits (kind_meets m))

-- With no hint, of every position.
pub row_any : {g : Grammar} {a : Positions} {c : Chart} {ks : List ℕ} → Accepted g → Holds g a c → Kinds g ks
    → SpellBeginning g (a ++ (ks ∷ [])) ↔ InRow c ks
row_any acc h small = row-due acc h small any-due

-- The latest set has an item of rule 0.
pub record Wrapped (c : Chart) : Type 0 where
  pub origin : ℕ
  pub item : c.item c.last origin 0

-- Such an item begins at set 0.
pub wrapped_origin : {g : Grammar} {a : Positions} {waits : ℕ → Type 0} {c : Chart} {s o : ℕ} → Accepted g → HoldsFor g a waits c → s ≤ c.last → c.item s o 0
    → o ≡ 0
wrapped_origin {o = o} acc h l i =
    let e = item_first acc (h.item_true l i) in
    let m = h.older l i in
    elim (dec_le o 0) [ yes k ↦ omega arith | no k ↦ (let b = h.rising 0 o (omega arith) (omega arith) in absurd (omega arith)) ]

-- EXACTLY THE SENTENCES: where it waits for the end, the latest set has an item of rule 0 where the positions spell a sentence, and only there.
pub ended-sentence : {g : Grammar} {a : Positions} {waits : ℕ → Type 0} {c : Chart} → Accepted g → HoldsFor g a waits c → waits (end_mark g)
    → Wrapped c ↔ SpellSentence g a
ended-sentence {g} {a} {waits} {c} acc h end = (
  λ w.
      let i = h.item_true {s = c.last} (omega arith) w.item in
      let j = subst (λ q. Item g a 0 q (h.pos c.last)) (item_first acc i) i in
      (item_sentence acc).0 (subst (Item g a 0 0) h.ends j),
  λ s.
      let w = subst waits (sym acc.wraps.second) end in
      let f = h.item_there Live.latest (subst (Item g a 0 0) (sym h.ends) ((item_sentence acc).1 s)) (wanted_latest h w) in
      record { origin = f.origin; item = f.item },
)

-- With no hint, always.
pub wrapped_sentence : {g : Grammar} {a : Positions} {c : Chart} → Accepted g → Holds g a c → Wrapped c ↔ SpellSentence g a
wrapped_sentence acc h = ended-sentence acc h any

-- THE END MARK IS LAST: an item is rule 0's, with origin 0, or has a second symbol below the end mark. The end mark is the greatest
-- symbol and stands in rule 0 alone; so in the order by second, rule and origin rule 0's item is the greatest.
pub end-greatest : {g : Grammar} {a : Positions} {waits : ℕ → Type 0} {c : Chart} {s o r : ℕ} → Accepted g → HoldsFor g a waits c → s ≤ c.last → c.item s o r
    → ((r ≡ 0) × (o ≡ 0)) ⊎ ((rule_at g r).second < (rule_at g 0).second)
end-greatest {g} {c = c} {s = s} {o = o} {r = r} acc h l i =
    let m = h.item_true l i in
    ⊎_elim
    (λ u. inl (u.number, wrapped_origin acc h l (subst (c.item s o) u.number i)))
    (λ n.
    ⊎_elim
    (λ e. absurd (m.two e))
    (λ b. inr (let e = acc.wraps.second in let k = acc.room in omega arith))
    n.second)
    (which acc (says m.there))
