-- What the steps complete when a position comes, and that it is exactly the spans of the ideal chart that end behind it.
use mathlib.Core.Path.{◌≡◌, sym, ◌∙◌, ap, subst}
use mathlib.Core.List.{List, [], ◌∷◌, ◌++◌, Memᴰ as Member}
use mathlib.Core.Logic.{◌≢◌}
use Prim.Native.Nat.{ℕ, suc, ◌≤◌, ◌<◌}
use native.Mathlib.Omega.{arith}
use lib.ListN.{length, get_or, length-append}
use lib.Seq.{get_or-append_seam}
use Rattle.grammar.specs.Rules.{Grammar, Says, none, rule_at}
use Rattle.earley.specs.Positions.{Positions}
use Rattle.earley.proofs.Spans.{Span, span_grows}
use Rattle.earley.proofs.Predictions.{Pred, Item, item, item_two, item_spans, pred_shrinks, item_shrinks}
use Rattle.earley.proofs.Sieves.{Sieve, Wanted, Due, Any, span_wanted}
use Rattle.earley.proofs.Charts.{Chart, Live, Found, HoldsFor, live_set, set-inside}

-- `DoneFor g c ks passes k x`: with the kinds `ks` the steps complete (k, x). First (e, t) for each kind t in row e; and of a completed (k, y)
-- with y in row k, (k, x) for a rule x ::= y with x in row k, and (o, x) for an item of set k with origin o and a rule x ::= _ y; where x passes.
pub data DoneFor (g : Grammar) (c : Chart) (ks : List ℕ) (passes : ℕ → Type 0) : ℕ → ℕ → Type 0 where
  scanned : {t : ℕ} → Member t ks → c.row c.last t → DoneFor g c ks passes c.last t
  unary : {r x y k : ℕ} → Says g r x y none → DoneFor g c ks passes k y → c.row k y → c.row k x → passes x → DoneFor g c ks passes k x
  closed : {r x y z k o : ℕ} → Says g r x y z → DoneFor g c ks passes k z → c.row k z → c.item k o r → passes x → DoneFor g c ks passes o x

-- `done` is a pass of the steps: it completes nothing else, and it is closed under the three rules.
pub record PassFor (g : Grammar) (c : Chart) (ks : List ℕ) (passes : ℕ → Type 0) (done : ℕ → ℕ → Type 0) : Type 0 where
  pub sound : {k x : ℕ} → done k x → DoneFor g c ks passes k x
  pub scanned : {t : ℕ} → Member t ks → c.row c.last t → done c.last t
  pub unary : {r x y k : ℕ} → Says g r x y none → done k y → c.row k y → c.row k x → passes x → done k x
  pub closed : {r x y z k o : ℕ} → Says g r x y z → done k z → c.row k z → c.item k o r → passes x → done o x

-- With no hint every symbol passes.
abbrev pub Done : Grammar → Chart → List ℕ → ℕ → ℕ → Type 0
Done g c ks k x = DoneFor g c ks Any k x

abbrev pub Pass : Grammar → Chart → List ℕ → (ℕ → ℕ → Type 0) → Type 0
Pass g c ks done = PassFor g c ks Any done

-- A pass completes everything.
pub pass_all : {g : Grammar} {c : Chart} {ks : List ℕ} {passes : ℕ → Type 0} {k x : ℕ} {done : ℕ → ℕ → Type 0} → PassFor g c ks passes done
    → DoneFor g c ks passes k x → done k x
pass_all p (DoneFor.scanned m r) = p.scanned m r
pass_all p (DoneFor.unary h d y x o) = p.unary h (pass_all p d) y x o
pass_all p (DoneFor.closed h d z i o) = p.closed h (pass_all p d) z i o

-- Only live sets are met.
pub done_live : {g : Grammar} {c : Chart} {ks : List ℕ} {passes : ℕ → Type 0} {k x : ℕ} → DoneFor g c ks passes k x → Live c k
done_live (DoneFor.scanned m r) = Live.latest
done_live (DoneFor.unary h d y x o) = done_live d
done_live (DoneFor.closed h d z i o) = Live.origin (done_live d) i

-- Every kind of the position is a token.
pub record Kinds (g : Grammar) (ks : List ℕ) : Type 0 where
  pub tokens : (t : ℕ) → Member t ks → t < g.tokens

-- What is completed, and is no token, passes.
pub done_passes : {g : Grammar} {c : Chart} {ks : List ℕ} {k x : ℕ} {passes : ℕ → Type 0} → Kinds g ks → DoneFor g c ks passes k x → g.tokens ≤ x → passes x
done_passes s (DoneFor.scanned {t = t} m r) l = let k = s.tokens t m in absurd (omega arith)
done_passes s (DoneFor.unary r d y x o) l = o
done_passes s (DoneFor.closed r d z i o) l = o

-- A kind itself.
token_span : {g : Grammar} (a : Positions) (ks : List ℕ) (t p : ℕ) → t < g.tokens → Member t ks → p ≡ length a
    → Span g (a ++ ks ∷ []) t p (suc (length a))
token_span {g} a ks t p h m e =
    let l : p < length (a ++ ks ∷ []) = omega (arith, length-append a (ks ∷ [])) in
    let s : suc (length a) ≡ suc p = omega arith in
    Span.token h l (subst (Member t) (sym (ap (λ n. get_or (a ++ ks ∷ []) n []) e ∙ get_or-append_seam a ks [] [])) m) s

-- NOTHING WRONG: what is completed at a set spans from there to behind the position.
pub done_span : {g : Grammar} {a : Positions} {waits passes : ℕ → Type 0} {c : Chart} {ks : List ℕ} {k x : ℕ} (h : HoldsFor g a waits c) → Kinds g ks
    → DoneFor g c ks passes k x → Span g (a ++ ks ∷ []) x (h.pos k) (suc (length a))
done_span {a = a} {ks = ks} h l (DoneFor.scanned {t = t} m r) = token_span a ks t _ (l.tokens t m) m h.ends
done_span h l (DoneFor.unary r d y x o) = Span.unary r (done_span h l d)
done_span {ks = ks} h l (DoneFor.closed r d z i o) =
    let m = h.item_true (live_set h (done_live d)) i in
    Span.binary r (item_two r m) (span_grows (ks ∷ []) (item_spans r m)) (done_span h l d)

-- `x` is completed at a live set that stands at `q`.
pub record DoneAt (g : Grammar) (c : Chart) (ks : List ℕ) (passes : ℕ → Type 0) (pos : ℕ → ℕ) (q x : ℕ) : Type 0 where
  pub set : ℕ
  pub live : Live c set
  pub stands : pos set ≡ q
  pub done : DoneFor g c ks passes set x

module _ {g : Grammar} {a : Positions} {waits : ℕ → Type 0} {c : Chart} (h : HoldsFor g a waits c) (b : Positions) where
  -- What is predicted and wanted at a live set is in its row, whatever positions come behind.
  pub row_at : {k q x : ℕ} → Live c k → h.pos k ≡ q → Pred g (a ++ b) x q → Wanted g a waits x q → c.row k x
  row_at {k} {q} {x} l e d w =
      let n : q ≤ length a = subst (λ m. m ≤ length a) e (set-inside h (live_set h l)) in
      h.row_there l (subst (Pred g a x) (sym e) (pred_shrinks a b d n)) (subst (Wanted g a waits x) (sym e) w)

  -- And its items are there.
  pub item_at_lem : {k p q r : ℕ} → Live c k → h.pos k ≡ p → Item g (a ++ b) r q p → Wanted g a waits (rule_at g r).second p → Found c h.pos k r q
  item_at_lem {k} {p} {q} {r} l e i w =
      let n : p ≤ length a = subst (λ m. m ≤ length a) e (set-inside h (live_set h l)) in
      h.item_there l (subst (Item g a r q) (sym e) (item_shrinks a b i n)) (subst (Wanted g a waits (rule_at g r).second) (sym e) w)

-- The position may come, and a sieve tells what the step lets through.
module _ {g : Grammar} {a : Positions} {waits passes waits' : ℕ → Type 0} {c : Chart} {ks : List ℕ} (h : HoldsFor g a waits c) (due : Due g waits ks)
    (sieve : Sieve g passes waits') where
  -- In the rows and sets of what spans to behind the position nothing lacks.
  pub row_of : {k q x j : ℕ} → Live c k → h.pos k ≡ q → Pred g (a ++ ks ∷ []) x q → Span g (a ++ ks ∷ []) x q j → c.row k x
  row_of l e p d = row_at h (ks ∷ []) l e p (span_wanted due d)

  pub item_of : {k q p r x y z j : ℕ} → Live c k → h.pos k ≡ p → Says g r x y z → z ≢ none → Pred g (a ++ ks ∷ []) x q → Span g (a ++ ks ∷ []) y q p
      → Span g (a ++ ks ∷ []) z p j → Found c h.pos k r q
  item_of {p = p} l e r n d s t = item_at_lem h (ks ∷ []) l e (item r n d s) (subst (λ x. Wanted g a waits x p) (sym r.second) (span_wanted due t))

  -- NOTHING MISSING: what is predicted, passes and spans to behind the position is completed, at a live set.
  pub span_done : {x q j : ℕ} → Span g (a ++ ks ∷ []) x q j → j ≡ suc (length a) → Pred g (a ++ ks ∷ []) x q → passes x → DoneAt g c ks passes h.pos q x
  span_done (Span.token {t = t} {i = i} l m e s) end p o =
      let n : length a ≡ i = omega arith in
      record {
        set = c.last;
        live = Live.latest;
        stands = h.ends ∙ n;
        done = DoneFor.scanned (subst (Member t) (ap (λ k. get_or (a ++ ks ∷ []) k []) (sym n) ∙ get_or-append_seam a ks [] []) e)
            (row_of Live.latest (h.ends ∙ n) p (Span.token l m e s));
      }
  span_done (Span.unary r d) end p o =
      let m = span_done d end (Pred.first r p) (sieve.by_only r o) in
      record {
        set = m.set;
        live = m.live;
        stands = m.stands;
        done = DoneFor.unary r m.done (row_of m.live m.stands (Pred.first r p) d) (row_of m.live m.stands p (Span.unary r d)) o;
      }
  span_done (Span.binary r n d e) end p o =
      let m = span_done e end (Pred.second r n p d) (sieve.by_last r n o) in
      let f = item_of m.live m.stands r n p d e in
      record {
        set = f.origin;
        live = Live.origin m.live f.item;
        stands = f.stands;
        done = DoneFor.closed r m.done (row_of m.live m.stands (Pred.second r n p d) e) f.item o;
      }
