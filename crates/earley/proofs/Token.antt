-- A position keeps the invariant: the new set has exactly the ideal items and predictions, and what pruning drops is not live.
use mathlib.Core.Path.{◌≡◌, refl, sym, ◌∙◌, ap, subst, subst₂}
use mathlib.Core.List.{List, [], ◌∷◌, ◌++◌}
use mathlib.Core.Logic.{◌⊎◌, inl, inr, ⊎_elim}
use Prim.Native.Nat.{ℕ, suc, ◌≤◌, ◌<◌}
use native.Mathlib.Decide.{dec_le}
use native.Mathlib.Omega.{arith}
use lib.ListN.{length, length-append}
use Rattle.grammar.specs.Rules.{Grammar, rule_at}
use Rattle.grammar.specs.Prediction.{here as itself}
use Rattle.earley.specs.Positions.{Positions}
use Rattle.earley.proofs.Spans.{Span}
use Rattle.earley.proofs.Predictions.{Pred, Item, says, item, item_predicts, item_grows, pred_grows, reaches_pred, reaches-first}
use Rattle.earley.proofs.Places.{up_to, up_to_old, up_to-new, next_cases}
use Rattle.earley.proofs.Sieves.{Sieve, Wanted, Due, unhinted, any-due, wanted_before, first_wanted}
use Rattle.earley.proofs.Charts.{Chart, Live, Found, HoldsFor, Holds, live_set, set-inside}
use Rattle.earley.proofs.Next.{StoredFor, Led, NextFor, Next, kept-within, kept_row_true, kept-row_there, new-origins}
use Rattle.earley.proofs.Steps.{Kinds, PassFor, Pass, DoneAt, pass_all, done_live, done_span, row_at, item_at_lem, row_of, span_done}

-- What is predicted and waited for at a place behind the first position is reached from an item that stands there.
pred_led : {g : Grammar} {a : Positions} {passes waits : ℕ → Type 0} {c : Chart} {s m x p : ℕ} {pos : ℕ → ℕ} → Sieve g passes waits
    → ((r q : ℕ) → Item g a r q m → waits (rule_at g r).second → Found c pos s r q) → 0 < m → Pred g a x p → p ≡ m → waits x → Led g c s x
pred_led v f l Pred.wrapped e w = absurd (omega arith)
pred_led v f l (Pred.first h d) e w =
    let k = pred_led v f l d e (v.by_first h w) in
    record { origin = k.origin; rule = k.rule; item = k.item; reaches = reaches-first k.reaches h }
pred_led {g} {a} {waits = waits} v f l (Pred.second {r = r} {y = y} {q = q} h n d t) e w =
    let k = f r q (item h n d (subst (Span g a y q) e t)) (subst waits (sym h.second) w) in
    record { origin = k.origin; rule = r; item = k.item; reaches = rw h.second itself }

-- A live set of the new chart that is not its latest was live before, stays, and keeps its row.
pub record Stays (c : Chart) (kept s : ℕ) : Type 0 where
  pub live : Live c s
  pub within : s ≤ kept
  pub whole : (s < kept) ⊎ (kept ≡ c.last)

-- Where the sets stand after the position.
abbrev later : {g : Grammar} {a : Positions} {waits : ℕ → Type 0} {c : Chart} → HoldsFor g a waits c → ℕ → ℕ → ℕ
later {a = a} h kept = up_to kept h.pos (suc (length a))

-- `waits` is what the latest set waits for, and the position is one that may come; `passes` and `waits'` are what this step lets through.
module _ {g : Grammar} {a : Positions} {waits passes waits' : ℕ → Type 0} {c c' : Chart} {ks : List ℕ} {kept : ℕ} {done : ℕ → ℕ → Type 0}
    (h : HoldsFor g a waits c) (small : Kinds g ks) (due : Due g waits ks) (sieve : Sieve g passes waits') (pass : PassFor g c ks passes done)
    (next : NextFor g c waits' done kept c') where
  -- The origin of a stored item stays.
  stored-stays : {o r : ℕ} → StoredFor g c waits' done o r → Stays c kept o
  stored-stays {o} s =
      let l : Live c o = done_live (pass.sound s.completed) in
      let m : o ≤ c.last = live_set h l in
      let w = kept-within next in
      elim (dec_le c.last kept) [
        | yes k ↦ record { live = l; within = omega arith; whole = inr (omega arith) }
        | no k ↦ (let b : o < kept = new-origins next (omega arith) s in record { live = l; within = omega arith; whole = inl b })
      ]

  -- So the live sets are the new one and such as were live before.
  live_cases : {s : ℕ} → Live c' s → (s ≡ suc kept) ⊎ Stays c kept s
  live_cases Live.latest = inl next.last
  live_cases (Live.origin {o = o} {r = r} l i) =
      ⊎_elim
      (λ e. inr (stored-stays (next.new_items.0 (subst (λ n. c'.item n o r) e i))))
      (λ s.
      let j = (next.items s.within).0 i in
      let b = h.older (live_set h s.live) j in
      let w = s.within in
      inr (record { live = Live.origin s.live j; within = omega arith; whole = inl (omega arith) }))
      (live_cases l)

  -- What is stored is an ideal item.
  stored_item : {o r : ℕ} → StoredFor g c waits' done o r → Item g (a ++ ks ∷ []) r (h.pos o) (suc (length a))
  stored_item s = record {
    there = s.there;
    two = s.two;
    predicted = pred_grows (ks ∷ []) (h.row_true (live_set h (stored-stays s).live) s.left);
    spans = done_span h small (pass.sound s.completed);
  }

  -- Every ideal item that ends behind the position, and whose second symbol is waited for, is stored.
  item_stored : (r q : ℕ) → Item g (a ++ ks ∷ []) r q (suc (length a)) → waits' (rule_at g r).second → Found c' (later h kept) (suc kept) r q
  item_stored r q i w =
      let f : Pred g (a ++ ks ∷ []) (rule_at g r).first q = Pred.first (says i.there) i.predicted in
      let d : DoneAt g c ks passes h.pos q (rule_at g r).first =
      span_done h due sieve i.spans refl f (sieve.by_second (says i.there) i.two w) in
      let s : StoredFor g c waits' done d.set r = record {
        there = i.there;
        two = i.two;
        completed = pass_all pass d.done;
        first = row_of h due sieve d.live d.stands f i.spans;
        left = row_at h (ks ∷ []) d.live d.stands i.predicted (first_wanted due (says i.there) i.spans);
        waited = w;
      } in
      record { origin = d.set; item = next.new_items.1 s; stands = up_to_old h.pos (suc (length a)) (stored-stays s).within ∙ d.stands }

  -- Sets that stay stand where they stood, the new one behind the position.
  old_stands : {s : ℕ} → s ≤ kept → later h kept s ≡ h.pos s
  old_stands l = up_to_old h.pos (suc (length a)) l

  new-stands : later h kept (suc kept) ≡ suc (length a)
  new-stands = up_to-new h.pos (suc (length a)) (omega arith)

  -- The places rise.
  rises : (s u : ℕ) → s < u → u ≤ suc kept → later h kept s < later h kept u
  rises s u l m = next_cases kept u m
      (λ k. let w = kept-within next in
      let b = h.rising s u l (omega arith) in
      let e = old_stands {s = s} (omega arith) in
      let f = old_stands k in
      omega arith)
      (λ k. let w = kept-within next in
      let b = set-inside {s = s} h (omega arith) in
      let e = old_stands {s = s} (omega arith) in
      rw k (rw new-stands (omega arith)))

  -- The new set's items are what is stored.
  is_stored : {s o r : ℕ} → s ≡ suc kept → c'.item s o r → StoredFor g c waits' done o r
  is_stored {o = o} {r = r} e i = next.new_items.0 (subst (λ n. c'.item n o r) e i)

  -- Items lie behind their origins.
  item_older : (s o r : ℕ) → s ≤ suc kept → c'.item s o r → o < s
  item_older s o r m i = next_cases kept s m
      (λ l. let w = kept-within next in h.older (omega arith) ((next.items l).0 i))
      (λ e. let b = (stored-stays (is_stored e i)).within in omega arith)

  -- No item is wrong.
  item_right : (s o r : ℕ) → s ≤ suc kept → c'.item s o r → Item g (a ++ ks ∷ []) r (later h kept o) (later h kept s)
  item_right s o r m i = next_cases kept s m
      (λ l. let w = kept-within next in
      let j = (next.items l).0 i in
      let b = h.older (omega arith) j in
      subst₂ (Item g (a ++ ks ∷ []) r) (sym (old_stands (omega arith))) (sym (old_stands l)) (item_grows (ks ∷ []) (h.item_true (omega arith) j)))
      (λ e. let d = is_stored e i in
      subst₂ (Item g (a ++ ks ∷ []) r) (sym (old_stands (stored-stays d).within)) (sym new-stands ∙ ap (later h kept) (sym e)) (stored_item d))

  -- No row has a wrong symbol.
  row-right : (s x : ℕ) → s ≤ suc kept → c'.row s x → Pred g (a ++ ks ∷ []) x (later h kept s)
  row-right s x m i = next_cases kept s m
      (λ l. let w = kept-within next in
      subst (Pred g (a ++ ks ∷ []) x) (sym (old_stands l)) (pred_grows (ks ∷ []) (h.row_true (omega arith) (kept_row_true next l i))))
      (λ e. let d = next.new_row.0 (subst (λ n. c'.row n x) e i) in
      let j = item_right (suc kept) d.origin d.rule (omega arith) d.item in
      rw e (reaches_pred d.reaches (item_predicts j)))

  -- What is wanted in the new set is what this step waits for; in an older one it was wanted before.
  at_end : {s x : ℕ} → s ≡ suc kept → Wanted g (a ++ ks ∷ []) waits' x (later h kept s) → waits' x
  at_end e w = w.behind (ap (later h kept) e ∙ new-stands ∙ (let n = length-append a (ks ∷ []) in omega arith))

  before : {s x : ℕ} → Stays c kept s → Wanted g (a ++ ks ∷ []) waits' x (later h kept s) → Wanted g a waits x (later h kept s)
  before {s} y w = wanted_before due (let e = old_stands {s = s} y.within in let k = set-inside h (live_set h y.live) in omega arith) w

  -- No item that is wanted is missing in a live set.
  item_complete : (s r q : ℕ) → Live c' s → Item g (a ++ ks ∷ []) r q (later h kept s) → Wanted g (a ++ ks ∷ []) waits' (rule_at g r).second (later h kept s)
      → Found c' (later h kept) s r q
  item_complete s r q l i w = ⊎_elim
      (λ e. rw e (item_stored r q (subst (Item g (a ++ ks ∷ []) r q) new-stands (rw e at i)) (at_end e w)))
      (λ y.
      let f = item_at_lem h (ks ∷ []) y.live (sym (old_stands y.within)) i (before y w) in
      let b = h.older (live_set h y.live) f.item in
      let w = y.within in
      record { origin = f.origin; item = (next.items y.within).1 f.item; stands = old_stands (omega arith) ∙ f.stands })
      (live_cases l)

  -- No symbol that is wanted is missing in a live set's row.
  row-complete : (s x : ℕ) → Live c' s → Pred g (a ++ ks ∷ []) x (later h kept s) → Wanted g (a ++ ks ∷ []) waits' x (later h kept s) → c'.row s x
  row-complete s x l d w = ⊎_elim
      (λ e. rw e (next.new_row.1 (pred_led sieve item_stored (omega arith) d (ap (later h kept) e ∙ new-stands) (at_end e w))))
      (λ y. kept-row_there next y.within y.whole (row_at h (ks ∷ []) y.live (sym (old_stands y.within)) d (before y w)))
      (live_cases l)

  -- THE INVARIANT GOES ON: the chart after a position holds for the positions and it, and waits for what the step was told.
  pub sifted : HoldsFor g (a ++ ks ∷ []) waits' c'
  sifted = record {
    pos = later h kept;
    rising = λ s u l m. rises s u l (let e = next.last in omega arith);
    ends = ap (later h kept) next.last ∙ new-stands ∙ (let e = length-append a (ks ∷ []) in omega arith);
    older = λ {s} {o} {r} m i. item_older s o r (let e = next.last in omega arith) i;
    item_true = λ {s} {o} {r} m i. item_right s o r (let e = next.last in omega arith) i;
    row_true = λ {s} {x} m i. row-right s x (let e = next.last in omega arith) i;
    item_there = λ {s} {r} {q} l i w. item_complete s r q l i w;
    row_there = λ {s} {x} l d w. row-complete s x l d w;
  }

  -- The sets that stay stand where they stood.
  pub sifted_old : {s : ℕ} → s ≤ kept → sifted.pos s ≡ h.pos s
  unfolding sifted
  sifted_old l = old_stands l

-- And so with no hint.
abbrev pub token : {g : Grammar} {a : Positions} {c c' : Chart} {ks : List ℕ} {kept : ℕ} {done : ℕ → ℕ → Type 0} → Holds g a c → Kinds g ks → Pass g c ks done
    → Next g c done kept c' → Holds g (a ++ ks ∷ []) c'
token h small pass next = sifted h small any-due unhinted pass next
