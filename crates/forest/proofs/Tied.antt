-- Queue and forest are tied: what the completed pairs call for is in the queue, or among the products of its own pair's Sum.
use Rattle.std.proofs.Common.{◌≡◌, refl, sym, ◌∙◌, ap, subst, Bool, true, false, List, [], ◌∷◌, ◌↔◌, ◌⊎◌, inl, inr, ⊎_elim, ℕ, ◌+◌, ◌≤◌, ◌<◌, arith, length}
use mathlib.Core.List.{flat_map}
use mathlib.Core.List.Memᴰ.{head as here}
use mathlib.Core.List.Memᴰ.{not-nil as no_member}
use mathlib.Core.List.Memᴰ.{tail as there}
use mathlib.Core.List.{Memᴰ as Member}
use native.Mathlib.Decide.{dec_lt}
use Rattle.laws.specs.Counts.{count}
use Rattle.laws.proofs.Counts.{count-append}
use Rattle.forest.specs.Lists.{none, Once}
use Rattle.forest.proofs.Lists.{joined_member, member_joined, ordered-append}
use Rattle.forest.proofs.Counted.{Telling, count_every, count_none, member_counted, counted_member, once-counted, counted-once}

-- A pair completed: the handle of its node, the entries popped for it (the products of its Sum, in order), and the entries that completing
-- it queued.
pub record Turn (Entry Pair : Type 0) : Type 0 where
  pub pair : Pair
  pub handle : ℕ
  pub products : List Entry
  pub calls : List Entry

-- Of entries: the pair that an entry is a summand of, and the handle that it was called for with. Of pairs: which comes below which.
pub record Terms (Entry Pair : Type 0) : Type 1 where
  pub tell : Telling Entry
  pub pair_of : Entry → Pair
  pub asker_of : Entry → ℕ
  pub Below : Pair → Pair → Type 0
  pub lower : {a b c : Pair} → Below a b → Below b c → Below a c
  pub other : {a : Pair} → Below a a → ⊥

module _ {Entry Pair : Type 0} where
  -- All that was called for, and all that was popped; the latest turn first.
  abbrev pub called : List (Turn Entry Pair) → List Entry
  called past = flat_map (λ (t : Turn Entry Pair). t.calls) past

  abbrev pub taken : List (Turn Entry Pair) → List Entry
  taken past = flat_map (λ (t : Turn Entry Pair). t.products) past

  -- THE INVARIANT of a pass, with its turns so far and its queue. Called for is queued or popped, each as often; nothing is called for twice;
  -- a product is of its turn's pair, and was called for with an earlier handle; a call names its turn's handle; what is queued is of pairs
  -- below all that were completed; one pair, and one handle, is of one turn.
  pub record Tied (w : Terms Entry Pair) (past : List (Turn Entry Pair)) (queue : List Entry) : Type 0 where
    pub counts : (test : Entry → Bool) → count test (called past) ≡ count test queue + count test (taken past)
    pub once : Once (called past)
    pub own : (t : Turn Entry Pair) (e : Entry) → Member t past → Member e t.products → w.pair_of e ≡ t.pair
    pub asked : (t : Turn Entry Pair) (e : Entry) → Member t past → Member e t.calls → w.asker_of e ≡ t.handle
    pub below : (t : Turn Entry Pair) (e : Entry) → Member t past → Member e queue → w.Below (w.pair_of e) t.pair
    pub one_turn : (t u : Turn Entry Pair) → Member t past → Member u past → t.pair ≡ u.pair → t ≡ u
    pub one_handle : (t u : Turn Entry Pair) → Member t past → Member u past → t.handle ≡ u.handle → t ≡ u
    pub earlier : (t : Turn Entry Pair) (e : Entry) → Member t past → Member e t.products → w.asker_of e < t.handle

  -- One turn: entries leave the queue for the products, and what the pair calls for comes.
  pub record Step (w : Terms Entry Pair) (past : List (Turn Entry Pair)) (queue : List Entry) (t : Turn Entry Pair) (after : List Entry) : Type 0 where
    pub moved : (test : Entry → Bool) → count test after + count test t.products ≡ count test queue + count test t.calls
    pub own : (e : Entry) → Member e t.products → w.pair_of e ≡ t.pair
    pub asked : (e : Entry) → Member e t.calls → w.asker_of e ≡ t.handle
    pub each-once : Once t.calls
    pub below : (e : Entry) → Member e after → w.Below (w.pair_of e) t.pair
    pub past_below : (u : Turn Entry Pair) (e : Entry) → Member u past → Member e after → w.Below (w.pair_of e) u.pair
    pub new : (u : Turn Entry Pair) → Member u past → u.pair ≡ t.pair → ⊥
    pub rises : (u : Turn Entry Pair) → Member u past → u.handle < t.handle
    pub from_queue : (e : Entry) → Member e t.products → Member e queue

  -- A sum: all entries of the greatest pair are popped, and the pair is completed.
  pub record Summed (w : Terms Entry Pair) (past : List (Turn Entry Pair)) (queue : List Entry) (t : Turn Entry Pair) (rest after : List Entry) : Type 0 where
    pub rises : (u : Turn Entry Pair) → Member u past → u.handle < t.handle
    pub greatest : Entry
    pub some : Member greatest t.products
    pub popped : (test : Entry → Bool) → count test queue ≡ count test rest + count test t.products
    pub own : (e : Entry) → Member e t.products → w.pair_of e ≡ t.pair
    pub rest_below : (e : Entry) → Member e rest → w.Below (w.pair_of e) t.pair
    pub pushed : (test : Entry → Bool) → count test after ≡ count test rest + count test t.calls
    pub calls_below : (e : Entry) → Member e t.calls → w.Below (w.pair_of e) t.pair
    pub asked : (e : Entry) → Member e t.calls → w.asker_of e ≡ t.handle
    pub each-once : Once t.calls

  -- A kind read: nothing is popped, and the pair is another than those before it.
  pub record Scanned (w : Terms Entry Pair) (past : List (Turn Entry Pair)) (queue : List Entry) (t : Turn Entry Pair) (after : List Entry) : Type 0 where
    pub rises : (u : Turn Entry Pair) → Member u past → u.handle < t.handle
    pub nothing : t.products ≡ []
    pub pushed : (test : Entry → Bool) → count test after ≡ count test queue + count test t.calls
    pub all-below : (u : Turn Entry Pair) (e : Entry) → Member u (t ∷ past) → Member e after → w.Below (w.pair_of e) u.pair
    pub new : (u : Turn Entry Pair) → Member u past → u.pair ≡ t.pair → ⊥
    pub asked : (e : Entry) → Member e t.calls → w.asker_of e ≡ t.handle
    pub each-once : Once t.calls

  module _ (w : Terms Entry Pair) where
    -- Nothing was read: nothing is called for.
    tied_start : Tied w [] []
    unfolding count flat_map
    tied_start = record {
      counts = λ test. refl;
      once = none;
      own = λ t e m. absurd (no_member m);
      asked = λ t e m. absurd (no_member m);
      below = λ t e m. absurd (no_member m);
      one_turn = λ t u m. absurd (no_member m);
      one_handle = λ t u m. absurd (no_member m);
      earlier = λ t e m. absurd (no_member m);
    }

    -- What is in a list, of which the counts are those of two others, is in one of these.
    either : (e : Entry) (l m n : List Entry) → count (w.tell.same e) l ≡ count (w.tell.same e) m + count (w.tell.same e) n → Member e l
        → Member e m ⊎ Member e n
    either e l m n counts is-there =
        let some : 0 < count (w.tell.same e) l = member_counted w.tell is-there in
        elim (dec_lt 0 (count (w.tell.same e) m)) [
          | yes in-m ↦ inl (counted_member w.tell e m in-m)
          | no not ↦ inr (counted_member w.tell e n (omega arith))
        ]

    -- A sum is a turn.
    sum_step : {past : List (Turn Entry Pair)} {queue : List Entry} {t : Turn Entry Pair} {rest after : List Entry} → Tied w past queue
        → Summed w past queue t rest after → Step w past queue t after
    sum_step {past} {queue} {t} {rest} {after} tied s =
        let below : (e : Entry) → Member e after → w.Below (w.pair_of e) t.pair =
        λ e m. ⊎_elim (s.rest_below e) (s.calls_below e) (either e after rest t.calls (s.pushed (w.tell.same e)) m) in
        let was-queued : (e : Entry) → Member e t.products → Member e queue =
        λ e m. counted_member w.tell e queue (let one = member_counted w.tell m in omega (arith, s.popped (w.tell.same e))) in
        let pair-below : (u : Turn Entry Pair) → Member u past → w.Below t.pair u.pair =
        λ u m. subst (λ p. w.Below p u.pair) (s.own s.greatest s.some) (tied.below u s.greatest m (was-queued s.greatest s.some)) in
        record {
          moved = λ test. omega (arith, s.popped test, s.pushed test);
          own = s.own;
          asked = s.asked;
          each-once = s.each-once;
          below = below;
          past_below = λ u e m n. w.lower (below e n) (pair-below u m);
          new = λ u m e. w.other (subst (λ p. w.Below t.pair p) e (pair-below u m));
          rises = s.rises;
          from_queue = was-queued;
        }

    -- A kind is a turn.
    scan_step : {past : List (Turn Entry Pair)} {queue : List Entry} {t : Turn Entry Pair} {after : List Entry} → Scanned w past queue t after
        → Step w past queue t after
    unfolding count
    scan_step {past} {queue} {t} {after} s = record {
      moved = λ test. omega (arith, s.pushed test, ap (count test) s.nothing);
      own = λ e m. absurd (no_member (subst (Member e) s.nothing m));
      asked = s.asked;
      each-once = s.each-once;
      below = λ e m. s.all-below t e (here refl) m;
      past_below = λ u e m n. s.all-below u e (there m) n;
      new = s.new;
      rises = s.rises;
      from_queue = λ e m. absurd (no_member (subst (Member e) s.nothing m));
    }

    -- An entry that a turn called for, and one that a turn of its own pair has among its products.
    pub record Called (past : List (Turn Entry Pair)) (e : Entry) : Type 0 where
      pub by : Turn Entry Pair
      pub turn : Member by past
      pub calls : Member e by.calls

    pub record InSum (past : List (Turn Entry Pair)) (e : Entry) : Type 0 where
      pub sum : Turn Entry Pair
      pub turn : Member sum past
      pub its_pair : w.pair_of e ≡ sum.pair
      pub product : Member e sum.products

    module _ {past : List (Turn Entry Pair)} {queue : List Entry} (tied : Tied w past queue) where
      is_called : (e : Entry) → 0 < count (w.tell.same e) (called past) → Called past e
      is_called e some =
          let o = member_joined (λ (u : Turn Entry Pair). u.calls) past (counted_member w.tell e (called past) some) in
          record { by = o.from; turn = o.member; calls = o.made }

      -- Each entry of the queue was called for,
      pub queue_called : (e : Entry) → Member e queue → Called past e
      queue_called e m = is_called e (let one = member_counted w.tell m in omega (arith, tied.counts (w.tell.same e)))

      -- and so was each product.
      pub product_called : (t : Turn Entry Pair) (e : Entry) → Member t past → Member e t.products → Called past e
      product_called t e m p =
          is_called e
          (let one = member_counted w.tell (joined_member (λ (u : Turn Entry Pair). u.products) m p) in omega (arith, tied.counts (w.tell.same e)))

      -- Each entry that was called for is in the queue, or its own pair was completed and it is one of the products of that pair's Sum.
      pub called_met : (e : Entry) → Called past e → Member e queue ⊎ InSum past e
      called_met e c =
          ⊎_elim (λ q. inl q)
          (λ m.
          let o = member_joined (λ (u : Turn Entry Pair). u.products) past m in
          inr (record { sum = o.from; turn = o.member; its_pair = tied.own o.from e o.member o.made; product = o.made }))
          (either e (called past) queue (taken past) (tied.counts (w.tell.same e)) (joined_member (λ (u : Turn Entry Pair). u.calls) c.turn c.calls))

      -- No entry is in the queue twice,
      pub queue-once : Once queue
      queue-once =
          counted-once w.tell queue (λ e. omega (arith, tied.counts (w.tell.same e), once-counted w.tell tied.once e))

      -- nor popped twice.
      taken-once : Once (taken past)
      taken-once =
          counted-once w.tell (taken past) (λ e. omega (arith, tied.counts (w.tell.same e), once-counted w.tell tied.once e))

      -- A turn's products are some of those popped.
      part : (l : List (Turn Entry Pair)) (t : Turn Entry Pair) → Member t l → (test : Entry → Bool) → count test t.products ≤ count test (taken l)
      unfolding flat_map
      part [] t m test = elim m [ ]
      part (u ∷ l) t (here is) test =
          omega (arith, ap (λ (v : Turn Entry Pair). count test v.products) is, count-append test u.products (taken l))
      part (u ∷ l) t (there m) test = omega (arith, count-append test u.products (taken l), part l t m test)

      pub products-once : (t : Turn Entry Pair) → Member t past → Once t.products
      products-once t m = counted-once w.tell t.products (λ e. omega (arith, part past t m (w.tell.same e), once-counted w.tell taken-once e))

    -- What holds of the latest turn and of those before it holds of all.
    latest : {P : Turn Entry Pair → Type 0} {t : Turn Entry Pair} {past : List (Turn Entry Pair)} → P t → ((u : Turn Entry Pair) → Member u past → P u)
        → (u : Turn Entry Pair) → Member u (t ∷ past) → P u
    latest {P} p f u (here is) = subst P (sym is) p
    latest p f u (there m) = f u m

    -- KEPT BY A TURN.
    tied_step : {past : List (Turn Entry Pair)} {queue : List Entry} {t : Turn Entry Pair} {after : List Entry} → Tied w past queue
        → Step w past queue t after → Tied w (t ∷ past) after
    unfolding flat_map
    tied_step {past} {queue} {t} {after} tied step = record {
      counts = λ test.
          omega (
            arith,
            count-append test t.calls (called past),
            count-append test t.products (taken past),
            tied.counts test,
            step.moved test,
          );
      once = ordered-append step.each-once tied.once
          (λ e f m n same.
          let o = member_joined (λ (u : Turn Entry Pair). u.calls) past n in
          let low = step.rises o.from o.member in
          omega (arith, tied.asked o.from f o.member o.made, step.asked e m, ap w.asker_of same));
      own = λ u e m. latest {P = λ u. Member e u.products → w.pair_of e ≡ u.pair} (step.own e) (λ u m. tied.own u e m) u m;
      asked = λ u e m. latest {P = λ u. Member e u.calls → w.asker_of e ≡ u.handle} (step.asked e) (λ u m. tied.asked u e m) u m;
      below = λ u e m. latest {P = λ u. Member e after → w.Below (w.pair_of e) u.pair} (step.below e) (λ u m. step.past_below u e m) u m;
      one_turn = λ u v m n.
          latest {P = λ u. u.pair ≡ v.pair → u ≡ v}
          (latest {P = λ v. t.pair ≡ v.pair → t ≡ v} (λ e. refl) (λ v n e. absurd (step.new v n (sym e))) v n)
          (λ u m. latest {P = λ v. u.pair ≡ v.pair → u ≡ v} (λ e. absurd (step.new u m e)) (λ v n. tied.one_turn u v m n) v n) u m;
      one_handle = λ u v m n.
          latest {P = λ u. u.handle ≡ v.handle → u ≡ v}
          (latest {P = λ v. t.handle ≡ v.handle → t ≡ v} (λ e. refl) (λ v n e. absurd (omega (arith, step.rises v n))) v n)
          (λ u m. latest {P = λ v. u.handle ≡ v.handle → u ≡ v} (λ e. absurd (omega (arith, step.rises u m))) (λ v n. tied.one_handle u v m n) v n)
          u m;
      earlier = λ u e m.
          latest {P = λ u. Member e u.products → w.asker_of e < u.handle}
          (λ p.
          let c = queue_called tied e (step.from_queue e p) in
          omega (arith, tied.asked c.by e c.turn c.calls, step.rises c.by c.turn))
          (λ u m. tied.earlier u e m) u m;
    }

    -- AT REST a Sum's products are exactly the entries of its pair that were called for.
    pub at_rest : {past : List (Turn Entry Pair)} → Tied w past [] → (t : Turn Entry Pair) → Member t past → (e : Entry)
        → Member e t.products ↔ (Called past e × (w.pair_of e ≡ t.pair))
    at_rest {past} tied t m e = (
      (λ p. (product_called tied t e m p, tied.own t e m p)),
      (λ c.
          ⊎_elim (λ q. absurd (no_member q))
          (λ s. subst (λ (u : Turn Entry Pair). Member e u.products) (tied.one_turn s.sum t s.turn m (sym s.its_pair ∙ c.1)) s.product)
          (called_met tied e c.0)),
    )

    -- A pass, turn by turn;
    pub data Run : List (Turn Entry Pair) → List Entry → Type 0 where
      start : Run [] []
      scan : {past : List (Turn Entry Pair)} {queue after : List Entry} {t : Turn Entry Pair} → Run past queue → Scanned w past queue t after
          → Run (t ∷ past) after
      sum : {past : List (Turn Entry Pair)} {queue rest after : List Entry} {t : Turn Entry Pair} → Run past queue → Summed w past queue t rest after
          → Run (t ∷ past) after

    -- THE INVARIANT HOLDS all the way.
    pub run_tied : {past : List (Turn Entry Pair)} {queue : List Entry} → Run past queue → Tied w past queue
    run_tied Run.start = tied_start
    run_tied (Run.scan run s) = tied_step (run_tied run) (scan_step s)
    run_tied (Run.sum run s) = let tied = run_tied run in tied_step tied (sum_step tied s)

    -- COUNTING BEFORE WRITING: the entries of the pair in the queue before the first pop are as many as the products.
    pub summands-counted : {past : List (Turn Entry Pair)} {queue : List Entry} {t : Turn Entry Pair} {rest after : List Entry}
        → Summed w past queue t rest after → (of : Entry → Bool) → ((e : Entry) → w.pair_of e ≡ t.pair → of e ≡ true)
        → ((e : Entry) → (w.pair_of e ≡ t.pair → ⊥) → of e ≡ false) → count of queue ≡ length t.products
    summands-counted {past} {queue} {t} {rest} {after} s of its not-its =
        omega (
          arith,
          s.popped of,
          count_every of t.products (λ e m. its e (s.own e m)),
          count_none of rest (λ e m. not-its e (λ h. w.other (subst (λ p. w.Below p t.pair) h (s.rest_below e m)))),
        )
