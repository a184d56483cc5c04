-- THE PASS IS EXACT: a completion pass that is not refused completes what the rules of completion give, and nothing else.
use mathlib.Core.Path.{◌≡◌, refl, sym, ap, ◌∙◌, subst, subst₂}
use mathlib.Core.Bool.{true, false}
use mathlib.Core.Logic.{◌⊎◌, inl, inr, ⊎_elim}
use mathlib.Core.List.Memᴰ.{head as here}
use mathlib.Core.List.Memᴰ.{tail as behind}
use mathlib.Core.List.{List, [], ◌∷◌, Memᴰ as Member}
use mathlib.Core.List.Memᴰ.{cases_cons as first-or-later}
use mathlib.Core.List.Memᴰ.{not-nil as no_member}
use Prim.Native.Nat.{ℕ, zero, suc, ◌+◌, ◌*◌, ◌<◌}
use native.Mathlib.Omega.{arith}
use lib.ListN.{length}
use Rattle.laws.specs.Bits.{Holds, row_of}
use Rattle.laws.specs.Turns.{until}
use Rattle.laws.proofs.Bits.{holds_true, holds_false, true_holds}
use Rattle.laws.proofs.Tests.{either_way}
use Rattle.laws.proofs.Turns.{until-rests, until_turns}
use Rattle.bits.specs.Width.{row_words}
use Rattle.item.specs.Item.{item_at, origin_at, rule_at}
use Rattle.grammar.specs.Rules.{Rule, Grammar, Says, none, rule_at as rule_at_g}
use Rattle.grammar.specs.Accepted.{Accepted}
use Rattle.parse.specs.declared.State.{State}
use Rattle.parse.specs.Words.{Words}
use Rattle.parse.specs.WellFormed.{WellFormed, left_of}
use Rattle.node.specs.declared.Node.TheVariants.{Sum, Evaluated}
use Rattle.completion.specs.Pass.{Pass, append}
use Rattle.completion.specs.Complete.{predicted, complete}
use Rattle.completion.specs.Scan.{scan, scan_all}
use Rattle.completion.specs.Sums.{greatest, summands, summed, complete_sum, rests, complete_all_sums}
use Rattle.completion.specs.inner.Ready.{IsSet, Charted}
use Rattle.completion.proofs.Entries.{entries-length, each_entry}
use Rattle.completion.proofs.Turning.{not_resting, rest-empty, summed-items, summed-words}
use Rattle.completion.proofs.Through.{Begins}
use Rattle.completion.proofs.Charting.{steady_refl, greatest_charts}
use Rattle.completion.proofs.Heaped.{heaped_append, heaped_pop}
use Rattle.completion.specs.inner.Pending.{Pending}
use Rattle.completion.proofs.Pending.{all-sums-rest}
use Rattle.completion.proofs.Scanning.{pending_scan_all}
use Rattle.completion.proofs.Beginning.{beginning, accepted_grounds, begins_pending, is_set}
use Rattle.earley.proofs.Sieves.{any}
use Rattle.earley.proofs.Steps as steps
use Rattle.earley.proofs.Next.{Stored}
use Rattle.demands.specs.Positions.{is_position}
use Rattle.demands.specs.Steps.{scanned, completed}
use Rattle.demands.proofs.Chart.{Has, chart_of, New, Completed}
use Rattle.demands.proofs.Cut.{Cut}
use Rattle.demands.proofs.Growing.{Step, new_grows, grows_append, before-append}
use Rattle.demands.proofs.Following.{OfPair, Calls, Met, Follows, Closed, Kept, kept-sound, kept_append, kept_more, follows_on, met_grows, met-more, calls_more, complete_step}
use Rattle.demands.proofs.Popping.{summed-met, met-empty}

-- `done`, and the pair of set `k` and symbol `x`.
pub data With (done : ℕ → ℕ → Type 0) (k x : ℕ) : ℕ → ℕ → Type 0 where
  this : With done k x k x
  before : {l y : ℕ} → done l y → With done k x l y

module _ (g : Grammar) (st : State) (v : Words) (kinds : List ℕ) (charted : Charted g.rules v.starts (beginning st v)) where
  -- What the rules of completion give,
  abbrev Gives : ℕ → ℕ → Type 0
  Gives = steps.Done g (chart_of st v) kinds

  -- is closed under what the code does.
  gives-closed : Closed g.rules st v Gives
  gives-closed =
      record {
        medial = λ k x p d there inside second.
            let old : p < st.items = omega (arith, inside.up_to, charted.starts_fit (k + 1)) in
            let says : Says g (rule_at v.items p) (left_of g.rules (item_at v.items p)) (rule_at_g g (rule_at v.items p)).first x =
            record { there = charted.rules p old; left = refl; first = refl; second = second } in
            let has : Has v k (origin_at v.items p) (rule_at v.items p) =
            record { place = p; in_set = record { from = inside.from; up_to = inside.up_to }; origin = refl; rule = refl } in
            steps.DoneFor.closed says d (holds_true (row_of row_words v.rows k) x there) has any;
        unary = λ k x r d there begins one.
            let says : Says g r (rule_at_g g r).left x none =
            record { there = begins.is_rule; left = refl; first = begins.begins; second = one } in
            steps.DoneFor.unary says d (holds_true (row_of row_words v.rows k) x there)
            (holds_true (row_of row_words v.rows k) (rule_at_g g r).left begins.left-predicted) any;
      }

  -- Of the kinds of the position that the latest row has, each was completed with the latest set, or is left to scan.
  abbrev Scanned : List ℕ → (ℕ → ℕ → Type 0) → Type 0
  Scanned left done = (t : ℕ) → Member t kinds → Holds (row_of row_words v.rows st.set) t → Member t left ⊎ done st.set t

  -- A pass on its way, with the kinds `left` to scan: what was completed is right, and unless the pass was refused, what follows from it was completed, is
  -- queued or is stored.
  pub record SoFar (left : List ℕ) (s : Pass) : Type 1 where
    pub done : ℕ → ℕ → Type 0
    pub right : (k x : ℕ) → done k x → Gives k x
    pub scanned : Scanned left done
    pub kept : Kept g.rules st v Gives done s
    pub follows : s.at.stopped ≡ 0 → (k x : ℕ) → done k x → predicted v.rows k x ≡ true → Follows g.rules st v done s k x

  -- Before the first completion nothing was completed and nothing is queued.
  begins-kept : {done : ℕ → ℕ → Type 0} → Pending g.rules v.starts (beginning st v)
      → Kept g.rules st v Gives done (beginning st v)
  begins-kept pending =
      record {
        heaped = record {
          steady = steady_refl g.rules v.starts (beginning st v) pending.sound pending.charted;
          ordered = record {
            heap = pending.heap;
            each = record { each = λ i there. absurd (omega (arith, entries-length (beginning st v) pending.sound.queued_fit)) };
          };
        };
        calls = λ p from up_to. absurd (omega arith);
      }

  -- One pair more is completed: what followed from those before it follows still, and what follows from it does.
  module _ (done : ℕ → ℕ → Type 0) (k x : ℕ) (set : IsSet v.starts k) (right : (l y : ℕ) → With done k x l y → Gives l y)
      {left : List ℕ} (scanned : Scanned left (With done k x)) (link : ℕ) (s : Pass) (kept : Kept g.rules st v Gives (With done k x) s)
      (follows : s.at.stopped ≡ 0 → (l y : ℕ) → done l y → predicted v.rows l y ≡ true → Follows g.rules st v (With done k x) s l y) where
    abbrev after : Pass
    after = complete g.rules v.starts v.rows k x link s

    pair_step : Step (Kept g.rules st v Gives (With done k x))
        (λ u. predicted v.rows k x ≡ true → Follows g.rules st v (With done k x) u k x) s after
    pair_step = complete_step g.rules st v gives-closed charted k x link set (right k x this) this s kept

    pair-follows : after.at.stopped ≡ 0 → (l y : ℕ) → With done k x l y → predicted v.rows l y ≡ true
        → Follows g.rules st v (With done k x) after l y
    pair-follows on l y this there = pair_step.brings on there
    pair-follows on l y (before d) there =
        follows_on g.rules st v (λ o r. met_grows o r (kept-sound g.rules st v kept) pair_step.grows) (λ o r. new_grows pair_step.grows)
        (follows (pair_step.before on) l y d there)

    pair_so_far : SoFar left after
    pair_so_far = record { done = With done k x; right = right; scanned = scanned; kept = pair_step.kept; follows = pair-follows }

  -- Before the first kind nothing was completed.
  first_so_far : Pending g.rules v.starts (beginning st v) → SoFar kinds (beginning st v)
  first_so_far pending = record {
    done = λ l y. ⊥;
    right = λ l y never. absurd never;
    scanned = λ t of there. inl of;
    kept = begins-kept pending;
    follows = λ on l y never. absurd never;
  }

  -- One kind: if it is predicted its pair with the latest set comes to those that were completed; if not it is passed over.
  module _ (set : IsSet v.starts st.set) (t : ℕ) (left : List ℕ) (s : Pass) (so_far : SoFar (t ∷ left) s) where
    abbrev with_kind : ℕ → ℕ → Type 0
    with_kind = With so_far.done st.set t

    kind_scanned : Scanned left with_kind
    kind_scanned u of there =
        ⊎_elim (λ m. ⊎_elim (λ is. inr (subst (with_kind st.set) (sym is) this)) inl (first-or-later m)) (λ d. inr (before d))
        (so_far.scanned u of there)

    kind_met : (o r : ℕ) → Met g.rules so_far.done s o r → Met g.rules with_kind (append (Evaluated t) s) o r
    kind_met o r met = met-more (λ l y d. before d) (met_grows o r (kept-sound g.rules st v so_far.kept) (grows_append (Evaluated t) s) met)

    kind_so_far : Member t kinds → predicted v.rows st.set t ≡ true
        → SoFar left (complete g.rules v.starts v.rows st.set t s.at.used (append (Evaluated t) s))
    kind_so_far of there =
        pair_so_far so_far.done st.set t set right kind_scanned s.at.used (append (Evaluated t) s)
        (kept_append g.rules st v (Evaluated t) s (kept_more g.rules st v (λ l y d. before d) so_far.kept))
        (λ on l y d row.
        follows_on g.rules st v kind_met (λ o r. new_grows (grows_append (Evaluated t) s)) (so_far.follows (before-append (Evaluated t) s on) l y d row))
      where
        right : (l y : ℕ) → with_kind l y → Gives l y
        right l y this = steps.DoneFor.scanned of (holds_true (row_of row_words v.rows st.set) t there)
        right l y (before d) = so_far.right l y d

    passed_over : predicted v.rows st.set t ≡ false → SoFar left s
    passed_over other = record {
      done = so_far.done;
      right = so_far.right;
      scanned = λ u of there. ⊎_elim (λ m. ⊎_elim (λ is. absurd (not_held is there)) inl (first-or-later m)) inr (so_far.scanned u of there);
      kept = so_far.kept;
      follows = so_far.follows;
    }
      where
        not_held : {u : ℕ} → u ≡ t → Holds (row_of row_words v.rows st.set) u → ⊥
        not_held is there =
            holds_false (row_of row_words v.rows st.set) t other (subst (Holds (row_of row_words v.rows st.set)) is there)

  -- All kinds.
  kinds_so_far : IsSet v.starts st.set → (left : List ℕ) → ((t : ℕ) → Member t left → Member t kinds) → (s : Pass) → SoFar left s
      → SoFar [] (scan_all g.rules v.starts v.rows st.set left s)
  unfolding scan_all scan
  kinds_so_far set [] of s so_far = so_far
  kinds_so_far set (t ∷ left) of s so_far =
      kinds_so_far set left (λ u m. of u (behind m)) (scan g.rules v.starts v.rows st.set t s)
      (either_way (predicted v.rows st.set t) (λ there. rw (scan, there) (kind_so_far set t left s so_far (of t (here refl)) there))
      (λ other. rw (scan, other) (passed_over set t left s so_far other)))

  -- One sum: its pair comes to those that were completed.
  module _ (s : Pass) (goes : rests s ≡ false) (so_far : SoFar [] s) where
    abbrev set : ℕ
    set = (greatest s).origin

    abbrev symbol : ℕ
    symbol = left_of g.rules (greatest s)

    abbrev now : ℕ → ℕ → Type 0
    now = With so_far.done set symbol

    abbrev popped : Pass
    popped = summed g.rules set symbol s

    some : 0 < s.at.queued
    some = (not_resting s goes).1

    sum-right : (l y : ℕ) → now l y → Gives l y
    sum-right l y this =
        each_entry s (kept-sound g.rules st v so_far.kept).queued_fit (λ e. OfPair Gives g.rules (item_at s.items e.place))
        so_far.kept.heaped.ordered.each 0 some
    sum-right l y (before d) = so_far.right l y d

    popped-kept : Kept g.rules st v Gives now popped
    popped-kept =
        record {
          heaped =
              heaped_pop g.rules v.starts (OfPair Gives g.rules) (beginning st v) set symbol (append (Sum (summands g.rules set symbol s) symbol) s)
              (heaped_append g.rules v.starts (OfPair Gives g.rules) (beginning st v) (Sum (summands g.rules set symbol s) symbol) s
              so_far.kept.heaped);
          calls = λ p from up_to.
              calls_more (λ l y d. before d)
              (subst (λ (w : List ℕ). Calls g.rules v.rows so_far.done (origin_at w p) (rule_at w p)) (sym (summed-words g.rules set symbol s))
              (so_far.kept.calls p from (omega (arith, summed-items g.rules set symbol s))));
        }

    popped-met : (o r : ℕ) → Met g.rules so_far.done s o r → Met g.rules now popped o r
    popped-met o r (Met.completed c) = Met.completed (before c)
    popped-met o r (Met.queued q) = summed-met g.rules set symbol this s (kept-sound g.rules st v so_far.kept) o r q

    popped-new : (o r : ℕ) → New st s o r → New st popped o r
    popped-new o r new =
        record {
          place = new.place;
          behind = new.behind;
          before = omega (arith, new.before, summed-items g.rules set symbol s);
          origin = ap (λ (w : List ℕ). origin_at w new.place) (summed-words g.rules set symbol s) ∙ new.origin;
          rule = ap (λ (w : List ℕ). rule_at w new.place) (summed-words g.rules set symbol s) ∙ new.rule;
        }

    sum_so_far : SoFar [] (complete_sum g.rules v.starts v.rows s)
    unfolding complete_sum
    sum_so_far =
        pair_so_far so_far.done set symbol
        (greatest_charts g.rules v.starts (beginning st v) s some so_far.kept.heaped.steady).is_set sum-right
        (λ t of there. ⊎_elim inl (λ d. inr (before d)) (so_far.scanned t of there)) s.at.used popped popped-kept
        (λ on l y d there. follows_on g.rules st v popped-met popped-new (so_far.follows (not_resting s goes).0 l y d there))

  -- All sums.
  sums_so_far : (n : ℕ) (s : Pass) → SoFar [] s → SoFar [] (until n rests (complete_sum g.rules v.starts v.rows) s)
  unfolding until
  sums_so_far zero s so_far = so_far
  sums_so_far (suc n) s so_far =
      let next : (goes : rests s ≡ false) → SoFar [] (until n rests (complete_sum g.rules v.starts v.rows) (complete_sum g.rules v.starts v.rows s)) =
      λ goes. sums_so_far n (complete_sum g.rules v.starts v.rows s) (sum_so_far s goes so_far) in
      either_way (rests s)
      (λ at_rest. subst (SoFar []) (sym (until-rests rests (complete_sum g.rules v.starts v.rows) (suc n) s at_rest)) so_far)
      (λ goes. subst (SoFar []) (sym (until_turns rests (complete_sum g.rules v.starts v.rows) n s goes)) (next goes))

  -- A pass that has ended, and was not refused, is exact.
  module _ (s : Pass) (so_far : SoFar [] s) (on : s.at.stopped ≡ 0) (none_left : s.at.queued ≡ 0) where
    begins : {k r x y z : ℕ} → Says g r x y z → Holds (row_of row_words v.rows k) x → Begins g.rules v.rows k y r
    begins {k} {r} {x} {y} {z} says row =
        record {
          is_rule = says.there;
          begins = says.first;
          left-predicted = subst (λ (a : ℕ). predicted v.rows k a ≡ true) (sym says.left) (true_holds (row_of row_words v.rows k) x row);
        }

    following : {k x : ℕ} → so_far.done k x → Holds (row_of row_words v.rows k) x → Follows g.rules st v so_far.done s k x
    following {k} {x} d row = so_far.follows on k x d (true_holds (row_of row_words v.rows k) x row)

    exact-pass : steps.Pass g (chart_of st v) kinds so_far.done
    exact-pass =
        record {
          sound = λ {k} {x} d. so_far.right k x d;
          scanned = λ {t} of there. ⊎_elim (λ none. absurd (no_member none)) (λ d. d) (so_far.scanned t of there);
          unary = λ {r} {x} {y} {k} says d row-y row-x _.
              subst (so_far.done k) says.left
              (met-empty (kept-sound g.rules st v so_far.kept) none_left
              ((following d row-y).unary r (begins says row-x) says.second));
          closed = λ {r} {x} {y} {z} {k} {o} says d row has _.
              let rule : rule_at_g g (rule_at v.items has.place) ≡ rule_at_g g r = ap (rule_at_g g) has.rule in
              subst (λ (a : ℕ). so_far.done a x) has.origin
              (subst (so_far.done (origin_at v.items has.place)) (ap (λ (a : Rule). a.left) rule ∙ says.left)
              (met-empty (kept-sound g.rules st v so_far.kept) none_left
              ((following d row).medial has.place (record { from = has.in_set.from; up_to = has.in_set.up_to })
              (ap (λ (a : Rule). a.second) rule ∙ says.second))));
        }

    exact-stored : (o r : ℕ) → Stored g (chart_of st v) so_far.done o r → New st s o r
    exact-stored o r stored =
        let says : Says g r (rule_at_g g r).left (rule_at_g g r).first (rule_at_g g r).second =
        record { there = stored.there; left = refl; first = refl; second = refl } in
        (following stored.completed stored.first).binary r (begins says stored.left) stored.two

    exact_called : (o r : ℕ) → New st s o r → ((rule_at_g g r).second ≡ none → ⊥) → Stored g (chart_of st v) so_far.done o r
    exact_called o r new two =
        let calls : Calls g.rules v.rows so_far.done o r =
        subst₂ (Calls g.rules v.rows so_far.done) new.origin new.rule (so_far.kept.calls new.place new.behind new.before) in
        record {
          there = subst (λ (n : ℕ). n < length g.rules) new.rule (so_far.kept.heaped.steady.charted.rules new.place new.before);
          two = two;
          completed = calls.completed;
          first = holds_true (row_of row_words v.rows o) (rule_at_g g r).first calls.first;
          left = holds_true (row_of row_words v.rows o) (rule_at_g g r).left calls.left;
          waited = any;
        }

-- The pass of a position on a well-formed state of an accepted grammar, unless it is refused.
pub completed-exactly : (g : Grammar) → Accepted g → (s : State) (v : Words) → WellFormed g.symbols g.rules s v
    → Cut v → (kinds : List ℕ) → is_position g.tokens kinds ≡ true → (completed g s v kinds).at.stopped ≡ 0 → Completed g s v kinds
unfolding complete_all_sums
completed-exactly g accepted s v well cut kinds position on =
    record {
      done = so_far.done;
      pass = exact-pass g s v kinds pending.charted (completed g s v kinds) so_far on none_left;
      stored = exact-stored g s v kinds pending.charted (completed g s v kinds) so_far on none_left;
      called = exact_called g s v kinds pending.charted (completed g s v kinds) so_far on none_left;
    }
  where
    pending : Pending g.rules v.starts (beginning s v)
    pending = begins_pending well accepted.few_rules cut.few_items cut.few_entries cut.rowed

    set : IsSet v.starts s.set
    set = is_set well accepted.few_rules cut.few_items cut.few_entries cut.rowed s.set (omega arith)

    so_far : SoFar g s v kinds pending.charted [] (completed g s v kinds)
    so_far =
        sums_so_far g s v kinds pending.charted (length v.starts * length g.rules) (scanned g s v kinds)
        (kinds_so_far g s v kinds pending.charted set kinds (λ t m. m) (beginning s v) (first_so_far g s v kinds pending.charted pending))

    none_left : (completed g s v kinds).at.queued ≡ 0
    none_left =
        rest-empty (completed g s v kinds)
        (all-sums-rest (accepted_grounds g accepted v.starts v.rows cut.rowed) (scanned g s v kinds)
        (pending_scan_all (accepted_grounds g accepted v.starts v.rows cut.rowed) set kinds (beginning s v) pending)) on
