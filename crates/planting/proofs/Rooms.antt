-- No node of a step is unfit, and refusal 14 is for room alone.
use Rattle.std.proofs.Common.{◌≡◌, refl, ◌∙◌, subst, false, List, ◌↔◌, ⊎_elim, ℕ, zero, suc, ◌+◌, ◌*◌, ◌≤◌, ◌<◌, arith, length, get_or, take, length-take}
use native.Mathlib.Decide.{ℕ_discrete}
use lib.Seq.{take-length}
use Rattle.laws.specs.Bits.{row_of}
use Rattle.laws.proofs.Bits.{holds_true}
use Rattle.laws.proofs.Tests.{either_way}
use Rattle.laws.proofs.Turns.{until-keeps}
use Rattle.bits.specs.Width.{row_words}
use Rattle.grammar.specs.Rules.{Grammar}
use Rattle.grammar.specs.Accepted.{Accepted}
use Rattle.node.specs.Rows.{unfit, units_at}
use Rattle.node.specs.Writing.{usable}
use Rattle.node.specs.declared.Node.{Node}
use Rattle.node.specs.declared.Node.TheVariants.{Evaluated}
use Rattle.parse.specs.declared.State.{State}
use Rattle.parse.specs.Words.{Words}
use Rattle.parse.specs.WellFormed.{WellFormed, left_of}
use Rattle.parse.proofs.Heads.{meets_below}
use Rattle.completion.specs.Pass.{Pass, append, store_full}
use Rattle.completion.specs.Complete.{predicted, complete}
use Rattle.completion.specs.Scan.{scan, scan_all}
use Rattle.completion.specs.Sums.{greatest, pop_greatest, next_summand, pop_sum, summed, complete_sum, rests, complete_all_sums}
use Rattle.completion.specs.inner.Ready.{IsSet}
use Rattle.completion.specs.inner.Pending.{Grounds, Pending}
use Rattle.completion.proofs.Pushes.{stays}
use Rattle.completion.proofs.Entries.{entries-length}
use Rattle.completion.proofs.Turning.{sum_goes, not_resting}
use Rattle.completion.proofs.Charting.{Charts, Steady, steady_refl, steady_append, steady_pop, steady_summed, greatest_charts}
use Rattle.completion.proofs.Pending.{pending_steady, pending_append, pending_complete, pending_sum}
use Rattle.completion.proofs.Scanning.{scan_all-keeps}
use Rattle.completion.proofs.Beginning.{beginning, accepted_grounds, begins_pending, is_set}
use Rattle.demands.specs.Steps.{scanned, completed}
use Rattle.planting.specs.Unrefused.{Within}
use Rattle.planting.specs.Pops.{Reached}
use Rattle.planting.specs.Room.{sum_node, summands_on, Due, Lacks, RoomAlone}
use Rattle.planting.proofs.Pushing.{Good, complete_good}
use Rattle.planting.proofs.Written.{append_good, append-more, sum_node_good}
use Rattle.planting.proofs.Scans.{scan-used, scan_passed, scan-next}
use Rattle.planting.proofs.Refusing.{complete-full, append-ends, Refuses, refuses}
use Rattle.planting.proofs.Fitting.{Low, LowSteady, append-lacks, low-append, low-complete, low-summands, product_is_fit, sum_is_fit}

module _ {g : Grammar} (accepted : Accepted g) {s : State} {v : Words} (well : WellFormed g.symbols g.rules s v) (within : Within v) (kinds : List ℕ) where
  grounds : Grounds g.rules v.starts v.rows
  grounds = accepted_grounds g accepted v.starts v.rows within.rowed

  begins : Pending g.rules v.starts (beginning s v)
  begins = begins_pending well accepted.few_rules within.few_items within.few_entries within.rowed

  latest_set : IsSet v.starts s.set
  latest_set = is_set well accepted.few_rules within.few_items within.few_entries within.rowed s.set (omega arith)

  -- A well-formed state's handles are heads of nodes among the used units.
  begins-low : Low (beginning s v)
  begins-low = record {
    handles = λ p there. omega (arith, meets_below (well.handles p there), length-take s.used v.store);
    rights = record { each = λ i there. absurd (omega (arith, entries-length (beginning s v) begins.sound.queued_fit)) };
  }

  -- A pass that the step comes to is pending and, if nothing was refused, low.
  record LowPending (u : Pass) : Type 0 where
    pub pending : Pending g.rules v.starts u
    pub low : Good u → Low u

  scanned-low : (some : List ℕ) → LowPending (scanned g s v some)
  scanned-low some =
      scan_all-keeps g.rules v.starts v.rows s.set some LowPending (λ t u m row l. kind_low t u l) (beginning s v)
      (record { pending = begins; low = λ good. begins-low })
    where
      kind_low : (t : ℕ) (u : Pass) → LowPending u
          → LowPending (complete g.rules v.starts v.rows s.set t u.at.used (append (Evaluated t) u))
      kind_low t u l =
          let leaf : Pending g.rules v.starts (append (Evaluated t) u) = pending_append u l.pending (Evaluated t) in
          record {
            pending = pending_complete (append (Evaluated t) u) leaf v.rows s.set t u.at.used latest_set;
            low = λ good.
                let on : Good (append (Evaluated t) u) =
                complete_good g.rules v.starts v.rows s.set t u.at.used latest_set (append (Evaluated t) u) leaf.sound leaf.charted good in
                low-complete g.rules v.starts v.rows s.set t u.at.used latest_set (append (Evaluated t) u) (append-more (Evaluated t) u on)
                (pending_steady (append (Evaluated t) u) leaf)
                (low-append u l.pending.sound (l.low (append_good (Evaluated t) u on)) (Evaluated t));
          }

  sum_low : (u : Pass) → rests u ≡ false → LowPending u → LowPending (complete_sum g.rules v.starts v.rows u)
  unfolding complete_sum pop_sum
  sum_low u goes l = record {
    pending = pending_sum grounds u l.pending some;
    low = λ good.
        let on : Good popped =
        complete_good g.rules v.starts v.rows k x u.at.used charts.is_set popped steady.sound steady.charted good in
        let more : u.at.used < (append (sum_node g u) u).at.used = append-more (sum_node g u) u (sum_node_good g.rules k x u on) in
        low-complete g.rules v.starts v.rows k x u.at.used charts.is_set popped
        (omega (arith, then_steady.onward.more-units)) (steady_refl g.rules v.starts popped steady.sound steady.charted)
        (low-summands g.rules v.starts u k x (append (sum_node g u) u).at.queued (sum_node g u) (pending_steady u l.pending)
        (l.low (record { on = (not_resting u goes).0 }))).low;
  }
    where
      some : 0 < u.at.queued
      some = (not_resting u goes).1

      k : ℕ
      k = (greatest u).origin

      x : ℕ
      x = left_of g.rules (greatest u)

      popped : Pass
      popped = summed g.rules (greatest u).origin (left_of g.rules (greatest u)) u

      charts : Charts g.rules v.starts (greatest u)
      charts = greatest_charts g.rules v.starts u u some (pending_steady u l.pending)

      steady : Steady g.rules v.starts u popped
      steady = steady_summed g.rules v.starts u k x u (pending_steady u l.pending)

      then_steady : Steady g.rules v.starts (append (sum_node g u) u) popped
      then_steady =
          let node-steady : Steady g.rules v.starts u (append (sum_node g u) u) =
          steady_append g.rules v.starts u (sum_node g u) u (pending_steady u l.pending) in
          steady_pop g.rules v.starts (append (sum_node g u) u) k x (append (sum_node g u) u)
          (steady_refl g.rules v.starts (append (sum_node g u) u) node-steady.sound node-steady.charted)

  reached-low : {u : Pass} → Reached g s v kinds u → LowPending u
  reached-low Reached.kinds_scanned = scanned-low kinds
  reached-low (Reached.sum {u = u} reached goes) = sum_low u goes (reached-low reached)

  -- EACH NODE THAT IS DUE IS FIT.
  due-fit : {u : Pass} {n : Node} → Due g s v kinds u n → unfit u.at.used n ≡ false
  unfolding unfit pop_greatest
  due-fit (Due.leaf i there row) = refl
  due-fit (Due.sum {u = u} reached goes) =
      sum_is_fit g.rules u.at.used (greatest u).origin (left_of g.rules (greatest u)) u (reached-low reached).pending.sound
  due-fit (Due.product {u = u} n reached goes on) =
      let here : LowPending u = reached-low reached in
      let k : ℕ = (greatest u).origin in
      let x : ℕ = left_of g.rules (greatest u) in
      let l : LowSteady g.rules v.starts u (summands_on g u n) =
      low-summands g.rules v.starts u (greatest u).origin (left_of g.rules (greatest u)) n (sum_node g u) (pending_steady u here.pending)
      (here.low (record { on = (not_resting u goes).0 })) in
      product_is_fit g.rules (summands_on g u n) accepted.few_rules l.steady.sound l.steady.charted.rules l.low
      (sum_goes g.rules k x (summands_on g u n) on)

  -- ROOM ALONE: it is refused exactly where it does not fit.
  due-room : {u : Pass} {n : Node} → Due g s v kinds u n → u.at.stopped ≡ 0
      → ((append n u).at.stopped ≡ store_full) ↔ (length (usable u.units) < u.at.used + length (units_at u.at.used n))
  due-room {u} {n} due on = append-lacks u n on (due-fit due)

  due-lacks : {u : Pass} {n : Node} → Due g s v kinds u n → u.at.stopped ≡ 0 → (append n u).at.stopped ≡ store_full → Lacks g s v kinds
  due-lacks {u} {n} due on stopped = record { pass = u; node = n; due = due; on = on; full = (due-room due on).0 stopped }

  -- A step that is refused with 14 met such a node: that of a kind,
  kinds_lack : (n : ℕ) → n ≤ length kinds → (scanned g s v (take n kinds)).at.stopped ≡ store_full → Lacks g s v kinds
  unfolding scan_all append
  kinds_lack zero le full = absurd (omega arith)
  kinds_lack (suc n) le full =
      let before : (scanned g s v (take n kinds)).at.stopped ≡ store_full → Lacks g s v kinds = kinds_lack n (omega arith) in
      either_way (predicted v.rows s.set t)
      (λ row.
      let at_leaf : (append (Evaluated t) here).at.stopped ≡ store_full =
      complete-full g.rules v.starts v.rows s.set t here.at.used (append (Evaluated t) here)
      (subst (λ (u : Pass). u.at.stopped ≡ store_full) (next ∙ scan-used g.rules v.starts v.rows s.set t here row) full) in
      elim (ℕ_discrete here.at.stopped 0) [
        | yes on ↦ due-lacks (Due.leaf n le (holds_true (row_of row_words v.rows s.set) t row)) on at_leaf
        | no not ↦ before (subst (λ (u : Pass). u.at.stopped ≡ store_full) (stays here _ not) at_leaf)
      ])
      (λ off.
      before
      (subst (λ (u : Pass). u.at.stopped ≡ store_full) (next ∙ scan_passed g.rules v.starts v.rows s.set t here off) full))
    where
      t : ℕ
      t = get_or kinds n 0

      here : Pass
      here = scanned g s v (take n kinds)

      next : scanned g s v (take (suc n) kinds) ≡ scan g.rules v.starts v.rows s.set (get_or kinds n 0) (scanned g s v (take n kinds))
      next = scan-next g.rules v.starts v.rows s.set kinds n (beginning s v) le

  -- or that of a Sum or of one of its summands.
  sum-lacks : (u : Pass) → Reached g s v kinds u → rests u ≡ false → (complete_sum g.rules v.starts v.rows u).at.stopped ≡ store_full → Lacks g s v kinds
  unfolding complete_sum pop_sum next_summand pop_greatest
  sum-lacks u reached goes stopped =
      let k : ℕ = (greatest u).origin in
      let x : ℕ = left_of g.rules (greatest u) in
      let first : Pass = append (sum_node g u) u in
      let summed-full : (summed g.rules (greatest u).origin (left_of g.rules (greatest u)) u).at.stopped ≡ store_full =
      complete-full g.rules v.starts v.rows k x u.at.used (summed g.rules k x u) stopped in
      ⊎_elim
      (λ (on : (append (sum_node g u) u).at.stopped ≡ 0).
      let f : Refuses g.rules (greatest u).origin (left_of g.rules (greatest u)) (append (sum_node g u) u) =
      refuses g.rules k x first.at.queued first on summed-full in
      due-lacks (Due.product f.number reached goes f.goes) f.on f.stops)
      (λ (full : (append (sum_node g u) u).at.stopped ≡ store_full). due-lacks (Due.sum reached goes) (not_resting u goes).0 full)
      (append-ends (sum_node g u) u (not_resting u goes).0)

  -- A pass that the step comes to, and why it was refused, if with 14.
  record Reason (u : Pass) : Type 0 where
    pub reached : Reached g s v kinds u
    pub lacks : u.at.stopped ≡ store_full → Lacks g s v kinds

  step_lacks : (completed g s v kinds).at.stopped ≡ store_full → Lacks g s v kinds
  unfolding complete_all_sums
  step_lacks =
      (until-keeps rests (complete_sum g.rules v.starts v.rows) Reason
      (λ u goes reason. record { reached = Reached.sum reason.reached goes; lacks = sum-lacks u reason.reached goes })
      (length v.starts * length g.rules) (scanned g s v kinds)
      (record {
        reached = Reached.kinds_scanned;
        lacks = subst (λ l. (scanned g s v l).at.stopped ≡ store_full → Lacks g s v kinds) (take-length kinds) (kinds_lack (length kinds) (omega arith));
      })).lacks

  pub room-alone : RoomAlone g s v kinds
  room-alone = record { fit = due-fit; room = due-room; lacks = step_lacks }
