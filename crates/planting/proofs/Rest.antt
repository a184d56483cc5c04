-- A position's pass that is not refused comes to rest: its turns, and what they leave.
use Rattle.std.proofs.Common.{◌≡◌, refl, sym, ap, ◌∙◌, subst, true, List, [], ℕ, zero, suc, ◌*◌, ◌≤◌, ◌<◌, arith, length, get_or, take, drop, length-take}
use mathlib.Core.List.Memᴰ.{head as here}
use mathlib.Core.List.Memᴰ.{tail as there}
use mathlib.Core.List.{Memᴰ as Member}
use native.Mathlib.Decide.{ℕ_discrete}
use lib.Seq.{take-length}
use Rattle.laws.specs.Bits.{row_of}
use Rattle.laws.proofs.Bits.{true_holds}
use Rattle.laws.proofs.Tests.{either_way}
use Rattle.bits.specs.Width.{row_words}
use Rattle.item.specs.Item.{Item, item_at}
use Rattle.binary_heap.specs.Entry.{Entry}
use Rattle.grammar.specs.Rules.{Grammar}
use Rattle.parse.specs.declared.State.{State}
use Rattle.parse.specs.Words.{Words}
use Rattle.parse.proofs.Heads.{meets_below}
use Rattle.node.specs.declared.Node.TheVariants.{Evaluated}
use Rattle.completion.specs.Pass.{Pass, append}
use Rattle.completion.specs.Complete.{predicted, complete}
use Rattle.completion.specs.Scan.{scan, scan_all}
use Rattle.completion.specs.Sums.{complete_all_sums}
use Rattle.completion.specs.inner.Ready.{IsSet}
use Rattle.completion.specs.inner.Pending.{Grounds, Pending}
use Rattle.completion.proofs.Entries.{entries_of}
use Rattle.completion.proofs.Turning.{rest-empty}
use Rattle.completion.proofs.Onward.{Onward, onward_trans}
use Rattle.completion.proofs.Charting.{steady_all_sums}
use Rattle.completion.proofs.Pending.{pending_steady, all-sums-rest}
use Rattle.completion.proofs.Scanning.{Scannable, steady_scan_all, pending_scan_all}
use Rattle.completion.proofs.Once.{Beneath, pair_of}
use Rattle.completion.proofs.Refusals.{all-sums-stopped}
use Rattle.completion.proofs.Beginning.{beginning, accepted_grounds, begins_pending, is_set}
use Rattle.completion.proofs.Passed.{Passed, position_passed}
use Rattle.demands.specs.Steps.{scanned, completed}
use Rattle.demands.proofs.Positions.{position-below, position_scannable}
use Rattle.demands.proofs.Chart.{chart_of}
use Rattle.earley.proofs.Steps as steps
use Rattle.forest.proofs.Forests.{Completed}
use Rattle.forest.proofs.Tied.{Turn, Tied, Run, run_tied}
use Rattle.forest.proofs.Entries.{Pair, Items, terms, Calling, Charted, Rising}
use Rattle.forest.proofs.Sums.{handles}
use Rattle.forest.proofs.Passing.{closed-pass}
use Rattle.forest.proofs.Calls.{calling_all}
use Rattle.forest.proofs.Planted.{handles_from}
use Rattle.planting.specs.Unrefused.{Unrefused}
use Rattle.planting.specs.Pops.{Reached}
use Rattle.planting.proofs.Falling.{beneath_order, scan_beneath}
use Rattle.planting.proofs.Pushing.{Good}
use Rattle.planting.proofs.Places.{items_of, in_items, same_item, items-charted}
use Rattle.planting.proofs.Scans.{scan-used, scan_passed, scan-next, scan_others, scan_all_good}
use Rattle.planting.proofs.Turns.{SoFar, Reading, none_read, passed_over, kind_read, sums_so_far}

-- A kind of a position stands at a place.
record Placed (t : ℕ) (kinds : List ℕ) : Type 0 where
  pub place : ℕ
  pub inside : place < length kinds
  pub is : get_or kinds place 0 ≡ t

member_placed : {t : ℕ} {kinds : List ℕ} → Member t kinds → Placed t kinds
member_placed (here is) = record { place = 0; inside = omega arith; is = sym is }
member_placed (there m) = let p = member_placed m in record { place = suc p.place; inside = omega (arith, p.inside); is = p.is }

module _ {g : Grammar} {st : State} {v : Words} {kinds : List ℕ} (a : Unrefused g st v kinds) where
  abbrev end : Pass
  end = completed g st v kinds

  abbrev is : Items
  is = items_of st v end

  pub grounds : Grounds g.rules v.starts v.rows
  grounds = accepted_grounds g a.accepted v.starts v.rows a.within.rowed

  pub tokens : steps.Kinds g kinds
  tokens = record { tokens = position-below g.tokens kinds a.is_position_lem }

  scannable : Scannable g.rules kinds
  scannable = position_scannable g a.accepted kinds a.is_position_lem

  pub passed : Passed g.rules v.starts st.set (beginning st v) end
  passed = position_passed g a.accepted a.well a.within.few_items a.within.few_entries a.within.rowed kinds scannable

  begins : Pending g.rules v.starts (beginning st v)
  begins = begins_pending a.well a.accepted.few_rules a.within.few_items a.within.few_entries a.within.rowed

  latest_set : IsSet v.starts st.set
  latest_set = is_set a.well a.accepted.few_rules a.within.few_items a.within.few_entries a.within.rowed st.set (omega arith)

  -- The pass behind all kinds: it was not refused, and the sums go on from it.
  abbrev kinds_scanned : Pass
  kinds_scanned = scanned g st v kinds

  scanned_pending : (some : List ℕ) → Pending g.rules v.starts (scanned g st v some)
  scanned_pending some = pending_scan_all grounds latest_set some (beginning st v) begins

  scanned_good : Good kinds_scanned
  scanned_good =
      elim (ℕ_discrete kinds_scanned.at.stopped 0) [
        | yes e ↦ record { on = e }
        | no not ↦ subst Good (all-sums-stopped g.rules v.starts v.rows kinds_scanned not) (record { on = a.on })
      ]

  scanned_onward : Onward kinds_scanned end
  scanned_onward =
      (steady_all_sums g.rules v.starts kinds_scanned v.rows kinds_scanned (pending_steady kinds_scanned (scanned_pending kinds))).onward

  -- The pass behind the first `n` kinds: the others go on from it, and it was not refused either.
  abbrev behind : ℕ → Pass
  behind n = scanned g st v (take n kinds)

  behind_good : (n : ℕ) → Good (behind n)
  behind_good n =
      let pending : Pending g.rules v.starts (behind n) = scanned_pending (take n kinds) in
      scan_all_good g.rules v.starts v.rows st.set latest_set (drop n kinds) (behind n) pending.sound pending.charted
      (subst Good (sym (scan_others g.rules v.starts v.rows st.set kinds n (beginning st v))) scanned_good)

  behind_onward : (n : ℕ) → Onward (behind n) end
  behind_onward n =
      onward_trans
      (subst (Onward (behind n)) (scan_others g.rules v.starts v.rows st.set kinds n (beginning st v))
      (steady_scan_all g.rules v.starts v.rows st.set (behind n) latest_set (drop n kinds) (behind n)
      (pending_steady (behind n) (scanned_pending (take n kinds)))).onward)
      scanned_onward

  -- THE KINDS, one after another.
  reading : (n : ℕ) → n ≤ length kinds → Reading a.accepted st v kinds grounds end n (behind n)
  unfolding scan_all
  reading zero le = none_read a.accepted st v kinds grounds end
  reading (suc n) le =
      let so_far : Reading a.accepted st v kinds grounds end n (behind n) = reading n (omega arith) in
      either_way (predicted v.rows st.set (get_or kinds n 0)) (λ row. used row so_far)
      (λ off.
      subst (Reading a.accepted st v kinds grounds end (suc n)) (sym (next ∙ scan_passed g.rules v.starts v.rows st.set (get_or kinds n 0) (behind n) off))
      (passed_over a.accepted st v kinds grounds end n le (behind n) off so_far))
    where
      next : behind (suc n) ≡ scan g.rules v.starts v.rows st.set (get_or kinds n 0) (behind n)
      next = scan-next g.rules v.starts v.rows st.set kinds n (beginning st v) le

      used : predicted v.rows st.set (get_or kinds n 0) ≡ true → Reading a.accepted st v kinds grounds end n (behind n)
          → Reading a.accepted st v kinds grounds end (suc n) (behind (suc n))
      used row so_far =
          let t : ℕ = get_or kinds n 0 in
          let same : behind (suc n) ≡ complete g.rules v.starts v.rows st.set t (behind n).at.used (append (Evaluated t) (behind n)) =
          next ∙ scan-used g.rules v.starts v.rows st.set t (behind n) row in
          subst (Reading a.accepted st v kinds grounds end (suc n)) (sym same)
          (kind_read a.accepted st v kinds grounds end latest_set scannable tokens n le (behind n)
          (pending_steady (behind n) (scanned_pending (take n kinds))) row so_far (subst Good same (behind_good (suc n)))
          (subst (λ (u : Pass). Onward u end) same (behind_onward (suc n)))
          (λ x leaf.
          subst (λ (u : Pass). (e : Entry) → Member e (entries_of u)
          → Beneath g.rules (record { set = st.set; symbol = x }) (pair_of g.rules (item_at u.items e.place))) same
          (scan_beneath grounds (beginning st v) begins st.set latest_set refl (take (suc n) kinds) x leaf)))

  -- THE TURNS OF THE PASS.
  pub so_far : SoFar a.accepted st v kinds grounds end (length kinds) end
  unfolding complete_all_sums
  so_far =
      sums_so_far a.accepted st v kinds grounds end (record { on = a.on }) (length kinds) (length v.starts * length g.rules) kinds_scanned
      (scanned_pending kinds) Reached.kinds_scanned refl
      (subst (SoFar a.accepted st v kinds grounds end (length kinds)) (ap (scanned g st v) (take-length kinds)) (reading (length kinds) (omega arith)).so_far)

  abbrev pub past : List (Turn Entry Pair)
  past = so_far.past

  -- The queue is empty: the pass is at rest,
  none_left : entries_of end ≡ []
  none_left = ap (λ n. take n end.queue) (rest-empty end (all-sums-rest grounds kinds_scanned (scanned_pending kinds)) a.on)

  pub run : Run (terms g is (beneath_order g.rules)) past []
  run = subst (Run (terms g is (beneath_order g.rules)) past) none_left so_far.run

  abbrev pub tied : Tied (terms g is (beneath_order g.rules)) past []
  tied = run_tied (terms g is (beneath_order g.rules)) run

  pub charted : Charted g (chart_of st v) is
  charted = items-charted a.accepted a.well a.within.few_items a.within.few_entries a.within.rowed end passed

  pub calling : Calling g (chart_of st v) is past
  calling = calling_all so_far.looped

  -- and handles rise: those of the sets lie before the units that were used, and those of the pass behind.
  pub rising : Rising is past
  rising =
      record {
        used = st.used;
        old = λ {s} {p} i.
            let there : p < st.items = in_items a.accepted a.well a.within.few_items a.within.few_entries a.within.rowed s p i in
            let same : item_at end.items p ≡ item_at v.items p =
            same_item a.accepted a.well a.within.few_items a.within.few_entries a.within.rowed end passed s p i in
            omega (
              arith,
              meets_below (a.well.handles p there),
              length-take st.used v.store,
              ap (λ (j : Item). j.handle) same,
            );
        from = handles_from so_far.writing;
        small = λ t m. (so_far.looped t m).small;
      }

  -- Each kind that the latest row has was read,
  pub kinds_read : (t : ℕ) → Member t kinds → (chart_of st v).row st.set t
      → Completed (handles g (chart_of st v) is (beneath_order g.rules) charted tied) st.set t
  kinds_read t m row =
      let p : Placed t kinds = member_placed m in
      let in_row : predicted v.rows st.set (get_or kinds p.place 0) ≡ true =
      ap (predicted v.rows st.set) p.is ∙ true_holds (row_of row_words v.rows st.set) t row in
      let l = so_far.leaves p.place p.inside in_row in
      record { handle = l.turn.handle; linked = record { turn = l.turn; member = l.member; set = l.set; symbol = l.symbol ∙ p.is; handle = refl } }

  -- and what was completed is what the rules of completion give.
  pub pass : steps.Pass g (chart_of st v) kinds (Completed (handles g (chart_of st v) is (beneath_order g.rules) charted tied))
  pass = closed-pass g (chart_of st v) is (beneath_order g.rules) charted tied calling kinds so_far.begun kinds_read
