-- One completion as a turn of the forest's theory: what it calls for, by its loops.
use Rattle.std.proofs.Common.{◌≡◌, refl, sym, ◌∙◌, ap, subst, true, List, [], ◌∷◌, ⊎_elim, ℕ, ◌+◌, ◌-◌, ◌≤◌, ◌<◌, arith, get_or, eqb, eqb-true, eq-eqb}
use mathlib.Core.List.Memᴰ.{eq_of_singleton as only}
use mathlib.Core.List.Memᴰ.{head as here}
use mathlib.Core.List.{Memᴰ as Member}
use Rattle.laws.specs.Bits.{row_of}
use Rattle.laws.proofs.Bits.{holds_true, true_holds}
use Rattle.laws.proofs.Tests.{both_true}
use Rattle.bits.specs.Width.{row_words}
use Rattle.item.specs.Item.{Item, item_at}
use Rattle.binary_heap.specs.Entry.{Entry}
use Rattle.grammar.specs.Rules.{Grammar, Rule, none, no_rule, rule_count}
use Rattle.parse.specs.declared.State.{State}
use Rattle.parse.specs.Words.{Words, start_of}
use Rattle.parse.specs.WellFormed.{second_of}
use Rattle.completion.specs.Pass.{Pass}
use Rattle.completion.specs.Complete.{predicted, waits, complete}
use Rattle.completion.specs.inner.Ready.{IsSet, PassFits, Charted}
use Rattle.completion.proofs.Onward.{Onward, onward_trans}
use Rattle.completion.proofs.Charting.{steady_refl, steady_complete}
use Rattle.earley.proofs.Sieves.{any}
use Rattle.earley.proofs.Charts.{Chart}
use Rattle.demands.proofs.Chart.{chart_of}
use Rattle.forest.proofs.Tied.{Turn}
use Rattle.forest.proofs.Entries.{ones, Pair, Items, Order, terms, Calling, medial_asker, lone_asker}
use Rattle.forest.proofs.Loops.{passing}
use Rattle.forest.proofs.Calls.{Begins, StoredAt, Looped, calling_all}
use Rattle.planting.proofs.Pushing.{Good, is_second, is_alone, calls, StandsAt, stands_onward, complete-stands}
use Rattle.planting.proofs.Places.{items_of}

-- The turn of a pair: with the handle of its node and the entries popped for it, from the pass that completes it.
abbrev pub turn_of : List Rule → Words → ℕ → ℕ → ℕ → List Entry → Pass → Turn Entry Pair
turn_of rs v k x link products u =
    record {
      pair = record { set = k; symbol = x };
      handle = link;
      products = products;
      calls = calls rs v.starts v.rows k x link u;
    }

module _ (g : Grammar) (st : State) (v : Words) (k x link : ℕ) (set : IsSet v.starts k) (products : List Entry) (u end : Pass) (sound : PassFits u)
    (charted : Charted g.rules v.starts u) (old : st.items ≤ u.at.items) (good : Good (complete g.rules v.starts v.rows k x link u))
    (onward : Onward (complete g.rules v.starts v.rows k x link u) end) (small : link < ones) where
  abbrev rs : List Rule
  rs = g.rules

  through : Onward u end
  through =
      onward_trans (steady_complete rs v.starts u v.rows k x link set u (steady_refl rs v.starts u sound charted)).onward onward

  same_second : (i : ℕ) → i < start_of v (k + 1) - start_of v k
      → second_of rs (item_at end.items (start_of v k + i)) ≡ second_of rs (item_at u.items (start_of v k + i))
  same_second i less = ap (second_of rs) (through.same-items (start_of v k + i) (omega (arith, charted.starts_fit (k + 1))))

  alone-begins : (r : ℕ) → is_alone rs v.rows k x r ≡ true → r < rule_count g → Begins g (chart_of st v) k x r
  alone-begins r passes is_rule =
      let both = both_true (eqb (get_or rs r no_rule).second none) (waits rs v.rows k x r) passes in
      let wait = both_true (eqb (get_or rs r no_rule).first x) (predicted v.rows k (get_or rs r no_rule).left) both.1 in
      record {
        is_rule = is_rule;
        first = eqb-true (get_or rs r no_rule).first x wait.0;
        second = eqb-true (get_or rs r no_rule).second none both.0;
        left = holds_true (row_of row_words v.rows k) (get_or rs r no_rule).left wait.1;
        passed = any;
      }

  begins-alone : (r : ℕ) → Begins g (chart_of st v) k x r → is_alone rs v.rows k x r ≡ true
  begins-alone r begins =
      rw (
        eq-eqb (get_or rs r no_rule).second none begins.second,
        eq-eqb (get_or rs r no_rule).first x begins.first,
        true_holds (row_of row_words v.rows k) (get_or rs r no_rule).left begins.left,
      ) refl

  stored_at : predicted v.rows k x ≡ true → (r : ℕ) → r < rule_count g → is_alone rs v.rows k x r ≡ true
      → StoredAt (items_of st v end) k r link (u.at.items + passing (is_alone rs v.rows k x) r)
  stored_at row r is_rule passes =
      let p : ℕ = u.at.items + passing (is_alone rs v.rows k x) r in
      let stands : StandsAt k r link (u.at.items + passing (is_alone rs v.rows k x) r) end =
      stands_onward onward (complete-stands rs v.starts v.rows k x link set u sound charted good row r is_rule passes) in
      record {
        new = record { from = omega (arith, old); up_to = stands.there };
        origin = ap (λ (i : Item). i.origin) stands.is;
        rule = ap (λ (i : Item). i.rule) stands.is;
        handle = ap (λ (i : Item). i.handle) stands.is;
      }

  -- COMPLETING A PAIR IS A TURN by its loops.
  pub turn_looped : Looped g (chart_of st v) (items_of st v end) (turn_of g.rules v k x link products u)
  turn_looped =
      record {
        from = start_of v k;
        number = start_of v (k + 1) - start_of v k;
        base = u.at.items;
        row = predicted v.rows k x;
        second = is_second rs v.starts k x u;
        begins = is_alone rs v.rows k x;
        are = refl;
        small = small;
        in_row = λ row. holds_true (row_of row_words v.rows k) x row;
        row_in = λ row. true_holds (row_of row_words v.rows k) x row;
        inside = λ p i. record { from_on = i.from; up_to = omega (arith, i.from, i.up_to) };
        place = λ i less. record { from = omega arith; up_to = omega arith };
        is_second_lem = λ i less passes. same_second i less ∙ eqb-true (second_of rs (item_at u.items (start_of v k + i))) x passes;
        second_passes = λ i less passes. any;
        second_is = λ i less second passed. eq-eqb (second_of rs (item_at u.items (start_of v k + i))) x (sym (same_second i less) ∙ second);
        does_begin = alone-begins;
        begin_does = begins-alone;
        stored = stored_at;
      }

-- What a turn calls for names its handle.
pub turn-asked : {g : Grammar} {c : Chart} {is : Items} {t : Turn Entry Pair} (o : Order) → Looped g c is t → (e : Entry) → Member e t.calls
    → (terms g is o).asker_of e ≡ t.handle
turn-asked {g} {c} {is} {t} o looped e m =
    let calling : Calling g c is (t ∷ []) = calling_all (λ u n. subst (Looped g c is) (sym (only n)) looped) in
    ⊎_elim (medial_asker is g c o looped.small) (lone_asker is g c o) (calling.only t e (here refl) m)
