-- What a sum writes: the Sum with the number of its summands, and behind it, in the order of the pops, a Product for each.
use Rattle.std.proofs.Common.{◌≡◌, refl, sym, ◌∙◌, ap, subst, Bool, true, false, List, [], ◌∷◌, map, ℕ, zero, suc, ◌+◌, ◌≤◌, ◌<◌, arith, length, leb, eqb, eqb-true, eq-eqb, ne_eqb, Some, None}
use mathlib.Core.List.Memᴰ.{head as here}
use mathlib.Core.List.Memᴰ.{tail as there}
use mathlib.Core.List.{Memᴰ as Member}
use native.Mathlib.Decide.{dec_lt, ℕ_discrete}
use lib.ListN.{get_or-eq_default}
use Rattle.laws.specs.Counts.{count}
use Rattle.laws.specs.Turns.{until}
use Rattle.laws.proofs.Tests.{either_way, both_true}
use Rattle.laws.proofs.Turns.{until-keeps}
use Rattle.item.specs.Item.{Item, item_at, rule_at, handle_at}
use Rattle.binary_heap.specs.Entry.{Entry}
use Rattle.grammar.specs.Rules.{Rule}
use Rattle.parse.specs.WellFormed.{left_of}
use Rattle.node.specs.Choice.{pick}
use Rattle.node.specs.Rows.{units_at, all_ones}
use Rattle.node.specs.Reading.{stand, long_right}
use Rattle.node.specs.Answers.{answer, done, position, values_of}
use Rattle.node.specs.Writing.{usable, usable_units, place, write_units, write_at}
use Rattle.node.specs.declared.Node.{Node}
use Rattle.node.specs.declared.Node.TheVariants.{Sum, Product}
use Rattle.node.proofs.RoundTrip.{Wrote, did_write, written_stands}
use Rattle.node.proofs.Runs.{length-usable}
use Rattle.node.proofs.Puts.{usable-unit}
use Rattle.node.proofs.InOrder.{WrittenFrom, Same}
use Rattle.completion.specs.Pass.{Pass, written, append}
use Rattle.completion.specs.Sums.{greatest, is_of, summands, product_node, sum_ends, pop_greatest, next_summand, pop_sum, summed}
use Rattle.completion.specs.inner.Pending.{Grounds, Pending}
use Rattle.completion.proofs.Entries.{entries_of, append-items}
use Rattle.completion.proofs.Pushes.{goes_on}
use Rattle.completion.proofs.Onward.{Onward}
use Rattle.completion.proofs.Summing.{next-items}
use Rattle.completion.proofs.Turning.{summed-words}
use Rattle.completion.proofs.Once.{beneath_other}
use Rattle.forest.proofs.Entries.{Items, product_of, product_lone, product_two}
use Rattle.forest.proofs.Counted.{count_every, count_none}
use Rattle.forest.proofs.Loops.{popped_by}
use Rattle.forest.proofs.Units.{stand-keeps, spell}
use Rattle.planting.proofs.Falling.{rest_beneath}
use Rattle.planting.proofs.Popping.{top_of, products_for, sum-counts, products_owned}
use Rattle.planting.proofs.Pushing.{Good, then_good}

-- What the writer did where a pass that goes on wrote units and was not refused.
wrote : (s : Pass) (us : List ℕ)
    → Good (written s (write_units s.units s.at.used us).store (values_of (write_units s.units s.at.used us).answer))
    → write_units s.units s.at.used us ≡ record {
      answer = answer done (position (written s (write_units s.units s.at.used us).store (values_of (write_units s.units s.at.used us).answer)).at.used);
      store = (written s (write_units s.units s.at.used us).store (values_of (write_units s.units s.at.used us).answer)).units;
    }
unfolding written write_units place
wrote s [] good = absurd (omega (arith, good.on))
wrote s (u ∷ us) good = by (leb (s.at.used + length (u ∷ us)) (length (usable s.units))) refl good
  where
    by : (b : Bool) → leb (s.at.used + length (u ∷ us)) (length (usable s.units)) ≡ b
        → Good (written s (place s.units s.at.used (u ∷ us)).store (values_of (place s.units s.at.used (u ∷ us)).answer))
        → place s.units s.at.used (u ∷ us) ≡ record {
          answer = answer done (position (written s (place s.units s.at.used (u ∷ us)).store (values_of (place s.units s.at.used (u ∷ us)).answer)).at.used);
          store = (written s (place s.units s.at.used (u ∷ us)).store (values_of (place s.units s.at.used (u ∷ us)).answer)).units;
        }
    by true e good = rw (place, e) refl
    by false e good = absurd (let stopped : ◌≡◌ {A = ℕ} 14 0 = rw (place, e) at good.on in omega arith)

-- A node that was written stands behind the used units.
pub append-wrote : (n : Node) (s : Pass) → Good (append n s)
    → write_at s.units s.at.used n ≡ record { answer = answer done (position (append n s).at.used); store = (append n s).units }
unfolding append
append-wrote n s good =
    let before : Good s = then_good s _ good in
    let is : append n s ≡ written s (write_at s.units s.at.used n).store (values_of (write_at s.units s.at.used n).answer) =
    goes_on s _ before.on in
    subst (λ (t : Pass). write_at s.units s.at.used n ≡ record { answer = answer done (position t.at.used); store = t.units }) (sym is)
    (wrote s (units_at s.at.used n) (subst Good is good))

pub append_good : (n : Node) (s : Pass) → Good (append n s) → Good s
unfolding append
append_good n s good = then_good s _ good

-- Where a node was written, its handle is small.
pub append_small : (n : Node) (s : Pass) → Good (append n s) → s.at.used < all_ones
append_small n s good =
    let w : Wrote s.units s.at.used (units_at s.at.used n) (append n s).at.used (append n s).units =
    did_write s.units s.at.used (units_at s.at.used n) (append n s).at.used (append n s).units (append-wrote n s good) in
    omega (arith, w.fits)

pub append-stands : (n : Node) (s : Pass) → Good (append n s) → stand (usable (append n s).units) s.at.used (units_at s.at.used n) ≡ true
append-stands n s good = written_stands s.units s.at.used n (append n s).at.used (append n s).units (append-wrote n s good)

-- What stood before the used units of a pass stands in every pass behind it.
onward_same : {s t : Pass} → Onward s t → Same s.at.used (usable s.units) (usable t.units)
onward_same {s} {t} onward =
    record {
      size = omega (arith, length-usable s.units, length-usable t.units, onward.unit-words);
      below = λ i less.
          elim (dec_lt i usable_units) [
            | yes few ↦ usable-unit t.units i few ∙ onward.same_units i less ∙ sym (usable-unit s.units i few)
            | no many ↦
                (let past-s : length (usable s.units) ≤ i = omega (arith, length-usable s.units) in
                let past-t : length (usable t.units) ≤ i = omega (arith, length-usable t.units) in
                get_or-eq_default (usable t.units) 0 past-t ∙ sym (get_or-eq_default (usable s.units) 0 past-s))
          ];
    }

pub onward_stands : {s t : Pass} → Onward s t → (h : ℕ) (n : Node) → stand (usable s.units) h (units_at h n) ≡ true
    → h + length (units_at h n) ≤ s.at.used → stand (usable t.units) h (units_at h n) ≡ true
onward_stands {s} {t} onward h n stands before = stand-keeps (usable s.units) (usable t.units) h (units_at h n) (onward_same onward) stands before

pub append-behind : (n : Node) (s : Pass) → Good (append n s) → (append n s).at.used ≡ s.at.used + length (units_at s.at.used n)
append-behind n s good =
    (did_write s.units s.at.used (units_at s.at.used n) (append n s).at.used (append n s).units (append-wrote n s good)).behind

-- The units used are more by those of the node.
pub append-more : (n : Node) (s : Pass) → Good (append n s) → s.at.used < (append n s).at.used
append-more n s good =
    let w : Wrote s.units s.at.used (units_at s.at.used n) (append n s).at.used (append n s).units =
    did_write s.units s.at.used (units_at s.at.used n) (append n s).at.used (append n s).units (append-wrote n s good) in
    omega (arith, w.some, w.behind)

-- A summand's Product is written when its entry is popped.
next_good : (s : Pass) → Good (next_summand s) → Good s
unfolding next_summand pop_greatest
next_good s good = record { on = (append_good (product_node s.items (top_of s)) (pop_greatest s) good).on }

next-wrote : (s : Pass) → Good (next_summand s)
    → write_at s.units s.at.used (product_node s.items (top_of s)) ≡ record { answer = answer done (position (next_summand s).at.used); store = (next_summand s).units }
unfolding next_summand pop_greatest
next-wrote s good = append-wrote (product_node s.items (top_of s)) (pop_greatest s) good

module _ (rs : List Rule) (k x : ℕ) where
  until_good : (n : ℕ) (s : Pass) → Good (until n (sum_ends rs k x) next_summand s) → Good s
  until_good n s = until-keeps (sum_ends rs k x) next_summand (λ u. Good u → Good s) (λ u goes back good. back (next_good u good)) n s (λ good. good)

  -- So the Products are written one behind another, in the order of the pops.
  popped-written : (n : ℕ) (s : Pass) → Good (until n (sum_ends rs k x) next_summand s)
      → WrittenFrom s.units s.at.used (map (product_node s.items) (popped_by n (sum_ends rs k x) next_summand top_of s))
      (until n (sum_ends rs k x) next_summand s).units (until n (sum_ends rs k x) next_summand s).at.used
  unfolding until popped_by
  popped-written zero s good = WrittenFrom.none
  popped-written (suc n) s good =
      let further : Good (until n (sum_ends rs k x) next_summand (next_summand s))
      → WrittenFrom (next_summand s).units (next_summand s).at.used
      (map (product_node (next_summand s).items) (popped_by n (sum_ends rs k x) next_summand top_of (next_summand s)))
      (until n (sum_ends rs k x) next_summand (next_summand s)).units (until n (sum_ends rs k x) next_summand (next_summand s)).at.used =
      popped-written n (next_summand s) in
      by (sum_ends rs k x s) refl further good
    where
      by : (b : Bool) → sum_ends rs k x s ≡ b
          → (Good (until n (sum_ends rs k x) next_summand (next_summand s))
          → WrittenFrom (next_summand s).units (next_summand s).at.used
          (map (product_node (next_summand s).items) (popped_by n (sum_ends rs k x) next_summand top_of (next_summand s)))
          (until n (sum_ends rs k x) next_summand (next_summand s)).units (until n (sum_ends rs k x) next_summand (next_summand s)).at.used)
          → Good (elim b as (λ (t : Bool). Pass) [ true ↦ s | false ↦ until n (sum_ends rs k x) next_summand (next_summand s) ])
          → WrittenFrom s.units s.at.used
          (map (product_node s.items) (elim b as (λ (t : Bool). List Entry) [ true ↦ [] | false ↦ top_of s ∷ popped_by n (sum_ends rs k x) next_summand top_of (next_summand s) ]))
          (elim b as (λ (t : Bool). Pass) [ true ↦ s | false ↦ until n (sum_ends rs k x) next_summand (next_summand s) ]).units
          (elim b as (λ (t : Bool). Pass) [ true ↦ s | false ↦ until n (sum_ends rs k x) next_summand (next_summand s) ]).at.used
      by true e further good = WrittenFrom.none
      by false e further good =
          WrittenFrom.more (next-wrote s (until_good n (next_summand s) good))
          (subst
          (λ (w : List ℕ).
          WrittenFrom (next_summand s).units (next_summand s).at.used (map (product_node w) (popped_by n (sum_ends rs k x) next_summand top_of (next_summand s)))
          (until n (sum_ends rs k x) next_summand (next_summand s)).units (until n (sum_ends rs k x) next_summand (next_summand s)).at.used)
          (next-items s) (further good))

  -- A SUM IS WRITTEN: the Sum with its number of summands, then their Products.
  pub sum-written : (s : Pass) → Good (summed rs k x s)
      → WrittenFrom s.units s.at.used (Sum (summands rs k x s) x ∷ map (product_node s.items) (products_for rs k x s)) (summed rs k x s).units
      (summed rs k x s).at.used
  unfolding pop_sum
  sum-written s good =
      let n : Node = Sum (summands rs k x s) x in
      WrittenFrom.more (append-wrote n s (until_good (append n s).at.queued (append n s) good))
      (subst
      (λ (w : List ℕ).
      WrittenFrom (append n s).units (append n s).at.used (map (product_node w) (products_for rs k x s)) (summed rs k x s).units
      (summed rs k x s).at.used)
      (append-items n s) (popped-written (append n s).at.queued (append n s) good))

  pub summed_small : (s : Pass) → Good (summed rs k x s) → s.at.used < all_ones
  unfolding pop_sum
  summed_small s good =
      let n : Node = Sum (summands rs k x s) x in
      append_small n s (until_good (append n s).at.queued (append n s) good)

  pub sum_node_good : (s : Pass) → Good (summed rs k x s) → Good (append (Sum (summands rs k x s) x) s)
  unfolding pop_sum
  sum_node_good s good = until_good (append (Sum (summands rs k x s) x) s).at.queued (append (Sum (summands rs k x s) x) s) good

-- COUNTING BEFORE WRITING: the number in the Sum is the number of its Products.
pub summands-length : {rs : List Rule} {starts rows : List ℕ} → Grounds rs starts rows → (s : Pass) → Pending rs starts s → 0 < s.at.queued
    → summands rs (greatest s).origin (left_of rs (greatest s)) s ≡ length (products_for rs (greatest s).origin (left_of rs (greatest s)) s)
summands-length {rs} grounds s pending some =
    let k : ℕ = (greatest s).origin in
    let x : ℕ = left_of rs (greatest s) in
    let test : Entry → Bool = λ e. is_of rs k x (item_at s.items e.place) in
    let all : count test (products_for rs k x s) ≡ length (products_for rs k x s) =
    count_every test (products_for rs k x s)
    (λ e m.
    let own = products_owned rs k x s pending.sound e m in
    rw (eq-eqb (item_at s.items e.place).origin k own.origin, eq-eqb (left_of rs (item_at s.items e.place)) x own.left) refl) in
    let gone : count test (entries_of (summed rs k x s)) ≡ 0 =
    count_none test (entries_of (summed rs k x s))
    (λ e m.
    either_way (test e)
    (λ is.
    let both = both_true (eqb (item_at s.items e.place).origin k) (eqb (left_of rs (item_at s.items e.place)) x) is in
    let item : item_at (summed rs k x s).items e.place ≡ item_at s.items e.place =
    ap (λ (w : List ℕ). item_at w e.place) (summed-words rs k x s) in
    let set : (greatest s).origin ≡ (item_at (summed rs k x s).items e.place).origin =
    sym (ap (λ (i : Item). i.origin) item ∙ eqb-true (item_at s.items e.place).origin k both.0) in
    let symbol : left_of rs (greatest s) ≡ left_of rs (item_at (summed rs k x s).items e.place) =
    sym (ap (left_of rs) item ∙ eqb-true (left_of rs (item_at s.items e.place)) x both.1) in
    absurd (beneath_other (rest_beneath grounds s pending some e m) (λ i. record { set = set i; symbol = symbol i })))
    (λ other. other)) in
    omega (arith, sum-counts rs k x s pending.sound test, all, gone)

-- The node of a summand spells its product.
pub product-spelt : (is : Items) (items : List ℕ) (e : Entry) → is.rule e.place ≡ rule_at items e.place → is.handle e.place ≡ handle_at items e.place
    → product_node items e ≡ spell (product_of is e)
unfolding long_right
product-spelt is items e rule handle =
    elim (ℕ_discrete e.right all_ones) [
      | yes ones ↦
          ap (λ b. Product (rule_at items e.place) (handle_at items e.place) (pick b None (Some e.right))) (eq-eqb e.right all_ones ones)
          ∙ (λ i. Product (sym rule i) (sym handle i) None)
          ∙ ap spell (sym (product_lone is e ones))
      | no two ↦
          ap (λ b. Product (rule_at items e.place) (handle_at items e.place) (pick b None (Some e.right))) (ne_eqb e.right all_ones two)
          ∙ (λ i. Product (sym rule i) (sym handle i) (Some e.right))
          ∙ ap spell (sym (product_two is e two))
    ]

-- So the nodes of summands are those of their products.
pub all-spelt : (is : Items) (items : List ℕ) (l : List Entry)
    → ((e : Entry) → Member e l → is.rule e.place ≡ rule_at items e.place)
    → ((e : Entry) → Member e l → is.handle e.place ≡ handle_at items e.place)
    → map (product_node items) l ≡ map spell (map (product_of is) l)
all-spelt is items [] rules handles = refl
all-spelt is items (e ∷ l) rules handles =
    ap (λ n. n ∷ map (product_node items) l) (product-spelt is items e (rules e (here refl)) (handles e (here refl)))
    ∙ ap (λ m. spell (product_of is e) ∷ m) (all-spelt is items l (λ e m. rules e (there m)) (λ e m. handles e (there m)))
