-- THE LAW THAT THE TREES NEED holds of every step that was not refused.
use Rattle.std.proofs.Common.{◌≡◌, refl, sym, ◌∙◌, ap, subst, subst₂, Bool, true, false, not, ◌||◌, List, [], ◌∷◌, map, ◌↔◌, ℕ, zero, suc, ◌-◌, ◌≤◌, arith, length, get_or, eqb, eq-eqb, ne_eqb}
use mathlib.Core.List.Memᴰ.{head as here}
use mathlib.Core.List.Memᴰ.{tail as there}
use mathlib.Core.List.{Memᴰ as Member}
use native.Mathlib.Decide.{ℕ_discrete}
use lib.ListN.{length-map}
use Rattle.laws.specs.Bits.{row_of}
use Rattle.laws.proofs.Bits.{true_holds}
use Rattle.bits.specs.Width.{row_words}
use Rattle.item.specs.Item.{Item, item_at, rule_at, handle_at}
use Rattle.binary_heap.specs.Entry.{Entry, entry_key}
use Rattle.binary_heap.specs.Sift.{entry_at}
use Rattle.binary_heap.specs.Queue.{pop_queue}
use Rattle.grammar.specs.Rules.{Grammar, Rule}
use Rattle.node.specs.Choice.{pick}
use Rattle.node.specs.Rows.{units_at, all_ones}
use Rattle.node.specs.Reading.{stand}
use Rattle.node.specs.Writing.{usable}
use Rattle.node.specs.declared.Node.{Node as Written}
use Rattle.node.specs.declared.Node.TheVariants.{Sum}
use Rattle.parse.specs.declared.State.{State}
use Rattle.parse.specs.Words.{Words}
use Rattle.parse.specs.WellFormed.{InSet, left_of}
use Rattle.completion.specs.Pass.{Pass, append}
use Rattle.completion.specs.Sums.{greatest, is_of, summands, product_node, sum_ends, pop_greatest, next_summand}
use Rattle.completion.proofs.Entries.{append-items, append_queued, append-queue}
use Rattle.completion.proofs.Summing.{next_queued, next-items}
use Rattle.demands.specs.Steps.{completed}
use Rattle.demands.proofs.Chart.{chart_of}
use Rattle.earley.proofs.Sieves.{any}
use Rattle.earley.proofs.Steps as steps
use Rattle.forest.specs.Forests.{Product, alone, paired, Node, token, sum, other}
use Rattle.forest.proofs.Forests as forests
use Rattle.forest.proofs.Tied.{Turn}
use Rattle.forest.proofs.Entries.{Pair, Items, product_lone, product_two, Linked}
use Rattle.forest.proofs.Entries as entries
use Rattle.forest.proofs.Loops.{popped_by}
use Rattle.forest.proofs.Sums.{handles, sums}
use Rattle.forest.proofs.Planted.{planted, handles_from, handles-before, factor-low}
use Rattle.forest.proofs.Units.{unit_store}
use Rattle.planting.specs.Unrefused.{Unrefused}
use Rattle.planting.specs.Pairs.{Completes, Summand}
use Rattle.planting.specs.Pops.{popped_of, popped, product_of}
use Rattle.planting.specs.Planted.{HasNode, SumOf, Planted}
use Rattle.planting.proofs.Falling.{beneath_order}
use Rattle.planting.proofs.Popping.{top_of, products_for}
use Rattle.planting.proofs.Written.{onward_stands}
use Rattle.planting.proofs.Places.{items_of, same_item}
use Rattle.planting.proofs.Turns.{PoppedAt}
use Rattle.planting.proofs.Rest.{passed, so_far, past, tied, charted, calling, rising, pass}

-- What a sum pops does not depend on the nodes that it writes meanwhile.
same-popped : (rs : List Rule) (k x n : ℕ) (s u : Pass) → s.at.queued ≡ u.at.queued → s.queue ≡ u.queue → s.items ≡ u.items
    → popped_by n (sum_ends rs k x) next_summand top_of s ≡ popped_of rs k x n u
unfolding popped_by popped_of next_summand pop_greatest
same-popped rs k x zero s u queued queue items = refl
same-popped rs k x (suc n) s u queued queue items =
    let rest : popped_by n (sum_ends rs k x) next_summand top_of (next_summand s) ≡ popped_of rs k x n (pop_greatest u) =
    same-popped rs k x n (next_summand s) (pop_greatest u) (next_queued s ∙ ap (λ n. n - 1) queued)
    (append-queue (product_node s.items (top_of s)) (pop_greatest s) ∙ (λ i. pop_queue (entry_key (items i)) (queue i) (queued i))) (next-items s ∙ items) in
    let ends : sum_ends rs k x s ≡ sum_ends rs k x u =
    λ i. eqb (queued i) 0 || not (is_of rs k x (item_at (items i) (entry_at (queue i) 0).place)) in
    λ i. elim (ends i) as (λ (t : Bool). List Entry) [ true ↦ [] | false ↦ entry_at (queue i) 0 ∷ rest i ]

products-popped : (rs : List Rule) (s : Pass) → products_for rs (greatest s).origin (left_of rs (greatest s)) s ≡ popped rs s
products-popped rs s =
    let k : ℕ = (greatest s).origin in
    let x : ℕ = left_of rs (greatest s) in
    let n : Written = Sum (summands rs k x s) x in
    same-popped rs k x (append n s).at.queued (append n s) s (append_queued n s) (append-queue n s) (append-items n s)
    ∙ ap (λ m. popped_of rs k x m s) (append_queued n s)

-- The product of an entry, by the words of its item.
same-product : (is : Items) (items : List ℕ) (e : Entry) → is.rule e.place ≡ rule_at items e.place → is.handle e.place ≡ handle_at items e.place
    → entries.product_of is e ≡ product_of items e
same-product is items e rule handle =
    elim (ℕ_discrete e.right all_ones) [
      | yes ones ↦
          product_lone is e ones ∙ (λ i. alone (rule i) (handle i))
          ∙ sym (ap (λ b. pick b (alone (rule_at items e.place) (handle_at items e.place)) (paired (rule_at items e.place) (handle_at items e.place) e.right)) (eq-eqb e.right all_ones ones))
      | no two ↦
          product_two is e two ∙ (λ i. paired (rule i) (handle i) e.right)
          ∙ sym (ap (λ b. pick b (alone (rule_at items e.place) (handle_at items e.place)) (paired (rule_at items e.place) (handle_at items e.place) e.right)) (ne_eqb e.right all_ones two))
    ]

-- Maps that say the same of each member.
map_same : {A B : Type 0} (f f' : A → B) (l : List A) → ((a : A) → Member a l → f a ≡ f' a) → map f l ≡ map f' l
map_same f f' [] same = refl
map_same f f' (a ∷ l) same = (λ i. same a (here refl) i ∷ map_same f f' l (λ b m. same b (there m)) i)

-- The Products of a Sum.
abbrev products_of : Node → List Product
products_of (sum ps) = ps
products_of (token t) = []
products_of other = []

module _ {g : Grammar} {st : State} {v : Words} {kinds : List ℕ} (a : Unrefused g st v kinds) where
  abbrev end : Pass
  end = completed g st v kinds

  abbrev is : Items
  is = items_of st v end

  abbrev turns : List (Turn Entry Pair)
  turns = past a

  abbrev handle_laws : forests.Handles (chart_of st v)
  handle_laws = handles g (chart_of st v) is (beneath_order g.rules) (charted a) (tied a)

  -- What the rules of completion give is what is completed.
  done_completes : {k x : ℕ} → steps.Done g (chart_of st v) kinds k x → Completes g st v kinds k x
  done_completes (steps.DoneFor.scanned m r) = Completes.scanned m r
  done_completes (steps.DoneFor.unary says d y x _) = Completes.unary says (done_completes d) y x
  done_completes (steps.DoneFor.closed says d z i _) =
      Completes.closed {a = handle_at v.items i.place} says (done_completes d) z
      (record {
        place = i.place;
        in_set = i.in_set;
        is = λ j. record { origin = i.origin j; rule = i.rule j; handle = handle_at v.items i.place };
      })

  completes_done : {k x : ℕ} → Completes g st v kinds k x → steps.Done g (chart_of st v) kinds k x
  completes_done (Completes.scanned m r) = steps.DoneFor.scanned m r
  completes_done (Completes.unary says d y x) = steps.DoneFor.unary says (completes_done d) y x any
  completes_done (Completes.closed says d z i) =
      steps.DoneFor.closed says (completes_done d) z
      (record {
        place = i.place;
        in_set = i.in_set;
        origin = ap (λ (j : Item). j.origin) i.is;
        rule = ap (λ (j : Item). j.rule) i.is;
      })
      any

  completes-node : {k x : ℕ} → Completes g st v kinds k x ↔ HasNode (Linked turns) k x
  completes-node {k} {x} = (
    (λ c. let d = steps.pass_all (pass a) (completes_done c) in record { handle = d.handle; is = d.linked }),
    λ n. done_completes ((pass a).sound (record { handle = n.handle; linked = n.is })),
  )

  end_item : (k p : ℕ) → InSet v k p → item_at end.items p ≡ item_at v.items p
  end_item = same_item a.accepted a.well a.within.few_items a.within.few_entries a.within.rowed end (passed a)

  -- The summands of the forest's theory are those of the words.
  summand_is : {k x : ℕ} {p : Product} → forests.Summand g (chart_of st v) handle_laws k x p → Summand g v (Linked turns) k x p
  summand_is (forests.Summand.unary says l y x) = Summand.unary says l y x
  summand_is (forests.Summand.closed {s = s} says l z h) =
      Summand.closed says l z
      (record {
        place = h.place;
        in_set = h.inside;
        is = sym (end_item s h.place h.inside) ∙ (λ i. record { origin = h.origin i; rule = h.rule i; handle = h.handle i });
      })

  is_summand_lem : {k x : ℕ} {p : Product} → Summand g v (Linked turns) k x p → forests.Summand g (chart_of st v) handle_laws k x p
  is_summand_lem (Summand.unary says l y x) = forests.Summand.unary says l y x
  is_summand_lem (Summand.closed {l = s} says l z h) =
      let same = end_item s h.place h.in_set ∙ h.is in
      forests.Summand.closed says l z
      (record {
        place = h.place;
        inside = h.in_set;
        origin = ap (λ (i : Item). i.origin) same;
        rule = ap (λ (i : Item). i.rule) same;
        handle = ap (λ (i : Item). i.handle) same;
      })

  stands-sum : (t : Turn Entry Pair) → Member t turns → g.tokens ≤ t.pair.symbol
      → (unit_store end.units).node_at t.handle ≡ sum (map (entries.product_of is) t.products)
  stands-sum t m big =
      let p = planted (so_far a).writing t m in
      (unit_store end.units).reads p.stands ∙ p.is_node.sums big

  -- The Sum of a completed pair.
  sum_of : {k x h : ℕ} → Linked turns k x h → g.tokens ≤ x → SumOf g st v kinds (Linked turns) k x h
  sum_of {k} {x} {h} l big =
      let f : forests.SumOf (unit_store end.units).node_at h (forests.Summand g (chart_of st v) handle_laws k x) =
      sums g (chart_of st v) is (beneath_order g.rules) (charted a) (tied a) (rising a) (calling a) (unit_store end.units).node_at g.tokens (λ t m big. any) stands-sum k x h l big in
      let big-turn : g.tokens ≤ l.turn.pair.symbol = omega (arith, l.symbol) in
      let at : PoppedAt a.accepted st v kinds _ end l.turn = (so_far a).popped l.turn l.member big-turn in
      let its : f.products ≡ map (entries.product_of is) l.turn.products =
      ap products_of (sym f.stands ∙ ap (unit_store end.units).node_at (sym l.handle) ∙ stands-sum l.turn l.member big-turn) in
      record {
        products = f.products;
        written = subst₂ (λ h x. stand (usable end.units) h (units_at h (Sum (length f.products) x)) ≡ true) l.handle l.symbol
            (subst (λ n. stand (usable end.units) l.turn.handle (units_at l.turn.handle (Sum n l.turn.pair.symbol)) ≡ true)
            (sym (ap length its ∙ length-map l.turn.products (entries.product_of is))) at.written);
        stands = f.stands;
        exactly = λ p. ((λ m. summand_is ((f.all p).0 m)), λ s. (f.all p).1 (is_summand_lem s));
        once = f.once;
        popped = record {
          pass = at.pass;
          reached = at.reached;
          set = at.set ∙ l.set;
          symbol = at.symbol ∙ l.symbol;
          handle = at.handle ∙ l.handle;
          in_order = its
              ∙ map_same (entries.product_of is) (product_of at.pass.items) l.turn.products
              (λ e m.
              same-product is at.pass.items e (ap (λ (i : Item). i.rule) (at.same e m)) (ap (λ (i : Item). i.handle) (at.same e m)))
              ∙ ap (map (product_of at.pass.items)) (at.products ∙ products-popped g.rules at.pass);
        };
        before = λ p q m factor. factor-low (f.before p m) factor;
      }

  -- THE LAW.
  pub step_planted : Planted g st v kinds
  step_planted =
      record {
        NodeOf = Linked turns;
        completes = completes-node;
        one_node = handle_laws.one_link;
        one_pair = λ l m.
            let same = (tied a).one_handle l.turn m.turn l.member m.member (l.handle ∙ sym m.handle) in
            (sym l.set ∙ ap (λ (t : Turn Entry Pair). t.pair.set) same ∙ m.set, sym l.symbol ∙ ap (λ (t : Turn Entry Pair). t.pair.symbol) same ∙ m.symbol);
        leaf = λ {k} {x} {h} l less.
            let p = planted (so_far a).writing l.turn l.member in
            subst₂ (λ h x. (unit_store end.units).node_at h ≡ token x) l.handle l.symbol
            ((unit_store end.units).reads p.stands ∙ p.is_node.leaf (omega (arith, l.symbol)));
        sums = sum_of;
        leaves = λ i less row. (so_far a).leaves i less (true_holds (row_of row_words v.rows st.set) (get_or kinds i 0) row);
        behind = λ l. (
          let from = handles_from (so_far a).writing l.turn l.member in omega (arith, l.handle),
          let to = handles-before (so_far a).writing l.turn l.member in omega (arith, l.handle),
        );
        units = (passed a).onward.same_units;
        stays = onward_stands (passed a).onward;
        stored = (so_far a).stored;
      }
