-- At rest each Sum has exactly the summands of its pair, each once, with its factors before it: what `forest_exact` asks.
use Rattle.std.proofs.Common.{◌≡◌, refl, sym, ◌∙◌, ap, subst, subst₂, List, [], ⊎_elim, ℕ, ◌≤◌, ◌<◌, arith}
use mathlib.Core.List.Memᴰ.{map as map-member}
use mathlib.Core.List.Memᴰ.{of_map as member-map}
use mathlib.Core.List.{map, Memᴰ as Member}
use Rattle.grammar.specs.Rules.{Grammar, Says, none, rule_at}
use Rattle.earley.proofs.Charts.{Chart}
use Rattle.forest.specs.Forests.{Product, alone, paired, Node, sum}
use Rattle.forest.proofs.Lists.{once-map}
use Rattle.forest.proofs.Forests.{Handles, Holding, Summand, Before, SumOf}
use Rattle.forest.proofs.Tied.{Turn, Terms, Tied, Called, at_rest, products-once}
use Rattle.binary_heap.specs.Entry.{Entry}
use Rattle.forest.proofs.Entries.{entry, ones, Pair, same-pair, same_entry, Items, product_of, Order, terms, Medial, Lone, Stored, CallingFor, Charted, Rising}
use Rattle.forest.proofs.Entries.{Linked, Held, product_lone, product_two, medial_asker, lone_asker}

-- What a product says.
abbrev root : Product → ℕ
root (alone r a) = r
root (paired r a b) = r

abbrev back : Product → ℕ
back (alone r a) = ones
back (paired r a b) = b

module _ (g : Grammar) (c : Chart) (is : Items) (o : Order) {past : List (Turn Entry Pair)} (charted : Charted g c is)
    (tied : Tied (terms g is o) past []) where
  abbrev w : Terms Entry Pair
  w = terms g is o

  -- The handles that the forest theorem speaks of: one pair is of one turn, and one item at one place.
  abbrev pub handles : Handles c
  handles = record {
    linked = Linked past;
    held = Held is;
    one_link = λ a b.
        sym a.handle
        ∙ ap (λ (t : Turn Entry Pair). t.handle)
        (tied.one_turn a.turn b.turn a.member b.member (same-pair (a.set ∙ sym b.set) (a.symbol ∙ sym b.symbol)))
        ∙ b.handle;
    one_held = λ a b.
        sym a.handle
        ∙ ap is.handle (charted.once a.inside b.inside (a.origin ∙ sym b.origin) (a.rule ∙ sym b.rule))
        ∙ b.handle;
    is_item = λ {s} a. subst₂ (λ o r. c.item s o r) a.origin a.rule (charted.is_item a.inside);
  }

  -- Every item has one.
  pub holding : (s o r : ℕ) → c.item s o r → Holding handles s o r
  holding s o r i =
      let p = charted.item_is i in
      record { handle = is.handle p.place; held = record { place = p.place; inside = p.inside; origin = p.origin; rule = p.rule; handle = refl } }

  module _ {passes : ℕ → Type 0} (rising : Rising is past) (calling : CallingFor g c is passes past) where
    link : (t : Turn Entry Pair) → Member t past → Linked past t.pair.set t.pair.symbol t.handle
    link t m = record { turn = t; member = m; set = refl; symbol = refl; handle = refl }

    module _ (t : Turn Entry Pair) (m : Member t past) where
      abbrev IsSummand : Product → Type 0
      IsSummand = Summand g c handles t.pair.set t.pair.symbol

      -- A product is a summand,
      product_summand : (e : Entry) → Member e t.products → IsSummand (product_of is e)
      product_summand e p =
          let called = (at_rest w tied t m e).0 p in
          let u : Turn Entry Pair = called.0.by in
          let set : is.origin e.place ≡ t.pair.set = ap (λ (p : Pair). p.set) called.1 in
          let symbol : (rule_at g (is.rule e.place)).left ≡ t.pair.symbol = ap (λ (p : Pair). p.symbol) called.1 in
          ⊎_elim
          (λ d.
          subst IsSummand (sym (product_two is e (λ h. omega (arith, d.right, rising.small u called.0.turn))))
          (Summand.closed {y = (rule_at g (is.rule e.place)).first} {z = u.pair.symbol} {s = u.pair.set}
          (record { there = charted.rules d.inside; left = symbol; first = refl; second = d.second })
          (subst (λ b. Linked past u.pair.set u.pair.symbol b) (sym d.right) (link u called.0.turn)) d.row
          (record { place = e.place; inside = d.inside; origin = set; rule = refl; handle = refl })))
          (λ d.
          let at : u.pair.set ≡ t.pair.set = sym d.origin ∙ set in
          subst IsSummand (sym (product_lone is e d.right))
          (Summand.unary {y = u.pair.symbol}
          (record { there = charted.new-rules d.new; left = symbol; first = d.first; second = d.second })
          (subst₂ (λ k a. Linked past k u.pair.symbol a) at (sym d.handle) (link u called.0.turn))
          (subst (λ k. c.row k u.pair.symbol) at d.row) (subst₂ (λ k x. c.row k x) at symbol d.left)))
          (calling.only u e called.0.turn called.0.calls)

      is_product : (e : Entry) → Called w past e → is.origin e.place ≡ t.pair.set → (rule_at g (is.rule e.place)).left ≡ t.pair.symbol
          → Member (product_of is e) (map (product_of is) t.products)
      is_product e called set symbol = map-member (product_of is) ((at_rest w tied t m e).1 (called, same-pair set symbol))

      -- and a summand a product, where the symbol passes.
      summand_product : {p : Product} → passes t.pair.symbol → IsSummand p → Member p (map (product_of is) t.products)
      summand_product passed (Summand.unary {r = r} {y = y} {a = a} says l ry rx) =
          let u : Turn Entry Pair = l.turn in
          let at : t.pair.set ≡ u.pair.set = sym l.set in
          let s : Stored is u r =
          calling.unary u r t.pair.symbol l.member (subst₂ (λ k x. c.row k x) at (sym l.symbol) ry)
          (subst (λ y. Says g r t.pair.symbol y none) (sym l.symbol) says) (subst (λ k. c.row k t.pair.symbol) at rx) passed in
          let e : Entry = entry s.place ones in
          let is-it : product_of is e ≡ alone r a = product_lone is e refl ∙ (λ i. alone (s.rule i) ((s.handle ∙ l.handle) i)) in
          subst (λ p. Member p (map (product_of is) t.products)) is-it
          (is_product e (record { by = u; turn = l.member; calls = s.queued }) (s.origin ∙ l.set)
          (ap (λ n. (rule_at g n).left) s.rule ∙ says.left))
      summand_product passed (Summand.closed {r = r} {z = z} {s = s} {a = a} {b = b} says l rz h) =
          let u : Turn Entry Pair = l.turn in
          let e : Entry = entry h.place u.handle in
          let is-it : product_of is e ≡ paired r a b =
          product_two is e (λ is. omega (arith, rising.small u l.member)) ∙ (λ i. paired (h.rule i) (h.handle i) (l.handle i)) in
          let called : Member e u.calls =
          calling.medial u h.place l.member (subst₂ (λ k x. c.row k x) (sym l.set) (sym l.symbol) rz)
          (subst (λ k. is.Inside k h.place) (sym l.set) h.inside)
          (ap (λ n. (rule_at g n).second) h.rule ∙ says.second ∙ sym l.symbol)
          (subst passes (sym (ap (λ n. (rule_at g n).left) h.rule ∙ says.left)) passed) in
          subst (λ p. Member p (map (product_of is) t.products)) is-it
          (is_product e (record { by = u; turn = l.member; calls = called }) h.origin (ap (λ n. (rule_at g n).left) h.rule ∙ says.left))

      -- Two products that are the same come of one entry: of one turn and, in its set or among the new items, of one place.
      one_entry : (e f : Entry) → Member e t.products → Member f t.products → product_of is e ≡ product_of is f → e ≡ f
      one_entry e f p q same =
          let ce = (at_rest w tied t m e).0 p in
          let cf = (at_rest w tied t m f).0 q in
          let u : Turn Entry Pair = ce.0.by in
          let v : Turn Entry Pair = cf.0.by in
          let in-u : u.handle < ones = rising.small u ce.0.turn in
          let in-v : v.handle < ones = rising.small v cf.0.turn in
          let set : is.origin e.place ≡ is.origin f.place = ap (λ (p : Pair). p.set) (ce.1 ∙ sym cf.1) in
          let medials : Medial g c is u e → Medial g c is v f → e ≡ f =
          λ d d'.
          let two = sym (product_two is e (λ h. omega (arith, d.right))) ∙ same ∙ product_two is f (λ h. omega (arith, d'.right)) in
          let right : e.right ≡ f.right = ap back two in
          let turn : u ≡ v = tied.one_handle u v ce.0.turn cf.0.turn (sym d.right ∙ right ∙ d'.right) in
          same_entry
          (charted.once (subst (λ (u : Turn Entry Pair). is.Inside u.pair.set e.place) turn d.inside) d'.inside set (ap root two)) right in
          let lones : Lone g c is u e → Lone g c is v f → e ≡ f =
          λ d d'.
          let one = sym (product_lone is e d.right) ∙ same ∙ product_lone is f d'.right in
          same_entry (charted.new-once d.new d'.new set (ap root one)) (d.right ∙ sym d'.right) in
          let mixed : (e f : Entry) → product_of is e ≡ product_of is f → (e.right ≡ ones → ⊥) → f.right ≡ ones → ⊥ =
          λ e f same two one. two (ap back (sym (product_two is e two) ∙ same ∙ product_lone is f one)) in
          ⊎_elim
          (λ d. ⊎_elim (medials d) (λ d'. absurd (mixed e f same (λ h. omega (arith, d.right)) d'.right)) (calling.only v f cf.0.turn cf.0.calls))
          (λ d. ⊎_elim (λ d'. absurd (mixed f e (sym same) (λ h. omega (arith, d'.right)) d.right)) (lones d) (calling.only v f cf.0.turn cf.0.calls))
          (calling.only u e ce.0.turn ce.0.calls)

      -- The factors lie before the Sum.
      factors_before : (e : Entry) → Member e t.products → Before t.handle (product_of is e)
      factors_before e p =
          let called = (at_rest w tied t m e).0 p in
          let u : Turn Entry Pair = called.0.by in
          let in-u : u.handle < ones = rising.small u called.0.turn in
          let asker : w.asker_of e < t.handle = tied.earlier t e m p in
          ⊎_elim
          (λ d.
          let a : w.asker_of e ≡ u.handle = medial_asker is g c o in-u d in
          let low : is.handle e.place < t.handle = omega (arith, rising.old d.inside, rising.from t m) in
          let high : e.right < t.handle = omega (arith, d.right) in
          subst (Before t.handle) (sym (product_two is e (λ h. omega (arith, d.right)))) (Before.both-before low high))
          (λ d.
          let a : w.asker_of e ≡ u.handle = lone_asker is g c o d in
          let low : is.handle e.place < t.handle = omega (arith, d.handle) in
          subst (Before t.handle) (sym (product_lone is e d.right)) (Before.one_before low))
          (calling.only u e called.0.turn called.0.calls)

      -- The Sum of a turn.
      pub turn-sum : passes t.pair.symbol → (node : ℕ → Node) → node t.handle ≡ sum (map (product_of is) t.products) → SumOf node t.handle IsSummand
      turn-sum passed node stands = record {
        products = map (product_of is) t.products;
        stands = stands;
        all = λ p. (
          (λ n. let f = member-map (product_of is) t.products n in subst IsSummand f.2 (product_summand f.0 f.1)),
          summand_product passed,
        );
        once = once-map (product_of is) one_entry (products-once w tied t m);
        before = λ p n. let f = member-map (product_of is) t.products n in subst (Before t.handle) f.2 (factors_before f.0 f.1);
      }

    -- AT REST the node of a completed pair is a Sum of exactly its summands, each once, with factors before it.
    pub sums : (node : ℕ → Node) → (bound : ℕ) → ((t : Turn Entry Pair) → Member t past → bound ≤ t.pair.symbol → passes t.pair.symbol)
        → ((t : Turn Entry Pair) → Member t past → bound ≤ t.pair.symbol → node t.handle ≡ sum (map (product_of is) t.products))
        → (k x h : ℕ) → Linked past k x h → bound ≤ x → SumOf node h (Summand g c handles k x)
    sums node bound passed stands k x h l big =
        subst (λ k. SumOf node h (Summand g c handles k x)) l.set
        (subst (λ x. SumOf node h (Summand g c handles l.turn.pair.set x)) l.symbol
        (subst (λ h. SumOf node h (Summand g c handles l.turn.pair.set l.turn.pair.symbol)) l.handle
        (turn-sum l.turn l.member (passed l.turn l.member (omega (arith, l.symbol))) node (stands l.turn l.member (omega (arith, l.symbol))))))
