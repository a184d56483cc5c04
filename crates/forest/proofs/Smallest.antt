-- The premises can be met: the smallest parse, whole. The grammar is S ::= 0, the token 0 is read, its pair calls for the new item of S ::= 0,
-- and S is completed with it; two nodes are written into a store of three units.
use Rattle.std.proofs.Common.{◌≡◌, refl, sym, ◌∙◌, ap, subst, subst₂, true, false, List, [], ◌∷◌, ◌++◌, ◌⊎◌, inl, inr, ⊎_elim, ℕ, ◌+◌, ◌<◌, arith, eqb, eq-eqb, eqb-true}
use mathlib.Core.List.{map, flat_map}
use mathlib.Core.List.Memᴰ.{head as here}
use mathlib.Core.List.Memᴰ.{not-nil as no_member}
use mathlib.Core.List.Memᴰ.{tail as there}
use mathlib.Core.List.{Memᴰ as Member}
use mathlib.Core.List.Memᴰ.{cases_cons as first-or-later}
use mathlib.Core.List.Memᴰ.{eq_of_singleton as only}
use native.Mathlib.Decide.{dec_lt}
use Rattle.laws.specs.Counts.{count}
use Rattle.laws.proofs.Decides.{true_false}
use Rattle.grammar.specs.Rules.{Rule, Grammar, none, rule_at}
use Rattle.grammar.specs.Sentences.{Derives}
use Rattle.grammar.specs.Accepted.{Accepted, Nonterminal, Reachable}
use Rattle.grammar.specs.Prediction.{Reaches, here as itself, by_first}
use Rattle.grammar.proofs.Facts.{rule-says}
use Rattle.node.specs.Choice.{both_below}
use Rattle.node.specs.Rows.{units_at, row_of, sum_row, long_product, alone_row, pair_row, product_row, leaf_row, unfit, unfit_right, unfit_product}
use Rattle.node.specs.Writing.{put, place, write_units}
use Rattle.node.specs.declared.Node.TheVariants.{Sum, Evaluated}
use Rattle.node.proofs.InOrder.{WrittenFrom}
use Rattle.earley.proofs.Sieves.{any, any-due, unhinted}
use Rattle.earley.proofs.Charts.{Chart, Holds, begin}
use Rattle.earley.proofs.Steps.{Kinds, Pass}
use Rattle.earley.proofs.Next.{Stored, Led, Next}
use Rattle.earley.proofs.Token.{token as position}
use Rattle.forest.specs.Trees.{leaf, one}
use Rattle.forest.specs.Lists.{none as nothing, more}
use Rattle.forest.specs.Forests.{alone, token, sum, of_node, listed}
use Rattle.forest.specs.Every.{EveryTree}
use Rattle.forest.specs.Stores.{node_at, trees_at}
use Rattle.forest.proofs.Forests.{Completed}
use Rattle.forest.proofs.Tied.{Turn, Run, run_tied}
use Rattle.binary_heap.specs.Entry.{Entry}
use Rattle.forest.proofs.Entries.{entry, ones, Pair, Items, Order, terms, Charted, Linked, Read, Fed}
use Rattle.forest.proofs.Sums.{handles}
use Rattle.forest.proofs.Loops.{gathered, passing}
use Rattle.forest.proofs.Calls.{Begins, StoredAt, Looped}
use Rattle.forest.proofs.Planted.{NodeOf, Writing}
use Rattle.forest.proofs.Units.{spell, unit_store, standing-read, stands_stay, written_onward, sum-stands, leaf-stands}
use Rattle.forest.proofs.Whole.{Lasting, whole, whole-pass}
use Rattle.forest.proofs.Onwards.{Carried, handled_next, finished_every}

-- What holds of all members of a list of one, and of two.
of_one : {A : Type 0} (P : A → Type 0) {x : A} → P x → (a : A) → Member a (x ∷ []) → P a
of_one P p a m = subst P (sym (only m)) p

of_two : {A : Type 0} (P : A → Type 0) {x y : A} → P x → P y → (a : A) → Member a (x ∷ y ∷ []) → P a
of_two P p q a m = ⊎_elim (λ e. subst P (sym e) p) (λ n. of_one P q a n) (first-or-later m)

-- The grammar: 0 is the token, 1 is S, 2 W and 3 the end mark.
abbrev rule : ℕ → ℕ → ℕ → Rule
rule left first second = record { left = left; first = first; second = second }

abbrev g : Grammar
g = record { symbols = 4; tokens = 1; rules = rule 2 1 3 ∷ rule 1 0 none ∷ [] }

rules_two : (P : ℕ → Type 0) → P 0 → P 1 → (r : ℕ) → r < 2 → P r
rules_two P p q r l = elim (dec_lt r 1) [
  | yes k ↦ (let e : 0 ≡ r = omega arith in subst P e p)
  | no k ↦ (let e : 1 ≡ r = omega arith in subst P e q)
]

-- Only rule 1 is of one symbol.
rule_one : (r : ℕ) → r < 2 → (rule_at g r).second ≡ none → r ≡ 1
rule_one = rules_two (λ r. (rule_at g r).second ≡ none → r ≡ 1) (λ e. omega arith) (λ e. refl)

accepted : Accepted g
accepted = record {
  a_token = omega arith;
  room = omega arith;
  few_symbols = omega arith;
  a_rule = omega arith;
  few_rules = omega arith;
  wraps = rule-says g 0 (omega arith);
  starts = record { no_token_lem = omega arith; no_wrapper = omega arith };
  lefts = λ r some l. (let e : 1 ≡ r = omega arith in subst (λ n. Nonterminal g (rule_at g n).left) e (record { no_token_lem = omega arith; no_wrapper = omega arith }));
  firsts = λ r some l. (let e : 1 ≡ r = omega arith in subst (λ n. (rule_at g n).first < 2) e (omega arith));
  seconds = λ r some l. (let e : 1 ≡ r = omega arith in subst (λ n. ((rule_at g n).second ≡ none) ⊎ ((rule_at g n).second < 2)) e (inl refl));
  adjacent = λ q r s l m n same. absurd (omega arith);
  distinct = λ q r l m same.
      let first : q ≡ 0 = omega arith in
      let second : r ≡ 1 = omega arith in
      let clash : ◌≡◌ {A = ℕ} 2 1 =
      ap (λ n. (rule_at g n).left) (sym first) ∙ ap (λ (x : Rule). x.left) same ∙ ap (λ n. (rule_at g n).left) second in
      omega arith;
  unary_below = λ r s l m alone-r same.
      let is : r ≡ 1 = rule_one r l alone-r in
      let zero_left : (rule_at g s).left ≡ 0 = same ∙ ap (λ n. (rule_at g n).first) is in
      absurd (rules_two (λ s. (rule_at g s).left ≡ 0 → ⊥) (λ e. omega arith) (λ e. omega arith) s m zero_left);
  productive = λ a nt.
      let e : 1 ≡ a = omega (arith, nt.no_token_lem, nt.no_wrapper) in
      record {
        string = 0 ∷ [];
        derives = subst (λ n. Derives g n (0 ∷ [])) e (Derives.unary (rule-says g 1 (omega arith)) (Derives.token {t = 0} (omega arith)));
      };
  reachable = λ a nt. let e : 1 ≡ a = omega (arith, nt.no_token_lem, nt.no_wrapper) in subst (Reachable g) e Reachable.from_start;
}

-- Before the token: one set, no items, and what W reaches.
abbrev c : Chart
c = record { last = 0; item = λ s o r. ⊥; row = λ k x. Reaches g 2 x }

holds : Holds g [] c
holds = begin (record { last = refl; items = λ i. i; row = ((λ d. d), (λ d. d)) })

abbrev kinds : List ℕ
kinds = 0 ∷ []

small : Kinds g kinds
small = record { tokens = of_one (λ t. t < 1) (omega arith) }

s_in_row : Reaches g 2 1
s_in_row = by_first (rule-says g 0 (omega arith)) itself

token_in_row : Reaches g 2 0
token_in_row = by_first (rule-says g 0 (omega arith)) (by_first (rule-says g 1 (omega arith)) itself)

-- The pass: one new item, at place 0; one entry; two turns.
abbrev is : Items
is = record { origin = λ p. 0; rule = λ p. 1; handle = λ p. 0; Inside = λ s p. ⊥; New = λ p. p ≡ 0 }

abbrev o : Order
o = record { Below = λ a b. b.symbol < a.symbol; lower = λ p q. omega arith; other = λ p. omega arith }

abbrev e : Entry
e = entry 0 ones

abbrev scanned : Turn Entry Pair
scanned = record { pair = record { set = 0; symbol = 0 }; handle = 0; products = []; calls = e ∷ [] }

abbrev summed : Turn Entry Pair
summed = record { pair = record { set = 0; symbol = 1 }; handle = 1; products = e ∷ []; calls = [] }

abbrev past : List (Turn Entry Pair)
past = summed ∷ scanned ∷ []

run : Run (terms g is o) past []
unfolding count
run =
    Run.sum {queue = e ∷ []} {rest = []} {after = []} {t = summed}
    (Run.scan {queue = []} {after = e ∷ []} {t = scanned} Run.start
    (record {
      rises = λ u m. absurd (no_member m);
      nothing = refl;
      pushed = λ t. omega arith;
      all-below = λ u f m n. of_one (λ (u : Turn Entry Pair). (terms g is o).Below ((terms g is o).pair_of f) u.pair) (omega arith) u m;
      new = λ u m. absurd (no_member m);
      asked = of_one (λ f. (terms g is o).asker_of f ≡ 0) refl;
      each-once = more (λ f m. absurd (no_member m)) nothing;
    }))
    (record {
      rises = of_one (λ (u : Turn Entry Pair). u.handle < 1) (omega arith);
      greatest = e;
      some = here refl;
      popped = λ t. omega arith;
      own = λ f m. refl;
      rest_below = λ f m. absurd (no_member m);
      pushed = λ t. omega arith;
      calls_below = λ f m. absurd (no_member m);
      asked = λ f m. absurd (no_member m);
      each-once = nothing;
    })

charted : Charted g c is
charted = record {
  rules = λ i. absurd i;
  new-rules = λ n. omega arith;
  is_item = λ i. absurd i;
  item_is = λ i. absurd i;
  once = λ i. absurd i;
  new-once = λ n m a b. n ∙ sym m;
}

-- The token calls for the item of rule 1,
looped_scanned : Looped g c is scanned
unfolding gathered passing
looped_scanned = record {
  from = 0;
  number = 0;
  base = 0;
  row = true;
  second = λ i. false;
  begins = λ r. eqb r 1;
  are = refl;
  small = omega arith;
  in_row = λ on. token_in_row;
  row_in = λ d. refl;
  inside = λ p i. absurd i;
  place = λ i l. absurd (omega arith);
  is_second_lem = λ i l. absurd (omega arith);
  second_passes = λ i l on. any;
  second_is = λ i l. absurd (omega arith);
  does_begin = λ r on l.
      subst (λ n. Begins g c 0 0 n) (sym (eqb-true r 1 on)) (record { is_rule = omega arith; first = refl; second = refl; left = s_in_row; passed = any });
  begin_does = λ r b. eq-eqb r 1 (rule_one r b.is_rule b.second);
  stored = λ row r l on.
      subst (λ n. StoredAt is 0 n 0 (0 + passing (λ r. eqb r 1) n)) (sym (eqb-true r 1 on)) (record { new = refl; origin = refl; rule = refl; handle = refl });
}

-- and S for nothing.
looped_summed : Looped g c is summed
unfolding gathered passing
looped_summed = record {
  from = 0;
  number = 0;
  base = 0;
  row = true;
  second = λ i. false;
  begins = λ r. false;
  are = refl;
  small = omega arith;
  in_row = λ on. s_in_row;
  row_in = λ d. refl;
  inside = λ p i. absurd i;
  place = λ i l. absurd (omega arith);
  is_second_lem = λ i l. absurd (omega arith);
  second_passes = λ i l on. any;
  second_is = λ i l. absurd (omega arith);
  does_begin = λ r on. absurd (true_false (sym on));
  begin_does = λ r b.
      let clash : ◌≡◌ {A = ℕ} 0 1 = ap (λ n. (rule_at g n).first) (sym (rule_one r b.is_rule b.second)) ∙ b.first in
      absurd (omega arith);
  stored = λ row r l on. absurd (true_false (sym on));
}

-- The store: three fillers, then the leaf, then the Sum with its Product.
abbrev empty-store : List ℕ
empty-store = 0xFFFF ∷ 0xFFFF ∷ 0xFFFF ∷ []

abbrev one_leaf : List ℕ
one_leaf = 0x8000 ∷ 0xFFFF ∷ 0xFFFF ∷ []

abbrev store : List ℕ
store = 0x8000 ∷ 0x0101 ∷ 0x2201 ∷ []

leaf-written : WrittenFrom empty-store 0 (Evaluated 0 ∷ []) one_leaf 1
unfolding write_units place put units_at row_of sum_row long_product alone_row pair_row product_row leaf_row unfit unfit_right unfit_product both_below
leaf-written = WrittenFrom.more {q = 1} refl WrittenFrom.none

sum-written : WrittenFrom one_leaf 1 (Sum 1 1 ∷ spell (alone 1 0) ∷ []) store 3
unfolding write_units place put units_at row_of sum_row long_product alone_row pair_row product_row leaf_row unfit unfit_right unfit_product both_below
sum-written = WrittenFrom.more {t = 0x8000 ∷ 0x0101 ∷ 0xFFFF ∷ []} {q = 2} refl (WrittenFrom.more {q = 3} refl WrittenFrom.none)

leaf-node : NodeOf g is scanned (token 0)
leaf-node = record { leaf = λ l. refl; sums = λ l. absurd (omega arith) }

sum_node_lem : NodeOf g is summed (sum (alone 1 0 ∷ []))
sum_node_lem = record { leaf = λ l. absurd (omega arith); sums = λ l. refl }

writing : Writing g is (unit_store empty-store) 0 past (unit_store store) 3
writing =
    Writing.writes
    (Writing.writes Writing.start leaf-node refl (written_onward leaf-written) (leaf-stands leaf-written))
    sum_node_lem refl (written_onward sum-written) (sum-stands (alone 1 0 ∷ []) sum-written)

begun : (t : Turn Entry Pair) → Member t past → Read c kinds t ⊎ Fed t
begun =
    of_two (λ t. Read c kinds t ⊎ Fed t) (inr (record { entry = e; product = here refl }))
    (inl (record { latest = refl; kind = here refl; row = token_in_row }))

first : (t : ℕ) → Member t kinds → Reaches g 2 t → Completed (handles g c is o charted (run_tied (terms g is o) run)) 0 t
first t m row =
    of_one (Completed (handles g c is o charted (run_tied (terms g is o) run)) 0)
    (record { handle = 0; linked = record { turn = scanned; member = there (here refl); set = refl; symbol = refl; handle = refl } }) t m

-- So the Sum is exact and lasts.
abbrev done : ℕ → ℕ → Type 0
done = Completed (handles g c is o charted (run_tied (terms g is o) run))

looped : (t : Turn Entry Pair) → Member t past → Looped g c is t
looped = of_two (Looped g c is) looped_summed looped_scanned

links : (k x p : ℕ) → Linked past k x p → Lasting g (kinds ∷ []) (unit_store store) 3 x (holds.pos k) 1 p
links = whole accepted holds small any-due unhinted is o charted looped run writing (λ s p i. absurd i) (record { held = λ k p i. absurd i }) begun first

pass : Pass g c kinds done
pass = whole-pass accepted holds small any-due unhinted is o charted looped run writing (λ s p i. absurd i) (record { held = λ k p i. absurd i }) begun first

link : Linked past 0 1 1
link = record { turn = summed; member = here refl; set = refl; symbol = refl; handle = refl }

-- After the token: a second set, with rule 0's item and the end mark in its row.
record Only (s o r : ℕ) : Type 0 where
  pub set : s ≡ 1
  pub origin : o ≡ 0
  pub rule : r ≡ 0

abbrev c' : Chart
c' = record { last = 1; item = Only; row = λ k x. ((k ≡ 0) × Reaches g 2 x) ⊎ ((k ≡ 1) × Reaches g 3 x) }

-- Of the completed pairs only (0, S) stores an item, rule 0's.
stored-rule : {a r : ℕ} → Stored g c done a r → r ≡ 0
stored-rule {r = r} s = rules_two (λ r. ((rule_at g r).second ≡ none → ⊥) → r ≡ 0) (λ n. refl) (λ n. absurd (n refl)) r s.there s.two

stored-origin : {a r : ℕ} → Stored g c done a r → a ≡ 0
stored-origin s =
    let l = s.completed.linked in
    sym l.set ∙ of_two (λ (t : Turn Entry Pair). t.pair.set ≡ 0) refl refl l.turn l.member

is_stored : Stored g c done 0 0
is_stored = record {
  there = omega arith;
  two = λ e. omega arith;
  completed = record { handle = 1; linked = link };
  first = s_in_row;
  left = itself;
  waited = any;
}

next : Next g c done 0 c'
next = record {
  last = refl;
  items = λ {s} {o} {r} l. ((λ (i : Only s o r). absurd (omega (arith, i.set))), (λ i. absurd i));
  rows = λ l. absurd (omega arith);
  pruning = inl (record {
    all = refl;
    row = λ {x}. ((λ d. ⊎_elim (λ p. p.1) (λ p. let bad = p.0 in absurd (omega arith)) d), (λ d. inl (refl, d)));
  });
  new_items = λ {o} {r}. (
    (λ (i : Only 1 o r). subst₂ (Stored g c done) (sym i.origin) (sym i.rule) is_stored),
    (λ s. record { set = refl; origin = stored-origin s; rule = stored-rule s }),
  );
  new_row = λ {x}. (
    (λ d.
        ⊎_elim (λ p. let bad = p.0 in absurd (omega arith))
        (λ p. record { origin = 0; rule = 0; item = record { set = refl; origin = refl; rule = refl }; reaches = p.1 }) d),
    (λ (l : Led g c' 1 x). inr (refl, subst (λ n. Reaches g (rule_at g n).second x) l.item.rule l.reaches)),
  );
}

abbrev is' : Items
is' = record { origin = λ p. 0; rule = λ p. 0; handle = λ p. 1; Inside = λ k p. k ≡ 1; New = λ p. ⊥ }

carried : Carried g is past 0 c' is'
carried = record {
  in_sets = λ i. omega arith;
  is_item = λ i. record { set = i; origin = refl; rule = refl };
  old = λ l i. absurd (omega arith);
  new = λ i. link;
}

-- So under the handle of rule 0's item is every tree of the position, once,
pub smallest_every : EveryTree g (kinds ∷ []) (trees_at store 1)
smallest_every =
    finished_every {p = 0} accepted (position holds small pass next) (handled_next holds small any-due unhinted pass next carried (λ k p i. absurd i) links) refl
    (record { set = refl; origin = refl; rule = refl }) refl 2 (omega arith)

-- and that is one tree.
pub smallest_tree : trees_at store 1 ≡ one 1 (leaf 0) ∷ []
unfolding flat_map
smallest_tree =
    ap (of_node (listed (node_at store) 1)) (standing-read (sum-stands (alone 1 0 ∷ []) sum-written))
    ∙ ap (λ n. map (one 1) (of_node (λ h. []) n) ++ []) (standing-read (stands_stay sum-written (leaf-stands leaf-written) (omega arith)))
