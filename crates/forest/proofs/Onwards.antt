-- From position to position: every item of every set, live or not, keeps a handle under which are exactly the derivations; and under the handle
-- of rule 0's item is every tree.
use Rattle.std.proofs.Common.{◌≡◌, sym, ◌∙◌, ap, subst, subst₂, List, [], ◌∷◌, ◌++◌, ℕ, suc, ◌≤◌, ◌<◌, arith, length, length-append}
use Rattle.grammar.specs.Rules.{Grammar, rule_at}
use Rattle.grammar.specs.Accepted.{Accepted}
use Rattle.earley.specs.Positions.{Positions}
use Rattle.earley.proofs.Sieves.{Sieve, Due}
use Rattle.earley.proofs.Charts.{Chart, HoldsFor}
use Rattle.earley.proofs.Steps.{Kinds, PassFor}
use Rattle.earley.proofs.Next.{NextFor}
use Rattle.earley.proofs.Places.{next_cases}
use Rattle.earley.proofs.Token.{sifted, sifted_old}
use Rattle.earley.proofs.Viable.{item_first}
use Rattle.forest.specs.Forests.{listed}
use Rattle.forest.specs.Every.{EveryTree}
use Rattle.forest.proofs.Forests.{Exact}
use Rattle.forest.proofs.Every.{every_tree}
use Rattle.forest.proofs.Tied.{Turn}
use Rattle.binary_heap.specs.Entry.{Entry}
use Rattle.forest.proofs.Entries.{Pair, Items, Linked, Held}
use Rattle.forest.proofs.Rooted.{Store}
use Rattle.forest.proofs.Whole.{Lasting, Handled}

-- The items after a position: those of a set that stays have the words that they had, and a new one has the handle of its rule's first symbol.
pub record Carried (g : Grammar) (is : Items) (past : List (Turn Entry Pair)) (kept : ℕ) (c' : Chart) (is' : Items) : Type 0 where
  pub in_sets : {k p : ℕ} → is'.Inside k p → k ≤ suc kept
  pub is_item : {k p : ℕ} → is'.Inside k p → c'.item k (is'.origin p) (is'.rule p)
  pub old : {k p : ℕ} → k ≤ kept → is'.Inside k p → Held is k (is'.origin p) (is'.rule p) (is'.handle p)
  pub new : {p : ℕ} → is'.Inside (suc kept) p → Linked past (is'.origin p) (rule_at g (is'.rule p)).first (is'.handle p)

module _ {g : Grammar} {a : Positions} {waits passes waits' : ℕ → Type 0} {c c' : Chart} {ks : List ℕ} {kept : ℕ} {done : ℕ → ℕ → Type 0} {s : Store} {used : ℕ}
    {is is' : Items} {past : List (Turn Entry Pair)} (h : HoldsFor g a waits c) (small : Kinds g ks) (due : Due g waits ks) (sieve : Sieve g passes waits')
    (pass : PassFor g c ks passes done) (next : NextFor g c waits' done kept c')
    (carried : Carried g is past kept c' is')
    (stays : (k p : ℕ) → is.Inside k p
    → Lasting g (a ++ ks ∷ []) s used (rule_at g (is.rule p)).first (h.pos (is.origin p)) (h.pos k) (is.handle p))
    (links : (k x p : ℕ) → Linked past k x p → Lasting g (a ++ ks ∷ []) s used x (h.pos k) (suc (length a)) p) where
  abbrev after : HoldsFor g (a ++ ks ∷ []) waits' c'
  after = sifted h small due sieve pass next

  -- An item of a set has what its place has.
  held_lasts : {k o r p : ℕ} → Held is k o r p → Lasting g (a ++ ks ∷ []) s used (rule_at g r).first (h.pos o) (h.pos k) p
  held_lasts {k} {o} {r} i =
      subst (Lasting g (a ++ ks ∷ []) s used (rule_at g r).first (h.pos o) (h.pos k)) i.handle
      (subst₂ (λ o r. Lasting g (a ++ ks ∷ []) s used (rule_at g r).first (h.pos o) (h.pos k) (is.handle i.place)) i.origin i.rule
      (stays k i.place i.inside))

  -- The new set stands behind the position.
  new-end : after.pos (suc kept) ≡ suc (length a)
  new-end = ap after.pos (sym next.last) ∙ after.ends ∙ (let long = length-append a (ks ∷ []) in omega arith)

  -- IT GOES ON, from what one position whole gives.
  pub handled_next : Handled after is' s used
  handled_next = record { held = held }
    where
      held : (k p : ℕ) → is'.Inside k p
          → Lasting g (a ++ ks ∷ []) s used (rule_at g (is'.rule p)).first (after.pos (is'.origin p)) (after.pos k) (is'.handle p)
      held k p i =
          let x : ℕ = (rule_at g (is'.rule p)).first in
          let low : k ≤ suc kept = carried.in_sets i in
          let older : is'.origin p < k = after.older (let last = next.last in omega arith) (carried.is_item i) in
          let from : h.pos (is'.origin p) ≡ after.pos (is'.origin p) = sym (sifted_old h small due sieve pass next (omega arith)) in
          next_cases kept k low
          (λ m.
          subst₂ (λ i j. Lasting g (a ++ ks ∷ []) s used x i j (is'.handle p)) from (sym (sifted_old h small due sieve pass next m)) (held_lasts (carried.old m i)))
          (λ e.
          subst₂ (λ i j. Lasting g (a ++ ks ∷ []) s used x i j (is'.handle p)) from (sym (ap after.pos e ∙ new-end))
          (links (is'.origin p) x (is'.handle p) (carried.new (subst (λ n. is'.Inside n p) e i))))

-- EVERY TREE, EACH ONCE: under the handle of rule 0's item in the latest set is every tree of the accepted positions, once.
pub finished_every : {g : Grammar} {a : Positions} {waits : ℕ → Type 0} {c : Chart} {is : Items} {s : Store} {used p : ℕ} → Accepted g → (h : HoldsFor g a waits c) → Handled h is s used
    → is.Inside c.last p → c.item c.last (is.origin p) 0 → is.rule p ≡ 0 → (rounds : ℕ) → is.handle p < rounds
    → EveryTree g a (listed s.node_at rounds (is.handle p))
finished_every {g} {a} {c = c} {is = is} {s = s} {p = p} acc h all inside item zero-rule rounds enough =
    every_tree acc
    (subst₂ (λ i j. Exact g a (rule_at g 0).first i j (listed s.node_at rounds (is.handle p)))
    (item_first acc (h.item_true {s = c.last} (omega arith) item)) h.ends
    (subst (λ r. Exact g a (rule_at g r).first (h.pos (is.origin p)) (h.pos c.last) (listed s.node_at rounds (is.handle p))) zero-rule
    ((all.held c.last p inside).exact.exact rounds enough)))
