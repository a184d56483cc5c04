-- ONE POSITION, WHOLE: from the turns of a pass and its writes to a forest that is exact, and rooted, in the store that the pass leaves.
use Rattle.std.proofs.Common.{◌≡◌, refl, ◌∙◌, subst, subst₂, List, [], ◌∷◌, ◌++◌, ◌⊎◌, ℕ, suc, ◌≤◌, ◌<◌, arith, length}
use mathlib.Core.List.{map, Memᴰ as Member}
use Rattle.grammar.specs.Rules.{Grammar, rule_at}
use Rattle.grammar.specs.Accepted.{Accepted}
use Rattle.earley.specs.Positions.{Positions}
use Rattle.earley.proofs.Sieves.{Sieve, Due}
use Rattle.earley.proofs.Charts.{Chart, HoldsFor, set-inside}
use Rattle.earley.proofs.Steps.{Kinds, PassFor}
use Rattle.forest.specs.Forests.{Node, token, sum}
use Rattle.forest.proofs.Forests.{ExactAt, Completed}
use Rattle.forest.proofs.Exactly.{forest_exact}
use Rattle.forest.proofs.Every.{exact-stays}
use Rattle.forest.proofs.Tied.{Turn, Tied, Run, run_tied}
use Rattle.binary_heap.specs.Entry.{Entry}
use Rattle.forest.proofs.Entries.{Pair, Items, product_of, Order, terms, CallingFor, Charted, Rising, Linked, Held, Read, Fed}
use Rattle.forest.proofs.Sums.{handles, holding, sums}
use Rattle.forest.proofs.Passing.{pairs-pass, closed-pass}
use Rattle.forest.proofs.Calls.{LoopedFor, calling_all}
use Rattle.forest.proofs.Rooted.{Store, Rooted, rooted_before}
use Rattle.forest.proofs.Planted.{Writing, planted, handles_from, old_rooted, old_exact, link_rooted}

-- The two halves meet: a pass that came to rest leaves a forest that is exact.
module _ {g : Grammar} {a : Positions} {waits passes waits' : ℕ → Type 0} {c : Chart} {ks : List ℕ} (acc : Accepted g) (h : HoldsFor g a waits c)
    (small : Kinds g ks) (due : Due g waits ks) (sieve : Sieve g passes waits')
    (is : Items) (o : Order) {past : List (Turn Entry Pair)} (charted : Charted g c is) (tied : Tied (terms g is o) past [])
    (rising : Rising is past) (calling : CallingFor g c is passes past) (begun : (t : Turn Entry Pair) → Member t past → Read c ks t ⊎ Fed t)
    (first : (t : ℕ) → Member t ks → c.row c.last t → Completed (handles g c is o charted tied) c.last t)
    (node : ℕ → Node)
    (leaves : (t : Turn Entry Pair) → Member t past → t.pair.symbol < g.tokens → node t.handle ≡ token t.pair.symbol)
    (stands : (t : Turn Entry Pair) → Member t past → g.tokens ≤ t.pair.symbol → node t.handle ≡ sum (map (product_of is) t.products))
    (old : (s o r p : ℕ) → s ≤ c.last → Held is s o r p → ExactAt g (a ++ ks ∷ []) node (rule_at g r).first (h.pos o) (h.pos s) p) where
  leaf-stands : (k t p : ℕ) → Linked past k t p → t < g.tokens → node p ≡ token t
  leaf-stands k t p l less =
      subst₂ (λ p t. node p ≡ token t) l.handle l.symbol (leaves l.turn l.member (omega (arith, l.symbol)))

  pass-exact : (k x p : ℕ) → Linked past k x p → ExactAt g (a ++ ks ∷ []) node x (h.pos k) (suc (length a)) p
  pass-exact k x p l = record {
    exact = λ rounds enough.
        forest_exact (handles g c is o charted tied) acc h small due sieve (closed-pass g c is o charted tied calling ks begun first) node
        (holding g c is o charted tied) old leaf-stands (sums g c is o charted tied rising calling node g.tokens (pairs-pass g c is o charted tied calling ks begun small) stands)
        rounds k x p l enough;
  }

-- A handle under which are exactly the derivations, and which stays so.
pub record Lasting (g : Grammar) (a : Positions) (s : Store) (used x i j h : ℕ) : Type 0 where
  pub exact : ExactAt g a s.node_at x i j h
  pub rooted : Rooted s used h

-- Every item of every set has such a handle, for its rule's first symbol.
pub record Handled {g : Grammar} {a : Positions} {waits : ℕ → Type 0} {c : Chart} (h : HoldsFor g a waits c) (is : Items) (s : Store) (used : ℕ) : Type 0 where
  pub held : (k p : ℕ) → is.Inside k p
      → Lasting g a s used (rule_at g (is.rule p)).first (h.pos (is.origin p)) (h.pos k) (is.handle p)

-- The premises: the chart holds, the position may come, and a sieve tells what passes; the pass ran to its rest, with these loops and these writes; and every item's handle is exact and lasts.
module _ {g : Grammar} {a : Positions} {waits passes waits' : ℕ → Type 0} {c : Chart} {ks : List ℕ} (acc : Accepted g) (h : HoldsFor g a waits c)
    (small : Kinds g ks) (due : Due g waits ks) (sieve : Sieve g passes waits')
    (is : Items) (o : Order) {past : List (Turn Entry Pair)} {s₀ s : Store} {used₀ used : ℕ} (charted : Charted g c is)
    (looped : (t : Turn Entry Pair) → Member t past → LoopedFor g c is passes t) (run : Run (terms g is o) past []) (writing : Writing g is s₀ used₀ past s used)
    (in_sets : (s p : ℕ) → is.Inside s p → s ≤ c.last) (handled : Handled h is s₀ used₀) where
  abbrev tied : Tied (terms g is o) past []
  tied = run_tied (terms g is o) run

  rising : Rising is past
  rising = record {
    used = used₀;
    old = λ {s = k} {p} i. rooted_before (handled.held k p i).rooted;
    from = handles_from writing;
    small = λ t m. (looped t m).small;
  }

  old : (k o r p : ℕ) → k ≤ c.last → Held is k o r p → ExactAt g (a ++ ks ∷ []) s.node_at (rule_at g r).first (h.pos o) (h.pos k) p
  old k o r p le i =
      let was = handled.held k i.place i.inside in
      let now : ExactAt g a s.node_at (rule_at g (is.rule i.place)).first (h.pos (is.origin i.place)) (h.pos k) (is.handle i.place) =
      old_exact was.rooted was.exact writing in
      let longer : ExactAt g (a ++ ks ∷ []) s.node_at (rule_at g (is.rule i.place)).first (h.pos (is.origin i.place)) (h.pos k) (is.handle i.place) =
      record { exact = λ rounds enough. exact-stays (ks ∷ []) (set-inside h le) (now.exact rounds enough) } in
      subst (λ p. ExactAt g (a ++ ks ∷ []) s.node_at (rule_at g r).first (h.pos o) (h.pos k) p) i.handle
      (subst₂ (λ o r. ExactAt g (a ++ ks ∷ []) s.node_at (rule_at g r).first (h.pos o) (h.pos k) (is.handle i.place)) i.origin i.rule longer)

  module _ (begun : (t : Turn Entry Pair) → Member t past → Read c ks t ⊎ Fed t)
      (first : (t : ℕ) → Member t ks → c.row c.last t → Completed (handles g c is o charted tied) c.last t) where
    -- The completed pairs are a pass.
    pub whole-pass : PassFor g c ks passes (Completed (handles g c is o charted tied))
    whole-pass = closed-pass g c is o charted tied (calling_all looped) ks begun first

    -- Under the handle of each completed pair are the derivations of its symbol over its stretch, each once; and it stays so.
    pub whole : (k x p : ℕ) → Linked past k x p → Lasting g (a ++ ks ∷ []) s used x (h.pos k) (suc (length a)) p
    whole k x p l = record {
      exact = pass-exact acc h small due sieve is o charted tied rising (calling_all looped) begun first s.node_at
          (λ t m less. s.reads (planted writing t m).stands ∙ (planted writing t m).is_node.leaf less)
          (λ t m big. s.reads (planted writing t m).stands ∙ (planted writing t m).is_node.sums big) old k x p l;
      rooted = link_rooted g c is o charted tied rising (calling_all looped) (pairs-pass g c is o charted tied (calling_all looped) ks begun small) s used (planted writing)
          (λ k p i. old_rooted (handled.held k p i).rooted writing) k x p l;
    }

  -- The items of the sets keep theirs.
  pub held_stays : (k p : ℕ) → is.Inside k p
      → Lasting g (a ++ ks ∷ []) s used (rule_at g (is.rule p)).first (h.pos (is.origin p)) (h.pos k) (is.handle p)
  held_stays k p i = record {
    exact = old k (is.origin p) (is.rule p) (is.handle p) (in_sets k p i) (record { place = p; inside = i; origin = refl; rule = refl; handle = refl });
    rooted = old_rooted (handled.held k p i).rooted writing;
  }
