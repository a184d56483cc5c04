-- The pairs that a pass at rest has completed are what the rules of completion give: nothing wrong, and closed.
use Rattle.std.proofs.Common.{◌≡◌, refl, sym, ◌∙◌, ap, subst, subst₂, List, [], ◌⊎◌, ⊎_elim, ℕ, zero, suc, ◌≤◌, ◌<◌, arith}
use mathlib.Core.List.Memᴰ.{not-nil as no_member}
use mathlib.Core.List.{Memᴰ as Member}
use Rattle.grammar.specs.Rules.{Grammar, Says, none, rule_at}
use Rattle.earley.proofs.Charts.{Chart}
use Rattle.earley.proofs.Steps.{Kinds, DoneFor, PassFor, done_passes}
use Rattle.forest.proofs.Forests.{Completed}
use Rattle.forest.proofs.Tied.{Turn, Terms, Tied, Called, called_met, at_rest}
use Rattle.binary_heap.specs.Entry.{Entry}
use Rattle.forest.proofs.Entries.{entry, ones, Pair, Items, Order, terms, Stored, CallingFor, Charted, Linked, Read, Fed}
use Rattle.forest.proofs.Sums.{handles}

module _ (g : Grammar) (c : Chart) (is : Items) (o : Order) {past : List (Turn Entry Pair)} {passes : ℕ → Type 0} (charted : Charted g c is)
    (tied : Tied (terms g is o) past []) (calling : CallingFor g c is passes past) where
  abbrev w : Terms Entry Pair
  w = terms g is o

  abbrev done : ℕ → ℕ → Type 0
  done = Completed (handles g c is o charted tied)

  completed : (t : Turn Entry Pair) → Member t past → {k x : ℕ} → t.pair.set ≡ k → t.pair.symbol ≡ x → done k x
  completed t m set symbol = record { handle = t.handle; linked = record { turn = t; member = m; set = set; symbol = symbol; handle = refl } }

  -- What was called for has its own pair completed.
  called_done : (e : Entry) → Called w past e → {k x : ℕ} → is.origin e.place ≡ k → (rule_at g (is.rule e.place)).left ≡ x → done k x
  called_done e called set symbol =
      ⊎_elim (λ q. absurd (no_member q))
      (λ s.
      completed s.sum s.turn (sym (ap (λ (p : Pair). p.set) s.its_pair) ∙ set) (sym (ap (λ (p : Pair). p.symbol) s.its_pair) ∙ symbol))
      (called_met w tied e called)

  module _ (ks : List ℕ) (begun : (t : Turn Entry Pair) → Member t past → Read c ks t ⊎ Fed t) where
    -- NOTHING WRONG is completed: a product was called for by a turn with a lower handle.
    turn_done : (n : ℕ) (t : Turn Entry Pair) → Member t past → t.handle < n → DoneFor g c ks passes t.pair.set t.pair.symbol
    turn_done zero t m less = absurd (omega arith)
    turn_done (suc n) t m less =
        let further : (u : Turn Entry Pair) → Member u past → u.handle < n → DoneFor g c ks passes u.pair.set u.pair.symbol = turn_done n in
        ⊎_elim
        (λ r. subst (λ k. DoneFor g c ks passes k t.pair.symbol) (sym r.latest) (DoneFor.scanned r.kind r.row))
        (λ f.
        let e : Entry = f.entry in
        let called = (at_rest w tied t m e).0 f.product in
        let u : Turn Entry Pair = called.0.by in
        let low : u.handle < n = omega (arith, tied.earlier t e m f.product, tied.asked u e called.0.turn called.0.calls) in
        let before : DoneFor g c ks passes u.pair.set u.pair.symbol = further u called.0.turn low in
        let set : is.origin e.place ≡ t.pair.set = ap (λ (p : Pair). p.set) called.1 in
        let symbol : (rule_at g (is.rule e.place)).left ≡ t.pair.symbol = ap (λ (p : Pair). p.symbol) called.1 in
        let passed : passes t.pair.symbol = subst passes symbol (calling.passed u e called.0.turn called.0.calls) in
        ⊎_elim
        (λ d.
        DoneFor.closed {y = (rule_at g (is.rule e.place)).first}
        (record { there = charted.rules d.inside; left = symbol; first = refl; second = d.second }) before d.row
        (subst (λ o. c.item u.pair.set o (is.rule e.place)) set (charted.is_item d.inside)) passed)
        (λ d.
        subst (λ k. DoneFor g c ks passes k t.pair.symbol) (sym d.origin ∙ set)
        (DoneFor.unary (record { there = charted.new-rules d.new; left = symbol; first = d.first; second = d.second }) before d.row
        (subst (λ x. c.row u.pair.set x) symbol d.left) passed))
        (calling.only u e called.0.turn called.0.calls))
        (begun t m)

    link_done : {k x h : ℕ} → Linked past k x h → DoneFor g c ks passes k x
    link_done l = subst₂ (DoneFor g c ks passes) l.set l.symbol (turn_done (suc l.turn.handle) l.turn l.member (omega arith))

    -- The pairs of nonterminals pass.
    pub pairs-pass : Kinds g ks → (t : Turn Entry Pair) → Member t past → g.tokens ≤ t.pair.symbol → passes t.pair.symbol
    pairs-pass small t m big = done_passes small (turn_done (suc t.handle) t m (omega arith)) big

    -- And so the completed pairs are a pass, where the kinds of the position that the row holds were read.
    pub closed-pass : ((t : ℕ) → Member t ks → c.row c.last t → done c.last t) → PassFor g c ks passes done
    closed-pass first = record {
      sound = λ d. link_done d.linked;
      scanned = λ {t} m r. first t m r;
      unary = λ {r} {x} {y} {k} says d ry rx passed.
          let l = d.linked in
          let u : Turn Entry Pair = l.turn in
          let s : Stored is u r =
          calling.unary u r x l.member (subst₂ (λ k x. c.row k x) (sym l.set) (sym l.symbol) ry)
          (subst (λ y. Says g r x y none) (sym l.symbol) says) (subst (λ k. c.row k x) (sym l.set) rx) passed in
          called_done (entry s.place ones) (record { by = u; turn = l.member; calls = s.queued }) (s.origin ∙ l.set)
          (ap (λ n. (rule_at g n).left) s.rule ∙ says.left);
      closed = λ {r} {x} {y} {z} {k} {o} says d rz i passed.
          let l = d.linked in
          let u : Turn Entry Pair = l.turn in
          let p = charted.item_is i in
          called_done (entry p.place u.handle)
          (record {
            by = u;
            turn = l.member;
            calls = calling.medial u p.place l.member (subst₂ (λ k x. c.row k x) (sym l.set) (sym l.symbol) rz)
                (subst (λ k. is.Inside k p.place) (sym l.set) p.inside)
                (ap (λ n. (rule_at g n).second) p.rule ∙ says.second ∙ sym l.symbol)
                (subst passes (sym (ap (λ n. (rule_at g n).left) p.rule ∙ says.left)) passed);
          }) p.origin (ap (λ n. (rule_at g n).left) p.rule ∙ says.left);
    }
