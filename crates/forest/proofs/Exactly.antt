-- THE FOREST OF ONE POSITION IS EXACT: the trees under the handle of a completed pair are the derivations of its symbol over its stretch, each once.
use Rattle.std.proofs.Common.{◌≡◌, refl, sym, ◌∙◌, ap, subst, subst₂, List, [], ◌∷◌, ◌++◌, ◌≢◌, ℕ, zero, suc, ◌≤◌, ◌<◌, arith, length, get_or, length-append}
use mathlib.Core.List.Memᴰ.{head as here}
use mathlib.Core.List.Memᴰ.{not-nil as no_member}
use mathlib.Core.List.{flat_map, Memᴰ as Member}
use mathlib.Core.List.Memᴰ.{eq_of_singleton as only}
use mathlib.Core.List.Memᴰ.{map as map-member}
use mathlib.Core.List.Memᴰ.{of_map as member-map}
use native.Mathlib.Decide.{dec_lt}
use lib.Seq.{get_or-append_seam}
use Rattle.grammar.specs.Rules.{Grammar, Says, none, rule_at}
use Rattle.grammar.specs.Accepted.{Accepted}
use Rattle.earley.specs.Positions.{Positions}
use Rattle.earley.proofs.Spans.{Span}
use Rattle.earley.proofs.Predictions.{Pred, item_two, pred_grows}
use Rattle.earley.proofs.Sieves.{Sieve, Due}
use Rattle.earley.proofs.Charts.{Chart, Live, Found, HoldsFor, live_set}
use Rattle.earley.proofs.Steps.{Kinds, DoneFor, PassFor, DoneAt, pass_all, done_live, done_passes, row_of, item_of, span_done}
use Rattle.forest.specs.Trees.{Tree, leaf, one, two}
use Rattle.forest.specs.Lists.{none as nothing, more, Once}
use Rattle.forest.specs.Forests.{Product, alone, paired, Node, token, of_product, of_node, listed}
use Rattle.forest.proofs.Lists.{joined_member, member_joined, pairs_member, member_pairs, once-map, once-pairs, once-joined}
use Rattle.forest.proofs.Rules.{no_token_lem, same_first, same_second}
use Rattle.forest.proofs.Trees.{root, left, right, arity, Grows, grows_span, same_end}
use Rattle.forest.proofs.Forests.{Exact, ExactAt, Handles, Completed, Holding, Summand, Before, before_one, before-left, before-right, SumOf}

-- Two sets that stand at one place are one set.
same_set : {g : Grammar} {a : Positions} {waits : ℕ → Type 0} {c : Chart} (h : HoldsFor g a waits c) (s u : ℕ) → s ≤ c.last → u ≤ c.last → h.pos s ≡ h.pos u → s ≡ u
same_set h s u l m e = elim (dec_lt s u) [
  | yes k ↦ (let p = h.rising s u k m in absurd (omega arith))
  | no k ↦ elim (dec_lt u s) [
    | yes n ↦ (let p = h.rising u s n l in absurd (omega arith))
    | no n ↦ omega arith
  ]
]

-- Of the pairs of tokens only those of the position's kinds are completed, at the latest set.
record First (c : Chart) (ks : List ℕ) (k x : ℕ) : Type 0 where
  pub set : k ≡ c.last
  pub kind : Member x ks

only-first : {g : Grammar} {c : Chart} {ks : List ℕ} {k x : ℕ} {passes : ℕ → Type 0} → Accepted g → DoneFor g c ks passes k x → x < g.tokens → First c ks k x
only-first acc (DoneFor.scanned m r) l = record { set = refl; kind = m }
only-first acc (DoneFor.unary r d y x p) l = let k = no_token_lem acc r in absurd (omega arith)
only-first acc (DoneFor.closed r d z i p) l = let k = no_token_lem acc r in absurd (omega arith)

-- What is completed, and no token, is predicted where it begins.
done_predicted : {g : Grammar} {a : Positions} {waits passes : ℕ → Type 0} {c : Chart} {ks : List ℕ} {k x : ℕ} (h : HoldsFor g a waits c) → Kinds g ks
    → DoneFor g c ks passes k x → g.tokens ≤ x → Pred g a x (h.pos k)
done_predicted h s (DoneFor.scanned {t = t} m r) l = let k = s.tokens t m in absurd (omega arith)
done_predicted h s (DoneFor.unary r d y x p) l = h.row_true (live_set h (done_live d)) x
done_predicted {g} {a} h s (DoneFor.closed {o = o} r d z i p) l =
    subst (λ x. Pred g a x (h.pos o)) r.left (h.item_true (live_set h (done_live d)) i).predicted

-- The premises: the chart holds, the position may come, and a sieve tells what passes; what was linked is a pass over the kinds; every item has a handle, and each is exact for its rule's first
-- symbol; a linked token's node is its leaf, and a linked nonterminal's a Sum of exactly its summands.
module _ {g : Grammar} {a : Positions} {waits passes waits' : ℕ → Type 0} {c : Chart} {ks : List ℕ} (hs : Handles c)
    (acc : Accepted g) (h : HoldsFor g a waits c) (small : Kinds g ks) (due : Due g waits ks) (sieve : Sieve g passes waits')
    (pass : PassFor g c ks passes (Completed hs)) (node : ℕ → Node)
    (holding : (s o r : ℕ) → c.item s o r → Holding hs s o r)
    (old : (s o r p : ℕ) → s ≤ c.last → hs.held s o r p → ExactAt g (a ++ ks ∷ []) node (rule_at g r).first (h.pos o) (h.pos s) p)
    (leaves : (k t p : ℕ) → hs.linked k t p → t < g.tokens → node p ≡ token t)
    (sums : (k x p : ℕ) → hs.linked k x p → g.tokens ≤ x → SumOf node p (Summand g c hs k x)) where
  abbrev b : Positions
  b = a ++ ks ∷ []

  abbrev end : ℕ
  end = suc (length a)

  abbrev done : ℕ → ℕ → Type 0
  done = Completed hs

  abbrev complete : {k x p : ℕ} → hs.linked k x p → done k x
  complete {p = p} d = record { handle = p; linked = d }

  -- The set that stands where a set stands is that set.
  done_here : {k y q : ℕ} → Live c k → h.pos k ≡ q → DoneAt g c ks passes h.pos q y → done k y
  done_here {k} {y} l e d =
      subst (λ s. done s y) (same_set h d.set k (live_set h d.live) (live_set h l) (d.stands ∙ sym e)) (pass_all pass d.done)

  -- A completed pair's set is one of the sets.
  linked_set : {k x p : ℕ} → hs.linked k x p → k ≤ c.last
  linked_set d = live_set h (done_live (pass.sound (complete d)))

  -- One round more, from what is below.
  module _ (rounds : ℕ) (below : (k x p : ℕ) → hs.linked k x p → p < rounds → Exact g b x (h.pos k) end (listed node rounds p))
      (k x top : ℕ) (d : hs.linked k x top) (no_leaf : g.tokens ≤ x) (enough : top ≤ rounds) where
    abbrev IsSummand : Product → Type 0
    IsSummand = Summand g c hs k x

    abbrev s : SumOf node top IsSummand
    s = sums k x top d no_leaf

    abbrev under : Product → List Tree
    under = of_product (listed node rounds)

    -- What a product lists is a derivation.
    product-sound : (p : Product) → IsSummand p → Before top p → (e : Tree) → Member e (under p) → Grows g b e x (h.pos k) end
    product-sound (alone r p) (Summand.unary {y = y} says dy ry rx) before e m =
        let lo = before_one before in
        let o = member-map (one r) (listed node rounds p) m in
        subst (λ e. Grows g b e x (h.pos k) end) o.2 (Grows.unary says ((below k y p dy (omega arith)).sound o.0 o.1))
    product-sound (paired r p q) (Summand.closed {y = y} {z = z} {s = s} says dz rz i) before e m =
        let lo = before-left before in
        let hi = before-right before in
        let o = member_pairs (two r) (listed node rounds p) (listed node rounds q) m in
        let set = linked_set dz in
        let first : Grows g b o.first y (h.pos k) (h.pos s) =
        subst (λ y. Grows g b o.first y (h.pos k) (h.pos s)) says.first (((old s k r p set i).exact rounds (omega arith)).sound o.first o.in_first) in
        subst (λ e. Grows g b e x (h.pos k) end) o.is
        (Grows.binary says (item_two says (h.item_true set (hs.is_item i))) first ((below s z q dz (omega arith)).sound o.second o.in_second))

    -- It lists nothing twice.
    product-once : (p : Product) → IsSummand p → Before top p → Once (under p)
    product-once (alone r p) (Summand.unary {y = y} says dy ry rx) before =
        let lo = before_one before in
        once-map (one r) (λ u v i j e. ap left e) (below k y p dy (omega arith)).once
    product-once (paired r p q) (Summand.closed {z = z} {s = s} says dz rz i) before =
        let lo = before-left before in
        let hi = before-right before in
        once-pairs (two r) (λ u v d f e. ap left e) (λ u v d f e. ap right e) ((old s k r p (linked_set dz) i).exact rounds (omega arith)).once
        (below s z q dz (omega arith)).once

    -- Two products that list one tree are one product.
    apart : (p q : Product) (e : Tree) → IsSummand p → IsSummand q → Before top p → Before top q → Member e (under p) → Member e (under q) → p ≡ q
    apart (alone r p) (alone r' p') e (Summand.unary {y = y} says dy ry rx) (Summand.unary {y = y'} says' dy' ry' rx') before before' m m' =
        let o = member-map (one r) (listed node rounds p) m in
        let o' = member-map (one r') (listed node rounds p') m' in
        let rule : r ≡ r' = ap root (o.2 ∙ sym o'.2) in
        let link : p ≡ p' = hs.one_link dy (subst (λ n. hs.linked k n p') (sym (same_first rule says says')) dy') in
        λ i. alone (rule i) (link i)
    apart (alone r p) (paired r' p' q') e (Summand.unary says dy ry rx) (Summand.closed says' dz rz i) before before' m m' =
        let o = member-map (one r) (listed node rounds p) m in
        let o' = member_pairs (two r') (listed node rounds p') (listed node rounds q') m' in
        let clash : ◌≡◌ {A = ℕ} 1 2 = ap arity (o.2 ∙ sym o'.is) in
        absurd (omega arith)
    apart (paired r p q) (alone r' p') e (Summand.closed says dz rz i) (Summand.unary says' dy ry rx) before before' m m' =
        let o = member-map (one r') (listed node rounds p') m' in
        let o' = member_pairs (two r) (listed node rounds p) (listed node rounds q) m in
        let clash : ◌≡◌ {A = ℕ} 1 2 = ap arity (o.2 ∙ sym o'.is) in
        absurd (omega arith)
    apart (paired r p q) (paired r' p' q') e (Summand.closed {z = z} {s = s} says dz rz i) (Summand.closed {z = z'} {s = s'} says' dz' rz' i') before before' m m' =
        let lo = before-left before in
        let lo' = before-left before' in
        let o = member_pairs (two r) (listed node rounds p) (listed node rounds q) m in
        let o' = member_pairs (two r') (listed node rounds p') (listed node rounds q') m' in
        let rule : r ≡ r' = ap root (o.is ∙ sym o'.is) in
        let ends = ((old s k r p (linked_set dz) i).exact rounds (omega arith)).sound o.first o.in_first in
        let ends' = ((old s' k r' p' (linked_set dz') i').exact rounds (omega arith)).sound o'.first o'.in_first in
        let place : h.pos s ≡ h.pos s' =
        same_end ends (subst (λ u. Grows g b u (rule_at g r').first (h.pos k) (h.pos s')) (ap left (o'.is ∙ sym o.is)) ends') in
        let set : s ≡ s' = same_set h s s' (linked_set dz) (linked_set dz') place in
        let second : z ≡ z' = same_second rule says says' in
        let item : p ≡ p' = hs.one_held i (subst₂ (λ u n. hs.held u k n p') (sym set) (sym rule) i') in
        let link : q ≡ q' = hs.one_link dz (subst₂ (λ u n. hs.linked u n q') (sym set) (sym second) dz') in
        λ n. paired (rule n) (item n) (link n)

    -- Every derivation is listed by a product.
    record Listed (e : Tree) : Type 0 where
      pub product : Product
      pub is_summand_lem : IsSummand product
      pub lists : Before top product → Member e (under product)

    live : Live c k
    live = done_live (pass.sound (complete d))

    predicted : Pred g b x (h.pos k)
    predicted = pred_grows (ks ∷ []) (done_predicted h small (pass.sound (complete d)) no_leaf)

    passed : passes x
    passed = done_passes small (pass.sound (complete d)) no_leaf

    -- One symbol: it is predicted where its left side is, so it was completed there.
    one_listed : {r y : ℕ} (u : Tree) → Says g r x y none → Grows g b u y (h.pos k) end → Listed (one r u)
    one_listed {r} {y} u says gu =
        let first : Pred g b y (h.pos k) = Pred.first says predicted in
        let dy : done k y = done_here live refl (span_done h due sieve (grows_span gu) refl first (sieve.by_only says passed)) in
        record {
          product = alone r dy.handle;
          is_summand_lem = Summand.unary says dy.linked (row_of h due sieve live refl first (grows_span gu))
              (row_of h due sieve live refl predicted (Span.unary says (grows_span gu)));
          lists = λ before. let l = before_one before in map-member (one r) ((below k y dy.handle dy.linked (omega arith)).complete u gu);
        }

    -- Two: the second is predicted where the first ends, so it was completed at a live set there, which has the rule's item.
    two_listed : {r y z m : ℕ} (u v : Tree) → Says g r x y z → z ≢ none → Grows g b u y (h.pos k) m → Grows g b v z m end → Listed (two r u v)
    two_listed {r} {y} {z} {m} u v says two-symbols gu gv =
        let next : Pred g b z m = Pred.second says two-symbols predicted (grows_span gu) in
        let at : DoneAt g c ks passes h.pos m z = span_done h due sieve (grows_span gv) refl next (sieve.by_last says two-symbols passed) in
        let f : Found c h.pos at.set r (h.pos k) = item_of h due sieve at.live at.stands says two-symbols predicted (grows_span gu) (grows_span gv) in
        let older : f.origin < at.set = h.older (live_set h at.live) f.item in
        let inside : at.set ≤ c.last = live_set h at.live in
        let origin : f.origin ≡ k = same_set h f.origin k (omega arith) (live_set h live) f.stands in
        let i : Holding hs at.set k r = holding at.set k r (subst (λ o. c.item at.set o r) origin f.item) in
        let dz : done at.set z = pass_all pass at.done in
        let first : Grows g b u (rule_at g r).first (h.pos k) (h.pos at.set) =
        subst₂ (λ n p. Grows g b u n (h.pos k) p) (sym says.first) (sym at.stands) gu in
        let second : Grows g b v z (h.pos at.set) end = subst (λ p. Grows g b v z p end) (sym at.stands) gv in
        record {
          product = paired r i.handle dz.handle;
          is_summand_lem = Summand.closed says dz.linked (row_of h due sieve at.live at.stands next (grows_span gv)) i.held;
          lists = λ before.
              let lo = before-left before in
              let hi = before-right before in
              pairs_member (two r) (((old at.set k r i.handle inside i.held).exact rounds (omega arith)).complete u first)
              ((below at.set z dz.handle dz.linked (omega arith)).complete v second);
        }

    derivation-listed : {y i j : ℕ} (e : Tree) → Grows g b e y i j → y ≡ x → i ≡ h.pos k → j ≡ end → Listed e
    derivation-listed (leaf _) (Grows.token l m e s) is from to = absurd (omega arith)
    derivation-listed (one r u) (Grows.unary {y = y} says gu) is from to =
        one_listed u (subst (λ n. Says g r n y none) is says) (subst₂ (Grows g b u y) from to gu)
    derivation-listed (two r u v) (Grows.binary {y = y} {z = z} {k = m} says two-symbols gu gv) is from to =
        two_listed u v (subst (λ n. Says g r n y z) is says) two-symbols (subst (λ i. Grows g b u y i m) from gu) (subst (Grows g b v z m) to gv)

    -- So a Sum is exact,
    sum-exact : Exact g b x (h.pos k) end (flat_map under s.products)
    sum-exact = record {
      sound = λ e m.
          let o = member_joined under s.products m in
          product-sound o.from ((s.all o.from).0 o.member) (s.before o.from o.member) e o.made;
      complete = λ e gr.
          let o = derivation-listed e gr refl refl refl in
          let m = (s.all o.product).1 o.is_summand_lem in
          joined_member under m (o.lists (s.before o.product m));
      once = once-joined under s.once (λ p m. product-once p ((s.all p).0 m) (s.before p m))
          (λ p q e m n i j. apart p q e ((s.all p).0 m) ((s.all q).0 n) (s.before p m) (s.before q n) i j);
    }

  -- and so is a leaf.
  leaf_grows : (t : ℕ) → Member t ks → Grows g b (leaf t) t (h.pos c.last) end
  leaf_grows t m =
      let e : h.pos c.last ≡ length a = h.ends in
      let l : h.pos c.last < length b = omega (arith, length-append a (ks ∷ [])) in
      let s : end ≡ suc (h.pos c.last) = omega arith in
      Grows.token (small.tokens t m) l (subst (Member t) (sym (ap (λ n. get_or b n []) e ∙ get_or-append_seam a ks [] [])) m) s

  leaf-complete : {y i j : ℕ} (t : ℕ) (d : Tree) → t < g.tokens → Grows g b d y i j → y ≡ t → Member d (leaf t ∷ [])
  leaf-complete t _ n (Grows.token l m e s) is = here (ap leaf is)
  leaf-complete t _ n (Grows.unary r d) is = let k = no_token_lem acc r in absurd (omega arith)
  leaf-complete t _ n (Grows.binary r m d e) is = let k = no_token_lem acc r in absurd (omega arith)

  leaf-exact : (t : ℕ) → Member t ks → Exact g b t (h.pos c.last) end (leaf t ∷ [])
  leaf-exact t m = record {
    sound = λ d i. subst (λ e. Grows g b e t (h.pos c.last) end) (sym (only i)) (leaf_grows t m);
    complete = λ d gr. leaf-complete t d (small.tokens t m) gr refl;
    once = more (λ d i. absurd (no_member i)) nothing;
  }

  -- THE FOREST IS EXACT: under the handle of a completed pair are the derivations of its symbol over its stretch, each once.
  pub forest_exact : (rounds k x p : ℕ) → hs.linked k x p → p < rounds → Exact g b x (h.pos k) end (listed node rounds p)
  forest_exact zero k x p d l = absurd (omega arith)
  forest_exact (suc rounds) k x p d l = elim (dec_lt x g.tokens) [
    | yes small-x ↦
        (let f = only-first acc (pass.sound (complete d)) small-x in
        subst (λ k. Exact g b x (h.pos k) end (of_node (listed node rounds) (node p))) (sym f.set)
        (subst (λ n. Exact g b x (h.pos c.last) end (of_node (listed node rounds) n)) (sym (leaves k x p d small-x)) (leaf-exact x f.kind)))
    | no big ↦
        (let no_leaf : g.tokens ≤ x = omega arith in
        subst (λ n. Exact g b x (h.pos k) end (of_node (listed node rounds) n)) (sym (sums k x p d no_leaf).stands)
        (sum-exact rounds (λ k x p d l. forest_exact rounds k x p d l) k x p d no_leaf (omega arith)))
  ]
