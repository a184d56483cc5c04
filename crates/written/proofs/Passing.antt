-- The translated grammar is one that the check takes, field by field.
use mathlib.Core.Path.{◌≡◌, refl, sym, ap, subst, ◌∙◌}
use mathlib.Core.Bool.{Bool, ◌&&◌}
use mathlib.Core.List.{List, [], ◌∷◌, ◌++◌}
use mathlib.Core.Logic.{◌⊎◌, inl, inr, ⊎_elim}
use Prim.Native.Nat.{ℕ, zero, suc, ◌+◌, ◌≤◌, ◌<◌}
use native.Mathlib.Decide.{dec_lt}
use native.Mathlib.Omega.{arith}
use lib.ListN.{length, get_or}
use Rattle.grammar.specs.Rules.{Rule, Grammar, Says, none, no_rule, rule_count, rule_at, start, wrapper}
use Rattle.grammar.specs.Sentences.{Derives}
use Rattle.grammar.specs.Accepted as accepted
use Rattle.written.specs.Lists.{In, Each}
use Rattle.written.specs.Lists.In.{here, there}
use Rattle.written.specs.Lists.Each.{end, and}
use Rattle.written.specs.Written.{WrittenRule, Tokens, symbol_count}
use Rattle.written.specs.Written.Tokens.{one_more}
use Rattle.written.specs.Refusals.{Stays, Reachable}
use Rattle.written.specs.Split.{pair, joined, split}
use Rattle.written.specs.Translation.{places, new_symbols, all_new, splits, blocks}
use Rattle.written.proofs.Lists.{each_in, each_part, at_in, no_twice_at, Before, before_one_way}
use Rattle.written.proofs.Splitting.{Has}
use Rattle.written.proofs.Listing.{blocks-once, in_blocks, rules_parts}
use Rattle.written.proofs.Leading.{Names, Follows, pairwise_at, blocks_follow}
use Rattle.written.proofs.Numbers.{number_onto}
use Rattle.written.proofs.Knowing.{Known, new, first, top, in_writes, token-number, number-nonterminal, number-kept-low, number_no_none, kept-left, places-kept, places_in, in_places, token_or_not}
use Rattle.written.proofs.Fair.{Fair, Kept}
use Rattle.written.proofs.Translating.{list, order, file, listed_fair, order-once, order_names, list_once, behind-listed, parts_has, start-kept, number-derives, split-there}

module _ (c : Known) where
  abbrev G : Grammar
  G = file c

  abbrev rest : List Rule
  rest = blocks (list c) (order c)

  -- A rule behind rule 0 is fair.
  fair_at : (p : ℕ) → p < length rest → Fair c (get_or rest p no_rule)
  fair_at p h = listed_fair c (behind-listed c p h)

  -- T is at least 1: the string that S derives has a token.
  a_token : 1 ≤ c.w.tokens
  a_token = first-token s.string s.gives.tokens s.filled
    where
      s : Stays c.w c.w.start
      s = c.sound.sentence

      first-token : (u : List ℕ) → Tokens c.w u → (u ≡ [] → ⊥) → 1 ≤ c.w.tokens
      first-token [] t n = absurd (n refl)
      first-token (x ∷ u) (one_more h t) n = omega arith

  start-low : (c.w.tokens ≤ new c c.w.start) × (new c c.w.start < top c)
  start-low =
      (number-nonterminal c c.w.start c.lawful.start, let h = number-kept-low c c.w.start (start-kept c) in omega arith)

  few : top c + 2 ≤ accepted.max_symbols
  few = c.few

  wrapper_is : wrapper G ≡ top c
  wrapper_is = omega arith

  nonterminal : (a : ℕ) → c.w.tokens ≤ a → a < top c → accepted.Nonterminal G a
  nonterminal a l h = record { no_token_lem = l; no_wrapper = omega (arith, wrapper_is) }

  -- Two rules behind rule 0.
  follows_at : (q r : ℕ) → q < r → r < length rest → Follows (order c) (get_or rest q no_rule) (get_or rest r no_rule)
  follows_at q r h l = pairwise_at rest no_rule q r (blocks_follow (list c) (order c)) h l

  adjacent-behind : (q r s : ℕ) → q < r → r < s → s < length rest → (get_or rest q no_rule).left ≡ (get_or rest s no_rule).left
      → (get_or rest q no_rule).left ≡ (get_or rest r no_rule).left
  adjacent-behind q r s h k l e = by (follows_at q r h (omega arith)) (follows_at r s k l)
    where
      by : Follows (order c) (get_or rest q no_rule) (get_or rest r no_rule) → Follows (order c) (get_or rest r no_rule) (get_or rest s no_rule)
          → (get_or rest q no_rule).left ≡ (get_or rest r no_rule).left
      by (Follows.same x) y = x
      by (Follows.before x) (Follows.same y) = e ∙ sym y
      by (Follows.before x) (Follows.before y) =
          absurd (before_one_way (order c) (order-once c) x (subst (λ (a : ℕ). Before (get_or rest r no_rule).left a (order c)) (sym e) y))

  adjacent : (q r s : ℕ) → q < r → r < s → s < rule_count G → (rule_at G q).left ≡ (rule_at G s).left → (rule_at G q).left ≡ (rule_at G r).left
  adjacent q zero s h k l e = absurd (omega arith)
  adjacent q (suc r) zero h k l e = absurd (omega arith)
  adjacent zero (suc r) (suc s) h k l e = absurd (let f = (fair_at s (omega arith)).left-low in omega arith)
  adjacent (suc q) (suc r) (suc s) h k l e = adjacent-behind q r s (omega arith) (omega arith) (omega arith) e

  distinct : (q r : ℕ) → q < r → r < rule_count G → rule_at G q ≡ rule_at G r → ⊥
  distinct q zero h l e = omega arith
  distinct zero (suc r) h l e = let f = (fair_at r (omega arith)).left-low in let x = ap (λ (y : Rule). y.left) e in omega arith
  distinct (suc q) (suc r) h l e =
      no_twice_at rest no_rule q r (blocks-once (list c) (order c) (list_once c) (order-once c)) (omega arith) (omega arith) e

  -- Where A ::= B alone, every rule of B stands behind.
  names_at : (p : ℕ) → p < length rest → (get_or rest p no_rule).second ≡ none → Names (list c) (get_or rest p no_rule).left (get_or rest p no_rule).first
  names_at p h e = record { rule-there = subst (λ (q : Rule). In q (list c)) (rules_parts refl refl e) (behind-listed c p h) }

  below-behind : (r s : ℕ) → r < length rest → s < length rest → (get_or rest r no_rule).second ≡ none
      → (get_or rest s no_rule).left ≡ (get_or rest r no_rule).first → s ≤ r → ⊥
  below-behind r s h k e x l =
      let u : Names (list c) (get_or rest r no_rule).left (get_or rest s no_rule).left =
      subst (λ (b : ℕ). Names (list c) (get_or rest r no_rule).left b) (sym x) (names_at r h e) in
      let first : Before (get_or rest r no_rule).left (get_or rest s no_rule).left (order c) =
      order_names c (get_or rest r no_rule).left (get_or rest s no_rule).left u (ordered-left s k) in
      elim (dec_lt s r) [
        | yes lt ↦ by_follows first (follows_at s r lt h)
        | no ge ↦ same_place first ge
      ]
    where
      ordered-left : (p : ℕ) → p < length rest → In (get_or rest p no_rule).left (order c)
      ordered-left p b = (in_blocks (list c) (order c) (at_in rest p no_rule b)).left

      twice : {a b : ℕ} → Before a b (order c) → a ≡ b → ⊥
      twice {a} {b} p q = before_one_way (order c) (order-once c) p (subst (λ (y : ℕ). Before b y (order c)) (sym q) (subst (λ (y : ℕ). Before y b (order c)) q p))

      by_follows : Before (get_or rest r no_rule).left (get_or rest s no_rule).left (order c) → Follows (order c) (get_or rest s no_rule) (get_or rest r no_rule) → ⊥
      by_follows p (Follows.same q) = twice p (sym q)
      by_follows p (Follows.before q) = before_one_way (order c) (order-once c) p q

      same_place : Before (get_or rest r no_rule).left (get_or rest s no_rule).left (order c) → (s < r → ⊥) → ⊥
      same_place p ge = let e : r ≡ s = omega arith in twice p (ap (λ (y : ℕ). (get_or rest y no_rule).left) e)

  unary_below : (r s : ℕ) → r < rule_count G → s < rule_count G → (rule_at G r).second ≡ none → (rule_at G s).left ≡ (rule_at G r).first → r < s
  unary_below zero s h k e x = absurd (omega (arith, few))
  unary_below (suc r) zero h k e x = absurd (let f = (fair_at r (omega arith)).first-low in omega arith)
  unary_below (suc r) (suc s) h k e x = elim (dec_lt r s) [
    | yes l ↦ omega arith
    | no g ↦ absurd (below-behind r s (omega arith) (omega arith) e x (omega arith))
  ]

  -- New symbols: what holds of those of each written rule holds of all.
  new-each : (P : ℕ → Type 0) (rules : List WrittenRule) (next : ℕ)
      → ((r : WrittenRule) → In r rules → (k : ℕ) → Each (Has G (new c) c.empty) (split (new c) c.empty (new c r.left) (places c.keep r.right) k)
      → (n : ℕ) → k ≤ n → n < k + new_symbols (places c.keep r.right) → P n)
      → Each (Has G (new c) c.empty) (splits c.keep c.empty rules next) → (n : ℕ) → next ≤ n → n < next + all_new c.keep rules → P n
  unfolding splits all_new
  new-each P [] next f e n l h = absurd (omega arith)
  new-each P (r ∷ rules) next f e n l h =
      let here-next : ℕ = next + new_symbols (places c.keep r.right) in
      let p = each_part (split (new c) c.empty (new c r.left) (places c.keep r.right) next) (splits c.keep c.empty rules here-next) e in
      elim (dec_lt n here-next) [
        | yes b ↦ f r here next p.0 n l b
        | no g ↦ new-each P rules here-next (λ q i. f q (there i)) p.1 n (omega arith) (omega arith)
      ]

  -- Every symbol that stays derives a string.
  kept-productive : (x : ℕ) → Kept c x → accepted.Productive G (new c x)
  kept-productive x k =
      let s = (c.keeps x).if_yes k in
      record { string = s.string; derives = number-derives c x s.string s.gives s.filled }

  -- A new symbol joins what the places derive that it stands for.
  pair-productive : (a head x : ℕ) (e f : Bool) → Each (Has G (new c) c.empty) (pair a head (new c x) e f) → accepted.Productive G head → Kept c x → accepted.Productive G a
  unfolding pair
  pair-productive a head x e f (and h t) p k =
      let q = kept-productive x k in
      record { string = p.string ++ q.string; derives = Derives.binary h.says (number_no_none c x) p.derives q.derives }

  joined-productive : (a head : ℕ) (e : Bool) (l : List ℕ) (next : ℕ) → Each (Has G (new c) c.empty) (joined (new c) c.empty a head e l next)
      → accepted.Productive G head → Each (Kept c) l → (n : ℕ) → next ≤ n → suc n < next + length l → accepted.Productive G n
  unfolding joined
  joined-productive a head e [] next hs p ks n b h = absurd (omega arith)
  joined-productive a head e (x ∷ []) next hs p ks n b h = absurd (omega arith)
  joined-productive a head e (x ∷ y ∷ l) next hs p (and k ks) n b h =
      let parted = each_part (pair next head (new c x) e (c.empty x)) (joined (new c) c.empty a next (e && c.empty x) (y ∷ l) (suc next)) hs in
      let this : accepted.Productive G next = pair-productive next head x e (c.empty x) parted.0 p k in
      elim (dec_lt next n) [
        | yes lt ↦ joined-productive a next (e && c.empty x) (y ∷ l) (suc next) parted.1 this ks n lt (omega arith)
        | no ge ↦ subst (accepted.Productive G) (omega arith) this
      ]

  split-productive : (a : ℕ) (l : List ℕ) (next : ℕ) → Each (Has G (new c) c.empty) (split (new c) c.empty a l next) → Each (Kept c) l
      → (n : ℕ) → next ≤ n → n < next + new_symbols l → accepted.Productive G n
  unfolding split
  split-productive a [] next hs ks n b h = absurd (omega arith)
  split-productive a (x ∷ []) next hs ks n b h = absurd (omega arith)
  split-productive a (x ∷ y ∷ l) next hs (and k ks) n b h = joined-productive a (new c x) (c.empty x) (y ∷ l) next hs (kept-productive x k) ks n b (omega arith)

  productive : (a : ℕ) → accepted.Nonterminal G a → accepted.Productive G a
  productive a n = elim (dec_lt a (first c)) [
    | yes l ↦ let x = number_onto c.keep (symbol_count c.w) a l in subst (accepted.Productive G) x.is (kept-productive x.symbol x.stays)
    | no g ↦ new-each (accepted.Productive G) c.w.rules (first c)
        (λ r i k hs. split-productive (new c r.left) (places c.keep r.right) k hs (places-kept c.keep r.right))
        (parts_has c) a (omega arith) (low a n)
  ]
    where
      low : (x : ℕ) → accepted.Nonterminal G x → x < first c + all_new c.keep c.w.rules
      low x m = omega (arith, m.no_wrapper, wrapper_is)

  -- Whatever S has, and what each rule hands on from its left side to its right side, every nonterminal has: so each is reachable from S.
  module _ (R : ℕ → Type 0) (begins : R (start G)) (on : (r a b d : ℕ) → Says G r a b d → R a → R b × ((d ≡ none → ⊥) → R d)) where
    pair-reached : (a head x : ℕ) (e f : Bool) → Each (Has G (new c) c.empty) (pair a head (new c x) e f) → R a → R head × R (new c x)
    unfolding pair
    pair-reached a head x e f (and h t) p = let q = on h.number a head (new c x) h.says p in (q.0, q.1 (number_no_none c x))

    record Joined (head : ℕ) (l : List ℕ) (next : ℕ) : Type 0 where
      head-reached : R head
      places-reached : Each (λ (y : ℕ). R (new c y)) l
      new-reached : (n : ℕ) → next ≤ n → suc n < next + length l → R n

    joined-reached : (a head : ℕ) (e : Bool) (x : ℕ) (l : List ℕ) (next : ℕ) → Each (Has G (new c) c.empty) (joined (new c) c.empty a head e (x ∷ l) next)
        → R a → Joined head (x ∷ l) next
    unfolding joined
    joined-reached a head e x [] next hs p =
        let q = pair-reached a head x e (c.empty x) hs p in
        record { head-reached = q.0; places-reached = and q.1 end; new-reached = λ n b h. absurd (omega arith) }
    joined-reached a head e x (y ∷ l) next hs p =
        let parted = each_part (pair next head (new c x) e (c.empty x)) (joined (new c) c.empty a next (e && c.empty x) (y ∷ l) (suc next)) hs in
        let j = joined-reached a next (e && c.empty x) y l (suc next) parted.1 p in
        let q = pair-reached next head x e (c.empty x) parted.0 j.head-reached in
        record {
          head-reached = q.0;
          places-reached = and q.1 j.places-reached;
          new-reached = λ n b h. elim (dec_lt next n) [
            | yes lt ↦ j.new-reached n lt (omega arith)
            | no ge ↦ subst R (omega arith) j.head-reached
          ];
        }

    record SplitReached (l : List ℕ) (next : ℕ) : Type 0 where
      places-reached : Each (λ (y : ℕ). R (new c y)) l
      new-reached : (n : ℕ) → next ≤ n → n < next + new_symbols l → R n

    split-reached : (a : ℕ) (l : List ℕ) (next : ℕ) → Each (Has G (new c) c.empty) (split (new c) c.empty a l next) → R a → SplitReached l next
    unfolding split
    split-reached a [] next hs p = record { places-reached = end; new-reached = λ n b h. absurd (omega arith) }
    split-reached a (x ∷ []) next (and h t) p =
        record { places-reached = and (on h.number a (new c x) none h.says p).0 end; new-reached = λ n b k. absurd (omega arith) }
    split-reached a (x ∷ y ∷ l) next hs p =
        let j = joined-reached a (new c x) (c.empty x) y l next hs p in
        record { places-reached = and j.head-reached j.places-reached; new-reached = λ n b h. j.new-reached n b (omega arith) }

    number-reached : {x : ℕ} → Reachable c.w x → Kept c x → R (new c x)
    number-reached Reachable.from_start k = begins
    number-reached (Reachable.by_rule {a = a} {x = x} {ω = ω} h p i) k =
        let s = split-there c h in
        let q = number-reached p (kept-left c h i k) in
        each_in (split-reached (new c a) (places c.keep ω) s.next s.has q).places-reached (in_places c.keep i k)

    nonterminal_of : (x : ℕ) → x < symbol_count c.w → c.w.tokens ≤ new c x → Reachable c.w x
    nonterminal_of x h l = ⊎_elim (λ t. absurd (token x t l)) (λ n. c.sound.reachable x n) (token_or_not c.w x h)
      where
        token : (t : ℕ) → t < c.w.tokens → c.w.tokens ≤ new c t → ⊥
        token t b m = let e = token-number c t b in omega arith

    new_of_lem : (r : WrittenRule) → In r c.w.rules → (k : ℕ) → Each (Has G (new c) c.empty) (split (new c) c.empty (new c r.left) (places c.keep r.right) k)
        → (n : ℕ) → k ≤ n → n < k + new_symbols (places c.keep r.right) → R n
    new_of_lem r i k hs n b h =
        let wr = in_writes c.w i in
        let some : In (get_or (places c.keep r.right) 0 0) (places c.keep r.right) = at_in (places c.keep r.right) 0 0 (omega arith) in
        let kept : Kept c r.left =
        kept-left c wr.writes (places_in c.keep r.right some) (each_in (places-kept c.keep r.right) some) in
        (split-reached (new c r.left) (places c.keep r.right) k hs
        (number-reached (c.sound.reachable r.left (c.lawful.left wr.writes)) kept)).new-reached n b h

    pub all-reached : (a : ℕ) → accepted.Nonterminal G a → R a
    all-reached a m = elim (dec_lt a (first c)) [
      | yes l ↦
          let x = number_onto c.keep (symbol_count c.w) a l in
          subst R x.is (number-reached (nonterminal_of x.symbol x.below (subst (λ (k : ℕ). c.w.tokens ≤ k) (sym x.is) m.no_token_lem)) x.stays)
      | no g ↦ new-each R c.w.rules (first c) new_of_lem (parts_has c) a (omega arith) (low a m)
    ]
      where
        low : (x : ℕ) → accepted.Nonterminal G x → x < first c + all_new c.keep c.w.rules
        low x k = omega (arith, k.no_wrapper, wrapper_is)

  -- What the check asks.
  pub passes : rule_count G ≤ accepted.max_rules → accepted.Accepted G
  passes few_rules = record {
    a_token = a_token;
    room = omega (arith, start-low.0, start-low.1);
    few_symbols = few;
    a_rule = omega arith;
    few_rules = few_rules;
    wraps = record { there = omega arith; left = sym wrapper_is; first = refl; second = omega arith };
    starts = nonterminal (new c c.w.start) start-low.0 start-low.1;
    lefts = lefts;
    firsts = firsts;
    seconds = seconds;
    adjacent = adjacent;
    distinct = distinct;
    unary_below = unary_below;
    productive = productive;
    reachable = all-reached (accepted.Reachable G) accepted.Reachable.from_start (λ r a b d says p. (accepted.Reachable.by_first says p, λ some. accepted.Reachable.by_second says some p));
  }
    where
      lefts : (r : ℕ) → 0 < r → r < rule_count G → accepted.Nonterminal G (rule_at G r).left
      lefts zero z l = absurd (omega arith)
      lefts (suc r) z l = let f = fair_at r (omega arith) in nonterminal (get_or rest r no_rule).left f.no_token_lem f.left-low

      firsts : (r : ℕ) → 0 < r → r < rule_count G → (rule_at G r).first < wrapper G
      firsts zero z l = absurd (omega arith)
      firsts (suc r) z l = let f = (fair_at r (omega arith)).first-low in omega (arith, wrapper_is)

      seconds : (r : ℕ) → 0 < r → r < rule_count G → ((rule_at G r).second ≡ none) ⊎ ((rule_at G r).second < wrapper G)
      seconds zero z l = absurd (omega arith)
      seconds (suc r) z l = ⊎_elim inl (λ (f : (get_or rest r no_rule).second < top c). inr (omega (arith, wrapper_is))) (fair_at r (omega arith)).second-low
