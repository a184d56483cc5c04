-- Small grammars of which it is computed that the check accepts them, and what their prediction table is.
use mathlib.Core.Path.{◌≡◌, refl, sym, ap, ap₂, ◌∙◌, subst}
use mathlib.Core.Bool.{Bool, true, false, ◌&&◌, ◌||◌, not}
use mathlib.Core.Logic.{◌⊎◌, inl, inr, ⊎_elim}
use mathlib.Core.List.{[], ◌∷◌, ◌++◌}
use Prim.Native.Nat.{ℕ, zero, suc, ◌+◌, ◌-◌, ◌<◌}
use native.Mathlib.Decide.{ℕ_discrete}
use native.Mathlib.Omega.{arith}
use lib.Dec.{eqb, ltb, leb}
use borrow.Author.Tests.{ltb-true, leb-true, eqb-true, eqb-false, lt-ltb, le-leb, eq-eqb, not-true}
use Rattle.laws.proofs.Decides.{false_true}
use Rattle.laws.proofs.Tests.{both_true}
use Rattle.grammar.specs.Rules.{Rule, Grammar, Says, none, rule_count, rule_at, wrapper, end_mark, start}
use Rattle.grammar.specs.Sentences.{Derives}
use Rattle.grammar.specs.Accepted.{Accepted, Nonterminal, Productive, Reachable, max_symbols, max_rules}

-- One of two tests passes; one passes where the other does.
pub one_true : (a b : Bool) → (a || b) ≡ true → (a ≡ true) ⊎ (b ≡ true)
one_true true b e = inl refl
one_true false b e = inr e

abbrev pub implies : Bool → Bool → Bool
implies a b = not a || b

pub implied : (a b : Bool) → implies a b ≡ true → a ≡ true → b ≡ true
implied true b e h = e
implied false b e h = absurd (false_true h)

-- A test passes for each number below `n`, or for some.
unfoldable pub every : ℕ → (ℕ → Bool) → Bool
every zero test = true
every (suc n) test = test n && every n test

unfoldable pub some : ℕ → (ℕ → Bool) → Bool
some zero test = false
some (suc n) test = test n || some n test

pub every_at : (n : ℕ) (test : ℕ → Bool) → every n test ≡ true → (r : ℕ) → r < n → test r ≡ true
unfolding every
every_at zero test e r l = absurd (omega arith)
every_at (suc n) test e r l = elim (ℕ_discrete r n) [
  | yes here ↦ ap test here ∙ (both_true (test n) (every n test) e).0
  | no d ↦ every_at n test (both_true (test n) (every n test) e).1 r (omega arith)
]

pub record Found (n : ℕ) (test : ℕ → Bool) : Type 0 where
  pub number : ℕ
  pub low : number < n
  pub passes : test number ≡ true

pub found : (n : ℕ) (test : ℕ → Bool) → some n test ≡ true → Found n test
unfolding some
found zero test e = absurd (false_true e)
found (suc n) test e =
    ⊎_elim
    (λ (h : test n ≡ true). record { number = n; low = omega arith; passes = h })
    (λ (h : some n test ≡ true). let f : Found n test = found n test h in record { number = f.number; low = omega (arith, f.low); passes = f.passes })
    (one_true (test n) (some n test) e)

-- The second test where the first passes.
pub guarded : (a b : Bool) → elim a [ true ↦ b | false ↦ false ] ≡ true → (a ≡ true) × (b ≡ true)
guarded true b e = (refl, e)
guarded false b e = absurd (false_true e)

module _ (g : Grammar) where
  -- Symbols that derive a string of tokens, by rules one below the other, `depth` of them at the most.
  unfoldable pub yields : ℕ → ℕ → Bool
  yields zero x = ltb x g.tokens
  yields (suc depth) x =
      ltb x g.tokens
      || some (rule_count g)
      (λ r.
      elim (eqb (rule_at g r).left x) [
        | true ↦ yields depth (rule_at g r).first && (eqb (rule_at g r).second none || yields depth (rule_at g r).second)
        | false ↦ false
      ])

  yields_token : (x : ℕ) → ltb x g.tokens ≡ true → Productive g x
  yields_token x e = record { string = x ∷ []; derives = Derives.token (ltb-true x g.tokens e) }

  yields_productive : (depth x : ℕ) → yields depth x ≡ true → Productive g x
  unfolding yields
  yields_productive zero x e = yields_token x e
  yields_productive (suc depth) x e =
      ⊎_elim (yields_token x)
      (λ (h : some (rule_count g) _ ≡ true).
      let f = found (rule_count g) _ h in
      by_rule f.number f.low (guarded (eqb (rule_at g f.number).left x) _ f.passes)
      (λ e'. yields_productive depth (rule_at g f.number).first e') (λ e'. yields_productive depth (rule_at g f.number).second e'))
      (one_true (ltb x g.tokens) _ e)
    where
      by_rule : (r : ℕ) → r < rule_count g
          → (eqb (rule_at g r).left x ≡ true) × ((yields depth (rule_at g r).first && (eqb (rule_at g r).second none || yields depth (rule_at g r).second)) ≡ true)
          → (yields depth (rule_at g r).first ≡ true → Productive g (rule_at g r).first) → (yields depth (rule_at g r).second ≡ true → Productive g (rule_at g r).second) → Productive g x
      by_rule r l h first second =
          let says : Says g r x (rule_at g r).first (rule_at g r).second = record { there = l; left = eqb-true (rule_at g r).left x h.0; first = refl; second = refl } in
          let both = both_true (yields depth (rule_at g r).first) (eqb (rule_at g r).second none || yields depth (rule_at g r).second) h.1 in
          let one : Productive g (rule_at g r).first = first both.0 in
          elim (ℕ_discrete (rule_at g r).second none) [
            | yes e ↦ record { string = one.string; derives = Derives.unary (subst (Says g r x (rule_at g r).first) e says) one.derives }
            | no n ↦
                let two : Productive g (rule_at g r).second =
                second (⊎_elim (λ (e : eqb (rule_at g r).second none ≡ true). absurd (n (eqb-true (rule_at g r).second none e))) (λ (e : yields depth (rule_at g r).second ≡ true). e) (one_true (eqb (rule_at g r).second none) (yields depth (rule_at g r).second) both.1)) in
                record { string = one.string ++ two.string; derives = Derives.binary says n one.derives two.derives }
          ]

  -- Symbols that S reaches by rules one below the other, `depth` of them at the most.
  abbrev on_right : ℕ → ℕ → Bool
  on_right r x = eqb (rule_at g r).first x || (eqb (rule_at g r).second x && not (eqb x none))

  unfoldable pub reaches : ℕ → ℕ → Bool
  reaches zero x = eqb (start g) x
  reaches (suc depth) x = eqb (start g) x || some (rule_count g) (λ r. elim (on_right r x) [ true ↦ reaches depth (rule_at g r).left | false ↦ false ])

  reaches-start : (x : ℕ) → eqb (start g) x ≡ true → Reachable g x
  reaches-start x e = subst (Reachable g) (eqb-true (start g) x e) Reachable.from_start

  reaches-reachable : (depth x : ℕ) → reaches depth x ≡ true → Reachable g x
  unfolding reaches
  reaches-reachable zero x e = reaches-start x e
  reaches-reachable (suc depth) x e =
      ⊎_elim (reaches-start x)
      (λ (h : some (rule_count g) _ ≡ true).
      let f = found (rule_count g) _ h in
      let used = guarded (on_right f.number x) _ f.passes in
      by_rule f.number f.low used.0 (reaches-reachable depth (rule_at g f.number).left used.1))
      (one_true (eqb (start g) x) _ e)
    where
      by_rule : (r : ℕ) → r < rule_count g → on_right r x ≡ true → Reachable g (rule_at g r).left → Reachable g x
      by_rule r l e left =
          ⊎_elim
          (λ (h : eqb (rule_at g r).first x ≡ true).
          Reachable.by_first (record { there = l; left = refl; first = eqb-true (rule_at g r).first x h; second = refl }) left)
          (λ (h : (eqb (rule_at g r).second x && not (eqb x none)) ≡ true).
          let both = both_true (eqb (rule_at g r).second x) (not (eqb x none)) h in
          Reachable.by_second (record { there = l; left = refl; first = refl; second = eqb-true (rule_at g r).second x both.0 })
          (eqb-false x none (not-true (eqb x none) both.1)) left)
          (one_true (eqb (rule_at g r).first x) (eqb (rule_at g r).second x && not (eqb x none)) e)

  -- What the check asks of rules, as tests.
  abbrev inner : ℕ → Bool
  inner x = leb g.tokens x && ltb x (wrapper g)

  abbrev ends : ℕ → Bool
  ends r = eqb (rule_at g r).second none || ltb (rule_at g r).second (wrapper g)

  abbrev adjacent : ℕ → ℕ → ℕ → Bool
  adjacent q r s = implies (ltb q r && (ltb r s && eqb (rule_at g q).left (rule_at g s).left)) (eqb (rule_at g q).left (rule_at g r).left)

  abbrev same : ℕ → ℕ → Bool
  same q r = eqb (rule_at g q).left (rule_at g r).left && (eqb (rule_at g q).first (rule_at g r).first && eqb (rule_at g q).second (rule_at g r).second)

  abbrev below : ℕ → ℕ → Bool
  below r s = implies (eqb (rule_at g r).second none && eqb (rule_at g s).left (rule_at g r).first) (ltb r s)

  abbrev rules : ℕ
  rules = rule_count g

  -- The tests pass.
  pub record Passes : Type 0 where
    pub a_token : leb 1 g.tokens ≡ true
    pub room : leb (g.tokens + 3) g.symbols ≡ true
    pub few_symbols : leb g.symbols max_symbols ≡ true
    pub a_rule : leb 1 rules ≡ true
    pub few_rules : leb rules max_rules ≡ true
    pub wraps : eqb (rule_at g 0).left (wrapper g) ≡ true
    pub ends_wrap : eqb (rule_at g 0).second (end_mark g) ≡ true
    pub starts : inner (start g) ≡ true
    pub lefts : every rules (λ r. implies (ltb 0 r) (inner (rule_at g r).left)) ≡ true
    pub firsts : every rules (λ r. implies (ltb 0 r) (ltb (rule_at g r).first (wrapper g))) ≡ true
    pub seconds : every rules (λ r. implies (ltb 0 r) (ends r)) ≡ true
    pub adjacents : every rules (λ q. every rules (λ r. every rules (adjacent q r))) ≡ true
    pub distincts : every rules (λ q. every rules (λ r. implies (ltb q r) (not (same q r)))) ≡ true
    pub unary_belows : every rules (λ r. every rules (below r)) ≡ true
    pub productives : every (wrapper g) (λ a. implies (leb g.tokens a) (yields (wrapper g - g.tokens) a)) ≡ true
    pub reachables : every (wrapper g) (λ a. implies (leb g.tokens a) (reaches (wrapper g - g.tokens) a)) ≡ true

  is_inner : (x : ℕ) → inner x ≡ true → Nonterminal g x
  is_inner x e =
      let b = both_true (leb g.tokens x) (ltb x (wrapper g)) e in
      record { no_token_lem = leb-true g.tokens x b.0; no_wrapper = ltb-true x (wrapper g) b.1 }

  -- What a test says of each rule but rule 0.
  other : (test : ℕ → Bool) → every rules (λ r. implies (ltb 0 r) (test r)) ≡ true → (r : ℕ) → 0 < r → r < rules → test r ≡ true
  other test e r z l = implied (ltb 0 r) (test r) (every_at rules (λ r. implies (ltb 0 r) (test r)) e r l) (lt-ltb 0 r z)

  -- What a test says of each nonterminal.
  each : (test : ℕ → Bool) → every (wrapper g) (λ a. implies (leb g.tokens a) (test a)) ≡ true → (a : ℕ) → Nonterminal g a → test a ≡ true
  each test e a is =
      implied (leb g.tokens a) (test a) (every_at (wrapper g) (λ a. implies (leb g.tokens a) (test a)) e a is.no_wrapper) (le-leb g.tokens a is.no_token_lem)

  -- A GRAMMAR IS ACCEPTED where the tests pass.
  pub passes_accepted : Passes → Accepted g
  passes_accepted t = record {
    a_token = leb-true 1 g.tokens t.a_token;
    room = leb-true (g.tokens + 3) g.symbols t.room;
    few_symbols = leb-true g.symbols max_symbols t.few_symbols;
    a_rule = leb-true 1 rules t.a_rule;
    few_rules = leb-true rules max_rules t.few_rules;
    wraps = record {
      there = leb-true 1 rules t.a_rule;
      left = eqb-true (rule_at g 0).left (wrapper g) t.wraps;
      first = refl;
      second = eqb-true (rule_at g 0).second (end_mark g) t.ends_wrap;
    };
    starts = is_inner (start g) t.starts;
    lefts = λ r z l. is_inner (rule_at g r).left (other (λ r. inner (rule_at g r).left) t.lefts r z l);
    firsts = λ r z l. ltb-true (rule_at g r).first (wrapper g) (other (λ r. ltb (rule_at g r).first (wrapper g)) t.firsts r z l);
    seconds = λ r z l.
        ⊎_elim
        (λ (h : eqb (rule_at g r).second none ≡ true). inl (eqb-true (rule_at g r).second none h))
        (λ (h : ltb (rule_at g r).second (wrapper g) ≡ true). inr (ltb-true (rule_at g r).second (wrapper g) h))
        (one_true (eqb (rule_at g r).second none) (ltb (rule_at g r).second (wrapper g)) (other ends t.seconds r z l));
    adjacent = λ q r s a b c e.
        eqb-true (rule_at g q).left (rule_at g r).left
        (implied (ltb q r && (ltb r s && eqb (rule_at g q).left (rule_at g s).left)) (eqb (rule_at g q).left (rule_at g r).left)
        (every_at rules (adjacent q r)
        (every_at rules (λ r. every rules (adjacent q r)) (every_at rules (λ q. every rules (λ r. every rules (adjacent q r))) t.adjacents q (omega arith)) r (omega arith)) s c)
        (ap₂ ◌&&◌ (lt-ltb q r a) (ap₂ ◌&&◌ (lt-ltb r s b) (eq-eqb (rule_at g q).left (rule_at g s).left e))));
    distinct = λ q r a b e.
        false_true (
        sym (not-true (same q r)
        (implied (ltb q r) (not (same q r))
        (every_at rules (λ r. implies (ltb q r) (not (same q r))) (every_at rules (λ q. every rules (λ r. implies (ltb q r) (not (same q r)))) t.distincts q (omega arith)) r b)
        (lt-ltb q r a)))
        ∙ ap₂ ◌&&◌ (eq-eqb (rule_at g q).left (rule_at g r).left (ap (λ (k : Rule). k.left) e))
        (ap₂ ◌&&◌ (eq-eqb (rule_at g q).first (rule_at g r).first (ap (λ (k : Rule). k.first) e)) (eq-eqb (rule_at g q).second (rule_at g r).second (ap (λ (k : Rule). k.second) e))));
    unary_below = λ r s a b one e.
        ltb-true r s
        (implied (eqb (rule_at g r).second none && eqb (rule_at g s).left (rule_at g r).first) (ltb r s)
        (every_at rules (below r) (every_at rules (λ r. every rules (below r)) t.unary_belows r a) s b)
        (ap₂ ◌&&◌ (eq-eqb (rule_at g r).second none one) (eq-eqb (rule_at g s).left (rule_at g r).first e)));
    productive = λ a is. yields_productive (wrapper g - g.tokens) a (each (yields (wrapper g - g.tokens)) t.productives a is);
    reachable = λ a is. reaches-reachable (wrapper g - g.tokens) a (each (reaches (wrapper g - g.tokens)) t.reachables a is);
  }
