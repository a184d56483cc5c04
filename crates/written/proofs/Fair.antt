-- Every rule that a written rule is split into is fair: it derives as the written rules do, its symbols are in range, and unary rules lead on.
use mathlib.Core.Path.{◌≡◌, refl, sym, ap, ap₂, subst, ◌∙◌}
use mathlib.Core.Bool.{Bool, true, ◌&&◌}
use mathlib.Core.List.{List, [], ◌∷◌, ◌++◌, append_assoc, append-nil}
use mathlib.Core.Logic.{◌⊎◌, inl, inr}
use Prim.Native.Nat.{ℕ, suc, ◌+◌, ◌≤◌, ◌<◌}
use native.Mathlib.Omega.{arith}
use lib.ListN.{length, get_or, length-append, get_or-eq_default}
use lib.Seq.{get_or_at}
use Rattle.laws.proofs.Tests.{both_true}
use Rattle.grammar.specs.Rules.{Rule, none}
use Rattle.written.specs.Lists.{In, Each}
use Rattle.written.specs.Lists.In.{here, there}
use Rattle.written.specs.Lists.Each.{end, and}
use Rattle.written.specs.Written.{WrittenRule, Writes, Becomes, symbol_count}
use Rattle.written.specs.Split.{rule, pair, joined, split}
use Rattle.written.specs.Translation.{places, new_symbols, splits}
use Rattle.written.proofs.Lists.{each-join, each_in}
use Rattle.written.proofs.Becoming.{becomes-same, becomes-join, becomes_on}
use Rattle.written.proofs.Splitting.{each-given}
use Rattle.written.proofs.Numbers.{singles_at}
use Rattle.written.proofs.Standing.{beginnings, beginnings_of, all_beginnings, of_count, meanings, meanings_count}
use Rattle.written.proofs.Knowing.{Known, new, first, top, in_writes, rule-becomes, right-places, places-kept, places_in, kept_low, kept-left, number-nonterminal, number-kept-low, tokens-low}

module _ (c : Known) where
  -- What a symbol of the file stands for.
  abbrev pub stands : ℕ → List ℕ
  stands x = get_or (meanings c.w c.keep) x []

  abbrev pub Kept : ℕ → Type 0
  Kept x = c.keep x ≡ true

  pub stands_for : (x : ℕ) → Kept x → stands (new c x) ≡ x ∷ []
  stands_for x k = singles_at c.keep (symbol_count c.w) x (all_beginnings c.keep c.w.rules ++ (c.w.start ∷ []) ∷ []) k (kept_low c x k)

  pub nothing_at_none : stands none ≡ []
  nothing_at_none =
      get_or-eq_default (meanings c.w c.keep) [] {n = none} (let m = meanings_count c.w c.keep in let f = c.few in omega arith)

  -- A nonterminal with the number `a` has a written rule whose right side becomes `goal`.
  pub record Step (a : ℕ) (goal : List ℕ) : Type 0 where
    pub symbol : ℕ
    pub rule : ℕ
    pub right : List ℕ
    pub writes : Writes c.w rule symbol right
    pub kept : Kept symbol
    pub is : new c symbol ≡ a
    pub becomes : Becomes c.w right goal

  pub record Fair (q : Rule) : Type 0 where
    -- What the left side stands for becomes what the right side stands for.
    pub sound : Becomes c.w (stands q.left) (stands q.first ++ stands q.second)
    -- The symbols are in range.
    pub no_token_lem : c.w.tokens ≤ q.left
    pub left-low : q.left < top c
    pub first-low : q.first < top c
    pub second-low : (q.second ≡ none) ⊎ (q.second < top c)
    -- A unary rule of a new symbol names no new symbol, or one that stands for less.
    pub shrinks : first c ≤ q.left → q.second ≡ none → (q.first < first c) ⊎ (length (stands q.first) < length (stands q.left))
    -- A unary rule of a nonterminal comes of a written rule of it.
    pub steps : q.left < first c → q.second ≡ none → Step q.left (stands q.first)

  -- A left side whose rules are to become `goal`.
  pub record Left (a : ℕ) (goal : List ℕ) : Type 0 where
    pub no_token_lem : c.w.tokens ≤ a
    pub low : a < top c
    pub becomes : Becomes c.w (stands a) goal
    pub whole : first c ≤ a → stands a ≡ goal
    pub step : a < first c → Step a goal

  on_step : {a : ℕ} {goal next : List ℕ} → Step a goal → Becomes c.w goal next → Step a next
  on_step s p = record { symbol = s.symbol; rule = s.rule; right = s.right; writes = s.writes; kept = s.kept; is = s.is; becomes = becomes_on s.becomes p }

  low-top : (x : ℕ) → Kept x → new c x < top c
  low-top x k = let h = number-kept-low c x k in omega arith

  is_empty : (x : ℕ) → c.empty x ≡ true → Becomes c.w (x ∷ []) []
  is_empty x e = (c.empties x).if_yes e

  one_less : (m : List ℕ) (x : ℕ) → length m < length (m ++ x ∷ [])
  one_less m x = omega (arith, length-append m (x ∷ []))

  -- A pair, where `head` stands for `m` and the left side's goal is `m` and `x`.
  pair_fair : (a head x : ℕ) (e : Bool) (m : List ℕ) → Kept x → stands head ≡ m → head < top c → (e ≡ true → Becomes c.w m [])
      → Left a (m ++ x ∷ []) → Each Fair (pair a head (new c x) e (c.empty x))
  unfolding pair
  pair_fair a head x e m k s h q l =
      let here-x : stands (new c x) ≡ x ∷ [] = stands_for x k in
      let two : Fair (rule a head (new c x)) = record {
        sound = subst (Becomes c.w (stands a)) (ap₂ ◌++◌ (sym s) (sym here-x)) l.becomes;
        no_token_lem = l.no_token_lem;
        left-low = l.low;
        first-low = h;
        second-low = inr (low-top x k);
        shrinks = λ b n. absurd (no_none n);
        steps = λ b n. absurd (no_none n);
      } in
      let onto-head : c.empty x ≡ true → Becomes c.w (m ++ x ∷ []) m =
      λ n. subst (Becomes c.w (m ++ x ∷ [])) (append-nil m) (becomes-join (becomes-same m) (is_empty x n)) in
      let one : c.empty x ≡ true → Fair (rule a head none) = λ n. record {
        sound = subst (Becomes c.w (stands a)) (sym (append-nil m) ∙ ap₂ ◌++◌ (sym s) (sym nothing_at_none)) (becomes_on l.becomes (onto-head n));
        no_token_lem = l.no_token_lem;
        left-low = l.low;
        first-low = h;
        second-low = inl refl;
        shrinks = λ b i. inr (subst (λ (g : List ℕ). length (stands head) < length g) (sym (l.whole b)) (subst (λ (g : List ℕ). length g < length (m ++ x ∷ [])) (sym s) (one_less m x)));
        steps = λ b i. subst (Step a) (sym s) (on_step (l.step b) (onto-head n));
      } in
      let onto-x : e ≡ true → Becomes c.w (m ++ x ∷ []) (x ∷ []) = λ n. becomes-join (q n) (becomes-same (x ∷ [])) in
      let other : e ≡ true → Fair (rule a (new c x) none) = λ n. record {
        sound = subst (Becomes c.w (stands a)) (sym (append-nil (x ∷ [])) ∙ ap₂ ◌++◌ (sym here-x) (sym nothing_at_none)) (becomes_on l.becomes (onto-x n));
        no_token_lem = l.no_token_lem;
        left-low = l.low;
        first-low = low-top x k;
        second-low = inl refl;
        shrinks = λ b i. inl (number-kept-low c x k);
        steps = λ b i. subst (Step a) (sym here-x) (on_step (l.step b) (onto-x n));
      } in
      and two (each-join (each-given (c.empty x) (rule a head none) one) (each-given e (rule a (new c x) none) other))
    where
      no_none : new c x ≡ none → ⊥
      no_none n = let b = number-kept-low c x k in let f = c.few in omega arith

  -- The meanings fall into those before, these, and those after, W's among the last.
  pub record Among (before these : List (List ℕ)) (next : ℕ) : Type 0 where
    pub after : List (List ℕ)
    pub whole : meanings c.w c.keep ≡ before ++ (these ++ after)
    pub some : 1 ≤ length after
    pub is : next ≡ length before
    pub behind : first c ≤ next

  among_count : {before these : List (List ℕ)} {next : ℕ} → Among before these next → next + length these ≤ top c
  among_count {before} {these} a =
      let all = meanings_count c.w c.keep in
      let whole = ap length a.whole in
      let one = length-append before (these ++ a.after) in
      let two = length-append these a.after in
      let some = a.some in
      let is = a.is in
      omega arith

  -- The first of these is what the next number stands for.
  among_first : {before these : List (List ℕ)} {next : ℕ} (m : List ℕ) → Among before (m ∷ these) next → stands next ≡ m
  among_first {before} {these} {next} m a =
      ap (λ (l : List (List ℕ)). get_or l next []) a.whole ∙ get_or_at before m (these ++ a.after) [] next (sym a.is)

  among_rest : {before these : List (List ℕ)} {next : ℕ} (m : List ℕ) → Among before (m ∷ these) next → Among (before ++ m ∷ []) these (suc next)
  among_rest {before} {these} {next} m a = record {
    after = a.after;
    whole = a.whole ∙ sym (append_assoc before (m ∷ []) (these ++ a.after));
    some = a.some;
    is = let i = a.is in omega (arith, length-append before (m ∷ []));
    behind = let b = a.behind in omega arith;
  }

  among_front : {before : List (List ℕ)} (these those : List (List ℕ)) {next : ℕ} → Among before (these ++ those) next → Among before these next
  among_front {before} these those a = record {
    after = those ++ a.after;
    whole = a.whole ∙ ap (λ (l : List (List ℕ)). before ++ l) (append_assoc these those a.after);
    some = let s = a.some in omega (arith, length-append those a.after);
    is = a.is;
    behind = a.behind;
  }

  among_back : {before : List (List ℕ)} (these those : List (List ℕ)) {next : ℕ} → Among before (these ++ those) next → Among (before ++ these) those (next + length these)
  among_back {before} these those {next} a = record {
    after = a.after;
    whole = a.whole ∙ ap (λ (l : List (List ℕ)). before ++ l) (append_assoc these those a.after) ∙ sym (append_assoc before these (those ++ a.after));
    some = a.some;
    is = let i = a.is in omega (arith, length-append before these);
    behind = let b = a.behind in omega arith;
  }

  -- A new symbol as a left side.
  new-left : (n : ℕ) (goal : List ℕ) → first c ≤ n → n < top c → stands n ≡ goal → Left n goal
  new-left n goal b h s = record {
    no_token_lem = let t = tokens-low c in omega arith;
    low = h;
    becomes = subst (Becomes c.w (stands n)) s (becomes-same (stands n));
    whole = λ x. s;
    step = λ x. absurd (below x);
  }
    where
      below : n < first c → ⊥
      below x = omega arith

  joined_fair : (a head : ℕ) (e : Bool) (m rest : List ℕ) (next : ℕ) (before : List (List ℕ)) → Each Kept rest → stands head ≡ m → head < top c
      → (e ≡ true → Becomes c.w m []) → Left a (m ++ rest) → Among before (beginnings m rest) next → Each Fair (joined (new c) c.empty a head e rest next)
  unfolding joined beginnings
  joined_fair a head e m [] next before ks s h q l am = end
  joined_fair a head e m (x ∷ []) next before (and k ks) s h q l am = pair_fair a head x e m k s h q l
  joined_fair a head e m (x ∷ y ∷ rest) next before (and k ks) s h q l am =
      let stood : stands next ≡ m ++ x ∷ [] = among_first (m ++ x ∷ []) am in
      let room = among_count am in
      let low : next < top c = omega arith in
      each-join
      (pair_fair next head x e m k s h q (new-left next (m ++ x ∷ []) am.behind low stood))
      (joined_fair a next (e && c.empty x) (m ++ x ∷ []) (y ∷ rest) (suc next) (before ++ (m ++ x ∷ []) ∷ []) ks stood low
      (λ b. let both = both_true e (c.empty x) b in becomes-join (q both.0) (is_empty x both.1))
      (subst (Left a) (sym (append_assoc m (x ∷ []) (y ∷ rest))) l)
      (among_rest (m ++ x ∷ []) am))

  -- A written left side, with the places of its rule.
  written-left : {r a : ℕ} {ω : List ℕ} {x : ℕ} → Writes c.w r a ω → In x (places c.keep ω) → Left (new c a) (places c.keep ω)
  written-left {r} {a} {ω} {x} h i =
      let k : Kept a = kept-left c h (places_in c.keep ω i) (each_in (places-kept c.keep ω) i) in
      record {
        no_token_lem = number-nonterminal c a (c.lawful.left h);
        low = low-top a k;
        becomes = subst (λ (l : List ℕ). Becomes c.w l (places c.keep ω)) (sym (stands_for a k)) (rule-becomes h (right-places c h));
        whole = λ b. absurd (below k b);
        step = λ b. record { symbol = a; rule = r; right = ω; writes = h; kept = k; is = refl; becomes = right-places c h };
      }
    where
      below : Kept a → first c ≤ new c a → ⊥
      below k b = let l = number-kept-low c a k in omega arith

  split_fair : {r a : ℕ} {ω : List ℕ} → Writes c.w r a ω → (l : List ℕ) → places c.keep ω ≡ l → (next : ℕ) (before : List (List ℕ))
      → Among before (beginnings_of l) next → Each Fair (split (new c) c.empty (new c a) l next)
  unfolding split beginnings_of
  split_fair h [] e next before am = end
  split_fair {a = a} {ω = ω} h (x ∷ []) e next before am =
      let l : Left (new c a) (x ∷ []) = subst (Left (new c a)) e (written-left h (subst (In x) (sym e) here)) in
      let k : Kept x = each_in (places-kept c.keep ω) (subst (In x) (sym e) here) in
      and (record {
        sound = subst (Becomes c.w (stands (new c a))) (sym (append-nil (x ∷ [])) ∙ ap₂ ◌++◌ (sym (stands_for x k)) (sym nothing_at_none)) l.becomes;
        no_token_lem = l.no_token_lem;
        left-low = l.low;
        first-low = low-top x k;
        second-low = inl refl;
        shrinks = λ b n. inl (number-kept-low c x k);
        steps = λ b n. subst (Step (new c a)) (sym (stands_for x k)) (l.step b);
      }) end
  split_fair {a = a} {ω = ω} h (x ∷ y ∷ rest) e next before am =
      let l : Left (new c a) (x ∷ y ∷ rest) = subst (Left (new c a)) e (written-left h (subst (In x) (sym e) here)) in
      kept-rest (subst (Each Kept) e (places-kept c.keep ω)) l
    where
      kept-rest : Each Kept (x ∷ y ∷ rest) → Left (new c a) (x ∷ y ∷ rest) → Each Fair (joined (new c) c.empty (new c a) (new c x) (c.empty x) (y ∷ rest) next)
      kept-rest (and k ks) l = joined_fair (new c a) (new c x) (c.empty x) (x ∷ []) (y ∷ rest) next before ks (stands_for x k) (low-top x k) (is_empty x) l am

  -- So are all rules that are split off.
  pub splits_fair : (rules : List WrittenRule) (next : ℕ) (before : List (List ℕ)) → ((r : WrittenRule) → In r rules → In r c.w.rules)
      → Among before (all_beginnings c.keep rules) next → Each Fair (splits c.keep c.empty rules next)
  unfolding splits all_beginnings
  splits_fair [] next before all am = end
  splits_fair (r ∷ rules) next before all am =
      let h = in_writes c.w (all r here) in
      let these : List (List ℕ) = beginnings_of (places c.keep r.right) in
      let back = among_back these (all_beginnings c.keep rules) am in
      each-join
      (split_fair h.writes (places c.keep r.right) refl next before (among_front these (all_beginnings c.keep rules) am))
      (splits_fair rules (next + new_symbols (places c.keep r.right)) (before ++ beginnings_of (places c.keep r.right)) (λ q i. all q (there i))
      (subst (Among (before ++ beginnings_of (places c.keep r.right)) (all_beginnings c.keep rules)) (ap (λ (k : ℕ). next + k) (of_count (places c.keep r.right))) back))
