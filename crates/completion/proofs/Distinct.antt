-- The items that a pass stores are distinct, each of a rule and of an origin up to the latest set.
use Rattle.std.proofs.Common.{◌≡◌, refl, sym, ap, ◌∙◌, subst, true, List, ◌∷◌, ◌⊎◌, inl, inr, ℕ, suc, ◌+◌, ◌*◌, ◌≤◌, ◌<◌, arith, length, get_or}
use mathlib.Core.List.Memᴰ.{head as here}
use mathlib.Core.List.Memᴰ.{tail as later}
use mathlib.Core.List.{Memᴰ as Member}
use native.Mathlib.Decide.{dec_lt}
use Rattle.laws.proofs.Turns.{until-keeps}
use Rattle.binary_heap.specs.Sift.{entry_at}
use Rattle.binary_heap.proofs.Each.{Every}
use Rattle.item.specs.Item.{Item, item_at, origin_at, rule_at, key_of}
use Rattle.grammar.specs.Rules.{Rule, none, no_rule}
use Rattle.parse.specs.WellFormed.{left_of, rule_of}
use Rattle.node.specs.Rows.{all_ones}
use Rattle.node.specs.declared.Node.TheVariants.{Evaluated}
use Rattle.completion.specs.Pass.{Pass, store, enqueue, append}
use Rattle.completion.specs.Complete.{predicted, complete_medial_items, complete_unary_predictions, complete_binary_predictions, complete}
use Rattle.completion.specs.Scan.{scan_all}
use Rattle.completion.specs.Sums.{greatest, summed, complete_sum, rests, complete_all_sums}
use Rattle.completion.specs.inner.Ready.{IsSet, PassFits}
use Rattle.completion.proofs.Waiting.{store-place}
use Rattle.completion.proofs.Searching.{enqueue-count}
use Rattle.completion.proofs.Turning.{summed-items, not_resting}
use Rattle.completion.proofs.Entries.{entries_of, entries-length, each_entry, append-count, then_cases, store_cases}
use Rattle.completion.proofs.Onward.{Onward, onward_store, onward_enqueue}
use Rattle.completion.proofs.Through.{Begins, medial_items_keep, unary_predictions_go, binary_predictions_go, complete_cases}
use Rattle.completion.proofs.Charting.{Charts, Steady, stored-new, steady_store, steady_enqueue, steady_medial_items, steady_complete, greatest_charts}
use Rattle.completion.proofs.Heaped.{Heaped, heaped_append}
use Rattle.completion.specs.inner.Pending.{Grounds, Pending}
use Rattle.completion.proofs.Pending.{Lower, lower_down, lower-other, pending_steady, pending_append, pending_complete, pending_sum, pop_lower, complete-lower}
use Rattle.completion.proofs.Scanning.{Leaf, Scannable, first-once, rest_scannable, leaf-lower, scan_all_goes, pending_scan_all}
use Rattle.completion.proofs.Once.{AllLower, heaped_all, greatest-lower}

-- The items at the places from `from` on are of origin `k` and of rules that begin with `x` and have `Used`, no rule twice.
pub record OfPair (rs : List Rule) (k x : ℕ) (Used : ℕ → Type 0) (from : ℕ) (t : Pass) : Type 0 where
  pub origins : (p : ℕ) → from ≤ p → p < t.at.items → origin_at t.items p ≡ k
  pub firsts : (p : ℕ) → from ≤ p → p < t.at.items → (rule_of rs (item_at t.items p)).first ≡ x
  pub used : (p : ℕ) → from ≤ p → p < t.at.items → Used (rule_at t.items p)
  pub distinct : (p q : ℕ) → from ≤ p → p < q → q < t.at.items → rule_at t.items p ≡ rule_at t.items q → ⊥

module _ (rs : List Rule) (k x from : ℕ) where
  -- Where no item is, each is.
  none_of_pair : (Used : ℕ → Type 0) (t : Pass) → t.at.items ≤ from → OfPair rs k x Used from t
  none_of_pair Used t none =
      record {
        origins = λ p h there. absurd (omega arith);
        firsts = λ p h there. absurd (omega arith);
        used = λ p h there. absurd (omega arith);
        distinct = λ p q h less there. absurd (omega arith);
      }

  of_pair_more : (Used Used' : ℕ → Type 0) (t : Pass) → ((r : ℕ) → Used r → Used' r) → OfPair rs k x Used from t → OfPair rs k x Used' from t
  of_pair_more Used Used' t more of =
      record { origins = of.origins; firsts = of.firsts; used = λ p h there. more (rule_at t.items p) (of.used p h there); distinct = of.distinct }

  -- Items that stay, with none more, are of the pair still.
  of_pair_onward : (Used : ℕ → Type 0) (t u : Pass) → Onward t u → u.at.items ≡ t.at.items → OfPair rs k x Used from t → OfPair rs k x Used from u
  of_pair_onward Used t u onward same of =
      record {
        origins = λ p h there. ap (λ (i : Item). i.origin) (item p there) ∙ of.origins p h (omega arith);
        firsts = λ p h there. ap (λ (i : Item). (rule_of rs i).first) (item p there) ∙ of.firsts p h (omega arith);
        used = λ p h there. subst Used (sym (ap (λ (i : Item). i.rule) (item p there))) (of.used p h (omega arith));
        distinct = λ p q h less there e.
            of.distinct p q h less (omega arith)
            (sym (ap (λ (i : Item). i.rule) (item p (omega arith))) ∙ e ∙ ap (λ (i : Item). i.rule) (item q there));
      }
    where
      item : (p : ℕ) → p < u.at.items → item_at u.items p ≡ item_at t.items p
      item p there = onward.same-items p (omega arith)

  -- A rule that begins with the symbol and was not used is stored.
  of_pair_store : (Used Used' : ℕ → Type 0) (r link : ℕ) (t : Pass) → PassFits t → from ≤ t.at.items → (get_or rs r no_rule).first ≡ x
      → ((q : ℕ) → Used q → Used' q) → Used' r → (Used r → ⊥) → OfPair rs k x Used from t → OfPair rs k x Used' from (store k r link t)
  of_pair_store Used Used' r link t sound has first more now before of =
      record {
        origins = λ p h there.
            by_age p there (λ p. origin_at (store k r link t).items p ≡ k) (λ old. ap (λ (i : Item). i.origin) (item p old) ∙ of.origins p h old)
            (λ is. ap (λ (i : Item). i.origin) is);
        firsts = λ p h there.
            by_age p there (λ p. (rule_of rs (item_at (store k r link t).items p)).first ≡ x)
            (λ old. ap (λ (i : Item). (rule_of rs i).first) (item p old) ∙ of.firsts p h old) (λ is. ap (λ (i : Item). (rule_of rs i).first) is ∙ first);
        used = λ p h there.
            by_age p there (λ p. Used' (rule_at (store k r link t).items p))
            (λ old. subst Used' (sym (rule p old)) (more (rule_at t.items p) (of.used p h old)))
            (λ is. subst Used' (sym (ap (λ (i : Item). i.rule) is)) now);
        distinct = λ p q h less there e.
            by_age q there (λ q. ⊥) (λ old. of.distinct p q h less old (sym (rule p (omega arith)) ∙ e ∙ rule q old))
            (λ is.
            let old : p < t.at.items = omega (arith, one_more) in
            before (subst Used (sym (rule p old) ∙ e ∙ ap (λ (i : Item). i.rule) is) (of.used p h old)));
      }
    where
      one_more : (store k r link t).at.items ≤ t.at.items + 1
      one_more = store_cases (λ (v : Pass). v.at.items ≤ t.at.items + 1) t k r link (λ place. omega arith) (omega arith)

      item : (p : ℕ) → p < t.at.items → item_at (store k r link t).items p ≡ item_at t.items p
      item p old = (onward_store k r link t).same-items p old

      rule : (p : ℕ) → p < t.at.items → rule_at (store k r link t).items p ≡ rule_at t.items p
      rule p old = ap (λ (i : Item). i.rule) (item p old)

      by_age : (p : ℕ) → p < (store k r link t).at.items → (C : ℕ → Type 0) → (p < t.at.items → C p)
          → (item_at (store k r link t).items p ≡ record { origin = k; rule = r; handle = link } → C p) → C p
      by_age p there C old new =
          elim (dec_lt p t.at.items) [
            | yes h ↦ old h
            | no h ↦ new (stored-new k r link t sound p (omega arith) there)
          ]

-- Rules with one symbol below `n`; and rules with one symbol, or below `n`.
abbrev One : List Rule → ℕ → ℕ → Type 0
One rs n r = ((get_or rs r no_rule).second ≡ none) × (r < n)

abbrev OneOr : List Rule → ℕ → ℕ → Type 0
OneOr rs n r = ((get_or rs r no_rule).second ≡ none) ⊎ (r < n)

-- A pass on its way through a completion: steady, with the items from `from` on of the pair.
record Storing (rs : List Rule) (starts : List ℕ) (s : Pass) (k x : ℕ) (Used : ℕ → Type 0) (from : ℕ) (t : Pass) : Type 0 where
  pub steady : Steady rs starts s t
  pub has : from ≤ t.at.items
  pub of_pair : OfPair rs k x Used from t

module _ (rs : List Rule) (starts rows : List ℕ) (s : Pass) (k x link : ℕ) (set : IsSet starts k) where
  -- Medial items are queued, and none is stored.
  pub medial_items_none : (t : Pass) → (complete_medial_items rs starts k x link t).at.items ≡ t.at.items
  medial_items_none t =
      medial_items_keep rs starts rows k x link (λ (u : Pass). u.at.items ≡ t.at.items)
      (λ p u inside second on same. enqueue-count p link u ∙ same) t refl

  storing_store : (Used Used' : ℕ → Type 0) (from r : ℕ) (t : Pass) → Begins rs rows k x r → ((q : ℕ) → Used q → Used' q) → Used' r → (Used r → ⊥)
      → Storing rs starts s k x Used from t → Storing rs starts s k x Used' from (store k r link t)
  storing_store Used Used' from r t begins more now before storing =
      record {
        steady = steady_store rs starts s k r link t set begins.is_rule storing.steady;
        has = omega (arith, storing.has, (onward_store k r link t).more-items);
        of_pair =
            of_pair_store rs k x from Used Used' r link t storing.steady.sound storing.has begins.begins more now before storing.of_pair;
      }

  storing_enqueue : (Used : ℕ → Type 0) (from place right : ℕ) (t : Pass) → place < t.at.items → Storing rs starts s k x Used from t
      → Storing rs starts s k x Used from (enqueue place right t)
  storing_enqueue Used from place right t there storing =
      record {
        steady = steady_enqueue rs starts s place right t there storing.steady;
        has = omega (arith, storing.has, enqueue-count place right t);
        of_pair =
            of_pair_onward rs k x from Used t (enqueue place right t) (onward_enqueue place right t storing.steady.sound.queued_fit)
            (enqueue-count place right t) storing.of_pair;
      }

  storing_more : (Used Used' : ℕ → Type 0) (from : ℕ) (t : Pass) → ((q : ℕ) → Used q → Used' q) → Storing rs starts s k x Used from t
      → Storing rs starts s k x Used' from t
  storing_more Used Used' from t more storing =
      record { steady = storing.steady; has = storing.has; of_pair = of_pair_more rs k x from Used Used' t more storing.of_pair }

  -- Rules with one symbol are stored in number order, each once,
  storing_unary : (from : ℕ) (t : Pass) → Storing rs starts s k x (One rs 0) from t
      → Storing rs starts s k x (One rs (length rs)) from (complete_unary_predictions rs rows k x link t)
  storing_unary from =
      unary_predictions_go rs starts rows k x link (λ r. Storing rs starts s k x (One rs r) from)
      (λ r t. storing_more (One rs r) (One rs (suc r)) from t (λ q used. (used.0, let less = used.1 in omega arith)))
      (λ r t begins one on storing.
      let there : Storing rs starts s k x (One rs (suc r)) from (store k r link t) =
      storing_store (One rs r) (One rs (suc r)) from r t begins (λ q used. (used.0, let less = used.1 in omega arith)) (one, omega arith)
      (λ used. let less = used.1 in omega arith) storing in
      then_cases (Storing rs starts s k x (One rs (suc r)) from) (store k r link t) _ there
      (λ on. storing_enqueue (One rs (suc r)) from t.at.items all_ones (store k r link t) (store-place k r link t on) there))

  -- and then those with two.
  storing_binary : (from : ℕ) (t : Pass) → Storing rs starts s k x (OneOr rs 0) from t
      → Storing rs starts s k x (OneOr rs (length rs)) from (complete_binary_predictions rs rows k x link t)
  storing_binary from =
      binary_predictions_go rs starts rows k x link (λ r. Storing rs starts s k x (OneOr rs r) from)
      (λ r t. storing_more (OneOr rs r) (OneOr rs (suc r)) from t (more r))
      (λ r t begins two on storing.
      storing_store (OneOr rs r) (OneOr rs (suc r)) from r t begins (more r) (inr (omega arith)) (not_used r two) storing)
    where
      more : (r q : ℕ) → OneOr rs r q → OneOr rs (suc r) q
      more r q (inl one) = inl one
      more r q (inr less) = inr (omega arith)

      not_used : (r : ℕ) → ((get_or rs r no_rule).second ≡ none → ⊥) → OneOr rs r r → ⊥
      not_used r two (inl one) = two one
      not_used r two (inr less) = omega arith

  -- The items that a completion stores are of its pair, no rule twice.
  pub complete_of_pair : (t : Pass) → Steady rs starts s t → OfPair rs k x (λ r. Unit {0}) t.at.items (complete rs starts rows k x link t)
  complete_of_pair t steady =
      complete_cases rs starts rows k x link (OfPair rs k x (λ r. Unit {0}) t.at.items) t (none_of_pair rs k x t.at.items (λ r. Unit {0}) t (omega arith))
      (λ there.
      let first : Storing rs starts s k x (One rs 0) t.at.items (complete_medial_items rs starts k x link t) =
      record {
        steady = steady_medial_items rs starts s rows k x link t steady;
        has = omega (arith, medial_items_none t);
        of_pair = none_of_pair rs k x t.at.items (One rs 0) (complete_medial_items rs starts k x link t) (omega (arith, medial_items_none t));
      } in
      let second : Storing rs starts s k x (OneOr rs 0) t.at.items (complete_unary_predictions rs rows k x link (complete_medial_items rs starts k x link t)) =
      storing_more (One rs (length rs)) (OneOr rs 0) t.at.items (complete_unary_predictions rs rows k x link (complete_medial_items rs starts k x link t))
      (λ q used. inl used.0) (storing_unary t.at.items (complete_medial_items rs starts k x link t) first) in
      of_pair_more rs k x t.at.items (OneOr rs (length rs)) (λ r. Unit {0})
      (complete_binary_predictions rs rows k x link (complete_unary_predictions rs rows k x link (complete_medial_items rs starts k x link t))) (λ r used. tt)
      (storing_binary t.at.items (complete_unary_predictions rs rows k x link (complete_medial_items rs starts k x link t)) second).of_pair)

-- The symbol that the rule of an item begins with.
abbrev pub first_of : List Rule → Item → ℕ
first_of rs i = (rule_of rs i).first

-- The items from place `old` on differ in origin or rule, and are of origins up to `e`, and of pairs that are done with: every entry is below them.
pub record Fresh (rs : List Rule) (e old : ℕ) (t : Pass) : Type 0 where
  pub has : old ≤ t.at.items
  pub entry_origins : Every (λ v. origin_at t.items v.place ≤ e) (entries_of t)
  pub origins : (p : ℕ) → old ≤ p → p < t.at.items → origin_at t.items p ≤ e
  pub behind : (p : ℕ) → old ≤ p → p < t.at.items → AllLower rs (origin_at t.items p) (first_of rs (item_at t.items p)) t
  pub distinct : (p q : ℕ) → old ≤ p → p < q → q < t.at.items → origin_at t.items p ≡ origin_at t.items q → rule_at t.items p ≡ rule_at t.items q → ⊥

-- Pair `k`, `x` was not completed yet, and what is below it is below the pairs of the items from `old` on, up to those of `s`.
record Unmet (rs : List Rule) (e old k x : ℕ) (s : Pass) : Type 0 where
  pub has : old ≤ s.at.items
  pub origins : (p : ℕ) → old ≤ p → p < s.at.items → origin_at s.items p ≤ e
  pub other : (p : ℕ) → old ≤ p → p < s.at.items → origin_at s.items p ≡ k → first_of rs (item_at s.items p) ≡ x → ⊥
  pub under :
      (p : ℕ) → old ≤ p → p < s.at.items → (i : Item) → Lower rs k x i → Lower rs (origin_at s.items p) (first_of rs (item_at s.items p)) i
  pub distinct : (p q : ℕ) → old ≤ p → p < q → q < s.at.items → origin_at s.items p ≡ origin_at s.items q → rule_at s.items p ≡ rule_at s.items q → ⊥

module _ {rs : List Rule} {starts rows : List ℕ} (grounds : Grounds rs starts rows) (s : Pass) (pending : Pending rs starts s) (e old k x link : ℕ)
    (set : IsSet starts k) (latest : k ≤ e) (unmet : Unmet rs e old k x s) where
  -- Completing a pair that was not completed yet stores items that were not stored yet.
  fresh-complete : (u : Pass) → Heaped rs starts (Lower rs k x) s u → u.at.items ≡ s.at.items → Fresh rs e old (complete rs starts rows k x link u)
  fresh-complete u heaped same =
      by_items (complete rs starts rows k x link u) (complete-lower grounds s pending k x link set u heaped)
      (subst (λ (n : ℕ). OfPair rs k x (λ r. Unit {0}) n (complete rs starts rows k x link u)) same
      (complete_of_pair rs starts rows s k x link set u heaped.steady))
    where
      by_items : (t : Pass) → Heaped rs starts (Lower rs k x) s t → OfPair rs k x (λ r. Unit {0}) s.at.items t → Fresh rs e old t
      by_items t after of =
          record {
            has = omega (arith, unmet.has, after.steady.onward.more-items);
            entry_origins = record { each = λ i there. omega (arith, (after.ordered.each.each i there).up_to) };
            origins = λ p h there.
                elim (dec_lt p s.at.items) [
                  | yes b ↦ omega (arith, unmet.origins p h b, ap (λ (i : Item). i.origin) (item p b))
                  | no b ↦ omega (arith, of.origins p (omega arith) there)
                ];
            behind = λ p h there.
                elim (dec_lt p s.at.items) [
                  | yes b ↦
                      subst (λ (i : Item). AllLower rs i.origin (first_of rs i) t) (sym (item p b))
                      (record {
                        all = record { each = λ i h'. unmet.under p h b (item_at t.items (entry_at (entries_of t) i).place) (after.ordered.each.each i h') };
                      })
                  | no b ↦
                      subst (λ (o : ℕ). AllLower rs o (first_of rs (item_at t.items p)) t) (sym (of.origins p (omega arith) there))
                      (subst (λ (y : ℕ). AllLower rs k y t) (sym (of.firsts p (omega arith) there)) (heaped_all after))
                ];
            distinct = λ p q h less there same-origin same-rule.
                elim (dec_lt q s.at.items) [
                  | yes b ↦
                      unmet.distinct p q h less b (sym (origin p (omega arith)) ∙ same-origin ∙ origin q b) (sym (rule p (omega arith)) ∙ same-rule ∙ rule q b)
                  | no b ↦
                      elim (dec_lt p s.at.items) [
                        | yes a ↦
                            unmet.other p h a
                            (sym (origin p a) ∙ same-origin ∙ of.origins q (omega arith) there)
                            (ap (λ (r : ℕ). (get_or rs r no_rule).first) (sym (rule p a) ∙ same-rule) ∙ of.firsts q (omega arith) there)
                        | no a ↦ of.distinct p q (omega arith) less there same-rule
                      ]
                ];
          }
        where
          item : (p : ℕ) → p < s.at.items → item_at t.items p ≡ item_at s.items p
          item p h = after.steady.onward.same-items p h

          origin : (p : ℕ) → p < s.at.items → origin_at t.items p ≡ origin_at s.items p
          origin p h = ap (λ (i : Item). i.origin) (item p h)

          rule : (p : ℕ) → p < s.at.items → rule_at t.items p ≡ rule_at s.items p
          rule p h = ap (λ (i : Item). i.rule) (item p h)

-- An item of the latest set, of a rule that begins with a token, none of the kinds that are left.
record Scanned (rs : List Rule) (e : ℕ) (kinds : List ℕ) (i : Item) : Type 0 where
  pub latest : i.origin ≡ e
  pub leaf : Leaf rs (first_of rs i)
  pub done_with : Member (first_of rs i) kinds → ⊥

-- A pass on its way through a position, with the kinds that are left: its new items are fresh, and of kinds that are done with.
record Scanning (rs : List Rule) (starts : List ℕ) (e old : ℕ) (kinds : List ℕ) (s : Pass) : Type 0 where
  pub scannable : Scannable rs kinds
  pub pending : Pending rs starts s
  pub fresh : Fresh rs e old s
  pub scanned : (p : ℕ) → old ≤ p → p < s.at.items → Scanned rs e kinds (item_at s.items p)

module _ {rs : List Rule} {starts rows : List ℕ} (grounds : Grounds rs starts rows) (e : ℕ) (set : IsSet starts e) (old : ℕ) where
  scanned_skip : (t : ℕ) (kinds : List ℕ) (i : Item) → Scanned rs e (t ∷ kinds) i → Scanned rs e kinds i
  scanned_skip t kinds i scanned = record { latest = scanned.latest; leaf = scanned.leaf; done_with = λ m. scanned.done_with (later m) }

  scanning_skip : (t : ℕ) (kinds : List ℕ) (s : Pass) → Scanning rs starts e old (t ∷ kinds) s → Scanning rs starts e old kinds s
  scanning_skip t kinds s scanning =
      record {
        scannable = rest_scannable scanning.scannable;
        pending = scanning.pending;
        fresh = scanning.fresh;
        scanned = λ p h has. scanned_skip t kinds (item_at s.items p) (scanning.scanned p h has);
      }

  -- A kind that was not completed yet stores items that were not stored yet.
  scanning_complete : (t : ℕ) (kinds : List ℕ) (s : Pass) → predicted rows e t ≡ true → Scanning rs starts e old (t ∷ kinds) s
      → Scanning rs starts e old kinds (complete rs starts rows e t s.at.used (append (Evaluated t) s))
  scanning_complete t kinds s on scanning =
      by_items (complete rs starts rows e t s.at.used (append (Evaluated t) s))
      (steady_complete rs starts s rows e t s.at.used set (append (Evaluated t) s) written.steady).onward
      (complete_of_pair rs starts rows s e t s.at.used set (append (Evaluated t) s) written.steady)
      (pending_complete (append (Evaluated t) s) (pending_append s scanning.pending (Evaluated t)) rows e t s.at.used set)
      (fresh-complete grounds s scanning.pending e old e t s.at.used set (omega arith) unmet (append (Evaluated t) s) written (append-count (Evaluated t) s))
    where
      leaf : Leaf rs t
      leaf = scanning.scannable.leaf t (here refl)

      unmet : Unmet rs e old e t s
      unmet =
          record {
            has = scanning.fresh.has;
            origins = scanning.fresh.origins;
            other = λ p h has origin first. (scanning.scanned p h has).done_with (here first);
            under = λ p h has i lower. leaf-lower (scanning.scanned p h has).leaf (omega (arith, lower.up_to, (scanning.scanned p h has).latest));
            distinct = scanning.fresh.distinct;
          }

      written : Heaped rs starts (Lower rs e t) s (append (Evaluated t) s)
      written =
          heaped_append rs starts (Lower rs e t) s (Evaluated t) s
          (record {
            steady = pending_steady s scanning.pending;
            ordered = record {
              heap = scanning.pending.heap;
              each = record { each = λ i has. leaf-lower leaf (scanning.fresh.entry_origins.each i has) };
            };
          })

      by_items : (u : Pass) → Onward s u → OfPair rs e t (λ r. Unit {0}) (append (Evaluated t) s).at.items u → Pending rs starts u → Fresh rs e old u
          → Scanning rs starts e old kinds u
      by_items u onward of pending fresh =
          record {
            scannable = rest_scannable scanning.scannable;
            pending = pending;
            fresh = fresh;
            scanned = λ p h has.
                elim (dec_lt p s.at.items) [
                  | yes b ↦
                      subst (Scanned rs e kinds) (sym (onward.same-items p b)) (scanned_skip t kinds (item_at s.items p) (scanning.scanned p h b))
                  | no b ↦
                      (let from : (append (Evaluated t) s).at.items ≤ p = omega (arith, append-count (Evaluated t) s) in
                      record {
                        latest = of.origins p from has;
                        leaf = subst (Leaf rs) (sym (of.firsts p from has)) leaf;
                        done_with = λ m. first-once scanning.scannable (subst (λ (x : ℕ). Member x kinds) (of.firsts p from has) m);
                      })
                ];
          }

module _ {rs : List Rule} {starts rows : List ℕ} (grounds : Grounds rs starts rows) (e : ℕ) where
  -- Scanning a position stores fresh items.
  pub fresh-scan_all : (kinds : List ℕ) → Scannable rs kinds → (s : Pass) → Pending rs starts s → s.at.queued ≡ 0 → IsSet starts e
      → Fresh rs e s.at.items (scan_all rs starts rows e kinds s)
  fresh-scan_all kinds scannable s pending nothing set =
      (scan_all_goes rs starts rows e (Scanning rs starts e s.at.items) (scanning_skip grounds e set s.at.items)
      (scanning_complete grounds e set s.at.items) kinds s
      (record {
        scannable = scannable;
        pending = pending;
        fresh = record {
          has = omega arith;
          entry_origins = record { each = λ i there. absurd (omega (arith, entries-length s pending.sound.queued_fit)) };
          origins = λ p h there. absurd (omega arith);
          behind = λ p h there. absurd (omega arith);
          distinct = λ p q h less there. absurd (omega arith);
        };
        scanned = λ p h there. absurd (omega arith);
      })
      ).fresh

  module _ (old : ℕ) where
    -- A sum stores fresh items.
    pub fresh-sum : (s : Pass) → Pending rs starts s → 0 < s.at.queued → Fresh rs e old s → Fresh rs e old (complete_sum rs starts rows s)
    unfolding complete_sum
    fresh-sum s pending some fresh =
        let charts : Charts rs starts (greatest s) = greatest_charts rs starts s s some (pending_steady s pending) in
        let pair : (p : ℕ) → old ≤ p → p < s.at.items → Lower rs (origin_at s.items p) (first_of rs (item_at s.items p)) (greatest s) =
        λ p h there. greatest-lower grounds s pending some (origin_at s.items p) (first_of rs (item_at s.items p)) (fresh.behind p h there) in
        fresh-complete grounds s pending e old (greatest s).origin (left_of rs (greatest s)) s.at.used charts.is_set
        (each_entry s pending.sound.queued_fit (λ v. origin_at s.items v.place ≤ e) fresh.entry_origins 0 some)
        (record {
          has = fresh.has;
          origins = fresh.origins;
          other = λ p h there origin first. lower-other (pair p h there) charts.is_rule (sym origin) (sym first);
          under = λ p h there i lower.
              lower_down grounds.rules_fit.few_rules charts.is_rule (pair p h there)
              (let less : key_of i < key_of (greatest s) = lower.below (greatest s).rule charts.is_rule refl in omega arith);
          distinct = fresh.distinct;
        })
        (summed rs (greatest s).origin (left_of rs (greatest s)) s) (pop_lower grounds s pending some)
        (summed-items rs (greatest s).origin (left_of rs (greatest s)) s)

    record Both (s : Pass) : Type 0 where
      pub pending : Pending rs starts s
      pub fresh : Fresh rs e old s

    -- All sums store fresh items.
    pub fresh-all-sums : (s : Pass) → Pending rs starts s → Fresh rs e old s → Fresh rs e old (complete_all_sums rs starts rows s)
    unfolding complete_all_sums
    fresh-all-sums s pending fresh =
        (until-keeps rests (complete_sum rs starts rows) Both
        (λ t goes both.
        let some : 0 < t.at.queued = (not_resting t goes).1 in
        record { pending = pending_sum grounds t both.pending some; fresh = fresh-sum t both.pending some both.fresh })
        (length starts * length rs) s (record { pending = pending; fresh = fresh })).fresh

  -- The items that a pass stores, behind those of the sets, are distinct and of origins up to the latest set.
  pub pass-fresh : (kinds : List ℕ) → Scannable rs kinds → (s : Pass) → Pending rs starts s → s.at.queued ≡ 0 → IsSet starts e
      → Fresh rs e s.at.items (complete_all_sums rs starts rows (scan_all rs starts rows e kinds s))
  pass-fresh kinds scannable s pending nothing set =
      fresh-all-sums s.at.items (scan_all rs starts rows e kinds s) (pending_scan_all grounds set kinds s pending)
      (fresh-scan_all kinds scannable s pending nothing set)
