-- What completing a pair queues and stores: exactly what the pair calls for, each with the pair's handle, and no node.
use Rattle.std.proofs.Common.{◌≡◌, refl, sym, ◌∙◌, ap, subst, Bool, true, false, ◌&&◌, List, ◌++◌, ℕ, zero, suc, ◌+◌, ◌-◌, ◌≤◌, ◌<◌, arith, length, get_or, eqb}
use native.Mathlib.Decide.{dec_lt, ℕ_discrete}
use Rattle.laws.specs.Counts.{count, once}
use Rattle.laws.specs.Turns.{over}
use Rattle.laws.proofs.Counts.{count-append}
use Rattle.laws.proofs.Tests.{either_way}
use Rattle.laws.proofs.Turns.{over-keeps}
use Rattle.item.specs.Item.{Item, item_at, handle_at}
use Rattle.binary_heap.specs.Entry.{Entry, entry_key}
use Rattle.binary_heap.proofs.PushLaws.{pushed-counts}
use Rattle.grammar.specs.Rules.{Rule, none, no_rule}
use Rattle.node.specs.Rows.{all_ones}
use Rattle.parse.specs.WellFormed.{second_of}
use Rattle.completion.specs.Pass.{Pass, and_then, store, enqueue}
use Rattle.completion.specs.Complete.{predicted, waits, complete_medial, complete_medial_items, complete_unary, complete_unary_predictions, complete_binary_predictions, complete}
use Rattle.completion.specs.inner.Ready.{IsSet, PassFits, Charted}
use Rattle.completion.proofs.Pushes.{goes_on, stays}
use Rattle.completion.proofs.Entries.{entries_of, queued_entries, enqueue_cases, store_cases, then_cases}
use Rattle.completion.proofs.Soundness.{store-sound}
use Rattle.completion.proofs.Searching.{enqueue-count}
use Rattle.completion.proofs.Waiting.{store-place}
use Rattle.completion.proofs.Pairs.{complete_parts, complete_passed}
use Rattle.completion.proofs.Onward.{Onward, onward_enqueue, onward_store}
use Rattle.completion.proofs.Through.{medial_items_keep, unary_predictions_go, binary_predictions_go, complete_cases}
use Rattle.completion.proofs.Charting.{Steady, steady_refl, steady_medial, steady_unary, steady_medial_items, steady_unary_predictions, steady_binary_predictions, steady_store, steady_enqueue, stored-new}
use Rattle.completion.proofs.Distinct.{medial_items_none}
use Rattle.forest.proofs.Entries.{entry}
use Rattle.forest.proofs.Loops.{passing, over_pushes}
use Rattle.forest.proofs.Calls.{when, medials, lones}

-- Nothing was refused.
pub record Good (s : Pass) : Type 0 where
  pub on : s.at.stopped ≡ 0

-- What goes on was not refused before.
pub then_good : (u : Pass) (next : Pass → Pass) → Good (and_then u next) → Good u
then_good u next good =
    elim (ℕ_discrete u.at.stopped 0) [
      | yes e ↦ record { on = e }
      | no not ↦ subst Good (stays u next not) good
    ]

-- A push that was not refused adds its entry.
enqueue_adds : (p right : ℕ) (u : Pass) → PassFits u → Good (enqueue p right u) → (t : Entry → Bool)
    → count t (entries_of (enqueue p right u)) ≡ count t (entries_of u) + once (t (entry p right))
enqueue_adds p right u sound good t =
    enqueue_cases (λ v. Good v → count t (entries_of v) ≡ count t (entries_of u) + once (t (entry p right))) u p right
    (λ free good.
    ap (λ l. count t l) (queued_entries u sound.queued_fit p right) ∙ pushed-counts (entry_key u.items) (entries_of u) (entry p right) t)
    (λ good. absurd (omega (arith, good.on))) good

-- The tests of the loops: the item at the i-th place of set `k` has the symbol second; the rule is of the symbol alone, and its left side is
-- predicted.
abbrev pub is_second : List Rule → List ℕ → ℕ → ℕ → Pass → ℕ → Bool
is_second rs starts k x s i = eqb (second_of rs (item_at s.items (get_or starts k 0 + i))) x

abbrev pub is_alone : List Rule → List ℕ → ℕ → ℕ → ℕ → Bool
is_alone rs rows k x r = eqb (get_or rs r no_rule).second none && waits rs rows k x r

-- What completing set `k` and symbol `x` with a link queues.
abbrev pub calls : List Rule → List ℕ → List ℕ → ℕ → ℕ → ℕ → Pass → List Entry
calls rs starts rows k x link s =
    when (predicted rows k x)
    (medials (is_second rs starts k x s) (get_or starts k 0) (get_or starts (k + 1) 0 - get_or starts k 0) link
    ++ lones (is_alone rs rows k x) s.at.items (length rs))

module _ (rs : List Rule) (starts rows : List ℕ) (k x link : ℕ) (s : Pass) (sound : PassFits s) (charted : Charted rs starts s) where
  abbrev from : ℕ
  from = get_or starts k 0

  abbrev number : ℕ
  number = get_or starts (k + 1) 0 - get_or starts k 0

  abbrev turn : ℕ → Pass → Pass
  turn i = complete_medial rs x link (from + i)

  steady_at : (i : ℕ) → i ≤ number → Steady rs starts s (over i turn s)
  steady_at i le =
      over-keeps (Steady rs starts s) i turn
      (λ j u less steady. steady_medial rs starts s rows k x link (from + j) u (record { from = omega arith; up_to = omega arith }) steady) s
      (steady_refl rs starts s sound charted)

  medial_good : (p : ℕ) (u : Pass) → Good (complete_medial rs x link p u) → Good u
  unfolding complete_medial
  medial_good p u good = then_good u _ good

  -- One turn.
  medial_is : (p : ℕ) (u : Pass) → Good u
      → complete_medial rs x link p u ≡ elim (eqb (second_of rs (item_at u.items p)) x) [ true ↦ enqueue p link u | false ↦ u ]
  unfolding complete_medial
  medial_is p u good = goes_on u _ good.on

  same_second : (i : ℕ) → i < number → eqb (second_of rs (item_at (over i turn s).items (from + i))) x ≡ is_second rs starts k x s i
  same_second i less =
      ap (λ item. eqb (second_of rs item) x)
      ((steady_at i (omega arith)).onward.same-items (from + i) (omega (arith, charted.starts_fit (k + 1))))

  turn_is : (i : ℕ) (b : Bool) → i < number → Good (over i turn s) → is_second rs starts k x s i ≡ b
      → complete_medial rs x link (from + i) (over i turn s) ≡ elim b [ true ↦ enqueue (from + i) link (over i turn s) | false ↦ over i turn s ]
  turn_is i b less before passes =
      medial_is (from + i) (over i turn s) before
      ∙ ap (λ b. elim b as (λ (t : Bool). Pass) [ true ↦ enqueue (from + i) link (over i turn s) | false ↦ over i turn s ]) (same_second i less ∙ passes)

  -- The places of the set whose second is the symbol are queued with the link, each once, and nothing else.
  medials_pushed : Good (complete_medial_items rs starts k x link s) → (t : Entry → Bool)
      → count t (entries_of (complete_medial_items rs starts k x link s))
      ≡ count t (entries_of s) + count t (medials (is_second rs starts k x s) (get_or starts k 0) (get_or starts (k + 1) 0 - get_or starts k 0) link)
  unfolding complete_medial_items over
  medials_pushed good t =
      over_pushes (is_second rs starts k x s) (λ i. entry (from + i) link) entries_of Good turn s number
      (λ i less good. medial_good (from + i) (over i turn s) good)
      (λ i less good passes t.
      let is-it : complete_medial rs x link (from + i) (over i turn s) ≡ enqueue (from + i) link (over i turn s) =
      turn_is i true less (medial_good (from + i) (over i turn s) good) passes in
      ap (λ v. count t (entries_of v)) is-it
      ∙ enqueue_adds (from + i) link (over i turn s) (steady_at i (omega arith)).sound (subst Good is-it good) t)
      (λ i less good passes t.
      ap (λ v. count t (entries_of v)) (turn_is i false less (medial_good (from + i) (over i turn s) good) passes)) good t

-- The item of a rule and a link stands at a place.
pub record StandsAt (k r link p : ℕ) (u : Pass) : Type 0 where
  pub there : p < u.at.items
  pub is : item_at u.items p ≡ record { origin = k; rule = r; handle = link }

pub stands_onward : {k r link p : ℕ} {u v : Pass} → Onward u v → StandsAt k r link p u → StandsAt k r link p v
stands_onward {p = p} onward stands =
    record { there = omega (arith, stands.there, onward.more-items); is = onward.same-items p stands.there ∙ stands.is }

-- An item that was stored, and queued.
record Added (k r link : ℕ) (u v : Pass) : Type 0 where
  pub items : v.at.items ≡ u.at.items + 1
  pub counts : (t : Entry → Bool) → count t (entries_of v) ≡ count t (entries_of u) + once (t (entry u.at.items all_ones))
  pub stands : StandsAt k r link u.at.items v

record Grown (u v : Pass) : Type 0 where
  pub items : v.at.items ≡ u.at.items + 1
  pub entries : entries_of v ≡ entries_of u

store_grows : (k r link : ℕ) (u : Pass) → Good (store k r link u) → Grown u (store k r link u)
store_grows k r link u good =
    store_cases (λ v. Good v → Grown u v) u k r link (λ place good. record { items = refl; entries = refl }) (λ good. absurd (omega (arith, good.on))) good

both_adds : (k r link : ℕ) (u : Pass) → PassFits u → Good (and_then (store k r link u) (enqueue u.at.items all_ones))
    → Added k r link u (and_then (store k r link u) (enqueue u.at.items all_ones))
both_adds k r link u sound good =
    let stored : Good (store k r link u) = then_good (store k r link u) (enqueue u.at.items all_ones) good in
    let is-it : and_then (store k r link u) (enqueue u.at.items all_ones) ≡ enqueue u.at.items all_ones (store k r link u) =
    goes_on (store k r link u) (enqueue u.at.items all_ones) stored.on in
    let grown : Grown u (store k r link u) = store_grows k r link u stored in
    let place : u.at.items < (store k r link u).at.items = store-place k r link u stored.on in
    let fits : PassFits (store k r link u) = store-sound k r link u sound in
    record {
      items = ap (λ (v : Pass). v.at.items) is-it ∙ enqueue-count u.at.items all_ones (store k r link u) ∙ grown.items;
      counts = λ t.
          ap (λ v. count t (entries_of v)) is-it
          ∙ enqueue_adds u.at.items all_ones (store k r link u) fits (subst Good is-it good) t
          ∙ ap (λ l. count t l + once (t (entry u.at.items all_ones))) grown.entries;
      stands = subst (StandsAt k r link u.at.items) (sym is-it)
          (stands_onward (onward_enqueue u.at.items all_ones (store k r link u) fits.queued_fit)
          (record { there = place; is = stored-new k r link u sound u.at.items (omega arith) place }));
    }

module _ (rs : List Rule) (starts rows : List ℕ) (k x link : ℕ) (set : IsSet starts k) (s : Pass) (sound : PassFits s) (charted : Charted rs starts s) where
  abbrev rule-turn : ℕ → Pass → Pass
  rule-turn = complete_unary rs rows k x link

  steady_rule : (i : ℕ) → i ≤ length rs → Steady rs starts s (over i rule-turn s)
  steady_rule i le =
      over-keeps (Steady rs starts s) i rule-turn (λ j u less steady. steady_unary rs starts s rows k x link set j u (omega arith) steady) s
      (steady_refl rs starts s sound charted)

  rule_good : (r : ℕ) (u : Pass) → Good (complete_unary rs rows k x link r u) → Good u
  unfolding complete_unary
  rule_good r u good = then_good u _ good

  rule_is : (r : ℕ) (u : Pass) → Good u
      → complete_unary rs rows k x link r u ≡ elim (is_alone rs rows k x r) [ true ↦ and_then (store k r link u) (enqueue u.at.items all_ones) | false ↦ u ]
  unfolding complete_unary
  rule_is r u good = goes_on u _ good.on

  rule_skips : (r : ℕ) (u : Pass) → Good u → is_alone rs rows k x r ≡ false → complete_unary rs rows k x link r u ≡ u
  rule_skips r u good passes =
      rule_is r u good
      ∙ ap (λ b. elim b as (λ (t : Bool). Pass) [ true ↦ and_then (store k r link u) (enqueue u.at.items all_ones) | false ↦ u ]) passes

  rule_adds : (r : ℕ) (u : Pass) → PassFits u → Good (complete_unary rs rows k x link r u) → is_alone rs rows k x r ≡ true
      → Added k r link u (complete_unary rs rows k x link r u)
  rule_adds r u sound good passes =
      let is-it : complete_unary rs rows k x link r u ≡ and_then (store k r link u) (enqueue u.at.items all_ones) =
      rule_is r u (rule_good r u good)
      ∙ ap (λ b. elim b as (λ (t : Bool). Pass) [ true ↦ and_then (store k r link u) (enqueue u.at.items all_ones) | false ↦ u ]) passes in
      subst (Added k r link u) (sym is-it) (both_adds k r link u sound (subst Good is-it good))

  -- New items stand one behind another,
  items_at : (i : ℕ) → i ≤ length rs → Good (over i rule-turn s) → (over i rule-turn s).at.items ≡ s.at.items + passing (is_alone rs rows k x) i
  unfolding over passing
  items_at zero le good = omega arith
  items_at (suc i) le good =
      let before : Good (over i rule-turn s) = rule_good i (over i rule-turn s) good in
      let had : (over i rule-turn s).at.items ≡ s.at.items + passing (is_alone rs rows k x) i = items_at i (omega arith) before in
      either_way (is_alone rs rows k x i)
      (λ e. omega (arith, had, ap once e, (rule_adds i (over i rule-turn s) (steady_rule i (omega arith)).sound good e).items))
      (λ e. omega (arith, had, ap once e, ap (λ (v : Pass). v.at.items) (rule_skips i (over i rule-turn s) before e)))

  -- that of each rule that passes at its own place.
  rules-stand : (n : ℕ) → n ≤ length rs → Good (over n rule-turn s) → (r : ℕ) → r < n → is_alone rs rows k x r ≡ true
      → StandsAt k r link (s.at.items + passing (is_alone rs rows k x) r) (over n rule-turn s)
  unfolding over
  rules-stand zero le good r less passes = absurd (omega arith)
  rules-stand (suc n) le good r less passes =
      let u : Pass = over n rule-turn s in
      let before : Good (over n rule-turn s) = rule_good n (over n rule-turn s) good in
      let further : r < n → StandsAt k r link (s.at.items + passing (is_alone rs rows k x) r) (over n rule-turn s) =
      λ l. rules-stand n (omega arith) before r l passes in
      elim (dec_lt r n) [
        | yes l ↦
            (let steady : Steady rs starts u u = steady_refl rs starts u (steady_rule n (omega arith)).sound (steady_rule n (omega arith)).charted in
            stands_onward (steady_unary rs starts u rows k x link set n u (omega arith) steady).onward (further l))
        | no not ↦
            (let is : n ≡ r = omega arith in
            subst (λ r. StandsAt k r link (s.at.items + passing (is_alone rs rows k x) r) (rule-turn n u)) is
            (subst (λ p. StandsAt k n link p (rule-turn n u)) (items_at n (omega arith) before)
            (rule_adds n u (steady_rule n (omega arith)).sound good (subst (λ r. is_alone rs rows k x r ≡ true) (sym is) passes)).stands))
      ]

  -- It is queued without a right factor, and nothing else is.
  lones_pushed : Good (complete_unary_predictions rs rows k x link s) → (t : Entry → Bool)
      → count t (entries_of (complete_unary_predictions rs rows k x link s))
      ≡ count t (entries_of s) + count t (lones (is_alone rs rows k x) s.at.items (length rs))
  unfolding complete_unary_predictions over
  lones_pushed good t =
      over_pushes (is_alone rs rows k x) (λ r. entry (s.at.items + passing (is_alone rs rows k x) r) all_ones) entries_of Good rule-turn s (length rs)
      (λ i less good. rule_good i (over i rule-turn s) good)
      (λ i less good passes t.
      (rule_adds i (over i rule-turn s) (steady_rule i (omega arith)).sound good passes).counts t
      ∙ ap (λ p. count t (entries_of (over i rule-turn s)) + once (t (entry p all_ones))) (items_at i (omega arith) (rule_good i (over i rule-turn s) good)))
      (λ i less good passes t. ap (λ v. count t (entries_of v)) (rule_skips i (over i rule-turn s) (rule_good i (over i rule-turn s) good) passes)) good t

-- Rules of two symbols queue nothing.
record Unqueued (u v : Pass) : Type 0 where
  pub good : Good v → Good u
  pub entries : entries_of v ≡ entries_of u

module _ (rs : List Rule) (rows : List ℕ) (k x link : ℕ) where
  store_unqueued : (r : ℕ) (s u : Pass) → u.at.stopped ≡ 0 → Unqueued s u → Unqueued s (store k r link u)
  store_unqueued r s u on before =
      store_cases (Unqueued s) u k r link (λ place. record { good = λ g. before.good (record { on = on }); entries = before.entries })
      (record { good = λ g. before.good (record { on = on }); entries = before.entries })

  binaries_unqueued : (starts : List ℕ) (s : Pass) → Unqueued s (complete_binary_predictions rs rows k x link s)
  binaries_unqueued starts s =
      binary_predictions_go rs starts rows k x link (λ r u. Unqueued s u) (λ r u before. before) (λ r u begins two on before. store_unqueued r s u on before) s
      (record { good = λ g. g; entries = refl })

  rules_good : (s : Pass) → Good (complete_unary_predictions rs rows k x link s) → Good s
  unfolding complete_unary_predictions complete_unary
  rules_good s =
      over-keeps (λ u. Good u → Good s) (length rs) (complete_unary rs rows k x link) (λ r u less before good. before (unary_back r u good)) s (λ g. g)
    where
      unary_back : (r : ℕ) (u : Pass) → Good (complete_unary rs rows k x link r u) → Good u
      unary_back r u good = then_good u _ good

  medials_good : (starts : List ℕ) (s : Pass) → Good (complete_medial_items rs starts k x link s) → Good s
  unfolding complete_medial_items complete_medial
  medials_good starts s =
      over-keeps (λ u. Good u → Good s) (get_or starts (k + 1) 0 - get_or starts k 0) (λ i. complete_medial rs x link (get_or starts k 0 + i))
      (λ i u less before good. before (medial_back (get_or starts k 0 + i) u good)) s (λ g. g)
    where
      medial_back : (p : ℕ) (u : Pass) → Good (complete_medial rs x link p u) → Good u
      medial_back p u good = then_good u _ good

module _ (rs : List Rule) (starts rows : List ℕ) (k x link : ℕ) (set : IsSet starts k) (s : Pass) (sound : PassFits s) (charted : Charted rs starts s)
    (good : Good (complete rs starts rows k x link s)) where
  abbrev medial : Pass
  medial = complete_medial_items rs starts k x link s

  abbrev unary : Pass
  unary = complete_unary_predictions rs rows k x link (complete_medial_items rs starts k x link s)

  abbrev binary : Pass
  binary = complete_binary_predictions rs rows k x link (complete_unary_predictions rs rows k x link (complete_medial_items rs starts k x link s))

  medial_steady : Steady rs starts s medial
  medial_steady = steady_medial_items rs starts s rows k x link s (steady_refl rs starts s sound charted)

  module _ (row : predicted rows k x ≡ true) where
    unary_good : Good unary
    unary_good = (binaries_unqueued rs rows k x link starts unary).good (subst Good (complete_parts rs starts rows k x link s row) good)

    -- The new item of each rule of the symbol alone stands at its place.
    pub complete-stands : (r : ℕ) → r < length rs → is_alone rs rows k x r ≡ true
        → StandsAt k r link (s.at.items + passing (is_alone rs rows k x) r) (complete rs starts rows k x link s)
    unfolding complete_unary_predictions
    complete-stands r less passes =
        subst (StandsAt k r link (s.at.items + passing (is_alone rs rows k x) r)) (sym (complete_parts rs starts rows k x link s row))
        (stands_onward
        (steady_binary_predictions rs starts unary rows k x link set unary
        (steady_refl rs starts unary unary_steady.sound unary_steady.charted)).onward
        (subst (λ n. StandsAt k r link (n + passing (is_alone rs rows k x) r) unary) (medial_items_none rs starts rows s k x link set s)
        (rules-stand rs starts rows k x link set medial medial_steady.sound medial_steady.charted (length rs) (omega arith) unary_good r less passes)))
      where
        unary_steady : Steady rs starts s unary
        unary_steady = steady_unary_predictions rs starts s rows k x link set medial medial_steady

    row_pushed : (t : Entry → Bool)
        → count t (entries_of (complete rs starts rows k x link s)) ≡ count t (entries_of s)
        + count t
        (medials (is_second rs starts k x s) (get_or starts k 0) (get_or starts (k + 1) 0 - get_or starts k 0) link
        ++ lones (is_alone rs rows k x) s.at.items (length rs))
    row_pushed t =
        let l1 : List Entry = medials (is_second rs starts k x s) (get_or starts k 0) (get_or starts (k + 1) 0 - get_or starts k 0) link in
        let l2 : List Entry = lones (is_alone rs rows k x) s.at.items (length rs) in
        let firsts : count t (entries_of medial) ≡ count t (entries_of s) + count t l1 =
        medials_pushed rs starts rows k x link s sound charted (rules_good rs rows k x link medial unary_good) t in
        let seconds : count t (entries_of unary) ≡ count t (entries_of medial) + count t (lones (is_alone rs rows k x) medial.at.items (length rs)) =
        lones_pushed rs starts rows k x link set medial medial_steady.sound medial_steady.charted unary_good t in
        let same : count t (lones (is_alone rs rows k x) medial.at.items (length rs)) ≡ count t l2 =
        ap (λ n. count t (lones (is_alone rs rows k x) n (length rs))) (medial_items_none rs starts rows s k x link set s) in
        ap (λ v. count t (entries_of v)) (complete_parts rs starts rows k x link s row)
        ∙ ap (λ l. count t l) (binaries_unqueued rs rows k x link starts unary).entries
        ∙ omega (arith, firsts, seconds, same, count-append t l1 l2)

  -- COMPLETING A PAIR queues exactly what it calls for.
  pub complete-pushed : (t : Entry → Bool)
      → count t (entries_of (complete rs starts rows k x link s)) ≡ count t (entries_of s) + count t (calls rs starts rows k x link s)
  unfolding count
  complete-pushed t =
      let l : List Entry =
      medials (is_second rs starts k x s) (get_or starts k 0) (get_or starts (k + 1) 0 - get_or starts k 0) link
      ++ lones (is_alone rs rows k x) s.at.items (length rs) in
      either_way (predicted rows k x)
      (λ row. row_pushed row t ∙ ap (λ b. count t (entries_of s) + count t (when b l)) (sym row))
      (λ no_row.
      ap (λ v. count t (entries_of v)) (complete_passed rs starts rows k x link s no_row)
      ∙ (let z : count t (entries_of s) ≡ count t (entries_of s) + 0 = omega arith in z)
      ∙ ap (λ b. count t (entries_of s) + count t (when b l)) (sym no_row))

  -- It was not refused before.
  pub complete_good : Good s
  complete_good =
      either_way (predicted rows k x) (λ row. medials_good rs rows k x link starts s (rules_good rs rows k x link medial (unary_good row)))
      (λ no_row. subst Good (complete_passed rs starts rows k x link s no_row) good)

-- Completing a pair writes no node,
pub record SameNodes (s u : Pass) : Type 0 where
  pub units : u.units ≡ s.units
  pub used : u.at.used ≡ s.at.used

module _ (rs : List Rule) (starts rows : List ℕ) (k x link : ℕ) where
  same_store : (r : ℕ) (s u : Pass) → SameNodes s u → SameNodes s (store k r link u)
  same_store r s u same =
      store_cases (SameNodes s) u k r link (λ place. record { units = same.units; used = same.used }) (record { units = same.units; used = same.used })

  same-enqueue : (p right : ℕ) (s u : Pass) → SameNodes s u → SameNodes s (enqueue p right u)
  same-enqueue p right s u same =
      enqueue_cases (SameNodes s) u p right (λ free. record { units = same.units; used = same.used }) (record { units = same.units; used = same.used })

  pub complete-nodes : (s : Pass) → SameNodes s (complete rs starts rows k x link s)
  complete-nodes s =
      complete_cases rs starts rows k x link (SameNodes s) s (record { units = refl; used = refl })
      (λ there.
      binary_predictions_go rs starts rows k x link (λ r. SameNodes s) (λ r u same. same) (λ r u begins two on same. same_store r s u same)
      (complete_unary_predictions rs rows k x link (complete_medial_items rs starts k x link s))
      (unary_predictions_go rs starts rows k x link (λ r. SameNodes s) (λ r u same. same)
      (λ r u begins one on same.
      then_cases (SameNodes s) (store k r link u) _ (same_store r s u same)
      (λ on. same-enqueue u.at.items all_ones s (store k r link u) (same_store r s u same)))
      (complete_medial_items rs starts k x link s)
      (medial_items_keep rs starts rows k x link (SameNodes s) (λ p u inside second on same. same-enqueue p link s u same) s
      (record { units = refl; used = refl }))))

-- and what it stores has the pair's link.
record Linking (rs : List Rule) (starts : List ℕ) (s : Pass) (link : ℕ) (u : Pass) : Type 0 where
  pub steady : Steady rs starts s u
  pub links : (p : ℕ) → s.at.items ≤ p → p < u.at.items → handle_at u.items p ≡ link

module _ (rs : List Rule) (starts rows : List ℕ) (k x link : ℕ) (set : IsSet starts k) (s : Pass) where
  linking_store : (r : ℕ) (u : Pass) → r < length rs → Linking rs starts s link u → Linking rs starts s link (store k r link u)
  linking_store r u rule linking =
      record {
        steady = steady_store rs starts s k r link u set rule linking.steady;
        links = λ p from up_to.
            elim (dec_lt p u.at.items) [
              | yes old ↦ ap (λ (i : Item). i.handle) ((onward_store k r link u).same-items p old) ∙ linking.links p from old
              | no new ↦ ap (λ (i : Item). i.handle) (stored-new k r link u linking.steady.sound p (omega arith) up_to)
            ];
      }

  linking_enqueue : (place right : ℕ) (u : Pass) → place < u.at.items → Linking rs starts s link u → Linking rs starts s link (enqueue place right u)
  linking_enqueue place right u there linking =
      record {
        steady = steady_enqueue rs starts s place right u there linking.steady;
        links = λ p from up_to.
            let old : p < u.at.items = omega (arith, enqueue-count place right u) in
            ap (λ (i : Item). i.handle) ((onward_enqueue place right u linking.steady.sound.queued_fit).same-items p old) ∙ linking.links p from old;
      }

  complete_linking : (u : Pass) → Linking rs starts s link u → Linking rs starts s link (complete rs starts rows k x link u)
  complete_linking u linking =
      complete_cases rs starts rows k x link (Linking rs starts s link) u linking
      (λ there.
      binary_predictions_go rs starts rows k x link (λ r. Linking rs starts s link) (λ r u l. l)
      (λ r u begins two on l. linking_store r u begins.is_rule l)
      (complete_unary_predictions rs rows k x link (complete_medial_items rs starts k x link u))
      (unary_predictions_go rs starts rows k x link (λ r. Linking rs starts s link) (λ r u l. l)
      (λ r u begins one on l.
      let stored : Linking rs starts s link (store k r link u) = linking_store r u begins.is_rule l in
      then_cases (Linking rs starts s link) (store k r link u) _ stored
      (λ on. linking_enqueue u.at.items all_ones (store k r link u) (store-place k r link u on) stored))
      (complete_medial_items rs starts k x link u)
      (medial_items_keep rs starts rows k x link (Linking rs starts s link)
      (λ p u inside second on l. linking_enqueue p link u (omega (arith, inside.up_to, l.steady.charted.starts_fit (k + 1))) l) u linking)))

  pub complete_links : PassFits s → Charted rs starts s → (p : ℕ) → s.at.items ≤ p → p < (complete rs starts rows k x link s).at.items
      → handle_at (complete rs starts rows k x link s).items p ≡ link
  complete_links sound charted =
      (complete_linking s (record { steady = steady_refl rs starts s sound charted; links = λ p from up_to. absurd (omega arith) })).links
