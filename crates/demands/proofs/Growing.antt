-- What the steps of a pass add: places to the queue, and items behind those that are there.
use mathlib.Core.Path.{◌≡◌, refl, sym, ap, ◌∙◌, subst}
use mathlib.Core.Bool.{Bool}
use mathlib.Core.Logic.{◌⊎◌, inl, inr}
use Prim.Native.Nat.{ℕ, zero, suc, ◌+◌, ◌<◌}
use native.Mathlib.Decide.{dec_lt, ℕ_discrete}
use native.Mathlib.Omega.{arith}
use lib.Dec.{eqb}
use borrow.Author.Tests.{eqb-true, eq-eqb, ne_eqb}
use Rattle.laws.specs.Counts.{once, count}
use Rattle.laws.specs.Turns.{over}
use Rattle.laws.proofs.Counts.{Passes, found}
use Rattle.item.specs.Item.{Item, item_at, origin_at, rule_at}
use Rattle.binary_heap.specs.Entry.{Entry, no_entry, entry_key}
use Rattle.binary_heap.specs.Sift.{entry_at}
use Rattle.binary_heap.proofs.PushLaws.{pushed-counts}
use Rattle.binary_heap.proofs.PopLaws.{popped-counts}
use Rattle.parse.specs.declared.State.{State}
use Rattle.node.specs.declared.Node.{Node}
use Rattle.completion.specs.Pass.{Pass, and_then, store, enqueue, append}
use Rattle.completion.specs.Sums.{product_node, pop_greatest, next_summand}
use Rattle.completion.specs.inner.Ready.{PassFits}
use Rattle.completion.proofs.Pushes.{goes_on, stays}
use Rattle.completion.proofs.Entries.{entries_of, queued_pass, popped_pass, store_cases, enqueue_cases, append_cases, pop_is, entry_at_lem, some-entries, queued_entries, popped-entries}
use Rattle.completion.proofs.Onward.{Onward, onward_refl, onward_trans, onward_store, onward_enqueue, onward_append}
use Rattle.completion.proofs.Heaped.{sound-entries}
use Rattle.demands.proofs.Chart.{New}

-- An entry names place `p`.
abbrev pub names : ℕ → Entry → Bool
names p e = eqb p e.place

-- An entry of the queue names place `p`.
pub record IsEntry (s : Pass) (p : ℕ) : Type 0 where
  pub counted : 0 < count (names p) (entries_of s)

-- A store leaves the entries.
pub entry_store : (origin rule handle : ℕ) (s : Pass) (p : ℕ) → IsEntry s p → IsEntry (store origin rule handle s) p
entry_store origin rule handle s p entry =
    store_cases (λ (t : Pass). IsEntry t p) s origin rule handle (λ place. record { counted = entry.counted }) (record { counted = entry.counted })

-- So does a node that is written.
pub entry_append : (n : Node) (s : Pass) (p : ℕ) → IsEntry s p → IsEntry (append n s) p
entry_append n s p entry =
    append_cases (λ (t : Pass). IsEntry t p) s n entry (λ us on is some room. record { counted = entry.counted }) (record { counted = entry.counted })

module _ (s : Pass) (sound : PassFits s) where
  -- An entry is a place of an item.
  pub entry_place : (p : ℕ) → IsEntry s p → p < s.at.items
  entry_place p entry =
      let at : Passes (names p) (entries_of s) no_entry = found (names p) (entries_of s) no_entry entry.counted in
      subst (λ (n : ℕ). n < s.at.items) (sym (eqb-true p (entry_at (entries_of s) at.place).place at.passes))
      ((sound-entries s sound).each at.place at.within)

  queued_counts : (place right p : ℕ) → count (names p) (entries_of (queued_pass place right s)) ≡ count (names p) (entries_of s) + once (eqb p place)
  queued_counts place right p =
      ap (count (names p)) (queued_entries s sound.queued_fit place right)
      ∙ pushed-counts (entry_key s.items) (entries_of s) (record { place = place; right = right }) (names p)

  -- A push leaves the entries that are there,
  pub entry_enqueue : (place right p : ℕ) → IsEntry s p → IsEntry (enqueue place right s) p
  entry_enqueue place right p entry =
      enqueue_cases (λ (t : Pass). IsEntry t p) s place right (λ free. record { counted = omega (arith, queued_counts place right p, entry.counted) })
      (record { counted = entry.counted })

  -- and one that is not refused adds its own.
  pub entry_new : (place right : ℕ) → (enqueue place right s).at.stopped ≡ 0 → IsEntry (enqueue place right s) place
  entry_new place right =
      enqueue_cases (λ (t : Pass). t.at.stopped ≡ 0 → IsEntry t place) s place right
      (λ free on. record { counted = omega (arith, queued_counts place right place, ap once (eq-eqb place place refl)) }) (λ on. absurd (omega arith))

  -- A summand takes away the greatest, and no other.
  pub entry_next : 0 < s.at.queued → (p : ℕ) → IsEntry s p → (p ≡ (entry_at s.queue 0).place) ⊎ IsEntry (next_summand s) p
  unfolding next_summand
  entry_next some p entry =
      elim (ℕ_discrete p (entry_at s.queue 0).place) [
        | yes top ↦ inl top
        | no other ↦
            inr (entry_append (product_node s.items (entry_at s.queue 0)) (pop_greatest s) p
            (pop_is (λ (t : Pass). IsEntry t p) s some (record { counted = left other })))
      ]
    where
      left : (p ≡ (entry_at s.queue 0).place → ⊥) → 0 < count (names p) (entries_of (popped_pass s))
      left other =
          let first : (entry_at (entries_of s) 0).place ≡ (entry_at s.queue 0).place = ap (λ (e : Entry). e.place) (entry_at_lem s sound.queued_fit 0 some) in
          omega (
            arith,
            entry.counted,
            ap (count (names p)) (popped-entries s sound.queued_fit some),
            popped-counts (entry_key s.items) (entries_of s) (some-entries s sound.queued_fit some) (names p),
            ap once (ne_eqb p (entry_at (entries_of s) 0).place (λ same. other (same ∙ first))),
          )

-- An item of origin `o` and rule `r` is queued.
pub record Queued (s : Pass) (o r : ℕ) : Type 0 where
  pub place : ℕ
  pub entry : IsEntry s place
  pub origin : origin_at s.items place ≡ o
  pub rule : rule_at s.items place ≡ r

-- Pass `t` has the items and the entries of pass `s`.
pub record Grows (s t : Pass) : Type 0 where
  pub onward : Onward s t
  pub entries : (p : ℕ) → IsEntry s p → IsEntry t p

pub grows_refl : (s : Pass) → Grows s s
grows_refl s = record { onward = onward_refl s; entries = λ p entry. entry }

pub grows_trans : {s t u : Pass} → Grows s t → Grows t u → Grows s u
grows_trans a b = record { onward = onward_trans a.onward b.onward; entries = λ p entry. b.entries p (a.entries p entry) }

pub grows_store : (origin rule handle : ℕ) (s : Pass) → Grows s (store origin rule handle s)
grows_store origin rule handle s = record { onward = onward_store origin rule handle s; entries = entry_store origin rule handle s }

pub grows_enqueue : (place right : ℕ) (s : Pass) → PassFits s → Grows s (enqueue place right s)
grows_enqueue place right s sound = record { onward = onward_enqueue place right s sound.queued_fit; entries = entry_enqueue s sound place right }

pub grows_append : (n : Node) (s : Pass) → Grows s (append n s)
grows_append n s = record { onward = onward_append n s; entries = entry_append n s }

-- A node that was written was written where nothing had been refused.
pub before-append : (n : Node) (s : Pass) → (append n s).at.stopped ≡ 0 → s.at.stopped ≡ 0
before-append n s =
    append_cases (λ (t : Pass). t.at.stopped ≡ 0 → s.at.stopped ≡ 0) s n (λ on. on) (λ us on is some room still. on) (λ still. absurd (omega arith))

-- What is queued stays queued, and what was stored stays stored.
pub queued_grows : {s t : Pass} {o r : ℕ} → PassFits s → Grows s t → Queued s o r → Queued t o r
queued_grows {s} {t} {o} {r} sound grows queued =
    let same : item_at t.items queued.place ≡ item_at s.items queued.place =
    grows.onward.same-items queued.place (entry_place s sound queued.place queued.entry) in
    record {
      place = queued.place;
      entry = grows.entries queued.place queued.entry;
      origin = ap (λ (i : Item). i.origin) same ∙ queued.origin;
      rule = ap (λ (i : Item). i.rule) same ∙ queued.rule;
    }

pub new_grows : {st : State} {s t : Pass} {o r : ℕ} → Grows s t → New st s o r → New st t o r
new_grows {st} {s} {t} {o} {r} grows new =
    let same : item_at t.items new.place ≡ item_at s.items new.place = grows.onward.same-items new.place new.before in
    record {
      place = new.place;
      behind = new.behind;
      before = omega (arith, new.before, grows.onward.more-items);
      origin = ap (λ (i : Item). i.origin) same ∙ new.origin;
      rule = ap (λ (i : Item). i.rule) same ∙ new.rule;
    }

-- A step from pass `s` to pass `t`: it keeps `K`, adds only, and where it was not refused it brings `N`.
pub record Step (K N : Pass → Type 0) (s t : Pass) : Type 0 where
  pub kept : K t
  pub grows : Grows s t
  pub before : t.at.stopped ≡ 0 → s.at.stopped ≡ 0
  pub brings : t.at.stopped ≡ 0 → N t

pub step_skips : {K N : Pass → Type 0} (s : Pass) → K s → (s.at.stopped ≡ 0 → N s) → Step K N s s
step_skips s kept brings = record { kept = kept; grows = grows_refl s; before = λ on. on; brings = brings }

-- Nothing is asked of a pass that was refused.
pub step_then : {K N : Pass → Type 0} (s : Pass) (next : Pass → Pass) → K s → (s.at.stopped ≡ 0 → Step K N s (next s)) → Step K N s (and_then s next)
step_then {K} {N} s next kept goes =
    elim (ℕ_discrete s.at.stopped 0) [
      | yes on ↦ subst (Step K N s) (sym (goes_on s next on)) (goes on)
      | no off ↦ subst (Step K N s) (sym (stays s next off)) (step_skips s kept (λ on. absurd (off on)))
    ]

pub step_brings : {K N M : Pass → Type 0} {s t : Pass} → Step K N s t → (N t → M t) → Step K M s t
step_brings step f = record { kept = step.kept; grows = step.grows; before = step.before; brings = λ on. f (step.brings on) }

-- Steps one behind the other bring what each brings, where that stays.
pub over_steps : (K : Pass → Type 0) (N : ℕ → Pass → Type 0) → ((i : ℕ) (s t : Pass) → K s → Grows s t → N i s → N i t)
    → (n : ℕ) (turn : ℕ → Pass → Pass) → ((i : ℕ) (s : Pass) → i < n → K s → Step K (N i) s (turn i s)) → (s : Pass) → K s
    → Step K (λ t. (i : ℕ) → i < n → N i t) s (over n turn s)
unfolding over
over_steps K N stays-so zero turn step s kept = step_skips s kept (λ on i there. absurd (omega arith))
over_steps K N stays-so (suc n) turn step s kept =
    let first : Step K (λ t. (i : ℕ) → i < n → N i t) s (over n turn s) =
    over_steps K N stays-so n turn (λ i u there. step i u (omega arith)) s kept in
    let last : Step K (N n) (over n turn s) (turn n (over n turn s)) = step n (over n turn s) (omega arith) first.kept in
    record {
      kept = last.kept;
      grows = grows_trans first.grows last.grows;
      before = λ on. first.before (last.before on);
      brings = λ on i there.
          elim (dec_lt i n) [
            | yes earlier ↦
                stays-so i (over n turn s) (turn n (over n turn s)) first.kept last.grows (first.brings (last.before on) i earlier)
            | no late ↦
                (let is : n ≡ i = omega arith in
                subst (λ (j : ℕ). N j (turn n (over n turn s))) is (last.brings on))
          ];
    }
