-- Step 2 of a position: what completing one kind keeps, scanning all its kinds keeps.
use Rattle.std.proofs.Common.{◌≡◌, refl, sym, ap, ◌∙◌, subst, true, false, List, [], ◌∷◌, ℕ, suc, ◌+◌, ◌≤◌, ◌<◌, add-one, arith, length, get_or, drop, drop_of_length-le, drop-cons}
use mathlib.Core.List.Memᴰ.{head as here}
use mathlib.Core.List.Memᴰ.{tail as later}
use mathlib.Core.List.{Memᴰ as Member}
use Rattle.laws.proofs.Tests.{either_way}
use Rattle.item.specs.Item.{Item}
use Rattle.grammar.specs.Rules.{Rule, no_rule}
use Rattle.node.specs.declared.Node.TheVariants.{Evaluated}
use Rattle.completion.specs.Pass.{Pass, append}
use Rattle.completion.specs.Complete.{predicted, complete}
use Rattle.completion.specs.Scan.{scan, scan_all}
use Rattle.completion.specs.inner.Ready.{IsSet}
use Rattle.completion.specs.inner.Pending.{Grounds, Pending}
use Rattle.completion.proofs.Entries.{entries-length}
use Rattle.completion.proofs.Charting.{Steady, steady_append, steady_complete}
use Rattle.completion.proofs.Heaped.{Heaped, heaped_more, heaped_append, heaped_complete}
use Rattle.completion.proofs.Pending.{Lower, pending_steady, pending_append, pending_complete}

-- No rule has this left side: a token.
pub record Leaf (rs : List Rule) (t : ℕ) : Type 0 where
  pub none : (r : ℕ) → r < length rs → (get_or rs r no_rule).left ≡ t → ⊥

-- Each of the kinds is one, and none is there twice.
pub record Scannable (rs : List Rule) (kinds : List ℕ) : Type 0 where
  pub leaf : (t : ℕ) → Member t kinds → Leaf rs t
  pub once : (i j : ℕ) → i < j → j < length kinds → get_or kinds i 0 ≡ get_or kinds j 0 → ⊥

-- What differs at every place is no member.
no_member : {t : ℕ} {kinds : List ℕ} → ((i : ℕ) → i < length kinds → t ≡ get_or kinds i 0 → ⊥) → Member t kinds → ⊥
no_member differs (here is) = differs 0 (omega arith) is
no_member differs (later m) = no_member (λ i less. differs (suc i) (omega arith)) m

module _ {rs : List Rule} {t : ℕ} {kinds : List ℕ} (scannable : Scannable rs (t ∷ kinds)) where
  -- The first kind is none of those behind it, and these are scannable.
  pub first-once : Member t kinds → ⊥
  first-once = no_member (λ i less. scannable.once 0 (suc i) (omega arith) (omega arith))

  pub rest_scannable : Scannable rs kinds
  rest_scannable = record {
    leaf = λ u m. scannable.leaf u (later m);
    once = λ i j before less. scannable.once (suc i) (suc j) (omega arith) (omega arith);
  }

-- Of a set and a token every item is below whose origin is not above the set.
pub leaf-lower : {rs : List Rule} {e t : ℕ} {i : Item} → Leaf rs t → i.origin ≤ e → Lower rs e t i
leaf-lower leaf up_to = record { up_to = up_to; below = λ r there left. absurd (leaf.none r there left) }

module _ (rs : List Rule) (starts rows : List ℕ) (e t : ℕ) (s : Pass) where
  -- A kind that is predicted gets its node and is completed; another is passed over.
  pub scan_on : predicted rows e t ≡ true → scan rs starts rows e t s ≡ complete rs starts rows e t s.at.used (append (Evaluated t) s)
  unfolding scan
  scan_on on = rw (scan, on) refl

  pub scan_off : predicted rows e t ≡ false → scan rs starts rows e t s ≡ s
  unfolding scan
  scan_off off = rw (scan, off) refl

module _ (rs : List Rule) (starts rows : List ℕ) (e : ℕ) where
  -- What holds with the kinds that are left, before and after each kind, holds at the end.
  module _ (P : List ℕ → Pass → Type 0) (skipping : (t : ℕ) (kinds : List ℕ) (s : Pass) → P (t ∷ kinds) s → P kinds s)
      (completing : (t : ℕ) (kinds : List ℕ) (s : Pass) → predicted rows e t ≡ true → P (t ∷ kinds) s
      → P kinds (complete rs starts rows e t s.at.used (append (Evaluated t) s))) where
    pub scan_all_goes : (kinds : List ℕ) (s : Pass) → P kinds s → P [] (scan_all rs starts rows e kinds s)
    unfolding scan_all
    scan_all_goes [] s before = before
    scan_all_goes (t ∷ kinds) s before =
        scan_all_goes kinds (scan rs starts rows e t s)
        (either_way (predicted rows e t) (λ on. subst (P kinds) (sym (scan_on rs starts rows e t s on)) (completing t kinds s on before))
        (λ off. subst (P kinds) (sym (scan_off rs starts rows e t s off)) (skipping t kinds s before)))

  -- What completing each predicted kind keeps, scanning keeps.
  pub scan_all-keeps : (kinds : List ℕ) (P : Pass → Type 0)
      → ((t : ℕ) (s : Pass) → Member t kinds → predicted rows e t ≡ true → P s → P (complete rs starts rows e t s.at.used (append (Evaluated t) s)))
      → (s : Pass) → P s → P (scan_all rs starts rows e kinds s)
  scan_all-keeps kinds P completing s before =
      (scan_all_goes (λ left s. ((t : ℕ) → Member t left → Member t kinds) × P s)
      (λ t left s so_far. (λ u m. so_far.0 u (later m), so_far.1))
      (λ t left s on so_far. (λ u m. so_far.0 u (later m), completing t s (so_far.0 t (here refl)) on so_far.1))
      kinds s (λ t m. m, before)).1

  -- Nothing that was there is touched, and the pass stays sound and charted.
  pub steady_scan_all : (s : Pass) → IsSet starts e → (kinds : List ℕ) (t : Pass) → Steady rs starts s t → Steady rs starts s (scan_all rs starts rows e kinds t)
  steady_scan_all s set kinds =
      scan_all-keeps kinds (Steady rs starts s)
      (λ x t m on steady. steady_complete rs starts s rows e x t.at.used set (append (Evaluated x) t) (steady_append rs starts s (Evaluated x) t steady))

-- A pending pass stays pending.
pub pending_scan_all : {rs : List Rule} {starts rows : List ℕ} {e : ℕ} → Grounds rs starts rows → IsSet starts e → (kinds : List ℕ) (s : Pass)
    → Pending rs starts s → Pending rs starts (scan_all rs starts rows e kinds s)
pending_scan_all {rs} {starts} {rows} {e} grounds set kinds =
    scan_all-keeps rs starts rows e kinds (Pending rs starts)
    (λ t s m on pending. pending_complete (append (Evaluated t) s) (pending_append s pending (Evaluated t)) rows e t s.at.used set)

module _ {rs : List Rule} {starts : List ℕ} (rows : List ℕ) (s : Pass) (pending : Pending rs starts s) (e : ℕ) (set : IsSet starts e) (kinds : List ℕ) where
  -- Scanning queues only items of origins up to its set,
  pub scan_all-up_to : (t : Pass) → Heaped rs starts (λ i. i.origin ≤ e) s t → Heaped rs starts (λ i. i.origin ≤ e) s (scan_all rs starts rows e kinds t)
  scan_all-up_to =
      scan_all-keeps rs starts rows e kinds (Heaped rs starts (λ i. i.origin ≤ e) s)
      (λ x t m on heaped.
      heaped_complete rs starts (λ i. i.origin ≤ e) s rows e x t.at.used set pending.charted
      (λ p inside second. omega (arith, pending.earlier e p inside.from inside.up_to)) (λ r begins one. omega arith)
      (append (Evaluated x) t) (heaped_append rs starts (λ i. i.origin ≤ e) s (Evaluated x) t heaped))

  -- and so, from an empty queue, only what is below the set and any token.
  pub scan_all-lower : s.at.queued ≡ 0 → (t : ℕ) → Leaf rs t → Heaped rs starts (Lower rs e t) s (scan_all rs starts rows e kinds s)
  scan_all-lower none t leaf =
      heaped_more rs starts s (λ i. i.origin ≤ e) (Lower rs e t) (λ i. leaf-lower leaf) (scan_all rs starts rows e kinds s)
      (scan_all-up_to s
      (record {
        steady = pending_steady s pending;
        ordered = record {
          heap = pending.heap;
          each = record { each = λ i there. absurd (omega (arith, entries-length s pending.sound.queued_fit)) };
        };
      }))

-- The loop over the kinds came from pass `start` to pass `now`: scanning those from place `i` on gives what scanning all gives.
pub record Scans (rs : List Rule) (starts rows : List ℕ) (e : ℕ) (kinds : List ℕ) (start now : Pass) (i : ℕ) : Type 0 where
  pub steady : Steady rs starts start now
  pub same : scan_all rs starts rows e (drop i kinds) now ≡ scan_all rs starts rows e kinds start

module _ {rs : List Rule} {starts rows : List ℕ} {e : ℕ} {kinds : List ℕ} {start now : Pass} {i : ℕ} (scans : Scans rs starts rows e kinds start now i) where
  -- A turn scans the kind at the place.
  pub scans_turn : IsSet starts e → i < length kinds → (next : Pass) → next ≡ scan rs starts rows e (get_or kinds i 0) now
      → Scans rs starts rows e kinds start next (i + 1)
  unfolding scan_all
  scans_turn set there next is =
      subst (λ (u : Pass). Scans rs starts rows e kinds start u (i + 1)) (sym is)
      (record {
        steady = steady_scan_all rs starts rows e start set (get_or kinds i 0 ∷ []) now scans.steady;
        same = ap (λ (n : ℕ). scan_all rs starts rows e (drop n kinds) (scan rs starts rows e (get_or kinds i 0) now)) (add-one i)
            ∙ sym (ap (λ (left : List ℕ). scan_all rs starts rows e left now) (drop-cons kinds i 0 there)) ∙ scans.same;
      })

  -- Behind the last kind all are scanned.
  pub scans_end : length kinds ≤ i → now ≡ scan_all rs starts rows e kinds start
  unfolding scan_all
  scans_end behind = sym (ap (λ (left : List ℕ). scan_all rs starts rows e left now) (drop_of_length-le kinds behind)) ∙ scans.same
