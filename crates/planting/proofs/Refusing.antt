-- Where a pass is refused with 14: at a node, and never while a pair is completed.
use Rattle.std.proofs.Common.{◌≡◌, refl, sym, subst, false, List, ◌⊎◌, inl, inr, ⊎_elim, ℕ, zero, suc, arith}
use Rattle.laws.specs.Turns.{until}
use Rattle.laws.proofs.Tests.{either_way}
use Rattle.laws.proofs.Turns.{until-rests, until_turns}
use Rattle.binary_heap.specs.Sift.{entry_at}
use Rattle.grammar.specs.Rules.{Rule}
use Rattle.node.specs.Rows.{all_ones}
use Rattle.node.specs.declared.Node.{Node}
use Rattle.completion.specs.Pass.{Pass, store, enqueue, append, store_full}
use Rattle.completion.specs.Complete.{complete_medial_items, complete_unary_predictions, complete}
use Rattle.completion.specs.Sums.{product_node, sum_ends, pop_greatest, next_summand}
use Rattle.completion.proofs.Entries.{store_cases, enqueue_cases, append_cases, then_cases}
use Rattle.completion.proofs.Through.{medial_items_keep, unary_predictions_go, binary_predictions_go, complete_cases}

-- If pass `u` was refused with 14, so was `s`.
abbrev Full : Pass → Pass → Type 0
Full s u = u.at.stopped ≡ store_full → s.at.stopped ≡ store_full

full-store : (k r link : ℕ) (s u : Pass) → Full s (store k r link u)
full-store k r link s u = store_cases (Full s) u k r link (λ place e. absurd (omega arith)) (λ e. absurd (omega arith))

full-enqueue : (p right : ℕ) (s u : Pass) → Full s (enqueue p right u)
full-enqueue p right s u = enqueue_cases (Full s) u p right (λ free e. absurd (omega arith)) (λ e. absurd (omega arith))

-- Completing a pair writes no node, so it is not refused with 14.
pub complete-full : (rs : List Rule) (starts rows : List ℕ) (k x link : ℕ) (s : Pass) → (complete rs starts rows k x link s).at.stopped ≡ store_full
    → s.at.stopped ≡ store_full
complete-full rs starts rows k x link s =
    complete_cases rs starts rows k x link (Full s) s (λ e. e)
    (λ there.
    binary_predictions_go rs starts rows k x link (λ r. Full s) (λ r u full. full) (λ r u begins two on full. full-store k r link s u)
    (complete_unary_predictions rs rows k x link (complete_medial_items rs starts k x link s))
    (unary_predictions_go rs starts rows k x link (λ r. Full s) (λ r u full. full)
    (λ r u begins one on full.
    then_cases (Full s) (store k r link u) _ (full-store k r link s u) (λ on. full-enqueue u.at.items all_ones s (store k r link u)))
    (complete_medial_items rs starts k x link s)
    (medial_items_keep rs starts rows k x link (Full s) (λ p u inside second on full. full-enqueue p link s u) s (λ e. e))))

-- Writing a node goes on, or is refused with 14.
pub append-ends : (n : Node) (s : Pass) → s.at.stopped ≡ 0 → ((append n s).at.stopped ≡ 0) ⊎ ((append n s).at.stopped ≡ store_full)
append-ends n s on = append_cases (λ (t : Pass). (t.at.stopped ≡ 0) ⊎ (t.at.stopped ≡ store_full)) s n (inl on) (λ us on is some room. inl refl) (inr refl)

-- Of summands popped from pass `s` on, the one whose Product was refused.
pub record Refuses (rs : List Rule) (k x : ℕ) (s : Pass) : Type 0 where
  pub number : ℕ
  pub goes : sum_ends rs k x (until number (sum_ends rs k x) next_summand s) ≡ false
  pub on : (until number (sum_ends rs k x) next_summand s).at.stopped ≡ 0
  pub stops : (next_summand (until number (sum_ends rs k x) next_summand s)).at.stopped ≡ store_full

module _ (rs : List Rule) (k x : ℕ) where
  -- One popped before it.
  refuses_later : (s : Pass) → sum_ends rs k x s ≡ false → Refuses rs k x (next_summand s) → Refuses rs k x s
  refuses_later s goes f =
      let same : until f.number (sum_ends rs k x) next_summand (next_summand s) ≡ until (suc f.number) (sum_ends rs k x) next_summand s =
      sym (until_turns (sum_ends rs k x) next_summand f.number s goes) in
      record {
        number = suc f.number;
        goes = subst (λ (u : Pass). sum_ends rs k x u ≡ false) same f.goes;
        on = subst (λ (u : Pass). u.at.stopped ≡ 0) same f.on;
        stops = subst (λ (u : Pass). (next_summand u).at.stopped ≡ store_full) same f.stops;
      }

  next-ends : (s : Pass) → s.at.stopped ≡ 0 → ((next_summand s).at.stopped ≡ 0) ⊎ ((next_summand s).at.stopped ≡ store_full)
  unfolding next_summand pop_greatest
  next-ends s on = append-ends (product_node s.items (entry_at s.queue 0)) (pop_greatest s) on

  -- A sum that is refused with 14 behind its own node is refused at the Product of one of its summands.
  pub refuses : (n : ℕ) (s : Pass) → s.at.stopped ≡ 0 → (until n (sum_ends rs k x) next_summand s).at.stopped ≡ store_full → Refuses rs k x s
  unfolding until
  refuses zero s on full = absurd (omega arith)
  refuses (suc n) s on full =
      let further : (next_summand s).at.stopped ≡ 0 → (until n (sum_ends rs k x) next_summand (next_summand s)).at.stopped ≡ store_full → Refuses rs k x (next_summand s) =
      refuses n (next_summand s) in
      either_way (sum_ends rs k x s)
      (λ ends.
      absurd (
      let same : s.at.stopped ≡ store_full =
      subst (λ (u : Pass). u.at.stopped ≡ store_full) (until-rests (sum_ends rs k x) next_summand (suc n) s ends) full in
      omega arith))
      (λ goes.
      ⊎_elim
      (λ next-on.
      refuses_later s goes
      (further next-on (subst (λ (u : Pass). u.at.stopped ≡ store_full) (until_turns (sum_ends rs k x) next_summand n s goes) full)))
      (λ stops. record { number = 0; goes = goes; on = on; stops = stops }) (next-ends s on))
