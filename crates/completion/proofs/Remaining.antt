-- The loop over the sums: what is left to do from here gives what all sums give.
use Rattle.std.proofs.Common.{◌≡◌, refl, sym, ◌∙◌, subst, true, List, ℕ, ◌<◌}
use Rattle.grammar.specs.Rules.{Rule}
use Rattle.completion.specs.Pass.{Pass}
use Rattle.completion.specs.Sums.{complete_sum, rests, complete_all_sums}
use Rattle.completion.specs.inner.Ready.{UnitsFit}
use Rattle.completion.proofs.Onward.{units_onward}
use Rattle.completion.specs.inner.Pending.{Grounds, Pending}
use Rattle.completion.proofs.Turning.{rests-stopped, rests-empty}
use Rattle.completion.proofs.Pending.{left, left_falls, sum-lower, pending_sum, all-sums-turn, all_sums_done}

-- The loop came from pass `start` to pass `now`.
pub record Remaining (rs : List Rule) (starts rows : List ℕ) (start now : Pass) : Type 0 where
  pub pending : Pending rs starts now
  pub units : UnitsFit now
  pub same : complete_all_sums rs starts rows now ≡ complete_all_sums rs starts rows start

pub remaining_start : (rs : List Rule) (starts rows : List ℕ) (s : Pass) → Pending rs starts s → UnitsFit s → Remaining rs starts rows s s
remaining_start rs starts rows s pending units = record { pending = pending; units = units; same = refl }

module _ {rs : List Rule} {starts rows : List ℕ} (grounds : Grounds rs starts rows) {start now : Pass} (remaining : Remaining rs starts rows start now) where
  -- A turn is one sum, and less is left then.
  pub remaining_turn : (next : Pass) → now.at.stopped ≡ 0 → 0 < now.at.queued → next ≡ complete_sum rs starts rows now
      → Remaining rs starts rows start next
  remaining_turn next going some is =
      subst (Remaining rs starts rows start) (sym is)
      (record {
        pending = pending_sum grounds now remaining.pending some;
        units = units_onward (sum-lower grounds now remaining.pending some).steady.onward remaining.units;
        same = all-sums-turn grounds now remaining.pending going some ∙ remaining.same;
      })

  pub remaining_falls : (next : Pass) → 0 < now.at.queued → next ≡ complete_sum rs starts rows now → left rs next < left rs now
  remaining_falls next some is = subst (λ (u : Pass). left rs u < left rs now) (sym is) (left_falls grounds now remaining.pending some)

  -- The loop is left where a push was refused, or with an empty queue: then all is done.
  remaining_rests : rests now ≡ true → now ≡ complete_all_sums rs starts rows start
  remaining_rests at_rest = sym (all_sums_done grounds now remaining.pending at_rest) ∙ remaining.same

  pub remaining_stopped : (now.at.stopped ≡ 0 → ⊥) → now ≡ complete_all_sums rs starts rows start
  remaining_stopped stopped = remaining_rests (rests-stopped now stopped)

  pub remaining_empty : now.at.queued ≡ 0 → now ≡ complete_all_sums rs starts rows start
  remaining_empty none = remaining_rests (rests-empty now none)
