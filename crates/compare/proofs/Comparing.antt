-- Beginning after beginning.
use Rattle.std.proofs.Common.{◌≡◌, refl, sym, subst, Bool, true, false, not, List, ℕ, suc, ◌+◌, ◌≤◌, arith, length, take, ◌⊎◌, inl, inr, Some, None}
use mathlib.Core.Bool.{beq}
use native.Mathlib.Decide.{ℕ_discrete}
use lib.Seq.{take-length}
use Rattle.laws.proofs.Decides.{true_false, false_true}
use Rattle.agreement.specs.Compared.{Plain}
use Rattle.recognizer.specs.declared.Refusal.{Refusal}
use Rattle.recognizer.specs.declared.Refusal.TheVariants.{ItemsFull, QueueFull, SetsFull, StoreFull}
use Rattle.recognizer.specs.Answers.{refusal_number}
use Rattle.compare.specs.declared.beginnings.Engine.{Engine}
use Rattle.compare.specs.Engines.{MainSays}
use Rattle.compare.specs.Compares.{NoRoom, Agrees, AgreeOn, AgreeBelow, parted, Compares}

-- A refusal that is one of the four is for want of room.
pub room_one : (why : Refusal) → (why ≡ ItemsFull) ⊎ ((why ≡ QueueFull) ⊎ ((why ≡ SetsFull) ⊎ (why ≡ StoreFull))) → NoRoom (refusal_number why)
room_one why (inl e) = subst (λ (r : Refusal). NoRoom (refusal_number r)) (sym e) NoRoom.items
room_one why (inr (inl e)) = subst (λ (r : Refusal). NoRoom (refusal_number r)) (sym e) NoRoom.queue
room_one why (inr (inr (inl e))) = subst (λ (r : Refusal). NoRoom (refusal_number r)) (sym e) NoRoom.sets
room_one why (inr (inr (inr e))) = subst (λ (r : Refusal). NoRoom (refusal_number r)) (sym e) NoRoom.units

-- They agree on the first `agreed` beginnings, the last of which was answered with `stopped`.
pub record SoFar (file ts : List ℕ) (agreed stopped : ℕ) : Type 0 where
  pub few : agreed ≤ length ts + 1
  pub below : AgreeBelow file ts agreed
  pub last : (k : ℕ) → agreed ≡ k + 1 → Agrees file (take k ts) stopped

-- What the test of two answers tells.
same_by : (a b : Bool) → not (beq a b) ≡ false → a ≡ b
same_by true true e = refl
same_by true false e = absurd (true_false e)
same_by false true e = absurd (true_false e)
same_by false false e = refl

opposite_by : (a b : Bool) → not (beq a b) ≡ true → b ≡ not a
opposite_by true true e = absurd (false_true e)
opposite_by true false e = refl
opposite_by false true e = refl
opposite_by false false e = absurd (false_true e)

module _ {file ts : List ℕ} where
  -- One beginning more.
  pub so_far_more : {agreed stopped number : ℕ} {said says : Bool} → SoFar file ts agreed stopped → agreed ≤ length ts → MainSays file (take agreed ts) number said → (NoRoom number → ⊥)
      → Plain file (take agreed ts) says → not (beq said says) ≡ false → SoFar file ts (agreed + 1) number
  so_far_more {agreed} {number = number} {said = said} {says = says} so_far fits main room plain same = record {
    few = omega (arith, fits);
    below = record {
      on = λ i l. elim (ℕ_discrete i agreed) [
        | yes e ↦ subst (λ (k : ℕ). AgreeOn file (take k ts)) (sym e) (record { number = number; agrees = here })
        | no n ↦ so_far.below.on i (omega arith)
      ];
    };
    last = λ k e. let same : agreed ≡ k = omega (arith, e) in subst (λ (j : ℕ). Agrees file (take j ts) number) same here;
  }
    where
      here : Agrees file (take agreed ts) number
      here = record { yes = said; main = main; room = room; plain = subst (Plain file (take agreed ts)) (sym (same_by said says same)) plain }

  -- On all of them.
  pub on_all : {agreed stopped : ℕ} → SoFar file ts agreed stopped → agreed ≡ length ts + 1 → Compares file ts (length ts + 1) stopped None
  on_all {agreed} {stopped} so_far all =
      let end : suc (length ts) ≡ length ts + 1 = omega arith in
      subst (λ (k : ℕ). Compares file ts k stopped None) end
      (Compares.all (record { on = λ i l. so_far.below.on i (omega (arith, l, all)) })
      (subst (λ (us : List ℕ). Agrees file us stopped) (take-length ts) (so_far.last (length ts) all)))

  -- They part on the next.
  pub parts_next : {agreed stopped number : ℕ} {said says : Bool} {engine : Engine} → SoFar file ts agreed stopped → agreed ≤ length ts → MainSays file (take agreed ts) number said
      → (NoRoom number → ⊥) → Plain file (take agreed ts) says → not (beq said says) ≡ true → engine ≡ parted said → Compares file ts agreed number (Some engine)
  parts_next {agreed} {number = number} {said = said} {says = says} so_far fits main room plain differ is =
      subst (λ (e : Engine). Compares file ts agreed number (Some e)) (sym is)
      (Compares.parting so_far.below fits main room (subst (Plain file (take agreed ts)) (opposite_by said says differ) plain))
