-- What a refusal leaves out: a pass that was refused stays as it is.
use Rattle.std.proofs.Common.{List, ◌≡◌, sym, ap, ◌∙◌, subst, ℕ, ◌+◌, ◌-◌, ◌<◌, arith}
use Rattle.laws.specs.Turns.{over}
use Rattle.laws.proofs.Turns.{over-next, over_still, over-split}
use Rattle.completion.specs.declared.pass.Full.{Full}
use Rattle.completion.specs.declared.pass.Full.TheVariants.{Items, Queue, Store}
use Rattle.grammar.specs.Rules.{Rule}
use Rattle.completion.specs.Pass.{Pass, refused, and_then}
use Rattle.completion.specs.Lent.{number}
use Rattle.completion.specs.inner.Ready.{RulesRead}
use Rattle.completion.proofs.Pushes.{goes_on, stays}
use Rattle.completion.proofs.Soundness.{refused-sound}

-- No refusal has the number 0.
pub is_refusal : (f : Full) → number f ≡ 0 → ⊥
is_refusal Items e = omega arith
is_refusal Queue e = omega arith
is_refusal Store e = omega arith

-- Rules are read as before, whatever stopped the pass.
pub read_stopped : {rs : List Rule} (n : ℕ) (s : Pass) → RulesRead rs s → RulesRead rs (refused n s)
read_stopped n s read = record { sound = refused-sound n s read.sound; few_rules = read.few_rules; rules = read.rules }

module _ (now before : Pass) (next : Pass → Pass) where
  -- After a refusal nothing follows,
  pub then_stopped : (now.at.stopped ≡ 0 → ⊥) → now ≡ before → now ≡ and_then before next
  then_stopped stopped is = is ∙ sym (stays before next (λ on. stopped (ap (λ (s : Pass). s.at.stopped) is ∙ on)))

  -- else the next step does.
  pub then_on : (last : Pass) → now.at.stopped ≡ 0 → now ≡ before → last ≡ next now → last ≡ and_then before next
  then_on last on is step =
      step ∙ ap next is ∙ sym (goes_on before next (sym (ap (λ (s : Pass). s.at.stopped) is) ∙ on))

-- Where turn `r` is refused the turns behind it change nothing.
pub turns_stopped : (turn : ℕ → Pass → Pass) → ((i : ℕ) (s : Pass) → (s.at.stopped ≡ 0 → ⊥) → turn i s ≡ s) → (r n : ℕ) (start now last : Pass) → r < n
    → now ≡ over r turn start → (last.at.stopped ≡ 0 → ⊥) → last ≡ turn r now → last ≡ over n turn start
turns_stopped turn idle r n start now last more before stopped step =
    let rest : ℕ = n - (r + 1) in
    let all : n ≡ r + 1 + rest = omega arith in
    let refused : last ≡ over (r + 1) turn start = over-next r turn start now last before step in
    let Stopped : Pass → Type 0 = λ s. s.at.stopped ≡ 0 → ⊥ in
    refused
    ∙ sym (over_still Stopped rest (λ i. turn (r + 1 + i)) (λ i s h on. idle (r + 1 + i) s on) (over (r + 1) turn start) (subst Stopped refused stopped))
    ∙ sym (over-split (r + 1) rest turn start)
    ∙ sym (ap (λ (m : ℕ). over m turn start) all)
