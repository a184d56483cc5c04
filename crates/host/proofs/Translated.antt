-- The translator's answers in the host's words.
use Rattle.std.proofs.Common.{◌≡◌, refl, sym, ap, ◌∙◌, Bool, true, false, List, ℕ}
use mir.Val.{bool_byte}
use Rattle.laws.specs.Counts.{once}
use Rattle.written.specs.Answers.{Answer}
use Rattle.written.proofs.Agreeing.{answers_agree}
use Rattle.host.specs.Translating.{Tells, TranslatesIn}

-- A yes or no as a word.
pub once-byte : (b : Bool) → bool_byte b ≡ once b
once-byte true = refl
once-byte false = refl

-- What the words hold, by the answer.
abbrev number_in : Answer → ℕ
number_in (Answer.refused n) = n
number_in (Answer.done l e) = 0

abbrev length_or : ℕ → Answer → ℕ
length_or before (Answer.refused n) = before
length_or before (Answer.done l e) = l

abbrev empty_or : ℕ → Answer → ℕ
empty_or before (Answer.refused n) = before
empty_or before (Answer.done l e) = once e

told_number_lem : {a : Answer} {l e n x y : ℕ} → Tells a l e n x y → n ≡ number_in a
told_number_lem (Tells.done length empty) = refl
told_number_lem (Tells.refused number) = refl

told_length : {a : Answer} {l e n x y : ℕ} → Tells a l e n x y → x ≡ length_or l a
told_length (Tells.done length empty) = refl
told_length (Tells.refused number) = refl

told_empty : {a : Answer} {l e n x y : ℕ} → Tells a l e n x y → y ≡ empty_or e a
told_empty (Tells.done length empty) = refl
told_empty (Tells.refused number) = refl

-- Two translations of the same bytes leave the same output, and tell the same number and the same words.
pub translates_in_agree : {bytes before after other : List ℕ} {l e n x y m u v : ℕ} → TranslatesIn bytes before after l e n x y → TranslatesIn bytes before other l e m u v
    → (after ≡ other) × (n ≡ m) × (x ≡ u) × (y ≡ v)
translates_in_agree {bytes} {before} {l = l} {e = e} p q =
    let s = answers_agree bytes before p.translates q.translates in (
      s.output,
      told_number_lem p.tells ∙ ap number_in s.answer ∙ sym (told_number_lem q.tells),
      told_length p.tells ∙ ap (length_or l) s.answer ∙ sym (told_length q.tells),
      told_empty p.tells ∙ ap (empty_or e) s.answer ∙ sym (told_empty q.tells),
    )
