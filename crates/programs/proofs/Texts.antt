-- Texts that grow at their end.
use Rattle.std.proofs.Common.{◌≡◌, sym, ap, subst, ◌∙◌, List, ◌++◌, append_assoc, ℕ, ◌≤◌, length, length-take-le}
use Rattle.io.specs.Counts.{IsPrefixLen}
use Rattle.io.specs.Digits.{last_digits, IsDigitCount}
use Rattle.programs.specs.Text.{Line, newline}
use Rattle.programs.specs.Text.Line.{line}

-- Three copies one behind the other are a line.
pub a_line :
    (before head number-text first second third : List ℕ) (number count : ℕ) → IsDigitCount 10 1 number count → number-text ≡ last_digits 10 count number
    → first ≡ before ++ head → second ≡ first ++ number-text → third ≡ second ++ newline → Line before head number third
a_line before head number-text first second third number count few is h₁ h₂ h₃ = subst (λ (t : List ℕ). Line before head number t) (sym whole) (line few)
  where
    whole : third ≡ before ++ (head ++ (last_digits 10 count number ++ newline))
    whole =
        h₃ ∙ ap (λ (t : List ℕ). t ++ newline) (h₂ ∙ ap (λ (t : List ℕ). t ++ number-text) h₁ ∙ append_assoc before head number-text)
        ∙ append_assoc before (head ++ number-text) newline
        ∙ ap (λ (t : List ℕ). before ++ t) (append_assoc head number-text newline ∙ ap (λ (t : List ℕ). head ++ (t ++ newline)) is)

-- A count within a list counts its front.
pub counts : (n : ℕ) (xs : List ℕ) → n ≤ length xs → IsPrefixLen n xs
counts n xs fits = (fits, sym (length-take-le n xs fits))
