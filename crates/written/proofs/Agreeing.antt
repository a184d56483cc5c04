-- Two answers to the same bytes and output agree, and so do the outputs that they leave, to the last byte.
use mathlib.Core.Path.{◌≡◌, refl, ap, ap₂, subst}
use mathlib.Core.Bool.{Bool}
use mathlib.Core.List.{List, ◌++◌}
use Prim.Native.Nat.{ℕ}
use lib.ListN.{length, drop}
use Rattle.laws.specs.Decides.{Decides}
use Rattle.laws.proofs.Decides.{decide_alike}
use Rattle.grammar.specs.Rules.{Grammar}
use Rattle.written.specs.Written.{Written}
use Rattle.written.specs.Form.{written_of}
use Rattle.written.specs.Translation.{translated}
use Rattle.written.specs.Bytes.{file_length, bytes_of}
use Rattle.written.specs.Answers.{Tests, translation, Fits, Answer, Translates}
use Rattle.written.specs.Answers.Translates.{malformed, circular, barren, unreachable, no_sentence, no_room, translates}

-- Tests that decide the same say the same of each symbol.
one_test : {P : ℕ → Type 0} (f g : ℕ → Bool) → ((a : ℕ) → Decides (f a) (P a)) → ((a : ℕ) → Decides (g a) (P a)) → f ≡ g
one_test f g p q = λ i a. decide_alike (p a) (q a) i

pub same-translation : {w : Written} (t s : Tests w) → translation w t ≡ translation w s
same-translation {w} t s = ap₂ (translated w) (one_test t.keep s.keep t.keeps s.keeps) (one_test t.empty s.empty t.empties s.empties)

-- Two answers, and what they leave, are the same.
pub record Same (a b : Answer) (out other : List ℕ) : Type 0 where
  pub answer : a ≡ b
  pub output : out ≡ other

module _ (bytes before : List ℕ) where
  abbrev output_of : Grammar → List ℕ
  output_of g = bytes_of g ++ drop (file_length g) before

  done_agree : (t s : Tests (written_of bytes))
      → Same (Answer.done (file_length (translation (written_of bytes) t)) (t.empty (written_of bytes).start))
      (Answer.done (file_length (translation (written_of bytes) s)) (s.empty (written_of bytes).start))
      (output_of (translation (written_of bytes) t)) (output_of (translation (written_of bytes) s))
  done_agree t s = record {
    answer = ap₂ Answer.done (ap file_length (same-translation t s)) (decide_alike (t.empties (written_of bytes).start) (s.empties (written_of bytes).start));
    output = ap output_of (same-translation t s);
  }

  -- Of two different numbers the lower applies, and the higher says that it does not.
  pub answers_agree : {a b : Answer} {out other : List ℕ} → Translates bytes before a out → Translates bytes before b other → Same a b out other
  answers_agree (malformed n₁) (malformed n₂) = record { answer = refl; output = refl }
  answers_agree (malformed n₁) (circular f₂ d₂) = absurd (n₁ f₂)
  answers_agree (malformed n₁) (barren f₂ n₂ d₂) = absurd (n₁ f₂)
  answers_agree (malformed n₁) (unreachable f₂ n₂ a₂ d₂) = absurd (n₁ f₂)
  answers_agree (malformed n₁) (no_sentence f₂ n₂ a₂ b₂ d₂) = absurd (n₁ f₂)
  answers_agree (malformed n₁) (no_room f₂ s₂ t₂ d₂) = absurd (n₁ f₂)
  answers_agree (malformed n₁) (translates f₂ s₂ t₂ d₂) = absurd (n₁ f₂)
  answers_agree (circular f₁ d₁) (malformed n₂) = absurd (n₂ f₁)
  answers_agree (circular f₁ d₁) (circular f₂ d₂) = record { answer = refl; output = refl }
  answers_agree (circular f₁ d₁) (barren f₂ n₂ d₂) = absurd (n₂ d₁)
  answers_agree (circular f₁ d₁) (unreachable f₂ n₂ a₂ d₂) = absurd (n₂ d₁)
  answers_agree (circular f₁ d₁) (no_sentence f₂ n₂ a₂ b₂ d₂) = absurd (n₂ d₁)
  answers_agree (circular f₁ d₁) (no_room f₂ s₂ t₂ d₂) = absurd (s₂.straight d₁)
  answers_agree (circular f₁ d₁) (translates f₂ s₂ t₂ d₂) = absurd (s₂.straight d₁)
  answers_agree (barren f₁ n₁ d₁) (malformed n₂) = absurd (n₂ f₁)
  answers_agree (barren f₁ n₁ d₁) (circular f₂ d₂) = absurd (n₁ d₂)
  answers_agree (barren f₁ n₁ d₁) (barren f₂ n₂ d₂) = record { answer = refl; output = refl }
  answers_agree (barren f₁ n₁ d₁) (unreachable f₂ n₂ a₂ d₂) = absurd (d₁.never (a₂ d₁.symbol d₁.nonterminal))
  answers_agree (barren f₁ n₁ d₁) (no_sentence f₂ n₂ a₂ b₂ d₂) = absurd (d₁.never (a₂ d₁.symbol d₁.nonterminal))
  answers_agree (barren f₁ n₁ d₁) (no_room f₂ s₂ t₂ d₂) = absurd (d₁.never (s₂.fruitful d₁.symbol d₁.nonterminal))
  answers_agree (barren f₁ n₁ d₁) (translates f₂ s₂ t₂ d₂) = absurd (d₁.never (s₂.fruitful d₁.symbol d₁.nonterminal))
  answers_agree (unreachable f₁ n₁ a₁ d₁) (malformed n₂) = absurd (n₂ f₁)
  answers_agree (unreachable f₁ n₁ a₁ d₁) (circular f₂ d₂) = absurd (n₁ d₂)
  answers_agree (unreachable f₁ n₁ a₁ d₁) (barren f₂ n₂ d₂) = absurd (d₂.never (a₁ d₂.symbol d₂.nonterminal))
  answers_agree (unreachable f₁ n₁ a₁ d₁) (unreachable f₂ n₂ a₂ d₂) = record { answer = refl; output = refl }
  answers_agree (unreachable f₁ n₁ a₁ d₁) (no_sentence f₂ n₂ a₂ b₂ d₂) = absurd (d₁.never (b₂ d₁.symbol d₁.nonterminal))
  answers_agree (unreachable f₁ n₁ a₁ d₁) (no_room f₂ s₂ t₂ d₂) = absurd (d₁.never (s₂.reachable d₁.symbol d₁.nonterminal))
  answers_agree (unreachable f₁ n₁ a₁ d₁) (translates f₂ s₂ t₂ d₂) = absurd (d₁.never (s₂.reachable d₁.symbol d₁.nonterminal))
  answers_agree (no_sentence f₁ n₁ a₁ b₁ d₁) (malformed n₂) = absurd (n₂ f₁)
  answers_agree (no_sentence f₁ n₁ a₁ b₁ d₁) (circular f₂ d₂) = absurd (n₁ d₂)
  answers_agree (no_sentence f₁ n₁ a₁ b₁ d₁) (barren f₂ n₂ d₂) = absurd (d₂.never (a₁ d₂.symbol d₂.nonterminal))
  answers_agree (no_sentence f₁ n₁ a₁ b₁ d₁) (unreachable f₂ n₂ a₂ d₂) = absurd (d₂.never (b₁ d₂.symbol d₂.nonterminal))
  answers_agree (no_sentence f₁ n₁ a₁ b₁ d₁) (no_sentence f₂ n₂ a₂ b₂ d₂) = record { answer = refl; output = refl }
  answers_agree (no_sentence f₁ n₁ a₁ b₁ d₁) (no_room f₂ s₂ t₂ d₂) = absurd (d₁ s₂.sentence)
  answers_agree (no_sentence f₁ n₁ a₁ b₁ d₁) (translates f₂ s₂ t₂ d₂) = absurd (d₁ s₂.sentence)
  answers_agree (no_room f₁ s₁ t₁ d₁) (malformed n₂) = absurd (n₂ f₁)
  answers_agree (no_room f₁ s₁ t₁ d₁) (circular f₂ d₂) = absurd (s₁.straight d₂)
  answers_agree (no_room f₁ s₁ t₁ d₁) (barren f₂ n₂ d₂) = absurd (d₂.never (s₁.fruitful d₂.symbol d₂.nonterminal))
  answers_agree (no_room f₁ s₁ t₁ d₁) (unreachable f₂ n₂ a₂ d₂) = absurd (d₂.never (s₁.reachable d₂.symbol d₂.nonterminal))
  answers_agree (no_room f₁ s₁ t₁ d₁) (no_sentence f₂ n₂ a₂ b₂ d₂) = absurd (d₂ s₁.sentence)
  answers_agree (no_room f₁ s₁ t₁ d₁) (no_room f₂ s₂ t₂ d₂) = record { answer = refl; output = refl }
  answers_agree (no_room f₁ s₁ t₁ d₁) (translates f₂ s₂ t₂ d₂) = absurd (d₁ (subst (λ (x : Grammar). Fits x (length before)) (same-translation t₂ t₁) d₂))
  answers_agree (translates f₁ s₁ t₁ d₁) (malformed n₂) = absurd (n₂ f₁)
  answers_agree (translates f₁ s₁ t₁ d₁) (circular f₂ d₂) = absurd (s₁.straight d₂)
  answers_agree (translates f₁ s₁ t₁ d₁) (barren f₂ n₂ d₂) = absurd (d₂.never (s₁.fruitful d₂.symbol d₂.nonterminal))
  answers_agree (translates f₁ s₁ t₁ d₁) (unreachable f₂ n₂ a₂ d₂) = absurd (d₂.never (s₁.reachable d₂.symbol d₂.nonterminal))
  answers_agree (translates f₁ s₁ t₁ d₁) (no_sentence f₂ n₂ a₂ b₂ d₂) = absurd (d₂ s₁.sentence)
  answers_agree (translates f₁ s₁ t₁ d₁) (no_room f₂ s₂ t₂ d₂) = absurd (d₂ (subst (λ (x : Grammar). Fits x (length before)) (same-translation t₁ t₂) d₁))
  answers_agree (translates f₁ s₁ t₁ d₁) (translates f₂ s₂ t₂ d₂) = done_agree t₁ t₂
