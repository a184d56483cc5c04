-- The plain engine's answer in the host's words.
use Rattle.std.proofs.Common.{◌≡◌, sym, ◌∙◌, List, ℕ, ◌≤◌, arith}
use native.Mathlib.Decide.{ℕ_discrete}
use Rattle.plain.proofs.Telling.{tables_agree}
use Rattle.host.specs.PlainEngine.{PlainIn}

-- Two answers to the same words agree: in the number, the count, the table and the word.
pub plain_in_agree : {file ts before after other : List ℕ} {word n y c m z d : ℕ} → PlainIn file ts before after word n y c → PlainIn file ts before other word m z d
    → (after ≡ other) × (n ≡ m) × (y ≡ z) × (c ≡ d)
plain_in_agree {n = n} {y} {m = m} {z} p q =
    let same = tables_agree p.tables q.tables in
    (same.place, same.number, words_agree same.number, same.count)
  where
    bits : {a b : ℕ} → a ≤ 1 → b ≤ 1 → (a ≡ 1 → b ≡ 1) → (b ≡ 1 → a ≡ 1) → a ≡ b
    bits {a} {b} small few to from = elim (ℕ_discrete a 1) [
      | yes e ↦ e ∙ sym (to e)
      | no d ↦ elim (ℕ_discrete b 1) [ yes e ↦ absurd (d (from e)) | no f ↦ omega (arith, small, few, d, f) ]
    ]

    words_agree : n ≡ m → y ≡ z
    words_agree same = elim (ℕ_discrete n 0) [
      | yes zero ↦
          let other = sym same ∙ zero in
          bits (p.yes_or_no zero) (q.yes_or_no other) (λ e. (q.sentence other).1 ((p.sentence zero).0 e)) (λ e. (p.sentence zero).1 ((q.sentence other).0 e))
      | no some ↦ p.kept some ∙ sym (q.kept (λ zero. some (same ∙ zero)))
    ]
