-- Row `k` of words that hold rows one behind the other is written anew, one word a turn.
use Rattle.std.proofs.Common.{◌≡◌, sym, ap, ◌∙◌, ◌⊎◌, inl, inr, ⊎_elim, List, ℕ, ◌+◌, ◌*◌, ◌≤◌, ◌<◌, arith, length, get_or, bit_or}
use Rattle.laws.specs.Bits.{union, row_of, with_row}
use Rattle.laws.proofs.Bits.{union_wide, union-word}
use Rattle.laws.proofs.Rows.{row_wide, row_word, with_row_ext}

-- The first `i` words of row `k` are as `f` says, and every other word is as it was.
pub record Rewritten (w : ℕ) (old : List ℕ) (k : ℕ) (f : ℕ → ℕ) (i : ℕ) (new : List ℕ) : Type 0 where
  pub few : i ≤ w
  pub long : length new ≡ length old
  pub inside : (j : ℕ) → j < i → get_or new (w * k + j) 0 ≡ f j
  pub outside : (j : ℕ) → (j < w * k) ⊎ (w * k + i ≤ j) → get_or new j 0 ≡ get_or old j 0

module _ (w : ℕ) (old : List ℕ) (k : ℕ) (f : ℕ → ℕ) (fits : w * k + w ≤ length old) where
  -- After the last turn row `k` is the row that `f` spells.
  pub all_rewritten : (i : ℕ) (new row : List ℕ) → Rewritten w old k f i new → w ≤ i → length row ≡ w → ((j : ℕ) → j < w → f j ≡ get_or row j 0) → new ≡ with_row w old k row
  all_rewritten i new row h last wide spells =
      with_row_ext w old k row wide fits new h.long
      (λ j l. h.inside j (omega arith) ∙ spells j l)
      (λ j o. h.outside j (⊎_elim inl (λ (b : w * k + w ≤ j). inr (omega (arith, h.few))) o))

-- The words of the union of row `k` with another row.
abbrev pub joined_word : ℕ → List ℕ → ℕ → List ℕ → ℕ → ℕ
joined_word w old k row j = bit_or (get_or old (w * k + j) 0) (get_or row j 0)

joined_word_lem : (w : ℕ) (old : List ℕ) (k : ℕ) (row : List ℕ) (j : ℕ) → j < w → joined_word w old k row j ≡ get_or (union (row_of w old k) row) j 0
joined_word_lem w old k row j l = sym (union-word (row_of w old k) row j ∙ ap (λ (x : ℕ). bit_or x (get_or row j 0)) (row_word w old k j l))

-- So row `k` has become its union with the row.
pub all-joined : (w : ℕ) (old : List ℕ) (k : ℕ) (row : List ℕ) (i : ℕ) (new : List ℕ) → w * k + w ≤ length old → length row ≡ w
    → Rewritten w old k (joined_word w old k row) i new → w ≤ i → new ≡ with_row w old k (union (row_of w old k) row)
all-joined w old k row i new fits wide h last =
    all_rewritten w old k (joined_word w old k row) fits i new (union (row_of w old k) row) h last
    (union_wide w (row_of w old k) row (row_wide w old k fits) wide) (joined_word_lem w old k row)
