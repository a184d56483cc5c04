-- Numbers of symbols: they rise, tokens keep theirs, and every number below the first new one is some symbol's.
use mathlib.Core.Path.{◌≡◌, refl, sym, ap, ◌∙◌}
use mathlib.Core.Bool.{Bool, true, false}
use mathlib.Core.List.{List, [], ◌∷◌, ◌++◌, append_assoc}
use Prim.Native.Nat.{ℕ, zero, suc, ◌+◌, ◌-◌, ◌≤◌, ◌<◌}
use native.Mathlib.Decide.{dec_lt, ℕ_discrete}
use native.Mathlib.Omega.{arith}
use lib.ListN.{length, get_or, length-append}
use lib.Seq.{get_or_at}
use Rattle.laws.proofs.Tests.{either_way}
use Rattle.written.specs.Split.{given}
use Rattle.written.specs.Translation.{staying, number, places}

module _ (keep : ℕ → Bool) where
  number_none : number keep zero ≡ zero
  unfolding number staying
  number_none = refl

  -- One symbol more: it counts where it stays.
  pub number-kept : (n : ℕ) → keep n ≡ true → number keep (suc n) ≡ suc (number keep n)
  unfolding number staying given
  number-kept n k =
      let long : length (staying keep (suc n)) ≡ length (staying keep n) + length (given (keep n) (n ∷ [])) = length-append (staying keep n) (given (keep n) (n ∷ [])) in
      let one : length (given (keep n) (n ∷ [])) ≡ 1 = ap (λ (b : Bool). length (given b (n ∷ []))) k in
      omega (arith, long, one)

  pub number_gone : (n : ℕ) → keep n ≡ false → number keep (suc n) ≡ number keep n
  unfolding number staying given
  number_gone n k =
      let long : length (staying keep (suc n)) ≡ length (staying keep n) + length (given (keep n) (n ∷ [])) = length-append (staying keep n) (given (keep n) (n ∷ [])) in
      let no : length (given (keep n) (n ∷ [])) ≡ 0 = ap (λ (b : Bool). length (given b (n ∷ []))) k in
      omega (arith, long, no)

  number_more : (n : ℕ) → (number keep n ≤ number keep (suc n)) × (number keep (suc n) ≤ suc (number keep n))
  number_more n = either_way (keep n)
      (λ k. let e = number-kept n k in (omega arith, omega arith))
      (λ k. let e = number_gone n k in (omega arith, omega arith))

  -- Numbers do not fall.
  pub number_rises : (d n : ℕ) → number keep n ≤ number keep (d + n)
  number_rises zero n = let e : number keep (zero + n) ≡ number keep n = ap (number keep) (omega arith) in omega arith
  number_rises (suc d) n =
      let h = number_rises d n in
      let e : number keep (suc d + n) ≡ number keep (suc (d + n)) = ap (number keep) (omega arith) in
      let m = (number_more (d + n)).0 in
      omega arith

  pub number_le : (m n : ℕ) → m ≤ n → number keep m ≤ number keep n
  number_le m n h =
      let e : number keep (n - m + m) ≡ number keep n = ap (number keep) (omega arith) in
      let r = number_rises (n - m) m in
      omega arith

  -- A symbol that stays has a lower number than those above it.
  pub number_lt : (m n : ℕ) → keep m ≡ true → m < n → number keep m < number keep n
  number_lt m n k h =
      let e = number-kept m k in
      let r = number_le (suc m) n h in
      omega arith

  -- No number is above its symbol.
  pub number-few : (n : ℕ) → number keep n ≤ n
  number-few zero = let e = number_none in omega arith
  number-few (suc n) = let h = number-few n in let m = (number_more n).1 in omega arith

  -- Where all below `n` stay, `n` keeps its number.
  pub number_same : (n : ℕ) → ((t : ℕ) → t < n → keep t ≡ true) → number keep n ≡ n
  number_same zero all = number_none
  number_same (suc n) all =
      number-kept n (all n (omega arith)) ∙ ap suc (number_same n (λ t h. all t (omega arith)))

  -- Where none from `e` on stays, no number is above that of `e`.
  pub number-top : (e : ℕ) → ((x : ℕ) → keep x ≡ true → x < e) → (x : ℕ) → number keep x ≤ number keep e
  number-top e low zero = let h = number-few zero in omega arith
  number-top e low (suc x) = either_way (keep x)
      (λ k. let h = number_lt x e k (low x k) in let s = number-kept x k in omega arith)
      (λ k. let h = number-top e low x in let s = number_gone x k in omega arith)

  -- Every number below that of `e` is that of a symbol below `e` that stays.
  pub record Numbered (e n : ℕ) : Type 0 where
    pub symbol : ℕ
    pub below : symbol < e
    pub stays : keep symbol ≡ true
    pub is : number keep symbol ≡ n

  pub number_onto : (e n : ℕ) → n < number keep e → Numbered e n
  number_onto zero n h = absurd (let f = number-few zero in omega arith)
  number_onto (suc e) n h = elim (dec_lt n (number keep e)) [
    | yes l ↦ let r = number_onto e n l in record { symbol = r.symbol; below = let b = r.below in omega arith; stays = r.stays; is = r.is }
    | no g ↦ either_way (keep e)
        (λ k. let s = number-kept e k in record { symbol = e; below = omega arith; stays = k; is = omega arith })
        (λ k. absurd (let s = number_gone e k in omega arith))
  ]

  -- What the tokens and nonterminals that stay stand for, in the order of their numbers.
  unfoldable pub singles : ℕ → List (List ℕ)
  singles zero = []
  singles (suc n) = singles n ++ given (keep n) ((n ∷ []) ∷ [])

  pub singles_count : (n : ℕ) → length (singles n) ≡ number keep n
  unfolding singles number staying given
  singles_count zero = refl
  singles_count (suc n) =
      let h : length (singles n) ≡ length (staying keep n) = singles_count n in
      let one : length (given (keep n) ((n ∷ []) ∷ [])) ≡ length (given (keep n) (n ∷ [])) = same (keep n) in
      length-append (singles n) (given (keep n) ((n ∷ []) ∷ [])) ∙ omega (arith, h, one) ∙ sym (length-append (staying keep n) (given (keep n) (n ∷ [])))
    where
      same : (b : Bool) → length (given b ((n ∷ []) ∷ [])) ≡ length (given b (n ∷ []))
      same true = refl
      same false = refl

  -- The number of one that stays is its place there.
  pub singles_at : (e x : ℕ) (rest : List (List ℕ)) → keep x ≡ true → x < e → get_or (singles e ++ rest) (number keep x) [] ≡ x ∷ []
  unfolding singles given
  singles_at zero x rest k h = absurd (omega arith)
  singles_at (suc e) x rest k h = elim (ℕ_discrete x e) [
    | yes s ↦ seam s
    | no n ↦ ap (λ (l : List (List ℕ)). get_or l (number keep x) []) (append_assoc (singles e) (given (keep e) ((e ∷ []) ∷ [])) rest)
        ∙ singles_at e x (given (keep e) ((e ∷ []) ∷ []) ++ rest) k (lower n)
  ]
    where
      lower : (x ≡ e → ⊥) → x < e
      lower n = omega arith

      seam : x ≡ e → get_or ((singles e ++ given (keep e) ((e ∷ []) ∷ [])) ++ rest) (number keep x) [] ≡ x ∷ []
      seam s =
          ap (λ (l : List (List ℕ)). get_or l (number keep x) []) (append_assoc (singles e) (given (keep e) ((e ∷ []) ∷ [])) rest)
          ∙ ap (λ (b : Bool). get_or (singles e ++ (given b ((e ∷ []) ∷ []) ++ rest)) (number keep x) []) (ap keep (sym s) ∙ k)
          ∙ get_or_at (singles e) (e ∷ []) rest [] (number keep x) (singles_count e ∙ ap (number keep) (sym s))
          ∙ ap (λ (n : ℕ). n ∷ []) (sym s)

  -- The places of a right side.
  pub places-few : (l : List ℕ) → length (places keep l) ≤ length l
  unfolding places given
  places-few [] = omega arith
  places-few (x ∷ l) =
      let h = places-few l in
      either_way (keep x) (λ k. rw (places, k) (omega arith)) (λ k. rw (places, k) (omega arith))
