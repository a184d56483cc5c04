-- Laws on records of `width` words each, held one behind another in a list of words, with other words behind them.
use mathlib.Core.Path.{◌≡◌, refl, sym, ap, ap₂, ◌∙◌}
use mathlib.Core.List.{List, [], ◌∷◌, ◌++◌, append_assoc, append-nil}
use Prim.Native.Nat.{ℕ, zero, suc, ◌+◌, ◌*◌, ◌≤◌, ◌<◌}
use native.Mathlib.Nat.{le_of_suc-le-suc, not-suc-le-zero, mul-suc, mul-zero}
use native.Mathlib.Omega.{arith}
use lib.ListN.{length, get_or, take, drop, set, length-append, get_or-append, take-append-drop}
use lib.Seq.{length-take-le, append_snoc, split_at, set_split, get_or-append-add, drop-append-add, take_at, drop_at, sets, sets-eq}
use Rattle.laws.specs.Records.{flat}

module _ {R : Type 0} (words : R → List ℕ) (width : ℕ) (wide : (r : R) → length (words r) ≡ width) where
  -- As many words as records times the width.
  pub flat-length : (rs : List R) → length (flat words rs) ≡ width * length rs
  unfolding flat
  flat-length [] = sym (mul-zero width)
  flat-length (r ∷ rs) =
      let step : width * suc (length rs) ≡ width * length rs + width = mul-suc width (length rs) in
      let rest : length (flat words rs) ≡ width * length rs = flat-length rs in
      omega (arith, length-append (words r) (flat words rs), wide r, step, rest)

  -- Records behind records.
  pub flat_append : (rs ss : List R) → flat words (rs ++ ss) ≡ flat words rs ++ flat words ss
  unfolding flat
  flat_append [] ss = refl
  flat_append (r ∷ rs) ss = ap (λ (l : List ℕ). words r ++ l) (flat_append rs ss) ∙ sym (append_assoc (words r) (flat words rs) (flat words ss))

  -- What stands behind the first record starts `width` words on.
  behind-first : (r : R) (l : List ℕ) (p k : ℕ) → get_or (words r ++ l) (width * suc p + k) 0 ≡ get_or l (width * p + k) 0
  behind-first r l p k =
      let at : width * suc p + k ≡ length (words r) + (width * p + k) = omega (arith, wide r, mul-suc width p) in
      ap (λ (i : ℕ). get_or (words r ++ l) i 0) at ∙ get_or-append-add (words r) l (width * p + k) 0

  -- Word k of the record at place p stands at width · p + k.
  pub flat_at : (rs : List R) (rest : List ℕ) (p k : ℕ) (d : R) → p < length rs → k < width
      → get_or (flat words rs ++ rest) (width * p + k) 0 ≡ get_or (words (get_or rs p d)) k 0
  unfolding flat
  flat_at [] rest p k d h l = absurd (not-suc-le-zero h)
  flat_at (r ∷ rs) rest zero k d h l =
      let at : width * zero + k ≡ k = omega (arith, mul-zero width) in
      let there : k < length (words r) = omega (arith, wide r) in
      ap (λ (i : ℕ). get_or ((words r ++ flat words rs) ++ rest) i 0) at
      ∙ ap (λ (w : List ℕ). get_or w k 0) (append_assoc (words r) (flat words rs) rest)
      ∙ get_or-append (words r) (flat words rs ++ rest) 0 k there
  flat_at (r ∷ rs) rest (suc p) k d h l =
      ap (λ (w : List ℕ). get_or w (width * suc p + k) 0) (append_assoc (words r) (flat words rs) rest)
      ∙ behind-first r (flat words rs ++ rest) p k
      ∙ flat_at rs rest p k d (le_of_suc-le-suc h) l

  -- Behind the records the rest begins.
  pub flat-behind : (rs : List R) (rest : List ℕ) (k : ℕ) → get_or (flat words rs ++ rest) (width * length rs + k) 0 ≡ get_or rest k 0
  flat-behind rs rest k =
      ap (λ (n : ℕ). get_or (flat words rs ++ rest) (n + k) 0) (sym (flat-length rs)) ∙ get_or-append-add (flat words rs) rest k 0

  -- A record stored behind the others, over as many words of the rest, is one record more.
  pub flat-stored : (rs : List R) (r : R) (old rest : List ℕ) → length old ≡ width
      → sets (flat words rs ++ (old ++ rest)) (width * length rs) (words r) ≡ flat words (rs ++ (r ∷ [])) ++ rest
  unfolding flat
  flat-stored rs r old rest h =
      let all : List ℕ = flat words rs ++ (old ++ rest) in
      let fits : width * length rs + length (words r) ≤ length all =
      omega (arith, wide r, length-append (flat words rs) (old ++ rest), length-append old rest, flat-length rs) in
      let front : take (width * length rs) all ≡ flat words rs = take_at (flat words rs) (old ++ rest) (width * length rs) (flat-length rs) in
      let back : drop (width * length rs + length (words r)) all ≡ rest =
      ap (λ (n : ℕ). drop n all) (ap (λ (n : ℕ). n + length (words r)) (sym (flat-length rs)))
      ∙ drop-append-add (flat words rs) (old ++ rest) (length (words r))
      ∙ drop_at old rest (length (words r)) (h ∙ sym (wide r)) in
      sets-eq (words r) all (width * length rs) fits
      ∙ ap (λ (l : List ℕ). (l ++ words r) ++ drop (width * length rs + length (words r)) all) front
      ∙ ap (λ (l : List ℕ). (flat words rs ++ words r) ++ l) back
      ∙ ap (λ (l : List ℕ). (flat words rs ++ l) ++ rest) (sym (append-nil (words r)))
      ∙ ap (λ (l : List ℕ). l ++ rest) (sym (flat_append rs (r ∷ [])))

  -- The words of the first records, and those of the others.
  pub flat-take : (rs : List R) (p : ℕ) → p ≤ length rs → take (width * p) (flat words rs) ≡ flat words (take p rs)
  flat-take rs p h =
      let parts : flat words rs ≡ flat words (take p rs) ++ flat words (drop p rs) =
      ap (flat words) (sym (take-append-drop p rs)) ∙ flat_append (take p rs) (drop p rs) in
      ap (take (width * p)) parts
      ∙ take_at (flat words (take p rs)) (flat words (drop p rs)) (width * p)
      (flat-length (take p rs) ∙ ap (λ (n : ℕ). width * n) (length-take-le p rs h))

  pub flat-drop : (rs : List R) (p : ℕ) → p ≤ length rs → drop (width * p) (flat words rs) ≡ flat words (drop p rs)
  flat-drop rs p h =
      let parts : flat words rs ≡ flat words (take p rs) ++ flat words (drop p rs) =
      ap (flat words) (sym (take-append-drop p rs)) ∙ flat_append (take p rs) (drop p rs) in
      ap (drop (width * p)) parts
      ∙ drop_at (flat words (take p rs)) (flat words (drop p rs)) (width * p)
      (flat-length (take p rs) ∙ ap (λ (n : ℕ). width * n) (length-take-le p rs h))

  -- A record stored over another takes its place.
  pub flat-set : (rs : List R) (p : ℕ) (r d : R) (rest : List ℕ) → p < length rs
      → sets (flat words rs ++ rest) (width * p) (words r) ≡ flat words (set rs p r) ++ rest
  unfolding flat
  flat-set rs p r d rest h =
      let before : List R = take p rs in
      let behind : List R = drop (suc p) rs in
      let old : List ℕ = words (get_or rs p d) in
      let long : length before ≡ p = length-take-le p rs (omega arith) in
      let parts : flat words rs ++ rest ≡ flat words before ++ (old ++ (flat words behind ++ rest)) =
      ap (λ (l : List R). flat words l ++ rest) (split_at rs p d h)
      ∙ ap (λ (l : List ℕ). l ++ rest) (flat_append before (get_or rs p d ∷ behind))
      ∙ append_assoc (flat words before) (old ++ flat words behind) rest
      ∙ ap (λ (l : List ℕ). flat words before ++ l) (append_assoc old (flat words behind) rest) in
      ap₂ (λ (l : List ℕ) (n : ℕ). sets l (width * n) (words r)) parts (sym long)
      ∙ flat-stored before r old (flat words behind ++ rest) (wide (get_or rs p d))
      ∙ sym (append_assoc (flat words (before ++ (r ∷ []))) (flat words behind) rest)
      ∙ ap (λ (l : List ℕ). l ++ rest) (sym (flat_append (before ++ (r ∷ [])) behind))
      ∙ ap (λ (l : List R). flat words l ++ rest) (append_snoc before r behind ∙ sym (set_split rs p r h))
