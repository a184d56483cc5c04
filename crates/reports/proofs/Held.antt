-- The symbols that a row holds.
use mathlib.Core.Path.{◌≡◌, refl, sym, ap, subst, ◌∙◌}
use mathlib.Core.Bool.{true, false}
use mathlib.Core.Logic.{◌⊎◌, inl, inr, ⊎_elim}
use mathlib.Core.List.{List, [], ◌∷◌, ◌++◌, append-nil}
use Prim.Native.Nat.{ℕ, zero, suc, ◌+◌, ◌-◌, ◌≤◌, ◌<◌}
use native.Mathlib.Decide.{dec_lt, ℕ_discrete}
use native.Mathlib.Omega.{arith}
use lib.ListN.{length, get_or, set, drop, length-append, get_or-append}
use lib.Seq.{get_or-append_seam, get_or-append-add}
use Rattle.laws.specs.Bits.{holds}
use Rattle.laws.proofs.Tests.{either_way}
use Rattle.reports.specs.Lists.{held_below}
use Rattle.reports.specs.Sentences.{In}
use Rattle.reports.proofs.Fronts.{front-stored, front_long}

module _ (row : List ℕ) where
  -- One symbol more: it is held, or it is not.
  pub held_more : (n : ℕ) → holds row n ≡ true → held_below row (n + 1) ≡ held_below row n ++ (n ∷ [])
  unfolding held_below
  held_more n h =
      let next : n + 1 ≡ suc n = omega arith in
      ap (held_below row) next ∙ rw (h, held_below) refl

  pub held_same : (n : ℕ) → holds row n ≡ false → held_below row (n + 1) ≡ held_below row n
  unfolding held_below
  held_same n h =
      let next : n + 1 ≡ suc n = omega arith in
      ap (held_below row) next ∙ rw (h, held_below) (append-nil (held_below row n))

  held_grows : (n : ℕ) → length (held_below row n) ≤ length (held_below row (suc n))
  unfolding held_below
  held_grows n = omega (arith, length-append (held_below row n) (elim (holds row n) [ true ↦ n ∷ [] | false ↦ [] ]))

  grown : (n : ℕ) → held_below row (suc n) ≡ held_below row n ++ elim (holds row n) [ true ↦ n ∷ [] | false ↦ [] ]
  unfolding held_below
  grown n = refl

  -- More symbols hold no fewer.
  pub held-few : (n m : ℕ) → n ≤ m → length (held_below row n) ≤ length (held_below row m)
  held-few n zero l = let same : n ≡ 0 = omega arith in subst (λ (k : ℕ). length (held_below row n) ≤ length (held_below row k)) same (omega arith)
  held-few n (suc m) l = elim (dec_lt m n) [
    | yes b ↦ let same : n ≡ suc m = omega arith in subst (λ (k : ℕ). length (held_below row n) ≤ length (held_below row k)) same (omega arith)
    | no b ↦ omega (arith, held-few n m (omega arith), held_grows m)
  ]

  pub held_many : (n : ℕ) → length (held_below row n) ≤ n
  unfolding held_below
  held_many zero = omega arith
  held_many (suc n) =
      either_way (holds row n)
      (λ e. rw (e, held_below) (omega (arith, held_many n, length-append (held_below row n) (n ∷ []))))
      (λ e. rw (e, held_below) (omega (arith, held_many n, length-append (held_below row n) [])))

-- A list behind another has what either has.
module _ {t : ℕ} where
  pub in_either : (l m : List ℕ) → In t (l ++ m) → In t l ⊎ In t m
  in_either l m i = elim (dec_lt i.place (length l)) [
    | yes b ↦ inl (record { place = i.place; there = b; is = sym (get_or-append l m 0 i.place b) ∙ i.is })
    | no b ↦
        let at : i.place ≡ length l + (i.place - length l) = omega arith in
        inr (record {
          place = i.place - length l;
          there = omega (arith, i.there, length-append l m);
          is = sym (ap (λ (k : ℕ). get_or (l ++ m) k 0) at ∙ get_or-append-add l m (i.place - length l) 0) ∙ i.is;
        })
  ]

  pub in_front : (l m : List ℕ) → In t l → In t (l ++ m)
  in_front l m i = record {
    place = i.place;
    there = omega (arith, i.there, length-append l m);
    is = get_or-append l m 0 i.place i.there ∙ i.is;
  }

  pub in_last : (l : List ℕ) → In t (l ++ (t ∷ []))
  in_last l = record { place = length l; there = omega (arith, length-append l (t ∷ [])); is = get_or-append_seam l t [] 0 }

  not_in_none : In t [] → ⊥
  not_in_none i = omega (arith, i.there)

  in_one : (x : ℕ) → In t (x ∷ []) → x ≡ t
  in_one x i = let first : i.place ≡ 0 = omega (arith, i.there) in sym (ap (λ (k : ℕ). get_or (x ∷ []) k 0) first) ∙ i.is

module _ (row : List ℕ) {t : ℕ} where
  -- What is listed is a symbol below the end that the row holds, ..
  pub listed-held : (n : ℕ) → In t (held_below row n) → (t < n) × (holds row t ≡ true)
  unfolding held_below
  listed-held zero i = absurd (not_in_none i)
  listed-held (suc n) i =
      either_way (holds row n)
      (λ e.
      let these : In t (held_below row n ++ (n ∷ [])) = subst (In t) (rw (e, held_below) refl) i in
      ⊎_elim
      (λ (before : In t (held_below row n)). (omega (arith, (listed-held n before).0), (listed-held n before).1))
      (λ (last : In t (n ∷ [])). let same : n ≡ t = in_one n last in (omega arith, subst (λ (k : ℕ). holds row k ≡ true) same e))
      (in_either (held_below row n) (n ∷ []) these))
      (λ e.
      let these : In t (held_below row n) = subst (In t) (rw (e, held_below) (append-nil (held_below row n))) i in
      (omega (arith, (listed-held n these).0), (listed-held n these).1))

  -- .. and every one is listed.
  pub held-listed : (n : ℕ) → t < n → holds row t ≡ true → In t (held_below row n)
  held-listed zero l h = absurd (omega arith)
  held-listed (suc n) l h = elim (ℕ_discrete t n) [
    | yes e ↦
        let here : held_below row (suc n) ≡ held_below row t ++ (t ∷ []) = ap (held_below row) (omega arith) ∙ held_more row t h in
        subst (In t) (sym here) (in_last (held_below row t))
    | no e ↦
        let below : In t (held_below row n) = held-listed n (omega arith) h in
        subst (In t) (sym (grown row n)) (in_front (held_below row n) _ below)
  ]

-- A loop that counts: the symbols below `t` are counted.
pub record Counted (row : List ℕ) (end t count : ℕ) : Type 0 where
  pub up_to : t ≤ end
  pub count_is : count ≡ length (held_below row t)

module _ (row : List ℕ) (end : ℕ) where
  pub counted-starts : Counted row end 0 0
  unfolding held_below
  counted-starts = record { up_to = omega arith; count_is = refl }

  pub counted_passes : (t count : ℕ) → holds row t ≡ false → t < end → Counted row end t count → Counted row end (t + 1) count
  counted_passes t count e l h = record { up_to = omega arith; count_is = h.count_is ∙ ap length (sym (held_same row t e)) }

  pub counted-counts : (t count : ℕ) → holds row t ≡ true → t < end → Counted row end t count → Counted row end (t + 1) (count + 1)
  counted-counts t count e l h = record {
    up_to = omega arith;
    count_is =
        let more : count + 1 ≡ length (held_below row t ++ (t ∷ [])) = omega (arith, h.count_is, length-append (held_below row t) (t ∷ [])) in
        more ∙ ap length (sym (held_more row t e));
  }

  pub counted-ends : (t count : ℕ) → Counted row end t count → end ≤ t → count ≡ length (held_below row end)
  counted-ends t count h l = let last : t ≡ end = omega (arith, h.up_to) in h.count_is ∙ ap (λ (k : ℕ). length (held_below row k)) last

-- A loop that lists: the symbols below `t` stand in front.
pub record Listing (row : List ℕ) (end : ℕ) (place : List ℕ) (t at : ℕ) (out : List ℕ) : Type 0 where
  pub counted : Counted row end t at
  pub are : out ≡ held_below row t ++ drop (length (held_below row t)) place

module _ (row : List ℕ) (end : ℕ) (place : List ℕ) where
  pub listing-starts : Listing row end place 0 0 place
  unfolding held_below
  listing-starts = record { counted = counted-starts row end; are = refl }

  module _ (t at : ℕ) (out : List ℕ) where
    pub listing-long : Listing row end place t at out → length (held_below row end) ≤ length place → length out ≡ length place
    listing-long h fits = ap length h.are ∙ front_long place (held_below row t) (omega (arith, held-few row t end h.counted.up_to))

    -- There is a place for one symbol more.
    pub listing-room : Listing row end place t at out → holds row t ≡ true → t < end → length (held_below row end) ≤ length place → at < length place
    listing-room h e l fits =
        let more : length (held_below row t) + 1 ≡ length (held_below row (t + 1)) = sym (ap length (held_more row t e) ∙ length-append (held_below row t) (t ∷ [])) in
        omega (arith, h.counted.count_is, more, held-few row (t + 1) end (omega arith))

    pub listing_passes : holds row t ≡ false → t < end → Listing row end place t at out → Listing row end place (t + 1) at out
    listing_passes e l h = record {
      counted = counted_passes row end t at e l h.counted;
      are = h.are ∙ ap (λ (m : List ℕ). m ++ drop (length m) place) (sym (held_same row t e));
    }

    pub listing-lists : holds row t ≡ true → t < end → Listing row end place t at out → at < length place → (x : ℕ) → x ≡ t
        → Listing row end place (t + 1) (at + 1) (set out at x)
    listing-lists e l h room x same = record {
      counted = counted-counts row end t at e l h.counted;
      are =
          ap (λ (y : ℕ). set out at y) same
          ∙ ap (λ (k : ℕ). set out k t) h.counted.count_is
          ∙ ap (λ (m : List ℕ). set m (length (held_below row t)) t) h.are
          ∙ front-stored place (held_below row t) t (omega (arith, h.counted.count_is))
          ∙ ap (λ (m : List ℕ). m ++ drop (length m) place) (sym (held_more row t e));
    }

    pub listing-ends : Listing row end place t at out → end ≤ t → out ≡ held_below row end ++ drop (length (held_below row end)) place
    listing-ends h l =
        let last : t ≡ end = omega (arith, h.counted.up_to) in h.are ∙ ap (λ (k : ℕ). held_below row k ++ drop (length (held_below row k)) place) last
