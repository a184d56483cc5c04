-- What the loops of a pass push and pop, as lists.
use Rattle.std.proofs.Common.{◌≡◌, refl, sym, ◌∙◌, ap, subst, Bool, true, false, List, [], ◌∷◌, ◌++◌, ⊎_elim, ℕ, zero, suc, ◌+◌, ◌<◌, arith}
use mathlib.Core.List.Memᴰ.{head as here}
use mathlib.Core.List.Memᴰ.{not-nil as no_member}
use mathlib.Core.List.Memᴰ.{tail as there}
use mathlib.Core.List.{Memᴰ as Member}
use mathlib.Core.List.Memᴰ.{append_cases as member-either}
use mathlib.Core.List.Memᴰ.{append_left as member-left}
use mathlib.Core.List.Memᴰ.{append_right as member_right}
use mathlib.Core.List.Memᴰ.{eq_of_singleton as only}
use native.Mathlib.Decide.{dec_lt}
use Rattle.laws.specs.Counts.{count, once}
use Rattle.laws.proofs.Counts.{count-append}
use Rattle.laws.specs.Turns.{over, until}
use Rattle.laws.proofs.Tests.{either_way}
use Rattle.forest.specs.Lists.{none, more, Once}
use Rattle.forest.proofs.Lists.{ordered-append}
use Rattle.forest.proofs.Counted.{Pops}

abbrev one_if : {A : Type 0} → Bool → A → List A
one_if true a = a ∷ []
one_if false a = []

-- What is made of each number below `n` that passes, in rising order.
unfoldable pub gathered : {A : Type 0} → (ℕ → Bool) → (ℕ → A) → ℕ → List A
gathered test make zero = []
gathered test make (suc n) = gathered test make n ++ one_if (test n) (make n)

-- A number that one was made of.
pub record Gathered {A : Type 0} (test : ℕ → Bool) (make : ℕ → A) (n : ℕ) (a : A) : Type 0 where
  pub number : ℕ
  pub below : number < n
  pub passes : test number ≡ true
  pub is : make number ≡ a

module _ {A : Type 0} where
  record Made (b : Bool) (x a : A) : Type 0 where
    pub passes : b ≡ true
    pub is : x ≡ a

  made : {a : A} (b : Bool) (x : A) → Member a (one_if b x) → Made b x a
  made true x m = record { passes = refl; is = sym (only m) }
  made false x m = absurd (no_member m)

  one_once : (b : Bool) (a : A) → Once (one_if b a)
  one_once true a = more (λ y m. absurd (no_member m)) none
  one_once false a = none

  count_one : (t : A → Bool) (b : Bool) (a : A) (c d : ℕ) → (b ≡ true → d ≡ c + once (t a)) → (b ≡ false → d ≡ c) → d ≡ c + count t (one_if b a)
  unfolding count
  count_one t true a c d one same = omega (arith, one refl)
  count_one t false a c d one same = omega (arith, same refl)

  module _ (test : ℕ → Bool) (make : ℕ → A) where
    -- What is gathered was made of a number that passes, and the other way round.
    pub gathered_from : {a : A} (n : ℕ) → Member a (gathered test make n) → Gathered test make n a
    unfolding gathered
    gathered_from zero m = absurd (no_member m)
    gathered_from {a} (suc n) m =
        let further : Member a (gathered test make n) → Gathered test make n a = λ k. gathered_from n k in
        ⊎_elim
        (λ l. let f = further l in record { number = f.number; below = omega (arith, f.below); passes = f.passes; is = f.is })
        (λ r. let f = made (test n) (make n) r in record { number = n; below = omega arith; passes = f.passes; is = f.is })
        (member-either (gathered test make n) m)

    pub gathers : (i n : ℕ) → i < n → test i ≡ true → Member (make i) (gathered test make n)
    unfolding gathered
    gathers i zero less e = absurd (omega arith)
    gathers i (suc n) less e =
        let further : i < n → Member (make i) (gathered test make n) = λ l. gathers i n l e in
        elim (dec_lt i n) [
          | yes l ↦ member-left (one_if (test n) (make n)) (further l)
          | no not ↦
              (let at : n ≡ i = omega arith in
              member_right (gathered test make n)
              (subst (λ k. Member (make i) (one_if (test k) (make k))) (sym at) (subst (λ b. Member (make i) (one_if b (make i))) (sym e) (here refl))))
        ]

    -- Nothing is gathered twice where different numbers make different things.
    pub gathered_once : ((i j : ℕ) → i < j → test i ≡ true → test j ≡ true → make i ≡ make j → ⊥) → (n : ℕ) → Once (gathered test make n)
    unfolding gathered
    gathered_once apart zero = none
    gathered_once apart (suc n) =
        ordered-append (gathered_once apart n) (one_once (test n) (make n))
        (λ a b l r same.
        let f = gathered_from n l in
        let h = made (test n) (make n) r in
        apart f.number n f.below f.passes h.passes (f.is ∙ same ∙ sym h.is))

    -- A loop that pushes what it makes of each number that passes has pushed what is gathered, unless it was refused.
    pub over_pushes : {S : Type 0} (entries : S → List A) (Good : S → Type 0) (turn : ℕ → S → S) (s : S) (n : ℕ)
        → ((i : ℕ) → i < n → Good (over (suc i) turn s) → Good (over i turn s))
        → ((i : ℕ) → i < n → Good (over (suc i) turn s) → test i ≡ true
        → (t : A → Bool) → count t (entries (over (suc i) turn s)) ≡ count t (entries (over i turn s)) + once (t (make i)))
        → ((i : ℕ) → i < n → Good (over (suc i) turn s) → test i ≡ false
        → (t : A → Bool) → count t (entries (over (suc i) turn s)) ≡ count t (entries (over i turn s)))
        → Good (over n turn s) → (t : A → Bool) → count t (entries (over n turn s)) ≡ count t (entries s) + count t (gathered test make n)
    unfolding gathered over count
    over_pushes entries Good turn s zero back pushes skips good t = omega arith
    over_pushes entries Good turn s (suc n) back pushes skips good t =
        omega (
          arith,
          over_pushes entries Good turn s n (λ i l. back i (omega arith)) (λ i l. pushes i (omega arith)) (λ i l. skips i (omega arith)) (back n (omega arith) good) t,
          count-append t (gathered test make n) (one_if (test n) (make n)),
          count_one t (test n) (make n) (count t (entries (over n turn s))) (count t (entries (over (suc n) turn s))) (λ e. pushes n (omega arith) good e t) (λ e. skips n (omega arith) good e t),
        )

-- How many numbers below one pass: where new items stand behind one another.
unfoldable pub passing : (ℕ → Bool) → ℕ → ℕ
passing test zero = 0
passing test (suc n) = passing test n + once (test n)

pub passing_rises : (test : ℕ → Bool) (i j : ℕ) → i < j → test i ≡ true → passing test i < passing test j
unfolding passing
passing_rises test i zero less e = absurd (omega arith)
passing_rises test i (suc j) less e =
    let further : i < j → passing test i < passing test j = λ l. passing_rises test i j l e in
    elim (dec_lt i j) [
      | yes l ↦ omega (arith, further l)
      | no not ↦
          (let at : i ≡ j = omega arith in
          let one : once (test j) ≡ 1 = ap (λ k. once (test k)) (sym at) ∙ ap once e in
          omega (arith, ap (λ k. passing test k) at))
    ]

-- A member is the first, or one of the others.
first_or : {A : Type 0} {a x : A} {l : List A} (Q : A → Type 0) → Q x → (Member a l → Q a) → Member a (x ∷ l) → Q a
first_or Q q f (here e) = subst Q (sym e) q
first_or Q q f (there m) = f m

-- What is popped until a sum ends.
unfoldable pub popped_by : {S A : Type 0} → ℕ → (S → Bool) → (S → S) → (S → A) → S → List A
popped_by zero ends next top s = []
popped_by (suc n) ends next top s = elim (ends s) [ true ↦ [] | false ↦ top s ∷ popped_by n ends next top (next s) ]

module _ {S A : Type 0} (ends : S → Bool) (next : S → S) (top : S → A) (P : S → Type 0)
    (keeps : (s : S) → ends s ≡ false → P s → P (next s)) where
  -- A loop that pops one entry a turn has popped these,
  pub until_pops : (entries : S → List A)
      → ((s : S) → ends s ≡ false → P s → (t : A → Bool) → count t (entries s) ≡ count t (entries (next s)) + once (t (top s)))
      → (n : ℕ) (s : S) → P s → Pops (entries s) (popped_by n ends next top s) (entries (until n ends next s))
  unfolding until popped_by
  until_pops entries pops zero s p = Pops.stop
  until_pops entries pops (suc n) s p =
      let further : P (next s) → Pops (entries (next s)) (popped_by n ends next top (next s)) (entries (until n ends next (next s))) = until_pops entries pops n (next s) in
      either_way (ends s) (λ e. rw (until, popped_by, e) Pops.stop) (λ e. rw (until, popped_by, e) (Pops.pop (pops s e p) (further (keeps s e p))))

  -- and they are what the turns say of them.
  pub popped-has : (Q : A → Type 0) → ((s : S) → ends s ≡ false → P s → Q (top s)) → (n : ℕ) (s : S) → P s
      → (a : A) → Member a (popped_by n ends next top s) → Q a
  unfolding popped_by
  popped-has Q has zero s p a m = absurd (no_member m)
  popped-has Q has (suc n) s p a m =
      let further : P (next s) → Member a (popped_by n ends next top (next s)) → Q a = λ p m. popped-has Q has n (next s) p a m in
      by (ends s) refl further m
    where
      by : (b : Bool) → ends s ≡ b → (P (next s) → Member a (popped_by n ends next top (next s)) → Q a)
          → Member a (elim b as (λ (t : Bool). List A) [ true ↦ [] | false ↦ top s ∷ popped_by n ends next top (next s) ]) → Q a
      by true e further m = absurd (no_member m)
      by false e further m = first_or Q (has s e p) (λ l. further (keeps s e p) l) m
