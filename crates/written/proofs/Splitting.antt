-- What the places of a rule spell, its left side derives, in a grammar that has the rules of the split.
use mathlib.Core.Path.{◌≡◌, refl, sym, ap, ap₂, subst, ◌∙◌}
use mathlib.Core.Bool.{Bool, true, false, ◌&&◌}
use mathlib.Core.List.{List, [], ◌∷◌, ◌++◌, append-nil, append_assoc}
use mathlib.Core.Logic.{◌⊎◌, inl, inr, ◌≢◌}
use Prim.Native.Nat.{ℕ, suc}
use Rattle.laws.proofs.Decides.{false_true}
use Rattle.grammar.specs.Rules.{Rule, Grammar, Says, none}
use Rattle.grammar.specs.Sentences.{Derives}
use Rattle.written.specs.Lists.{Each}
use Rattle.written.specs.Lists.Each.{end, and}
use Rattle.written.specs.Split.{rule, given, pair, joined, split}
use Rattle.written.proofs.Lists.{each_part}

pub each-given : {P : Rule → Type 0} (b : Bool) (r : Rule) → (b ≡ true → P r) → Each P (given b (r ∷ []))
unfolding given
each-given true r h = and (h refl) end
each-given false r h = end

-- In a grammar `g` of one and two symbols that has the rules of a split.
module _ (g : Grammar) (new : ℕ → ℕ) (empty : ℕ → Bool) where
  -- The grammar has the rule.
  pub record Has (r : Rule) : Type 0 where
    pub number : ℕ
    pub says : Says g number r.left r.first r.second

  -- The symbol derives the string, or the string is empty and the symbol may be.
  pub data Yields (x : ℕ) (e : Bool) (u : List ℕ) : Type 0 where
    derived : Derives g x u → Yields x e u
    left_out : u ≡ [] → e ≡ true → Yields x e u

  -- A list of symbols gives a string, symbol by symbol.
  pub data Spelled : List ℕ → List ℕ → Type 0 where
    no_place : Spelled [] []
    place : {x : ℕ} {u v : List ℕ} {rest : List ℕ} → Yields (new x) (empty x) u → Spelled rest v → Spelled (x ∷ rest) (u ++ v)

  has-given : (b : Bool) (r : Rule) → Each Has (given b (r ∷ [])) → b ≡ true → Has r
  unfolding given
  has-given true r (and h t) e = h
  has-given false r t e = absurd (false_true e)

  -- A pair gives what its two symbols give.
  pub pair-gives : (a b c : ℕ) (be ce : Bool) {u v : List ℕ} → c ≢ none → Each Has (pair a b c be ce) → Yields b be u → Yields c ce v
      → Yields a (be && ce) (u ++ v)
  unfolding pair
  pair-gives a b c be ce n (and h t) (derived p) (derived q) = derived (Derives.binary h.says n p q)
  pair-gives a b c be ce {u} {v} n (and h t) (derived p) (left_out f e) =
      let k = has-given ce (rule a b none) (each_part (given ce (rule a b none ∷ [])) (given be (rule a c none ∷ [])) t).0 e in
      derived (subst (Derives g a) (sym (append-nil u) ∙ ap (λ (l : List ℕ). u ++ l) (sym f)) (Derives.unary k.says p))
  pair-gives a b c be ce {u} {v} n (and h t) (left_out f e) (derived q) =
      let k = has-given be (rule a c none) (each_part (given ce (rule a b none ∷ [])) (given be (rule a c none ∷ [])) t).1 e in
      derived (subst (Derives g a) (ap (λ (l : List ℕ). l ++ v) (sym f)) (Derives.unary k.says q))
  pair-gives a b c be ce n (and h t) (left_out f e) (left_out f' e') = left_out (ap₂ ◌++◌ f f') (ap₂ ◌&&◌ e e')

  -- What a left side gets from its places: the empty string or a derivation.
  abbrev pub Ended : ℕ → List ℕ → Type 0
  Ended a u = (u ≡ []) ⊎ Derives g a u

  ended : (a : ℕ) (e : Bool) {u : List ℕ} → Yields a e u → Ended a u
  ended a e (derived p) = inr p
  ended a e (left_out f h) = inl f

  -- The places of a rule behind the first give the left side what they spell together.
  pub joined-gives : (a head : ℕ) (e : Bool) (x : ℕ) (rest : List ℕ) (next : ℕ) {u v : List ℕ} → ((y : ℕ) → new y ≢ none)
      → Each Has (joined new empty a head e (x ∷ rest) next) → Yields head e u → Spelled (x ∷ rest) v → Ended a (u ++ v)
  unfolding joined
  joined-gives a head e x [] next {u} n h p (place {u = s} q no_place) =
      subst (λ (l : List ℕ). Ended a (u ++ l)) (sym (append-nil s)) (ended a (e && empty x) (pair-gives a head (new x) e (empty x) (n x) h p q))
  joined-gives a head e x (y ∷ rest) next {u} n h p (place {u = s} {v = t} q r) =
      let k = each_part (pair next head (new x) e (empty x)) (joined new empty a next (e && empty x) (y ∷ rest) (suc next)) h in
      subst (Ended a) (append_assoc u s t)
      (joined-gives a next (e && empty x) y rest (suc next) n k.1 (pair-gives next head (new x) e (empty x) (n x) k.0 p q) r)

  -- The places of a rule give its left side what they spell.
  pub split-gives : (a : ℕ) (places : List ℕ) (next : ℕ) {v : List ℕ} → ((y : ℕ) → new y ≢ none) → Each Has (split new empty a places next) → Spelled places v → Ended a v
  unfolding split
  split-gives a [] next n h no_place = inl refl
  split-gives a (x ∷ []) next n (and h t) (place {u = s} (derived p) no_place) =
      inr (subst (Derives g a) (sym (append-nil s)) (Derives.unary h.says p))
  split-gives a (x ∷ []) next n (and h t) (place {u = s} (left_out f e) no_place) = inl (append-nil s ∙ f)
  split-gives a (x ∷ y ∷ rest) next n h (place q r) = joined-gives a (new x) (empty x) y rest next n h q r
