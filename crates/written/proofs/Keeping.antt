-- Exactly the nonempty sentences: a grammar that has the rules of every split, and no others, derives what the written one derives.
use mathlib.Core.Path.{◌≡◌, refl, sym, ap, subst, ◌∙◌}
use mathlib.Core.Bool.{Bool, true, false}
use mathlib.Core.List.{List, [], ◌∷◌, ◌++◌, append-nil, cons≢nil}
use mathlib.Core.Logic.{⊎_elim, ◌≢◌}
use Prim.Native.Nat.{ℕ, ◌<◌}
use Rattle.laws.proofs.Tests.{either_way}
use Rattle.grammar.specs.Rules.{Grammar, Says, none}
use Rattle.grammar.specs.Sentences.{Derives}
use Rattle.written.specs.Written.{Written, Writes, Becomes, Tokens}
use Rattle.written.specs.Written.Becomes.{nothing, stays, by_rule}
use Rattle.written.specs.Written.Tokens.{none_left, one_more}
use Rattle.written.specs.Lists.{Each}
use Rattle.written.specs.Split.{given, split}
use Rattle.written.specs.Translation.{places}
use Rattle.written.proofs.Becoming.{becomes-same, becomes-join, becomes_on}
use Rattle.written.proofs.Splitting.{Has, Yields, Spelled, split-gives, Ended}

-- Tokens of a string's parts, and of the whole.
pub tokens-part : {g : Written} (u v : List ℕ) → Tokens g (u ++ v) → Tokens g u × Tokens g v
tokens-part [] v t = (none_left, t)
tokens-part (x ∷ u) v (one_more h t) = let r = tokens-part u v t in (one_more h r.0, r.1)

pub tokens-join : {g : Written} {u v : List ℕ} → Tokens g u → Tokens g v → Tokens g (u ++ v)
tokens-join none_left q = q
tokens-join (one_more h p) q = one_more h (tokens-join p q)

-- What has a part that is not empty is not empty.
pub append-some : (u v : List ℕ) → u ≢ [] → u ++ v ≢ []
append-some [] v n e = n refl
append-some (x ∷ u) v n e = cons≢nil e

pub some-append : (u v : List ℕ) → v ≢ [] → u ++ v ≢ []
some-append [] v n e = n e
some-append (x ∷ u) v n e = cons≢nil e

-- Nothing of one or two symbols derives the empty string.
pub derives-some : {g : Grammar} {x : ℕ} {w : List ℕ} → Derives g x w → w ≢ []
derives-some (Derives.token h) = cons≢nil
derives-some (Derives.unary s d) = derives-some d
derives-some (Derives.binary {u = u} {v = v} s n d e) = append-some u v (derives-some d)

module _ (w : Written) (g : Grammar) (new : ℕ → ℕ) (empty keep : ℕ → Bool) where
  -- Symbol by symbol, over all places: kept symbols give what they give, the others nothing.
  pub data Spells : List ℕ → List ℕ → Type 0 where
    no_place : Spells [] []
    place : {x : ℕ} {u v rest : List ℕ} → keep x ≡ true → Yields g new empty (new x) (empty x) u → Spells rest v → Spells (x ∷ rest) (u ++ v)
    gone : {x : ℕ} {v rest : List ℕ} → keep x ≡ false → Spells rest v → Spells (x ∷ rest) v

  -- The grammar has the rules of a split.
  pub record HasSplit (a : ℕ) (l : List ℕ) : Type 0 where
    pub next : ℕ
    pub has : Each (Has g new empty) (split new empty a l next)

  pub places_spelled : {l v : List ℕ} → Spells l v → Spelled g new empty (places keep l) v
  unfolding places given
  places_spelled no_place = Spelled.no_place
  places_spelled (place {x = x} k q r) = rw (places, k) (Spelled.place q (places_spelled r))
  places_spelled (gone {x = x} k r) = rw (places, k) (places_spelled r)

  module _ (same-tokens : g.tokens ≡ w.tokens) (token-number : (t : ℕ) → t < w.tokens → new t ≡ t) (token-kept : (t : ℕ) → t < w.tokens → keep t ≡ true)
      (no_none : (x : ℕ) → new x ≢ none)
      (all-empty : (a : ℕ) → Becomes w (a ∷ []) [] → empty a ≡ true)
      (all-kept : (a : ℕ) (u : List ℕ) → Tokens w u → u ≢ [] → Becomes w (a ∷ []) u → keep a ≡ true)
      (has_split : (r a : ℕ) (ω : List ℕ) → Writes w r a ω → HasSplit (new a) (places keep ω)) where
    alone : {a r : ℕ} {ω u : List ℕ} → Writes w r a ω → Becomes w ω u → Becomes w (a ∷ []) u
    alone {a} {u = u} h p = subst (Becomes w (a ∷ [])) (append-nil u) (by_rule h p nothing)

    add : {a : ℕ} {u v rest : List ℕ} → Becomes w (a ∷ []) u → Tokens w u → Ended g new empty (new a) u → Spells rest v → Spells (a ∷ rest) (u ++ v)
    add {a} {u} {v} {rest} p t end q = ⊎_elim nothing-there something end
      where
        nothing-there : u ≡ [] → Spells (a ∷ rest) (u ++ v)
        nothing-there e = either_way (keep a)
            (λ k. place k (Yields.left_out e (all-empty a (subst (Becomes w (a ∷ [])) e p))) q)
            (λ k. subst (Spells (a ∷ rest)) (ap (λ (l : List ℕ). l ++ v) (sym e)) (gone k q))

        something : Derives g (new a) u → Spells (a ∷ rest) (u ++ v)
        something d = place (all-kept a u t (derives-some d) p) (Yields.derived d) q

    -- What written symbols become is spelled by the numbers of those that stay.
    pub becomes-spells : {α β : List ℕ} → Becomes w α β → Tokens w β → Spells α β
    becomes-spells nothing t = no_place
    becomes-spells (stays {x = x} p) (one_more h t) =
        place {u = x ∷ []} (token-kept x h) (Yields.derived (subst (λ (n : ℕ). Derives g n (x ∷ [])) (sym (token-number x h)) (Derives.token (subst (λ (n : ℕ). x < n) (sym same-tokens) h)))) (becomes-spells p t)
    becomes-spells (by_rule {r = r} {a = a} {ω = ω} {γ = u} {β = v} h p q) t =
        let ts = tokens-part u v t in
        add (alone h p) ts.0 (split-gives g new empty (new a) (places keep ω) (has_split r a ω h).next no_none (has_split r a ω h).has (places_spelled (becomes-spells p ts.0))) (becomes-spells q ts.1)

    lone : (a : ℕ) {u : List ℕ} → Spells (a ∷ []) u → u ≢ [] → Derives g (new a) u
    lone a (place {u = s} k (Yields.derived d) no_place) n = subst (Derives g (new a)) (sym (append-nil s)) d
    lone a (place {u = s} k (Yields.left_out f e) no_place) n = absurd (n (append-nil s ∙ f))
    lone a (gone k no_place) n = absurd (n refl)

    -- COMPLETE: what a nonterminal derives and is not empty, its number derives.
    pub complete : (a : ℕ) (u : List ℕ) → Tokens w u → u ≢ [] → Becomes w (a ∷ []) u → Derives g (new a) u
    complete a u t n p = lone a (becomes-spells p t) n

-- SOUND: where every rule of `g` but W's is a derivation of the written grammar, what a symbol derives, that for which it stands becomes.
module _ (w : Written) (g : Grammar) (stands : ℕ → List ℕ) (same-tokens : g.tokens ≡ w.tokens) (token-stands : (t : ℕ) → t < w.tokens → stands t ≡ t ∷ [])
    (nothing_at_none : stands none ≡ []) (sound : (r a b c : ℕ) → Says g r a b c → Becomes w (stands a) (stands b ++ stands c)) where
  pub derives-becomes : {x : ℕ} {u : List ℕ} → Derives g x u → Becomes w (stands x) u
  derives-becomes (Derives.token {t = t} h) =
      subst (λ (l : List ℕ). Becomes w l (t ∷ [])) (sym (token-stands t (subst (λ (n : ℕ). t < n) same-tokens h))) (becomes-same (t ∷ []))
  derives-becomes {u = u} (Derives.unary {r = r} {a = a} {b = b} s d) =
      becomes_on (sound r a b none s) (subst (λ (l : List ℕ). Becomes w (stands b ++ l) u) (sym nothing_at_none) (subst (λ (l : List ℕ). Becomes w l u) (sym (append-nil (stands b))) (derives-becomes d)))
  derives-becomes (Derives.binary {r = r} {a = a} {b = b} {c = c} s n d e) =
      becomes_on (sound r a b c s) (becomes-join (derives-becomes d) (derives-becomes e))

  pub derives-tokens : {x : ℕ} {u : List ℕ} → Derives g x u → Tokens w u
  derives-tokens (Derives.token {t = t} h) = one_more (subst (λ (n : ℕ). t < n) same-tokens h) none_left
  derives-tokens (Derives.unary s d) = derives-tokens d
  derives-tokens (Derives.binary s n d e) = tokens-join (derives-tokens d) (derives-tokens e)
