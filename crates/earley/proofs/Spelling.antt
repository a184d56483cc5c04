-- Laws of spelling: words join and part where positions do, and positions of one kind each spell one word.
use mathlib.Core.Path.{◌≡◌, refl, sym, ◌∙◌, ap, subst}
use mathlib.Core.List.Memᴰ.{eq_of_singleton as only}
use mathlib.Core.List.Memᴰ.{head as here}
use mathlib.Core.List.{List, [], ◌∷◌, ◌++◌, append_assoc, append-nil, map-append, Memᴰ as Member}
use mathlib.Core.Logic.{◌↔◌}
use Prim.Native.Nat.{ℕ, zero, suc, ◌≤◌, ◌<◌}
use native.Mathlib.Decide.{dec_lt}
use native.Mathlib.Omega.{arith}
use lib.ListN.{length, get_or, take, length-append, get_or-append}
use lib.Seq.{get_or-append_seam}
use Rattle.earley.specs.Positions.{Positions, Spelt, none, next, plain}

-- Two words that are spelt one behind the other.
pub spelt-join : {a : Positions} {i k j : ℕ} {u v : List ℕ} → Spelt a i u k → Spelt a k v j → Spelt a i (u ++ v) j
spelt-join none s = s
spelt-join (next l m r) s = next l m (spelt-join r s)

-- Where the first of two words ends the second begins.
pub record Parted (a : Positions) (i : ℕ) (u v : List ℕ) (j : ℕ) : Type 0 where
  pub middle : ℕ
  pub first : Spelt a i u middle
  pub second : Spelt a middle v j

pub spelt-part : {a : Positions} {i j : ℕ} (u v : List ℕ) → Spelt a i (u ++ v) j → Parted a i u v j
spelt-part [] v s = record { middle = _; first = none; second = s }
spelt-part (t ∷ u) v (next l m r) =
    let p = spelt-part u v r in
    record { middle = p.middle; first = next l m p.first; second = p.second }

-- What is spelt stays so when positions come behind.
pub spelt_grows : {a : Positions} (b : Positions) {i j : ℕ} {w : List ℕ} → Spelt a i w j → Spelt (a ++ b) i w j
spelt_grows b none = none
spelt_grows {a} b (next {i = i} {t = t} l m r) =
    next {i = i} (omega (arith, length-append a b)) (subst (Member t) (sym (get_or-append a b [] i l)) m) (spelt_grows b r)

-- Nothing is spelt behind the last position.
nothing-behind : {a : Positions} {i j : ℕ} {w : List ℕ} → Spelt a i w j → length a ≤ i → w ≡ []
nothing-behind none behind = refl
nothing-behind (next l m r) behind = absurd (omega arith)

-- A word of positions and one behind them: a word of the positions, and a kind of that one.
pub record Ended (a : Positions) (ks : List ℕ) (i : ℕ) (w : List ℕ) : Type 0 where
  pub before : List ℕ
  pub kind : ℕ
  pub is : w ≡ before ++ kind ∷ []
  pub spelt : Spelt a i before (length a)
  pub of : Member kind ks

pub spelt-last : (a : Positions) (ks : List ℕ) {i j : ℕ} {w : List ℕ} → Spelt (a ++ ks ∷ []) i w j → i ≤ length a → j ≡ suc (length a) → Ended a ks i w
spelt-last a ks none inside to = absurd (omega arith)
spelt-last a ks (next {i = i} {t = t} l m r) inside to = elim (dec_lt i (length a)) [
  | yes before ↦
      let rest = spelt-last a ks r (omega arith) to in
      record {
        before = t ∷ rest.before;
        kind = rest.kind;
        is = ap (λ (w : List ℕ). t ∷ w) rest.is;
        spelt = next before (subst (Member t) (get_or-append a (ks ∷ []) [] i before) m) rest.spelt;
        of = rest.of;
      }
  | no n ↦
      let here : i ≡ length a = omega arith in
      record {
        before = [];
        kind = t;
        is = ap (λ (w : List ℕ). t ∷ w) (nothing-behind r (omega (arith, length-append a (ks ∷ []))));
        spelt = subst (Spelt a i []) here none;
        of = subst (Member t) (ap (λ (k : ℕ). get_or (a ++ ks ∷ []) k []) here ∙ get_or-append_seam a ks [] []) m;
      }
]

-- And such a word is spelt.
pub spelt_on : {a : Positions} {ks w : List ℕ} {t : ℕ} → Spelt a 0 w (length a) → Member t ks → Spelt (a ++ ks ∷ []) 0 (w ++ t ∷ []) (length (a ++ ks ∷ []))
spelt_on {a} {ks} {w} {t} s m =
    let n : suc (length a) ≡ length (a ++ ks ∷ []) = omega (arith, length-append a (ks ∷ [])) in
    let last : Spelt (a ++ ks ∷ []) (length a) (t ∷ []) (suc (length a)) =
    next {i = length a} (omega (arith, n)) (subst (Member t) (sym (get_or-append_seam a ks [] [])) m) none in
    subst (Spelt (a ++ ks ∷ []) 0 (w ++ t ∷ [])) n (spelt-join (spelt_grows (ks ∷ []) s) last)

-- Behind any positions, those of one kind each spell their word.
pub spelt-plain : (a : Positions) (w : List ℕ) → Spelt (a ++ plain w) (length a) w (length (a ++ plain w))
spelt-plain a [] = subst (λ (l : Positions). Spelt l (length a) [] (length l)) (sym (append-nil a)) none
spelt-plain a (t ∷ w) =
    let all : Positions = a ++ plain (t ∷ w) in
    let e : (a ++ (t ∷ []) ∷ []) ++ plain w ≡ all = append_assoc a ((t ∷ []) ∷ []) (plain w) in
    let n : length (a ++ (t ∷ []) ∷ []) ≡ suc (length a) = omega (arith, length-append a ((t ∷ []) ∷ [])) in
    let rest : Spelt all (suc (length a)) w (length all) =
    subst (λ (k : ℕ). Spelt all k w (length all)) n
    (subst (λ (l : Positions). Spelt l (length (a ++ (t ∷ []) ∷ [])) w (length l)) e (spelt-plain (a ++ (t ∷ []) ∷ []) w)) in
    next {i = length a} (omega (arith, length-append a (plain (t ∷ w))))
    (subst (Member t) (sym (get_or-append_seam a (t ∷ []) (plain w) [])) (here refl)) rest

-- And no other.
only-plain : {a : Positions} {i j : ℕ} {w : List ℕ} (ts : List ℕ) (p : Positions) → Spelt a i w j → a ≡ p ++ plain ts → i ≡ length p → j ≡ length a → w ≡ ts
only-plain [] p none is from to = refl
only-plain [] p (next l m r) is from to = absurd (omega (arith, ap length (is ∙ append-nil p)))
only-plain (t ∷ ts) p none is from to = absurd (omega (arith, ap length is, length-append p (plain (t ∷ ts))))
only-plain {a} (t ∷ ts) p (next {i = i} {t = k} {w = w} l m r) is from to =
    let seam : get_or a i [] ≡ t ∷ [] =
    ap (λ (b : Positions). get_or b i []) is ∙ ap (λ n. get_or (p ++ plain (t ∷ ts)) n []) from ∙ get_or-append_seam p (t ∷ []) (plain ts) [] in
    let first : k ≡ t = only (subst (Member k) seam m) in
    let rest : w ≡ ts =
    only-plain ts (p ++ (t ∷ []) ∷ []) r (is ∙ sym (append_assoc p ((t ∷ []) ∷ []) (plain ts))) (omega (arith, length-append p ((t ∷ []) ∷ []))) to in
    λ n. first n ∷ rest n

-- A WORD SPELLS POSITIONS OF ONE KIND EACH EXACTLY WHEN IT IS THEIR TOKENS.
pub plain-spelt : (ts w : List ℕ) → Spelt (plain ts) 0 w (length (plain ts)) ↔ (w ≡ ts)
plain-spelt ts w = (
  λ s. only-plain ts [] s refl refl refl,
  λ e. subst (λ (v : List ℕ). Spelt (plain ts) 0 v (length (plain ts))) (sym e) (spelt-plain [] ts),
)

-- Tokens behind tokens are positions behind positions,
pub plain-behind : (ts us : List ℕ) → plain ts ++ plain us ≡ plain (ts ++ us)
plain-behind ts us = sym (map-append (λ t. t ∷ []) ts us)

-- one token more is one position more,
pub plain_on : (ts : List ℕ) (t : ℕ) → plain ts ++ (t ∷ []) ∷ [] ≡ plain (ts ++ t ∷ [])
plain_on ts t = plain-behind ts (t ∷ [])

-- the first tokens are the first positions,
pub plain-taken : (k : ℕ) (ts : List ℕ) → take k (plain ts) ≡ plain (take k ts)
plain-taken zero ts = refl
plain-taken (suc k) [] = refl
plain-taken (suc k) (t ∷ ts) = ap (λ (a : Positions). (t ∷ []) ∷ a) (plain-taken k ts)

-- and each position has its token.
pub plain_at : (ts : List ℕ) (k : ℕ) → k < length ts → get_or (plain ts) k [] ≡ get_or ts k 0 ∷ []
plain_at [] k l = absurd (omega arith)
plain_at (t ∷ ts) zero l = refl
plain_at (t ∷ ts) (suc k) l = plain_at ts k (omega arith)
