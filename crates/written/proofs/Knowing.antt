-- What is known of a written grammar that is translated, and what follows of its symbols.
use mathlib.Core.Path.{◌≡◌, sym, ap, subst}
use mathlib.Core.Bool.{Bool, true, false}
use mathlib.Core.List.{List, [], ◌∷◌, ◌++◌, append-nil, cons≢nil}
use mathlib.Core.Logic.{◌⊎◌, inl, inr, ⊎_elim}
use Prim.Native.Nat.{ℕ, ◌+◌, ◌≤◌, ◌<◌}
use native.Mathlib.Decide.{dec_lt}
use native.Mathlib.Omega.{arith}
use Rattle.laws.specs.Decides.{Decides}
use Rattle.laws.proofs.Tests.{either_way}
use Rattle.grammar.specs.Rules.{none}
use Rattle.grammar.specs.Accepted.{max_symbols}
use Rattle.written.specs.Lists.{In, Each}
use Rattle.written.specs.Lists.In.{here, there}
use Rattle.written.specs.Lists.Each.{end, and}
use Rattle.written.specs.Written.{WrittenRule, Written, Writes, Becomes, Tokens, MayBeEmpty, Gives, symbol_count, no_written}
use Rattle.written.specs.Written.Becomes.{nothing, stays, by_rule}
use Rattle.written.specs.Written.Tokens.{none_left, one_more}
use Rattle.written.specs.Refusals.{Nonterminal, Fruitful, Stays, Sound}
use Rattle.written.specs.Split.{given}
use Rattle.written.specs.Translation.{number, places, wrapper_of, first_new}
use Rattle.written.proofs.Lists.{in_at, none_there, head_or_tail, in_back}
use Rattle.written.proofs.Becoming.{becomes-same, becomes-join}
use Rattle.written.proofs.Keeping.{tokens-join, append-some, some-append}
use Rattle.written.proofs.Marking.{becomes-places}
use Rattle.written.proofs.Numbers.{number_lt, number_le, number_same, number-top}

-- What decides a thing that holds says yes; one that does not hold, no.
pub told : {b : Bool} {P : Type 0} → Decides b P → P → b ≡ true
told {b} d p = either_way b (λ e. e) (λ e. absurd (d.if_no e p))

pub untold : {b : Bool} {P : Type 0} → Decides b P → (P → ⊥) → b ≡ false
untold {b} d n = either_way b (λ e. absurd (n (d.if_yes e))) (λ e. e)

-- Left sides and the start symbol are nonterminals, and no symbol is T+M or above.
pub record Lawful (w : Written) : Type 0 where
  pub start : Nonterminal w w.start
  pub left : {r a : ℕ} {ω : List ℕ} → Writes w r a ω → Nonterminal w a
  pub symbols : {r a : ℕ} {ω : List ℕ} → Writes w r a ω → Each (λ (x : ℕ). x < symbol_count w) ω

-- A written grammar that is refused by none of 16 to 20, which of its symbols stay and which may be empty; and the file has not too many symbols.
pub record Known : Type 0 where
  pub w : Written
  pub lawful : Lawful w
  pub sound : Sound w
  pub keep : ℕ → Bool
  pub empty : ℕ → Bool
  pub keeps : (a : ℕ) → Decides (keep a) (Stays w a)
  pub empties : (a : ℕ) → Decides (empty a) (MayBeEmpty w a)
  pub few : wrapper_of w keep + 2 ≤ max_symbols

-- A rule that is in the list is written.
pub record Somewhere (w : Written) (a : ℕ) (ω : List ℕ) : Type 0 where
  pub rule : ℕ
  pub writes : Writes w rule a ω

pub in_writes : (w : Written) {r : WrittenRule} → In r w.rules → Somewhere w r.left r.right
in_writes w {r} i =
    let p = in_at no_written i in
    record {
      rule = p.place;
      writes = record { there = p.within; left = ap (λ (q : WrittenRule). q.left) p.is; right = ap (λ (q : WrittenRule). q.right) p.is };
    }

-- A rule of `a` derives what its right side becomes.
pub rule-becomes : {w : Written} {r a : ℕ} {ω u : List ℕ} → Writes w r a ω → Becomes w ω u → Becomes w (a ∷ []) u
rule-becomes {w} {a = a} {u = u} h p = subst (Becomes w (a ∷ [])) (append-nil u) (by_rule h p nothing)

-- The places of a right side stay, and stand in it.
pub places-kept : (keep : ℕ → Bool) (l : List ℕ) → Each (λ (x : ℕ). keep x ≡ true) (places keep l)
unfolding places given
places-kept keep [] = end
places-kept keep (x ∷ l) = either_way (keep x) (λ k. rw (places, k) (and k (places-kept keep l))) (λ k. rw (places, k) (places-kept keep l))

pub places_in : (keep : ℕ → Bool) (l : List ℕ) {x : ℕ} → In x (places keep l) → In x l
unfolding places given
places_in keep [] i = absurd (none_there i)
places_in keep (y ∷ l) {x} i = either_way (keep y)
    (λ k. head_or_tail (rw (places, k) at i) (λ e. subst (λ (z : ℕ). In x (z ∷ l)) (sym e) here) (λ j. there (places_in keep l j)))
    (λ k. there (places_in keep l (rw (places, k) at i)))

pub in_places : (keep : ℕ → Bool) {l : List ℕ} {x : ℕ} → In x l → keep x ≡ true → In x (places keep l)
unfolding places given
in_places keep {x = x} here k = rw (places, k) here
in_places keep (there {y = y} i) k = in_back (given (keep y) (y ∷ [])) (in_places keep i k)

-- A symbol is a token or a nonterminal.
pub token_or_not : (w : Written) (x : ℕ) → x < symbol_count w → (x < w.tokens) ⊎ Nonterminal w x
token_or_not w x h = elim (dec_lt x w.tokens) [
  | yes l ↦ inl l
  | no g ↦ inr (record { no_token_lem = omega arith; within = h })
]

-- A token derives itself.
pub token-stays : (w : Written) (t : ℕ) → t < w.tokens → Stays w t
token-stays w t h = record { string = t ∷ []; gives = record { tokens = one_more h none_left; becomes = becomes-same (t ∷ []) }; filled = cons≢nil }

-- Every symbol derives some token string where every nonterminal does.
pub every_fruitful : (w : Written) → ((a : ℕ) → Nonterminal w a → Fruitful w a) → (x : ℕ) → x < symbol_count w → Fruitful w x
every_fruitful w all x h = ⊎_elim
    (λ l. let s = token-stays w x l in record { string = s.string; gives = s.gives })
    (λ n. all x n)
    (token_or_not w x h)

-- Where every symbol derives some token string.
module _ (w : Written) (fruit : (x : ℕ) → x < symbol_count w → Fruitful w x) where
  -- A token string that a list of symbols becomes.
  pub record Strung (α : List ℕ) : Type 0 where
    pub string : List ℕ
    pub tokens : Tokens w string
    pub becomes : Becomes w α string

  -- Every list of symbols becomes one; and one that is not empty where one of them stays.
  pub all_strung : {α : List ℕ} → Each (λ (x : ℕ). x < symbol_count w) α → Strung α
  all_strung end = record { string = []; tokens = none_left; becomes = nothing }
  all_strung (and {x = x} h p) =
      let f = fruit x h in
      let r = all_strung p in
      record { string = f.string ++ r.string; tokens = tokens-join f.gives.tokens r.tokens; becomes = becomes-join f.gives.becomes r.becomes }

  pub record Filled (α : List ℕ) : Type 0 where
    pub strung : Strung α
    pub filled : strung.string ≡ [] → ⊥

  pub all-filled : {α : List ℕ} {x : ℕ} → Each (λ (y : ℕ). y < symbol_count w) α → In x α → Stays w x → Filled α
  all-filled end i s = elim i [ ]
  all-filled (and h p) here s =
      let r = all_strung p in
      record {
        strung = record {
          string = s.string ++ r.string;
          tokens = tokens-join s.gives.tokens r.tokens;
          becomes = becomes-join s.gives.becomes r.becomes;
        };
        filled = append-some s.string r.string s.filled;
      }
  all-filled (and {x = y} h p) (there i) s =
      let f = fruit y h in
      let r = all-filled p i s in
      record {
        strung = record {
          string = f.string ++ r.strung.string;
          tokens = tokens-join f.gives.tokens r.strung.tokens;
          becomes = becomes-join f.gives.becomes r.strung.becomes;
        };
        filled = some-append f.string r.strung.string r.filled;
      }

module _ (c : Known) where
  -- The number of a symbol that stays; that of the first new symbol; that of W.
  abbrev pub new : ℕ → ℕ
  new x = number c.keep x

  abbrev pub first : ℕ
  first = first_new c.w c.keep

  abbrev pub top : ℕ
  top = wrapper_of c.w c.keep

  -- Tokens stay.
  pub token-kept : (t : ℕ) → t < c.w.tokens → c.keep t ≡ true
  token-kept t h = told (c.keeps t) (token-stays c.w t h)

  pub token-number : (t : ℕ) → t < c.w.tokens → new t ≡ t
  token-number t h = number_same c.keep t (λ s l. token-kept s (let k : s < t = l in omega arith))

  -- What stays is a symbol.
  a_symbol : (x : ℕ) {u : List ℕ} → Becomes c.w (x ∷ []) u → Tokens c.w u → x < symbol_count c.w
  a_symbol x (stays p) (one_more h t) = omega arith
  a_symbol x (by_rule h p q) t = (c.lawful.left h).within

  pub kept_low : (x : ℕ) → c.keep x ≡ true → x < symbol_count c.w
  kept_low x k = let s = (c.keeps x).if_yes k in a_symbol x s.gives.becomes s.gives.tokens

  -- Every symbol derives some token string.
  pub all-fruitful : (x : ℕ) → x < symbol_count c.w → Fruitful c.w x
  all-fruitful = every_fruitful c.w c.sound.fruitful

  -- What does not stay may be empty.
  pub gone_empty : (x : ℕ) → x < symbol_count c.w → c.keep x ≡ false → Becomes c.w (x ∷ []) []
  gone_empty x h k = by_string f.string f.gives
    where
      f : Fruitful c.w x
      f = all-fruitful x h

      by_string : (u : List ℕ) → Gives c.w x u → Becomes c.w (x ∷ []) []
      by_string [] g = g.becomes
      by_string (y ∷ u) g = absurd ((c.keeps x).if_no k (record { string = y ∷ u; gives = g; filled = cons≢nil }))

  -- A right side becomes its places.
  pub right-places : {r a : ℕ} {ω : List ℕ} → Writes c.w r a ω → Becomes c.w ω (places c.keep ω)
  right-places {ω = ω} h = becomes-places c.w c.keep gone_empty ω (c.lawful.symbols h)

  -- A left side stays where a symbol of its rule does.
  pub kept-left : {r a x : ℕ} {ω : List ℕ} → Writes c.w r a ω → In x ω → c.keep x ≡ true → c.keep a ≡ true
  kept-left {a = a} {x = x} h i k =
      let f = all-filled c.w all-fruitful (c.lawful.symbols h) i ((c.keeps x).if_yes k) in
      told (c.keeps a) (record {
        string = f.strung.string;
        gives = record { tokens = f.strung.tokens; becomes = rule-becomes h f.strung.becomes };
        filled = f.filled;
      })

  -- Numbers: of a nonterminal that stays, of the tokens, of anything.
  pub number-nonterminal : (a : ℕ) → Nonterminal c.w a → c.w.tokens ≤ new a
  number-nonterminal a n =
      let same = number_same c.keep c.w.tokens token-kept in
      let up = number_le c.keep c.w.tokens a n.no_token_lem in
      omega arith

  pub number-kept-low : (x : ℕ) → c.keep x ≡ true → new x < first
  number-kept-low x k = number_lt c.keep x (symbol_count c.w) k (kept_low x k)

  pub tokens-low : c.w.tokens ≤ first
  tokens-low =
      let same = number_same c.keep c.w.tokens token-kept in
      let up = number_le c.keep c.w.tokens (symbol_count c.w) (omega arith) in
      omega arith

  pub number_no_none : (x : ℕ) → new x ≡ none → ⊥
  number_no_none x e = let h = number-top c.keep (symbol_count c.w) kept_low x in let f = c.few in omega arith
