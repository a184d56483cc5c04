-- The translated grammar has the rules of every split and no others but rule 0; its left sides all come in their order; and its sentences are the
-- nonempty strings that the written start symbol derives.
use mathlib.Core.Path.{◌≡◌, refl, sym, ap, ap₂, subst, ◌∙◌}
use mathlib.Core.Bool.{Bool}
use mathlib.Core.List.{List, [], ◌∷◌, ◌++◌, append-nil}
use mathlib.Core.Logic.{◌⊎◌, inl, inr, ⊎_elim, ◌≢◌}
use Prim.Native.Nat.{ℕ, zero, suc, ◌+◌, ◌-◌, ◌≤◌, ◌<◌}
use native.Mathlib.Decide.{dec_lt}
use native.Mathlib.Omega.{arith}
use lib.ListN.{length, get_or, get_or-eq_default}
use Rattle.grammar.specs.Rules.{Rule, Grammar, Says, no_rule}
use Rattle.grammar.specs.Sentences.{Derives, Sentence}
use Rattle.written.specs.Lists.{In, Each}
use Rattle.written.specs.Lists.In.{here, there}
use Rattle.written.specs.Written.{WrittenRule, Writes, Becomes, Gives, symbol_count, no_written}
use Rattle.written.specs.Split.{split}
use Rattle.written.specs.Translation.{number, places, new_symbols, splits, list_of, order_of, up_from, blocks, translated}
use Rattle.written.proofs.Lists.{each_in, in_each, each_part, none_there, in_at, at_in, NoTwice, Before}
use Rattle.written.proofs.Becoming.{becomes-same, becomes_on}
use Rattle.written.proofs.Splitting.{Has}
use Rattle.written.proofs.Keeping.{HasSplit, complete, derives-becomes, derives-tokens}
use Rattle.written.proofs.Numbers.{singles, singles_count}
use Rattle.written.proofs.Standing.{meanings, meanings_count, wrapper-stands}
use Rattle.written.proofs.Listing.{listing-has, listing-only, listing-once, blocks_in, in_blocks, blocks-count}
use Rattle.written.proofs.Ordering.{Path⁺, no_loop, path_on, all_come, comes_before}
use Rattle.written.proofs.Leading.{Names, named_led, led_named, ordered_in, ordered-once, up_in, up_once, up_count}
use Rattle.written.proofs.Knowing.{Known, new, first, top, told, token-kept, token-number, tokens-low, number_no_none}
use Rattle.written.proofs.Fair.{stands, stands_for, nothing_at_none, Kept, Step, Fair, splits_fair}

-- What holds of all rules that are split off holds of those of each written rule.
pub record SplitThere (Q : Rule → Type 0) (keep empty : ℕ → Bool) (r : WrittenRule) : Type 0 where
  pub next : ℕ
  pub each : Each Q (split (number keep) empty (number keep r.left) (places keep r.right) next)

pub splits-part : (Q : Rule → Type 0) (keep empty : ℕ → Bool) {rules : List WrittenRule} {r : WrittenRule} (next : ℕ) → In r rules
    → Each Q (splits keep empty rules next) → SplitThere Q keep empty r
unfolding splits
splits-part Q keep empty next (here {x = r} {l = rules}) e =
    record {
      next = next;
      each = (each_part (split (number keep) empty (number keep r.left) (places keep r.right) next)
          (splits keep empty rules (next + new_symbols (places keep r.right))) e).0;
    }
splits-part Q keep empty next (there {y = q} {l = rules} i) e =
    splits-part Q keep empty (next + new_symbols (places keep q.right)) i
    (each_part (split (number keep) empty (number keep q.left) (places keep q.right) next)
    (splits keep empty rules (next + new_symbols (places keep q.right))) e).1

module _ (c : Known) where
  -- The list of rules, the order of left sides, and the grammar.
  abbrev pub list : List Rule
  list = list_of c.w c.keep c.empty

  abbrev pub order : List ℕ
  order = order_of c.w c.keep c.empty

  abbrev pub file : Grammar
  file = translated c.w c.keep c.empty

  abbrev parts : List Rule
  parts = splits c.keep c.empty c.w.rules (first c)

  pub parts_fair : Each (Fair c) parts
  parts_fair =
      splits_fair c c.w.rules (first c) (singles c.keep (symbol_count c.w)) (λ r i. i)
      (record { after = (c.w.start ∷ []) ∷ []; whole = refl; some = omega arith; is = sym (singles_count c.keep (symbol_count c.w)); behind = omega arith })

  -- Every rule of the list is fair.
  pub listed_fair : {q : Rule} → In q list → Fair c q
  listed_fair i = ⊎_elim (λ j. absurd (none_there j)) (λ j. each_in parts_fair j) (listing-only [] parts i)

  -- A unary rule of the list is a derivation, and so is a way of them.
  names_sound : {a b : ℕ} → Names list a b → Becomes c.w (stands c a) (stands c b)
  names_sound {a} {b} n =
      subst (Becomes c.w (stands c a)) (ap (λ (l : List ℕ). stands c b ++ l) (nothing_at_none c) ∙ append-nil (stands c b)) (listed_fair n.rule-there).sound

  abbrev Low : ℕ → Type 0
  Low x = x < first c

  which : (x : ℕ) → Low x ⊎ (Low x → ⊥)
  which x = elim (dec_lt x (first c)) [ yes l ↦ inl l | no g ↦ inr g ]

  abbrev long : ℕ → ℕ
  long x = length (stands c x)

  shrink : (a b : ℕ) → (Low a → ⊥) → Names list a b → Low b ⊎ (long b < long a)
  shrink a b n u = (listed_fair u.rule-there).shrinks (not_low n) refl
    where
      not_low : (Low a → ⊥) → first c ≤ a
      not_low m = omega arith

  abbrev Way : ℕ → ℕ → Type 0
  Way a b = Path⁺ (Names list) Low which long shrink a b

  way_sound : {a b : ℕ} → Way a b → Becomes c.w (stands c a) (stands c b)
  way_sound (Path⁺.one u) = names_sound u
  way_sound (Path⁺.more u p) = becomes_on (names_sound u) (way_sound p)

  -- No nonterminal leads to itself by unary rules: it would derive itself.
  itself : (a : ℕ) {goal : List ℕ} → Step c a goal → Becomes c.w goal (stands c a) → ⊥
  itself a s p =
      let alone : stands c a ≡ s.symbol ∷ [] = ap (stands c) (sym s.is) ∙ stands_for c s.symbol s.kept in
      c.sound.straight (record {
        symbol = s.symbol;
        itself = record { rule = s.rule; right = s.right; writes = s.writes; becomes = subst (Becomes c.w s.right) alone (becomes_on s.becomes p) };
      })

  never : (a : ℕ) → Low a → Way a a → ⊥
  never a l (Path⁺.one u) = itself a ((listed_fair u.rule-there).steps l refl) (becomes-same (stands c a))
  never a l (Path⁺.more u p) = itself a ((listed_fair u.rule-there).steps l refl) (way_sound p)

  -- The left sides T..N-3 all come in the order, each once.
  pub left-count : c.w.tokens + (top c - c.w.tokens) ≡ top c
  left-count = let t = tokens-low c in omega arith

  pub all-ordered : (x : ℕ) → c.w.tokens ≤ x → x < top c → In x order
  all-ordered x l h =
      all_come (Names list) list (named_led list) (led_named list) Way (λ a b u. Path⁺.one u)
      (path_on (Names list) Low which long shrink)
      (no_loop (Names list) Low which long shrink never)
      (top c - c.w.tokens) (up_from c.w.tokens (top c - c.w.tokens))
      (let e = up_count c.w.tokens (top c - c.w.tokens) in omega arith)
      x (up_in c.w.tokens (top c - c.w.tokens) x l (let e = left-count in omega arith))

  pub order-once : NoTwice order
  order-once = ordered-once (top c - c.w.tokens) list (up_from c.w.tokens (top c - c.w.tokens)) (up_once c.w.tokens (top c - c.w.tokens))

  -- A unary rule's left side comes before the left side that it names.
  pub order_names : (a b : ℕ) → Names list a b → In b order → Before a b order
  order_names a b u i =
      let f = listed_fair u.rule-there in
      comes_before (Names list) list (named_led list) (led_named list) (top c - c.w.tokens) (up_from c.w.tokens (top c - c.w.tokens)) a b
      (up_in c.w.tokens (top c - c.w.tokens) a f.no_token_lem (let e = left-count in let h = f.left-low in omega arith))
      (ordered_in (top c - c.w.tokens) list (up_from c.w.tokens (top c - c.w.tokens)) i)
      u i

  -- The list has no rule twice, and each of its rules' left sides is in the order; so the blocks have them all.
  pub list_once : NoTwice list
  list_once = listing-once [] parts NoTwice.empty

  pub left-ordered : (q : Rule) → In q list → In q.left order
  left-ordered q i = let f = listed_fair i in all-ordered q.left f.no_token_lem f.left-low

  pub list_count : length (blocks list order) ≡ length list
  list_count = blocks-count list order order-once left-ordered

  -- The grammar has every rule of the list.
  pub list_has : {q : Rule} → In q list → Has file (new c) c.empty q
  list_has {q} i =
      let p = in_at no_rule (blocks_in i (left-ordered q i)) in
      record {
        number = suc p.place;
        says = record {
          there = let h = p.within in omega arith;
          left = ap (λ (r : Rule). r.left) p.is;
          first = ap (λ (r : Rule). r.first) p.is;
          second = ap (λ (r : Rule). r.second) p.is;
        };
      }

  -- Every rule but rule 0 is in the list.
  pub behind-listed : (p : ℕ) → p < length (blocks list order) → In (get_or (blocks list order) p no_rule) list
  behind-listed p h = (in_blocks list order (at_in (blocks list order) p no_rule h)).within

  pub parts_has : Each (Has file (new c) c.empty) parts
  parts_has = in_each parts (λ q i. list_has (listing-has [] i))

  pub split-there : {r a : ℕ} {ω : List ℕ} → Writes c.w r a ω → HasSplit c.w file (new c) c.empty c.keep (new c a) (places c.keep ω)
  split-there {r} {a} {ω} h =
      let s = splits-part (Has file (new c) c.empty) c.keep c.empty (first c) (at_in c.w.rules r no_written h.there) parts_has in
      record {
        next = s.next;
        has = subst (λ (x : ℕ). Each (Has file (new c) c.empty) (split (new c) c.empty (new c x) (places c.keep ω) s.next)) h.left
            (subst (λ (l : List ℕ). Each (Has file (new c) c.empty) (split (new c) c.empty (new c (get_or c.w.rules r no_written).left) (places c.keep l) s.next)) h.right s.each);
      }

  -- S stays.
  pub start-kept : Kept c c.w.start
  start-kept = told (c.keeps c.w.start) c.sound.sentence

  -- Every rule is a derivation of the written grammar: of rule 0, W stands for S and the end mark for nothing.
  end-stands : stands c (top c + 1) ≡ []
  end-stands = get_or-eq_default (meanings c.w c.keep) [] {n = top c + 1} (let m = meanings_count c.w c.keep in omega arith)

  says-sound : (r a b d : ℕ) → Says file r a b d → Becomes c.w (stands c a) (stands c b ++ stands c d)
  says-sound zero a b d s =
      let whole : Becomes c.w (c.w.start ∷ []) (c.w.start ∷ []) = becomes-same (c.w.start ∷ []) in
      let left : stands c a ≡ c.w.start ∷ [] = ap (stands c) (sym s.left) ∙ wrapper-stands c.w c.keep in
      let one : stands c b ≡ c.w.start ∷ [] = ap (stands c) (sym s.first) ∙ stands_for c c.w.start start-kept in
      let two : stands c d ≡ [] = ap (stands c) (sym s.second) ∙ end-stands in
      subst (λ (l : List ℕ). Becomes c.w l (stands c b ++ stands c d)) (sym left) (subst (Becomes c.w (c.w.start ∷ [])) (sym (ap₂ ◌++◌ one two)) whole)
  says-sound (suc p) a b d s =
      let f : Fair c (get_or (blocks list order) p no_rule) = listed_fair (behind-listed p (let h = s.there in omega arith)) in
      subst (λ (l : List ℕ). Becomes c.w l (stands c b ++ stands c d)) (ap (stands c) s.left)
      (subst (Becomes c.w (stands c (get_or (blocks list order) p no_rule).left)) (ap₂ ◌++◌ (ap (stands c) s.first) (ap (stands c) s.second)) f.sound)

  token-stands : (t : ℕ) → t < c.w.tokens → stands c t ≡ t ∷ []
  token-stands t h = ap (stands c) (sym (token-number c t h)) ∙ stands_for c t (token-kept c t h)

  -- SOUND: a sentence of the file is derived by S.
  pub sentence-sound : (u : List ℕ) → Sentence file u → Gives c.w c.w.start u
  sentence-sound u d = record {
    tokens = derives-tokens c.w file (stands c) refl token-stands (nothing_at_none c) says-sound d;
    becomes = subst (λ (l : List ℕ). Becomes c.w l u) (stands_for c c.w.start start-kept)
        (derives-becomes c.w file (stands c) refl token-stands (nothing_at_none c) says-sound d);
  }

  -- COMPLETE: what a symbol that stays derives and is not empty, its number derives.
  pub number-derives : (a : ℕ) (u : List ℕ) → Gives c.w a u → u ≢ [] → Derives file (new c a) u
  number-derives a u p n =
      complete c.w file (new c) c.empty c.keep refl (token-number c) (token-kept c) (number_no_none c)
      (λ x e. told (c.empties x) e)
      (λ x v t m b. told (c.keeps x) (record { string = v; gives = record { tokens = t; becomes = b }; filled = m }))
      (λ r x ω h. split-there h)
      a u p.tokens n p.becomes
