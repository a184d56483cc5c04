-- Rules in bytes and in words, rule by rule.
use mathlib.Core.Path.{◌≡◌, refl, sym, ap, ap₂, subst, ◌∙◌}
use mathlib.Core.List.{List, [], ◌∷◌, ◌++◌}
use native.Mathlib.Numerals.{add-one}
use Prim.Native.Nat.{ℕ, zero, suc, ◌+◌, ◌-◌, ◌*◌, ◌≤◌, ◌<◌}
use native.Mathlib.Omega.{arith}
use native.Mathlib.Decide.{ℕ_discrete, dec_lt}
use lib.ListN.{length, get_or, set, replicate, length-set, length-replicate}
use lib.Seq.{ext_get_or, get_or-set_same, get_or-set_other}
use Rattle.laws.proofs.Lists.{zeros_word}
use Rattle.grammar.specs.Rules.{Rule, Grammar, Says, rule_count, rule_at}
use Rattle.grammar.specs.Accepted.{max_symbols, max_rules}
use Rattle.grammar.specs.File.{u16_at, header_bytes, rule_bytes, rule_count_of, symbols_of, tokens_of, rule_in, rules_from, grammar_of}
use Rattle.grammar.specs.inner.Decoded.{rule_words, left_in, first_in, second_in, rules_behind, rules_in, grammar_in, rules_of, nexts_at, heads_at, all_words, next_in, head_in, Leads, Chained, DecodedRules, Pushed, Links, HoldsRules}
use Rattle.grammar.specs.declared.rules.Rules.{Rules}

-- What stands for a rule past the last one.
abbrev no_rule : Rule
no_rule = record { left = 0; first = 0; second = 0 }

-- Three numbers as a rule.
abbrev pub rule : ℕ → ℕ → ℕ → Rule
rule a b c = record { left = a; first = b; second = c }

rule_eq : {a b c a' b' c' : ℕ} → a ≡ a' → b ≡ b' → c ≡ c' → rule a b c ≡ rule a' b' c'
rule_eq p q r = cc

-- There are as many rules as the count says.
behind-count : (words : List ℕ) (r count : ℕ) → length (rules_behind words r count) ≡ count
unfolding rules_behind
behind-count words r zero = refl
behind-count words r (suc n) = ap suc (behind-count words (r + 1) n)

behind_at : (words : List ℕ) (from count r : ℕ) → r < count → get_or (rules_behind words from count) r no_rule ≡ rule (left_in words (from + r)) (first_in words (from + r)) (second_in words (from + r))
unfolding rules_behind
behind_at words from zero r l = absurd (omega arith)
behind_at words from (suc n) zero l = ap (λ (k : ℕ). rule (left_in words k) (first_in words k) (second_in words k)) (omega arith)
behind_at words from (suc n) (suc r) l =
    behind_at words (from + 1) n r (omega arith)
    ∙ ap (λ (k : ℕ). rule (left_in words k) (first_in words k) (second_in words k)) (omega arith)

from_count : (file : List ℕ) (at count : ℕ) → length (rules_from file at count) ≡ count
unfolding rules_from
from_count file at zero = refl
from_count file at (suc n) = ap suc (from_count file (at + rule_bytes) n)

from_at : (file : List ℕ) (at count r : ℕ) → r < count → get_or (rules_from file at count) r no_rule ≡ rule_in file (at + rule_bytes * r)
unfolding rules_from
from_at file at zero r l = absurd (omega arith)
from_at file at (suc n) zero l = ap (rule_in file) (omega arith)
from_at file at (suc n) (suc r) l = from_at file (at + rule_bytes) n r (omega arith) ∙ ap (rule_in file) (omega arith)

-- The rules of a grammar in words are those words.
pub in_count : (words : List ℕ) (n t count : ℕ) → rule_count (grammar_in words n t count) ≡ count
in_count words n t count = behind-count words 0 count

pub in_rule : (words : List ℕ) (n t count r : ℕ) → r < count → rule_at (grammar_in words n t count) r ≡ rule (left_in words r) (first_in words r) (second_in words r)
in_rule words n t count r l = behind_at words 0 count r l ∙ ap (λ (k : ℕ). rule (left_in words k) (first_in words k) (second_in words k)) (omega arith)

module _ (words : List ℕ) (n t count r : ℕ) (l : r < count) where
  pub in_left : (rule_at (grammar_in words n t count) r).left ≡ left_in words r
  in_left = ap (λ (x : Rule). x.left) (in_rule words n t count r l)

  pub in_first : (rule_at (grammar_in words n t count) r).first ≡ first_in words r
  in_first = ap (λ (x : Rule). x.first) (in_rule words n t count r l)

  pub in_second : (rule_at (grammar_in words n t count) r).second ≡ second_in words r
  in_second = ap (λ (x : Rule). x.second) (in_rule words n t count r l)

  -- Rule `r` says what the words hold.
  pub in_says : Says (grammar_in words n t count) r (left_in words r) (first_in words r) (second_in words r)
  in_says = record { there = subst (λ (k : ℕ). r < k) (sym (in_count words n t count)) l; left = in_left; first = in_first; second = in_second }

-- The words of a rule that says `a ::= b c`.
pub record SaysIn (words : List ℕ) (count r a b c : ℕ) : Type 0 where
  pub there : r < count
  pub left : left_in words r ≡ a
  pub first : first_in words r ≡ b
  pub second : second_in words r ≡ c

pub says_in_lem : (words : List ℕ) (n t count : ℕ) {r a b c : ℕ} → Says (grammar_in words n t count) r a b c → SaysIn words count r a b c
says_in_lem words n t count {r} s = record {
  there = there;
  left = sym (in_left words n t count r there) ∙ s.left;
  first = sym (in_first words n t count r there) ∙ s.first;
  second = sym (in_second words n t count r there) ∙ s.second;
}
  where
    there : r < count
    there = subst (λ (k : ℕ). r < k) (in_count words n t count) s.there

-- The rules of a file stand behind its header.
pub of_count : (file : List ℕ) → rule_count (grammar_of file) ≡ rule_count_of file
of_count file = from_count file header_bytes (rule_count_of file)

pub of_rule : (file : List ℕ) (r : ℕ) → r < rule_count_of file → rule_at (grammar_of file) r ≡ rule_in file (header_bytes + rule_bytes * r)
of_rule file r l = from_at file header_bytes (rule_count_of file) r l

-- The words hold the first `i` rules of the file, and 0 behind them.
pub record Decoding (file : List ℕ) (rules : Rules) (i : ℕ) : Type 0 where
  pub counted : rules.count ≡ i
  pub long : length rules.words ≡ all_words
  pub same : rules_of rules ≡ rules_from file header_bytes i
  pub rest : (k : ℕ) → rule_words * i ≤ k → get_or rules.words k 0 ≡ 0

-- The last of the rules in words, and in a file.
pub behind-last : (words : List ℕ) (r k : ℕ) → rules_behind words r (suc k) ≡ rules_behind words r k ++ rule (left_in words (r + k)) (first_in words (r + k)) (second_in words (r + k)) ∷ []
unfolding rules_behind
behind-last words r zero = ap (λ (n : ℕ). rule (left_in words n) (first_in words n) (second_in words n) ∷ []) (omega arith)
behind-last words r (suc k) =
    ap (λ (l : List Rule). rule (left_in words r) (first_in words r) (second_in words r) ∷ l)
    (behind-last words (r + 1) k ∙ ap (λ (n : ℕ). rules_behind words (r + 1) k ++ rule (left_in words n) (first_in words n) (second_in words n) ∷ []) (omega arith))

from_last : (file : List ℕ) (at k : ℕ) → rules_from file at (suc k) ≡ rules_from file at k ++ rule_in file (at + rule_bytes * k) ∷ []
unfolding rules_from
from_last file at zero = ap (λ (n : ℕ). rule_in file n ∷ []) (omega arith)
from_last file at (suc k) =
    ap (λ (l : List Rule). rule_in file at ∷ l)
    (from_last file (at + rule_bytes) k ∙ ap (λ (n : ℕ). rules_from file (at + rule_bytes) k ++ rule_in file n ∷ []) (omega arith))

-- One more rule, a word after the other.
module _ (words : List ℕ) (n a b c : ℕ) (room : n < max_rules) (long : length words ≡ all_words) where
  abbrev stored : List ℕ
  stored = set (set (set words (rule_words * n) a) (rule_words * n + 1) b) (rule_words * n + 2) c

  -- A word of another rule is kept.
  stored_other : (k : ℕ) → (k ≡ rule_words * n → ⊥) → (k ≡ rule_words * n + 1 → ⊥) → (k ≡ rule_words * n + 2 → ⊥) → get_or stored k 0 ≡ get_or words k 0
  stored_other k x y z =
      get_or-set_other (set (set words (rule_words * n) a) (rule_words * n + 1) b) (rule_words * n + 2) k c 0 z
      ∙ get_or-set_other (set words (rule_words * n) a) (rule_words * n + 1) k b 0 y
      ∙ get_or-set_other words (rule_words * n) k a 0 x

  behind-same : (r k : ℕ) → r + k ≤ n → rules_behind stored r k ≡ rules_behind words r k
  unfolding rules_behind
  behind-same r zero h = refl
  behind-same r (suc k) h =
      ap₂ (λ (q : Rule) (l : List Rule). q ∷ l)
      (rule_eq (stored_other (rule_words * r) (omega arith) (omega arith) (omega arith)) (stored_other (rule_words * r + 1) (omega arith) (omega arith) (omega arith))
      (stored_other (rule_words * r + 2) (omega arith) (omega arith) (omega arith)))
      (behind-same (r + 1) k (omega arith))

  stored-rule : rule (left_in stored n) (first_in stored n) (second_in stored n) ≡ rule a b c
  stored-rule = rule_eq
      (get_or-set_other (set (set words (rule_words * n) a) (rule_words * n + 1) b) (rule_words * n + 2) (rule_words * n) c 0 (omega arith)
      ∙ get_or-set_other (set words (rule_words * n) a) (rule_words * n + 1) (rule_words * n) b 0 (omega arith)
      ∙ get_or-set_same words (rule_words * n) a 0 (omega arith))
      (get_or-set_other (set (set words (rule_words * n) a) (rule_words * n + 1) b) (rule_words * n + 2) (rule_words * n + 1) c 0 (omega arith)
      ∙ get_or-set_same (set words (rule_words * n) a) (rule_words * n + 1) b 0 (simp length-set (omega arith)))
      (get_or-set_same (set (set words (rule_words * n) a) (rule_words * n + 1) b) (rule_words * n + 2) c 0 (simp length-set (omega arith)))

  stored_more : rules_in stored (n + 1) ≡ rules_in words n ++ rule a b c ∷ []
  stored_more =
      ap (rules_in stored) (add-one n) ∙ behind-last stored 0 n
      ∙ ap₂ (λ (l : List Rule) (q : Rule). l ++ q ∷ []) (behind-same 0 n (omega arith))
      (ap (λ (k : ℕ). rule (left_in stored k) (first_in stored k) (second_in stored k)) (omega arith) ∙ stored-rule)

-- Stored behind the others, a rule is pushed.
pub stored-pushed : (r : Rules) (a b c : ℕ) → r.count < max_rules → length r.words ≡ all_words → Pushed r a b c (record { words = set (set (set r.words (rule_words * r.count) a) (rule_words * r.count + 1) b) (rule_words * r.count + 2) c; count = r.count + 1 })
stored-pushed r a b c room long = record {
  counted = refl;
  long = simp length-set long;
  listed = stored_more r.words r.count a b c room long;
  kept = λ i before. stored_other r.words r.count a b c room long i (omega arith) (omega arith) (omega arith);
  rest = λ i behind. stored_other r.words r.count a b c room long i (omega arith) (omega arith) (omega arith);
}

-- Before the first rule all words are 0.
pub none_decoded : (file : List ℕ) (rules : Rules) → rules.words ≡ replicate all_words 0 → rules.count ≡ 0 → Decoding file rules 0
unfolding rules_behind rules_from
none_decoded file rules clear none = record {
  counted = none;
  long = ap length clear ∙ length-replicate {A = ℕ} all_words 0;
  same = ap (rules_in rules.words) none;
  rest = λ k behind. ap (λ (l : List ℕ). get_or l k 0) clear ∙ zeros_word all_words k;
}

-- With the next rule of the file pushed they hold one more.
pub more-decoded : (file : List ℕ) (i a b c : ℕ) (before after : Rules) → Decoding file before i
    → a ≡ u16_at file (header_bytes + rule_bytes * i) → b ≡ u16_at file (header_bytes + rule_bytes * i + 2) → c ≡ u16_at file (header_bytes + rule_bytes * i + 4)
    → Pushed before a b c after → Decoding file after (i + 1)
more-decoded file i a b c before after h ea eb ec p = record {
  counted = p.counted ∙ ap (λ (n : ℕ). n + 1) h.counted;
  long = p.long;
  same = p.listed ∙ ap₂ (λ (l : List Rule) (q : Rule). l ++ q ∷ []) h.same (rule_eq ea eb ec)
      ∙ sym (ap (rules_from file header_bytes) (add-one i) ∙ from_last file header_bytes i);
  rest = λ k behind. p.rest k (omega (arith, p.counted, h.counted)) ∙ h.rest k (omega arith);
}

-- With the chains put in they hold the file's rules still.
pub linked_holds : (file words linked : List ℕ) (count : ℕ) → rule_count_of file ≤ max_rules → count ≡ rule_count_of file → DecodedRules file words → Links count words linked
    → HoldsRules file linked
linked_holds file words linked count few is decoded links = record {
  long = links.long;
  rules = ap (λ (l : List Rule). record { symbols = symbols_of file; tokens = tokens_of file; rules = l }) same ∙ decoded.rules;
  rest = λ i behind before. links.same i before ∙ decoded.rest i behind;
  chained = subst (Chained linked) is links.chained;
  chained_rest = λ r behind there. links.rest r (omega arith) there;
}
  where
    same : rules_in linked (rule_count_of file) ≡ rules_in words (rule_count_of file)
    same =
        ext_get_or no_rule (rules_in linked (rule_count_of file)) (rules_in words (rule_count_of file))
        (behind-count linked 0 (rule_count_of file) ∙ sym (behind-count words 0 (rule_count_of file)))
        (λ r l. one r (omega (arith, behind-count linked 0 (rule_count_of file))))
      where
        one : (r : ℕ) → r < rule_count_of file → get_or (rules_in linked (rule_count_of file)) r no_rule ≡ get_or (rules_in words (rule_count_of file)) r no_rule
        one r l =
            in_rule linked (symbols_of file) (tokens_of file) (rule_count_of file) r l
            ∙ rule_eq (links.same (rule_words * r) (omega arith)) (links.same (rule_words * r + 1) (omega arith)) (links.same (rule_words * r + 2) (omega arith))
            ∙ sym (in_rule words (symbols_of file) (tokens_of file) (rule_count_of file) r l)

-- One word alone leads to a rule, and what leads to it does so wherever the rules begin alike.
module _ (a b : List ℕ) (count from x : ℕ) (alike : (r : ℕ) → r < count → first_in a r ≡ first_in b r) where
  not_less : (v w : ℕ) → Leads a count from x v → Leads b count from x w → v < w → ⊥
  not_less v w leads other less =
      leads.first.none_before (count - w) other.first.from_on (omega (arith, other.few)) (alike (count - w) (omega (arith, other.few)) ∙ other.first.begins (omega (arith, other.few)))

pub leads_agree : (a b : List ℕ) (count from x v w : ℕ) → ((r : ℕ) → r < count → first_in a r ≡ first_in b r) → Leads a count from x v → Leads b count from x w → v ≡ w
leads_agree a b count from x v w alike leads other =
    elim (dec_lt v w) [
      | yes less ↦ absurd (not_less a b count from x alike v w leads other less)
      | no up ↦ elim (dec_lt w v) [
        | yes less ↦ absurd (not_less b a count from x (λ r l. sym (alike r l)) w v other leads less)
        | no same ↦ omega arith
      ]
    ]

-- Words that hold the rules of one file are the same words.
module _ (file a b : List ℕ) (ha : HoldsRules file a) (hb : HoldsRules file b) where
  same-rule : (r : ℕ) → r < rule_count_of file → rule (left_in a r) (first_in a r) (second_in a r) ≡ rule (left_in b r) (first_in b r) (second_in b r)
  same-rule r l =
      sym (in_rule a (symbols_of file) (tokens_of file) (rule_count_of file) r l)
      ∙ ap (λ (g : Grammar). rule_at g r) (ha.rules ∙ sym hb.rules)
      ∙ in_rule b (symbols_of file) (tokens_of file) (rule_count_of file) r l

  same-front : (n : ℕ) → n ≤ rule_count_of file → (i : ℕ) → i < rule_words * n → get_or a i 0 ≡ get_or b i 0
  same-front zero few i l = absurd (omega arith)
  same-front (suc n) few i l =
      elim (ℕ_discrete i (rule_words * n)) [
        | yes e ↦ subst (λ (k : ℕ). get_or a k 0 ≡ get_or b k 0) (sym e) (ap (λ (q : Rule). q.left) (same-rule n (omega arith)))
        | no x ↦ elim (ℕ_discrete i (rule_words * n + 1)) [
          | yes e ↦ subst (λ (k : ℕ). get_or a k 0 ≡ get_or b k 0) (sym e) (ap (λ (q : Rule). q.first) (same-rule n (omega arith)))
          | no y ↦ elim (ℕ_discrete i (rule_words * n + 2)) [
            | yes e ↦ subst (λ (k : ℕ). get_or a k 0 ≡ get_or b k 0) (sym e) (ap (λ (q : Rule). q.second) (same-rule n (omega arith)))
            | no z ↦ same-front n (omega arith) i (omega arith)
          ]
        ]
      ]

  alike : (r : ℕ) → r < rule_count_of file → first_in a r ≡ first_in b r
  alike r l = ap (λ (q : Rule). q.first) (same-rule r l)

  same_next : (r : ℕ) → r < max_rules → next_in a r ≡ next_in b r
  same_next r there =
      elim (dec_lt r (rule_count_of file)) [
        | yes l ↦
            leads_agree a b (rule_count_of file) (r + 1) (first_in a r) (next_in a r) (next_in b r) alike (ha.chained.next r l)
            (subst (λ (x : ℕ). Leads b (rule_count_of file) (r + 1) x (next_in b r)) (sym (alike r l)) (hb.chained.next r l))
        | no behind ↦ ha.chained_rest r (omega arith) there ∙ sym (hb.chained_rest r (omega arith) there)
      ]

  same_head : (x : ℕ) → x < max_symbols → head_in a x ≡ head_in b x
  same_head x there = leads_agree a b (rule_count_of file) 0 x (head_in a x) (head_in b x) alike (ha.chained.head x there) (hb.chained.head x there)

  pub holds_agree : a ≡ b
  holds_agree =
      ext_get_or 0 a b (ha.long ∙ sym hb.long)
      (λ i l. elim (dec_lt i (rule_words * rule_count_of file)) [
        | yes inside ↦ same-front (rule_count_of file) (omega arith) i inside
        | no behind ↦ elim (dec_lt i nexts_at) [
          | yes rest ↦ ha.rest i (omega arith) rest ∙ sym (hb.rest i (omega arith) rest)
          | no nexts ↦ elim (dec_lt i heads_at) [
            | yes next ↦ (let at : nexts_at + (i - nexts_at) ≡ i = omega arith in
                subst (λ (k : ℕ). get_or a k 0 ≡ get_or b k 0) at (same_next (i - nexts_at) (omega arith)))
            | no heads ↦ (let at : heads_at + (i - heads_at) ≡ i = omega arith in
                subst (λ (k : ℕ). get_or a k 0 ≡ get_or b k 0) at (same_head (i - heads_at) (omega (arith, ha.long))))
          ]
        ]
      ])
