-- The answers: which is due, and what is promised of the file.
use Rattle.std.proofs.Common.{◌≡◌, sym, ap, ap₂, subst, ◌∙◌, Bool, true, false, List, [], ◌∷◌, ◌++◌, ℕ, suc, ◌+◌, ◌-◌, ◌*◌, ◌≤◌, ◌<◌, arith, length, take, drop, take_at}
use lib.Seq.{sets, sets-eq}
use Rattle.grammar.specs.Rules.{Rule, Grammar, rule_count}
use Rattle.grammar.specs.Accepted.{max_symbols, max_rules}
use Rattle.grammar.specs.File.{header_bytes, rule_bytes}
use Rattle.grammar.specs.inner.Decoded.{rules_in}
use Rattle.written.specs.Written.{Written, MayBeEmpty}
use Rattle.written.specs.Form.{Formed, written_of, tokens_in, end_in, start_in}
use Rattle.written.specs.Refusals.{Stays, Sound}
use Rattle.written.specs.Split.{rule}
use Rattle.written.specs.Order.{ordered}
use Rattle.written.specs.Translation.{number, all_new, splits, listing, list_of, wrapper_of, blocks, up_from}
use Rattle.written.specs.Bytes.{file_length, bytes_of}
use Rattle.written.specs.Answers.{Tests, translation, Fits, Answer, Translates, Promised}
use Rattle.written.proofs.Filing.{bytes-long}
use Rattle.written.proofs.Knowing.{tokens-low}
use Rattle.written.proofs.Promising.{known, rules-count, promised}
use Rattle.translation.specs.inner.Marks.{marked, MarksAre}
use Rattle.translation.specs.Answers.{Keeps}
use Rattle.translation.proofs.Words.{behind-count}

-- A refusal is not done, and promises nothing of a file.
abbrev IsRefused : Answer → Type 0
IsRefused (Answer.refused n) = Unit
IsRefused (Answer.done l e) = ⊥

pub keeps-refused : (w : Written) (n : ℕ) (after : List ℕ) → Keeps w (Answer.refused n) after
keeps-refused w n after = record { promised = λ l e h. absurd (subst IsRefused h tt) }

-- The start symbol does not stay where it is not marked.
pub start_gone : (w : Written) (keep : List Bool) (x : ℕ) → MarksAre (Stays w) keep → x ≡ w.start → marked keep x ≡ false → Stays w w.start → ⊥
start_gone w keep x m e f = subst (λ (y : ℕ). Stays w y → ⊥) e ((m.right x).if_no f)

pub start-stays : (w : Written) (keep : List Bool) (x : ℕ) → MarksAre (Stays w) keep → x ≡ w.start → marked keep x ≡ true → Stays w w.start
start-stays w keep x m e f = subst (Stays w) e ((m.right x).if_yes f)

module _ (bytes : List ℕ) (f : Formed bytes) (s : Sound (written_of bytes)) (keep empty : List Bool) (stays : MarksAre (Stays (written_of bytes)) keep)
    (empties : MarksAre (MayBeEmpty (written_of bytes)) empty) where
  abbrev w : Written
  w = written_of bytes

  -- The marks are the tests that the translation asks for.
  abbrev tests : Tests w
  tests = record { keep = marked keep; empty = marked empty; keeps = stays.right; empties = empties.right }

  abbrev g : Grammar
  g = translation w tests

  abbrev list : List Rule
  list = list_of w (marked keep) (marked empty)

  not_room : (before : List ℕ) → (Fits g (length before) → ⊥) → Translates bytes before (Answer.refused 21) before × Keeps w (Answer.refused 21) before
  not_room before n = (Translates.no_room f s tests n, keeps-refused w 21 before)

  module _ (before : List ℕ) (first new : ℕ) (ef : first ≡ number (marked keep) (end_in bytes)) (en : new ≡ all_new (marked keep) w.rules) where
    wrapper_is : first + new ≡ wrapper_of w (marked keep)
    wrapper_is = ap₂ ◌+◌ ef en

    -- Too many symbols.
    pub many_symbols : max_symbols < first + new + 2 → Translates bytes before (Answer.refused 21) before × Keeps w (Answer.refused 21) before
    many_symbols h = not_room before (λ fits. let few = fits.few_symbols in let e = wrapper_is in omega arith)

    module _ (few : first + new + 2 ≤ max_symbols) where
      low : g.symbols ≤ max_symbols
      low = let e = wrapper_is in omega arith

      counted : rule_count g ≡ suc (length list)
      counted = rules-count bytes f s tests low

      -- There are few new symbols.
      pub few-new : first + all_new (marked keep) w.rules ≤ 512
      few-new = omega arith

      -- The tokens keep their numbers.
      pub tokens-below : (t : ℕ) → t ≡ tokens_in bytes → t ≤ first + new
      tokens-below t et = let h : w.tokens ≤ number (marked keep) (end_in bytes) = tokens-low (known bytes f s tests low) in omega arith

      -- Too many rules.
      pub many_rules : max_rules ≤ length (listing [] (splits (marked keep) (marked empty) w.rules first)) → Translates bytes before (Answer.refused 21) before × Keeps w (Answer.refused 21) before
      many_rules h = not_room before (λ fits.
          let e = ap (λ (k : ℕ). length (listing [] (splits (marked keep) (marked empty) w.rules k))) ef in
          let r = fits.few_rules in let c = counted in omega arith)

      module _ (words : List ℕ) (n : ℕ) (is-listed : rules_in words n ≡ listing [] (splits (marked keep) (marked empty) w.rules first)) where
        module _ (room : n < max_rules) where
          rules_are : rules_in words n ≡ list
          rules_are = is-listed ∙ ap (λ (k : ℕ). listing [] (splits (marked keep) (marked empty) w.rules k)) ef

          count_is : rule_count g ≡ n + 1
          count_is = let e : length list ≡ n = sym (ap length rules_are) ∙ behind-count words 0 n in let c = counted in omega arith

          -- Too few bytes are lent.
          pub few_bytes : length before < header_bytes + rule_bytes * (n + 1) → Translates bytes before (Answer.refused 21) before × Keeps w (Answer.refused 21) before
          few_bytes h = not_room before (λ fits. let l = fits.lent_enough in let c = count_is in omega arith)

          abbrev ruled : ℕ → List Rule
          ruled t = blocks (rules_in words n) (ordered (first + new - t) (rules_in words n) (up_from t (first + new - t)))

          ruled_is : (t : ℕ) → t ≡ tokens_in bytes → ruled t ≡ blocks list (ordered (wrapper_of w (marked keep) - w.tokens) list (up_from w.tokens (wrapper_of w (marked keep) - w.tokens)))
          ruled_is t et =
              ap (λ (l : List Rule). blocks l (ordered (first + new - t) l (up_from t (first + new - t)))) rules_are
              ∙ ap₂ (λ (a b : ℕ). blocks list (ordered (a - b) list (up_from b (a - b)))) wrapper_is et

          -- All rules of the list are written.
          pub all-written : (t : ℕ) → t ≡ tokens_in bytes → length (ruled t) ≡ n
          all-written t et = let e = ap length (ruled_is t et) in let c = count_is in omega arith

          -- The file is written.
          module _ (t x y : ℕ) (et : t ≡ tokens_in bytes) (ex : x ≡ start_in bytes) (ey : y ≡ number (marked keep) x) (lent : header_bytes + rule_bytes * (n + 1) ≤ length before)
              (after : List ℕ) (is : after ≡ sets before 0 (bytes_of (record { symbols = first + new + 2; tokens = t; rules = rule (first + new) y (first + new + 1) ∷ ruled t }))) where
            same : {a b c d p q : ℕ} {k l : List Rule} → a ≡ b → c ≡ d → p ≡ q → k ≡ l
                → ◌≡◌ {A = Grammar} (record { symbols = a + 2; tokens = c; rules = rule a p (a + 1) ∷ k }) (record { symbols = b + 2; tokens = d; rules = rule b q (b + 1) ∷ l })
            same h i j m = cc

            grammar_is : ◌≡◌ {A = Grammar} (record { symbols = first + new + 2; tokens = t; rules = rule (first + new) y (first + new + 1) ∷ ruled t }) g
            grammar_is = same wrapper_is et (ey ∙ ap (number (marked keep)) ex) (ruled_is t et)

            length_is : file_length g ≡ header_bytes + rule_bytes * (n + 1)
            length_is = ap (λ (k : ℕ). header_bytes + rule_bytes * k) count_is

            fits : Fits g (length before)
            fits = record { few_symbols = low; few_rules = let c = count_is in omega arith; lent_enough = let l = length_is in omega arith }

            after_is : after ≡ bytes_of g ++ drop (file_length g) before
            after_is =
                let enough : 0 + length (bytes_of g) ≤ length before = let b = bytes-long g in let l = length_is in omega arith in
                let whole : 0 + length (bytes_of g) ≡ file_length g = let b = bytes-long g in omega arith in
                is ∙ ap (λ (x : Grammar). sets before 0 (bytes_of x)) grammar_is ∙ sets-eq (bytes_of g) before 0 enough ∙ ap (λ (k : ℕ). bytes_of g ++ drop k before) whole

            abbrev length_in : Answer → ℕ
            length_in (Answer.refused k) = 0
            length_in (Answer.done l e) = l

            pub done : Translates bytes before (Answer.done (header_bytes + rule_bytes * (n + 1)) (marked empty x)) after
                × Keeps w (Answer.done (header_bytes + rule_bytes * (n + 1)) (marked empty x)) after
            done = (
              subst (λ (k : List ℕ). Translates bytes before (Answer.done (header_bytes + rule_bytes * (n + 1)) (marked empty x)) k) (sym after_is)
                  (subst (λ (a : Answer). Translates bytes before a (bytes_of g ++ drop (file_length g) before)) (ap₂ (λ (l b : ℕ). Answer.done l (marked empty b)) length_is (sym ex))
                  (Translates.translates f s tests fits)),
              record {
                promised = λ l e h.
                    let told : l ≡ file_length g = sym (ap length_in h) ∙ sym length_is in
                    let file : take l after ≡ bytes_of g = ap₂ take told after_is ∙ take_at (bytes_of g) (drop (file_length g) before) (file_length g) (bytes-long g) in
                    subst (Promised w) (sym file) (promised bytes f s tests fits);
              },
            )
