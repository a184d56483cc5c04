-- What is promised of a file holds; and the answer, with what it leaves, is the only one.
use mathlib.Core.Path.{◌≡◌, sym, ap, subst}
use mathlib.Core.Bool.{Bool}
use mathlib.Core.List.{List, [], ◌∷◌}
use Prim.Native.Nat.{ℕ, suc, ◌+◌, ◌*◌, ◌≤◌}
use native.Mathlib.Omega.{arith}
use lib.ListN.{length, length-append}
use Rattle.grammar.specs.Rules.{Grammar, rule_count}
use Rattle.grammar.specs.Sentences.{Sentence}
use Rattle.grammar.specs.Accepted.{Accepted}
use Rattle.written.specs.Written.{WrittenRule, Written, symbol_count}
use Rattle.written.specs.Form.{Formed, written_of}
use Rattle.written.specs.Refusals.{Sound}
use Rattle.written.specs.Split.{split}
use Rattle.written.specs.Translation.{number, places, new_symbols, all_new, splits, list_of}
use Rattle.written.specs.Bytes.{bytes_of}
use Rattle.written.specs.Answers.{Tests, translation, Fits, all_places, past_second, Promised}
use Rattle.written.proofs.Keeping.{derives-some}
use Rattle.written.proofs.Numbers.{number-few, places-few}
use Rattle.written.proofs.Standing.{few_rules}
use Rattle.written.proofs.Listing.{listing-few}
use Rattle.written.proofs.Knowing.{Known}
use Rattle.written.proofs.Translating.{list_count, sentence-sound, number-derives}
use Rattle.written.proofs.Passing.{passes}
use Rattle.written.proofs.Filing.{bytes_grammar, bytes-formed}
use Rattle.written.proofs.Forms.{formed_lawful}

-- At most one new symbol for each place past the second, rule by rule.
pub few-new_symbols : (keep : ℕ → Bool) (rules : List WrittenRule) → all_new keep rules ≤ past_second rules
unfolding all_new past_second
few-new_symbols keep [] = omega arith
few-new_symbols keep (r ∷ rules) = let h = few-new_symbols keep rules in let p = places-few keep r.right in omega arith

-- At most three rules for each place.
few-split : (new : ℕ → ℕ) (empty : ℕ → Bool) (a : ℕ) (l : List ℕ) (next : ℕ) → length (split new empty a l next) ≤ 3 * length l
unfolding split
few-split new empty a [] next = omega arith
few-split new empty a (x ∷ []) next = omega arith
few-split new empty a (x ∷ y ∷ l) next = let h = few_rules new empty a (new x) (empty x) (y ∷ l) next in omega arith

pub few-splits : (keep empty : ℕ → Bool) (rules : List WrittenRule) (next : ℕ) → length (splits keep empty rules next) ≤ 3 * all_places rules
unfolding splits all_places
few-splits keep empty [] next = omega arith
few-splits keep empty (r ∷ rules) next =
    let l : List ℕ = places keep r.right in
    let one = few-split (number keep) empty (number keep r.left) l next in
    let p = places-few keep r.right in
    let rest = few-splits keep empty rules (next + new_symbols l) in
    omega (arith, length-append (split (number keep) empty (number keep r.left) l next) (splits keep empty rules (next + new_symbols l)))

module _ (bytes : List ℕ) (f : Formed bytes) (s : Sound (written_of bytes)) (t : Tests (written_of bytes)) where
  abbrev w : Written
  w = written_of bytes

  -- All that is known where the file has not too many symbols.
  abbrev pub known : (translation w t).symbols ≤ 512 → Known
  known few = record {
    w = w;
    lawful = formed_lawful bytes f;
    sound = s;
    keep = t.keep;
    empty = t.empty;
    keeps = t.keeps;
    empties = t.empties;
    few = few;
  }

  -- There are as many rules as the list has, and rule 0.
  pub rules-count : (translation w t).symbols ≤ 512 → rule_count (translation w t) ≡ suc (length (list_of w t.keep t.empty))
  rules-count few = ap suc (list_count (known few))

  -- The promises.
  pub promised : {lent : ℕ} → Fits (translation w t) lent → Promised w (bytes_of (translation w t))
  promised fits = record {
    well_formed = bytes-formed g;
    accepted = subst Accepted (sym (bytes_grammar g)) (passes c fits.few_rules);
    sound = λ u h. sentence-sound c u (subst (λ (x : Grammar). Sentence x u) (bytes_grammar g) h);
    filled = λ u h. derives-some h;
    complete = λ u p n. subst (λ (x : Grammar). Sentence x u) (sym (bytes_grammar g)) (number-derives c w.start u p n);
    few_symbols = subst (λ (x : Grammar). x.symbols ≤ symbol_count w + past_second w.rules + 2) (sym (bytes_grammar g)) symbols;
    few_rules = subst (λ (x : Grammar). rule_count x ≤ 1 + 3 * all_places w.rules) (sym (bytes_grammar g)) rules;
  }
    where
      g : Grammar
      g = translation w t

      c : Known
      c = known fits.few_symbols

      symbols : g.symbols ≤ symbol_count w + past_second w.rules + 2
      symbols = let n = number-few t.keep (symbol_count w) in let m = few-new_symbols t.keep w.rules in omega arith

      rules : rule_count g ≤ 1 + 3 * all_places w.rules
      rules =
          let e = rules-count fits.few_symbols in
          let a = listing-few [] (splits t.keep t.empty w.rules (number t.keep (symbol_count w))) in
          let b = few-splits t.keep t.empty w.rules (number t.keep (symbol_count w)) in
          omega arith
