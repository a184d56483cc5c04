-- The verdict on a file, case by case.
use mathlib.Core.Path.{◌≡◌, refl, sym, ap, subst, subst⁻¹, ◌∙◌}
use mathlib.Core.List.{List}
use Prim.Native.Nat.{ℕ, ◌+◌, ◌*◌, ◌≤◌}
use native.Mathlib.Omega.{arith}
use native.Mathlib.Decide.{ℕ_discrete}
use lib.ListN.{length}
use Rattle.grammar.specs.Accepted.{Accepted, max_rules}
use Rattle.grammar.specs.inner.Decoded.{grammar_in, decoded, HoldsFile, Decodes}
use Rattle.grammar.specs.File as bytes
use Rattle.grammar.specs.File.{grammar_of, symbols_of, tokens_of, rule_count_of, header_bytes, rule_bytes}
use Rattle.grammar.specs.inner.Checking.{Sized}
use Rattle.grammar.specs.Answers.{Verdict, number_of}
use Rattle.grammar.specs.declared.Fault.{Fault}
use Rattle.grammar.specs.declared.Fault.TheVariants.{Malformed, Broken}
use Rattle.grammar.specs.declared.Grammar as held
use Rattle.std.specs.Prelude.{Result, Ok, Err}
use Rattle.grammar.proofs.Decoding.{of_count, holds_agree}
use Rattle.grammar.proofs.Judging.{Formed, formed, accepted_sized}

module _ (file : List ℕ) where
  -- 2: not malformed, and not accepted.
  pub verdict_two : (bytes.Malformed file → ⊥) → (Accepted (grammar_of file) → ⊥) → Verdict file 2
  verdict_two n k = record {
    one = λ e. absurd (omega arith);
    always_one = λ m. absurd (n m);
    two = λ e. k;
    always_two = λ x y. refl;
    zero = λ e. absurd (omega arith);
    always_zero = λ x a. absurd (k a);
  }

  -- The numbers of an accepted file are sized.
  pub file_sized : Accepted (grammar_of file) → Sized (symbols_of file) (tokens_of file) (rule_count_of file)
  file_sized h = subst (λ (k : ℕ). Sized (symbols_of file) (tokens_of file) k) (of_count file) (accepted_sized (grammar_of file) h)

  -- A file that is not malformed and has few enough rules can be decoded.
  pub readable : (bytes.Malformed file → ⊥) → rule_count_of file ≤ max_rules → (header_bytes + rule_bytes * rule_count_of file ≤ length file) × (rule_count_of file ≤ max_rules)
  readable n l = let f : Formed file = formed file n in (omega (arith, f.told_length, f.real_length), l)

  -- So can one that is accepted.
  pub accepted_readable : (bytes.Malformed file → ⊥) → Accepted (grammar_of file) → (header_bytes + rule_bytes * rule_count_of file ≤ length file) × (rule_count_of file ≤ max_rules)
  accepted_readable n h = readable n (file_sized h).few_rules

  -- The numbers as they were read.
  pub record Numbers (n t count : ℕ) : Type 0 where
    pub symbols : n ≡ symbols_of file
    pub tokens : t ≡ tokens_of file
    pub rules : count ≡ rule_count_of file

  -- What the numbers lack the grammar lacks.
  pub not_sized : (n t count : ℕ) → Numbers n t count → (Sized n t count → ⊥) → Accepted (grammar_of file) → ⊥
  not_sized n t count e k h = k (record {
    a_token = omega (arith, file_sized h, e);
    room = omega (arith, file_sized h, e);
    few_symbols = omega (arith, file_sized h, e);
    a_rule = omega (arith, file_sized h, e);
    few_rules = omega (arith, file_sized h, e);
  })

  -- The grammar in the words is that of the file.
  pub read_grammar : (n t count : ℕ) (words : List ℕ) → Numbers n t count → grammar_in words (symbols_of file) (tokens_of file) (rule_count_of file) ≡ grammar_of file
      → grammar_in words n t count ≡ grammar_of file
  read_grammar n t count words e d =
      ap (λ (k : ℕ). grammar_in words k t count) e.symbols
      ∙ ap (λ (k : ℕ). grammar_in words (symbols_of file) k count) e.tokens
      ∙ ap (grammar_in words (symbols_of file) (tokens_of file)) e.rules
      ∙ d

-- Two numbers that are right are the same, whatever number a call could have answered.
pub verdict_number : (file : List ℕ) (n m : ℕ) → Verdict file n → Verdict file m → n ≡ m
verdict_number file n m v w =
    elim (ℕ_discrete n 1) [
      | yes one ↦ one ∙ sym (w.always_one (v.one one))
      | no not-one ↦ elim (ℕ_discrete n 2) [
        | yes two ↦ two ∙ sym (w.always_two (λ bad. not-one (v.always_one bad)) (v.two two))
        | no not-two ↦ elim (ℕ_discrete n 0) [
          | yes zero ↦ zero ∙ sym (w.always_zero (λ bad. not-one (v.always_one bad)) (v.zero zero))
          | no not-zero ↦ absurd (not-two (v.always_two (λ bad. not-one (v.always_one bad)) (λ good. not-zero (v.always_zero (λ bad. not-one (v.always_one bad)) good))))
        ]
      ]
    ]

-- Two answers that are right are the same.
pub verdict_unique : (file : List ℕ) (a b : Result (Unit {0}) Fault) → Verdict file (number_of a) → Verdict file (number_of b) → a ≡ b
verdict_unique file (Ok _) (Ok _) v w = refl
verdict_unique file (Err Malformed) (Err Malformed) v w = refl
verdict_unique file (Err Broken) (Err Broken) v w = refl
verdict_unique file (Ok _) (Err Malformed) v w = absurd (omega (arith, v.always_one (w.one refl)))
verdict_unique file (Ok _) (Err Broken) v w = absurd (w.two refl (v.zero refl))
verdict_unique file (Err Malformed) (Ok _) v w = absurd (omega (arith, w.always_one (v.one refl)))
verdict_unique file (Err Malformed) (Err Broken) v w = absurd (omega (arith, w.always_one (v.one refl)))
verdict_unique file (Err Broken) (Ok _) v w = absurd (v.two refl (w.zero refl))
verdict_unique file (Err Broken) (Err Malformed) v w = absurd (omega (arith, v.always_one (w.one refl)))

-- and two grammars that a check leaves.
pub decodes_agree : (file : List ℕ) (number : ℕ) (before a b : held.Grammar) → Decodes file number before a → Decodes file number before b → a ≡ b
decodes_agree file number before a b da db =
    elim (ℕ_discrete number 0) [
      | yes zero ↦ same (da.accepted zero) (db.accepted zero)
      | no other ↦ da.refused other ∙ sym (db.refused other)
    ]
  where
    same : HoldsFile file a → HoldsFile file b → a ≡ b
    same ha hb = parts (holds_agree file a.rules.words b.rules.words ha.words hb.words) (ha.count ∙ sym hb.count) (ha.symbols ∙ sym hb.symbols) (ha.tokens ∙ sym hb.tokens)
      where
        parts : a.rules.words ≡ b.rules.words → a.rules.count ≡ b.rules.count → a.symbols ≡ b.symbols → a.tokens ≡ b.tokens → a ≡ b
        parts p q r s =
            ap (λ (k : List ℕ). record { rules = record { words = k; count = a.rules.count }; symbols = a.symbols; tokens = a.tokens }) p
            ∙ ap (λ (k : ℕ). record { rules = record { words = b.rules.words; count = k }; symbols = a.symbols; tokens = a.tokens }) q
            ∙ ap (λ (k : ℕ). record { rules = b.rules; symbols = k; tokens = a.tokens }) r
            ∙ ap (λ (k : ℕ). record { rules = b.rules; symbols = b.symbols; tokens = k }) s

-- What a caller knows of a file that the check has accepted: enough to read its numbers and to decode its rules.
pub record AcceptedFile (file : List ℕ) : Type 0 where
  pub formed : bytes.Malformed file → ⊥
  pub accepted : Accepted (grammar_of file)
  pub header : header_bytes ≤ length file
  pub whole : header_bytes + rule_bytes * rule_count_of file ≤ length file
  pub few_rules : rule_count_of file ≤ max_rules

pub accepted-file : (file : List ℕ) (a : Result (Unit {0}) Fault) → Verdict file (number_of a) → number_of a ≡ 0 → AcceptedFile file
accepted-file file a v number = record {
  formed = not_malformed;
  accepted = yes-accepted;
  header = (formed file not_malformed).header;
  whole = (accepted_readable file not_malformed yes-accepted).0;
  few_rules = (accepted_readable file not_malformed yes-accepted).1;
}
  where
    not_malformed : bytes.Malformed file → ⊥
    not_malformed m = omega (arith, number, v.always_one m)

    yes-accepted : Accepted (grammar_of file)
    yes-accepted = v.zero number

-- A grammar that holds a file is the file's, and is accepted with it.
pub holds-grammar : (file : List ℕ) (g : held.Grammar) → HoldsFile file g → decoded g ≡ grammar_of file
holds-grammar file g h =
    read_grammar file g.symbols g.tokens g.rules.count g.rules.words (record { symbols = h.symbols; tokens = h.tokens; rules = h.count }) h.words.rules

pub holds-accepted : (file : List ℕ) (g : held.Grammar) → AcceptedFile file → HoldsFile file g → Accepted (decoded g)
holds-accepted file g a h = subst⁻¹ Accepted (holds-grammar file g h) a.accepted
