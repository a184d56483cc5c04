-- From a filled table to what the call tells.
use Rattle.std.proofs.Common.{◌≡◌, refl, sym, ap, subst, ◌∙◌, Bool, true, false, ◌↔◌, List, [], ◌++◌, ℕ, ◌+◌, ◌-◌, ◌*◌, ◌/◌, ◌%◌, ◌^◌, ◌≤◌, ◌<◌, arith, length, get_or, take, drop, take-append-drop, length-drop, ext_get_or, length-take-le, get_or-take, get_or-drop, pow_pos}
use native.Mathlib.Decide.{ℕ_discrete, dec_lt}
use lib.ListN.{get_or-eq_default}
use lib.Seq.{take-length}
use Rattle.laws.specs.Bits.{word_bits, Holds, holds, row_of}
use Rattle.laws.specs.Decides.{Decides}
use Rattle.laws.specs.Fills.{too_short}
use Rattle.laws.proofs.Bits.{row_ext, holds_true, true_holds}
use Rattle.laws.proofs.Rows.{row_wide, row_word, words_row}
use Rattle.laws.proofs.Decides.{true_false, decide_alike}
use Rattle.laws.proofs.Fills.{SameFill}
use Rattle.grammar.specs.declared.Fault.{Fault}
use Rattle.grammar.specs.declared.Fault.TheVariants.{Malformed, Broken}
use Rattle.grammar.specs.Answers.{Verdict, fault_number}
use Rattle.grammar.specs.Rules.{Grammar, start}
use Rattle.grammar.specs.Accepted.{Accepted}
use Rattle.grammar.specs.Sentences.{Derives, Sentence}
use Rattle.grammar.specs.File as bytes
use Rattle.grammar.specs.File.{grammar_of}
use Rattle.grammar.specs.inner.Decoded.{decoded, first_in, HoldsFile}
use Rattle.grammar.proofs.Decoding.{in_count, in_first}
use Rattle.grammar.proofs.Facts.{sentence-some}
use Rattle.grammar.proofs.Verdicts.{holds-grammar}
use Rattle.grammar.specs.declared.Grammar as Held
use Rattle.plain.specs.Table.{max_tokens, row_words, Stretch, stretch, stretches_up_to, place, needed, TableOf}
use Rattle.plain.specs.Calls.{Ordinary, Settles, Tables, Tells}
use Rattle.plain.specs.Answers.{of_fault, refusal_number, refusal_count}
use Rattle.plain.specs.inner.Filling.{Held, Filling, Given, Kept}
use Rattle.plain.proofs.Standing.{RowOf, row-stretch, place_inside}

-- A row that lies within the first words is a row of these.
front-row : (w end : ℕ) (words : List ℕ) (k : ℕ) → end ≤ length words → w * k + w ≤ end → row_of w (take end words) k ≡ row_of w words k
front-row w end words k room inside =
    ext_get_or 0 (row_of w (take end words) k) (row_of w words k) (here ∙ sym (row_wide w words k (omega arith)))
    (λ i l. row_word w (take end words) k i (omega (arith, here)) ∙ get_or-take end words (w * k + i) 0 (omega (arith, here)) ∙ sym (row_word w words k i (omega (arith, here))))
  where
    here : length (row_of w (take end words) k) ≡ w
    here = row_wide w (take end words) k (omega (arith, length-take-le end words room))

module _ {g : Grammar} {ts before table : List ℕ} (given : Given g ts before) (kept : Kept (length ts) before table)
    (filled : Filling g ts table (stretches_up_to (length ts) (length ts))) where
  room : needed (length ts) ≤ length table
  room = omega (arith, kept.long, given.room.there)

  -- The words in front are the table, ..
  front_table : TableOf g ts (take (needed (length ts)) table)
  front_table = record {
    long = length-take-le (needed (length ts)) table room;
    fits = λ j. elim (dec_lt j (needed (length ts))) [
      | yes l ↦ subst (λ (x : ℕ). x < 2 ^ word_bits) (sym (get_or-take (needed (length ts)) table j 0 l)) (filled.fits j l)
      | no m ↦ subst (λ (x : ℕ). x < 2 ^ word_bits) (sym (get_or-eq_default (take (needed (length ts)) table) 0 {n = j} (omega (arith, length-take-le (needed (length ts)) table room)))) (pow_pos word_bits)
    ];
    exact = λ l i x s.
        subst (λ (row : List ℕ). Holds row x ↔ Derives g x (stretch ts l i))
        (sym (front-row row_words (needed (length ts)) table (place (length ts) l i) room (omega (arith, place_inside (length ts) l i s))))
        (filled.settled l i x s (place_inside (length ts) l i s));
  }

  -- .. and those behind it are as they were.
  behind-same : drop (needed (length ts)) table ≡ drop (needed (length ts)) before
  behind-same =
      ext_get_or 0 (drop (needed (length ts)) table) (drop (needed (length ts)) before)
      (length-drop (needed (length ts)) table ∙ ap (λ (m : ℕ). m - needed (length ts)) kept.long ∙ sym (length-drop (needed (length ts)) before))
      (λ i l. get_or-drop (needed (length ts)) table i 0 ∙ kept.behind (needed (length ts) + i) (omega arith) ∙ sym (get_or-drop (needed (length ts)) before i 0))

  -- THE TABLE STANDS IN FRONT.
  pub filled_settles : Settles g ts before 0 (needed (length ts)) table
  filled_settles =
      subst (Settles g ts before 0 (needed (length ts))) (ap (λ (l : List ℕ). take (needed (length ts)) table ++ l) (sym behind-same) ∙ take-append-drop (needed (length ts)) table)
      (Settles.done given.ordinary given.room.few given.room.there front_table)

  -- YES EXACTLY ON SENTENCES.
  pub filled-tells : (says : Bool) (k x : ℕ) → 0 < length ts → k ≡ place (length ts) (length ts) 0 → x ≡ start g → holds (row_of row_words table k) x ≡ says → Tells g ts 0 says
  filled-tells says k x some at is told = record { sentence = λ e. (to, from); refused = λ no_zero. absurd (no_zero refl) }
    where
      whole : Stretch (length ts) (length ts) 0
      whole = record { some = some; inside = omega arith }

      exact : Held table (length ts) (length ts) 0 (start g) ↔ Derives g (start g) (stretch ts (length ts) 0)
      exact = filled.settled (length ts) 0 (start g) whole (place_inside (length ts) (length ts) 0 whole)

      said : holds (row_of row_words table (place (length ts) (length ts) 0)) (start g) ≡ says
      said = sym (ap (λ (q : ℕ). holds (row_of row_words table q) (start g)) at) ∙ sym (ap (λ (y : ℕ). holds (row_of row_words table k) y) is) ∙ told

      to : says ≡ true → Sentence g ts
      to e = subst (Derives g (start g)) (take-length ts) (exact.0 (holds_true _ (start g) (said ∙ e)))

      from : Sentence g ts → says ≡ true
      from d = sym said ∙ true_holds _ (start g) (exact.1 (subst (Derives g (start g)) (sym (take-length ts)) d))

-- Of no tokens the table is empty, and they are no sentence.
nothing-needed : (ts : List ℕ) → length ts ≡ 0 → needed (length ts) ≡ 0
unfolding stretches_up_to
nothing-needed ts none = ap needed none

pub empty_settles : {g : Grammar} {ts before : List ℕ} → length ts ≡ 0 → Settles g ts before 0 0 before
empty_settles {g} {ts} {before} none =
    subst (λ (m : ℕ). Settles g ts before 0 m (drop m before)) (nothing-needed ts none)
    (Settles.done {words = []} (record { below = λ i l. absurd (omega arith) }) (omega arith) (omega (arith, nothing-needed ts none))
    (record { long = sym (nothing-needed ts none); fits = λ j. pow_pos word_bits; exact = λ l i x s. absurd (omega (arith, s.some, s.inside)) }))

pub empty-tells : {g : Grammar} {ts : List ℕ} → length ts ≡ 0 → Tells g ts 0 false
empty-tells {g} {ts} none = record { sentence = λ e. ((λ so. absurd (true_false (sym so))), (λ d. absurd (omega (arith, sentence-some g ts d)))); refused = λ no_zero. refl }

-- The whole is a stretch where there are tokens.
pub whole-stretch : {n : ℕ} → (n ≡ 0 → ⊥) → Stretch n n 0
whole-stretch some = record { some = omega arith; inside = omega arith }

-- The slice is too short, as the count told.
pub short_settles : {g : Grammar} {ts before : List ℕ} {k : ℕ} → k ≡ stretches_up_to (length ts) (length ts) → Ordinary g.tokens ts → length ts ≤ max_tokens → length before < row_words * k
    → Settles g ts before too_short (row_words * k) before
short_settles {g} {ts} {before} {k} e ordinary few short =
    subst (λ (m : ℕ). Settles g ts before too_short (row_words * m) before) (sym e)
    (Settles.short ordinary few (subst (λ (m : ℕ). length before < row_words * m) e short))

-- It is long enough.
pub enough : {g : Grammar} {ts before : List ℕ} {k : ℕ} → Accepted g → k ≡ stretches_up_to (length ts) (length ts) → Ordinary g.tokens ts → length ts ≤ max_tokens → row_words * k ≤ length before
    → Given g ts before
enough {ts = ts} {before} {k} accepted e ordinary few long =
    record { accepted = accepted; ordinary = ordinary; room = record { few = few; there = subst (λ (m : ℕ). row_words * m ≤ length before) e long } }

-- Filled, with the count told.
pub done_settles : {g : Grammar} {ts before table : List ℕ} {k : ℕ} → k ≡ stretches_up_to (length ts) (length ts) → Given g ts before → Kept (length ts) before table
    → Filling g ts table (stretches_up_to (length ts) (length ts)) → Settles g ts before 0 (row_words * k) table
done_settles {g} {ts} {before} {table} {k} e given kept filled = subst (λ (m : ℕ). Settles g ts before 0 (row_words * m) table) (sym e) (filled_settles given kept filled)

-- A fault of the file settles nothing.
pub refused-table : {file ts before : List ℕ} (fault : Fault) → Verdict file (fault_number fault)
    → Tables file ts before (refusal_number (of_fault fault)) (refusal_count (of_fault fault)) before
refused-table Malformed verdict = Tables.malformed (verdict.one refl)
refused-table Broken verdict = Tables.broken (λ m. omega (arith, verdict.always_one m)) (verdict.two refl)

-- The tokens have one table.
pub one_table : (g : Grammar) (ts a b : List ℕ) → TableOf g ts a → TableOf g ts b → a ≡ b
one_table g ts a b ta tb = ext_get_or 0 a b (ta.long ∙ sym tb.long) (λ j l. word j (omega (arith, ta.long)))
  where
    row : (k : ℕ) → k < stretches_up_to (length ts) (length ts) → row_of row_words a k ≡ row_of row_words b k
    row k l =
        let s : RowOf (length ts) k = row-stretch (length ts) k l in
        let ea : (x : ℕ) → Holds (row_of row_words a k) x ↔ Derives g x (stretch ts s.l s.i) = λ x. subst (λ (q : ℕ). Holds (row_of row_words a q) x ↔ Derives g x (stretch ts s.l s.i)) s.is_row (ta.exact s.l s.i x s.is_stretch) in
        let eb : (x : ℕ) → Holds (row_of row_words b k) x ↔ Derives g x (stretch ts s.l s.i) = λ x. subst (λ (q : ℕ). Holds (row_of row_words b q) x ↔ Derives g x (stretch ts s.l s.i)) s.is_row (tb.exact s.l s.i x s.is_stretch) in
        row_ext row_words (row_of row_words a k) (row_of row_words b k)
        (words_row row_words a k (omega (arith, ta.long)) ta.fits) (words_row row_words b k (omega (arith, tb.long)) tb.fits)
        (λ x held. (eb x).1 ((ea x).0 held)) (λ x held. (ea x).1 ((eb x).0 held))

    word : (j : ℕ) → j < needed (length ts) → get_or a j 0 ≡ get_or b j 0
    word j l =
        let e : row_words * (j / row_words) + j % row_words ≡ j = omega arith in
        ap (λ (q : ℕ). get_or a q 0) (sym e) ∙ sym (row_word row_words a (j / row_words) (j % row_words) (omega arith))
        ∙ ap (λ (r : List ℕ). get_or r (j % row_words) 0) (row (j / row_words) (omega arith))
        ∙ row_word row_words b (j / row_words) (j % row_words) (omega arith) ∙ ap (λ (q : ℕ). get_or b q 0) e

-- TWO RESULTS THAT MEET THE STATEMENT AGREE: number, count and every word, ..
settles_agree : {g : Grammar} {ts before : List ℕ} {n c : ℕ} {out : List ℕ} {m d : ℕ} {other : List ℕ} → Settles g ts before n c out → Settles g ts before m d other → SameFill n c out m d other
settles_agree (Settles.no_token_lem a) (Settles.no_token_lem b) = record { number = refl; count = refl; place = refl }
settles_agree (Settles.no_token_lem a) (Settles.too_many o f) = absurd (a o)
settles_agree (Settles.no_token_lem a) (Settles.short o f r) = absurd (a o)
settles_agree (Settles.no_token_lem a) (Settles.done o f r t) = absurd (a o)
settles_agree (Settles.too_many o f) (Settles.no_token_lem b) = absurd (b o)
settles_agree (Settles.too_many o f) (Settles.too_many p h) = record { number = refl; count = refl; place = refl }
settles_agree (Settles.too_many o f) (Settles.short p h r) = absurd (omega arith)
settles_agree (Settles.too_many o f) (Settles.done p h r t) = absurd (omega arith)
settles_agree (Settles.short o f r) (Settles.no_token_lem b) = absurd (b o)
settles_agree (Settles.short o f r) (Settles.too_many p h) = absurd (omega arith)
settles_agree (Settles.short o f r) (Settles.short p h q) = record { number = refl; count = refl; place = refl }
settles_agree (Settles.short o f r) (Settles.done p h q t) = absurd (omega arith)
settles_agree (Settles.done o f r t) (Settles.no_token_lem b) = absurd (b o)
settles_agree (Settles.done o f r t) (Settles.too_many p h) = absurd (omega arith)
settles_agree (Settles.done o f r t) (Settles.short p h q) = absurd (omega arith)
settles_agree {g} {ts} {before} (Settles.done o f r t) (Settles.done p h q u) =
    record { number = refl; count = refl; place = ap (λ (w : List ℕ). w ++ drop (needed (length ts)) before) (one_table g ts _ _ t u) }

pub tables_agree : {file ts before : List ℕ} {n c : ℕ} {out : List ℕ} {m d : ℕ} {other : List ℕ} → Tables file ts before n c out → Tables file ts before m d other → SameFill n c out m d other
tables_agree (Tables.malformed a) (Tables.malformed b) = record { number = refl; count = refl; place = refl }
tables_agree (Tables.malformed a) (Tables.broken w k) = absurd (w a)
tables_agree (Tables.malformed a) (Tables.accepted w k s) = absurd (w a)
tables_agree (Tables.broken w k) (Tables.malformed b) = absurd (w b)
tables_agree (Tables.broken w k) (Tables.broken v h) = record { number = refl; count = refl; place = refl }
tables_agree (Tables.broken w k) (Tables.accepted v h s) = absurd (k h)
tables_agree (Tables.accepted w k s) (Tables.malformed b) = absurd (w b)
tables_agree (Tables.accepted w k s) (Tables.broken v h) = absurd (h k)
tables_agree (Tables.accepted w k s) (Tables.accepted v h t) = settles_agree s t

-- .. and the yes or no.
pub tells_agree : {g : Grammar} {ts : List ℕ} {n : ℕ} {a b : Bool} → Tells g ts n a → Tells g ts n b → a ≡ b
tells_agree {g} {ts} {n} {a} {b} s t = elim (ℕ_discrete n 0) [
  | yes e ↦ decide_alike (decides a (s.sentence e)) (decides b (t.sentence e))
  | no e ↦ s.refused e ∙ sym (t.refused e)
]
  where
    decides : (c : Bool) → (c ≡ true) ↔ Sentence g ts → Decides c (Sentence g ts)
    decides c h = record { if_yes = h.0; if_no = λ e d. true_false (sym (h.1 d) ∙ e) }

-- What the grammar of a file settles and tells the file does.
pub decoded_answers : {file : List ℕ} {held : Held.Grammar} → HoldsFile file held
    → {ts before left : List ℕ} {number count : ℕ} {says : Bool} → (bytes.Malformed file → ⊥) → Accepted (grammar_of file)
    → Settles (decoded held) ts before number count left × Tells (decoded held) ts number says
    → Tables file ts before number count left × Tells (grammar_of file) ts number says
decoded_answers {file} {held} holds {ts} {before} {left} {number} {count} {says} whole accepted both = (
  Tables.accepted whole accepted (subst (λ (g : Grammar). Settles g ts before number count left) (holds-grammar file held holds) both.0),
  subst (λ (g : Grammar). Tells g ts number says) (holds-grammar file held holds) both.1,
)

-- S, as the words of rule 0 have it.
module _ (held : Held.Grammar) {x : ℕ} (accepted : Accepted (decoded held)) (is : x ≡ first_in held.rules.words 0) where
  some-rule : 0 < held.rules.count
  some-rule = omega (arith, accepted.a_rule, in_count held.rules.words held.symbols held.tokens held.rules.count)

  pub start_is : x ≡ start (decoded held)
  start_is = is ∙ sym (in_first held.rules.words held.symbols held.tokens held.rules.count 0 some-rule)

  pub start-narrow : x < word_bits * row_words
  start-narrow = omega (arith, start_is, accepted.starts.no_wrapper, accepted.few_symbols)
