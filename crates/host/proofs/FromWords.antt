-- The plain words of the latest set are its records, and records are put into a place one after the other.
use Rattle.std.proofs.Common.{◌≡◌, refl, sym, ap, ap₂, subst, ◌∙◌, List, [], ◌∷◌, ◌++◌, ℕ, zero, suc, ◌+◌, ◌-◌, ◌*◌, ◌/◌, ◌≤◌, ◌<◌, arith, add-one, length, get_or, set, take, drop, length-append, drop-cons, take-suc, Err}
use lib.Seq.{append_snoc, set_at, take-length}
use Rattle.laws.specs.Records.{flat}
use Rattle.laws.specs.Fills.{too_short}
use Rattle.laws.specs.Fills.Fills.{refused, short, done}
use Rattle.laws.proofs.Records.{flat-length, flat_at}
use Rattle.item.specs.Item.{Item}
use Rattle.grammar.specs.Rules.{Rule, Grammar}
use Rattle.parse.specs.declared.State.{State}
use Rattle.parse.specs.Words.{Words, within, start_of}
use Rattle.parse.proofs.Capacities.{items-room}
use Rattle.advance.proofs.Placed.{no_item, items-count}
use Rattle.demands.specs.Calls.{Formed}
use Rattle.demands.proofs.Singles.{call_some}
use Rattle.recognizer.proofs.Answered.{number-some}
use Rattle.reports.specs.declared.Record.{Record}
use Rattle.reports.specs.declared.Unfilled.{Unfilled}
use Rattle.reports.specs.declared.Unfilled.TheVariants.{TooShort, Refused}
use Rattle.reports.specs.Answers.{filled_number, filled_count}
use Rattle.reports.specs.Lists.{Lists, latest_items, five_words, latest_words, record_of, records_of, latest_records}
use Rattle.reports.specs.Lists.Reported.{formed}
use Rattle.host.specs.inner.Records.{record_words, set_words, record_at, records_in, filled, Prepared}

-- ---- a place that is filled
-- There are as many.
records_length : (words : List ℕ) (n : ℕ) → length (records_in words n) ≡ n
unfolding records_in
records_length words zero = refl
records_length words (suc n) =
    let rest : length (records_in words n) ≡ n = records_length words n in
    omega (arith, length-append (records_in words n) (record_at words n ∷ []), rest)

-- At first nothing is put.
pub none_filled : (words : List ℕ) (place : List Record) → filled words 0 place ≡ place
unfolding records_in
none_filled words place = refl

-- One record more is put.
pub filled_more : (words : List ℕ) (i : ℕ) (place : List Record) (r : Record) → i < length place → r ≡ record_at words i
    → set (filled words i place) i r ≡ filled words (i + 1) place
unfolding records_in
filled_more words i place r l e =
    ap (λ (rest : List Record). set (records_in words i ++ rest) i r) (drop-cons place i r l)
    ∙ set_at (records_in words i) (get_or place i r) (drop (suc i) place) r i (records_length words i)
    ∙ sym (append_snoc (records_in words i) r (drop (suc i) place))
    ∙ ap (λ (s : Record). (records_in words i ++ (s ∷ [])) ++ drop (suc i) place) e
    ∙ sym (ap (λ (n : ℕ). filled words n place) (add-one i))

-- ---- records laid flat
module _ (rs : List Rule) where
  abbrev wide : (i : Item) → length (five_words rs i) ≡ record_words
  wide i = refl

  -- The record at place p of the items' words is the item's.
  record_told : (is : List Item) (rest : List ℕ) (p : ℕ) → p < length is → record_at (flat (five_words rs) is ++ rest) p ≡ record_of rs (get_or is p no_item)
  record_told is rest p l =
      let word : (k : ℕ) → k < record_words → get_or (flat (five_words rs) is ++ rest) (record_words * p + k) 0 ≡ get_or (five_words rs (get_or is p no_item)) k 0 =
      λ k h. flat_at (five_words rs) record_words wide is rest p k no_item l h in
      let first : record_words * p ≡ record_words * p + 0 = omega arith in
      λ j. record {
        rule = (ap (λ (k : ℕ). get_or (flat (five_words rs) is ++ rest) k 0) first ∙ word 0 (omega arith)) j;
        left = word 1 (omega arith) j;
        first = word 2 (omega arith) j;
        second = word 3 (omega arith) j;
        origin = word 4 (omega arith) j;
      }

  records_append : (is js : List Item) → records_of rs (is ++ js) ≡ records_of rs is ++ records_of rs js
  unfolding records_of
  records_append [] js = refl
  records_append (i ∷ is) js = ap (λ (l : List Record). record_of rs i ∷ l) (records_append is js)

  -- As many records as items.
  records_count : (is : List Item) → length (records_of rs is) ≡ length is
  unfolding records_of
  records_count [] = refl
  records_count (i ∷ is) = ap suc (records_count is)

  -- The first n records of the items' words are those of the first n items.
  records_told : (is : List Item) (rest : List ℕ) (n : ℕ) → n ≤ length is → records_in (flat (five_words rs) is ++ rest) n ≡ records_of rs (take n is)
  unfolding records_in records_of
  records_told is rest zero l = refl
  records_told is rest (suc n) l =
      ap₂ (λ (front : List Record) (r : Record). front ++ (r ∷ [])) (records_told is rest n (omega arith)) (record_told is rest n l)
      ∙ sym (records_append (take n is) (get_or is n no_item ∷ []))
      ∙ ap (records_of rs) (sym (take-suc is n no_item l))

  all_told : (is : List Item) (rest : List ℕ) → records_in (flat (five_words rs) is ++ rest) (length is) ≡ records_of rs is
  all_told is rest = records_told is rest (length is) (omega arith) ∙ ap (records_of rs) (take-length is)

-- ---- the report of records, from that of words
module _ {file : List ℕ} {s : State} {w : Words} {g : Grammar} (f : Formed file s w g) where
  abbrev is : List Item
  is = latest_items s (within w)

  abbrev words_told : List ℕ
  words_told = latest_words g s (within w)

  words_count : length words_told ≡ record_words * length is
  words_count = flat-length (five_words g.rules) record_words (λ i. refl) is

  -- A set has no more words than there is room for.
  few_words : length words_told ≤ set_words
  few_words =
      let items : length is ≡ s.items - start_of (within w) s.set =
      items-count (within w).items (start_of (within w) s.set) (s.items - start_of (within w) s.set) in
      omega (arith, words_count, items, f.well_formed.items_fit, items-room w)

  -- A fifth of the words is the number of the records.
  a_fifth : length (latest_records g s (within w)) ≡ length words_told / record_words
  a_fifth = omega (arith, words_count, records_count g.rules is)

  -- Too few places: nothing is to be filled.
  short-tells : (place : List Record) → length place < length words_told / record_words
      → Lists file s w latest_records place too_short (length words_told / record_words) place
  short-tells place l =
      subst (λ (n : ℕ). Lists file s w latest_records place too_short n place) a_fifth (short (formed f) (omega (arith, a_fifth)))

  -- Enough places: the records in front are those that the words tell.
  done_tells : (rest : List ℕ) (place : List Record) → length words_told / record_words ≤ length place
      → Lists file s w latest_records place 0 (length words_told / record_words) (filled (words_told ++ rest) (length words_told / record_words) place)
  done_tells rest place l =
      let n : ℕ = length words_told / record_words in
      let as_many : length is ≡ n = omega (arith, words_count) in
      let front : latest_records g s (within w) ≡ records_in (words_told ++ rest) n =
      sym (all_told g.rules is rest) ∙ ap (records_in (words_told ++ rest)) as_many in
      subst (λ (front : List Record). Lists file s w latest_records place 0 n (front ++ drop n place)) front
      (subst (λ (k : ℕ). Lists file s w latest_records place 0 k (latest_records g s (within w) ++ drop k place)) a_fifth
      (done (formed f) (omega (arith, a_fifth))))

-- A report that is not written has a number.
unwritten : (why : Unfilled) → filled_number (Err why) ≡ 0 → ⊥
unwritten (TooShort needed) z = absurd (omega (arith, z))
unwritten (Refused why) z = number-some why z

module _ {file : List ℕ} {s : State} {w : Words} (room : ℕ) where
  by_refused : {place : List ℕ} {number count : ℕ} {words : List ℕ} → Lists file s w latest_words place number count words
      → length place ≡ set_words → (number ≡ 0 → ⊥) → Prepared file s w room number 0 count words
  unfolding records_in
  by_refused (refused f) long n = record { enough = omega arith; within = omega arith; tells = λ records e. refused f }
  by_refused (short (formed f) l) long n = absurd (omega (arith, few_words f))
  by_refused (done g l) long n = absurd (n refl)

  by_short : {place : List ℕ} {number count : ℕ} {words : List ℕ} → Lists file s w latest_words place number count words
      → number ≡ 0 → room < count / record_words → Prepared file s w room too_short 0 (count / record_words) words
  unfolding records_in
  by_short (refused f) z l = absurd (call_some f z)
  by_short (short g m) z l = absurd (omega arith)
  by_short (done (formed f) m) z l = record {
    enough = omega arith;
    within = omega arith;
    tells = λ records e. short-tells f records (omega arith);
  }

  by_done : {place : List ℕ} {number count : ℕ} {words : List ℕ} → Lists file s w latest_words place number count words
      → number ≡ 0 → count / record_words ≤ room → Prepared file s w room 0 (count / record_words) (count / record_words) words
  by_done (refused f) z l = absurd (call_some f z)
  by_done (short g m) z l = absurd (omega arith)
  by_done {place} (done (formed f) m) z l = record {
    enough = omega (arith, words_count f, length-append (words_told f) (drop (length (words_told f)) place));
    within = l;
    tells = λ records e. done_tells f (drop (length (words_told f)) place) records (omega arith);
  }

  -- The words are refused: nothing is to be filled.
  pub refused_prepared : {place : List ℕ} {words : List ℕ} (why : Unfilled)
      → Lists file s w latest_words place (filled_number (Err why)) (filled_count (Err why)) words → length place ≡ set_words
      → Prepared file s w room (filled_number (Err why)) 0 (filled_count (Err why)) words
  refused_prepared why told long = by_refused told long (unwritten why)

  -- The words are told, and there are fewer places than records.
  pub short_prepared : {place : List ℕ} {words : List ℕ} {n : ℕ} → Lists file s w latest_words place 0 n words → room < n / record_words
      → Prepared file s w room too_short 0 (n / record_words) words
  short_prepared told few = by_short told refl few

  -- The words are told, and there are as many places.
  pub done_prepared : {place : List ℕ} {words : List ℕ} {n : ℕ} → Lists file s w latest_words place 0 n words → n / record_words ≤ room
      → Prepared file s w room 0 (n / record_words) (n / record_words) words
  done_prepared told enough = by_done told refl enough
