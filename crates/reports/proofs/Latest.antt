-- The latest set of a well-formed state, in the words that are lent and in those within the capacities.
use mathlib.Core.Path.{◌≡◌, refl, sym, ap, ap₂, ◌∙◌}
use mathlib.Core.List.{List, [], ◌∷◌, ◌++◌}
use Prim.Native.Nat.{ℕ, zero, suc, ◌+◌, ◌-◌, ◌*◌, ◌≤◌, ◌<◌}
use native.Mathlib.Omega.{arith}
use lib.ListN.{length, get_or, take, drop, length-append, length-drop}
use lib.Seq.{get_or-take}
use Rattle.laws.specs.Bits.{row_of}
use Rattle.laws.specs.Records.{flat}
use Rattle.laws.proofs.Records.{flat-length, flat_append}
use Rattle.bits.specs.Width.{row_words}
use Rattle.item.specs.Item.{Item, HasPlace, item_words, item_at, origin_at, rule_at}
use Rattle.grammar.specs.Rules.{Rule, Grammar, no_rule}
use Rattle.grammar.specs.Accepted.{max_rules}
use Rattle.grammar.specs.inner.Decoded.{left_in, first_in, second_in, rules_in, rules_of}
use Rattle.grammar.proofs.Decoding.{in_count, in_left, in_first, in_second}
use Rattle.parse.specs.declared.State.{State}
use Rattle.parse.specs.Words.{Words, item_room, set_room, within, start_of}
use Rattle.parse.specs.WellFormed.{WellFormed}
use Rattle.parse.proofs.Capacities.{items-room, sets-room}
use Rattle.advance.specs.NewItems.{items_from}
use Rattle.advance.proofs.Placed.{items-count, item_eq}
use Rattle.advance.proofs.Inserting.{items_more}
use Rattle.demands.specs.Calls.{Formed}
use Rattle.grammar.specs.declared.Grammar as held
use Rattle.recognizer.specs.inner.Opening.{ReadyFor}
use Rattle.recognizer.proofs.Cutting.{cut-part}
use Rattle.reports.specs.Lists.{latest_items, five_words}
use Rattle.reports.specs.inner.Puts.{written, five, RowThere, Listable}
use Rattle.reports.proofs.Fronts.{front-written}

-- Items are the same in the first words, where these reach behind them.
items-cut : (words : List ℕ) (m from k : ℕ) → item_words * (from + k) ≤ m → items_from (take m words) from k ≡ items_from words from k
unfolding items_from
items-cut words m from zero l = refl
items-cut words m from (suc k) l =
    ap₂ (λ (i : Item) (is : List Item). i ∷ is)
    (item_eq (take m words) words from from (get_or-take m words (item_words * from) 0 (omega arith)) (get_or-take m words (item_words * from + 1) 0 (omega arith))
    (get_or-take m words (item_words * from + 2) 0 (omega arith)))
    (items-cut words m (from + 1) k (omega arith))

module _ (n : ℕ) (rs : List Rule) (s : State) (w : Words) (well : WellFormed n rs s (within w)) where
  -- The latest set is one of those that there is room for, ..
  pub in_room : s.set < set_room w
  in_room = omega (arith, well.set_fits, sets-room w)

  items_in_room : s.items ≤ item_room w
  items_in_room = omega (arith, well.items_fit, items-room w)

  -- .. so that its row is there, ..
  pub row_there : row_words * s.set + row_words ≤ length w.rows
  row_there = omega (arith, in_room)

  -- .. and is the same row.
  pub row_same : row_of row_words w.rows s.set ≡ row_of row_words (within w).rows s.set
  row_same = cut-part w.rows (row_words * set_room w) (row_words * s.set) row_words (omega arith) (omega (arith, in_room))

  -- So are its start ..
  pub start-there : s.set < length w.starts
  start-there = omega (arith, in_room)

  pub start-same : get_or w.starts s.set 0 ≡ start_of (within w) s.set
  start-same = sym (get_or-take (set_room w + 1) w.starts s.set 0 (omega (arith, in_room)))

  start-low : get_or w.starts s.set 0 ≤ s.items
  start-low = omega (arith, start-same, well.never_falls s.set (omega arith), well.last_start)

  -- .. and its items.
  pub items-same : (from : ℕ) → from ≡ get_or w.starts s.set 0 → items_from w.items from (s.items - from) ≡ latest_items s (within w)
  items-same from is =
      sym (items-cut w.items (item_words * item_room w) from (s.items - from) (omega (arith, items_in_room, start-low)))
      ∙ ap (λ (a : ℕ). items_from (within w).items a (s.items - a)) (is ∙ start-same)

  -- They can be listed.
  pub latest_listable : (count from : ℕ) → length rs ≡ count → count ≤ max_rules → from ≡ get_or w.starts s.set 0 → Listable count w.items from s.items
  latest_listable count from long few is = record {
    stored = record {
      few = few;
      runs = omega (arith, start-low);
      there = omega (arith, items_in_room);
      rules = λ p a b.
          let rule : rule_at (within w).items p < length rs = (well.fit s.set p (omega arith) (record { from = omega (arith, start-same); up_to = omega (arith, well.last_start) })).is_rule in
          let same : rule_at (within w).items p ≡ rule_at w.items p = get_or-take (item_words * item_room w) w.items (item_words * p + 1) 0 (omega (arith, items_in_room)) in
          omega (arith, rule, same);
    };
    few = omega (arith, items_in_room);
  }

-- So a report on a parse that a call may go on with can list its row ..
pub row_listable : {file : List ℕ} {g : Grammar} (s : State) (w : Words) → Formed file s w g → RowThere w.rows s.set g.tokens
row_listable {g = g} s w formed = record {
  there = row_there g.symbols g.rules s w formed.well_formed;
  narrow = omega (arith, formed.checked.accepted.room, formed.checked.accepted.few_symbols);
}

-- .. and its latest items.
pub rules_listable : {file : List ℕ} {g : held.Grammar} (s : State) (w : Words) → ReadyFor file s w g → {from : ℕ} → from ≡ get_or w.starts s.set 0 → Listable g.rules.count w.items from s.items
rules_listable {g = g} s w ready at =
    latest_listable g.symbols (rules_of g.rules) s w ready.well_formed g.rules.count _ (in_count g.rules.words 0 0 g.rules.count) ready.opened.few at

-- The five words of an item.
pub five_are : (words : List ℕ) (count : ℕ) (items : List ℕ) (p : ℕ) → rule_at items p < count → {r rule a b c origin : ℕ} → rule ≡ rule_at items p → r ≡ rule
    → a ≡ left_in words r → b ≡ first_in words r → c ≡ second_in words r → origin ≡ origin_at items p
    → ◌≡◌ {A = List ℕ} (rule ∷ a ∷ b ∷ c ∷ origin ∷ []) (five_words (rules_in words count) (item_at items p))
five_are words count items p there {r} {rule} {a} {b} {c} {origin} is wide ls fs ss from = λ k. is k ∷ left k ∷ first k ∷ second k ∷ from k ∷ []
  where
    rule_is : r ≡ rule_at items p
    rule_is = wide ∙ is

    left : a ≡ (get_or (rules_in words count) (rule_at items p) no_rule).left
    left = ls ∙ ap (left_in words) rule_is ∙ sym (in_left words 0 0 count (rule_at items p) there)

    first : b ≡ (get_or (rules_in words count) (rule_at items p) no_rule).first
    first = fs ∙ ap (first_in words) rule_is ∙ sym (in_first words 0 0 count (rule_at items p) there)

    second : c ≡ (get_or (rules_in words count) (rule_at items p) no_rule).second
    second = ss ∙ ap (second_in words) rule_is ∙ sym (in_second words 0 0 count (rule_at items p) there)

-- The words of items, as many as five times the items.
pub words_long : (rs : List Rule) (words : List ℕ) (from k : ℕ) → length (flat (five_words rs) (items_from words from k)) ≡ five * k
words_long rs words from k = flat-length (five_words rs) five (λ i. refl) (items_from words from k) ∙ ap (λ (m : ℕ). five * m) (items-count words from k)

-- They stand in front of a place, counted as words or as their length.
pub words_fill : (rs : List Rule) (words : List ℕ) (from k : ℕ) (place : List ℕ) {out : List ℕ}
    → out ≡ flat (five_words rs) (items_from words from k) ++ drop (five * k) place
    → out ≡ flat (five_words rs) (items_from words from k) ++ drop (length (flat (five_words rs) (items_from words from k))) place
words_fill rs words from k place is = is ∙ ap (λ (n : ℕ). flat (five_words rs) (items_from words from k) ++ drop n place) (sym (words_long rs words from k))

-- A place of items that can be listed.
pub place-there : (count : ℕ) (items : List ℕ) (from to : ℕ) → Listable count items from to → (p : ℕ) → p < to → HasPlace items p
place-there count items from to h p l = omega (arith, h.stored.there)

-- A loop that writes items: those before `p` stand in front.
pub record Writing (rs : List Rule) (items : List ℕ) (from to : ℕ) (place : List ℕ) (p : ℕ) (out : List ℕ) : Type 0 where
  pub above : from ≤ p
  pub up_to : p ≤ to
  pub are : out ≡ flat (five_words rs) (items_from items from (p - from)) ++ drop (five * (p - from)) place

module _ (rs : List Rule) (items : List ℕ) (from to : ℕ) (place : List ℕ) where
  at_first : flat (five_words rs) (items_from items from 0) ++ drop (five * 0) place ≡ place
  unfolding flat items_from
  at_first = refl

  pub writing_starts : from ≤ to → Writing rs items from to place from place
  writing_starts l =
      let none : from - from ≡ 0 = omega arith in
      record {
        above = omega arith;
        up_to = l;
        are = sym (ap (λ (k : ℕ). flat (five_words rs) (items_from items from k) ++ drop (five * k) place) none ∙ at_first);
      }

  one_more : (p : ℕ) → from ≤ p
      → flat (five_words rs) (items_from items from (p - from)) ++ five_words rs (item_at items p) ≡ flat (five_words rs) (items_from items from (p + 1 - from))
  unfolding flat
  one_more p l =
      let next : suc (p - from) ≡ p + 1 - from = omega arith in
      let here : from + (p - from) ≡ p = omega arith in
      ap (λ (q : ℕ). flat (five_words rs) (items_from items from (p - from)) ++ flat (five_words rs) (item_at items q ∷ [])) (sym here)
      ∙ sym (flat_append (five_words rs) five (λ i. refl) (items_from items from (p - from)) (item_at items (from + (p - from)) ∷ []))
      ∙ ap (flat (five_words rs)) (sym (items_more items from (p - from)))
      ∙ ap (λ (m : ℕ). flat (five_words rs) (items_from items from m)) next

  module _ (p : ℕ) (out : List ℕ) where
    pub writing_long : Writing rs items from to place p out → five * (to - from) ≤ length place → length out ≡ length place
    writing_long h fits =
        let k : ℕ = p - from in
        ap length h.are
        ∙ omega (arith, length-append (flat (five_words rs) (items_from items from k)) (drop (five * k) place), words_long rs items from k, length-drop (five * k) place, h.above, h.up_to)

    pub writing_next : (out' : List ℕ) → p < to → Writing rs items from to place p out
        → out' ≡ written out (five * (p - from)) (five_words rs (item_at items p)) → Writing rs items from to place (p + 1) out'
    writing_next out' l h is =
        let before : List ℕ = flat (five_words rs) (items_from items from (p - from)) in
        let long : length before ≡ five * (p - from) = words_long rs items from (p - from) in
        record {
          above = omega (arith, h.above);
          up_to = omega arith;
          are =
              is
              ∙ ap (λ (o : List ℕ). written o (five * (p - from)) (five_words rs (item_at items p))) (h.are ∙ ap (λ (n : ℕ). before ++ drop n place) (sym long))
              ∙ ap (λ (n : ℕ). written (before ++ drop (length before) place) n (five_words rs (item_at items p))) (sym long)
              ∙ front-written place before (five_words rs (item_at items p))
              ∙ ap (λ (o : List ℕ). o ++ drop (length o) place) (one_more p h.above)
              ∙ ap (λ (n : ℕ). flat (five_words rs) (items_from items from (p + 1 - from)) ++ drop n place) (words_long rs items from (p + 1 - from));
        }

    pub writing_ends : Writing rs items from to place p out → to ≤ p
        → out ≡ flat (five_words rs) (items_from items from (to - from)) ++ drop (five * (to - from)) place
    writing_ends h l =
        let last : p ≡ to = omega (arith, h.up_to) in
        h.are ∙ ap (λ (q : ℕ). flat (five_words rs) (items_from items from (q - from)) ++ drop (five * (q - from)) place) last
