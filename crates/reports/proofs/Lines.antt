-- The lines of items, one behind the other.
use mathlib.Core.Path.{◌≡◌, refl, sym, ap, subst, ◌∙◌}
use mathlib.Core.List.{List, [], ◌++◌, append_assoc, append-nil}
use Prim.Native.Nat.{ℕ, suc, ◌+◌, ◌-◌, ◌*◌, ◌≤◌, ◌<◌}
use native.Mathlib.Omega.{arith}
use lib.ListN.{length, length-append}
use Rattle.laws.specs.Records.{flat}
use Rattle.item.specs.Item.{origin_at, rule_at}
use Rattle.grammar.specs.inner.Decoded.{left_in, first_in, second_in, rules_in}
use Rattle.grammar.proofs.Decoding.{in_left, in_first, in_second}
use Rattle.advance.specs.NewItems.{items_from}
use Rattle.reports.specs.declared.text.Shown.{Shown}
use Rattle.reports.specs.Decimal.{decimal}
use Rattle.reports.specs.Lists.{becomes, dot, from as origin-sign, newline, line}
use Rattle.reports.specs.inner.Puts.{Listable}
use Rattle.reports.specs.inner.Lines.{sign_bytes, most_line, PutAt, Listed, Shows, line_at, lines_of}
use Rattle.reports.proofs.Putting.{put-length, put_none, put_then}

-- The numbers that are read from the words are those that the line shows.
pub shows : (rules : List ℕ) {items : List ℕ} {count p : ℕ} → Listed count items p → {word rule start : ℕ} → word ≡ rule_at items p → rule ≡ word
    → {shown : Shown} → shown.left ≡ left_in rules rule → shown.first ≡ first_in rules rule → shown.second ≡ second_in rules rule
    → start ≡ origin_at items p → shown.origin ≡ start → Shows rules count items p shown
shows rules {items} {count} {p} listed word-is rule_is left_is first_is second_is start_is origin-is = record {
  left = left_is ∙ ap (left_in rules) (rule_is ∙ word-is) ∙ sym (in_left rules 0 0 count (rule_at items p) listed.ruled);
  first = first_is ∙ ap (first_in rules) (rule_is ∙ word-is) ∙ sym (in_first rules 0 0 count (rule_at items p) listed.ruled);
  second = second_is ∙ ap (second_in rules) (rule_is ∙ word-is) ∙ sym (in_second rules 0 0 count (rule_at items p) listed.ruled);
  origin = origin-is ∙ start_is;
}

module _ {rules items : List ℕ} {count p : ℕ} {shown : Shown} (h : Shows rules count items p shown) where
  -- A line is four numbers, each with what stands behind it.
  line_parts : (decimal shown.left ++ becomes) ++ ((decimal shown.first ++ dot) ++ ((decimal shown.second ++ origin-sign) ++ (decimal shown.origin ++ newline)))
      ≡ line_at rules count items p
  unfolding line
  line_parts = simp append_assoc (cc)

  -- How long it is.
  pub line-long : length (line_at rules count items p)
      ≡ length (decimal shown.left) + length (decimal shown.first) + length (decimal shown.second) + length (decimal shown.origin) + sign_bytes
  line-long = sym (ap length line_parts) ∙ simp length-append (omega arith)

  -- Four numbers put, each with what stands behind it, are the line put.
  pub line-put : {place one two three whole : List ℕ} {at a b c end : ℕ}
      → PutAt place at (decimal shown.left ++ becomes) a one → PutAt one a (decimal shown.first ++ dot) b two
      → PutAt two b (decimal shown.second ++ origin-sign) c three → PutAt three c (decimal shown.origin ++ newline) end whole
      → PutAt place at (line_at rules count items p) end whole
  line-put {place} {whole = whole} {at} {end = end} x y z w =
      subst (λ (l : List ℕ). PutAt place at l end whole) line_parts (put_then x (put_then y (put_then z w)))

-- The items of a stretch are each listed.
pub listed_at : {count from to : ℕ} {items : List ℕ} → Listable count items from to → (p : ℕ) → from ≤ p → p < to → Listed count items p
listed_at h p a b = record { few = h.stored.few; there = omega (arith, h.stored.there); ruled = h.stored.rules p a b }

module _ (rules : List ℕ) (count : ℕ) (items : List ℕ) where
  -- The first line, and the others.
  lines_next : (p to : ℕ) → p < to → lines_of rules count items p to ≡ line_at rules count items p ++ lines_of rules count items (p + 1) to
  unfolding flat items_from
  lines_next p to l =
      let more : to - p ≡ suc (to - (p + 1)) = omega arith in
      ap (λ (n : ℕ). flat (line (rules_in rules count)) (items_from items p n)) more

  -- No lines.
  lines_none : (p to : ℕ) → to ≤ p → lines_of rules count items p to ≡ []
  unfolding flat items_from
  lines_none p to l =
      let none : to - p ≡ 0 = omega arith in
      ap (λ (n : ℕ). flat (line (rules_in rules count)) (items_from items p n)) none

  module _ (from to : ℕ) where
    -- The lines of the items before place `p` are done.
    pub record Done (p : ℕ) (done : List ℕ) : Type 0 where
      pub above : from ≤ p
      pub below : p ≤ to
      pub rest : done ++ lines_of rules count items p to ≡ lines_of rules count items from to

    -- At the first item none is done.
    done_none : from ≤ to → Done from []
    done_none l = record { above = omega arith; below = l; rest = refl }

    -- One more, behind the others.
    done_more : (p : ℕ) (done : List ℕ) → Done p done → p < to → Done (p + 1) (done ++ line_at rules count items p)
    done_more p done d l = record {
      above = omega (arith, d.above);
      below = omega arith;
      rest = append_assoc done (line_at rules count items p) (lines_of rules count items (p + 1) to)
          ∙ ap (λ (x : List ℕ). done ++ x) (sym (lines_next p to l)) ∙ d.rest;
    }

    -- At the end all are done.
    done_all : (p : ℕ) (done : List ℕ) → Done p done → to ≤ p → done ≡ lines_of rules count items from to
    done_all p done d l = sym (append-nil done) ∙ ap (λ (x : List ℕ). done ++ x) (sym (lines_none p to l)) ∙ d.rest

    -- They are `total` bytes long.
    pub record Counting (p total : ℕ) : Type 0 where
      pub text : List ℕ
      pub done : Done p text
      pub counts : total ≡ length text
      pub few : total ≤ most_line * (p - from)

    -- At the first item none is counted.
    pub counting_start : from ≤ to → Counting from 0
    counting_start l = record { text = []; done = done_none l; counts = refl; few = omega arith }

    -- A line more is as many bytes more.
    pub counting_next : (p total more : ℕ) → Counting p total → p < to → more ≡ length (line_at rules count items p) → more ≤ most_line → Counting (p + 1) (total + more)
    counting_next p total more c l e few = record {
      text = c.text ++ line_at rules count items p;
      done = done_more p c.text c.done l;
      counts = omega (arith, c.counts, length-append c.text (line_at rules count items p));
      few = omega (arith, c.few, c.done.above);
    }

    -- At the end all lines are counted.
    pub counting_ends : (p total : ℕ) → Counting p total → to ≤ p → total ≡ length (lines_of rules count items from to)
    counting_ends p total c l = c.counts ∙ ap length (done_all p c.text c.done l)

    -- They are put into the place from its start on, up to `at`.
    pub record Putting (place : List ℕ) (p at : ℕ) (left : List ℕ) : Type 0 where
      pub text : List ℕ
      pub done : Done p text
      pub put : PutAt place 0 text at left

    module _ (place : List ℕ) where
      -- At the first item none is put.
      pub putting_start : from ≤ to → Putting place from 0 place
      putting_start l = record { text = []; done = done_none l; put = put_none place }

      -- There is room for the next line.
      pub putting_room : (p at : ℕ) (left : List ℕ) → Putting place p at left → p < to → length (lines_of rules count items from to) ≤ length place
          → at + length (line_at rules count items p) ≤ length left
      putting_room p at left c l fits =
          omega (
            arith,
            c.put.ends,
            put-length c.put,
            ap length c.done.rest,
            length-append c.text (lines_of rules count items p to),
            ap length (lines_next p to l),
            length-append (line_at rules count items p) (lines_of rules count items (p + 1) to),
          )

      -- A line is put behind the others.
      pub putting_next : (p at : ℕ) (left : List ℕ) → Putting place p at left → p < to → (end : ℕ) (left' : List ℕ)
          → PutAt left at (line_at rules count items p) end left' → Putting place (p + 1) end left'
      putting_next p at left c l end left' q = record { text = c.text ++ line_at rules count items p; done = done_more p c.text c.done l; put = put_then c.put q }

      -- At the end all lines are put.
      pub putting_ends : (p at : ℕ) (left : List ℕ) → Putting place p at left → to ≤ p → PutAt place 0 (lines_of rules count items from to) at left
      putting_ends p at left c l = subst (λ (x : List ℕ). PutAt place 0 x at left) (done_all p c.text c.done l) c.put
