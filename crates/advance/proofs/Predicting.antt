-- Step 6: the rows of the items' seconds are joined into the new set's row.
use Rattle.std.proofs.Common.{◌≡◌, refl, sym, ap, ap₂, ◌∙◌, List, [], ◌++◌, append_assoc, ℕ, ◌+◌, ◌-◌, ◌*◌, ◌≤◌, ◌<◌, arith, length, get_or, take, drop, replicate, length-append, length-take, length-drop, length-take-le, take_at, drop_at}
use Rattle.laws.specs.Bits.{union, row_of, with_row}
use Rattle.laws.proofs.Bits.{union_wide}
use Rattle.laws.proofs.Rows.{row_word, with_row_ext}
use Rattle.bits.specs.Width.{row_words}
use Rattle.item.specs.Item.{item_at, rule_at}
use Rattle.grammar.specs.Rules.{Rule}
use Rattle.grammar.specs.Accepted.{max_symbols}
use Rattle.grammar.specs.inner.Decoded.{second_in, rules_in}
use Rattle.parse.specs.WellFormed.{second_of}
use Rattle.advance.specs.NewItems.{items_from}
use Rattle.advance.specs.Advance.{predictions}
use Rattle.advance.specs.inner.Ready.{Predictable}
use Rattle.advance.proofs.Placed.{items_down, items_none}
use Rattle.advance.proofs.Dropping.{second-read}

module _ (width : ℕ) (words : List ℕ) (k : ℕ) (fits : width * k + width ≤ length words) where
  front : length (take (width * k) words) ≡ width * k
  front = length-take-le (width * k) words (omega arith)

  -- The row that stands there changes nothing.
  pub with_row_self : words ≡ with_row width words k (row_of width words k)
  with_row_self =
      with_row_ext width words k (row_of width words k) (simp (length-take, length-drop) (omega arith)) fits words refl
      (λ i l. sym (row_word width words k i l)) (λ j o. refl)

  module _ (row : List ℕ) (wide : length row ≡ width) where
    -- The row is the one put there.
    pub row_of-with_row : row_of width (with_row width words k row) k ≡ row
    row_of-with_row =
        ap (take width) (drop_at (take (width * k) words) (row ++ drop (width * k + width) words) (width * k) front)
        ∙ take_at row (drop (width * k + width) words) width wide

    -- The last row put there counts.
    pub with_row_again : (row' : List ℕ) → with_row width (with_row width words k row) k row' ≡ with_row width words k row'
    with_row_again row' =
        ap₂ (λ (a b : List ℕ). a ++ (row' ++ b)) (take_at (take (width * k) words) (row ++ drop (width * k + width) words) (width * k) front)
        (ap (drop (width * k + width)) (sym (append_assoc (take (width * k) words) row (drop (width * k + width) words)))
        ∙ drop_at (take (width * k) words ++ row) (drop (width * k + width) words) (width * k + width) (omega (arith, length-append (take (width * k) words) row, front)))

    pub with_row-length : length (with_row width words k row) ≡ length words
    with_row-length = simp (length-append, length-take, length-drop) (omega arith)

module _ (rules : List ℕ) (count : ℕ) (table : List (List ℕ)) (w rows₀ : List ℕ) (from to k : ℕ) where
  abbrev rs : List Rule
  rs = rules_in rules count

  abbrev union_from : ℕ → List ℕ
  union_from p = predictions rs table (items_from w p (to - p))

  -- The rows of the items from place `p` on are joined.
  pub record Predicting (p : ℕ) (rows : List ℕ) : Type 0 where
    pub above : from ≤ p
    pub below : p ≤ to
    pub are : rows ≡ with_row row_words rows₀ k (union_from p)
    pub wide : length (union_from p) ≡ row_words

  module _ (h : Predictable rules count table w rows₀ from to k) where
    pub predicting_start : Predicting to rows₀
    unfolding predictions
    predicting_start = record {
      above = h.held.runs;
      below = omega arith;
      are = with_row_self row_words rows₀ k h.row_there ∙ ap (with_row row_words rows₀ k) (h.row_clear ∙ sym none);
      wide = ap length none;
    }
      where
        none : union_from to ≡ replicate row_words 0
        none = ap (predictions rs table) (items_none w to (to - to) (omega arith))

    module _ (p : ℕ) (rows : List ℕ) (s : Predicting p rows) where
      module _ (l : from < p) (word symbol : ℕ) (e : word ≡ rule_at w (p - 1)) (g : symbol ≡ second_in rules word) where
        -- The second of the item before it has a row.
        pub predicting_symbol : symbol < max_symbols
        predicting_symbol = omega (arith, h.seconds (p - 1) (omega arith) (omega (arith, s.below)), g ∙ ap (second_in rules) e)

        pub predicting_wide : length (get_or table symbol []) ≡ row_words
        predicting_wide = (h.shape.row symbol predicting_symbol).width_is

        -- Its row is joined.
        pub predicting_next : {rows' : List ℕ} → rows' ≡ with_row row_words rows k (union (row_of row_words rows k) (get_or table symbol [])) → Predicting (p - 1) rows'
        unfolding predictions
        predicting_next q = record {
          above = omega arith;
          below = omega (arith, s.below);
          are =
              q
              ∙ ap (λ (x : List ℕ). with_row row_words x k (union (row_of row_words x k) (get_or table symbol []))) s.are
              ∙ ap (λ (x : List ℕ). with_row row_words (with_row row_words rows₀ k (union_from p)) k (union x (get_or table symbol []))) (row_of-with_row row_words rows₀ k h.row_there (union_from p) s.wide)
              ∙ with_row_again row_words rows₀ k h.row_there (union_from p) s.wide (union (union_from p) (get_or table symbol []))
              ∙ ap (with_row row_words rows₀ k) more;
          wide = sym (ap length more) ∙ union_wide row_words (union_from p) (get_or table symbol []) s.wide predicting_wide;
        }
          where
            second : second_of rs (item_at w (p - 1)) ≡ symbol
            second = second-read rules count w from to (p - 1) h.held (omega arith) (omega (arith, s.below)) word symbol e g

            more : union (union_from p) (get_or table symbol []) ≡ union_from (p - 1)
            more =
                ap (λ (x : ℕ). union (union_from p) (get_or table x [])) (sym second)
                ∙ sym (ap (predictions rs table) (items_down w p to (omega arith) s.below))
