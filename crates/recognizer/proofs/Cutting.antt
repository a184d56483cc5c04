-- Laws of the words within the capacities, as the calls cut them off.
use mathlib.Core.Path.{◌≡◌, sym, ap, ◌∙◌}
use mathlib.Core.Bool.{Bool, true, false, ◌&&◌}
use mathlib.Core.List.{List}
use Prim.Native.Nat.{ℕ, zero, suc, ◌+◌, ◌-◌, ◌*◌, ◌≤◌, ◌<◌}
use native.Mathlib.Omega.{arith}
use lib.ListN.{length, get_or, take, drop, length-drop, take-append-drop}
use lib.Seq.{length-take-le, get_or-take, drop-append-le, take-append-le}
use lib.Dec.{eqb, ltb}
use borrow.Author.Tests.{le-ltb, ltb-true}
use Rattle.item.specs.Item.{item_words, rule_at, handle_at}
use Rattle.grammar.specs.Rules.{Rule}
use Rattle.parse.specs.declared.State.{State}
use Rattle.parse.specs.Words.{Words, item_room, set_room, within, start_of}
use Rattle.parse.specs.WellFormed.{WellFormed}
use Rattle.laws.proofs.Tests.{both_true}
use Rattle.parse.proofs.Capacities.{items-within, rows-within}
use Rattle.demands.specs.Steps.{last_wraps, latest_part}
use Rattle.recognizer.specs.inner.Cuts.{LatestThere, last_wraps_in, latest_part_in}

-- A part of what is cut off is that part of the whole.
pub cut-part : (l : List ℕ) (m n k : ℕ) → m ≤ length l → n + k ≤ m → take k (drop n l) ≡ take k (drop n (take m l))
cut-part l m n k long inside =
    ap (λ (r : List ℕ). take k (drop n r)) (sym (take-append-drop m l))
    ∙ ap (take k) (drop-append-le n (take m l) (drop m l) (omega (arith, length-take-le m l long)))
    ∙ take-append-le k (drop n (take m l)) (drop m l) (omega (arith, length-take-le m l long, length-drop n (take m l)))

-- Where the last item of the latest set has rule 0, there is an item.
pub wraps_item : (s : State) (items starts : List ℕ) → last_wraps_in s items starts ≡ true → 0 < s.items
wraps_item s items starts wraps =
    omega (arith, ltb-true (get_or starts s.set 0) s.items (both_true (ltb (get_or starts s.set 0) s.items) (eqb (rule_at items (s.items - 1)) 0) wraps).0)

-- No number is below 0.
none_below : (a : ℕ) → ltb a 0 ≡ false
none_below a = le-ltb a 0 (omega arith)

module _ (n : ℕ) (rs : List Rule) (s : State) (w : Words) where
  -- Words without room for a set hold no well-formed state.
  pub no_room : set_room w ≡ 0 → WellFormed n rs s (within w) → ⊥
  no_room none well = omega (arith, none, well.set_fits, rows-within w)

  module _ (well : WellFormed n rs s (within w)) where
    -- The latest set is one of the sets that there is room for.
    in_room : s.set < set_room w
    in_room = omega (arith, well.set_fits, rows-within w)

    -- So are its items.
    items_in_room : s.items ≤ item_room w
    items_in_room = omega (arith, well.items_fit, items-within w)

    -- Its start is the same word.
    same_start : start_of (within w) s.set ≡ get_or w.starts s.set 0
    same_start = get_or-take (set_room w + 1) w.starts s.set 0 (omega (arith, in_room))

    -- It is at most the number of items.
    start-low : get_or w.starts s.set 0 ≤ s.items
    start-low = omega (arith, well.never_falls s.set (omega arith), well.last_start, same_start)

    -- The latest set of a well-formed state is there in the uncut words.
    pub latest_there : LatestThere s w.items w.starts
    latest_there = record {
      set_there = omega (arith, in_room);
      upwards = start-low;
      items_there = omega (arith, items_in_room);
    }

    -- Its last item is the same in both.
    pub last-same : last_wraps_in s w.items w.starts ≡ last_wraps s (within w)
    last-same =
        ap (λ (a : ℕ). ltb a s.items && eqb (rule_at w.items (s.items - 1)) 0) (sym same_start) ∙ wraps s.items items_in_room
      where
        wraps : (held : ℕ) → held ≤ item_room w
            → (ltb (start_of (within w) s.set) held && eqb (rule_at w.items (held - 1)) 0) ≡ (ltb (start_of (within w) s.set) held && eqb (rule_at (within w).items (held - 1)) 0)
        wraps zero low =
            ap (λ (b : Bool). b && eqb (rule_at w.items (0 - 1)) 0) (none_below (start_of (within w) s.set))
            ∙ sym (ap (λ (b : Bool). b && eqb (rule_at (within w).items (0 - 1)) 0) (none_below (start_of (within w) s.set)))
        wraps (suc p) low =
            ap (λ (r : ℕ). ltb (start_of (within w) s.set) (suc p) && eqb r 0)
            (sym (get_or-take (item_words * item_room w) w.items (item_words * (suc p - 1) + 1) 0 (omega arith)))

    -- So is its handle, where there is an item.
    pub handle-same : 0 < s.items → handle_at w.items (s.items - 1) ≡ handle_at (within w).items (s.items - 1)
    handle-same some = sym (get_or-take (item_words * item_room w) w.items (item_words * (s.items - 1) + 2) 0 (omega (arith, items_in_room)))

    -- So is the part that holds it.
    pub part_same : latest_part_in s w.items w.starts ≡ latest_part s (within w)
    part_same =
        cut-part w.items (item_words * item_room w) (item_words * get_or w.starts s.set 0) (item_words * s.items - item_words * get_or w.starts s.set 0)
        (omega arith) (omega (arith, items_in_room, start-low))
        ∙ ap (λ (k : ℕ). take k (drop (item_words * get_or w.starts s.set 0) (within w).items)) together
        ∙ ap (λ (a : ℕ). take (item_words * (s.items - a)) (drop (item_words * a) (within w).items)) (sym same_start)
      where
        together : item_words * s.items - item_words * get_or w.starts s.set 0 ≡ item_words * (s.items - get_or w.starts s.set 0)
        together = omega arith
