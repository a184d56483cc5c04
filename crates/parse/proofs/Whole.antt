-- Well formed, and its parts.
use mathlib.Core.List.{List}
use Prim.Native.Nat.{ℕ, ◌/◌, ◌≤◌, ◌<◌}
use native.Mathlib.Omega.{arith}
use lib.ListN.{length}
use Rattle.item.specs.Item.{item_words}
use Rattle.bits.specs.Width.{row_words}
use Rattle.grammar.specs.Rules.{Rule}
use Rattle.parse.specs.declared.State.{State}
use Rattle.parse.specs.Words.{Words}
use Rattle.parse.specs.WellFormed.{WellFormed, used_units}
use Rattle.parse.specs.inner.Parts.{StartsFit, SetsFit, RowsBelow, SpareClear, StoreFits}

module _ (n : ℕ) (rs : List Rule) (s : State) (v : Words) where
  -- The parts make the whole.
  pub whole : s.set < length v.rows / row_words → s.items ≤ length v.items / item_words → s.used ≤ length v.store → StartsFit v.starts s
      → SetsFit rs v.items v.starts s.set → RowsBelow n v.rows s.set → SpareClear s v
      → StoreFits v.items (used_units s v) s.items → WellFormed n rs s v
  whole a b c st se ro sp un = record {
    set_fits = a;
    items_fit = b;
    units_fit = c;
    first_start = st.first_start;
    second_start = st.second_start;
    never_falls = st.never_falls.each;
    last_start = st.last_start;
    fit = λ k p l i. (se.each k l).fit.each p i.from i.up_to;
    rise = λ k p l i j. (se.each k l).rise.each p i.from j.up_to;
    symbols = ro.each;
    spare_items = sp.items.each;
    spare_starts = sp.starts.each;
    spare_rows = sp.rows.each;
    spare_queue = λ i. sp.queue.each i (omega arith);
    spare_units = sp.store.each;
    reads = un.reads;
    handles = un.handles;
  }

  -- The whole has each part.
  module _ (w : WellFormed n rs s v) where
    pub its_starts : StartsFit v.starts s
    its_starts = record {
      first_start = w.first_start;
      second_start = w.second_start;
      never_falls = record { each = w.never_falls };
      last_start = w.last_start;
    }

    pub its_sets : SetsFit rs v.items v.starts s.set
    its_sets = record {
      each = λ k l. record {
        fit = record { each = λ p a b. w.fit k p l (record { from = a; up_to = b }) };
        rise = record { each = λ p a b. w.rise k p l (record { from = a; up_to = omega arith }) (record { from = omega arith; up_to = b }) };
      };
    }

    pub its_rows : RowsBelow n v.rows s.set
    its_rows = record { each = w.symbols }

    pub its_spare : SpareClear s v
    its_spare = record {
      items = record { each = w.spare_items };
      starts = record { each = w.spare_starts };
      rows = record { each = w.spare_rows };
      queue = record { each = λ i l. w.spare_queue i };
      store = record { each = w.spare_units };
    }

    pub its_store : StoreFits v.items (used_units s v) s.items
    its_store = record { reads = w.reads; handles = w.handles }
