-- A call on the words within the capacities, which are lent in parts, leaves the words past them.
use mathlib.Core.Path.{◌≡◌, sym, ap, ◌∙◌}
use mathlib.Core.List.{List}
use Prim.Native.Nat.{ℕ, ◌+◌, ◌*◌, ◌≤◌}
use native.Mathlib.Omega.{arith}
use lib.ListN.{length, take, drop}
use lib.Seq.{length_front}
use Rattle.bits.specs.Width.{row_words}
use Rattle.item.specs.Item.{item_words}
use Rattle.binary_heap.specs.Entry.{entry_words}
use Rattle.grammar.specs.Rules.{Rule}
use Rattle.parse.specs.declared.State.{State}
use Rattle.parse.specs.Words.{Words, item_room, set_room, queue_room, store_room, within, beyond, behind}
use Rattle.parse.specs.WellFormed.{WellFormed}
use Rattle.parse.proofs.Capacities.{SameSizes, sets-room}
use Rattle.recognizer.specs.declared.within.Ends.{Ends}
use Rattle.recognizer.specs.inner.Cuts.{Measures}
use Rattle.demands.specs.Steps.{Outcome}
use Rattle.demands.specs.Calls.{in_place}

-- A well-formed state has room for a set, so the starts within the capacities are there.
pub some-set : {n : ℕ} {rs : List Rule} {s : State} (w : Words) → WellFormed n rs s (within w) → 1 ≤ set_room w
some-set w well = omega (arith, well.set_fits, sets-room w)

pub starts_there : {n : ℕ} {rs : List Rule} {s : State} (w : Words) → WellFormed n rs s (within w) → set_room w + 1 ≤ length w.starts
starts_there w well = omega (arith, some-set w well)

-- As many words in the place of those within the capacities are as many in all.
pub place_sizes : (w v : Words) → SameSizes v (within w) → SameSizes (behind v (beyond w)) w
place_sizes w v same = record {
  items = length_front w.items v.items (item_words * item_room w) same.items;
  starts = length_front w.starts v.starts (set_room w + 1) same.starts;
  rows = length_front w.rows v.rows (row_words * set_room w) same.rows;
  queue = length_front w.queue v.queue (entry_words * queue_room w) same.queue;
  store = length_front w.store v.store (store_room w) same.store;
}

-- The first words, as many as `e` tells, and what came of them in their place.
abbrev pub first : Words → Ends → Words
first w e =
    record {
      items = take e.items w.items;
      starts = take e.starts w.starts;
      rows = take e.rows w.rows;
      queue = take e.queue w.queue;
      store = take e.store w.store;
    }

abbrev pub put_back : Words → Ends → Words → Words
put_back w e v =
    behind v
    (record {
      items = drop e.items w.items;
      starts = drop e.starts w.starts;
      rows = drop e.rows w.rows;
      queue = drop e.queue w.queue;
      store = drop e.store w.store;
    })

abbrev pub replaced : Words → Ends → Outcome → Outcome
replaced w e o = record { number = o.number; state = o.state; words = put_back w e o.words }

module _ (w : Words) (e : Ends) (m : Measures w e) where
  -- The ends within the capacities.
  abbrev own : Ends
  own =
      record {
        items = item_words * item_room w;
        starts = set_room w + 1;
        rows = row_words * set_room w;
        queue = entry_words * queue_room w;
        store = store_room w;
      }

  measured : e ≡ own
  measured = λ k. record { items = m.items k; starts = m.starts k; rows = m.rows k; queue = m.queue k; store = m.store k }

  -- As many as there is room for are the words within the capacities, ..
  pub first-within : within w ≡ first w e
  first-within = ap (first w) (sym measured)

  -- .. and what comes of those is put in their place.
  pub replaced_place : (f : Words → Outcome) (o : Outcome) → o ≡ f (first w e) → replaced w e o ≡ in_place w (f (within w))
  replaced_place f o came = ap (replaced w e) came ∙ ap (λ (x : Ends). replaced w x (f (first w x))) measured

  -- The same of words alone.
  pub put_back_place : (f : Words → Words) (v : Words) → v ≡ f (first w e) → put_back w e v ≡ behind (f (within w)) (beyond w)
  put_back_place f v came = ap (put_back w e) came ∙ ap (λ (x : Ends). put_back w x (f (first w x))) measured
