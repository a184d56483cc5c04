-- Laws of a start.
use mathlib.Core.Path.{◌≡◌, sym, subst}
use mathlib.Core.List.{List, []}
use Prim.Native.Nat.{ℕ, ◌<◌}
use native.Mathlib.Omega.{arith}
use lib.ListN.{length, get_or}
use Rattle.bits.specs.Width.{row_words}
use Rattle.grammar.specs.Rules.{Grammar, wrapper}
use Rattle.grammar.specs.Accepted.{Accepted}
use Rattle.grammar.specs.Prediction.{Predicts}
use Rattle.parse.specs.declared.State.{State}
use Rattle.parse.specs.Words.{Words, set_room}
use Rattle.demands.specs.Calls.{Sound, Starts}
use Rattle.recognizer.specs.inner.Cuts.{begun_words}

-- W's row has the width of a row.
pub wrapper-row : (g : Grammar) (table : List (List ℕ)) → Accepted g → Predicts g row_words table → length (get_or table (wrapper g) []) ≡ row_words
wrapper-row g table accepted predicts = (predicts.row (wrapper g) (omega (arith, accepted.room, accepted.few_symbols))).width_is

-- With W's row that is a start.
pub starts_done : (file : List ℕ) (s : State) (w w' : Words) (g : Grammar) (table : List (List ℕ)) → Sound file g table → 0 < set_room w
    → w' ≡ begun_words (get_or table (wrapper g) []) w → Starts file s w (record { number = 0; state = record { set = 0; items = 0; used = 0 }; words = w' })
starts_done file s w w' g table sound some is =
    subst (λ (v : Words). Starts file s w (record { number = 0; state = record { set = 0; items = 0; used = 0 }; words = v })) (sym is) (Starts.done sound some)
