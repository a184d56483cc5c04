-- `bits::join_at` meets its contract. The invariant, `Rewritten`: the words passed are joined, and every other word is as it was.
use Rattle.bits.specs.Width.{row_words}
use Rattle.bits.proofs.Rewriting.{Rewritten, joined_word}
use Rattle.bits.proofs.join_at.Given as goal

abbrev pub invariant-loop-i : goal.invariant-loop-i
invariant-loop-i l = Rewritten row_words l.initial.rows l.k (joined_word row_words l.initial.rows l.k l.row) l.i l.rows
